-- A run as it is watched, and what is counted and noted of it.
use Rattle.std.proofs.Common.{◌≡◌, List, [], ◌∷◌, ◌++◌, map, fold, refl, sym, ◌∙◌, append_assoc, append-nil}
use Rattle.run_view.specs.Saids.{Said}
use Rattle.run_picture.specs.Fold.{step}
use Rattle.run_view.specs.Events.{counted}
use Rattle.run_view.specs.Notes.{note_at, notes_from}
use Rattle.run_view.specs.Watched.{Watched, saw}

-- WHAT IS KNOWN of a run that is watched is what the fold makes of its moments
pub known_all : (w : Watched) (run : List Said) → (fold saw w run).known ≡ fold step w.known (map (λ said. said.moment) run)
known_all w [] = refl
known_all w (said ∷ run) = known_all (saw w said) run

-- WHAT IS NOTED are the lines that name a drive, each in the column of its event
pub notes_all : (w : Watched) (run : List Said) → (fold saw w run).notes ≡ w.notes ++ notes_from w.window w.counter.before w.counter.event run
notes_all w [] = sym (append-nil w.notes)
notes_all w (said ∷ run) =
    notes_all (saw w said) run
    ∙ append_assoc w.notes (note_at w.window (counted w.counter said.moment).event said)
    (notes_from w.window (counted w.counter said.moment).before (counted w.counter said.moment).event run)
