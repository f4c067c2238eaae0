-- Noise that is live flips places of a sector.
use Rattle.std.proofs.Common.{◌≡◌, ℕ, Bool, true, false, List, [], ◌∷◌, ◌++◌, filter, Option, Some, None, refl, arith, rules}
use Rattle.std.specs.Prelude.{if◌then◌else◌}
use Rattle.fire_code.specs.Burst.{IsPlaces}
use Rattle.hardware_table.specs.Moves.{was_read}
use Rattle.hardware_table.specs.Noise.{LiveNoise, Book, is_at, is_ended_by, with_noise, oldest, flips, strikes, after_strike, book_struck}
use Rattle.trace_replay.specs.Script as script
use Rattle.trace_replay.specs.Script.{Input}
use Rattle.driver_machine.specs.World.{World, slot_in_hand, unit_at, Setup, new_world}
use Rattle.driver_machine.specs.Acts as deed
use Rattle.driver_machine.specs.Acts.{Act, Of, Change, Deed, Scene, effect, scene_of, after, after_all}
use Rattle.driver_machine.specs.Guards.{Allowed}
use Rattle.driver_laws.specs.shown.Noises.{AllFlip}
use Rattle.driver_machine.specs.Runs.{Run}
use Rattle.hardware_table.specs.Drive.{DriveState}
use Rattle.request_slots.specs.Move.{struck_at}
use Rattle.trace_replay.specs.Bytes.{ArePlaces}

flip_append : (xs ys : List LiveNoise) → AllFlip xs → AllFlip ys → AllFlip (xs ++ ys)
flip_append [] ys one other = other
flip_append (x ∷ xs) ys one other = (one.0, flip_append xs ys one.1 other)

flip_where : (b : Bool) (x : LiveNoise) (xs : List LiveNoise) → IsPlaces x.places → AllFlip xs → AllFlip (if b then x ∷ xs else xs)
flip_where true x xs one rest = (one, rest)
flip_where false x xs one rest = rest

flip_filter : (test : LiveNoise → Bool) (xs : List LiveNoise) → AllFlip xs → AllFlip (filter test xs)
flip_filter test [] all = tt
flip_filter test (x ∷ xs) all = flip_where (test x) x (filter test xs) all.0 (flip_filter test xs all.1)

either : (b : Bool) (xs ys : List LiveNoise) → AllFlip xs → AllFlip ys → AllFlip (if b then xs else ys)
either true xs ys one other = one
either false xs ys one other = other

-- noise that is armed, and noise that strikes
flip_with : (noise : LiveNoise) (live : List LiveNoise) → IsPlaces noise.places → AllFlip live → AllFlip (with_noise noise live)
flip_with noise live one all = search (rules, either, flip_append, filter, flip_filter)

flip_struck : (unit block word : ℕ) (live : List LiveNoise) → AllFlip live → AllFlip (after_strike unit block word live)
flip_struck unit block word [] all = tt
flip_struck unit block word (noise ∷ rest) all = search (rules, flip_struck unit block word rest all.1)

-- EACH ACT
book_by : (read : Bool) (unit block word : ℕ) (book : Book) → AllFlip book.live → AllFlip (if read then book_struck unit block word book else book).live
book_by true unit block word book all = flip_struck unit block word book.live all
book_by false unit block word book all = all

deed_flips : (line u p : ℕ) (d : Deed) (s : Scene) → AllFlip s.book.live → AllFlip (effect line u p d s).book.live
deed_flips line u p (deed.Sector block t) s all = book_by (was_read s.unit.drive t.verdict) u block s.unit.drive.offset s.book all
deed_flips line u p other s all = all

change_flips : (w : World) (input : Input) → Allowed w (Change input) → AllFlip w.book.live → AllFlip (after w (Change input)).book.live
change_flips w (script.Noise noise) may all = flip_with noise w.book.live may.2.set all
change_flips w other may all = all

act_flips : (w : World) (act : Act) → Allowed w act → AllFlip w.book.live → AllFlip (after w act).book.live
act_flips w (Of line u id d) allowed all = deed_flips line u (slot_in_hand (unit_at w u)) d (scene_of w u) all
act_flips w (Change input) allowed all = change_flips w input allowed all
act_flips w other allowed all = all

pub acts_keep_noise : (w : World) (acts : List Act) → Run w acts → AllFlip w.book.live → AllFlip (after_all w acts).book.live
acts_keep_noise w [] run all = all
acts_keep_noise w (act ∷ acts) run all = acts_keep_noise (after w act) acts run.1 (act_flips w act run.0 all)

-- It is so at the start, and acts that run keep it.
pub none_at_start : (setups : List Setup) (outstanding noises : ℕ) → AllFlip (new_world setups outstanding noises).book.live
none_at_start setups outstanding noises = tt

-- WHAT IS STRUCK
none_some : {x : List ℕ} → None ≡ Some x → ⊥
none_some e = grind (arith, e)

found_flips : (at ended : Bool) (noise : LiveNoise) (word : ℕ) (later : Option LiveNoise) (places : List ℕ) → is_ended_by word noise.span ≡ ended
    → IsPlaces noise.places → (flips word later ≡ Some places → IsPlaces places) → flips word (if at then Some noise else later) ≡ Some places → IsPlaces places
found_flips at ended noise word later places is one rest e = search rules

struck_flips : (unit block word : ℕ) (live : List LiveNoise) (places : List ℕ) → AllFlip live → strikes unit block word live ≡ Some places → IsPlaces places
struck_flips unit block word [] places all e = absurd (none_some e)
struck_flips unit block word (noise ∷ rest) places all e =
    found_flips (is_at unit block noise) (is_ended_by word noise.span) noise word (oldest unit block rest) places refl all.0
    (λ later. struck_flips unit block word rest places all.1 later) e

-- So what is struck in a read are places.
pub strikes_flip : (w : World) (unit block : ℕ) (d : DriveState) → AllFlip w.book.live → ArePlaces (struck_at unit block d w.book)
strikes_flip w unit block d all = λ places. λ is. struck_flips unit block d.offset w.book.live places all is
