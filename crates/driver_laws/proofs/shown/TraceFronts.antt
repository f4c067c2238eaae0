-- A front of moments that follow.
use Rattle.std.proofs.Common.{◌≡◌, List, ◌++◌, sym, ap, subst, ◌∙◌, append_assoc}
use Rattle.trace_replay.specs.Moments.{Moment}
use Rattle.trace_replay.specs.Replay.{Replay, Follows}
use Rattle.trace_replay.proofs.Following.{follow_on}
use Rattle.driver_machine.specs.World.{World}
use Rattle.driver_machine.specs.Acts.{Act, after_all}
use Rattle.driver_machine.specs.Lines.{lines_of_all}
use Rattle.driver_laws.proofs.shown.Joined.{lines_append}

-- the lines of the first acts, behind some moments
front_follows : (start : Replay) (moments : List Moment) (w : World) (acts done left : List Act)
    → Follows start (moments ++ lines_of_all w acts) → acts ≡ done ++ left → Follows start (moments ++ lines_of_all w done)
front_follows start moments w acts done left follows all =
    let parts : moments ++ lines_of_all w acts ≡ (moments ++ lines_of_all w done) ++ lines_of_all (after_all w done) left =
    ap (λ (xs : List Act). moments ++ lines_of_all w xs) all
    ∙ ap (λ (ms : List Moment). moments ++ ms) (lines_append w done left)
    ∙ sym (append_assoc moments (lines_of_all w done) (lines_of_all (after_all w done) left)) in
    ((follow_on start (moments ++ lines_of_all w done) (lines_of_all (after_all w done) left)).0 (subst (Follows start) parts follows)).0

-- and so does a front of an event inside a drain, of which no line of the script is played.
pub event_fronts : (start : Replay) (moments : List Moment) (w : World) (acts done left : List Act)
    → Follows start (moments ++ lines_of_all w acts) → acts ≡ done ++ left → Follows start (moments ++ lines_of_all w done)
event_fronts = front_follows
