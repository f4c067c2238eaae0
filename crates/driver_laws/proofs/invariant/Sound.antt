-- Each act keeps what holds of the driver, from its parts.
use Rattle.driver_machine.specs.Acts.{after}
use Rattle.driver_laws.specs.invariant.InvariantKept.{EachActKeeps}
use Rattle.driver_laws.proofs.invariant.EachAct.{Keeps, act_keeps}
use Rattle.driver_laws.proofs.invariant.SlotsEachAct.{queues_after, slots_after, frames_after, answers_after}
use Rattle.driver_laws.proofs.invariant.SlotsWhole.{sound_from}

pub sound_after : EachActKeeps
sound_after w act s may =
    let keeps : Keeps (after w act) = act_keeps w act s may in
    sound_from (after w act) (λ u lt. queues_after w act u s may lt) (slots_after w act s may) (frames_after w act s may) (answers_after w act s may)
    (λ u lt. (keeps.units u lt).0) (λ u lt. (keeps.units u lt).1) (λ u lt. (keeps.units u lt).2) keeps.adapters
