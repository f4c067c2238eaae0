use Rattle.driver_laws.proofs.invariant.Calls.{submit_works, event_works, taken_works}
use Rattle.driver_laws.proofs.invariant.Start.{start_is}
use Rattle.driver_laws.proofs.invariant.Sound.{sound_after}
use Rattle.driver_laws.proofs.invariant.whole.calls_law.Goals as goal

pub returns-clause-submit : goal.returns-clause-submit
returns-clause-submit c = λ w line p r h. submit_works sound_after r line p h w

pub returns-clause-event : goal.returns-clause-event
returns-clause-event c = λ w line input tried. event_works sound_after line input tried w

pub returns-clause-taken : goal.returns-clause-taken
returns-clause-taken c = taken_works sound_after

pub returns-clause-start : goal.returns-clause-start
returns-clause-start c = λ w line a sound. (start_is sound_after line a w sound).run

pub returns-clause-over : goal.returns-clause-over
returns-clause-over c = λ w line a sound. (start_is sound_after line a w sound).holds
