use Rattle.driver_laws.proofs.invariant.Starts.{sound_new, rests_new, stands_new, others_new}
use Rattle.driver_laws.proofs.invariant.whole.start_law.Goals as goal

pub returns-clause-sound : goal.returns-clause-sound
returns-clause-sound c = sound_new

pub returns-clause-rests : goal.returns-clause-rests
returns-clause-rests c = rests_new

pub returns-clause-stands : goal.returns-clause-stands
returns-clause-stands c = stands_new

pub returns-clause-others : goal.returns-clause-others
returns-clause-others c = others_new
