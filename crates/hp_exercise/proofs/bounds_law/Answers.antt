use Rattle.hp_exercise.proofs.BoundLaws.{most_asked_bound, armed_bound, frames_bound, noise_short}
use Rattle.hp_exercise.proofs.bounds_law.Goals as goal

pub returns-clause-asked : goal.returns-clause-asked
returns-clause-asked c = most_asked_bound

pub returns-clause-frames : goal.returns-clause-frames
returns-clause-frames c = frames_bound

pub returns-clause-armed : goal.returns-clause-armed
returns-clause-armed c = armed_bound

pub returns-clause-short : goal.returns-clause-short
returns-clause-short c = noise_short
