use Rattle.hp_exercise.proofs.LineLaws.{spelled}
use Rattle.hp_exercise.proofs.spelling_law.Goals as goal

pub returns : goal.returns
returns c = spelled
