use Rattle.bad144_tool.proofs.RefusalLaws.{never_both, once, one_listing}
use Rattle.bad144_tool.proofs.laws.refusal_law.Goals as goal

pub returns-clause-once : goal.returns-clause-once
returns-clause-once c = λ kind pack block f g small is it why how. once kind pack block small f g is it why how

pub returns-clause-never_both : goal.returns-clause-never_both
returns-clause-never_both c = λ kind pack block i f old new small is why may. never_both kind pack block small i f old new is why may

pub returns-clause-one_index : goal.returns-clause-one_index
returns-clause-one_index c = λ kind pack block i j old new other other_new small may again. one_listing kind pack block small i j old new other other_new may again
