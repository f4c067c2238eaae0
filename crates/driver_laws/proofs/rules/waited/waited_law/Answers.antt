use Rattle.driver_laws.proofs.rules.Restful.{start_rests}
use Rattle.driver_laws.proofs.rules.WaitedLaws.{waited_is_answered, all_rest_again, packs_hold_map}
use Rattle.driver_laws.proofs.rules.waited.waited_law.Goals as goal

pub returns-clause-start : goal.returns-clause-start
returns-clause-start c = start_rests

pub returns-clause-answered : goal.returns-clause-answered
returns-clause-answered c = waited_is_answered

pub returns-clause-rests : goal.returns-clause-rests
returns-clause-rests c = all_rest_again

pub returns-clause-packs : goal.returns-clause-packs
returns-clause-packs c = packs_hold_map
