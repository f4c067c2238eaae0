use Rattle.hp_core.proofs.driver.Core.put_take.Goals as goal

pub vacate-requires-clause-there : goal.vacate-requires-clause-there
vacate-requires-clause-there c = λ p e. (rw (← c.self.view_is) at c.requires.there) c.in-Some.made p c.in-Some.ensures.some e

pub vacate-requires-clause-cpu : goal.vacate-requires-clause-cpu
vacate-requires-clause-cpu c = λ p e. (rw (← c.self.view_is) at c.requires.cpu) c.in-Some.made p c.in-Some.ensures.some e
