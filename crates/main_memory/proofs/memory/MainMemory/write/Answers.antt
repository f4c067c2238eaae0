use Rattle.main_memory.proofs.LendLaws.{is_memory}
use Rattle.main_memory.proofs.memory.MainMemory.write.Goals as goal

pub returns-clause-sound : goal.returns-clause-sound
returns-clause-sound c = is_memory _ c.self.inside.free_words c.write_front.ensures.size
