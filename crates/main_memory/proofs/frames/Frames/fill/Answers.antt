use Rattle.main_memory.proofs.FillLaws.{known}
use Rattle.main_memory.proofs.frames.Frames.fill.Goals as goal

pub returns-clause-fill : goal.returns-clause-fill
returns-clause-fill c =
    known c.self.inside.fills.items c.self.inside.bytes c.args.self.now c.args.frame c.index.result.now c.self.invariant c.self.view_is c.requires c.index.ensures
