use Rattle.std.proofs.Common.{sym, ◌∙◌}
use Rattle.main_memory.proofs.FillLaws.{known_as}
use Rattle.main_memory.proofs.frames.Frames.is_all.Goals as goal

pub returns : goal.returns
returns c = λ yes.
    known_as c.self.inside.fills.items c.self.inside.bytes c.args.self.now c.args.frame c.args.byte c.index.result.now
    c.self.invariant c.self.view_is c.requires c.index.ensures (sym c.eq.ensures ∙ yes)
