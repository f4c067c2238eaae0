use Rattle.std.proofs.Common.{sym, subst, None}
use Rattle.std.proofs.Math.ListN.{set}
use Rattle.main_memory.specs.Bytes.{AreFills}
use Rattle.main_memory.proofs.FillLaws.{written_same, fills_put, none_some}
use Rattle.main_memory.proofs.frames.Frames.put.Goals as goal

pub returns-then-has-clause-bytes : goal.returns-then-has-clause-bytes
returns-then-has-clause-bytes c =
    written_same c.self.inside.bytes c.args.self.now c.args.from.now c.args.frame c.args.offset c.self.view_is c.self.invariant.size c.requires.frame c.requires.inside (c.has.ensures c.if-has.true)

pub invariant_of-self : goal.invariant_of-self
invariant_of-self c =
    subst (AreFills (set c.self.inside.fills.items c.args.frame None)) (sym c.put.ensures.bytes)
    (fills_put c.self.inside.fills.items c.self.inside.bytes c.args.from.now c.args.frame c.args.offset None c.self.invariant c.requires.frame c.requires.inside
    (λ byte is. none_some is))
