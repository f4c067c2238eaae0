use Rattle.std.proofs.Common.{ap, ◌∙◌}
use Rattle.mass_outside.specs.Sure.{SureView}
use Rattle.pack_geometry.specs.Pack.{Pack, block_at}
use Rattle.mass_outside.proofs.MemoryLaws.{slot_at, held_at}
use Rattle.mass_outside.proofs.sure_packs.SurePacksPacks.read.Goals as goal

pub returns-clause-block : goal.returns-clause-block
returns-clause-block c =
    c.read.ensures
    ∙ ap (λ (p : Pack). block_at p.image c.args.block) (held_at c.args.self.now.slots c.args.unit c.index.result.now (slot_at c.self.inside.slots.items c.args.self.now.slots c.args.unit c.index.result.now (ap (λ (p : SureView). p.slots) c.self.view_is) c.self.invariant c.requires c.index.ensures))
