use Rattle.std.proofs.Common.{ap, ◌∙◌, length}
use Rattle.mass_outside.specs.Sure.{SureView}
use Rattle.pack_geometry.specs.Pack.{Pack}
use Rattle.mass_outside.proofs.MemoryLaws.{slot_at, held_at}
use Rattle.mass_outside.proofs.sure_packs.SurePacksPacks.length.Goals as goal

pub returns-clause-length : goal.returns-clause-length
returns-clause-length c =
    c.length.ensures
    ∙ ap (λ (p : Pack). length p.image) (held_at c.args.self.now.slots c.args.unit c.index.result.now (slot_at c.self.inside.slots.items c.args.self.now.slots c.args.unit c.index.result.now (ap (λ (p : SureView). p.slots) c.self.view_is) c.self.invariant c.requires c.index.ensures))
