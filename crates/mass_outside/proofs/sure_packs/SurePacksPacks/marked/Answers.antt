use Rattle.std.proofs.Common.{ap, ◌∙◌}
use Rattle.mass_outside.specs.Sure.{SureView}
use Rattle.pack_geometry.specs.Pack.{Pack, is_marked}
use Rattle.mass_outside.proofs.MemoryLaws.{slot_at, held_at}
use Rattle.mass_outside.proofs.sure_packs.SurePacksPacks.marked.Goals as goal

pub returns-clause-mark : goal.returns-clause-mark
returns-clause-mark c =
    c.marked.ensures
    ∙ ap (λ (p : Pack). is_marked p c.args.block) (held_at c.args.self.now.slots c.args.unit c.index.result.now (slot_at c.self.inside.slots.items c.args.self.now.slots c.args.unit c.index.result.now (ap (λ (p : SureView). p.slots) c.self.view_is) c.self.invariant c.requires c.index.ensures))
