use Rattle.std.proofs.Common.{ℕ, false, ap, ◌∙◌}
use Rattle.mass_outside.specs.Memory.{MemView}
use Rattle.outside_traits.specs.Causes.{next}
use Rattle.outside_traits.specs.declared.traits.PackCall.TheVariants as call
use Rattle.pack_geometry.specs.Pack.{Pack, block_at}
use Rattle.mass_outside.specs.declared.mem_packs.PackOp.TheVariants.{Read}
use Rattle.mass_outside.proofs.MemoryLaws.{slot_at, held_at, listed_of}
use Rattle.mass_outside.proofs.mem_packs.MemPacksPacks.read.Goals as goal

pub returns-clause-block : goal.returns-clause-block
returns-clause-block c =
    c.read.ensures
    ∙ ap (λ (p : Pack). block_at p.image c.args.block) (held_at c.args.self.now.slots c.args.unit c.index.result.now (slot_at c.self.inside.slots.items c.args.self.now.slots c.args.unit c.index.result.now (ap (λ (m : MemView). m.slots) c.self.view_is) c.self.invariant c.requires c.index.ensures))

pub returns-clause-exact : goal.returns-clause-exact
returns-clause-exact c = listed_of c.as_slice.result.now c.args.self.now.fail Read c.saturating_add-self-inside.result (next c.args.self.now.reads) false (c.as_slice.ensures.value ∙ ap (λ (m : MemView). m.fail) c.self.view_is)
    (c.saturating_add-self-inside.ensures ∙ ap (λ (m : MemView). next m.reads) c.self.view_is) c.if-is_listed.ensures

pub returns-then-is_listed-clause-err : goal.returns-then-is_listed-clause-err
returns-then-is_listed-clause-err c =
    let seen : MemView = record { slots = c.self.inside.slots.items; fail = c.self.inside.fail.items; lengths = c.self.inside.lengths; reads = c.self.inside.reads; writes = c.self.inside.writes; markeds = c.self.inside.markeds; set_marks = c.self.inside.set_marks; faults = c.self.inside.faults; failed_at = c.self.inside.failed_at } in
    c.failed.ensures
    ∙ ap (λ (n : ℕ). record seen { reads = n; faults = next c.self.inside.faults; failed_at = call.Block c.args.unit c.args.block }) c.saturating_add-self-inside.ensures
    ∙ ap (λ (m : MemView). record m { reads = next m.reads; faults = next m.faults; failed_at = call.Block c.args.unit c.args.block }) c.self.view_is

pub returns-clause-ok : goal.returns-clause-ok
returns-clause-ok c =
    let seen : MemView = record { slots = c.self.inside.slots.items; fail = c.self.inside.fail.items; lengths = c.self.inside.lengths; reads = c.self.inside.reads; writes = c.self.inside.writes; markeds = c.self.inside.markeds; set_marks = c.self.inside.set_marks; faults = c.self.inside.faults; failed_at = c.self.inside.failed_at } in
    ap (λ (n : ℕ). record seen { reads = n }) c.saturating_add-self-inside.ensures ∙ ap (λ (m : MemView). record m { reads = next m.reads }) c.self.view_is
