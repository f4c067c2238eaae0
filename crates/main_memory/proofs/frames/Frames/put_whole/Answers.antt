use Rattle.std.proofs.Common.{◌≡◌, sym, ◌∙◌, subst}
use Rattle.std.proofs.Math.ListN.{set}
use Rattle.main_memory.specs.Bytes.{AreFills}
use Rattle.main_memory.proofs.FillLaws.{whole_same, fills_put_whole}
use Rattle.main_memory.proofs.frames.Frames.put_whole.Goals as goal
use Rattle.main_memory.proofs.frames.Frames.put_whole.Goals.{in_default-via-in-None-1, in_default-via-in-Some+else-is_all}

pub returns-clause-bytes : goal.returns-clause-bytes
returns-clause-bytes c =
    whole_same c.self.inside.bytes c.args.self.now c.args.from.now c.args.frame c.in-Some.byte c.self.view_is c.self.invariant.size c.requires.frame c.told-from
    (c.is_all.ensures c.if-is_all.true) ((c.fill_of-fill.ensures c.in-Some.byte).0 c.in-Some.is)

pub invariant_of-self : goal.invariant_of-self
invariant_of-self c =
    let kept : c.in_default.fill ≡ c.fill_of-fill.result = elim c.in_default.branch [
      | in_default-via-in-None-1 w ↦ w.fill-is
      | in_default-via-in-Some+else-is_all w ↦ w.fill-is ∙ sym w.in-Some.is
    ] in
    subst (AreFills (set c.self-2.inside.fills.items c.args.frame c.in_default.fill)) (sym c.put.ensures.bytes)
    (fills_put_whole c.self-2.inside.fills.items c.self-2.inside.bytes c.args.from.now c.args.frame c.in_default.fill c.self-2.invariant c.requires.frame c.told-from
    (λ byte is. (c.fill_of-fill.ensures byte).0 (sym kept ∙ is)))
