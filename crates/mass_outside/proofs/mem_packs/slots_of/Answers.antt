use Rattle.std.proofs.Common.{◌<◌, ◌∷◌, List, length, length-set, ◌∙◌, arith}
use Rattle.mass_outside.specs.declared.slots.Image.{Image}
use Rattle.mass_outside.proofs.MemoryLaws.{images_more, held_past, put_more}
use Rattle.mass_outside.proofs.mem_packs.slots_of.Goals as goal

pub loop-image-preserved-then-unit-lt32 : goal.loop-image-preserved-then-unit-lt32
loop-image-preserved-then-unit-lt32 c =
    let done : List Image = c.loop-image.invariant.0 in
    let there : c.in-Some.image.unit < length c.loop-image.slots.items = omega arith in (
      c.in-Some.image ∷ done,
      images_more c.args.images.items c.loop-image.images.items c.pop.new.self.items done c.in-Some.image c.loop-image.invariant.1 c.in-Some.ensures.items,
      length-set c.loop-image.slots.items c.in-Some.image.unit c.in_ok-slot.slot ∙ c.loop-image.invariant.2,
      put_more c.loop-image.slots.items c.in_ok-slot.slot c.in-Some.image done there c.in_ok-slot.ensures c.loop-image.invariant.3,
    )

pub loop-image-preserved : goal.loop-image-preserved
loop-image-preserved c = (
  c.in-Some.image ∷ c.loop-image.invariant.0,
  images_more c.args.images.items c.loop-image.images.items c.pop.new.self.items c.loop-image.invariant.0 c.in-Some.image c.loop-image.invariant.1 c.in-Some.ensures.items,
  c.loop-image.invariant.2,
  held_past c.loop-image.slots.items c.in-Some.image c.loop-image.invariant.0 c.if-unit-lt32.false c.loop-image.invariant.3,
)
