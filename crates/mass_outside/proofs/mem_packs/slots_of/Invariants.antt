use Rattle.std.proofs.Common.{◌≡◌, ◌<◌, ◌++◌, ℕ, List, Some, length, vec_len}
use Rattle.std.specs.Prelude.{slice_get}
use Rattle.mass_outside.specs.Images.{slot_of}
use Rattle.mass_outside.specs.declared.slots.Image.{Image}
use Rattle.mass_outside.proofs.mem_packs.slots_of.Given as goal

-- the slots hold what the images that were taken hold
abbrev pub invariant-loop-image : goal.invariant-loop-image
invariant-loop-image l = (done : List Image) × (l.fn.images.items ≡ l.images.items ++ done) × (length l.slots.items ≡ 32)
    × ((unit : ℕ) → unit < 32 → slice_get l.slots.items unit ≡ Some (slot_of done unit))

abbrev pub decreases-loop-image : goal.decreases-loop-image
decreases-loop-image l = vec_len l.images
