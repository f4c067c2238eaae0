-- The room for an exercise, and the packs in memory on which it is played.
use Rattle.std.specs.Prelude.{◌≡◌, ℕ, ◌<◌, ◌≤◌, ◌-◌, ◌^◌, ◌==◌, ◌||◌, true, if◌then◌else◌, List, [], length, Option, None, Some, slice_get}
use Rattle.pack_geometry.specs.Pack.{Pack, empty_pack, with_written, with_mark}
use Rattle.outside_traits.specs.declared.traits.PackCall.{PackCall}
use Rattle.mass_outside.specs.declared.slots.Image.{Image}
use Rattle.mass_outside.specs.Images.{slot_of}
use Rattle.mass_outside.specs.Slots.{blocks_in}
use Rattle.mass_outside.specs.Sure.{SureView, sure_held}
use Rattle.hp_exercise.specs.declared.packs.Outside.{Outside}
use Rattle.hp_exercise.specs.declared.packs.Outside.TheVariants.{Block, Mark}

-- THE ROOM, in blocks: the requests of a script are on the units 0, 1 and 8, begin below block 15,000, and have at most 16 blocks.
abbrev pub room_on : ℕ → ℕ
room_on unit = if (unit == 0) || (unit == 1) || (unit == 8) then 15015 else 0

-- THE PACKS ARE EMPTY, and no block is marked.
abbrev pub AreEmpty : (ℕ → Pack) → Type 0
AreEmpty packs = (unit : ℕ) → packs unit ≡ empty_pack

-- Packs with this room; what was to be written beyond it, once it was tried; and at which call they failed.
pub record RoomView : Type 0 where
  pub packs : SureView
  pub outside : Option Outside
  pub failed_at : PackCall

abbrev pub with_outside : Option Outside → (ℕ → Pack) → ℕ → Pack
with_outside None packs = packs
with_outside (Some (Block unit block bytes)) packs = with_written packs unit block bytes
with_outside (Some (Mark unit block on)) packs = with_mark packs unit block on

abbrev pub held_on : RoomView → ℕ → Pack
held_on view = with_outside view.outside (sure_held view.packs)

-- they fail from then on
abbrev pub faults_of : Option Outside → ℕ
faults_of None = 0
faults_of (Some outside) = 2 ^ 64 - 1

-- there is just this room, and no write and no mark was passed over;
pub record HasRoom (packs : SureView) : Type 0 where
  pub rooms : (unit : ℕ) → unit < 32 → blocks_in (slice_get packs.slots unit) ≡ room_on unit
  pub tells : packs.tells ≡ true

-- what was to be written lies beyond.
abbrev pub IsOutside : Option Outside → Type 0
IsOutside None = Unit {0}
IsOutside (Some (Block unit block bytes)) = (unit < 32) × (room_on unit ≤ block) × (length bytes ≡ 512)
IsOutside (Some (Mark unit block on)) = unit < 32

-- IMAGES. One holds nothing, and has the room of its unit;
pub record IsBlank (unit : ℕ) (image : Image) : Type 0 where
  pub unit_is : image.unit ≡ unit
  pub bytes : image.bytes.items ≡ []
  pub marks : image.marks.items ≡ []
  pub blocks : image.blocks ≡ room_on unit

-- these are so for the units that have room, and there is none for another unit.
abbrev pub AreBlank : List Image → Type 0
AreBlank images = (unit : ℕ) → slot_of images unit ≡ record { pack = empty_pack; blocks = room_on unit }
