-- Laws of the packs in memory.
use Rattle.std.proofs.Common.{◌≡◌, ℕ, ◌<◌, ◌≤◌, Bool, true, false, List, length, get_or, set, refl, sym, ap, ◌∙◌, arith, Some, None, Option, [], ◌∷◌, ◌++◌, append_assoc, length-set, get_or-set_same, get_or-set_other}
use Rattle.std.specs.Prelude.{if◌then◌else◌, ◌==◌, ◌||◌, not, slice_get, nat_lt}
use Rattle.std.proofs.Math.Path.{fun_ext}
use mir.Val.{bool_byte}
use Rattle.std.proofs.lemmas.Grind.{common_steps}
use Rattle.std.proofs.lemmas.Option.{slice_get-get_or, slice_get_past, slice_get_within}
use Rattle.std.proofs.lemmas.Bool.Decides.{nat_tests}
use Rattle.mass_outside.specs.declared.slots.Image.{Image}
use Rattle.pack_geometry.specs.Pack.{Pack, with_pack, with_window, written, with_written, with_mark}
use Rattle.mass_outside.specs.Slots.{SlotView, AllEmpty, empty_slot, pack_in, blocks_in, held_slots, slot_written, slot_marked}
use Rattle.mass_outside.specs.Images.{image_slot, slot_of, is_listed}
use Rattle.mass_outside.specs.Memory.{is_outside}
use Rattle.mass_outside.specs.declared.mem_packs.PackOp.{PackOp}
use Rattle.mass_outside.specs.declared.mem_packs.FailCall.{FailCall}

-- one empty slot more
pub empty_more : (slots : List SlotView) → AllEmpty slots → AllEmpty (slots ++ empty_slot ∷ [])
empty_more slots h unit = let before : slice_get slots unit ≡ (if nat_lt unit (length slots) then Some empty_slot else None) = h unit in grind (arith, nat_tests, common_steps, before, slice_get-get_or (slots ++ empty_slot ∷ []) unit empty_slot, slice_get-get_or slots unit empty_slot, slice_get_past (slots ++ empty_slot ∷ []) unit)

slice_get-set : {X : Type 0} (xs : List X) (i k : ℕ) (y : X) → i < length xs → slice_get (set xs i y) k ≡ (if k == i then Some y else slice_get xs k)
slice_get-set xs i k y l = grind (arith, nat_tests, common_steps, slice_get-get_or (set xs i y) k y, slice_get-get_or xs k y, slice_get_past (set xs i y) k, slice_get_past xs k, get_or-set_same xs i y y l, get_or-set_other, length-set)

-- one image more
pub images_more : (all before after done : List Image) (image : Image) → all ≡ before ++ done → before ≡ after ++ image ∷ [] → all ≡ after ++ (image ∷ done)
images_more all before after done image a b = a ∙ ap (λ (xs : List Image). xs ++ done) b ∙ append_assoc after (image ∷ []) done

pick_slot : (b : Bool) (s t : SlotView) (o : Option SlotView) → o ≡ Some t → (if b then Some s else o) ≡ Some (if b then s else t)
pick_slot true s t o e = refl
pick_slot false s t o e = e

pub held_more : (slots : List SlotView) (image : Image) (done : List Image) → image.unit < length slots →
    ((unit : ℕ) → unit < 32 → slice_get slots unit ≡ Some (slot_of done unit)) → (unit : ℕ) → unit < 32 → slice_get (set slots image.unit (image_slot image)) unit ≡ Some (slot_of (image ∷ done) unit)
held_more slots image done l h unit u = slice_get-set slots image.unit unit (image_slot image) l ∙ pick_slot (unit == image.unit) (image_slot image) (slot_of done unit) _ (h unit u)

-- an image of a unit that is none of the 32
pub held_past : (slots : List SlotView) (image : Image) (done : List Image) → 32 ≤ image.unit →
    ((unit : ℕ) → unit < 32 → slice_get slots unit ≡ Some (slot_of done unit)) → (unit : ℕ) → unit < 32 → slice_get slots unit ≡ Some (slot_of (image ∷ done) unit)
held_past slots image done l h unit u = h unit u ∙ other (unit == image.unit) refl
  where
    other : (b : Bool) → (unit == image.unit) ≡ b → Some (slot_of done unit) ≡ Some (if b then image_slot image else slot_of done unit)
    other true e = let same : unit ≡ image.unit = grind (arith, nat_tests) in absurd (omega (arith, l, u, same))
    other false e = refl

pub put_more : (slots : List SlotView) (slot : SlotView) (image : Image) (done : List Image) → image.unit < length slots → slot ≡ image_slot image →
    ((unit : ℕ) → unit < 32 → slice_get slots unit ≡ Some (slot_of done unit)) → (unit : ℕ) → unit < 32 → slice_get (set slots image.unit slot) unit ≡ Some (slot_of (image ∷ done) unit)
put_more slots slot image done l e h unit u = ap (λ (s : SlotView). slice_get (set slots image.unit s) unit) e ∙ held_more slots image done l h unit u

-- ---- the slot of a unit

pub slot_at : (slots old : List SlotView) (unit : ℕ) (slot : SlotView) → slots ≡ old → length slots ≡ 32 → unit < 32 → slot ≡ get_or slots unit slot → slice_get old unit ≡ Some slot
slot_at slots old unit slot same l h e = ap (λ (xs : List SlotView). slice_get xs unit) (sym same) ∙ slice_get-get_or slots unit slot (omega (arith, l, h)) ∙ ap Some (sym e)

-- a unit's pack is that of its slot
pub held_at : (slots : List SlotView) (unit : ℕ) (slot : SlotView) → slice_get slots unit ≡ Some slot → slot.pack ≡ held_slots slots unit
held_at slots unit slot there = sym (ap pack_in there)

-- a block for which a unit's slot has room is none outside
pub room_at : (slots : List SlotView) (unit block : ℕ) (slot : SlotView) → slice_get slots unit ≡ Some slot → true ≡ nat_lt block slot.blocks → false ≡ is_outside slots unit block
room_at slots unit block slot there e = ap not e ∙ ap (λ (o : Option SlotView). not (nat_lt block (blocks_in o))) (sym there)

-- a block for which a unit's slot has no room is outside
pub no_room_at : (slots : List SlotView) (unit block : ℕ) (slot : SlotView) → slice_get slots unit ≡ Some slot → false ≡ nat_lt block slot.blocks → true ≡ is_outside slots unit block
no_room_at slots unit block slot there e = ap not e ∙ ap (λ (o : Option SlotView). not (nat_lt block (blocks_in o))) (sym there)

pick_pack : (b : Bool) (new : SlotView) (o : Option SlotView) (pack : Pack) → new.pack ≡ pack → pack_in (if b then Some new else o) ≡ (if b then pack else pack_in o)
pick_pack true new o pack e = e
pick_pack false new o pack e = refl

-- the packs with another slot of one unit
held_set : (slots : List SlotView) (unit : ℕ) (slot new : SlotView) (pack : Pack) → slice_get slots unit ≡ Some slot → new.pack ≡ pack → held_slots (set slots unit new) ≡ with_pack (held_slots slots) unit pack
held_set slots unit slot new pack there e =
    fun_ext (λ u. ap pack_in (slice_get-set slots unit u new (slice_get_within slots unit slot there)) ∙ pick_pack (u == unit) new (slice_get slots u) pack e)

pub held_written : (slots old : List SlotView) (unit block : ℕ) (bytes : List ℕ) (slot new : SlotView) → slots ≡ old → slice_get old unit ≡ Some slot → new ≡ slot_written slot block bytes
    → held_slots (set slots unit new) ≡ with_written (held_slots old) unit block bytes
held_written slots old unit block bytes slot new same there e =
    ap (λ (xs : List SlotView). held_slots (set xs unit new)) same
    ∙ held_set old unit slot new (written (held_slots old unit) block bytes) there (ap (λ (s : SlotView). s.pack) e ∙ ap (λ (o : Option SlotView). written (pack_in o) block bytes) (sym there))

pub held_marked : (slots old : List SlotView) (unit block : ℕ) (on : Bool) (slot new : SlotView) → slots ≡ old → slice_get old unit ≡ Some slot → new ≡ slot_marked slot block (if on then 1 else 0)
    → held_slots (set slots unit new) ≡ with_mark (held_slots old) unit block on
held_marked slots old unit block on slot new same there e =
    ap (λ (xs : List SlotView). held_slots (set xs unit new)) same
    ∙ held_set old unit slot new (marked (held_slots old unit)) there (ap (λ (s : SlotView). s.pack) e ∙ ap (λ (o : Option SlotView). marked (pack_in o)) (sym there))
  where
    marked : Pack → Pack
    marked pack = record { image = pack.image; marks = with_window block ((if on then 1 else 0) ∷ []) pack.marks }

-- the byte that marks a block, or clears its mark
pub mark_byte : (on : Bool) → bool_byte on ≡ (if on then 1 else 0)
mark_byte true = refl
mark_byte false = refl

-- ---- calls that fail

pub listed_of : (fail old : List FailCall) (op : PackOp) (count number : ℕ) (b : Bool) → fail ≡ old → count ≡ number → b ≡ is_listed fail op count → b ≡ is_listed old op number
listed_of fail old op count number b same counted e = e ∙ ap (λ (calls : List FailCall). is_listed calls op count) same ∙ ap (λ (n : ℕ). is_listed old op n) counted

pub none_of : (a b : Bool) → false ≡ a → false ≡ b → false ≡ (a || b)
none_of a b e f = f ∙ ap (λ (x : Bool). x || b) e
