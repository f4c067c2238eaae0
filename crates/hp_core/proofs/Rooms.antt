-- Room for answers, and the frames of a request that ends.
use Rattle.std.proofs.Common.{◌≡◌, inl, inr, ℕ, ◌+◌, ◌<◌, ◌≤◌, Bool, true, false, List, [], ◌∷◌, ◌++◌, length, length-set, Option, Some, None, refl, sym, ap, ◌∙◌, subst, arith}
use Rattle.std.specs.Prelude.{slice_set, if◌then◌else◌}
use Rattle.std.proofs.lemmas.Bool.{false≢true}
use Rattle.std.proofs.lemmas.Option.{same_Some}
use Rattle.main_memory.specs.Blocks.{IsLoan}
use Rattle.driver_machine.specs.declared.Made.{Made}
use Rattle.driver_machine.specs.World.{World, Held, unit_at, held_in, slot_in_hand, frames_of}
use Rattle.driver_machine.specs.Guards.{InHand}
use Rattle.driver_machine.specs.Sound.{Sound, Among, slots_made, slot_made, frames_used, frames_by}
use Rattle.driver_laws.proofs.invariant.SlotsEnd.{made_at}
use Rattle.driver_laws.proofs.invariant.Frames.{frames_at, frames_put}
use Rattle.driver_laws.proofs.invariant.Frame.{scene_ok, slot_there, own_held, held_is}
use Rattle.hp_core.specs.State.{refused_in, one_refused, HasRoom}
use Rattle.hp_core.proofs.Deeds.{pigeons}

-- a sector that is tried leaves as many slots
set_or_not : (read : Bool) (slots : List (Option Held)) (p : ℕ) (x : Option Held) → length (if read then slice_set slots p x else slots) ≡ length slots
set_or_not true slots p x = length-set slots p x
set_or_not false slots p x = refl

pub room_kept : (read : Bool) (old new : List (Option Held)) (p : ℕ) (x : Option Held) (answers : List Made) (most : ℕ) → new ≡ (if read then slice_set old p x else old)
    → HasRoom old answers most → HasRoom new answers most
room_kept read old new p x answers most tried room =
    let same : length new ≡ length old = ap length tried ∙ set_or_not read old p x in
    record { few = omega (arith, same, room.few); refused = room.refused; spare = omega (arith, same, room.spare) }

-- each answer is of a slot, or of a request that was refused
counted_one : (slot : Option ℕ) (n : ℕ) (slots : List ℕ) (m : ℕ) → n ≡ m + length slots → 1 + n ≡ (one_refused slot + m) + length (slot_made slot slots)
counted_one None n slots m e = omega (arith, e)
counted_one (Some p) n slots m e = omega (arith, e)

pub counted : (answers : List Made) → length answers ≡ refused_in answers + length (slots_made answers)
counted [] = refl
counted (made ∷ rest) =
    let e : length (made ∷ rest) ≡ 1 + length rest = omega arith in
    e ∙ counted_one made.slot (length rest) (slots_made rest) (refused_in rest) (counted rest)

pub refused_push : (answers : List Made) (made : Made) → refused_in (answers ++ made ∷ []) ≡ refused_in answers + one_refused made.slot
refused_push [] made = omega arith
refused_push (x ∷ rest) made = let e = refused_push rest made in omega (arith, e)

module _ (w : World) (u id : ℕ) (s : Sound w) (i : InHand w u id) where
  p : ℕ
  p = slot_in_hand (unit_at w u)

  small : (q : ℕ) → Among q (slot_in_hand (unit_at w u) ∷ slots_made w.answers) → q < length w.slots
  small q (inl e) = subst (λ n. n < length w.slots) (sym e) (slot_there w.slots (slot_in_hand (unit_at w u)) i.held i.slot)
  small q (inr m) =
      let at = made_at w.answers q m in
      let is = s.answers at.0 q at.1 at.2 in
      slot_there w.slots q is.held is.slot

  apart : Among (slot_in_hand (unit_at w u)) (slots_made w.answers) → ⊥
  apart m =
      let at = made_at w.answers (slot_in_hand (unit_at w u)) m in
      let is = s.answers at.0 (slot_in_hand (unit_at w u)) at.1 at.2 in
      let same : is.held ≡ i.held = same_Some is.held i.held (sym is.slot ∙ i.slot) in
      false≢true (sym (own_held w u id s i).1 ∙ (ap (λ (h : Held). h.ended) (sym same) ∙ is.over))

  pub answers_room : length w.answers + 1 ≤ refused_in w.answers + length w.slots
  answers_room =
      let most : length (slot_in_hand (unit_at w u) ∷ slots_made w.answers) ≤ length w.slots =
      pigeons (length w.slots) (slot_in_hand (unit_at w u) ∷ slots_made w.answers) (apart, s.once) small in
      let all = counted w.answers in
      omega (arith, most, all)

  pub frames_there : frames_of (held_in w (slot_in_hand (unit_at w u))) ≤ w.frames
  frames_there =
      let put = frames_put w.slots (slot_in_hand (unit_at w u)) None (slot_there w.slots (slot_in_hand (unit_at w u)) i.held i.slot) in
      let here : held_in w (slot_in_hand (unit_at w u)) ≡ i.held = held_is w (slot_in_hand (unit_at w u)) i.held i.slot in
      let all = s.frames in
      let mine : frames_used (slice_set w.slots (slot_in_hand (unit_at w u)) None) + frames_by i.held.ended i.held ≡ frames_used w.slots + 0 = subst (λ (o : Option Held). frames_used (slice_set w.slots (slot_in_hand (unit_at w u)) None) + frames_at o ≡ frames_used w.slots + 0) i.slot put in
      let going : frames_used (slice_set w.slots (slot_in_hand (unit_at w u)) None) + frames_of i.held ≡ frames_used w.slots + 0 = subst (λ (b : Bool). frames_used (slice_set w.slots (slot_in_hand (unit_at w u)) None) + frames_by b i.held ≡ frames_used w.slots + 0) (own_held w u id s i).1 mine in
      subst (λ (h : Held). frames_of h ≤ w.frames) (sym here) (enough _ _ _ _ going all)
    where
      enough : (a b c d : ℕ) → a + b ≡ c + 0 → d ≡ c → b ≤ d
      enough a b c d e f = omega (arith, e, f)

  pub loan_there : IsLoan (held_in w (slot_in_hand (unit_at w u))).loan
  loan_there = (scene_ok w u id s i).loan

-- an answer for a slot leaves room
pub room_end : (slots slots' : List (Option Held)) (p : ℕ) (o : Option Held) (answers : List Made) (made : Made) (most : ℕ) → HasRoom slots answers most
    → slots' ≡ slice_set slots p o → one_refused made.slot ≡ 0 → HasRoom slots' (answers ++ made ∷ []) most
room_end slots slots' p o answers made most room is slot =
    let size : length slots' ≡ length slots = ap length is ∙ length-set slots p o in
    let push = refused_push answers made in
    let few = room.few in
    let refused = room.refused in
    let spare = room.spare in
    record { few = omega (arith, size, few); refused = omega (arith, push, slot, refused); spare = omega (arith, size, spare) }
