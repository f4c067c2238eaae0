-- THE BLOCKS OF A READ whose answer is the oldest one.
use Rattle.std.proofs.Common.{◌≡◌, ℕ, ◌+◌, ◌<◌, ◌≤◌, IsTrue, List, [], length, drop, sym, ap, subst, ◌∙◌, arith, Option, None, Some, refl}
use Rattle.std.specs.Prelude.{if◌then◌else◌, ◌==◌, Contains, slice_index_or}
use Rattle.main_memory.specs.Blocks.{size_at}
use Rattle.trace_replay.specs.declared.requests.answers.AnswerKind.{AnswerKind}
use Rattle.trace_replay.specs.declared.requests.answers.AnswerKind.TheVariants.{ReadOk}
use Rattle.driver_machine.specs.declared.Made.{Made}
use Rattle.driver_machine.specs.World.{World, Held, held_in}
use Rattle.driver_machine.specs.Refusals.{refuses}
use Rattle.driver_machine.specs.Sound.{Sound, SlotOk, IsGiven, IsMade}
use Rattle.driver_laws.proofs.invariant.Frame.{held_is}
use Rattle.driver_laws.proofs.invariant.SlotsLists.{Contains-first}
use Rattle.hp_driver.specs.Subsystem.{IsOldest}

-- so many, each whole but for the last one
pub record IsRead (blocks : List (List ℕ)) (count last : ℕ) : Type 0 where
  pub size : length blocks ≡ count
  pub each : (k : ℕ) → k < count → length (slice_index_or blocks k []) ≡ (if k + 1 == count then last else 512)
  pub some : 1 ≤ last
  pub few : last ≤ 512

abbrev pub has_slot : Option ℕ → Type 0
has_slot o = (p : ℕ) × (o ≡ Some p)

oldest_waits : (w : World) (made : Made) → IsOldest w made → Contains w.answers made
oldest_waits w made oldest = subst (λ (answers : List Made). Contains answers made) (sym oldest.first) (Contains-first made (drop 1 w.answers))

no_refusal : (count last : ℕ) → IsTrue (refuses (ReadOk count last)) → {P : Type 0} → P
no_refusal count last e = absurd (cc e)

-- it stands in a slot
pub slot_there : (w : World) (made : Made) (count last : ℕ) → Sound w → IsOldest w made → made.answer.kind ≡ ReadOk count last → has_slot made.slot
slot_there w made count last s oldest kind = at made.slot refl
  where
    at : (o : Option ℕ) → made.slot ≡ o → has_slot o
    at None e = no_refusal count last (subst (λ (k : AnswerKind). IsTrue (refuses k)) kind (s.refused made (oldest_waits w made oldest) e))
    at (Some p) e = (p, refl)

size_here : (h : Held) (k count last : ℕ) → count ≡ h.loan.count → last ≡ h.loan.last → size_at h.loan k ≡ (if k + 1 == count then last else 512)
size_here h k count last e f = ap (λ (n : ℕ). if k + 1 == n then h.loan.last else 512) (sym e) ∙ ap (λ (n : ℕ). if k + 1 == count then n else 512) (sym f)

held_read : (w : World) (p : ℕ) (h : Held) (count last : ℕ) → SlotOk w p h → IsGiven h (ReadOk count last) → IsRead h.blocks count last
held_read w p h count last ok given =
    let many = given.1 in
    let short = given.2 in
    let is = ok.loan in record {
      size = ok.size ∙ sym many;
      each = λ k lt. ok.whole k (omega (arith, lt, many)) ∙ size_here h k count last many short;
      some = omega (arith, short, is.shape.last_some);
      few = omega (arith, short, is.shape.last_few);
    }

-- and what its slot holds is what it read
pub read_in : (w : World) (made : Made) (p count last : ℕ) → Sound w → IsOldest w made → made.answer.kind ≡ ReadOk count last → made.slot ≡ Some p
    → IsRead (held_in w p).blocks count last
read_in w made p count last s oldest kind slot =
    let m : IsMade w made p = s.answers made p (oldest_waits w made oldest) slot in
    subst (λ (h : Held). IsRead h.blocks count last) (sym (held_is w p m.held m.slot))
    (held_read w p m.held count last (s.each_slot p m.held m.slot) (subst (λ (k : AnswerKind). IsGiven m.held k) kind m.given))
