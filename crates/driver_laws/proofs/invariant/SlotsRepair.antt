-- A REPAIR in the buffer: what it keeps of its scene, and that the request's blocks fit.
use Rattle.std.proofs.Common.{◌≡◌, inl, inr, ℕ, ◌+◌, ◌<◌, true, List, [], length, get_or-set_same, get_or-set_other, sym, ap, ◌∙◌, subst, arith, rules}
use Rattle.std.specs.Prelude.{slice_index_or, slice_set}
use Rattle.std.proofs.lemmas.Bool.{cases_eq}
use Rattle.driver_machine.specs.Repaired.{repaired}
use Rattle.driver_machine.proofs.ecc_repair.Bytes.{length-repaired}
use Rattle.main_memory.specs.Blocks.{size_at}
use Rattle.driver_machine.specs.declared.Phase.TheVariants.{Transferring}
use Rattle.driver_machine.specs.World.{transfer_of}
use Rattle.driver_machine.specs.Guards.{May}
use Rattle.driver_machine.specs.Acts as deed
use Rattle.driver_machine.specs.Acts.{Scene, effect}
use Rattle.driver_laws.proofs.invariant.Hand.{Keeps, Fits}
use Rattle.driver_laws.proofs.invariant.SlotsDeedFacts.{not_transferring}

pub repair_keeps : (line u p moved at pattern : ℕ) (s : Scene) → Keeps s (effect line u p (deed.Repair moved at pattern) s)
repair_keeps line u p moved at pattern s = first_of (search rules, grind arith)

repaired_fits : (blocks : List (List ℕ)) (n at pattern : ℕ) (size : ℕ → ℕ) (k : ℕ) → k < length blocks → length (slice_index_or blocks k []) ≡ size k
    → length (slice_index_or (slice_set blocks n (repaired at pattern (slice_index_or blocks n []))) k []) ≡ size k
repaired_fits blocks n at pattern size k lt old = elim (cases_eq k n) [
  | inl same ↦
      subst (λ (m : ℕ). length (slice_index_or (slice_set blocks n (repaired at pattern (slice_index_or blocks n []))) m []) ≡ size m) (sym same)
      (ap length (get_or-set_same blocks n (repaired at pattern (slice_index_or blocks n [])) [] (subst (λ (m : ℕ). m < length blocks) same lt))
      ∙ length-repaired 0 at pattern (slice_index_or blocks n []) ∙ subst (λ (m : ℕ). length (slice_index_or blocks m []) ≡ size m) same old)
  | inr other ↦ ap length (get_or-set_other blocks n k (repaired at pattern (slice_index_or blocks n [])) [] other) ∙ old
]

pub repair_fits : (line u p moved at pattern : ℕ) (s : Scene) → May u (deed.Repair moved at pattern) s → (s.held.on_bus ≡ true → s.unit.phase ≡ Transferring)
    → Fits s (effect line u p (deed.Repair moved at pattern) s)
repair_fits line u p moved at pattern s may bus = record {
  whole = λ k lt e. repaired_fits s.held.blocks ((transfer_of s.unit).done + moved) at pattern (λ (n : ℕ). size_at s.held.loan n) k lt e;
  bus = λ e. absurd (not_transferring u _ s may (bus e));
}
