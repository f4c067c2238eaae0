-- What a transfer leaves as it was, by its status.
use Rattle.std.proofs.Common.{◌≡◌, ◌⊎◌, inl, inr, ℕ, true, false, Some, refl, sym, subst, arith}
use Rattle.command_parts.specs.Outside.{HasItsCause, Outside}
use Rattle.raw_command.specs.Endings.{Stays}
use Rattle.raw_command.specs.Faults.{IsReadCode, IsTransferCode}
use Rattle.command_parts.specs.Words.{reads_source as transfer_reads}
use Rattle.command_parts.specs.declared.words.Transfer.{Transfer}
use Rattle.command_parts.specs.declared.words.Transfer.TheVariants.{Read, Write}
use Rattle.pack_commands.specs.Leaves.{LeavesAlone}
use Rattle.pack_commands.specs.declared.words.Command.TheVariants.{Exercise, TransferBytes}

-- it is neither 2 nor 3
read_code : (code n : ℕ) → code ≡ n → (2 ≡ n) ⊎ (3 ≡ n) → IsReadCode code → ⊥
read_code code n e (inl two) (inl is) = omega (arith, e, two, is)
read_code code n e (inl two) (inr (inl is)) = omega (arith, e, two, is)
read_code code n e (inl two) (inr (inr (inl is))) = omega (arith, e, two, is)
read_code code n e (inl two) (inr (inr (inr (inl is)))) = omega (arith, e, two, is)
read_code code n e (inl two) (inr (inr (inr (inr (inl is))))) = omega (arith, e, two, is)
read_code code n e (inl two) (inr (inr (inr (inr (inr is))))) = omega (arith, e, two, is)
read_code code n e (inr two) (inl is) = omega (arith, e, two, is)
read_code code n e (inr two) (inr (inl is)) = omega (arith, e, two, is)
read_code code n e (inr two) (inr (inr (inl is))) = omega (arith, e, two, is)
read_code code n e (inr two) (inr (inr (inr (inl is)))) = omega (arith, e, two, is)
read_code code n e (inr two) (inr (inr (inr (inr (inl is))))) = omega (arith, e, two, is)
read_code code n e (inr two) (inr (inr (inr (inr (inr is))))) = omega (arith, e, two, is)

four_code : (code n : ℕ) → code ≡ n → (2 ≡ n) ⊎ (3 ≡ n) → code ≡ 4 → ⊥
four_code code n e (inl two) is = omega (arith, e, two, is)
four_code code n e (inr three) is = omega (arith, e, three, is)

pub no_code : (transfer : Transfer) (code n : ℕ) → code ≡ n → (2 ≡ n) ⊎ (3 ≡ n) → IsTransferCode transfer code → ⊥
no_code (Read target size) code n e which is = read_code code n e which is
no_code (Write writing) code n e which (inl is) = read_code code n e which is
no_code (Write writing) code n e which (inr is) = four_code code n e which is

traced : true ≡ false → ⊥
traced e = cc

no_exercise : (transfer : Transfer) (number : ℕ) → Some (TransferBytes transfer) ≡ Some (Exercise number) → ⊥
no_exercise transfer number e = cc

pub transfer_leaves : {S P O T : Type 0} {source source' : S} {packs packs' : P} {out out' : O} {trace trace' : T} (transfer : Transfer) (code : ℕ)
    → IsTransferCode transfer code → Stays code packs packs' out out' trace trace' → (transfer_reads transfer ≡ false → source' ≡ source)
    → LeavesAlone (Some (TransferBytes transfer)) code source source' packs packs' out out' trace trace'
transfer_leaves transfer code is stays unread = record {
  unread = unread;
  untraced_tool = λ e. absurd (traced e);
  exercise_packs = λ number e. absurd (no_exercise transfer number e);
  silent = stays.silent;
  untouched = λ e. elim e [
    | inl two ↦ absurd (no_code transfer code 2 two (inl refl) is)
    | inr (inl three) ↦ absurd (no_code transfer code 3 three (inr refl) is)
    | inr (inr four) ↦ stays.untouched four
  ];
  untraced = λ e. elim e [
    | inl three ↦ absurd (no_code transfer code 3 three (inr refl) is)
    | inr (inl four) ↦ stays.untraced (inl four)
    | inr (inr (inl seven)) ↦ stays.untraced (inr (inl seven))
    | inr (inr (inr nine)) ↦ stays.untraced (inr (inr nine))
  ];
}

-- and by the answer that the status is of
pub causes_by : {old new : Outside} (code n : ℕ) → code ≡ n → HasItsCause n old new → HasItsCause code old new
causes_by {old} {new} code n e causes = subst (λ (m : ℕ). HasItsCause m old new) (sym e) causes

pub leaves_by : {S P O T : Type 0} {source source' : S} {packs packs' : P} {out out' : O} {trace trace' : T} (transfer : Transfer) (code n : ℕ) → code ≡ n
    → IsTransferCode transfer n → Stays n packs packs' out out' trace trace' → (transfer_reads transfer ≡ false → source' ≡ source)
    → LeavesAlone (Some (TransferBytes transfer)) code source source' packs packs' out out' trace trace'
leaves_by {source = source} {source' = source'} {packs = packs} {packs' = packs'} {out = out} {out' = out'} {trace = trace} {trace' = trace'} transfer code n e is stays unread =
    subst (λ (m : ℕ). LeavesAlone (Some (TransferBytes transfer)) m source source' packs packs' out out' trace trace') (sym e)
    (transfer_leaves transfer n is stays unread)
