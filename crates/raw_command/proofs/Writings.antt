-- WHAT IS WRITTEN, by the two cases.
use Rattle.std.proofs.Common.{◌≡◌, ◌⊎◌, inl, inr, ℕ, ◌+◌, ◌-◌, ◌*◌, ◌/◌, ◌<◌, ◌≤◌, Bool, List, Option, length, length-append, replicate, ap, sym, subst, ◌∙◌, arith}
use Rattle.std.proofs.lemmas.List.{length-replicate}
use Rattle.outside_traits.specs.declared.traits.PackCall.{PackCall}
use Rattle.pack_geometry.specs.declared.DriveKind.{DriveKind}
use Rattle.pack_geometry.specs.Pack.{Pack}
use Rattle.partitions.specs.declared.Part.TheVariants.{B}
use Rattle.partitions.specs.Partitions.{size_of}
use Rattle.driver_laws.specs.rules.Bytes.{blocks_for, dumped, dump_place}
use Rattle.raw_command.specs.Endings.{IsBeyond, bytes_for, target_for}
use Rattle.raw_command.specs.Transfers.{WritesUnit}
use Rattle.command_parts.specs.Words.{IsPlaced, IsTarget}
use Rattle.raw_command.specs.declared.fault.TransferFault.{TransferFault}
use Rattle.command_parts.specs.declared.words.Target.{Target}
use Rattle.command_parts.specs.declared.words.Writing.{Writing}
use Rattle.command_parts.specs.declared.words.Writing.TheVariants.{Raw, Dump}

pub too_many : (n : ℕ) → n ≤ 8388608 → 8388608 < n → ⊥
too_many n few more = omega (arith, few, more)

less_or : (n m : ℕ) → (n ≤ m) ⊎ (m < n)
less_or n m = grind arith

-- memory is filled up to whole blocks
fills : (n : ℕ) → n + (512 * ((n + 511) / 512) - n) ≡ 512 * ((n + 511) / 512)
fills n = omega arith

pub length_dumped : (memory : List ℕ) → length (dumped memory) ≡ 512 * blocks_for (length memory)
length_dumped memory =
    length-append memory (replicate (512 * blocks_for (length memory) - length memory) 0)
    ∙ ap (λ (n : ℕ). length memory + n) (length-replicate (512 * blocks_for (length memory) - length memory) 0)
    ∙ fills (length memory)

-- bytes that are not refused are inside, and are not too many
pub raw_inside : (w : Writing) (t : Target) (n : ℕ) → w ≡ Raw t → ¬ (IsBeyond w n) → t.at + n ≤ 512 * size_of t.kind t.part
raw_inside w t n e inside =
    let its : ¬ (IsBeyond (Raw t) n) = subst (λ (x : Writing). ¬ (IsBeyond x n)) e inside in
    elim (less_or (t.at + n) (512 * size_of t.kind t.part)) [ inl le ↦ le | inr more ↦ absurd (its (inr more)) ]

pub dump_inside : (w : Writing) (unit : ℕ) (kind : DriveKind) (n : ℕ) → w ≡ Dump unit kind → ¬ (IsBeyond w n) → n ≤ 8388608
dump_inside w unit kind n e inside =
    let its : ¬ (IsBeyond (Dump unit kind) n) = subst (λ (x : Writing). ¬ (IsBeyond x n)) e inside in
    elim (less_or n 8388608) [ inl le ↦ le | inr more ↦ absurd (its more) ]

pub raw_placed : (w : Writing) (t : Target) → w ≡ Raw t → IsPlaced w → IsTarget t
raw_placed w t e is = subst IsPlaced e is

pub dump_placed : (w : Writing) (unit : ℕ) (kind : DriveKind) → w ≡ Dump unit kind → IsPlaced w → unit < 32
dump_placed w unit kind e is = subst IsPlaced e is

module _ {Q O : Type 0} {holds : Q → Bool} {held : Q → ℕ → Pack} {packs_faults : Q → ℕ} {failed_at : Q → PackCall} {tells : O → Bool} {taken : O → List ℕ} {faults : O → ℕ} {packs packs' : Q} {trace trace' : O}
    {why : Option TransferFault} where
  pub put_raw : (w : Writing) (t : Target) (from : List ℕ) → w ≡ Raw t → WritesUnit holds held packs_faults failed_at tells taken faults t from packs packs' trace trace' why
      → WritesUnit holds held packs_faults failed_at tells taken faults (target_for w from) (bytes_for w from) packs packs' trace trace' why
  put_raw w t from e is =
      subst (λ (x : Writing). WritesUnit holds held packs_faults failed_at tells taken faults (target_for x from) (bytes_for x from) packs packs' trace trace' why) (sym e) is

  pub put_dump : (w : Writing) (unit : ℕ) (kind : DriveKind) (from : List ℕ) → w ≡ Dump unit kind
      → WritesUnit holds held packs_faults failed_at tells taken faults (record { unit = unit; kind = kind; part = B; at = dump_place kind (length from) }) (dumped from) packs packs' trace trace' why
      → WritesUnit holds held packs_faults failed_at tells taken faults (target_for w from) (bytes_for w from) packs packs' trace trace' why
  put_dump w unit kind from e is =
      subst (λ (x : Writing). WritesUnit holds held packs_faults failed_at tells taken faults (target_for x from) (bytes_for x from) packs packs' trace trace' why) (sym e) is
