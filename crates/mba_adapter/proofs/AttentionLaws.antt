-- The attention bits of the drives.
use Rattle.std.proofs.Common.{◌≡◌, ◌<◌, ◌-◌, ◌*◌, ◌^◌, ◌%◌, ◌==◌, if◌then◌else◌, ℕ, bit_and, bit_or, inl, inr}
use Rattle.std.specs.Int.{bit_at}
use Rattle.std.proofs.Common.{w8}
use Rattle.std.proofs.lemmas.Nat.Bits.{bit_at_set_same, bit_at_set_other, bit_at_clear_same, bit_at_clear_other}
use Rattle.std.proofs.lemmas.Bool.Decides.{eqb_tells}

pub bit_at-raised : (attentions drive k : ℕ) → drive < 8
    → bit_at (bit_or attentions (1 * 2 ^ drive % 256)) k ≡ (if k == drive then 1 else bit_at attentions k)
bit_at-raised attentions drive k within =
    elim (eqb_tells k drive) [
      | inl e ↦ rw (e.0, e.1) (bit_at_set_same w8 attentions drive within)
      | inr ne ↦ rw ne.0 (bit_at_set_other w8 attentions drive within k ne.1)
    ]

pub bit_at-lowered : (attentions drive k : ℕ) → drive < 8 → k < 8
    → bit_at (bit_and attentions (255 - 1 * 2 ^ drive % 256)) k ≡ (if k == drive then 0 else bit_at attentions k)
bit_at-lowered attentions drive k within small =
    elim (eqb_tells k drive) [
      | inl e ↦ rw (e.0, e.1) (bit_at_clear_same w8 attentions drive within)
      | inr ne ↦ rw ne.0 (bit_at_clear_other w8 attentions drive within k small ne.1)
    ]
