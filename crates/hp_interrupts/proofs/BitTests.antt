-- Tests of one bit of a register.
use Rattle.std.proofs.Common.{◌≡◌, ℕ, ◌*◌, ◌^◌, ◌<◌, ◌==◌, ◌∙◌, ◌↔◌, sym, bit_and, arith, Bool, true, false, not, IsTrue, zero, suc, refl}
use Rattle.std.specs.Int.{bit_at}
use Rattle.std.proofs.lemmas.Nat.{pow_pos}
use Rattle.std.proofs.lemmas.Nat.Bits.{and_pow, bit_at-lt}
use Rattle.std.proofs.lemmas.Bool.{eq-eqb, ne_eqb}

true_false : true ≡ false → ⊥
true_false e = cc

-- a bit that is tested is found off exactly where it is off
pub off_exactly : (word k : ℕ) (found : Bool) → found ≡ (bit_and word (2 ^ k) == 2 ^ k) → IsTrue (not found) ↔ (bit_and word (2 ^ k) ≡ 0)
off_exactly word k found test = ((λ off. by_bit (bit_at word k) (bit_at-lt word k) (and_pow word k) (not_found found off)), (λ none. found_not found (test ∙ ne_eqb (bit_and word (2 ^ k)) (2 ^ k) (λ e. differs (pow_pos k) (sym none ∙ e)))))
  where
    not_found : (b : Bool) → IsTrue (not b) → b ≡ false
    not_found true off = absurd (true_false (sym off))
    not_found false off = refl

    found_not : (b : Bool) → b ≡ false → IsTrue (not b)
    found_not true e = absurd (true_false e)
    found_not false e = refl

    differs : {p : ℕ} → 0 < p → 0 ≡ p → ⊥
    differs some e = omega arith

    by_bit : (b : ℕ) → b < 2 → bit_and word (2 ^ k) ≡ b * 2 ^ k → found ≡ false → bit_and word (2 ^ k) ≡ 0
    by_bit zero h same off = omega arith
    by_bit (suc zero) h same off = absurd (true_false (sym (test ∙ eq-eqb (bit_and word (2 ^ k)) (2 ^ k) (omega arith)) ∙ off))
    by_bit (suc (suc b)) h same off = absurd (omega arith)
