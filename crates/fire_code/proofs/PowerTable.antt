-- The table of powers, walked from entry to entry.
use Rattle.std.proofs.Common.{◌≡◌, ℕ, zero, suc, ◌+◌, ◌*◌, ◌/◌, ◌<◌, List, [], ◌∷◌, length, get_or, Bool, true, ◌&&◌, eqb, refl, sym, ap, ◌∙◌, arith}
use Rattle.std.proofs.lemmas.Bool.{and_parts, eqb-true}
use Rattle.fire_code.specs.declared.tables.TheConstants.{POWERS}
use Rattle.fire_code.specs.Remainder.{times_x, repeat, power}
use Rattle.fire_code.proofs.Register.{repeat_add}
use Rattle.fire_code.proofs.Powers.{power-is}

-- the list begins with v, and each entry is eight steps on from the one before
unfoldable walked : List ℕ → ℕ → Bool
walked [] v = true
walked (x ∷ xs) v = eqb x v && walked xs (repeat times_x 8 v)

all_walked : walked POWERS 1 ≡ true
unfolding walked repeat times_x
all_walked = refl

walked_tells : (xs : List ℕ) (v i : ℕ) → walked xs v ≡ true → i < length xs → get_or xs i 0 ≡ repeat times_x (8 * i) v
unfolding walked repeat
walked_tells [] v i t h = absurd (omega arith)
walked_tells (x ∷ xs) v zero t h = eqb-true x v (and_parts (eqb x v) (walked xs (repeat times_x 8 v)) t).0
walked_tells (x ∷ xs) v (suc i) t h =
    walked_tells xs (repeat times_x 8 v) i (and_parts (eqb x v) (walked xs (repeat times_x 8 v)) t).1 (omega arith)
    ∙ sym (repeat_add times_x (8 * i) 8 v)
    ∙ ap (λ z. repeat times_x z v) (next i)
  where
    next : (i : ℕ) → 8 * i + 8 ≡ 8 * suc i
    next i = omega arith

pub powers-is : (i : ℕ) → i < 516 → get_or POWERS i 0 ≡ power (8 * i)
powers-is i h = walked_tells POWERS 1 i all_walked (inside i h) ∙ sym (power-is (8 * i))
  where
    inside : (i : ℕ) → i < 516 → i < length POWERS
    inside i h = h

pub power_entry : (i e v : ℕ) → v ≡ get_or POWERS i 0 → i ≡ e / 8 → e < 4128 → v ≡ power (8 * (e / 8))
power_entry i e v at is h = at ∙ powers-is i (omega arith) ∙ ap (λ z. power (8 * z)) is
