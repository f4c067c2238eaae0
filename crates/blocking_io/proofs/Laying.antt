-- Bytes that are laid over others, one piece behind the other.
use Rattle.std.proofs.Common.{◌≡◌, ℕ, ◌⊎◌, inl, inr, zero, suc, ◌+◌, ◌*◌, ◌<◌, ◌≤◌, List, [], ◌∷◌, ◌++◌, length, length-append, take, drop, refl, sym, ap, subst, arith, ◌∙◌, append-nil, append_assoc}
use Rattle.std.specs.Prelude.{min, slice_index_or}
use Rattle.std.proofs.Math.Nat.{min-le_left, min-le_right}
use Rattle.std.proofs.lemmas.List.{take_all}
use Rattle.std.proofs.Math.ListN.{drop_of_length-le}
use Rattle.driver_machine.specs.World.{bytes_in}
use Rattle.driver_laws.specs.rules.Laid.{laid, laid_at}
use Rattle.driver_laws.proofs.rules.Ranges.{laid_over_none, laid_more}

pub laid_none : (into : List ℕ) → laid [] into ≡ into
laid_none into = refl

-- as many as there is room for
pub laid_fits : (fits : ℕ) (bytes into : List ℕ) → fits ≤ length bytes → fits ≤ length into → (fits ≡ length bytes) ⊎ (fits ≡ length into)
    → take fits bytes ++ drop fits into ≡ laid bytes into
laid_fits zero [] into few room either = refl
laid_fits (suc fits) [] into few room either = absurd (omega (arith, few))
laid_fits zero (byte ∷ bytes) [] few room either = refl
laid_fits (suc fits) (byte ∷ bytes) [] few room either = absurd (omega (arith, room))
laid_fits zero (byte ∷ bytes) (old ∷ into) few room (inl is) = absurd (omega (arith, is))
laid_fits zero (byte ∷ bytes) (old ∷ into) few room (inr is) = absurd (omega (arith, is))
laid_fits (suc fits) (byte ∷ bytes) (old ∷ into) few room either =
    ap (λ (rest : List ℕ). byte ∷ rest) (laid_fits fits bytes into (omega (arith, few)) (omega (arith, room)) (less either))
  where
    less : (suc fits ≡ length (byte ∷ bytes)) ⊎ (suc fits ≡ length (old ∷ into)) → (fits ≡ length bytes) ⊎ (fits ≡ length into)
    less (inl is) = inl (omega (arith, is))
    less (inr is) = inr (omega (arith, is))

pub laid_least : (fits : ℕ) (bytes into : List ℕ) → fits ≡ min (length bytes) (length into) → take fits bytes ++ drop fits into ≡ laid bytes into
laid_least fits bytes into is =
    laid_fits fits bytes into (subst (λ (n : ℕ). n ≤ length bytes) (sym is) (min-le_left (length bytes) (length into)))
    (subst (λ (n : ℕ). n ≤ length into) (sym is) (min-le_right (length bytes) (length into)))
    (subst (λ (n : ℕ). (n ≡ length bytes) ⊎ (n ≡ length into)) (sym is) (either (length bytes) (length into)))
  where
    either : (a b : ℕ) → (min a b ≡ a) ⊎ (min a b ≡ b)
    either a b = grind arith

-- behind the end there is none
pub laid_behind : (at : ℕ) (bytes into : List ℕ) → length into ≤ at → laid_at at bytes into ≡ into
laid_behind at bytes into far =
    ap (λ (rest : List ℕ). take at into ++ laid bytes rest) (drop_of_length-le into far) ∙ ap (λ (rest : List ℕ). take at into ++ rest) (laid_over_none bytes)
    ∙ append-nil (take at into) ∙ take_all at into far

-- ---- THE BLOCKS of a buffer
front_more : (blocks : List (List ℕ)) (k : ℕ) → k < length blocks → bytes_in (take (suc k) blocks) ≡ bytes_in (take k blocks) ++ slice_index_or blocks k []
front_more [] k lt = absurd (omega (arith, lt))
front_more (b ∷ bs) zero lt = append-nil b
front_more (b ∷ bs) (suc k) lt =
    ap (λ (z : List ℕ). b ++ z) (front_more bs k (omega (arith, lt))) ∙ sym (append_assoc b (bytes_in (take k bs)) (slice_index_or bs k []))

front_long : (blocks : List (List ℕ)) (k : ℕ) → k ≤ length blocks → ((j : ℕ) → j < k → length (slice_index_or blocks j []) ≡ 512) → length (bytes_in (take k blocks)) ≡ 512 * k
front_long blocks zero le whole = refl
front_long [] (suc k) le whole = absurd (omega (arith, le))
front_long (b ∷ bs) (suc k) le whole =
    length-append b (bytes_in (take k bs)) ∙ ap (λ (n : ℕ). n + length (bytes_in (take k bs))) (whole 0 (omega arith))
    ∙ ap (λ (n : ℕ). 512 + n) (front_long bs k (omega (arith, le)) (λ j lt. whole (suc j) (omega (arith, lt)))) ∙ times k
  where
    times : (k : ℕ) → 512 + 512 * k ≡ 512 * suc k
    times k = omega arith

pub blocks_laid : (blocks : List (List ℕ)) (k : ℕ) (before now into : List ℕ) → k < length blocks → ((j : ℕ) → j < k → length (slice_index_or blocks j []) ≡ 512)
    → before ≡ laid (bytes_in (take k blocks)) into → now ≡ laid_at (512 * k) (slice_index_or blocks k []) before
    → now ≡ laid (bytes_in (take (k + 1) blocks)) into
blocks_laid blocks k before now into lt whole was is =
    let next : suc k ≡ k + 1 = omega arith in
    is ∙ ap (laid_at (512 * k) (slice_index_or blocks k [])) was
    ∙ ap (λ (n : ℕ). laid_at n (slice_index_or blocks k []) (laid (bytes_in (take k blocks)) into)) (sym (front_long blocks k (omega (arith, lt)) whole))
    ∙ laid_more (bytes_in (take k blocks)) (slice_index_or blocks k []) into
    ∙ ap (λ (bytes : List ℕ). laid bytes into) (sym (front_more blocks k lt))
    ∙ ap (λ (n : ℕ). laid (bytes_in (take n blocks)) into) next
