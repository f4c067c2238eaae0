-- The table of logarithms, walked along the powers of x.
use Rattle.std.proofs.Common.{◌≡◌, ℕ, zero, suc, ◌+◌, ◌*◌, ◌/◌, ◌%◌, ◌^◌, ◌<◌, List, [], ◌∷◌, get_or, take, drop, Bool, true, ◌&&◌, eqb, refl, sym, ap, ◌∙◌, subst, arith}
use Rattle.std.proofs.lemmas.Bool.{and_parts, eqb-true}
use Rattle.std.proofs.lemmas.List.{get_or-take, get_or-drop}
use Rattle.std.proofs.lemmas.Nat.{mod_below}
use Rattle.fire_code.specs.declared.logarithms.TheConstants.{LOGARITHMS}
use Rattle.fire_code.specs.Residue.{clock, clock_cycle}
use Rattle.fire_code.specs.Remainder.{repeat}
use Rattle.fire_code.proofs.Register.{repeat_comm}
use Rattle.fire_code.proofs.Cycle.{each_reached}

-- a list in n pieces of a size, so that each entry is near
unfoldable pieces : ℕ → ℕ → List ℕ → List (List ℕ)
pieces size zero l = []
pieces size (suc n) l = take size l ∷ pieces size n (drop size l)

in_piece : (size n q r : ℕ) (l : List ℕ) → q < n → r < size → get_or (get_or (pieces size n l) q []) r 0 ≡ get_or l (q * size + r) 0
unfolding pieces
in_piece size zero q r l few small = absurd (omega (arith, few))
in_piece size (suc n) zero r l few small = get_or-take size l r 0 small ∙ ap (λ (i : ℕ). get_or l i 0) (first size r)
  where
    first : (size r : ℕ) → r ≡ 0 * size + r
    first size r = omega arith
in_piece size (suc n) (suc q) r l few small =
    in_piece size n q r (drop size l) (fewer q n few) small ∙ get_or-drop size l (q * size + r) 0 ∙ ap (λ (i : ℕ). get_or l i 0) (later size q r)
  where
    fewer : (q n : ℕ) → suc q < suc n → q < n
    fewer q n few = omega (arith, few)

    later : (size q r : ℕ) → size + (q * size + r) ≡ suc q * size + r
    later size q r = grind arith

-- an entry of a list in pieces of 64
unfoldable entry : List (List ℕ) → ℕ → ℕ
entry ps v = get_or (get_or ps (v / 64) []) (v % 64) 0

entry_is : (l : List ℕ) (v : ℕ) → v < 2 ^ 11 → entry (pieces 64 32 l) v ≡ get_or l v 0
unfolding entry
entry_is l v small = in_piece 64 32 (v / 64) (v % 64) l (omega (arith, small)) (mod_below v 64 (omega arith)) ∙ ap (λ (i : ℕ). get_or l i 0) (whole v)
  where
    whole : (v : ℕ) → v / 64 * 64 + v % 64 ≡ v
    whole v = omega arith

-- at v, at its successor and so on, n numbers far, the pieces have i, i + 1 and so on
unfoldable listed : List (List ℕ) → ℕ → ℕ → ℕ → Bool
listed ps zero i v = true
listed ps (suc n) i v = eqb (entry ps v) i && listed ps n (suc i) (clock_cycle v)

all_listed : listed (pieces 64 32 LOGARITHMS) 2047 0 1 ≡ true
unfolding listed entry pieces clock
all_listed = refl

listed_tells : (ps : List (List ℕ)) (n i v j : ℕ) → listed ps n i v ≡ true → j < n → entry ps (repeat clock_cycle j v) ≡ i + j
unfolding listed repeat
listed_tells ps zero i v j t h = absurd (omega arith)
listed_tells ps (suc n) i v zero t h = eqb-true (entry ps v) i (and_parts (eqb (entry ps v) i) (listed ps n (suc i) (clock_cycle v)) t).0 ∙ none i
  where
    none : (i : ℕ) → i ≡ i + 0
    none i = omega arith
listed_tells ps (suc n) i v (suc j) t h =
    ap (λ z. entry ps z) (repeat_comm clock_cycle 1 j v)
    ∙ listed_tells ps n (suc i) (clock_cycle v) j (and_parts (eqb (entry ps v) i) (listed ps n (suc i) (clock_cycle v)) t).1 (omega arith)
    ∙ next i j
  where
    next : (i j : ℕ) → suc i + j ≡ i + suc j
    next i j = omega arith

-- no other exponent below 2047 is the logarithm of w
pub logarithm_only : (w i : ℕ) → w < 2 ^ 11 → i < 2047 → repeat clock_cycle i 1 ≡ w → i ≡ get_or LOGARITHMS w 0
logarithm_only w i small lt e =
    none i ∙ sym (listed_tells (pieces 64 32 LOGARITHMS) 2047 0 1 i all_listed lt) ∙ ap (λ z. entry (pieces 64 32 LOGARITHMS) z) e ∙ entry_is LOGARITHMS w small
  where
    none : (i : ℕ) → i ≡ 0 + i
    none i = omega arith

-- the logarithm of w is its exponent
pub logarithm-is : (w : ℕ) → 0 < w → w < 2 ^ 11 → (get_or LOGARITHMS w 0 < 2047) × (repeat clock_cycle (get_or LOGARITHMS w 0) 1 ≡ w)
logarithm-is w pos small = let (i, lt, e) = each_reached w pos small in at i lt e
  where
    at : (i : ℕ) → i < 2047 → repeat clock_cycle i 1 ≡ w → (get_or LOGARITHMS w 0 < 2047) × (repeat clock_cycle (get_or LOGARITHMS w 0) 1 ≡ w)
    at i lt e = let q : get_or LOGARITHMS w 0 ≡ i = sym (logarithm_only w i small lt e) in (omega (arith, q, lt), ap (λ z. repeat clock_cycle z 1) q ∙ e)

pub logarithm_at : (i value : ℕ) → i ≡ value → 0 < value → value < 2 ^ 11 → (get_or LOGARITHMS i 0 < 2047) × (repeat clock_cycle (get_or LOGARITHMS i 0) 1 ≡ value)
logarithm_at i value e pos small = let l = logarithm-is i (subst (λ z. 0 < z) (sym e) pos) (subst (λ z. z < 2 ^ 11) (sym e) small) in (l.0, l.1 ∙ e)
