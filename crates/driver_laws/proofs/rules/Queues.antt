-- The units that are ready at an adapter, and the bits of its attentions.
use Rattle.std.proofs.Common.{◌≡◌, ◌≢◌, ℕ, ◌<◌, ◌-◌, ◌*◌, ◌^◌, ◌%◌, ◌==◌, ◌||◌, Bool, true, false, not, List, [], ◌∷◌, ◌++◌, refl, sym, ap, ◌∙◌, subst, bit_and, bit_or, w8, rules}
use Rattle.std.specs.Prelude.{if◌then◌else◌}
use Rattle.std.specs.Int.{bit_at}
use Rattle.std.proofs.lemmas.Nat.{one_shl}
use Rattle.std.proofs.lemmas.Nat.Bits.{bit_at_set_same, bit_at_set_other, bit_at_clear_same, bit_at_clear_other}
use Rattle.std.proofs.lemmas.Bool.{false≢true, true≢false, ne_eqb, eqb-true}
use Rattle.trace_replay.specs.Script.{AreApart}
use Rattle.trace_replay.specs.Moments.{Deed}
use Rattle.trace_replay.specs.Adapters.{without, with_ready, ready_after, leaves}
use Rattle.driver_laws.specs.rules.Consistent.{is_listed}

-- ---- without a unit
pub same : (n : ℕ) → (n == n) ≡ true
same n = search rules

pub gone : (n : ℕ) (xs : List ℕ) → is_listed n (without n xs) ≡ false
gone n [] = refl
gone n (x ∷ xs) = at (x == n) refl (gone n xs)
  where
    at : (b : Bool) → (x == n) ≡ b → is_listed n (without n xs) ≡ false → is_listed n (if not (x == n) then x ∷ without n xs else without n xs) ≡ false
    at true e rest = rw e rest
    at false e rest = rw (e, e) rest

pub others_stay : (n m : ℕ) (xs : List ℕ) → m ≢ n → is_listed m (without n xs) ≡ is_listed m xs
others_stay n m [] apart = refl
others_stay n m (x ∷ xs) apart = at (x == n) refl (others_stay n m xs apart)
  where
    at : (b : Bool) → (x == n) ≡ b → is_listed m (without n xs) ≡ is_listed m xs
        → is_listed m (if not (x == n) then x ∷ without n xs else without n xs) ≡ (x == m) || is_listed m xs
    at true e rest = rw e (rest ∙ ap (λ b. b || is_listed m xs) (sym (ne_eqb x m (λ is. apart (sym is ∙ eqb-true x n e)))))
    at false e rest = rw e (ap (λ b. (x == m) || b) rest)

-- ---- with a unit behind all others
listed_behind : (m : ℕ) (xs : List ℕ) (n : ℕ) → is_listed m (xs ++ n ∷ []) ≡ is_listed m xs || (n == m)
listed_behind m [] n = search rules
listed_behind m (x ∷ xs) n = at (x == m) (is_listed m (xs ++ n ∷ [])) (is_listed m xs) (n == m) (listed_behind m xs n)
  where
    at : (b c d e : Bool) → c ≡ d || e → b || c ≡ (b || d) || e
    at true c d e is = refl
    at false c d e is = is

joined_self : (w : Bool) (n : ℕ) (xs : List ℕ) → is_listed n (with_ready w n xs) ≡ w || is_listed n xs
joined_self w n xs = search (rules, listed_behind, same)

left_self : (b : Bool) (n : ℕ) (xs : List ℕ) (w : Bool) → (b ≡ false → is_listed n xs ≡ true → w ≡ true) → w || is_listed n (if b then without n xs else xs) ≡ w
left_self b n xs w stays = search (rules, gone, false≢true)

left_other : (b : Bool) (n m : ℕ) (xs : List ℕ) → m ≢ n → is_listed m (if b then without n xs else xs) ≡ is_listed m xs
left_other true n m xs apart = others_stay n m xs apart
left_other false n m xs apart = refl

pub others_joined : (w : Bool) (n m : ℕ) (xs : List ℕ) → m ≢ n → is_listed m (with_ready w n xs) ≡ is_listed m xs
others_joined w n m xs apart = search (rules, listed_behind, ne_eqb)

-- a unit is listed after a line of its own exactly where it then waits; and no other one comes or goes
pub queued_after : (w : Bool) (n : ℕ) (deed : Deed) (xs : List ℕ) → (leaves deed ≡ false → is_listed n xs ≡ true → w ≡ true) → is_listed n (ready_after w n deed xs) ≡ w
queued_after w n deed xs stays = joined_self w n (if leaves deed then without n xs else xs) ∙ left_self (leaves deed) n xs w stays

pub others_queued : (w : Bool) (n m : ℕ) (deed : Deed) (xs : List ℕ) → m ≢ n → is_listed m (ready_after w n deed xs) ≡ is_listed m xs
others_queued w n m deed xs apart = others_joined w n m (if leaves deed then without n xs else xs) apart ∙ left_other (leaves deed) n m xs apart

-- as it joins
pub queued_joined : (w : Bool) (n : ℕ) (xs : List ℕ) → (is_listed n xs ≡ true → w ≡ true) → is_listed n (with_ready w n xs) ≡ w
queued_joined w n xs stays = joined_self w n xs ∙ left_self false n xs w (λ e. stays)

-- ---- each stands once
once_without : (n : ℕ) (xs : List ℕ) → AreApart xs → AreApart (without n xs)
once_without n [] once = tt
once_without n (x ∷ xs) once = at (x == n) refl (once_without n xs once.1)
  where
    absent : (x == n) ≡ false → is_listed x (without n xs) ≡ false
    absent e = others_stay n x xs (λ is. true≢false (sym (same n) ∙ ap (λ z. z == n) (sym is) ∙ e)) ∙ once.0

    at : (b : Bool) → (x == n) ≡ b → AreApart (without n xs) → AreApart (if not (x == n) then x ∷ without n xs else without n xs)
    at true e rest = rw e rest
    at false e rest = rw e (absent e, rest)

once_behind : (n : ℕ) (xs : List ℕ) → is_listed n xs ≡ false → AreApart xs → AreApart (xs ++ n ∷ [])
once_behind n [] absent once = (refl, tt)
once_behind n (x ∷ xs) absent once = (listed_behind x xs n ∙ ap (λ b. is_listed x xs || b) (ne_eqb n x apart) ∙ or_false (is_listed x xs) ∙ once.0, once_behind n xs rest once.1)
  where
    or_false : (b : Bool) → b || false ≡ b
    or_false true = refl
    or_false false = refl

    apart : n ≢ x
    apart is = true≢false (sym (ap (λ z. (z == n) || is_listed n xs) (sym is) ∙ ap (λ b. b || is_listed n xs) (same n)) ∙ absent)

    rest : is_listed n xs ≡ false
    rest = at (x == n) (is_listed n xs) absent
      where
        at : (b c : Bool) → b || c ≡ false → c ≡ false
        at true c e = absurd (true≢false e)
        at false c e = e

pub once_joined : (w : Bool) (n : ℕ) (xs : List ℕ) → AreApart xs → AreApart (with_ready w n xs)
once_joined w n xs once = search (rules, once_behind)

pub once_after : (w : Bool) (n : ℕ) (deed : Deed) (xs : List ℕ) → AreApart xs → AreApart (ready_after w n deed xs)
once_after w n deed xs once = once_joined w n (if leaves deed then without n xs else xs) (at (leaves deed))
  where
    at : (b : Bool) → AreApart (if b then without n xs else xs)
    at true = once_without n xs once
    at false = once

-- ---- the bits
one_bit : (k : ℕ) → k < 8 → 1 * 2 ^ k % 256 ≡ 2 ^ k
one_bit k lt = one_shl k 8 lt

pub raised_same : (n k : ℕ) → k < 8 → bit_at (bit_or n (2 ^ k)) k ≡ 1
raised_same n k lt = subst (λ m. bit_at (bit_or n m) k ≡ 1) (one_bit k lt) (bit_at_set_same w8 n k lt)

pub raised_other : (n k j : ℕ) → k < 8 → j ≢ k → bit_at (bit_or n (2 ^ k)) j ≡ bit_at n j
raised_other n k j lt ne = subst (λ m. bit_at (bit_or n m) j ≡ bit_at n j) (one_bit k lt) (bit_at_set_other w8 n k lt j ne)

pub lowered_same : (n k : ℕ) → k < 8 → bit_at (bit_and n (255 - 2 ^ k)) k ≡ 0
lowered_same n k lt = subst (λ m. bit_at (bit_and n (255 - m)) k ≡ 0) (one_bit k lt) (bit_at_clear_same w8 n k lt)

pub lowered_other : (n k j : ℕ) → k < 8 → j < 8 → j ≢ k → bit_at (bit_and n (255 - 2 ^ k)) j ≡ bit_at n j
lowered_other n k j lt small ne = subst (λ m. bit_at (bit_and n (255 - m)) j ≡ bit_at n j) (one_bit k lt) (bit_at_clear_other w8 n k lt j small ne)
