-- The sum of bytes, one after another.
use Rattle.std.proofs.Common.{◌≡◌, ℕ, ◌+◌, ◌%◌, ◌<◌, ◌≤◌, List, length, sum, take, ap, sym, ◌∙◌, slice_index_or}
use Rattle.std.proofs.Math.Nat.{mod-add-mod}
use Rattle.std.proofs.lemmas.List.{take_all}
use Rattle.std.proofs.lemmas.List.Sums.{sum_by_more}

pub sum_next : (m : ℕ) (xs : List ℕ) (i so byte : ℕ) → i < length xs → so ≡ sum (take i xs) % m → byte ≡ slice_index_or xs i 0
    → (so + byte) % m ≡ sum (take (i + 1) xs) % m
sum_next m xs i so byte lt is at =
    ap (λ (n : ℕ). (n + byte) % m) is ∙ mod-add-mod (sum (take i xs)) m byte
    ∙ ap (λ (n : ℕ). n % m) (ap (λ (n : ℕ). sum (take i xs) + n) at ∙ sym (sum_by_more (λ (x : ℕ). x) xs i 0 lt))

pub sum_all : (m : ℕ) (xs : List ℕ) (i so : ℕ) → length xs ≤ i → so ≡ sum (take i xs) % m → so ≡ sum xs % m
sum_all m xs i so past is = is ∙ ap (λ (ys : List ℕ). sum ys % m) (take_all i xs past)
