-- Facts on numbers that several proofs cite.
use Rattle.std.proofs.Common.{◌≡◌, ℕ, suc, ◌+◌, ◌≤◌, arith}

pub itself : (n : ℕ) → n ≤ n
itself n = omega arith

pub through : (a b c : ℕ) → a ≤ b → b ≤ c → a ≤ c
through a b c p q = omega (arith, p, q)

pub with_none : (n : ℕ) → n ≡ n + 0
with_none n = omega arith

pub none_more : (n : ℕ) → n + 0 ≡ n
none_more n = omega arith

pub behind_none : (n : ℕ) → n ≡ 0 + n
behind_none n = omega arith

pub none_before : (n : ℕ) → 0 + n ≡ n
none_before n = omega arith

pub from_none : (n m : ℕ) → n ≤ m → 0 + n ≤ m
from_none n m le = omega (arith, le)

pub next_is : (n : ℕ) → suc n ≡ n + 1
next_is n = omega arith

pub next_over : (n m : ℕ) → suc n + m ≡ suc (n + m)
next_over n m = omega arith

pub next_along : (a n : ℕ) → (a + 1) + n ≡ a + suc n
next_along a n = omega arith

pub one_along : (a k : ℕ) → (a + k) + 1 ≡ a + (k + 1)
one_along a k = omega arith

pub longer : (n a b c : ℕ) → n ≤ a → c ≡ a + b → n ≤ c
longer n a b c le e = omega (arith, le, e)

pub both_longer : (a n b c : ℕ) → n ≤ b → c ≡ a + b → a + n ≤ c
both_longer a n b c le e = omega (arith, le, e)
