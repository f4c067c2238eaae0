-- A unit that waits no more: what is left of a queue is what passes the test.
use Rattle.std.proofs.Common.{◌≡◌, refl, ℕ, Bool, true, false, not, ◌==◌, cond, List, [], ◌∷◌, ap, filter}
use Rattle.driver_machine.specs.Acts.{without, kept_by}

kept-by : (b : Bool) (x : ℕ) (xs ys : List ℕ) → xs ≡ ys → cond (not b) (x ∷ xs) xs ≡ kept_by b x ys
kept-by true x xs ys same = same
kept-by false x xs ys same = ap (λ l. x ∷ l) same

pub without-from-filter : (u : ℕ) (xs : List ℕ) → filter (λ x. not (x == u)) xs ≡ without u xs
without-from-filter u [] = refl
without-from-filter u (x ∷ xs) = kept-by (x == u) x _ _ (without-from-filter u xs)
