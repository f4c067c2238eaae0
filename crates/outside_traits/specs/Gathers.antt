-- What a call that puts a text to a gathering writer does.
use Rattle.std.specs.Prelude.{◌≡◌, ℕ, List, [], ◌++◌, Bool, IsTrue, Result, Ok, OnOk, OnErr, IsOk, IsErr}
use Rattle.outside_traits.specs.Causes.{HasCause}
use Rattle.outside_traits.specs.Puts.{TakesFront, Puts}

-- Where the sink tells, a front of what was kept before and the text was taken, and at Ok the rest of it is kept. At Err nothing is
-- kept. A failure has its cause.
pub record Gathers {O T E : Type 0} (tells : O → Bool) (taken : O → List ℕ) (faults : O → ℕ) (old new : O) (kept left : List ℕ) (result : Result T E) (text : List ℕ) : Type 0 where
  pub never_again : IsTrue (tells new) → IsTrue (tells old)
  pub front : IsTrue (tells new) → TakesFront (taken old) (taken new) (kept ++ text)
  pub bytes : OnOk result (IsTrue (tells new) → taken new ++ left ≡ taken old ++ (kept ++ text))
  pub none_kept : OnErr result (left ≡ [])
  pub cause : HasCause (faults old) (faults new) result

-- to do nothing puts the empty text
abbrev pub PutsNothing : (T E : Type 0) → {O : Type 0} → (O → Bool) → (O → List ℕ) → (O → ℕ) → Type 0
PutsNothing T E {O} tells taken faults =
    (sink : O) → (kept : List ℕ) → (value : T) → Gathers {E = E} tells taken faults sink sink kept kept (Ok value) []

-- two texts that were put one after another are one text
abbrev pub Join : (T E : Type 0) → {O : Type 0} → (O → Bool) → (O → List ℕ) → (O → ℕ) → Type 0
Join T E {O} tells taken faults =
    (old middle new : O) → (kept held left : List ℕ) → (first second : Result T E) → (x y : List ℕ) → IsOk first
    → Gathers tells taken faults old middle kept held first x → Gathers tells taken faults middle new held left second y
    → Gathers tells taken faults old new kept left second (x ++ y)

-- where the first text was not put, what is to come behind it makes no difference
abbrev pub Stop : (T E : Type 0) → {O : Type 0} → (O → Bool) → (O → List ℕ) → (O → ℕ) → Type 0
Stop T E {O} tells taken faults =
    (old new : O) → (kept left : List ℕ) → (result : Result T E) → (x y : List ℕ) → IsErr result
    → Gathers tells taken faults old new kept left result x → Gathers tells taken faults old new kept left result (x ++ y)

-- where nothing was kept before, and nothing is kept after, the text was put to the sink itself
abbrev pub PutWhole : (T E : Type 0) → {O : Type 0} → (O → Bool) → (O → List ℕ) → (O → ℕ) → Type 0
PutWhole T E {O} tells taken faults =
    (old new : O) → (result : Result T E) → (text : List ℕ)
    → Gathers tells taken faults old new [] [] result text → Puts tells taken faults old new result text
