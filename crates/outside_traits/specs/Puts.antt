-- What a call that writes a text to a sink does.
use Rattle.std.specs.Prelude.{◌≡◌, ℕ, List, ◌++◌, take, Bool, IsTrue, Result, OnOk, OnErr}
use Rattle.outside_traits.specs.Causes.{HasCause}

-- a front of a text was taken behind what was taken before
abbrev pub TakesFront : List ℕ → List ℕ → List ℕ → Type 0
TakesFront before after text = (n : ℕ) × (after ≡ before ++ take n text)

-- where the sink tells: at Ok the text was taken, and at Err a front of it; a failure has its cause
pub record Puts {O T E : Type 0} (tells : O → Bool) (taken : O → List ℕ) (faults : O → ℕ) (old new : O) (result : Result T E) (text : List ℕ) : Type 0 where
  pub never_again : IsTrue (tells new) → IsTrue (tells old)
  pub bytes : OnOk result (IsTrue (tells new) → taken new ≡ taken old ++ text)
  pub front : OnErr result (IsTrue (tells new) → TakesFront (taken old) (taken new) text)
  pub cause : HasCause (faults old) (faults new) result
