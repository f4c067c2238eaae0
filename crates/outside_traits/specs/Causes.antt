-- A call says that it failed only if the count of faults rose in that call, or stands at its last value.
use Rattle.std.specs.Prelude.{◌≡◌, ℕ, ◌+◌, ◌-◌, ◌^◌, ◌≤◌, min, Result, Ok, Err, MatchResult, OnErr}

-- a count rose, or stands at its last value
abbrev pub Rose : ℕ → ℕ → Type 0
Rose before now = min (before + 1) (2 ^ 64 - 1) ≤ now

-- the count has not fallen, and it rose where the answer is an error
pub record HasCause {T E : Type 0} (before now : ℕ) (result : Result T E) : Type 0 where
  pub later : before ≤ now
  pub failed : OnErr result (Rose before now)

-- a count that rises by one, and stands still at its last value
abbrev pub next : ℕ → ℕ
next n = min (n + 1) (2 ^ 64 - 1)

-- a count stays at an Ok, and rises by one at an Err
abbrev pub Counts : {T E : Type 0} → Result T E → ℕ → ℕ → Type 0
Counts result before now = MatchResult result (λ _. now ≡ before) (λ _. now ≡ next before)

-- an Ok is handed on, and an Err becomes this one and is counted
abbrev pub HandsOn : {T D E : Type 0} → Result T D → E → Result T E → ℕ → ℕ → Type 0
HandsOn answer failed result before now =
    MatchResult answer (λ x. (result ≡ Ok x) × (now ≡ before)) (λ _. (result ≡ Err failed) × (now ≡ next before))
