-- What a verdict says of a word's remainder.
use Rattle.std.specs.Prelude.{◌≡◌, ℕ, zero, suc, ◌+◌, ◌-◌, ◌%◌, ◌==◌, nat_lt, Bool, ◌&&◌, if◌then◌else◌, List, Option, None, Some}
use Rattle.std.specs.List.{list_all}
use Rattle.std.specs.Prelude.{unwrap_or}
use Rattle.fire_code.specs.Remainder.{remainder}
use Rattle.fire_code.specs.Burst.{IsBurst, IsUncorrectable, places_of}
use Rattle.fire_code.specs.declared.Verdict.{Verdict}
use Rattle.fire_code.specs.declared.Verdict.TheVariants.{Clean, Burst, Uncorrectable}

-- Clean: zero. Burst: that of the short burst named. Uncorrectable: neither zero nor that of a short burst
abbrev pub Judges : Verdict → ℕ → Type 0
Judges Clean r = r ≡ 0
Judges (Burst at pattern) r = IsBurst at pattern r
Judges Uncorrectable r = IsUncorrectable r

-- the verdict names just these places
abbrev pub Names : Verdict → List ℕ → Type 0
Names (Burst at pattern) places = places_of 11 (at - 1) pattern ≡ places
Names _ places = ⊥

-- THE VERDICT FOUND BY A SEARCH. The pattern, written from a place on, is a burst of the word with this remainder
unfoldable pub is_burst : (r first pattern : ℕ) → Bool
is_burst r first pattern =
    (pattern % 2 == 1) && (list_all (λ k. nat_lt k 4128) (places_of 11 first pattern) && (remainder (places_of 11 first pattern) == r))

-- what is found first, and what is found at a number below n
abbrev pub or_else : Option Verdict → Option Verdict → Option Verdict
or_else (Some verdict) later = Some verdict
or_else None later = later

unfoldable pub found_below : ℕ → (ℕ → Option Verdict) → Option Verdict
found_below zero at = None
found_below (suc n) at = or_else (at n) (found_below n at)

-- the verdict on a remainder: each place and each pattern is tried
unfoldable pub verdict_of : ℕ → Verdict
verdict_of r =
    if r == 0
    then Clean
    else unwrap_or (found_below 4128 (λ first. found_below 2048 (λ pattern. if is_burst r first pattern then Some (Burst (first + 1) pattern) else None))) Uncorrectable
