-- The class of noise, computed from its places.
use Rattle.std.specs.Prelude.{ℕ, ◌+◌, Bool, true, false, nat_le, if◌then◌else◌, List, [], ◌∷◌}
use Rattle.std.specs.List.{list_all}
use Rattle.fire_code.specs.Remainder.{remainder}
use Rattle.fire_code.specs.Verdict.{verdict_of}
use Rattle.fire_code.specs.declared.Verdict.{Verdict}
use Rattle.fire_code.specs.declared.Verdict.TheVariants.{Clean, Burst, Uncorrectable}
use Rattle.fire_code.specs.declared.NoiseClass.{NoiseClass}
use Rattle.fire_code.specs.declared.NoiseClass.TheVariants.{Short, Shown, Alias}

-- no place lies more than 10 behind the first
abbrev pub are_near : List ℕ → Bool
are_near [] = true
are_near (first ∷ places) = list_all (λ k. nat_le k (first + 10)) places

-- it looks right, or like one with a short burst
abbrev pub looks_right : Verdict → Bool
looks_right Clean = true
looks_right (Burst at pattern) = true
looks_right Uncorrectable = false

-- the class of these places
unfoldable pub class_of : List ℕ → NoiseClass
class_of places = if are_near places then Short else if looks_right (verdict_of (remainder places)) then Alias else Shown
