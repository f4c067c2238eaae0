-- The places of a noise.
use Rattle.std.specs.Prelude.{ℕ, ◌+◌, ◌&&◌, nat_le, Bool, true, List, [], ◌∷◌, ◌++◌, length, Result, Ok}
use Rattle.script_lines.specs.declared.kinds.ScriptKind.{ScriptKind}
use Rattle.script_lines.specs.Fields.{and_then, place_field}

abbrev pub numbers_of : List (List ℕ) → Result (List ℕ) ScriptKind
numbers_of [] = Ok []
numbers_of (field ∷ fields) = and_then (place_field field) (λ place. and_then (numbers_of fields) (λ places. Ok (place ∷ places)))

-- these places and then those of the fields that are left
abbrev pub ahead : List ℕ → List (List ℕ) → Result (List ℕ) ScriptKind
ahead done fields = and_then (numbers_of fields) (λ places. Ok (done ++ places))

-- each is above the one before it, and the first is at least `low`
abbrev pub is_rising : ℕ → List ℕ → Bool
is_rising low [] = true
is_rising low (place ∷ places) = nat_le low place && is_rising (place + 1) places

-- at most 64 places, strictly ascending
abbrev pub are_noise : List ℕ → Bool
are_noise places = is_rising 0 places && nat_le (length places) 64
