-- The fields of a line.
use Rattle.std.specs.Prelude.{ℕ, ◌==◌, ◌||◌, Bool, false, not, List, [], ◌∷◌, filter, length}
use Rattle.std.specs.List.{slice_split}
use Rattle.std.specs.Str.{bytes_eq}

-- a space or a tab
abbrev pub is_blank : ℕ → Bool
is_blank b = b == 32 || b == 9

-- what stands between spaces and tabs, where anything does
abbrev pub pieces : List ℕ → List (List ℕ)
pieces line = filter (λ piece. not (length piece == 0)) (slice_split is_blank line)

-- the first field is this word
abbrev pub begins : List ℕ → List (List ℕ) → Bool
begins word [] = false
begins word (field ∷ fields) = bytes_eq field word
