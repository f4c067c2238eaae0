-- The text of a block, or of the front of one.
use Rattle.std.specs.Prelude.{ℕ, ◌+◌, ◌/◌, ◌%◌, ◌==◌, nat_lt, if◌then◌else◌, List, [], ◌∷◌, ◌++◌, codes, slice_index}
use Rattle.std.specs.List.{flat_map, list_all}

abbrev pub hex_digit : ℕ → ℕ
hex_digit n = if nat_lt n 10 then 48 + n else 87 + n

-- two digits, in lower case
abbrev pub hex_byte : ℕ → List ℕ
hex_byte b = hex_digit (b / 16) ∷ hex_digit (b % 16) ∷ []

-- bytes that are one byte repeated, and any other
abbrev pub content_text : List ℕ → List ℕ
content_text bytes =
    if list_all (λ b. b == slice_index bytes 0) bytes
    then codes "fill " ++ hex_byte (slice_index bytes 0) else codes "hex " ++ flat_map hex_byte bytes
