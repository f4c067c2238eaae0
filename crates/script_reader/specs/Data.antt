-- What a write writes, in whole blocks of 512 bytes.
use Rattle.std.specs.Prelude.{◌≡◌, ◌<◌, ◌+◌, ◌/◌, ◌%◌, ℕ, Bool, true, false, List, length, slice_index, MatchResult}
use Rattle.hex.specs.Hex.{decode_sized}
use Rattle.script_lines.specs.declared.statement.Content.{Content}
use Rattle.script_lines.specs.declared.statement.Content.TheVariants as contents

-- one byte, again and again
abbrev pub IsFilled : ℕ → List ℕ → Type 0
IsFilled b bytes = (i : ℕ) → i < length bytes → slice_index bytes i ≡ b

-- byte t of block j is the sum of `first`, j and t, modulo 256
abbrev pub IsSequence : ℕ → List ℕ → Type 0
IsSequence first bytes = (i : ℕ) → i < length bytes → slice_index bytes i ≡ (first + i / 512 + i % 512) % 256

-- two digits for each of so many bytes, or an answer that there are not
abbrev pub IsDecoded : List ℕ → ℕ → Bool → List ℕ → Type 0
IsDecoded digits size told bytes = MatchResult (decode_sized digits size) (λ new. (told ≡ true) × (bytes ≡ new)) (λ e. told ≡ false)

-- so many bytes of what a write writes; only digits may be too few or too many
abbrev pub IsData : Content (List ℕ) → ℕ → Bool → List ℕ → Type 0
IsData (contents.Fill b) size told bytes = (told ≡ true) × IsFilled b bytes
IsData (contents.Seq n) size told bytes = (told ≡ true) × IsSequence n bytes
IsData (contents.Hex digits) size told bytes = IsDecoded digits size told bytes
