use Rattle.std.specs.Prelude.{◌≡◌, ℕ, List, length, Option, Some}
use Rattle.driver_laws.specs.rules.Machine.{Blocks}

-- Requests for whole blocks of a range.

-- a block that can be used, with its 512 bytes
pub record IsBlock (block : Option (List ℕ)) : Type 0 where
  pub bytes : List ℕ
  pub is : block ≡ Some bytes
  pub long : length bytes ≡ 512

-- each block that can be used has 512
abbrev pub AreWhole : Blocks → Type 0
AreWhole blocks = (block : ℕ) (bytes : List ℕ) → blocks block ≡ Some bytes → length bytes ≡ 512
