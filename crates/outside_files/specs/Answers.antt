-- What a writer's answer says.
use Rattle.std.specs.Prelude.{ℕ, ◌==◌, nat_lt, ◌&&◌, Bool, true, List, [], ⊤, Option, None, Some, Result, Ok, Err}
use Rattle.std.specs.Io.KnownBytes.{WriteAppends}

-- whether a writer's call failed: at an error, and where it took no byte of a piece that is not empty
abbrev pub takes_nothing : {E : Type 0} → Result ℕ E → ℕ → Bool
takes_nothing (Ok count) size = (count == 0) && nat_lt 0 size
takes_nothing (Err _) size = true

-- the bytes that a reader has left, or that a writer holds, where they are known
abbrev pub bytes_in : Option (List ℕ) → List ℕ
bytes_in None = []
bytes_in (Some bytes) = bytes

-- a file that was open before a write took what its writer took; what one holds that was made by the write is not known
abbrev pub TakesOn : {F E : Type 0} → (F → Option (List ℕ)) → Option F → Option F → Result ℕ E → List ℕ → Type 0
TakesOn contents None new result from = ⊤
TakesOn contents (Some old) None result from = ⊥
TakesOn contents (Some old) (Some new) result from = WriteAppends (contents old) (contents new) result from
