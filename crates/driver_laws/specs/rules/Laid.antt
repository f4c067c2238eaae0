-- BYTES LAID OVER OTHERS, as far as there is room; and from a place on.
use Rattle.std.specs.Prelude.{ℕ, List, [], ◌∷◌, ◌++◌, take, drop}

abbrev pub laid : List ℕ → List ℕ → List ℕ
laid [] into = into
laid (byte ∷ bytes) [] = []
laid (byte ∷ bytes) (old ∷ into) = byte ∷ laid bytes into

abbrev pub laid_at : ℕ → List ℕ → List ℕ → List ℕ
laid_at at bytes into = take at into ++ laid bytes (drop at into)
