-- The place of an id in a list.
use Rattle.std.specs.Prelude.{◌≡◌, ℕ, ◌+◌, ◌==◌, nat_eq, if◌then◌else◌, List, [], ◌∷◌, Option, Some, None}
use Rattle.std.specs.declared.hash.FoldHasher.{FoldHasher}
use Rattle.std.specs.declared.hash.BuildHasherDefault.{BuildHasherDefault}
use Rattle.std.specs.HashMap.{get, HashMap}

-- the first place from a number on
abbrev pub place_from : ℕ → List ℕ → ℕ → Option ℕ
place_from n [] id = None
place_from n (x ∷ xs) id = if x == id then Some n else place_from (n + 1) xs id

abbrev pub place_of : List ℕ → ℕ → Option ℕ
place_of ids id = place_from 0 ids id

abbrev pub PlaceMap : Type 0
PlaceMap = HashMap ℕ ℕ (BuildHasherDefault FoldHasher)

-- a map that has each id's place
pub record ArePlaces (ids : List ℕ) (places : PlaceMap) : Type 0 where
  pub each : (id : ℕ) → get nat_eq places id ≡ place_of ids id
