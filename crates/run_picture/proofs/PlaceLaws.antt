-- Where an id that joins a list has its place.
use Rattle.std.proofs.Common.{◌≡◌, ℕ, ◌+◌, ◌==◌, Bool, true, false, List, [], ◌∷◌, ◌++◌, length, Some, None, nat_eq, arith, refl}
use Rattle.std.proofs.lemmas.Bool.Decides.{nat_tests}
use Rattle.std.specs.HashMap.{get, Updates}
use Rattle.run_picture.specs.Places.{place_from, place_of, PlaceMap, ArePlaces}

-- it takes the place behind the others
pub place-at_end : (n : ℕ) (xs : List ℕ) (x : ℕ) → place_from n xs x ≡ None → place_from n (xs ++ x ∷ []) x ≡ Some (n + length xs)
place-at_end n [] x e = grind (arith, nat_tests)
place-at_end n (y ∷ ys) x e = let more = place-at_end (n + 1) ys x in grind (arith, nat_tests, more)

-- and the others keep theirs
pub place-elsewhere : (n : ℕ) (xs : List ℕ) (x id : ℕ) → (x == id) ≡ false → place_from n (xs ++ x ∷ []) id ≡ place_from n xs id
place-elsewhere n [] x id e = grind (arith, nat_tests)
place-elsewhere n (y ∷ ys) x id e = let more = place-elsewhere (n + 1) ys x id e in grind (arith, nat_tests, more)

-- one id, by whether it is the one that joins
place-each : (ids all : List ℕ) (old new : PlaceMap) (x n id : ℕ) (b : Bool) → (x == id) ≡ b → all ≡ ids ++ x ∷ [] → n ≡ length ids
    → ArePlaces ids old → place_of ids x ≡ None → Updates nat_eq old new x (Some n) → get nat_eq new id ≡ place_of all id
place-each ids all old new x n id true e whole at are none updates =
    let here = updates.0 id in let end = place-at_end 0 ids x none in grind (arith, nat_tests, here, end)
place-each ids all old new x n id false e whole at are none updates =
    let here = updates.0 id in let others = place-elsewhere 0 ids x id e in let before = are.each id in grind (arith, nat_tests, here, others, before)

-- a map that gains an id at the next place has each id's place
pub places_added : (ids all : List ℕ) (old new : PlaceMap) (x n : ℕ) → all ≡ ids ++ x ∷ [] → n ≡ length ids
    → ArePlaces ids old → place_of ids x ≡ None → Updates nat_eq old new x (Some n) → ArePlaces all new
places_added ids all old new x n whole at are none updates =
    record { each = λ id. place-each ids all old new x n id (x == id) refl whole at are none updates }
