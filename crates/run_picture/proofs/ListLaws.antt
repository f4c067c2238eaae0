-- A loop that writes what becomes of each element.
use Rattle.std.proofs.Common.{◌≡◌, ℕ, ◌+◌, ◌<◌, List, ◌++◌, length, map, take, drop, get_or, set, sym, subst}
use Rattle.std.proofs.lemmas.List.{get_or_default}
use Rattle.std.proofs.lemmas.List.Edits.{map_over_more}

-- one element more; the list has the same length
pub map_step : {X : Type 0} (f : X → X) (xs ys : List X) (i : ℕ) (d y : X) → i < length xs → length ys ≡ length xs
    → ys ≡ map f (take i xs) ++ drop i xs → y ≡ f (get_or ys i d) → set ys i y ≡ map f (take (i + 1) xs) ++ drop (i + 1) xs
map_step f xs ys i d y bound same so_far is =
    let inside : i < length ys = subst (λ n. i < n) (sym same) bound in
    let more = map_over_more f xs ys i (get_or ys i d) bound so_far (get_or_default ys i d (get_or ys i d) inside) in
    subst (λ w. set ys i w ≡ map f (take (i + 1) xs) ++ drop (i + 1) xs) (sym is) more
