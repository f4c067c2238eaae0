-- Fields that are passed over.
use Rattle.std.proofs.Common.{◌≡◌, ℕ, ◌+◌, suc, zero, List, [], ◌∷◌, get_or, drop, refl, ap, ◌∙◌}
use Rattle.std.proofs.lemmas.List.{drop-drop}

pub drop_more : (i : ℕ) (xs ys : List (List ℕ)) → ys ≡ drop i xs → drop 1 ys ≡ drop (i + 1) xs
drop_more i xs ys e = ap (λ (zs : List (List ℕ)). drop 1 zs) e ∙ drop-drop 1 i xs

first_of_rest : (i : ℕ) (xs : List (List ℕ)) → get_or (drop i xs) 0 [] ≡ get_or xs i []
first_of_rest zero xs = refl
first_of_rest (suc i) [] = refl
first_of_rest (suc i) (x ∷ xs) = first_of_rest i xs

pub eighth_of : (i : ℕ) (xs ys : List (List ℕ)) → ys ≡ drop i xs → i ≡ 7 → get_or ys 0 [] ≡ get_or xs 7 []
eighth_of i xs ys e seven = ap (λ (zs : List (List ℕ)). get_or zs 0 []) e ∙ first_of_rest i xs ∙ ap (λ (k : ℕ). get_or xs k []) seven
