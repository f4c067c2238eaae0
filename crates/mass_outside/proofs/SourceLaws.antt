-- Laws of a source in memory.
use Rattle.std.proofs.Common.{◌≡◌, ℕ, ◌+◌, ◌-◌, ◌<◌, min, List, [], ◌∷◌, ◌++◌, take, drop, length, refl, sym, ap, ◌∙◌, arith, length-drop}
use Rattle.std.proofs.lemmas.List.{take-append-drop, drop-drop, take_rest}

-- the rest of some bytes that were seen as another list
rest_seen : (seen bytes : List ℕ) (at : ℕ) → seen ≡ bytes → take (length seen - at) (drop at seen) ≡ drop at bytes
rest_seen seen bytes at same = take_rest seen at ∙ ap (λ (xs : List ℕ). drop at xs) same

split_rest : (bytes : List ℕ) (at count : ℕ) → drop at bytes ≡ take count (drop at bytes) ++ drop (at + count) bytes
split_rest bytes at count = sym (take-append-drop count (drop at bytes)) ∙ ap (λ (xs : List ℕ). take count (drop at bytes) ++ xs) (drop-drop count at bytes)

-- what was left is what was copied, and what is left
pub left_split : (seen bytes into : List ℕ) (at count : ℕ) → seen ≡ bytes → take count into ≡ take count (take (length seen - at) (drop at seen)) → drop at bytes ≡ take count into ++ drop (at + count) bytes
left_split seen bytes into at count same copied =
    split_rest bytes at count
    ∙ ap (λ (xs : List ℕ). xs ++ drop (at + count) bytes) (sym (copied ∙ ap (λ (xs : List ℕ). take count xs) (rest_seen seen bytes at same)))

-- as many bytes were copied as were left and fit
pub count_left : (seen bytes : List ℕ) (at count size : ℕ) → seen ≡ bytes → count ≡ min (length (take (length seen - at) (drop at seen))) size → count ≡ min (length (drop at bytes)) size
count_left seen bytes at count size same e = e ∙ ap (λ (xs : List ℕ). min (length xs) size) (rest_seen seen bytes at same)

empty_list : (xs : List ℕ) → length xs ≡ 0 → xs ≡ []
empty_list [] e = refl
empty_list (x ∷ xs) e = absurd (omega (arith, e))

-- where no byte was copied and there was room for one, nothing is left
pub none_left : (bytes : List ℕ) (at count size : ℕ) → count ≡ min (length (drop at bytes)) size → count ≡ 0 → 0 < size → drop (at + count) bytes ≡ []
none_left bytes at count size e none room = empty_list (drop (at + count) bytes) (omega (arith, e, none, room, length-drop at bytes, length-drop (at + count) bytes))
