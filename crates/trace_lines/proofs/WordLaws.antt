-- Words in front of a text.
use Rattle.std.proofs.Common.{◌≡◌, ℕ, List, [], ◌∷◌, ◌++◌, sym, ap, ◌∙◌, refl, append_assoc}
use Rattle.trace_replay.specs.Text.{spaced}
use Rattle.trace_lines.specs.Deeds.{in_front}

spaced-append : (xs ys : List (List ℕ)) → spaced xs ++ spaced ys ≡ spaced (xs ++ ys)
spaced-append [] ys = refl
spaced-append (x ∷ xs) ys = append_assoc (32 ∷ x) (spaced xs) (spaced ys) ∙ ap (λ (l : List ℕ). (32 ∷ x) ++ l) (spaced-append xs ys)

-- words in front of words
pub more_words : (text : List ℕ) (xs ys : List (List ℕ)) → in_front xs (in_front ys text) ≡ in_front (xs ++ ys) text
unfolding in_front
more_words text xs ys = sym (append_assoc (spaced xs) (spaced ys) text) ∙ ap (λ (l : List ℕ). l ++ text) (spaced-append xs ys)

one_more : (text x : List ℕ) (ys : List (List ℕ)) → in_front (x ∷ []) (in_front ys text) ≡ in_front (x ∷ ys) text
one_more text x ys = more_words text (x ∷ []) ys

pub two_words : (text : List ℕ) (x y : List ℕ) → in_front (x ∷ []) (in_front (y ∷ []) text) ≡ in_front (x ∷ y ∷ []) text
two_words text x y = more_words text (x ∷ []) (y ∷ [])

pub no_words : (text : List ℕ) → text ≡ in_front [] text
unfolding in_front
no_words text = refl

-- the line's end, the last words, three words and the first one, in front of what else stands there
pub written : (first n u i unit id rest : List ℕ) (last : List (List ℕ)) (t₀ t₁ t₂ t₃ t₄ t₅ : List ℕ) → t₀ ≡ 10 ∷ rest
    → t₁ ≡ in_front last t₀ → t₂ ≡ in_front (i ∷ []) t₁ → i ≡ id → t₃ ≡ in_front (u ∷ []) t₂ → u ≡ unit → t₄ ≡ in_front (n ∷ []) t₃ → t₅ ≡ first ++ t₄
    → t₅ ≡ (first ++ spaced (n ∷ unit ∷ id ∷ last)) ++ 10 ∷ rest
unfolding in_front
written first n u i unit id rest last t₀ t₁ t₂ t₃ t₄ t₅ h₀ h₁ h₂ ei h₃ eu h₄ h₅ =
    let end : List ℕ = 10 ∷ rest in
    let e₁ : t₁ ≡ in_front last end = h₁ ∙ ap (λ (l : List ℕ). in_front last l) h₀ in
    let e₂ : t₂ ≡ in_front (id ∷ last) end =
    h₂ ∙ ap (λ (l : List ℕ). in_front (i ∷ []) l) e₁ ∙ ap (λ (l : List ℕ). in_front (l ∷ []) (in_front last end)) ei ∙ one_more end id last in
    let e₃ : t₃ ≡ in_front (unit ∷ id ∷ last) end =
    h₃ ∙ ap (λ (l : List ℕ). in_front (u ∷ []) l) e₂ ∙ ap (λ (l : List ℕ). in_front (l ∷ []) (in_front (id ∷ last) end)) eu ∙ one_more end unit (id ∷ last) in
    let e₄ : t₄ ≡ in_front (n ∷ unit ∷ id ∷ last) end = h₄ ∙ ap (λ (l : List ℕ). in_front (n ∷ []) l) e₃ ∙ one_more end n (unit ∷ id ∷ last) in
    h₅ ∙ ap (λ (l : List ℕ). first ++ l) e₄ ∙ sym (append_assoc first (spaced (n ∷ unit ∷ id ∷ last)) end)

-- the line's end, one word and the first one
pub written_short : (first n t₀ t₁ t₂ : List ℕ) → t₀ ≡ 10 ∷ [] → t₁ ≡ in_front (n ∷ []) t₀ → t₂ ≡ first ++ t₁ → t₂ ≡ (first ++ spaced (n ∷ [])) ++ 10 ∷ []
unfolding in_front
written_short first n t₀ t₁ t₂ h₀ h₁ h₂ =
    h₂ ∙ ap (λ (l : List ℕ). first ++ l) (h₁ ∙ ap (λ (l : List ℕ). in_front (n ∷ []) l) h₀) ∙ sym (append_assoc first (spaced (n ∷ [])) (10 ∷ []))
