-- The line of a sector that moved clean.
use Rattle.std.proofs.Common.{◌≡◌, ℕ, List, [], ◌∷◌, ◌++◌, codes, sym, ap, ◌∙◌, refl}
use Rattle.std.proofs.lemmas.List.{append-nil}
use Rattle.trace_replay.specs.Text.{spaced}
use Rattle.trace_lines.specs.Deeds.{in_front}
use Rattle.trace_lines.proofs.WordLaws.{two_words, written}

-- the line's end, the words behind the first number, the first number and the first word
pub written_clean : (n u i b unit id block t₁ t₂ t₃ t₄ t₅ t₆ : List ℕ) → t₁ ≡ codes " clean\n"
    → t₂ ≡ in_front (b ∷ []) t₁ → b ≡ block → t₃ ≡ in_front (i ∷ []) t₂ → i ≡ id → t₄ ≡ in_front (u ∷ []) t₃ → u ≡ unit
    → t₅ ≡ n ++ t₄ → t₆ ≡ codes "sector " ++ t₅
    → t₆ ≡ codes "sector" ++ spaced (n ∷ unit ∷ id ∷ block ∷ codes "clean" ∷ []) ++ 10 ∷ []
unfolding in_front
written_clean n u i b unit id block t₁ t₂ t₃ t₄ t₅ t₆ h₁ h₂ eb h₃ ei h₄ eu h₅ h₆ =
    let clean : List ℕ = codes "clean" in
    let end : List ℕ = 10 ∷ [] in
    let moved : t₂ ≡ in_front (block ∷ clean ∷ []) end =
    h₂ ∙ ap (λ (l : List ℕ). in_front (b ∷ []) l) h₁ ∙ ap (λ (l : List ℕ). in_front (l ∷ []) (in_front (clean ∷ []) end)) eb ∙ two_words end block clean in
    let number : t₆ ≡ codes "sector" ++ in_front (n ∷ []) t₄ =
    h₆ ∙ ap (λ (l : List ℕ). codes "sector " ++ l) (h₅ ∙ ap (λ (l : List ℕ). l ++ t₄) (sym (append-nil n))) in
    written (codes "sector") n u i unit id [] (block ∷ clean ∷ []) end t₂ t₃ t₄ (in_front (n ∷ []) t₄) t₆ refl moved h₃ ei h₄ eu refl number
