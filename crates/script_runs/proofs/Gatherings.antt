-- Texts that are gathered for the sink of the answers.
use Rattle.std.proofs.Common.{◌≡◌, ℕ, suc, ◌+◌, ◌<◌, ◌≤◌, Bool, List, [], ◌∷◌, ◌++◌, length, take, drop, sym, ap, ◌∙◌, subst, arith, append_assoc}
use Rattle.std.specs.Prelude.{Result, Ok, Err, IsOk, IsErr, OnErr, slice_index_or}
use Rattle.std.proofs.lemmas.List.{take-append-drop, take-take}
use Rattle.outside_traits.specs.Puts.{Puts}
use Rattle.outside_traits.specs.Gathers.{Gathers}
use Rattle.outside_traits.proofs.GatherLaws.{gathers_join, gathers_stop, gathers_whole}
use Rattle.trace_lines.specs.answers.AnswerText.{block_text, block_texts}
use Rattle.trace_lines.proofs.answers.TextLaws.{one_more}

-- the text of some blocks is a front of that of more
texts_append : (xs ys : List (List ℕ)) (k : ℕ) → block_texts k (xs ++ ys) ≡ block_texts k xs ++ block_texts (k + length xs) ys
texts_append [] ys k = ap (λ z. block_texts z ys) (none k)
  where
    none : (k : ℕ) → k ≡ k + 0
    none k = omega arith
texts_append (x ∷ xs) ys k =
    ap (λ z. block_text k x ++ z) (texts_append xs ys (k + 1) ∙ ap (λ z. block_texts (k + 1) xs ++ block_texts z ys) (along k (length xs)))
    ∙ sym (append_assoc (block_text k x) (block_texts (k + 1) xs) (block_texts (k + suc (length xs)) ys))
  where
    along : (k n : ℕ) → (k + 1) + n ≡ k + suc n
    along k n = omega arith

front_texts : (m n : ℕ) (xs : List (List ℕ)) → m ≤ n → block_texts 0 (take n xs) ≡ block_texts 0 (take m xs) ++ block_texts (0 + length (take m (take n xs))) (drop m (take n xs))
front_texts m n xs le =
    ap (block_texts 0) (sym (take-append-drop m (take n xs)))
    ∙ texts_append (take m (take n xs)) (drop m (take n xs)) 0
    ∙ ap (λ z. block_texts 0 z ++ block_texts (0 + length (take m (take n xs))) (drop m (take n xs))) (take-take m n xs le)

module _ {O T E U F : Type 0} (tells : O → Bool) (taken : O → List ℕ) (faults : O → ℕ) (old mid new : O) (kept held left : List ℕ) (first : Result T E) (second : Result U F) (blocks theirs : List (List ℕ)) (k : ℕ)
    (ok : IsOk first) (lt : k < length blocks) (a : Gathers tells taken faults old mid kept held first (block_texts 0 (take k blocks)))
    (same : theirs ≡ blocks) (b : Gathers tells taken faults mid new held left second (block_text k (slice_index_or theirs k []))) where
  pub blocks_more : Gathers tells taken faults old new kept left second (block_texts 0 (take (k + 1) blocks))
  blocks_more = subst (λ z. Gathers tells taken faults old new kept left second z) (sym (one_more blocks k lt))
      (gathers_join tells taken faults old mid new kept held left first second (block_texts 0 (take k blocks)) (block_text k (slice_index_or blocks k [])) ok a
      (subst (λ z. Gathers tells taken faults mid new held left second (block_text k (slice_index_or z k []))) same b))

  pub blocks_stop : {V G : Type 0} (third : Result V G) (count : ℕ) → k < count → IsErr second → IsErr third → Gathers tells taken faults old new kept left third (block_texts 0 (take count blocks))
  blocks_stop third count below err also =
      subst (λ z. Gathers tells taken faults old new kept left third z) (sym (front_texts (k + 1) count blocks (omega (arith, below))))
      (gathers_stop tells taken faults old new kept left second third (block_texts 0 (take (k + 1) blocks)) (block_texts (0 + length (take (k + 1) (take count blocks))) (drop (k + 1) (take count blocks))) err also blocks_more)

-- A TEXT that was not put whole, where nothing was kept before
pub puts_err : {O T E U F : Type 0} (tells : O → Bool) (taken : O → List ℕ) (faults : O → ℕ) (old new : O) (kept left : List ℕ) (first : Result T E) (second : Result U F) (x y : List ℕ)
    → kept ≡ [] → IsErr first → IsErr second → Gathers tells taken faults old new kept left first x → Puts tells taken faults old new second (x ++ y)
puts_err tells taken faults old new kept left first second x y none err also g =
    gathers_whole tells taken faults old new second (x ++ y)
    (subst (λ z. Gathers tells taken faults old new [] z second (x ++ y)) (empty first err g.none_kept)
    (subst (λ z. Gathers tells taken faults old new z left second (x ++ y)) none (gathers_stop tells taken faults old new kept left first second x y err also g)))
  where
    empty : {V G : Type 0} (r : Result V G) → IsErr r → OnErr r (left ≡ []) → left ≡ []
    empty (Ok v) e none = let no_way : ⊥ = cc in absurd no_way
    empty (Err v) e none = none
