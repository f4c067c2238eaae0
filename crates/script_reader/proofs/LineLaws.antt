-- Laws of lines.
use Rattle.std.proofs.Common.{◌≡◌, ◌≢◌, ℕ, ◌+◌, ◌-◌, ◌<◌, zero, suc, List, [], ◌∷◌, length, get_or, take, drop, ap, ◌∙◌, arith}
use Rattle.std.proofs.lemmas.Grind.{common_steps}
use Rattle.std.proofs.lemmas.Bool.Decides.{nat_tests}
use Rattle.script_reader.specs.Lines.{pieces_of, onto_first}

pieces_first : (xs : List ℕ) (i : ℕ) → i < length xs → get_or xs i 0 ≡ 10 → ((k : ℕ) → k < i → get_or xs k 0 ≢ 10) → pieces_of xs ≡ take i xs ∷ pieces_of (drop (suc i) xs)
pieces_first [] i l e before = absurd (omega arith)
pieces_first (b ∷ bs) zero l e before = grind (arith, nat_tests)
pieces_first (b ∷ bs) (suc i) l e before =
    let ih : pieces_of bs ≡ take i bs ∷ pieces_of (drop (suc i) bs) = pieces_first bs i (omega arith) e (λ k h. before (suc k) (omega arith)) in
    let ne : b ≢ 10 = before 0 (omega arith) in
    let on : onto_first b (pieces_of bs) ≡ (b ∷ take i bs) ∷ pieces_of (drop (suc i) bs) = ap (onto_first b) ih in
    grind (arith, nat_tests)

pieces_none : (b : ℕ) (bs : List ℕ) → ((k : ℕ) → k < length (b ∷ bs) → get_or (b ∷ bs) k 0 ≢ 10) → pieces_of (b ∷ bs) ≡ (b ∷ bs) ∷ []
pieces_none b [] none = let ne : b ≢ 10 = none 0 (omega arith) in grind (arith, nat_tests)
pieces_none b (c ∷ cs) none =
    let ih : pieces_of (c ∷ cs) ≡ (c ∷ cs) ∷ [] = pieces_none c cs (λ k h. none (suc k) (omega arith)) in
    let ne : b ≢ 10 = none 0 (omega arith) in
    let on : onto_first b (pieces_of (c ∷ cs)) ≡ (b ∷ c ∷ cs) ∷ [] = ap (onto_first b) ih in
    grind (arith, nat_tests)

rest_is : (xs : List ℕ) (i : ℕ) → drop (suc i) xs ≡ take (length xs - (i + 1)) (drop (i + 1) xs)
rest_is xs i = grind (arith, common_steps)

-- no LF stands before a place
abbrev pub NoneBefore : ℕ → List ℕ → Type 0
NoneBefore at xs = (k : ℕ) → k < at → get_or xs k 0 ≢ 10

-- at a slice's end, as `&bytes[i + 1..]` is written
pub pieces_at : (xs : List ℕ) (i : ℕ) → i < length xs → get_or xs i 0 ≡ 10 → ((k : ℕ) → k < i → get_or xs k 0 ≢ 10) → pieces_of xs ≡ take i xs ∷ pieces_of (take (length xs - (i + 1)) (drop (i + 1) xs))
pieces_at xs i l e before = pieces_first xs i l e before ∙ ap (λ ys. take i xs ∷ pieces_of ys) (rest_is xs i)

pub pieces_whole : (xs : List ℕ) → 0 < length xs → ((k : ℕ) → k < length xs → get_or xs k 0 ≢ 10) → pieces_of xs ≡ xs ∷ []
pieces_whole [] l none = absurd (omega arith)
pieces_whole (b ∷ bs) l none = pieces_none b bs none
