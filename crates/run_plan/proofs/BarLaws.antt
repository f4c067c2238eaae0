-- A bar more, and the columns that the bars stand for.
use Rattle.std.proofs.Common.{◌≡◌, ℕ, zero, suc, ◌+◌, ◌-◌, ◌<◌, ◌≤◌, List, [], ◌∷◌, ◌++◌, length, take, drop, get_or, replicate, refl, ap, sym, ◌∙◌, arith, append-nil, length-drop}
use Rattle.std.proofs.lemmas.List.{length-take-le, get_or-drop}
use Rattle.std.proofs.lemmas.Grind.{flat_map-append}
use Rattle.std.proofs.Math.Seq.{take-add}
use Rattle.drive_pictures.specs.declared.letters.Letter.{Letter}
use Rattle.drive_pictures.specs.declared.letters.Letter.TheVariants.{Idle}
use Rattle.run_plan.specs.declared.bars.Bar.{Bar}
use Rattle.run_plan.specs.Bars.{numbered, columns_in, columns_of}

-- letters, some behind others
numbered_more : (n : ℕ) (xs ys : List Letter) → numbered n (xs ++ ys) ≡ numbered n xs ++ numbered (n + length xs) ys
numbered_more n [] ys = ap (λ k. numbered k ys) (omega arith)
numbered_more n (x ∷ xs) ys =
    let e : suc n + length xs ≡ n + suc (length xs) = omega arith in
    ap (λ t. record { column = n; letter = x } ∷ t) (numbered_more (suc n) xs ys ∙ ap (λ k. numbered (suc n) xs ++ numbered k ys) e)

-- the same letter so many times
all_same : (n : ℕ) (xs : List Letter) (x : Letter) → n ≤ length xs → ((k : ℕ) → k < n → get_or xs k Idle ≡ x) → take n xs ≡ replicate n x
all_same zero xs x inside same = refl
all_same (suc n) [] x inside same = absurd (omega (arith, inside))
all_same (suc n) (y ∷ xs) x inside same =
    ap (λ t. y ∷ t) (all_same n xs x (omega (arith, inside)) (λ k lt. same (suc k) (omega (arith, lt)))) ∙ ap (λ t. t ∷ replicate n x) (same 0 (omega arith))

letters_more : (letters : List Letter) (from to : ℕ) → from < to → to ≤ length letters
    → ((k : ℕ) → from ≤ k → k < to → get_or letters k Idle ≡ get_or letters from Idle)
    → take to letters ≡ take from letters ++ replicate (to - from) (get_or letters from Idle)
letters_more letters from to some inside same =
    let e : to ≡ from + (to - from) = omega (arith, some) in
    let few : to - from ≤ length (drop from letters) = omega (arith, inside, length-drop from letters) in
    ap (λ n. take n letters) e ∙ take-add from (to - from) letters
    ∙ ap (λ t. take from letters ++ t)
    (all_same (to - from) (drop from letters) (get_or letters from Idle) few
    (λ k lt. get_or-drop from letters k Idle ∙ same (from + k) (omega arith) (omega (arith, lt))))

-- A BAR MORE
pub bar_more : (letters : List Letter) (bars : List Bar) (from to : ℕ) (letter : Letter) → from < to → to ≤ length letters
    → ((k : ℕ) → from ≤ k → k < to → get_or letters k Idle ≡ get_or letters from Idle) → letter ≡ get_or letters from Idle
    → columns_of bars ≡ numbered 0 (take from letters)
    → columns_of (bars ++ record { letter = letter; from = from; to = to } ∷ []) ≡ numbered 0 (take to letters)
bar_more letters bars from to letter some inside same is so_far =
    let before : length (take from letters) ≡ from = length-take-le from letters (omega (arith, some, inside)) in
    let there : 0 + length (take from letters) ≡ from = omega (arith, before) in
    flat_map-append columns_in bars (record { letter = letter; from = from; to = to } ∷ [])
    ∙ ap (λ t. columns_of bars ++ t) (append-nil (numbered from (replicate (to - from) letter)))
    ∙ ap (λ t. t ++ numbered from (replicate (to - from) letter)) so_far
    ∙ ap (λ l. numbered 0 (take from letters) ++ numbered from (replicate (to - from) l)) is
    ∙ ap (λ n. numbered 0 (take from letters) ++ numbered n (replicate (to - from) (get_or letters from Idle))) (sym there)
    ∙ sym (numbered_more 0 (take from letters) (replicate (to - from) (get_or letters from Idle)))
    ∙ ap (numbered 0) (sym (letters_more letters from to some inside same))
