-- What a sink took so far.
use Rattle.std.proofs.Common.{◌≡◌, ℕ, ◌+◌, ◌-◌, ◌≤◌, min, List, ◌++◌, take, drop, length, ◌∙◌, ap, sym, arith, append_assoc, length-append, length-drop, length-take}
use Rattle.std.proofs.lemmas.List.{take_all, take-append-le}
use Rattle.std.proofs.Math.Seq.{take-add}

-- the whole rest of a text is what is behind its front
pub rest_whole : (text : List ℕ) (done : ℕ) → take (length text - done) (drop done text) ≡ drop done text
rest_whole text done = let short : length (drop done text) ≤ length text - done = omega (arith, length-drop done text) in take_all (length text - done) (drop done text) short

-- a front of the rest behind a front
pub taken_more : (before middle after text : List ℕ) (done count : ℕ) → middle ≡ before ++ take done text → after ≡ middle ++ take count (take (length text - done) (drop done text)) → after ≡ before ++ take (done + count) text
taken_more before middle after text done count m a =
    a ∙ ap (λ (xs : List ℕ). middle ++ take count xs) (rest_whole text done) ∙ ap (λ (xs : List ℕ). xs ++ take count (drop done text)) m
    ∙ append_assoc before (take done text) (take count (drop done text)) ∙ ap (λ (xs : List ℕ). before ++ xs) (sym (take-add done count text))

-- a front of the rest is no longer than the rest
pub count_inside : (text : List ℕ) (done count : ℕ) → done ≤ length text → count ≤ length (take (length text - done) (drop done text)) → done + count ≤ length text
count_inside text done count d h =
    let same : length (take (length text - done) (drop done text)) ≡ length (drop done text) = ap (λ (xs : List ℕ). length xs) (rest_whole text done) in
    omega (arith, d, h, same, length-drop done text)

-- what was taken of a source is as long as what came of it
pub taken_bound : (old came new : List ℕ) (limit : ℕ) → old ≡ came ++ new → length came ≤ limit + 1 → length old ≤ length new + limit + 1
taken_bound old came new limit e h = omega (arith, h, ap length e, length-append came new)

-- what came of a source so far, and a piece more of it that lies at the front of a buffer
pub told_more : (old came left piece rest new all : List ℕ) (count : ℕ) → old ≡ came ++ left → left ≡ take count piece ++ new → all ≡ came ++ take count (piece ++ rest) → count ≤ length piece → old ≡ all ++ new
told_more old came left piece rest new all count e f a h =
    e ∙ ap (λ (xs : List ℕ). came ++ xs) f ∙ sym (append_assoc came (take count piece) new)
    ∙ ap (λ (xs : List ℕ). xs ++ new) (sym (a ∙ ap (λ (xs : List ℕ). came ++ xs) (take-append-le count piece rest h)))

-- a piece that has no more bytes than there was room for stays inside the limit
pub came_inside : (came buffer : List ℕ) (count room most limit len : ℕ) → count ≤ length (take room buffer) → room ≡ min most (limit + 1 - len) → len ≡ length came → length came ≤ limit + 1
    → length came + count ≤ limit + 1
came_inside came buffer count room most limit len h r l b = omega (arith, h, r, l, b, length-take room buffer)

pub all_inside : (came piece rest all : List ℕ) (count limit : ℕ) → all ≡ came ++ take count (piece ++ rest) → length came + count ≤ limit + 1 → length all ≤ limit + 1
all_inside came piece rest all count limit a h = omega (arith, h, ap length a, length-append came (take count (piece ++ rest)), length-take count (piece ++ rest))

-- what was taken of a source with a piece that is not kept
pub taken_with : (old came left piece new : List ℕ) (count limit : ℕ) → old ≡ came ++ left → left ≡ take count piece ++ new → length came + count ≤ limit + 1 → length old ≤ length new + limit + 1
taken_with old came left piece new count limit e f h = omega (arith, h, ap length e, ap length f, length-append came left, length-append (take count piece) new, length-take count piece)

pub taken_at_end : (old came left piece new : List ℕ) (count limit : ℕ) → old ≡ came ++ left → left ≡ take count piece ++ new → count ≡ 0 → length came ≤ limit + 1 → length old ≤ length new + limit + 1
taken_at_end old came left piece new count limit e f none h = taken_with old came left piece new count limit e f (omega (arith, none, h))

-- the end of a source leaves what came of it
pub told_at_end : (old came left piece new : List ℕ) (count : ℕ) → old ≡ came ++ left → left ≡ take count piece ++ new → count ≡ 0 → old ≡ came ++ new
told_at_end old came left piece new count e f none = e ∙ ap (λ (xs : List ℕ). came ++ xs) (f ∙ ap (λ n. take n piece ++ new) none)
