-- Bytes that are cut into blocks.
use Rattle.std.proofs.Common.{◌≡◌, ℕ, zero, suc, ◌<◌, ◌≤◌, List, [], ◌∷◌, ◌++◌, length, take, drop, refl, ap, ap₂, ◌∙◌, arith, append-nil, length-append}
use Rattle.std.proofs.lemmas.List.{take_all, take-append-le, drop-append-le, drop_all}
use Rattle.trace_lines.specs.answers.Blocks.{cut, joined, blocks_in, AreBlocks}

-- the blocks behind the first one
pub behind_first : {size : ℕ} {block : List ℕ} {blocks : List (List ℕ)} → AreBlocks size (block ∷ blocks) → AreBlocks size blocks
behind_first are = record {
  whole = λ k h. are.whole (suc k) (omega arith);
  some = λ k h. are.some (suc k) (omega arith);
  few = λ k h. are.few (suc k) (omega arith);
}

-- the first block has bytes, and no more than the size
not_empty : (size : ℕ) (block : List ℕ) (blocks : List (List ℕ)) → 0 < size → AreBlocks size (block ∷ blocks) → 1 ≤ length block
not_empty size block [] some are = are.some 0 (omega arith)
not_empty size block (next ∷ blocks) some are = omega (arith, are.whole 0 (omega arith))

fits : (size : ℕ) (block : List ℕ) (blocks : List (List ℕ)) → AreBlocks size (block ∷ blocks) → length block ≤ size
fits size block [] are = are.few 0 (omega arith)
fits size block (next ∷ blocks) are = omega (arith, are.whole 0 (omega arith))

-- where there are bytes there is a block
joined_some : (blocks : List (List ℕ)) → 0 < length (joined blocks) → 0 < length blocks
joined_some [] h = absurd (omega arith)
joined_some (block ∷ blocks) h = omega arith

-- a block is cut off in front of the rest
cut_off : (size : ℕ) (block rest : List ℕ) → length block ≤ size → (0 < length rest → length block ≡ size) → (take size (block ++ rest) ≡ block) × (drop size (block ++ rest) ≡ rest)
cut_off size block [] few full =
    let nothing : block ++ [] ≡ block = append-nil block in
    (ap (λ (xs : List ℕ). take size xs) nothing ∙ take_all size block few, ap (λ (xs : List ℕ). drop size xs) nothing ∙ drop_all size block few)
cut_off size block (r ∷ rs) few full =
    let whole : length block ≡ size = full (omega arith) in (
      take-append-le size block (r ∷ rs) (omega arith) ∙ take_all size block few,
      drop-append-le size block (r ∷ rs) (omega arith) ∙ ap (λ (xs : List ℕ). xs ++ r ∷ rs) (drop_all size block few),
    )

pub cut-joined : (size : ℕ) (blocks : List (List ℕ)) → 0 < size → AreBlocks size blocks → (n : ℕ) → length (joined blocks) ≤ n → cut n size (joined blocks) ≡ blocks
cut-joined size [] some are zero few = refl
cut-joined size [] some are (suc n) few = refl
cut-joined size ([] ∷ blocks) some are n few = absurd (omega (arith, not_empty size [] blocks some are))
cut-joined size ((b ∷ bs) ∷ blocks) some are zero few = absurd (omega arith)
cut-joined size ((b ∷ bs) ∷ blocks) some are (suc n) few =
    let (front, rest) = cut_off size (b ∷ bs) (joined blocks) (fits size (b ∷ bs) blocks are) (λ h. are.whole 0 (omega (arith, joined_some blocks h))) in
    ap₂ (λ (xs : List ℕ) (ys : List ℕ). xs ∷ cut n size ys) front rest
    ∙ ap (λ (xss : List (List ℕ)). (b ∷ bs) ∷ xss) (cut-joined size blocks some (behind_first are) n (omega (arith, length-append bs (joined blocks))))

pub blocks_in-joined : (blocks : List (List ℕ)) → AreBlocks 512 blocks → blocks_in (joined blocks) ≡ blocks
unfolding blocks_in
blocks_in-joined blocks are = cut-joined 512 blocks (omega arith) are (length (joined blocks)) (omega arith)
