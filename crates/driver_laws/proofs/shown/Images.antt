-- A sector that is written inside a pack changes nothing behind the pack.
use Rattle.std.proofs.Common.{◌≡◌, ℕ, ◌+◌, ◌*◌, ◌<◌, ◌≤◌, List, ◌++◌, take, drop, length, ◌∙◌, arith}
use Rattle.std.proofs.lemmas.List.{drop_all}
use Rattle.std.proofs.lemmas.Slice.{drop-append-drop}
use Rattle.std.proofs.lemmas.Grind.{common_steps}
use Rattle.pack_geometry.specs.Pack.{grown, with_window, with_block}
use Rattle.pack_geometry.proofs.PackLaws.{length-grown}

-- behind as many bytes as it is grown to, a list has what it had
grown_beyond : (image : List ℕ) (size many : ℕ) → size ≤ many → drop many (grown image size) ≡ drop many image
unfolding grown
grown_beyond image size many few = grind (arith, common_steps, few, drop_all)

-- of three parts, behind which the first two are no more
three_beyond : (xs ys all : List ℕ) (size many : ℕ) → length (xs ++ ys) ≡ size → size ≤ many → drop many (xs ++ ys ++ drop size all) ≡ drop many all
three_beyond xs ys all size many long few = drop-append-drop size all (xs ++ ys) many few long

pub window_beyond : (image bytes : List ℕ) (at many : ℕ) → at + length bytes ≤ many → drop many (with_window at bytes image) ≡ drop many image
unfolding with_window
window_beyond image bytes at many few =
    let n : ℕ = at + length bytes in
    let all : List ℕ = grown image n in
    three_beyond (take at all) bytes all n many (grind (arith, common_steps, length-grown)) few ∙ grown_beyond image n many few

pub block_beyond : (image bytes : List ℕ) (block count : ℕ) → length bytes ≡ 512 → block < count
    → drop (512 * count) (with_block image block bytes) ≡ drop (512 * count) image
unfolding with_block
block_beyond image bytes block count long less = window_beyond image bytes (512 * block) (512 * count) (omega (arith, long, less))
