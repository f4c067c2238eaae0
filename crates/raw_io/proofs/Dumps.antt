-- Memory that is dumped, piece by piece.
use Rattle.std.proofs.Common.{◌≡◌, ℕ, ◌+◌, ◌-◌, ◌*◌, ◌≤◌, List, ◌++◌, length, length-append, length-take-le, take, drop, replicate, sym, ap, ◌∙◌, subst, arith}
use Rattle.std.proofs.lemmas.List.{length-replicate}
use Rattle.driver_laws.specs.rules.Bytes.{blocks_for, dumped}
use Rattle.driver_laws.proofs.rules.Dumped.{nulls, padded}

-- a piece is what is left of the memory there, and zeros
pub laid_piece : (start size : ℕ) (memory : List ℕ) → start + size ≤ 512 * blocks_for (length memory)
    → take (start + size - start) (drop start memory) ++ replicate (size - length (take (start + size - start) (drop start memory))) 0 ≡ take size (drop start (dumped memory))
laid_piece start size memory inside =
    subst (λ k. take k (drop start memory) ++ nulls (size - length (take k (drop start memory))) ≡ take size (drop start (dumped memory))) (sym (less start size))
    (sym (padded (512 * blocks_for (length memory) - length memory) size start memory (within start size (length memory) (512 * blocks_for (length memory)) inside)))
  where
    less : (a b : ℕ) → a + b - a ≡ b
    less a b = omega arith

    within : (a b c d : ℕ) → a + b ≤ d → a + b ≤ c + (d - c)
    within a b c d le = omega (arith, le)

-- the buffer has its size
pub piece_is : (size start : ℕ) (blocks buffer memory : List ℕ) → size ≤ length blocks → buffer ≡ take (length (take size blocks)) (drop start (dumped memory)) → buffer ≡ take size (drop start (dumped memory))
piece_is size start blocks buffer memory room is = is ∙ ap (λ n. take n (drop start (dumped memory))) (length-take-le size blocks room)

-- it has whole blocks
pub dumped_long : (memory : List ℕ) → length (dumped memory) ≡ 512 * blocks_for (length memory)
dumped_long memory =
    length-append memory (replicate (512 * blocks_for (length memory) - length memory) 0)
    ∙ ap (λ n. length memory + n) (length-replicate (512 * blocks_for (length memory) - length memory) 0)
    ∙ whole (length memory)
  where
    whole : (n : ℕ) → n + (512 * blocks_for n - n) ≡ 512 * blocks_for n
    whole n = omega arith
