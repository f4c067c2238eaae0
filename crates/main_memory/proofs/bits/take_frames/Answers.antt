use Rattle.std.proofs.Common.{◌≡◌, ◌++◌, ◌∷◌, [], ℕ, List, ap, sym, ◌∙◌, append_assoc, arith}
use Rattle.main_memory.proofs.bits.take_frames.Goals as goal

-- the head of one list moves to the end of another
moves_head : (xs ys zs all : List ℕ) (x : ℕ) → xs ++ ys ≡ all → ys ≡ x ∷ zs → (xs ++ x ∷ []) ++ zs ≡ all
moves_head xs ys zs all x whole head = append_assoc xs (x ∷ []) zs ∙ ap (λ ws. xs ++ ws) (sym head) ∙ whole

pub loop-taken-preserved : goal.loop-taken-preserved
loop-taken-preserved c = record {
  moved = rw c.push.ensures.items (moves_head _ _ _ _ _ c.loop-taken.invariant.moved c.take_lowest-frame.ensures.taken);
  so_many = omega (arith, c.push.ensures.len);
  none_before = λ k h. c.take_lowest-frame.ensures.none_before k (rw (← c.from-word.ensures) h);
}
