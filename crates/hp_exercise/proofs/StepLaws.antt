-- One step of the script.
use Rattle.std.proofs.Common.{◌≡◌, ℕ, suc, ◌+◌, ◌-◌, ◌<◌, List, ◌++◌, sym, ap, ◌∙◌, arith, append_assoc, append-nil}
use Rattle.rand_core.specs.Stream.{Stream, next_u64}
use Rattle.hp_exercise.specs.Exercise.{step_text, steps_text}

step_more : (text line : List ℕ) (left n s : ℕ) (words after : Stream) (w : ℕ) → left ≡ suc n → (w, after) ≡ next_u64 words → line ≡ step_text s w → (text ++ line) ++ steps_text n (s + 1) after ≡ text ++ steps_text left s words
unfolding steps_text
step_more text line left n s words after w e p l =
    append_assoc text line (steps_text n (s + 1) after)
    ∙ ap (λ (x : List ℕ). text ++ (x ++ steps_text n (s + 1) after)) l
    ∙ ap (λ (q : ℕ × Stream). text ++ (step_text s q.0 ++ steps_text n (s + 1) q.1)) p
    ∙ ap (λ (k : ℕ). text ++ steps_text k s words) (sym e)

-- a line goes behind the text so far, and the steps that are left are one fewer
pub stepped : (text line new : List ℕ) (s : ℕ) (words after : Stream) (w : ℕ) → s < 2048 → (w, after) ≡ next_u64 words → line ≡ step_text s w → new ≡ text ++ line
    → new ++ steps_text (2048 - (s + 1)) (s + 1) after ≡ text ++ steps_text (2048 - s) s words
stepped text line new s words after w lt p l is =
    let left : 2048 - s ≡ suc (2048 - (s + 1)) = omega (arith, lt) in
    ap (λ (x : List ℕ). x ++ steps_text (2048 - (s + 1)) (s + 1) after) is ∙ step_more text line (2048 - s) (2048 - (s + 1)) s words after w left p l

-- no step is left
pub ended : (text : List ℕ) (s k : ℕ) (words : Stream) → k ≡ 0 → text ++ steps_text k s words ≡ text
unfolding steps_text
ended text s k words e = ap (λ (n : ℕ). text ++ steps_text n s words) e ∙ append-nil text
