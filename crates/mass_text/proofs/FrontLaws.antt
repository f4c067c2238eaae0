-- The text of a room that ends at a place.
use Rattle.std.proofs.Common.{◌≡◌, ℕ, ◌+◌, ◌-◌, ◌≤◌, List, ◌++◌, length, take, drop, sym, ap, ap₂, ◌∙◌, arith, length-take, length-drop, take-take}
use Rattle.std.proofs.Math.Seq.{take-append-add}

-- how long it is
pub text_length : (bytes text : List ℕ) (start end : ℕ) → start ≤ end → end ≤ length bytes → take (end - start) (drop start bytes) ≡ text → length text ≡ end - start
text_length bytes text start end inside long e =
    ap (λ (l : List ℕ). length l) (sym e) ∙ omega (arith, length-take (end - start) (drop start bytes), length-drop start bytes, inside, long)

-- it is at the front of 64 bytes
pub front_is : (text behind front : List ℕ) (n m : ℕ) → length text ≡ n → text ≡ take n behind → front ≡ take 64 (take m behind) → n ≤ 64 → n ≤ m
    → take (length text) front ≡ text
front_is text behind front n m size is same few within =
    ap₂ (λ (k : ℕ) (l : List ℕ). take k l) size same ∙ take-take n 64 (take m behind) few ∙ take-take n m behind within ∙ sym is

-- a piece that is put in front of it
pub in_front : (piece text old new : List ℕ) (start at end : ℕ) → at + length piece ≡ start → start ≤ end → take (end - start) (drop start old) ≡ text → drop at new ≡ piece ++ drop start old
    → take (end - at) (drop at new) ≡ piece ++ text
in_front piece text old new start at end begins within is put =
    let size : end - at ≡ length piece + (end - start) = omega (arith, begins, within) in
    ap₂ (λ (k : ℕ) (l : List ℕ). take k l) size put ∙ take-append-add piece (drop start old) (end - start) ∙ ap (λ (l : List ℕ). piece ++ l) is
