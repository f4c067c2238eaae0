-- How long a text is that is put together.
use Rattle.std.proofs.Common.{◌≡◌, ℕ, ◌+◌, ◌≤◌, List, ◌++◌, length, arith, sym, subst, length-append}

pub room_of : (old words digits new : List ℕ) → new ≡ (old ++ words) ++ digits → length words ≤ 16 → length digits ≤ 22 → length new ≤ length old + 38
room_of old words digits new is short few =
    let whole : length ((old ++ words) ++ digits) ≡ length (old ++ words) + length digits = length-append (old ++ words) digits in
    let front : length (old ++ words) ≡ length old + length words = length-append old words in
    subst (λ (text : List ℕ). length text ≤ length old + 38) (sym is) (omega (arith, whole, front, short, few))
