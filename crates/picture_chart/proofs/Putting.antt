-- Texts behind a line, as far as there is room.
use Rattle.std.proofs.Common.{◌≡◌, ℕ, zero, suc, ◌+◌, ◌-◌, ◌<◌, ◌≤◌, List, [], ◌∷◌, ◌++◌, length, take, get_or, refl, sym, ◌∙◌, ap, arith}
use Rattle.std.proofs.lemmas.List.{append-nil, append_assoc, length-append, take-append-le}
use Rattle.std.proofs.lemmas.Grind.{flat_map-append}
use Rattle.std.specs.List.{flat_map}
use Rattle.std.specs.Prelude.{Bool, true, false}
use Rattle.std.proofs.Math.Seq.{take-suc}
use Rattle.picture_chart.specs.Charts.{plain_of, goes_on, printed, printed_if, front, with_text, fitted, blanks, at_left, at_right}

cut_cut : (n : ℕ) (xs ys : List ℕ) → take n (take n xs ++ ys) ≡ take n (xs ++ ys)
cut_cut zero xs ys = refl
cut_cut (suc n) [] ys = refl
cut_cut (suc n) (x ∷ xs) ys = ap (λ t. x ∷ t) (cut_cut n xs ys)

take_nil : (n : ℕ) → take {A = ℕ} n [] ≡ []
take_nil zero = refl
take_nil (suc n) = refl

cut_all : (n : ℕ) (xs : List ℕ) → length xs ≤ n → take n xs ≡ xs
cut_all n [] le = take_nil n
cut_all zero (x ∷ xs) le = absurd (omega (arith, le))
cut_all (suc n) (x ∷ xs) le = ap (λ t. x ∷ t) (cut_all n xs (omega (arith, le)))

cut_full : (n : ℕ) (xs ys : List ℕ) → length xs ≤ n → n ≤ length xs → take n (xs ++ ys) ≡ xs
cut_full n xs ys le ge = take-append-le n xs ys ge ∙ cut_all n xs le

-- a text, and another behind it
cut_more : (n : ℕ) (f : ℕ → List ℕ) (line a b : List ℕ)
    → take n (take n (line ++ flat_map f a) ++ flat_map f b) ≡ take n (line ++ flat_map f (a ++ b))
cut_more n f line a b =
    cut_cut n (line ++ flat_map f a) (flat_map f b)
    ∙ ap (take n) (append_assoc line (flat_map f a) (flat_map f b) ∙ ap (λ t. line ++ t) (sym (flat_map-append f a b)))

pub text_more : (line a b : List ℕ) → with_text (with_text line a) b ≡ with_text line (a ++ b)
unfolding front
text_more line a b = cut_more 100 printed line a b

-- no text
pub text_none : (line : List ℕ) → length line ≤ 100 → line ≡ with_text line []
unfolding front
text_none line le = sym (ap (take 100) (append-nil line) ∙ cut_all 100 line le)

-- a byte, where there is room, and where there is none
pub byte_fits : (line after : List ℕ) (byte sign : ℕ) → length line < 100 → sign ≡ plain_of byte → after ≡ line ++ sign ∷ []
    → after ≡ front (line ++ plain_of byte ∷ [])
unfolding front
byte_fits line after byte sign room is e =
    let long : length (line ++ plain_of byte ∷ []) ≤ 100 = omega (arith, room, length-append line (plain_of byte ∷ [])) in
    e ∙ ap (λ p. line ++ p ∷ []) is ∙ sym (cut_all 100 (line ++ plain_of byte ∷ []) long)

pub byte_cut : (line : List ℕ) (byte : ℕ) → length line ≤ 100 → 100 ≤ length line → line ≡ front (line ++ plain_of byte ∷ [])
unfolding front
byte_cut line byte le ge = sym (cut_full 100 line (plain_of byte ∷ []) le ge)

-- a byte of a letter, or one that goes on in it
with_byte : Bool → ℕ → List ℕ → List ℕ
with_byte b byte line = front (line ++ (printed_if b byte ++ []))

pub byte_put : (line after : List ℕ) (byte : ℕ) (test : Bool) → test ≡ goes_on byte → test ≡ false → after ≡ front (line ++ plain_of byte ∷ []) → after ≡ with_text line (byte ∷ [])
unfolding with_byte
byte_put line after byte test same is e = e ∙ ap (λ b. with_byte b byte line) (sym is ∙ same)

pub byte_left : (line : List ℕ) (byte : ℕ) (test : Bool) → length line ≤ 100 → test ≡ goes_on byte → test ≡ true → line ≡ with_text line (byte ∷ [])
unfolding with_byte
byte_left line byte test le same is = text_none line le ∙ ap (λ b. with_byte b byte line) (sym is ∙ same)

-- one byte more of a text
pub text_step : (line now then bytes : List ℕ) (i : ℕ) → i < length bytes → now ≡ with_text line (take i bytes)
    → then ≡ with_text now (get_or bytes i 0 ∷ []) → then ≡ with_text line (take (i + 1) bytes)
text_step line now then bytes i bound so_far more =
    let e : suc i ≡ i + 1 = omega arith in
    more ∙ ap (λ t. with_text t (get_or bytes i 0 ∷ [])) so_far ∙ text_more line (take i bytes) (get_or bytes i 0 ∷ [])
    ∙ ap (with_text line) (sym (take-suc bytes i 0 bound)) ∙ ap (λ n. with_text line (take n bytes)) e

blanks_suc : (n : ℕ) → blanks n ++ 32 ∷ [] ≡ blanks (suc n)
blanks_suc zero = refl
blanks_suc (suc n) = ap (λ t. 32 ∷ t) (blanks_suc n)

pub blanks_step : (line now then : List ℕ) (n : ℕ) → now ≡ with_text line (blanks n) → then ≡ with_text now (32 ∷ [])
    → then ≡ with_text line (blanks (n + 1))
blanks_step line now then n so_far more =
    let e : suc n ≡ n + 1 = omega arith in
    more ∙ ap (λ t. with_text t (32 ∷ [])) so_far ∙ text_more line (blanks n) (32 ∷ [])
    ∙ ap (with_text line) (blanks_suc n) ∙ ap (λ n. with_text line (blanks n)) e

-- two texts
pub both : (line now then a b : List ℕ) → now ≡ with_text line a → then ≡ with_text now b → then ≡ with_text line (a ++ b)
both line now then a b first second = second ∙ ap (λ t. with_text t b) first ∙ text_more line a b

-- a text that fits, and blanks behind it or before it
pub left : (line now then text shown : List ℕ) (width count : ℕ) → shown ≡ fitted width text → count ≡ width - length shown
    → now ≡ with_text line shown → then ≡ with_text now (blanks count) → then ≡ with_text line (at_left width text)
left line now then text shown width count is so_many first second =
    both line now then shown (blanks count) first second
    ∙ ap (λ n. with_text line (shown ++ blanks n)) so_many
    ∙ ap (λ s. with_text line (s ++ blanks (width - length s))) is

pub right : (line now then text shown : List ℕ) (width count : ℕ) → shown ≡ fitted width text → count ≡ width - length shown
    → now ≡ with_text line (blanks count) → then ≡ with_text now shown → then ≡ with_text line (at_right width text)
right line now then text shown width count is so_many first second =
    both line now then (blanks count) shown first second
    ∙ ap (λ n. with_text line (blanks n ++ shown)) so_many
    ∙ ap (λ s. with_text line (blanks (width - length s) ++ s)) is
