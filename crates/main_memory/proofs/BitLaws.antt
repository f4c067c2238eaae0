-- Laws of the words in which free frames are bits.
use Rattle.std.proofs.Common.{◌≡◌, ◌≢◌, ℕ, ◌+◌, ◌*◌, ◌/◌, ◌%◌, ◌<◌, ◌==◌, true, false, List, [], ◌∷◌, length, get_or, refl, sym, ap, ◌∙◌, arith, get_or-set_same, get_or-set_other}
use Rattle.std.proofs.Math.ListN.{set, replicate}
use Rattle.std.proofs.lemmas.Bool.{eqb-true, eqb-false}
use Rattle.std.proofs.lemmas.List.{get_or-replicate}
use Rattle.std.proofs.lemmas.Nat.Bits.{bit_at-zero, bit_at_ones}
use Rattle.std.specs.Int.{bit_at}
use Rattle.main_memory.specs.Frames.{is_free, free_frames, all_frames, with_frame}
use Rattle.main_memory.proofs.FrameLaws.{by_test, kept-agree, kept-none, kept-lowest, kept-insert, length-kept_all}

-- one word in place of another changes its own frames alone
free_elsewhere : (words : List ℕ) (i word k : ℕ) → k / 64 ≢ i → is_free (set words i word) k ≡ is_free words k
free_elsewhere words i word k ne = let e : get_or (set words i word) (k / 64) 0 ≡ get_or words (k / 64) 0 = get_or-set_other words i (k / 64) word 0 ne in rw e refl

free_here : (words : List ℕ) (i word k : ℕ) → i < length words → k / 64 ≡ i → is_free (set words i word) k ≡ (bit_at word (k % 64) == 1)
free_here words i word k inside same =
    let e : get_or (set words i word) (k / 64) 0 ≡ word = ap (λ j. get_or (set words i word) j 0) same ∙ get_or-set_same words i word 0 inside in
    rw e refl

-- a word that differs from its old one in one bit
pub record ChangesBit (old new bit : ℕ) : Type 0 where
  pub inside : bit < 64
  pub others : (j : ℕ) → j < 64 → j ≢ bit → bit_at new j ≡ bit_at old j

others_stay : (words : List ℕ) (i word bit k : ℕ) → i < length words → ChangesBit (get_or words i 0) word bit → k ≢ 64 * i + bit → is_free (set words i word) k ≡ is_free words k
others_stay words i word bit k inside changes ne =
    by_test (k / 64 == i)
    (λ here.
    let same : k / 64 ≡ i = eqb-true _ _ here in
    let apart : k % 64 ≢ bit = λ e. ne (omega arith) in
    free_here words i word k inside same
    ∙ ap (λ b. b == 1) (changes.others (k % 64) (omega arith) apart ∙ ap (λ j. bit_at (get_or words j 0) (k % 64)) (sym same)))
    (λ there. free_elsewhere words i word k (eqb-false _ _ there))

new_bit : (words : List ℕ) (i word bit : ℕ) → i < length words → bit < 64 → is_free (set words i word) (64 * i + bit) ≡ (bit_at word bit == 1)
new_bit words i word bit inside small =
    let quotient : (64 * i + bit) / 64 ≡ i = omega arith in
    let remainder : (64 * i + bit) % 64 ≡ bit = omega arith in
    free_here words i word (64 * i + bit) inside quotient ∙ ap (λ b. bit_at word b == 1) remainder

was_free : (words : List ℕ) (i bit : ℕ) → bit < 64 → bit_at (get_or words i 0) bit ≡ 1 → is_free words (64 * i + bit) ≡ true
was_free words i bit small on =
    let quotient : (64 * i + bit) / 64 ≡ i = omega arith in
    let remainder : (64 * i + bit) % 64 ≡ bit = omega arith in
    ap (λ j. bit_at (get_or words j 0) ((64 * i + bit) % 64) == 1) quotient ∙ ap (λ b. bit_at (get_or words i 0) b == 1) remainder ∙ ap (λ b. b == 1) on

lower_taken : (words : List ℕ) (i bit k : ℕ) → bit < 64 → ((j : ℕ) → j < i → get_or words j 0 ≡ 0) → ((j : ℕ) → j < bit → bit_at (get_or words i 0) j ≡ 0) → k < 64 * i + bit → is_free words k ≡ false
lower_taken words i bit k small none_before low lt =
    by_test (k / 64 == i)
    (λ here.
    let same : k / 64 ≡ i = eqb-true _ _ here in
    ap (λ j. bit_at (get_or words j 0) (k % 64) == 1) same ∙ ap (λ b. b == 1) (low (k % 64) (omega arith)))
    (λ there.
    let ne : k / 64 ≢ i = eqb-false _ _ there in
    ap (λ w. bit_at w (k % 64) == 1) (none_before (k / 64) (omega arith)) ∙ ap (λ b. b == 1) (bit_at-zero (k % 64)))

-- the lowest free frame, by the first word that has one and its lowest bit
pub free-lowest : (words : List ℕ) (i word bit : ℕ) → length words ≡ 256 → i < 256 → ((k : ℕ) → k < i → get_or words k 0 ≡ 0)
    → bit_at (get_or words i 0) bit ≡ 1 → ((j : ℕ) → j < bit → bit_at (get_or words i 0) j ≡ 0) → ChangesBit (get_or words i 0) word bit → bit_at word bit ≡ 0
    → free_frames words ≡ (64 * i + bit) ∷ free_frames (set words i word)
unfolding free_frames
free-lowest words i word bit size inside none_before on low changes off =
    let small : bit < 64 = changes.inside in
    let in_words : i < length words = omega arith in
    kept-lowest (is_free words) (is_free (set words i word)) 0 16384 (64 * i + bit) (omega arith) (omega arith)
    (λ k lt. lower_taken words i bit k small none_before low lt)
    (was_free words i bit small on)
    (λ k ne high. others_stay words i word bit k in_words changes ne)
    (new_bit words i word bit in_words small ∙ ap (λ b. b == 1) off)

-- a frame's bit set
pub free-insert : (words : List ℕ) (i word bit : ℕ) → length words ≡ 256 → i < 256 → ChangesBit (get_or words i 0) word bit → bit_at word bit ≡ 1
    → free_frames (set words i word) ≡ with_frame (64 * i + bit) (free_frames words)
unfolding free_frames
free-insert words i word bit size inside changes on =
    let small : bit < 64 = changes.inside in
    let in_words : i < length words = omega arith in
    kept-insert (is_free words) (is_free (set words i word)) 0 16384 (64 * i + bit) (omega arith) (omega arith)
    (λ k ne high. others_stay words i word bit k in_words changes ne)
    (new_bit words i word bit in_words small ∙ ap (λ b. b == 1) on)

-- words of zeros have no free frame
pub free-none : (words : List ℕ) → ((k : ℕ) → k < 256 → get_or words k 0 ≡ 0) → free_frames words ≡ []
unfolding free_frames
free-none words zeros =
    kept-none (is_free words) 0 16384
    (λ k low high. ap (λ w. bit_at w (k % 64) == 1) (zeros (k / 64) (omega arith)) ∙ ap (λ b. b == 1) (bit_at-zero (k % 64)))

-- words of ones have every frame
pub free-all : (words : List ℕ) → ((k j : ℕ) → k < 256 → j < 64 → bit_at (get_or words k 0) j ≡ 1) → free_frames words ≡ all_frames
unfolding free_frames all_frames
free-all words ones = kept-agree (is_free words) (λ _. true) 0 16384 (λ k low high. ap (λ b. b == 1) (ones (k / 64) (k % 64) (omega arith) (omega arith)))

pub length-all_frames : length all_frames ≡ 16384
unfolding all_frames
length-all_frames = length-kept_all 0 16384

-- each word all ones
pub free-ones : (words : List ℕ) → words ≡ replicate 256 18446744073709551615 → free_frames words ≡ all_frames
free-ones words is = free-all words (λ k j inside small. ap (λ ws. bit_at (get_or ws k 0) j) is ∙ one 256 k j inside small)
  where
    one : (n k j : ℕ) → k < n → j < 64 → bit_at (get_or (replicate n 18446744073709551615) k 0) j ≡ 1
    one n k j inside small = ap (λ w. bit_at w j) (get_or-replicate n k 18446744073709551615 0 inside) ∙ bit_at_ones 64 j small
