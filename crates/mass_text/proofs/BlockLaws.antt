-- The text of a block.
use Rattle.std.proofs.Common.{◌≡◌, ℕ, zero, suc, ◌+◌, take, drop, nat_eq, ap, sym, ◌∙◌, ◌*◌, ◌/◌, ◌%◌, ◌<◌, ◌≤◌, ◌==◌, ◌&&◌, inl, inr, Bool, true, false, List, [], ◌∷◌, length, get_or, slice_index, arith, refl}
use Rattle.std.specs.List.{flat_map, list_all}
use Rattle.std.proofs.lemmas.Bool.{and_parts, cases_lt, eqb-true}
use Rattle.std.proofs.lemmas.Bool.Decides.{nat_tests}
use Rattle.std.proofs.lemmas.List.{take_all}
use lib.Pointwise.{pointwise}
use Rattle.hex.specs.Hex.{encode_with, lower_digits}
use Rattle.mass_text.specs.BlockText.{hex_digit, hex_byte, content_text}

-- each digit below a number stands in the table of digits
all_same : ℕ → Bool
all_same zero = true
all_same (suc n) = (slice_index lower_digits n == hex_digit n) && all_same n

same_at : (n d : ℕ) → all_same n ≡ true → d < n → slice_index lower_digits d ≡ hex_digit d
unfolding all_same
same_at zero d h small = absurd (omega arith)
same_at (suc n) d h small =
    let parts = and_parts (slice_index lower_digits n == hex_digit n) (all_same n) h in
    elim (cases_lt d n) [
      | inl below ↦ same_at n d parts.1 below
      | inr top ↦
          let here : d ≡ n = omega arith in
          rw here (eqb-true (slice_index lower_digits n) (hex_digit n) parts.0)
    ]

same_digit : (d : ℕ) → d < 16 → slice_index lower_digits d ≡ hex_digit d
unfolding all_same
same_digit d small = same_at 16 d refl small

-- the digits that `hex` writes
pub encode_lower-is : (bytes : List ℕ) → ((i : ℕ) → get_or bytes i 0 < 256) → encode_with lower_digits bytes ≡ flat_map hex_byte bytes
unfolding encode_with
encode_lower-is [] h = refl
encode_lower-is (b ∷ bs) h =
    let small : b < 256 = h 0 in
    let rest = encode_lower-is bs (λ i. h (suc i)) in
    rw (same_digit (b / 16) (omega arith), same_digit (b % 16) (omega arith), rest) refl

-- two digits a byte
pub length-hex : (bytes : List ℕ) → length (flat_map hex_byte bytes) ≡ 2 * length bytes
length-hex [] = refl
length-hex (b ∷ bs) = omega (arith, length-hex bs)

-- the digits of bytes that are not all equal have two places each
pub length-content_other : (bytes : List ℕ) → list_all (λ b. b == slice_index bytes 0) bytes ≡ false → length (content_text bytes) ≡ 4 + 2 * length bytes
length-content_other bytes e = rw e (omega (arith, length-hex bytes))

content_by : (bytes : List ℕ) (one : Bool) → list_all (λ b. b == slice_index bytes 0) bytes ≡ one → length bytes ≤ 512 → length (content_text bytes) ≤ 1028
content_by bytes true e size = rw e (omega arith)
content_by bytes false e size = omega (arith, length-content_other bytes e)

-- the text of a block has at most 1,028 bytes
pub length-content_text-le : (bytes : List ℕ) → length bytes ≤ 512 → length (content_text bytes) ≤ 1028
length-content_text-le bytes size = content_by bytes (list_all (λ b. b == slice_index bytes 0) bytes) refl size

-- bytes that are each the one before it are all the first
same_first : (one : Bool) (x y : ℕ) (ys : List ℕ) → (y == x) ≡ one → (one && list_all (λ b. b == y) ys) ≡ (one && list_all (λ b. b == x) ys)
same_first true x y ys e = ap (λ (z : ℕ). list_all (λ b. b == z) ys) (eqb-true y x e)
same_first false x y ys e = refl

each_before : (x : ℕ) (xs : List ℕ) (n : ℕ) → length xs ≡ n → pointwise nat_eq xs (take n (x ∷ xs)) ≡ list_all (λ b. b == x) xs
each_before x [] zero e = refl
each_before x [] (suc n) e = absurd (omega arith)
each_before x (y ∷ ys) zero e = absurd (omega arith)
each_before x (y ∷ ys) (suc n) e =
    let rest : pointwise nat_eq ys (take n (y ∷ ys)) ≡ list_all (λ b. b == y) ys = each_before y ys n (omega arith) in
    ap (λ (t : Bool). (y == x) && t) rest ∙ same_first (y == x) x y ys refl

pub repeated-is : (bytes : List ℕ) (n : ℕ) → length bytes ≡ n + 1 → pointwise nat_eq (take n (drop 1 bytes)) (take n bytes) ≡ list_all (λ b. b == slice_index bytes 0) bytes
repeated-is [] n e = absurd (omega arith)
repeated-is (x ∷ xs) n e =
    let whole : take n xs ≡ xs = take_all n xs (omega arith) in
    let same : (x == x) ≡ true = yes x in
    ap (λ (ys : List ℕ). pointwise nat_eq ys (take n (x ∷ xs))) whole ∙ each_before x xs n (omega arith)
    ∙ sym (ap (λ (t : Bool). t && list_all (λ b. b == x) xs) same)
  where
    yes : (x : ℕ) → (x == x) ≡ true
    yes x = grind (arith, nat_tests)
