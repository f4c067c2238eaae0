-- Laws of parts of bytes, and of two parts read and written as one.
use Rattle.std.proofs.Common.{◌≡◌, ◌⊎◌, inl, inr, ℕ, ◌+◌, ◌-◌, ◌<◌, ◌≤◌, nat_lt, List, [], ◌++◌, take, drop, length, get_or, sym, ap, ◌∙◌, arith}
use Rattle.std.proofs.Math.ListN.{set, replicate}
use Rattle.std.proofs.Math.Seq.{take-set-lt}
use Rattle.std.proofs.lemmas.Bool.{ltb-true, ltb-false}
use Rattle.std.proofs.lemmas.Grind.{common_steps, same_number_lists}
use Rattle.std.proofs.lemmas.List.{get_or-take, get_or-drop, get_or_append_left, get_or-append_right, length-replicate}
use Rattle.std.proofs.Common.{length-append}
use Rattle.main_memory.specs.Bytes.{part, with_part, front, filled}
use Rattle.main_memory.proofs.FrameLaws.{by_test}

pub length-part : (size at : ℕ) (bytes : List ℕ) → at + size ≤ length bytes → length (part size at bytes) ≡ size
unfolding part
length-part size at bytes inside = grind (arith, common_steps)

pub get_or-part : (size at : ℕ) (bytes : List ℕ) (i : ℕ) → i < size → get_or (part size at bytes) i 0 ≡ get_or bytes (at + i) 0
unfolding part
get_or-part size at bytes i small = get_or-take size (drop at bytes) i 0 small ∙ get_or-drop at bytes i 0

pub length-with_part : (at : ℕ) (new bytes : List ℕ) → at + length new ≤ length bytes → length (with_part at new bytes) ≡ length bytes
unfolding with_part
length-with_part at new bytes inside = grind (arith, common_steps)

pub with_part-none : (at : ℕ) (bytes : List ℕ) → with_part at [] bytes ≡ bytes
unfolding with_part
with_part-none at bytes = grind (arith, common_steps)

pub length-front : (size : ℕ) (bytes : List ℕ) → size ≤ length bytes → length (front size bytes) ≡ size
unfolding front
length-front size bytes inside = grind (arith, common_steps)

pub front-whole : (size : ℕ) (bytes : List ℕ) → length bytes ≡ size → front size bytes ≡ bytes
unfolding front
front-whole size bytes whole = grind (arith, common_steps)

pub length-filled : (size : ℕ) (bytes : List ℕ) → length bytes ≤ size → length (filled size bytes) ≡ size
unfolding filled
length-filled size bytes fits = omega (arith, length-append bytes (replicate (size - length bytes) 0), length-replicate {A = ℕ} (size - length bytes) 0)

pub front-filled : (size len : ℕ) (bytes : List ℕ) → length bytes ≡ len → front len (filled size bytes) ≡ bytes
unfolding front filled
front-filled size len bytes is = grind (arith, common_steps)

-- one of the first bytes set, where the others were filled up
pub front-set : (size len at byte : ℕ) (bytes : List ℕ) → length bytes ≡ len → at < len → front len (set (filled size bytes) at byte) ≡ set bytes at byte
unfolding front
front-set size len at byte bytes is inside = take-set-lt len (filled size bytes) at byte inside ∙ ap (λ (xs : List ℕ). set xs at byte) (front-filled size len bytes is)

three_before : (xs ys zs : List ℕ) (i : ℕ) → i < length xs → get_or (xs ++ (ys ++ zs)) i 0 ≡ get_or xs i 0
three_before xs ys zs i h = grind (arith, common_steps)

three_inside : (xs ys zs : List ℕ) (at i : ℕ) → length xs ≡ at → at ≤ i → i < at + length ys → get_or (xs ++ (ys ++ zs)) i 0 ≡ get_or ys (i - at) 0
three_inside xs ys zs at i l low high = grind (arith, common_steps)

three_after : (xs ys zs : List ℕ) (n i : ℕ) → length xs + length ys ≡ n → n ≤ i → get_or (xs ++ (ys ++ zs)) i 0 ≡ get_or zs (i - n) 0
three_after xs ys zs n i l h = grind (arith, common_steps)

pub get_or-with_part-before : (at : ℕ) (new bytes : List ℕ) (i : ℕ) → at ≤ length bytes → i < at → get_or (with_part at new bytes) i 0 ≡ get_or bytes i 0
unfolding with_part
get_or-with_part-before at new bytes i inside h =
    three_before (take at bytes) new (drop (at + length new) bytes) i (grind (arith, common_steps)) ∙ get_or-take at bytes i 0 h

pub get_or-with_part-inside : (at : ℕ) (new bytes : List ℕ) (i : ℕ) → at ≤ length bytes → at ≤ i → i < at + length new → get_or (with_part at new bytes) i 0 ≡ get_or new (i - at) 0
unfolding with_part
get_or-with_part-inside at new bytes i inside low high =
    three_inside (take at bytes) new (drop (at + length new) bytes) at i (grind (arith, common_steps)) low high

pub get_or-with_part-after : (at : ℕ) (new bytes : List ℕ) (i : ℕ) → at ≤ length bytes → at + length new ≤ i → get_or (with_part at new bytes) i 0 ≡ get_or bytes i 0
unfolding with_part
get_or-with_part-after at new bytes i inside h =
    let n : ℕ = at + length new in
    let back : n + (i - n) ≡ i = omega arith in
    three_after (take at bytes) new (drop n bytes) n i (grind (arith, common_steps)) h
    ∙ get_or-drop n bytes (i - n) 0 ∙ ap (λ k. get_or bytes k 0) back

-- a place outside of size bytes from another on
abbrev pub Outside : ℕ → ℕ → ℕ → Type 0
Outside i at size = (i < at) ⊎ (at + size ≤ i)

pub get_or-with_part-outside : (at : ℕ) (new bytes : List ℕ) (i : ℕ) → at ≤ length bytes → Outside i at (length new) → get_or (with_part at new bytes) i 0 ≡ get_or bytes i 0
get_or-with_part-outside at new bytes i inside (inl before) = get_or-with_part-before at new bytes i inside before
get_or-with_part-outside at new bytes i inside (inr after) = get_or-with_part-after at new bytes i inside after

-- s bytes from a on and then o bytes from c on, read and written as one
abbrev pub joined : ℕ → ℕ → ℕ → ℕ → List ℕ → List ℕ
joined a s c o bytes = part s a bytes ++ part o c bytes

abbrev pub spread : ℕ → ℕ → ℕ → ℕ → List ℕ → List ℕ → List ℕ
spread a s c o block bytes = with_part c (drop s block) (with_part a (take s block) bytes)

-- both parts lie in the bytes and do not meet
pub record Fits (a s c o n : ℕ) : Type 0 where
  pub first : a + s ≤ n
  pub second : c + o ≤ n
  pub apart : 0 < o → (a + s ≤ c) ⊎ (c + o ≤ a)

module _ (a s c o : ℕ) (block bytes : List ℕ) (whole : length block ≡ s + o) (fits : Fits a s c o (length bytes)) where
  length_first : length (take s block) ≡ s
  length_first = grind (arith, common_steps)

  length_second : length (drop s block) ≡ o
  length_second = grind (arith, common_steps)

  length_middle : length (with_part a (take s block) bytes) ≡ length bytes
  length_middle = length-with_part a (take s block) bytes (omega (arith, length_first, fits.first))

  pub length-spread : length (spread a s c o block bytes) ≡ length bytes
  length-spread = length-with_part c (drop s block) (with_part a (take s block) bytes) (omega (arith, length_second, length_middle, fits.second)) ∙ length_middle

  pub spread_second : (i : ℕ) → c ≤ i → i < c + o → get_or (spread a s c o block bytes) i 0 ≡ get_or block (s + (i - c)) 0
  spread_second i low high =
      get_or-with_part-inside c (drop s block) (with_part a (take s block) bytes) i (omega (arith, length_middle, fits.second)) low (omega (arith, length_second))
      ∙ get_or-drop s block (i - c) 0

  out_second : (i : ℕ) → Outside i c o → Outside i c (length (drop s block))
  out_second i (inl before) = inl before
  out_second i (inr after) = inr (omega (arith, length_second))

  out_first : (i : ℕ) → Outside i a s → Outside i a (length (take s block))
  out_first i (inl before) = inl before
  out_first i (inr after) = inr (omega (arith, length_first))

  pub spread_first : (i : ℕ) → Outside i c o → a ≤ i → i < a + s → get_or (spread a s c o block bytes) i 0 ≡ get_or block (i - a) 0
  spread_first i out low high =
      get_or-with_part-outside c (drop s block) (with_part a (take s block) bytes) i (omega (arith, length_middle, fits.second)) (out_second i out)
      ∙ get_or-with_part-inside a (take s block) bytes i (omega (arith, fits.first)) low (omega (arith, length_first))
      ∙ get_or-take s block (i - a) 0 (omega arith)

  pub spread_outside : (i : ℕ) → Outside i c o → Outside i a s → get_or (spread a s c o block bytes) i 0 ≡ get_or bytes i 0
  spread_outside i out_c out_a =
      get_or-with_part-outside c (drop s block) (with_part a (take s block) bytes) i (omega (arith, length_middle, fits.second)) (out_second i out_c)
      ∙ get_or-with_part-outside a (take s block) bytes i (omega (arith, fits.first)) (out_first i out_a)

module _ (a s c o : ℕ) (bytes : List ℕ) (fits : Fits a s c o (length bytes)) where
  length_a : length (part s a bytes) ≡ s
  length_a = length-part s a bytes fits.first

  pub length-joined : length (joined a s c o bytes) ≡ s + o
  length-joined = omega (arith, length-append (part s a bytes) (part o c bytes), length_a, length-part o c bytes fits.second)

  pub joined_first : (i : ℕ) → i < s → get_or (joined a s c o bytes) i 0 ≡ get_or bytes (a + i) 0
  joined_first i small = get_or_append_left (part s a bytes) (part o c bytes) 0 i (omega (arith, length_a)) ∙ get_or-part s a bytes i small

  pub joined_second : (i : ℕ) → s ≤ i → i < s + o → get_or (joined a s c o bytes) i 0 ≡ get_or bytes (c + (i - s)) 0
  joined_second i low high =
      get_or-append_right (part s a bytes) (part o c bytes) s i 0 length_a low
      ∙ get_or-part o c bytes (i - s) (omega arith)

out_of : (a s c o k : ℕ) → (0 < o → (a + s ≤ c) ⊎ (c + o ≤ a)) → k < s → Outside (a + k) c o
out_of a s c o k apart small =
    by_test (nat_lt 0 o)
    (λ some. out_by a s c o k (apart (ltb-true _ _ some)) small)
    (λ none. by_test (nat_lt (a + k) c) (λ before. inl (ltb-true _ _ before)) (λ after. inr (omega (arith, ltb-false _ _ none, ltb-false _ _ after))))
  where
    out_by : (a s c o k : ℕ) → (a + s ≤ c) ⊎ (c + o ≤ a) → k < s → Outside (a + k) c o
    out_by a s c o k (inl before) small = inl (omega arith)
    out_by a s c o k (inr after) small = inr (omega arith)

module _ (a s c o : ℕ) (block bytes : List ℕ) (whole : length block ≡ s + o) (fits : Fits a s c o (length bytes)) where
  still_fits : Fits a s c o (length (spread a s c o block bytes))
  still_fits = record { first = omega (arith, fits.first, length-spread a s c o block bytes whole fits); second = omega (arith, fits.second, length-spread a s c o block bytes whole fits); apart = fits.apart }

  read_first : (k : ℕ) → k < s → get_or (joined a s c o (spread a s c o block bytes)) k 0 ≡ get_or block k 0
  read_first k small =
      let back : (a + k) - a ≡ k = omega arith in
      joined_first a s c o (spread a s c o block bytes) still_fits k small
      ∙ spread_first a s c o block bytes whole fits (a + k) (out_of a s c o k fits.apart small) (omega arith) (omega arith)
      ∙ ap (λ (i : ℕ). get_or block i 0) back

  read_second : (k : ℕ) → s ≤ k → k < s + o → get_or (joined a s c o (spread a s c o block bytes)) k 0 ≡ get_or block k 0
  read_second k low high =
      let back : s + ((c + (k - s)) - c) ≡ k = omega arith in
      joined_second a s c o (spread a s c o block bytes) still_fits k low high
      ∙ spread_second a s c o block bytes whole fits (c + (k - s)) (omega arith) (omega arith)
      ∙ ap (λ (i : ℕ). get_or block i 0) back

  -- what was spread is read again
  pub joined-spread : joined a s c o (spread a s c o block bytes) ≡ block
  joined-spread =
      let len : length (joined a s c o (spread a s c o block bytes)) ≡ s + o = length-joined a s c o (spread a s c o block bytes) still_fits in
      same_number_lists _ _ (len ∙ sym whole) (λ k h.
      by_test (nat_lt k s) (λ lt. read_first k (ltb-true _ _ lt)) (λ ge. read_second k (ltb-false _ _ ge) (omega (arith, len))))

  -- parts apart from it stay
  pub joined-spread_other : (a' s' c' o' : ℕ) → Fits a' s' c' o' (length bytes)
      → ((k : ℕ) → k < s' → Outside (a' + k) a s × Outside (a' + k) c o) → ((k : ℕ) → k < o' → Outside (c' + k) a s × Outside (c' + k) c o)
      → joined a' s' c' o' (spread a s c o block bytes) ≡ joined a' s' c' o' bytes
  joined-spread_other a' s' c' o' others first second =
      let all : List ℕ = spread a s c o block bytes in
      let same : length all ≡ length bytes = length-spread a s c o block bytes whole fits in
      let there : Fits a' s' c' o' (length all) = record { first = omega (arith, others.first, same); second = omega (arith, others.second, same); apart = others.apart } in
      let len : length (joined a' s' c' o' all) ≡ s' + o' = length-joined a' s' c' o' all there in
      same_number_lists _ _ (len ∙ sym (length-joined a' s' c' o' bytes others)) (λ k h.
      by_test (nat_lt k s')
      (λ lt. let small : k < s' = ltb-true _ _ lt in
      joined_first a' s' c' o' all there k small
      ∙ spread_outside a s c o block bytes whole fits (a' + k) (first k small).1 (first k small).0
      ∙ sym (joined_first a' s' c' o' bytes others k small))
      (λ ge. let low : s' ≤ k = ltb-false _ _ ge in
      let high : k < s' + o' = omega (arith, len) in
      let inside : k - s' < o' = omega arith in
      joined_second a' s' c' o' all there k low high
      ∙ spread_outside a s c o block bytes whole fits (c' + (k - s')) (second (k - s') inside).1 (second (k - s') inside).0
      ∙ sym (joined_second a' s' c' o' bytes others k low high)))
