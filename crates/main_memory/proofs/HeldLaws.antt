-- Bytes of which a front is held, and the others are zeros.
use Rattle.std.proofs.Common.{◌≡◌, ℕ, ◌+◌, ◌-◌, ◌<◌, ◌≤◌, nat_lt, List, ◌++◌, length, get_or, refl, sym, ap, ◌∙◌, arith, length-append}
use Rattle.std.specs.Prelude.{min}
use Rattle.std.proofs.Math.ListN.{replicate}
use Rattle.std.proofs.lemmas.Bool.{ltb-true, ltb-false}
use Rattle.std.proofs.lemmas.Grind.{same_number_lists}
use Rattle.std.proofs.lemmas.List.{get_or_past, get_or_append_left, get_or-append_right, length-replicate, get_or-replicate}
use Rattle.main_memory.specs.Bytes.{part, with_part, filled}
use Rattle.main_memory.proofs.FrameLaws.{by_test}
use Rattle.main_memory.proofs.ByteLaws.{length-part, get_or-part, length-with_part, get_or-with_part-before, get_or-with_part-inside, get_or-with_part-after, length-filled}

zeros_at : (n i : ℕ) → get_or {A = ℕ} (replicate n 0) i 0 ≡ 0
zeros_at n i =
    by_test (nat_lt i n)
    (λ inside. get_or-replicate n i 0 0 (ltb-true _ _ inside))
    (λ past. get_or_past (replicate n 0) i 0 (omega (arith, ltb-false _ _ past, length-replicate {A = ℕ} n 0)))

-- byte by byte zeros at the end make no difference
pub filled_at : (n : ℕ) (held : List ℕ) (i : ℕ) → get_or (filled n held) i 0 ≡ get_or held i 0
unfolding filled
filled_at n held i =
    by_test (nat_lt i (length held))
    (λ inside. get_or_append_left held (replicate (n - length held) 0) 0 i (ltb-true _ _ inside))
    (λ past. let ge : length held ≤ i = ltb-false _ _ past in
    get_or-append_right held (replicate (n - length held) 0) (length held) i 0 refl ge ∙ zeros_at (n - length held) (i - length held) ∙ sym (get_or_past held i 0 ge))

pub length-filled_more : (m n : ℕ) (held : List ℕ) → m ≤ n → length held ≤ n → length (filled m held) ≤ n
unfolding filled
length-filled_more m n held less inside = omega (arith, length-append held (replicate (m - length held) 0), length-replicate {A = ℕ} (m - length held) 0)

pub reaches : (m : ℕ) (held : List ℕ) → m ≤ length (filled m held)
unfolding filled
reaches m held = omega (arith, length-append held (replicate (m - length held) 0), length-replicate {A = ℕ} (m - length held) 0)

-- bytes written at a place, for which what is held was extended
module _ (n at : ℕ) (new held : List ℕ) (inside : length held ≤ n) (fits : at + length new ≤ n) where
  abbrev longer : List ℕ
  longer = filled (at + length new) held

  longer_inside : length longer ≤ n
  longer_inside = length-filled_more (at + length new) n held fits inside

  longer_reaches : at + length new ≤ length longer
  longer_reaches = reaches (at + length new) held

  pub length-written : length (with_part at new (filled (at + length new) held)) ≤ n
  length-written = omega (arith, length-with_part at new longer longer_reaches, longer_inside)

  whole : length (filled n held) ≡ n
  whole = length-filled n held inside

  same_before : (i : ℕ) → i < at → get_or (with_part at new longer) i 0 ≡ get_or (with_part at new (filled n held)) i 0
  same_before i low =
      get_or-with_part-before at new longer i (omega (arith, longer_reaches)) low ∙ filled_at (at + length new) held i
      ∙ sym (get_or-with_part-before at new (filled n held) i (omega (arith, whole)) low ∙ filled_at n held i)

  same_inside : (i : ℕ) → at ≤ i → i < at + length new → get_or (with_part at new longer) i 0 ≡ get_or (with_part at new (filled n held)) i 0
  same_inside i low high =
      get_or-with_part-inside at new longer i (omega (arith, longer_reaches)) low high
      ∙ sym (get_or-with_part-inside at new (filled n held) i (omega (arith, whole)) low high)

  same_after : (i : ℕ) → at + length new ≤ i → get_or (with_part at new longer) i 0 ≡ get_or (with_part at new (filled n held)) i 0
  same_after i high =
      get_or-with_part-after at new longer i (omega (arith, longer_reaches)) high ∙ filled_at (at + length new) held i
      ∙ sym (get_or-with_part-after at new (filled n held) i (omega (arith, whole)) high ∙ filled_at n held i)

  pub written_is : filled n (with_part at new (filled (at + length new) held)) ≡ with_part at new (filled n held)
  written_is =
      let len : length (filled n (with_part at new longer)) ≡ length (with_part at new (filled n held)) =
      length-filled n (with_part at new longer) length-written ∙ sym (length-with_part at new (filled n held) (omega (arith, whole)) ∙ whole) in
      same_number_lists _ _ len (λ i h. filled_at n (with_part at new longer) i
      ∙ by_test (nat_lt i at)
      (λ before. same_before i (ltb-true _ _ before))
      (λ from. by_test (nat_lt i (at + length new))
      (λ in_it. same_inside i (ltb-false _ _ from) (ltb-true _ _ in_it))
      (λ past. same_after i (ltb-false _ _ past))))

-- what is read: the bytes that are held, and then zeros
module _ (n at size first there : ℕ) (held : List ℕ) (inside : length held ≤ n) (fits : at + size ≤ n) (from : first ≡ min at (length held)) (are : there ≡ min size (length held - first)) where
  few : there ≤ size
  few = omega (arith, are)

  front_fits : first + there ≤ length held
  front_fits = omega (arith, from, are)

  length_read : length (part there first held ++ replicate (size - there) 0) ≡ size
  length_read = omega (arith, few, length-append (part there first held) (replicate (size - there) 0), length-part there first held front_fits, length-replicate {A = ℕ} (size - there) 0)

  read_front : (i : ℕ) → i < there → get_or (part there first held ++ replicate (size - there) 0) i 0 ≡ get_or held (at + i) 0
  read_front i small =
      let same : first + i ≡ at + i = omega (arith, from, are) in
      get_or_append_left (part there first held) (replicate (size - there) 0) 0 i (omega (arith, length-part there first held front_fits))
      ∙ get_or-part there first held i small ∙ ap (λ (j : ℕ). get_or held j 0) same

  read_rest : (i : ℕ) → there ≤ i → i < size → get_or (part there first held ++ replicate (size - there) 0) i 0 ≡ get_or held (at + i) 0
  read_rest i low high =
      get_or-append_right (part there first held) (replicate (size - there) 0) there i 0 (length-part there first held front_fits) low
      ∙ zeros_at (size - there) (i - there) ∙ sym (get_or_past held (at + i) 0 (omega (arith, from, are)))

  pub read_is : part there first held ++ replicate (size - there) 0 ≡ part size at (filled n held)
  read_is =
      let len : length (part there first held ++ replicate (size - there) 0) ≡ length (part size at (filled n held)) =
      length_read ∙ sym (length-part size at (filled n held) (omega (arith, length-filled n held inside))) in
      same_number_lists _ _ len (λ i h.
      let small : i < size = omega (arith, length_read) in
      by_test (nat_lt i there)
      (λ front. read_front i (ltb-true _ _ front))
      (λ rest. read_rest i (ltb-false _ _ rest) small)
      ∙ sym (get_or-part size at (filled n held) i small ∙ filled_at n held (at + i)))
