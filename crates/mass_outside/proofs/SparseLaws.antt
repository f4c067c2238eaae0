-- Laws of an image of which few blocks are kept.
use Rattle.std.proofs.Common.{◌≡◌, ◌≢◌, ◌⊎◌, inl, inr, ℕ, suc, ◌+◌, ◌*◌, ◌-◌, ◌<◌, ◌≤◌, max, Bool, true, false, cond, not, List, [], ◌∷◌, ◌++◌, length, get_or, set, Some, None, refl, sym, ap, ◌∙◌, subst, arith, length-set, length-append}
use Rattle.std.specs.Prelude.{◌==◌, ◌||◌, eqb, nat_lt, if◌then◌else◌}
use Rattle.std.specs.List.{IsDistinct, list_any, position, position_or_len}
use Rattle.std.proofs.lemmas.Bool.{cases_lt}
use mathlib.Core.Bool.{true≢false}
use Rattle.std.proofs.Math.ListN.{replicate}
use Rattle.std.proofs.lemmas.List.{get_or_read_under, get_or_append_left, get_or-replicate, length-replicate, get_or_past}
use Rattle.std.proofs.lemmas.List.Folds.{list_any-append}
use Rattle.std.proofs.lemmas.Map.Keys.{IsDistinct-push}
use Rattle.std.proofs.lemmas.Map.Steps.{length-le_from_distinct_below}
use Rattle.std.proofs.lemmas.Cmp.{nat_eq_equiv}
use Rattle.std.proofs.lemmas.Grind.{common_steps, same_number_lists}
use Rattle.std.proofs.lemmas.Bool.Decides.{nat_tests}
use Rattle.pack_geometry.specs.Pack.{window, grown, with_window, block_at, with_block}
use Rattle.pack_geometry.proofs.PackLaws.{length-window, get_or-window, get_or-with_window_here, get_or-with_window_before, get_or-with_window_after, window-with_window_same, window-with_window_other}
use Rattle.mass_outside.specs.Sparse.{overlaid, place_in, AreKept}

-- ---- bytes put at a place

length-grown : (image : List ℕ) (n : ℕ) → length (grown image n) ≡ max (length image) n
unfolding grown
length-grown image n = grind (arith, common_steps)

pub length-with_window : (at : ℕ) (bytes image : List ℕ) → length (with_window at bytes image) ≡ max (length image) (at + length bytes)
unfolding with_window
length-with_window at bytes image = let long = length-grown image (at + length bytes) in grind (arith, common_steps, long)

outside : (image bytes : List ℕ) (at k : ℕ) → (k < at) ⊎ (at + length bytes ≤ k) → get_or (with_window at bytes image) k 0 ≡ get_or image k 0
outside image bytes at k (inl before) = get_or-with_window_before image bytes at k before
outside image bytes at k (inr after) = get_or-with_window_after image bytes at k after

inside : (image bytes : List ℕ) (at k : ℕ) → at ≤ k → k < at + length bytes → get_or (with_window at bytes image) k 0 ≡ get_or bytes (k - at) 0
inside image bytes at k past before =
    let few : k - at < length bytes = omega (arith, past, before) in
    let there : at + (k - at) ≡ k = omega (arith, past) in
    subst (λ n. get_or (with_window at bytes image) n 0 ≡ get_or bytes (k - at) 0) there (get_or-with_window_here image bytes at (k - at) few)

-- bytes at two places apart may be put in either order
swapped_at : (image xs ys : List ℕ) (a b k : ℕ) → a + length xs ≤ b → get_or (with_window b ys (with_window a xs image)) k 0 ≡ get_or (with_window a xs (with_window b ys image)) k 0
swapped_at image xs ys a b k apart =
    elim (cases_lt k a) [
      | inl first ↦
          outside (with_window a xs image) ys b k (inl (omega (arith, first, apart))) ∙ outside image xs a k (inl first)
          ∙ sym (outside (with_window b ys image) xs a k (inl first) ∙ outside image ys b k (inl (omega (arith, first, apart))))
      | inr past ↦
          elim (cases_lt k (a + length xs)) [
            | inl here ↦
                outside (with_window a xs image) ys b k (inl (omega (arith, here, apart))) ∙ inside image xs a k past here ∙ sym (inside (with_window b ys image) xs a k past here)
            | inr rest ↦ sym (outside (with_window b ys image) xs a k (inr rest) ∙ sym (behind rest))
          ]
    ]
  where
    behind : a + length xs ≤ k → get_or (with_window b ys (with_window a xs image)) k 0 ≡ get_or (with_window b ys image) k 0
    behind rest =
        elim (cases_lt k b) [
          | inl between ↦ outside (with_window a xs image) ys b k (inl between) ∙ outside image xs a k (inr rest) ∙ sym (outside image ys b k (inl between))
          | inr second ↦
              elim (cases_lt k (b + length ys)) [
                | inl here ↦ inside (with_window a xs image) ys b k second here ∙ sym (inside image ys b k second here)
                | inr last ↦ outside (with_window a xs image) ys b k (inr last) ∙ outside image xs a k (inr rest) ∙ sym (outside image ys b k (inr last))
              ]
        ]

swapped : (image xs ys : List ℕ) (a b : ℕ) → a + length xs ≤ b → with_window b ys (with_window a xs image) ≡ with_window a xs (with_window b ys image)
swapped image xs ys a b apart =
    let one = length-with_window b ys (with_window a xs image) in
    let two = length-with_window a xs image in
    let three = length-with_window a xs (with_window b ys image) in
    let four = length-with_window b ys image in
    same_number_lists _ _ (omega (arith, one, two, three, four)) (λ k h. swapped_at image xs ys a b k apart)

-- bytes that are put where as many were put before
twice_at : (image xs ys : List ℕ) (at k : ℕ) → length xs ≡ length ys → get_or (with_window at ys (with_window at xs image)) k 0 ≡ get_or (with_window at ys image) k 0
twice_at image xs ys at k long =
    elim (cases_lt k at) [
      | inl first ↦ outside (with_window at xs image) ys at k (inl first) ∙ outside image xs at k (inl first) ∙ sym (outside image ys at k (inl first))
      | inr past ↦
          elim (cases_lt k (at + length ys)) [
            | inl here ↦ inside (with_window at xs image) ys at k past here ∙ sym (inside image ys at k past here)
            | inr rest ↦ outside (with_window at xs image) ys at k (inr rest) ∙ outside image xs at k (inr (omega (arith, rest, long))) ∙ sym (outside image ys at k (inr rest))
          ]
    ]

twice : (image xs ys : List ℕ) (at : ℕ) → length xs ≡ length ys → with_window at ys (with_window at xs image) ≡ with_window at ys image
twice image xs ys at long =
    let one = length-with_window at ys (with_window at xs image) in
    let two = length-with_window at xs image in
    let three = length-with_window at ys image in
    same_number_lists _ _ (omega (arith, one, two, three, long)) (λ k h. twice_at image xs ys at k long)

-- ---- blocks

pub length-with_block : (image bytes : List ℕ) (number : ℕ) → length bytes ≡ 512 → length (with_block image number bytes) ≡ max (length image) (512 * number + 512)
unfolding with_block
length-with_block image bytes number long = length-with_window (512 * number) bytes image ∙ ap (λ n. max (length image) (512 * number + n)) long

block_swapped : (image xs ys : List ℕ) (a b : ℕ) → length xs ≡ 512 → length ys ≡ 512 → a ≢ b → with_block (with_block image a xs) b ys ≡ with_block (with_block image b ys) a xs
unfolding with_block
block_swapped image xs ys a b first second other =
    elim (cases_lt a b) [
      | inl less ↦ swapped image xs ys (512 * a) (512 * b) (omega (arith, first, less))
      | inr more ↦ sym (swapped image ys xs (512 * b) (512 * a) (omega (arith, second, more, other)))
    ]

block_twice : (image xs ys : List ℕ) (number : ℕ) → length xs ≡ 512 → length ys ≡ 512 → with_block (with_block image number xs) number ys ≡ with_block image number ys
unfolding with_block
block_twice image xs ys number first second = twice image xs ys (512 * number) (first ∙ sym second)

block_here : (image xs : List ℕ) (number : ℕ) → length xs ≡ 512 → block_at (with_block image number xs) number ≡ xs
unfolding block_at with_block
block_here image xs number long = window-with_window_same image xs (512 * number) 512 long

block_other : (image xs : List ℕ) (number other : ℕ) → length xs ≡ 512 → number ≢ other → block_at (with_block image number xs) other ≡ block_at image other
unfolding block_at with_block
block_other image xs number other long apart =
    elim (cases_lt other number) [
      | inl less ↦ window-with_window_other image xs (512 * number) 512 (512 * other) (inl (omega (arith, less)))
      | inr more ↦ window-with_window_other image xs (512 * number) 512 (512 * other) (inr (omega (arith, long, more, apart)))
    ]

-- behind the end there are zeros
past : (bytes : List ℕ) (size at : ℕ) → length bytes ≤ at → replicate size 0 ≡ window size at bytes
past bytes size at end = same_number_lists _ _ (length-replicate size 0 ∙ sym (length-window size at bytes)) (λ k h.
    let inside : k < size = omega (arith, h, length-replicate {A = ℕ} size 0) in
    get_or-replicate size k 0 0 inside ∙ sym (get_or-window size at bytes k inside ∙ get_or_past bytes (at + k) 0 (omega (arith, end))))

pub block_past : (bytes : List ℕ) (number : ℕ) → length bytes ≤ 512 * number → replicate 512 0 ≡ block_at bytes number
unfolding block_at
block_past bytes number end = past bytes 512 (512 * number) end

-- ---- blocks that are kept

-- each of them has 512 bytes
abbrev AreLong : List (List ℕ) → Type 0
AreLong kept = (k : ℕ) → k < length kept → length (get_or kept k []) ≡ 512

abbrev first_of : ℕ → List ℕ → ℕ
first_of number written = position_or_len (λ n. n == number) written

tail_long : (block : List ℕ) (kept : List (List ℕ)) → AreLong (block ∷ kept) → AreLong kept
tail_long block kept long k h = long (suc k) (omega (arith, h))

head_long : (block : List ℕ) (kept : List (List ℕ)) → AreLong (block ∷ kept) → length block ≡ 512
head_long block kept long = long 0 (omega arith)

at : (b : Bool) (n number : ℕ) (written : List ℕ) → (n == number) ≡ b → first_of number (n ∷ written) ≡ cond (not b) (1 + first_of number written) 0
at b n number written e = ap (λ t. cond (not t) (1 + first_of number written) 0) e

same : (n number : ℕ) → (n == number) ≡ true → n ≡ number
same n number e = grind (arith, nat_tests)

apart : (n number : ℕ) → (n == number) ≡ false → n ≢ number
apart n number e = grind (arith, nat_tests)

-- a block that is kept is read
pub read_kept : (image written : List ℕ) (kept : List (List ℕ)) (number : ℕ) → length written ≡ length kept → AreLong kept → first_of number written < length written
    → block_at (overlaid image written kept) number ≡ get_or kept (first_of number written) []
read_kept image [] kept number each long h = absurd (omega (arith, h))
read_kept image (n ∷ written) [] number each long h = absurd (omega (arith, each))
read_kept image (n ∷ written) (block ∷ kept) number each long h = by (λ h. read_kept image written kept number (omega (arith, each)) (tail_long block kept long) h) (n == number) refl
  where
    by : (first_of number written < length written → block_at (overlaid image written kept) number ≡ get_or kept (first_of number written) [])
        → (b : Bool) → (n == number) ≡ b → block_at (with_block (overlaid image written kept) n block) number ≡ get_or (block ∷ kept) (first_of number (n ∷ written)) []
    by rest true e =
        ap (λ m. block_at (with_block (overlaid image written kept) m block) number) (same n number e)
        ∙ block_here (overlaid image written kept) block number (head_long block kept long)
        ∙ ap (λ k. get_or (block ∷ kept) k []) (sym (at true n number written e))
    by rest false e =
        let next = at false n number written e in
        block_other (overlaid image written kept) block n number (head_long block kept long) (apart n number e)
        ∙ rest (omega (arith, h, next))
        ∙ ap (λ k. get_or (block ∷ kept) k []) (let up : suc (first_of number written) ≡ first_of number (n ∷ written) = omega (arith, next) in up)

-- a block that is not kept is read as it was given
pub read_given : (image written : List ℕ) (kept : List (List ℕ)) (number : ℕ) → length written ≡ length kept → AreLong kept → length written ≤ first_of number written
    → block_at (overlaid image written kept) number ≡ block_at image number
read_given image [] kept number each long h = refl
read_given image (n ∷ written) [] number each long h = absurd (omega (arith, each))
read_given image (n ∷ written) (block ∷ kept) number each long h = by (λ h. read_given image written kept number (omega (arith, each)) (tail_long block kept long) h) (n == number) refl
  where
    by : (length written ≤ first_of number written → block_at (overlaid image written kept) number ≡ block_at image number)
        → (b : Bool) → (n == number) ≡ b → block_at (with_block (overlaid image written kept) n block) number ≡ block_at image number
    by rest true e = let none = at true n number written e in absurd (omega (arith, h, none))
    by rest false e =
        let next = at false n number written e in
        block_other (overlaid image written kept) block n number (head_long block kept long) (apart n number e)
        ∙ rest (omega (arith, h, next))

-- a block that is kept is replaced
pub write_kept : (image written : List ℕ) (kept : List (List ℕ)) (number : ℕ) (bytes : List ℕ) → length written ≡ length kept → AreLong kept → length bytes ≡ 512
    → first_of number written < length written → overlaid image written (set kept (first_of number written) bytes) ≡ with_block (overlaid image written kept) number bytes
write_kept image [] kept number bytes each long whole h = absurd (omega (arith, h))
write_kept image (n ∷ written) [] number bytes each long whole h = absurd (omega (arith, each))
write_kept image (n ∷ written) (block ∷ kept) number bytes each long whole h = by (λ h. write_kept image written kept number bytes (omega (arith, each)) (tail_long block kept long) whole h) (n == number) refl
  where
    by : (first_of number written < length written → overlaid image written (set kept (first_of number written) bytes) ≡ with_block (overlaid image written kept) number bytes)
        → (b : Bool) → (n == number) ≡ b
        → overlaid image (n ∷ written) (set (block ∷ kept) (first_of number (n ∷ written)) bytes) ≡ with_block (with_block (overlaid image written kept) n block) number bytes
    by rest true e =
        ap (λ k. overlaid image (n ∷ written) (set (block ∷ kept) k bytes)) (at true n number written e)
        ∙ ap (λ m. with_block (overlaid image written kept) m bytes) (same n number e)
        ∙ sym (ap (λ m. with_block (with_block (overlaid image written kept) m block) number bytes) (same n number e) ∙ block_twice (overlaid image written kept) block bytes number (head_long block kept long) whole)
    by rest false e =
        let next = at false n number written e in
        let up : first_of number (n ∷ written) ≡ suc (first_of number written) = omega (arith, next) in
        ap (λ k. overlaid image (n ∷ written) (set (block ∷ kept) k bytes)) up
        ∙ ap (λ (others : List ℕ). with_block others n block) (rest (omega (arith, h, next)))
        ∙ block_swapped (overlaid image written kept) bytes block number n whole (head_long block kept long) (λ is. apart n number e (sym is))

-- a block that is kept from now on is replaced
pub write_given : (image written : List ℕ) (kept : List (List ℕ)) (number : ℕ) (bytes : List ℕ) → length written ≡ length kept → AreLong kept → length bytes ≡ 512
    → length written ≤ first_of number written → overlaid image (written ++ number ∷ []) (kept ++ bytes ∷ []) ≡ with_block (overlaid image written kept) number bytes
write_given image [] [] number bytes each long whole h = refl
write_given image [] (block ∷ kept) number bytes each long whole h = absurd (omega (arith, each))
write_given image (n ∷ written) [] number bytes each long whole h = absurd (omega (arith, each))
write_given image (n ∷ written) (block ∷ kept) number bytes each long whole h = by (λ h. write_given image written kept number bytes (omega (arith, each)) (tail_long block kept long) whole h) (n == number) refl
  where
    by : (length written ≤ first_of number written → overlaid image (written ++ number ∷ []) (kept ++ bytes ∷ []) ≡ with_block (overlaid image written kept) number bytes)
        → (b : Bool) → (n == number) ≡ b
        → with_block (overlaid image (written ++ number ∷ []) (kept ++ bytes ∷ [])) n block ≡ with_block (with_block (overlaid image written kept) n block) number bytes
    by rest true e = let none = at true n number written e in absurd (omega (arith, h, none))
    by rest false e =
        let next = at false n number written e in
        ap (λ (others : List ℕ). with_block others n block) (rest (omega (arith, h, next)))
        ∙ block_swapped (overlaid image written kept) bytes block number n whole (head_long block kept long) (λ is. apart n number e (sym is))

-- ---- what an image holds

not_listed : (written : List ℕ) (number : ℕ) → length written ≤ first_of number written → list_any (eqb number) written ≡ false
not_listed [] number h = refl
not_listed (n ∷ written) number h = by (λ k. not_listed written number k) (n == number) refl
  where
    by : (length written ≤ first_of number written → list_any (eqb number) written ≡ false) → (b : Bool) → (n == number) ≡ b → list_any (eqb number) (n ∷ written) ≡ false
    by rest true e = let none = at true n number written e in absurd (omega (arith, h, none))
    by rest false e = let next = at false n number written e in let later = rest (omega (arith, h, next)) in grind (arith, nat_tests, later, e)

push_inside : (written : List ℕ) (q number blocks : ℕ) → ((m : ℕ) → list_any (eqb m) written ≡ true → m < blocks) → number < blocks → list_any (eqb q) (written ++ number ∷ []) ≡ true → q < blocks
push_inside written q number blocks inside room h = by (list_any (eqb q) written) refl
  where
    by : (b : Bool) → list_any (eqb q) written ≡ b → q < blocks
    by true e = inside q e
    by false e =
        let last : (list_any (eqb q) written || (eqb q number || false)) ≡ true = sym (list_any-append (eqb q) written (number ∷ [])) ∙ h in
        let is : q ≡ number = grind (arith, nat_tests, last, e) in
        omega (arith, is, room)

set_whole : (kept : List (List ℕ)) (place k : ℕ) (bytes : List ℕ) → AreLong kept → length bytes ≡ 512 → k < length kept → length (get_or (set kept place bytes) k []) ≡ 512
set_whole kept place k bytes long whole h = grind (arith, common_steps, long k h)

push_whole : (kept : List (List ℕ)) (k : ℕ) (bytes : List ℕ) → AreLong kept → length bytes ≡ 512 → k < length (kept ++ bytes ∷ []) → length (get_or (kept ++ bytes ∷ []) k []) ≡ 512
push_whole kept k bytes long whole h = elim (cases_lt k (length kept)) [
  | inl before ↦ ap (λ (b : List ℕ). length b) (get_or_append_left kept (bytes ∷ []) [] k before) ∙ long k before
  | inr past ↦ let last = length-append kept (bytes ∷ []) in let is : k ≡ length kept = omega (arith, past, last, h) in grind (arith, common_steps)
]

-- where a search ended
found : (written : List ℕ) (number place : ℕ) → Some place ≡ position (λ n. n == number) written → (place ≡ first_of number written) × (first_of number written < length written)
found written number place e = grind (arith, nat_tests)

missing : (written : List ℕ) (number : ℕ) → None ≡ position (λ n. n == number) written → length written ≤ first_of number written
missing written number e = grind (arith, nat_tests)

found_at : (written : List ℕ) (number place : ℕ) → first_of number written ≡ place → place < length written → Some place ≡ position (λ n. n == number) written
found_at written number place is within = grind (arith, nat_tests, is)

-- a number that is added is found behind the others
pushed_here : (written : List ℕ) (number : ℕ) → length written ≤ first_of number written → first_of number (written ++ number ∷ []) ≡ length written
pushed_here [] number h = grind (arith, nat_tests)
pushed_here (n ∷ written) number h = by (λ k. pushed_here written number k) (n == number) refl
  where
    by : (length written ≤ first_of number written → first_of number (written ++ number ∷ []) ≡ length written) → (b : Bool) → (n == number) ≡ b → first_of number (n ∷ written ++ number ∷ []) ≡ suc (length written)
    by rest true e = let none = at true n number written e in absurd (omega (arith, h, none))
    by rest false e =
        let next = at false n number written e in
        let later = rest (omega (arith, h, next)) in
        let added = at false n number (written ++ number ∷ []) e in
        omega (arith, later, added)

-- another one is where it was
pushed_other : (written : List ℕ) (number q : ℕ) → (number == q) ≡ false → first_of q (written ++ number ∷ []) ≡ (if nat_lt (first_of q written) (length written) then first_of q written else 1 + length written)
pushed_other [] number q other = grind (arith, nat_tests, other)
pushed_other (n ∷ written) number q other = by (pushed_other written number q other) (n == q) refl
  where
    by : first_of q (written ++ number ∷ []) ≡ (if nat_lt (first_of q written) (length written) then first_of q written else 1 + length written)
        → (b : Bool) → (n == q) ≡ b → first_of q (n ∷ written ++ number ∷ []) ≡ (if nat_lt (first_of q (n ∷ written)) (suc (length written)) then first_of q (n ∷ written) else 1 + suc (length written))
    by rest true e = let one = at true n q written e in let two = at true n q (written ++ number ∷ []) e in grind (arith, nat_tests, one, two)
    by rest false e = let one = at false n q written e in let two = at false n q (written ++ number ∷ []) e in grind (arith, nat_tests, one, two, rest)

other_place : (written : List ℕ) (number q : ℕ) → (number == q) ≡ false → position (λ n. n == q) written ≡ position (λ n. n == q) (written ++ number ∷ [])
other_place written number q other =
    let behind = pushed_other written number q other in
    let long = length-append written (number ∷ []) in
    grind (arith, nat_tests, behind, long)

-- the places of the numbers, with one number more
placed_push : (written places places' : List ℕ) (number q : ℕ) → length written ≤ first_of number written → ((m : ℕ) → place_in places m ≡ position (λ n. n == m) written)
    → place_in places' number ≡ Some (length written) → ((other : ℕ) → other ≢ number → place_in places' other ≡ place_in places other) → place_in places' q ≡ position (λ n. n == q) (written ++ number ∷ [])
placed_push written places places' number q none placed kept others = by (number == q) refl
  where
    by : (b : Bool) → (number == q) ≡ b → place_in places' q ≡ position (λ n. n == q) (written ++ number ∷ [])
    by true e =
        subst (λ m. place_in places' m ≡ position (λ n. n == m) (written ++ number ∷ [])) (same number q e)
        (kept ∙ found_at (written ++ number ∷ []) number (length written) (pushed_here written number none) (let long = length-append written (number ∷ []) in omega (arith, long)))
    by false e = others q (λ is. apart number q e (sym is)) ∙ placed q ∙ other_place written number q e

-- what was found where a block is kept
some_place : (given written places seen : List ℕ) (kept : List (List ℕ)) (long blocks number place : ℕ) → AreKept given written kept places long blocks → seen ≡ places → Some place ≡ place_in seen number
    → (place ≡ first_of number written) × (first_of number written < length written)
some_place given written places seen kept long blocks number place are is e = found written number place (e ∙ ap (λ (ns : List ℕ). place_in ns number) is ∙ are.placed number)

no_place : (given written places seen : List ℕ) (kept : List (List ℕ)) (long blocks number : ℕ) → AreKept given written kept places long blocks → seen ≡ places → None ≡ place_in seen number
    → length written ≤ first_of number written
no_place given written places seen kept long blocks number are is e = missing written number (e ∙ ap (λ (ns : List ℕ). place_in ns number) is ∙ are.placed number)

pub read_some : (given written places seen : List ℕ) (kept : List (List ℕ)) (long blocks number place : ℕ) (block : List ℕ) → AreKept given written kept places long blocks → seen ≡ places
    → Some place ≡ place_in seen number → block ≡ get_or kept place block → block ≡ block_at (overlaid given written kept) number
read_some given written places seen kept long blocks number place block are same_list e is =
    let at = some_place given written places seen kept long blocks number place are same_list e in
    let within : place < length kept = omega (arith, at.0, at.1, are.each) in
    get_or_read_under kept place (length kept) block [] is within refl ∙ ap (λ k. get_or kept k []) at.0 ∙ sym (read_kept given written kept number are.each are.whole at.1)

pub read_none : (given written places seen : List ℕ) (kept : List (List ℕ)) (long blocks number : ℕ) → AreKept given written kept places long blocks → seen ≡ places
    → None ≡ place_in seen number → block_at given number ≡ block_at (overlaid given written kept) number
read_none given written places seen kept long blocks number are same_list e =
    sym (read_given given written kept number are.each are.whole (no_place given written places seen kept long blocks number are same_list e))

pub write_some : (given written places seen : List ℕ) (kept : List (List ℕ)) (long blocks number place : ℕ) (bytes : List ℕ) → AreKept given written kept places long blocks → seen ≡ places
    → Some place ≡ place_in seen number → length bytes ≡ 512 → overlaid given written (set kept place bytes) ≡ with_block (overlaid given written kept) number bytes
write_some given written places seen kept long blocks number place bytes are same_list e whole =
    let at = some_place given written places seen kept long blocks number place are same_list e in
    ap (λ k. overlaid given written (set kept k bytes)) at.0 ∙ write_kept given written kept number bytes are.each are.whole whole at.1

pub kept_some : (given written places seen : List ℕ) (kept : List (List ℕ)) (long blocks number place : ℕ) (bytes : List ℕ) → AreKept given written kept places long blocks → seen ≡ places
    → Some place ≡ place_in seen number → length bytes ≡ 512 → AreKept given written (set kept place bytes) places (max long (512 * number + 512)) blocks
kept_some given written places seen kept long blocks number place bytes are same_list e whole = record {
  each = are.each ∙ sym (length-set kept place bytes);
  whole = λ k h. set_whole kept place k bytes are.whole whole (subst (λ n. k < n) (length-set kept place bytes) h);
  once = are.once;
  inside = are.inside;
  placed = are.placed;
  size =
      ap (λ n. max n (512 * number + 512)) are.size
      ∙ sym (ap (λ (image : List ℕ). length image) (write_some given written places seen kept long blocks number place bytes are same_list e whole)
      ∙ length-with_block (overlaid given written kept) bytes number whole);
}

pub write_none : (given written places seen : List ℕ) (kept : List (List ℕ)) (long blocks number : ℕ) (bytes : List ℕ) → AreKept given written kept places long blocks → seen ≡ places
    → None ≡ place_in seen number → length bytes ≡ 512 → overlaid given (written ++ number ∷ []) (kept ++ bytes ∷ []) ≡ with_block (overlaid given written kept) number bytes
write_none given written places seen kept long blocks number bytes are same_list e whole =
    write_given given written kept number bytes are.each are.whole whole (no_place given written places seen kept long blocks number are same_list e)

pub kept_none : (given written places seen places' : List ℕ) (kept : List (List ℕ)) (long blocks number : ℕ) (bytes : List ℕ) → AreKept given written kept places long blocks → seen ≡ places
    → None ≡ place_in seen number → length bytes ≡ 512 → number < blocks → place_in places' number ≡ Some (length written) → ((other : ℕ) → other ≢ number → place_in places' other ≡ place_in places other)
    → AreKept given (written ++ number ∷ []) (kept ++ bytes ∷ []) places' (max long (512 * number + 512)) blocks
kept_none given written places seen places' kept long blocks number bytes are same_list e whole room here others =
    let none = no_place given written places seen kept long blocks number are same_list e in
    record {
      each = let first = length-append written (number ∷ []) in let second = length-append kept (bytes ∷ []) in omega (arith, first, second, are.each);
      whole = λ k h. push_whole kept k bytes are.whole whole h;
      once = IsDistinct-push nat_eq_equiv written number are.once (not_listed written number none);
      inside = λ q h. push_inside written q number blocks are.inside room h;
      placed = λ q. placed_push written places places' number q none are.placed here others;
      size =
          ap (λ n. max n (512 * number + 512)) are.size
          ∙ sym (ap (λ (image : List ℕ). length image) (write_none given written places seen kept long blocks number bytes are same_list e whole)
          ∙ length-with_block (overlaid given written kept) bytes number whole);
    }

-- a block that is not kept yet has room
pub room_none : (given written places seen : List ℕ) (kept : List (List ℕ)) (long blocks number : ℕ) → AreKept given written kept places long blocks → seen ≡ places
    → None ≡ place_in seen number → number < blocks → length written < blocks
room_none given written places seen kept long blocks number are same_list e room =
    let none = no_place given written places seen kept long blocks number are same_list e in
    let once : IsDistinct eqb (written ++ number ∷ []) = IsDistinct-push nat_eq_equiv written number are.once (not_listed written number none) in
    let few = length-le_from_distinct_below (written ++ number ∷ []) blocks once (λ q h. push_inside written q number blocks are.inside room h) in
    omega (arith, few, length-append written (number ∷ []))

none_twice : IsDistinct eqb []
unfolding IsDistinct
none_twice = tt

-- an image as it was given
pub kept_none_yet : (given written places : List ℕ) (kept : List (List ℕ)) (long blocks : ℕ) → written ≡ [] → kept ≡ [] → places ≡ [] → long ≡ length given → AreKept given written kept places long blocks
kept_none_yet given written places kept long blocks no_number no_block no_place whole =
    subst (λ (ns : List ℕ). AreKept given ns kept places long blocks) (sym no_number)
    (subst (λ (bs : List (List ℕ)). AreKept given [] bs places long blocks) (sym no_block) (subst (λ (ps : List ℕ). AreKept given [] [] ps long blocks) (sym no_place) (record {
      each = refl;
      whole = λ k h. absurd (omega (arith, h));
      once = none_twice;
      inside = λ q h. absurd (true≢false (sym h));
      placed = λ q. refl;
      size = whole;
    })))

-- what is kept, as it was put there
pub kept_as : (given written written' places : List ℕ) (kept kept' : List (List ℕ)) (long long' blocks : ℕ) → written' ≡ written → kept' ≡ kept → long' ≡ long → AreKept given written kept places long blocks
    → AreKept given written' kept' places long' blocks
kept_as given written written' places kept kept' long long' blocks numbers held size are =
    subst (λ (ns : List ℕ). AreKept given ns kept' places long' blocks) (sym numbers)
    (subst (λ (bs : List (List ℕ)). AreKept given written bs places long' blocks) (sym held) (subst (λ n. AreKept given written kept places n blocks) (sym size) are))
