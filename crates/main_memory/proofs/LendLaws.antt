-- Laws of frames lent and given back.
use Rattle.std.proofs.Common.{◌≡◌, ◌≢◌, ◌⊎◌, inl, inr, ℕ, zero, suc, ◌+◌, ◌-◌, ◌<◌, ◌≤◌, ◌==◌, nat_lt, Bool, List, [], ◌∷◌, length, take, drop, get_or, refl, sym, ap, ◌∙◌, subst, arith}
use Rattle.std.proofs.lemmas.Bool.{eqb-true}
use Rattle.std.proofs.lemmas.List.{get_or-take, get_or-drop, length-take, length-drop}
use Rattle.std.specs.List.{Contains}
use Rattle.std.specs.List.Sorted.{IsStrictlyIncreasing}
use Rattle.main_memory.specs.Frames.{kept, is_free, free_frames, with_frame, with_frames}
use Rattle.main_memory.specs.Blocks.{Loan}
use Rattle.main_memory.specs.Memory.{Memory, IsMemory, IsLent, AreApart}
use Rattle.main_memory.proofs.FrameLaws.{by_test, kept-members, kept-ascending}

in_range : (xs : List ℕ) (i d e : ℕ) → i < length xs → get_or xs i d ≡ get_or xs i e
in_range [] i d e inside = absurd (omega arith)
in_range (x ∷ xs) zero d e inside = refl
in_range (x ∷ xs) (suc i) d e inside = in_range xs i d e (omega arith)

-- membership by index
pub contains_at : (xs : List ℕ) (i : ℕ) → i < length xs → Contains xs (get_or xs i 0)
contains_at xs i inside = (i, inside, in_range xs i _ 0 inside)

pub record FoundAt (xs : List ℕ) (x i : ℕ) : Type 0 where
  pub inside : i < length xs
  pub here : get_or xs i 0 ≡ x

found : (xs : List ℕ) (x : ℕ) → (c : Contains xs x) → FoundAt xs x c.0
found xs x c = record { inside = c.1; here = in_range xs c.0 0 x c.1 ∙ c.2 }

contains_found : (xs : List ℕ) (x i : ℕ) → FoundAt xs x i → Contains xs x
contains_found xs x i at = subst (Contains xs) at.here (contains_at xs i at.inside)

found_cons : (x : ℕ) (xs : List ℕ) (y i : ℕ) → FoundAt (x ∷ xs) y i → (x ≡ y) ⊎ Contains xs y
found_cons x xs y zero at = inl at.here
found_cons x xs y (suc i) at = inr (contains_found xs y i (record { inside = omega (arith, at.inside); here = at.here }))

contains_cases : (x : ℕ) (xs : List ℕ) (y : ℕ) → Contains (x ∷ xs) y → (x ≡ y) ⊎ Contains xs y
contains_cases x xs y c = found_cons x xs y c.0 (found (x ∷ xs) y c)

contains_tail : (x : ℕ) (xs : List ℕ) (y : ℕ) → Contains xs y → Contains (x ∷ xs) y
contains_tail x xs y c =
    let at : FoundAt xs y c.0 = found xs y c in
    contains_found (x ∷ xs) y (suc c.0) (record { inside = omega (arith, at.inside); here = at.here })

contains_head : (x : ℕ) (xs : List ℕ) → Contains (x ∷ xs) x
contains_head x xs = contains_at (x ∷ xs) 0 (omega arith)

-- in an ascending list a later number is greater
ascending_gap : (xs : List ℕ) (i d : ℕ) → IsStrictlyIncreasing xs → i + suc d < length xs → get_or xs i 0 < get_or xs (i + suc d) 0
ascending_gap xs i zero up inside = let e : i + 1 ≡ i + suc zero = omega arith in subst (λ (j : ℕ). get_or xs i 0 < get_or xs j 0) e (up i (omega arith))
ascending_gap xs i (suc d) up inside =
    let e : (i + suc d) + 1 ≡ i + suc (suc d) = omega arith in
    let step : get_or xs (i + suc d) 0 < get_or xs ((i + suc d) + 1) 0 = up (i + suc d) (omega arith) in
    let before : get_or xs i 0 < get_or xs (i + suc d) 0 = ascending_gap xs i d up (omega arith) in
    let last : get_or xs i 0 < get_or xs ((i + suc d) + 1) 0 = omega arith in
    subst (λ (j : ℕ). get_or xs i 0 < get_or xs j 0) e last

ascending_lt : (xs : List ℕ) (i j : ℕ) → IsStrictlyIncreasing xs → i < j → j < length xs → get_or xs i 0 < get_or xs j 0
ascending_lt xs i j up lt inside =
    let e : i + suc (j - suc i) ≡ j = omega arith in
    subst (λ (k : ℕ). get_or xs i 0 < get_or xs k 0) e (ascending_gap xs i (j - suc i) up (omega arith))

free_ascending : (words : List ℕ) → IsStrictlyIncreasing (free_frames words)
unfolding free_frames
free_ascending words = kept-ascending (is_free words) 0 16384

free_small : (words : List ℕ) (frame i : ℕ) → FoundAt (free_frames words) frame i → frame < 16384
unfolding free_frames
free_small words frame i at = omega (arith, at.here, (kept-members (is_free words) 0 16384 i at.inside).below)

-- the free frames of words make a memory
pub is_memory : (bytes words : List ℕ) → length bytes ≡ 8388608 → IsMemory (record { bytes = bytes; free = free_frames words })
is_memory bytes words size = record {
  size = size;
  ascending = free_ascending words;
  small = λ frame c. free_small words frame c.0 (found (free_frames words) frame c);
}

length-kept : (p : ℕ → Bool) (from n : ℕ) → length (kept p from n) ≤ n
unfolding kept
length-kept p from zero = omega arith
length-kept p from (suc n) =
    let rest : length (kept p (suc from) n) ≤ n = length-kept p (suc from) n in
    by_test (p from) (λ on. rw on (omega arith)) (λ off. rw off (omega arith))

-- no more frames are free than the memory has
pub length-free_frames : (words : List ℕ) → length (free_frames words) ≤ 16384
unfolding free_frames
length-free_frames words = length-kept (is_free words) 0 16384

-- front and rest of a list
front_at : (xs : List ℕ) (n x i : ℕ) → FoundAt (take n xs) x i → FoundAt xs x i
front_at xs n x i at =
    let size = length-take n xs in
    let small : i < n = omega (arith, at.inside, size) in
    record { inside = omega (arith, at.inside, size); here = sym (get_or-take n xs i 0 small) ∙ at.here }

rest_at : (xs : List ℕ) (n x i : ℕ) → FoundAt (drop n xs) x i → FoundAt xs x (n + i)
rest_at xs n x i at = record { inside = omega (arith, at.inside, length-drop n xs); here = sym (get_or-drop n xs i 0) ∙ at.here }

pub in_front : (xs : List ℕ) (n x : ℕ) → Contains (take n xs) x → Contains xs x
in_front xs n x c = contains_found xs x c.0 (front_at xs n x c.0 (found (take n xs) x c))

pub in_rest : (xs : List ℕ) (n x : ℕ) → Contains (drop n xs) x → Contains xs x
in_rest xs n x c = contains_found xs x (n + c.0) (rest_at xs n x c.0 (found (drop n xs) x c))

not_in_both : (xs : List ℕ) (n x i j : ℕ) → IsStrictlyIncreasing xs → FoundAt (take n xs) x i → FoundAt (drop n xs) x j → ⊥
not_in_both xs n x i j up front rest =
    let one : FoundAt xs x i = front_at xs n x i front in
    let two : FoundAt xs x (n + j) = rest_at xs n x j rest in
    let small : i < n = omega (arith, front.inside, length-take n xs) in
    omega (arith, ascending_lt xs i (n + j) up (omega arith) two.inside, one.here, two.here)

-- the lowest free frames, lent
pub lent_front : (bytes free : List ℕ) (n offset count last : ℕ) → IsMemory (record { bytes = bytes; free = free })
    → IsLent (record { bytes = bytes; free = drop n free }) (record { frames = take n free; offset = offset; count = count; last = last })
lent_front bytes free n offset count last is = record {
  differ = λ i j lt inside.
      let size : j < length (take n free) = inside in
      let bound = length-take n free in
      let below_n : j < n = omega (arith, bound) in
      let in_free : j < length free = omega (arith, bound) in
      let e : get_or (take n free) i 0 ≡ get_or free i 0 = get_or-take n free i 0 (omega arith) in
      let f : get_or (take n free) j 0 ≡ get_or free j 0 = get_or-take n free j 0 below_n in
      λ same. omega (arith, ascending_lt free i j is.ascending lt in_free, e, f, same);
  small = λ i inside. is.small _ (in_front free n _ (contains_at (take n free) i inside));
  taken = λ frame front rest. not_in_both free n frame front.0 rest.0 is.ascending (found (take n free) frame front) (found (drop n free) frame rest);
}

pub still_lent : (bytes free : List ℕ) (n : ℕ) (other : Loan) → IsLent (record { bytes = bytes; free = free }) other → IsLent (record { bytes = bytes; free = drop n free }) other
still_lent bytes free n other lent = record { differ = lent.differ; small = lent.small; taken = λ frame in_other rest. lent.taken frame in_other (in_rest free n frame rest) }

-- a frame put back at its place
frame_cases : (f x : ℕ) (xs : List ℕ) {X : Type 0} → (with_frame f (x ∷ xs) ≡ f ∷ x ∷ xs → X) → (f ≡ x → with_frame f (x ∷ xs) ≡ x ∷ xs → X) → (with_frame f (x ∷ xs) ≡ x ∷ with_frame f xs → X) → X
unfolding with_frame
frame_cases f x xs below here above =
    by_test (nat_lt f x)
    (λ lt. below (rw lt refl))
    (λ ge. by_test (f == x) (λ e. here (eqb-true _ _ e) (rw (ge, e) refl)) (λ ne. above (rw (ge, ne) refl)))

length-with_frame : (f : ℕ) (xs : List ℕ) → (Contains xs f → ⊥) → length (with_frame f xs) ≡ length xs + 1
unfolding with_frame
length-with_frame f [] out = refl
length-with_frame f (x ∷ xs) out =
    let rest : length (with_frame f xs) ≡ length xs + 1 = length-with_frame f xs (λ c. out (contains_tail x xs f c)) in
    frame_cases f x xs
    (λ e. omega (arith, ap length e))
    (λ same e. absurd (out (subst (Contains (x ∷ xs)) (sym same) (contains_head x xs))))
    (λ e. omega (arith, ap length e, rest))

further : {f : ℕ} → (x : ℕ) (xs : List ℕ) (y : ℕ) → (f ≡ y) ⊎ Contains xs y → (f ≡ y) ⊎ Contains (x ∷ xs) y
further x xs y (inl e) = inl e
further x xs y (inr c) = inr (contains_tail x xs y c)

later : (f x : ℕ) (xs : List ℕ) (y : ℕ) → (Contains (with_frame f xs) y → (f ≡ y) ⊎ Contains xs y) → (x ≡ y) ⊎ Contains (with_frame f xs) y → (f ≡ y) ⊎ Contains (x ∷ xs) y
later f x xs y rest (inl e) = inr (subst (Contains (x ∷ xs)) e (contains_head x xs))
later f x xs y rest (inr c) = further x xs y (rest c)

in_with_frame : (f : ℕ) (xs : List ℕ) (y : ℕ) → Contains (with_frame f xs) y → (f ≡ y) ⊎ Contains xs y
unfolding with_frame
in_with_frame f [] y c = contains_cases f [] y c
in_with_frame f (x ∷ xs) y c =
    frame_cases f x xs
    (λ e. contains_cases f (x ∷ xs) y (subst (λ (zs : List ℕ). Contains zs y) e c))
    (λ same e. inr (subst (λ (zs : List ℕ). Contains zs y) e c))
    (λ e. later f x xs y (in_with_frame f xs y) (contains_cases x (with_frame f xs) y (subst (λ (zs : List ℕ). Contains zs y) e c)))

-- frames put back, each at its place
or_more : (f : ℕ) (fs xs : List ℕ) (y : ℕ) → (f ≡ y) ⊎ Contains xs y → Contains (f ∷ fs) y ⊎ Contains xs y
or_more f fs xs y (inl e) = inl (subst (Contains (f ∷ fs)) e (contains_head f fs))
or_more f fs xs y (inr c) = inr c

first_or : (f : ℕ) (fs xs : List ℕ) (y : ℕ) → Contains fs y ⊎ Contains (with_frame f xs) y → Contains (f ∷ fs) y ⊎ Contains xs y
first_or f fs xs y (inl c) = inl (contains_tail f fs y c)
first_or f fs xs y (inr c) = or_more f fs xs y (in_with_frame f xs y c)

not_again : (f : ℕ) (fs xs : List ℕ) (y : ℕ) → ((i j : ℕ) → i < j → j < length (f ∷ fs) → get_or (f ∷ fs) i 0 ≢ get_or (f ∷ fs) j 0) → ((z : ℕ) → Contains (f ∷ fs) z → Contains xs z → ⊥)
    → Contains fs y → (f ≡ y) ⊎ Contains xs y → ⊥
not_again f fs xs y differ out c (inl e) =
    let at : FoundAt fs y c.0 = found fs y c in
    differ 0 (suc c.0) (omega arith) (omega (arith, at.inside)) (e ∙ sym at.here)
not_again f fs xs y differ out c (inr d) = out y (contains_tail f fs y c) d

in_with_frames : (frames xs : List ℕ) (y : ℕ) → Contains (with_frames frames xs) y → Contains frames y ⊎ Contains xs y
unfolding with_frames
in_with_frames [] xs y c = inr c
in_with_frames (f ∷ fs) xs y c = first_or f fs xs y (in_with_frames fs (with_frame f xs) y c)

length-with_frames : (frames xs : List ℕ) → ((i j : ℕ) → i < j → j < length frames → get_or frames i 0 ≢ get_or frames j 0) → ((y : ℕ) → Contains frames y → Contains xs y → ⊥)
    → length (with_frames frames xs) ≡ length xs + length frames
unfolding with_frames
length-with_frames [] xs differ out = omega arith
length-with_frames (f ∷ fs) xs differ out =
    let one : length (with_frame f xs) ≡ length xs + 1 = length-with_frame f xs (out f (contains_head f fs)) in
    let rest : length (with_frames fs (with_frame f xs)) ≡ length (with_frame f xs) + length fs =
    length-with_frames fs (with_frame f xs)
    (λ i j lt inside. differ (suc i) (suc j) (omega arith) (omega arith))
    (λ y c d. not_again f fs xs y differ out c (in_with_frame f xs y d)) in
    omega arith

-- a memory after frames are put back
pub counted_back : (memory : Memory) (loan : Loan) → IsLent memory loan → length (with_frames loan.frames memory.free) ≡ length memory.free + length loan.frames
counted_back memory loan lent = length-with_frames loan.frames memory.free lent.differ lent.taken

pub lent_after : (bytes free : List ℕ) (loan other : Loan) → IsLent (record { bytes = bytes; free = free }) other → AreApart loan other → IsLent (record { bytes = bytes; free = with_frames loan.frames free }) other
lent_after bytes free loan other lent apart = record {
  differ = lent.differ;
  small = lent.small;
  taken = λ frame in_other back. neither frame (apart frame) (lent.taken frame in_other) in_other (in_with_frames loan.frames free frame back);
}
  where
    neither : (frame : ℕ) → (Contains loan.frames frame → Contains other.frames frame → ⊥) → (Contains free frame → ⊥) → Contains other.frames frame → Contains loan.frames frame ⊎ Contains free frame → ⊥
    neither frame not_loan not_free in_other (inl c) = not_loan c in_other
    neither frame not_loan not_free in_other (inr c) = not_free c

-- the same where the free frames are bits of words
pub words_back : (bytes words after given : List ℕ) (memory : Memory) (loan : Loan) → record { bytes = bytes; free = free_frames words } ≡ memory → IsLent memory loan → given ≡ loan.frames
    → free_frames after ≡ with_frames given (free_frames words) → length (free_frames after) ≡ length (free_frames words) + length given
words_back bytes words after given memory loan view lent same back =
    let here : IsLent (record { bytes = bytes; free = free_frames words }) loan = subst (λ (m : Memory). IsLent m loan) (sym view) lent in
    ap length (back ∙ ap (λ (fs : List ℕ). with_frames fs (free_frames words)) same) ∙ counted_back (record { bytes = bytes; free = free_frames words }) loan here
    ∙ ap (λ (fs : List ℕ). length (free_frames words) + length fs) (sym same)

pub words_lent_after : (bytes words after given : List ℕ) (memory : Memory) (loan other : Loan) → record { bytes = bytes; free = free_frames words } ≡ memory → given ≡ loan.frames
    → free_frames after ≡ with_frames given (free_frames words) → IsLent memory other → AreApart loan other → IsLent (record { bytes = bytes; free = free_frames after }) other
words_lent_after bytes words after given memory loan other view same back lent apart =
    let here : IsLent (record { bytes = bytes; free = free_frames words }) other = subst (λ (m : Memory). IsLent m other) (sym view) lent in
    subst (λ (free : List ℕ). IsLent (record { bytes = bytes; free = free }) other) (sym (back ∙ ap (λ (fs : List ℕ). with_frames fs (free_frames words)) same))
    (lent_after bytes (free_frames words) loan other here apart)

-- the free frames of words, lent
pub words_lent : (bytes words after : List ℕ) (n : ℕ) (loan : Loan) → length bytes ≡ 8388608 → loan.frames ≡ take n (free_frames words) → free_frames after ≡ drop n (free_frames words)
    → IsLent (record { bytes = bytes; free = free_frames after }) loan
words_lent bytes words after n loan size front rest =
    let is : IsMemory (record { bytes = bytes; free = free_frames words }) = is_memory bytes words size in
    let lent : IsLent (record { bytes = bytes; free = drop n (free_frames words) }) (record { frames = take n (free_frames words); offset = loan.offset; count = loan.count; last = loan.last }) =
    lent_front bytes (free_frames words) n loan.offset loan.count loan.last is in
    let there : IsLent (record { bytes = bytes; free = free_frames after }) (record { frames = take n (free_frames words); offset = loan.offset; count = loan.count; last = loan.last }) =
    subst (λ (free : List ℕ). IsLent (record { bytes = bytes; free = free }) (record { frames = take n (free_frames words); offset = loan.offset; count = loan.count; last = loan.last })) (sym rest) lent in
    subst (λ (frames : List ℕ). IsLent (record { bytes = bytes; free = free_frames after }) (record { frames = frames; offset = loan.offset; count = loan.count; last = loan.last })) (sym front) there

pub words_apart : (bytes words : List ℕ) (n : ℕ) (memory : Memory) (loan other : Loan) → record { bytes = bytes; free = free_frames words } ≡ memory → loan.frames ≡ take n (free_frames words)
    → IsLent memory other → AreApart loan other
words_apart bytes words n memory loan other view front lent = λ frame in_loan in_other.
    let here : IsLent (record { bytes = bytes; free = free_frames words }) other = subst (λ (m : Memory). IsLent m other) (sym view) lent in
    here.taken frame in_other (in_front (free_frames words) n frame (subst (λ (frames : List ℕ). Contains frames frame) front in_loan))

pub words_still_lent : (bytes words after : List ℕ) (n : ℕ) (memory : Memory) (other : Loan) → record { bytes = bytes; free = free_frames words } ≡ memory → free_frames after ≡ drop n (free_frames words)
    → IsLent memory other → IsLent (record { bytes = bytes; free = free_frames after }) other
words_still_lent bytes words after n memory other view rest lent =
    let here : IsLent (record { bytes = bytes; free = free_frames words }) other = subst (λ (m : Memory). IsLent m other) (sym view) lent in
    subst (λ (free : List ℕ). IsLent (record { bytes = bytes; free = free }) other) (sym rest) (still_lent bytes (free_frames words) n other here)

pub viewed : (bytes words : List ℕ) (memory : Memory) → record { bytes = bytes; free = free_frames words } ≡ memory → length bytes ≡ 8388608 → IsMemory memory
viewed bytes words memory view size = subst IsMemory view (is_memory bytes words size)
