-- Each line that names a drive which is drawn is told once.
use Rattle.std.proofs.Common.{◌≡◌, ◌⊎◌, ℕ, zero, suc, ◌+◌, ◌<◌, ◌≤◌, ◌≢◌, inl, inr, ◌==◌, ◌&&◌, nat_lt, cond, Bool, true, false, List, [], ◌∷◌, ◌++◌, map, refl, sym, ◌∙◌, ap, arith, if◌then◌else◌}
use Rattle.std.specs.Prelude.{filter, count_by}
use Rattle.std.specs.List.{flat_map, sum_by}
use Rattle.std.proofs.lemmas.Grind.{flat_map-append}
use Rattle.std.proofs.lemmas.List.{append-nil}
use Rattle.std.proofs.lemmas.List.Sums.{sum_by-append}
use Rattle.std.proofs.lemmas.Bool.Decides.{leb_tells, eqb_tells}
use Rattle.run_picture.specs.declared.columns.Note.{Note}
use Rattle.run_plan.specs.declared.sheet.Sheet.{Sheet}
use Rattle.run_plan.specs.Notes.{lines_of}
use Rattle.run_plan.specs.Units.{is_drawn, unit_drawn, units_below, units_shown}
use Rattle.picture_svg.specs.Pictures.{lines_of_units, names_drawn, text_of, lines_seen}

one : Bool → ℕ
one b = cond b 1 0

-- how many pass, one by one
total : {X : Type 0} → (X → Bool) → List X → ℕ
total p [] = 0
total p (x ∷ xs) = one (p x) + total p xs

count_cons : {X : Type 0} (p : X → Bool) (x : X) (xs : List X) → count_by p (x ∷ xs) ≡ one (p x) + count_by p xs
unfolding one
count_cons p x xs =
    let e : sum_by (λ y. cond (p y) 1 0) ((x ∷ []) ++ xs) ≡ sum_by (λ y. cond (p y) 1 0) (x ∷ []) + sum_by (λ y. cond (p y) 1 0) xs =
    sum_by-append (λ y. cond (p y) 1 0) (x ∷ []) xs in
    omega (arith, e)

count_append : {X : Type 0} (p : X → Bool) (xs ys : List X) → count_by p (xs ++ ys) ≡ count_by p xs + count_by p ys
count_append p xs ys = sum_by-append (λ y. cond (p y) 1 0) xs ys

-- of a unit's lines
line_count : (which : List ℕ → Bool) (b : Bool) (line : List ℕ) (rest : List (List ℕ)) (n : ℕ) → count_by which rest ≡ n
    → count_by which ((if b then line ∷ [] else []) ++ rest) ≡ one (b && which line) + n
unfolding one
line_count which true line rest n e = count_cons which line rest ∙ ap (λ m. one (which line) + m) e
line_count which false line rest n e = e ∙ omega arith

lines_count : (which : List ℕ → Bool) (unit : ℕ) (notes : List Note)
    → count_by which (lines_of unit notes) ≡ total (λ note. (note.unit == unit) && which (text_of note)) notes
unfolding total
lines_count which unit [] = refl
lines_count which unit (note ∷ notes) =
    line_count which (note.unit == unit) note.text.now (lines_of unit notes) _ (lines_count which unit notes)

-- of the lines that pass a test
filter_count : (which : List ℕ → Bool) (b : Bool) (note : Note) (rest : List Note) (n : ℕ) → count_by which (map text_of rest) ≡ n
    → count_by which (map text_of (cond b (note ∷ rest) rest)) ≡ one (b && which (text_of note)) + n
unfolding one
filter_count which true note rest n e = count_cons which (text_of note) (map text_of rest) ∙ ap (λ m. one (which (text_of note)) + m) e
filter_count which false note rest n e = e ∙ omega arith

seen_count : (which : List ℕ → Bool) (test : Note → Bool) (notes : List Note)
    → count_by which (map text_of (filter test notes)) ≡ total (λ note. test note && which (text_of note)) notes
unfolding total
seen_count which test [] = refl
seen_count which test (note ∷ notes) =
    filter_count which (test note) note (filter test notes) _ (seen_count which test notes)

-- A UNIT MORE
gap : Bool → ℕ → ℕ
gap true n = n
gap false n = 0

gap_zero : (b : Bool) → gap b 0 ≡ 0
unfolding gap
gap_zero true = refl
gap_zero false = refl

gap_plus : (b : Bool) (m n : ℕ) → gap b (m + n) ≡ gap b m + gap b n
unfolding gap
gap_plus true m n = refl
gap_plus false m n = refl

-- a number is below another, is it, or is above
Ways : Bool → Bool → Bool → Bool → Bool → Type 0
Ways lt eq next du dn =
    ((lt ≡ true) × (eq ≡ false) × (next ≡ true))
    ⊎ (((lt ≡ false) × (eq ≡ true) × (next ≡ true) × (du ≡ dn)) ⊎ ((lt ≡ false) × (eq ≡ false) × (next ≡ false)))

three : (u n : ℕ) (d : ℕ → Bool) → ((nat_lt u n ≡ true) × (suc u ≤ n)) ⊎ ((nat_lt u n ≡ false) × (n < suc u))
    → (((u == n) ≡ true) × (u ≡ n)) ⊎ (((u == n) ≡ false) × (u ≢ n))
    → ((nat_lt u (suc n) ≡ true) × (suc u ≤ suc n)) ⊎ ((nat_lt u (suc n) ≡ false) × (suc n < suc u))
    → Ways (nat_lt u n) (u == n) (nat_lt u (suc n)) (d u) (d n)
unfolding Ways
three u n d (inl a) (inl b) c = absurd (omega (arith, a.1, b.1))
three u n d (inl a) (inr b) (inl c) = inl (a.0, b.0, c.0)
three u n d (inl a) (inr b) (inr c) = absurd (omega (arith, a.1, c.1))
three u n d (inr a) (inl b) (inl c) = inr (inl (a.0, b.0, c.0, ap d b.1))
three u n d (inr a) (inl b) (inr c) = absurd (omega (arith, b.1, c.1))
three u n d (inr a) (inr b) (inl c) = absurd (b.1 (omega (arith, a.1, c.1)))
three u n d (inr a) (inr b) (inr c) = inr (inr (a.0, b.0, c.0))

counted_below : (du dn w : Bool) → one ((true && du) && w) + gap dn (one (false && w)) ≡ one ((true && du) && w)
unfolding one
counted_below du dn w = omega (arith, gap_zero dn)

counted_here : (d w : Bool) → one ((false && d) && w) + gap d (one (true && w)) ≡ one ((true && d) && w)
unfolding one gap
counted_here true w = omega arith
counted_here false w = omega arith

counted_above : (du dn w : Bool) → one ((false && du) && w) + gap dn (one (false && w)) ≡ one ((false && du) && w)
unfolding one
counted_above du dn w = omega (arith, gap_zero dn)

counted_by : (lt eq next du dn w : Bool) → Ways lt eq next du dn → one ((lt && du) && w) + gap dn (one (eq && w)) ≡ one ((next && du) && w)
unfolding Ways
counted_by lt eq next du dn w (inl h) = rw (h.0, h.1, h.2) (counted_below du dn w)
counted_by lt eq next du dn w (inr (inl h)) = rw (h.0, h.1, h.2, h.3) (counted_here dn w)
counted_by lt eq next du dn w (inr (inr h)) = rw (h.0, h.1, h.2) (counted_above du dn w)

counted : (u n : ℕ) (d : ℕ → Bool) (w : Bool)
    → one ((nat_lt u n && d u) && w) + gap (d n) (one ((u == n) && w)) ≡ one ((nat_lt u (suc n) && d u) && w)
counted u n d w =
    counted_by (nat_lt u n) (u == n) (nat_lt u (suc n)) (d u) (d n) w
    (three u n d (leb_tells (suc u) n) (eqb_tells u n) (leb_tells (suc u) (suc n)))

total_more : (which : List ℕ → Bool) (d : ℕ → Bool) (n : ℕ) (notes : List Note)
    → total (λ note. (nat_lt note.unit n && d note.unit) && which (text_of note)) notes
    + gap (d n) (total (λ note. (note.unit == n) && which (text_of note)) notes)
    ≡ total (λ note. (nat_lt note.unit (suc n) && d note.unit) && which (text_of note)) notes
unfolding total
total_more which d n [] = omega (arith, gap_zero (d n))
total_more which d n (note ∷ notes) =
    let here = counted note.unit n d (which (text_of note)) in
    let rest = total_more which d n notes in
    omega (arith, here, rest, gap_plus (d n) (one ((note.unit == n) && which (text_of note))) (total (λ note. (note.unit == n) && which (text_of note)) notes))

none_of : (u : ℕ) (b : Bool) → ((b ≡ true) × (suc u ≤ 0)) ⊎ ((b ≡ false) × (0 < suc u)) → b ≡ false
none_of u b (inl h) = absurd (omega (arith, h.1))
none_of u b (inr h) = h.0

none_below : (u : ℕ) → nat_lt u 0 ≡ false
none_below u = none_of u (nat_lt u 0) (leb_tells (suc u) 0)

total_none : (which : List ℕ → Bool) (d : ℕ → Bool) (notes : List Note)
    → 0 ≡ total (λ note. (nat_lt note.unit 0 && d note.unit) && which (text_of note)) notes
unfolding total one
total_none which d [] = refl
total_none which d (note ∷ notes) = rw (none_below note.unit) (total_none which d notes ∙ omega arith)

drawn_count : (which : List ℕ → Bool) (notes : List Note) (n : ℕ) (b : Bool)
    → count_by which (flat_map (λ unit. lines_of unit notes) (if b then n ∷ [] else []))
    ≡ gap b (total (λ note. (note.unit == n) && which (text_of note)) notes)
unfolding gap
drawn_count which notes n true = ap (count_by which) (append-nil (lines_of n notes)) ∙ lines_count which n notes
drawn_count which notes n false = refl

below : (which : List ℕ → Bool) (sheet : Sheet) (notes : List Note) (n : ℕ)
    → count_by which (flat_map (λ unit. lines_of unit notes) (units_below n sheet))
    ≡ total (λ note. (nat_lt note.unit n && is_drawn sheet note.unit) && which (text_of note)) notes
below which sheet notes zero = total_none which (is_drawn sheet) notes
below which sheet notes (suc n) =
    ap (count_by which) (flat_map-append (λ unit. lines_of unit notes) (units_below n sheet) (unit_drawn sheet n))
    ∙ count_append which (flat_map (λ unit. lines_of unit notes) (units_below n sheet)) (flat_map (λ unit. lines_of unit notes) (unit_drawn sheet n))
    ∙ ap (λ k. k + count_by which (flat_map (λ unit. lines_of unit notes) (unit_drawn sheet n))) (below which sheet notes n)
    ∙ ap (λ k. total (λ note. (nat_lt note.unit n && is_drawn sheet note.unit) && which (text_of note)) notes + k)
    (drawn_count which notes n (is_drawn sheet n))
    ∙ total_more which (is_drawn sheet) n notes

silent : (which : List ℕ → Bool) (units : List ℕ) → count_by which (flat_map (λ unit. []) units) ≡ 0
silent which [] = refl
silent which (unit ∷ units) = silent which units

by_per : (b : Bool) (which : List ℕ → Bool) (sheet : Sheet)
    → count_by which (flat_map (λ unit. if b then lines_of unit sheet.notes.now else []) (units_shown sheet))
    ≡ count_by which (if b then map text_of (filter (names_drawn sheet) sheet.notes.now) else [])
by_per true which sheet = below which sheet sheet.notes.now 32 ∙ sym (seen_count which (names_drawn sheet) sheet.notes.now)
by_per false which sheet = silent which (units_shown sheet)

-- OF WHICHEVER LINES as many are told as there are
pub once_law : (sheet : Sheet) (which : List ℕ → Bool) → count_by which (lines_of_units sheet (units_shown sheet)) ≡ count_by which (lines_seen sheet)
once_law sheet which = by_per (sheet.window.per == 1) which sheet
