-- Lines that are told, some after others.
use Rattle.std.proofs.Common.{◌≡◌, ℕ, suc, ◌+◌, ◌-◌, ◌≤◌, List, [], ◌∷◌, ◌++◌, length, take, drop, refl, sym, ◌∙◌, ap, subst, arith}
use Rattle.std.specs.Prelude.{Bool, true, false, ◌==◌, ◌||◌, if◌then◌else◌}
use Rattle.std.specs.List.{flat_map, slice_range}
use Rattle.std.proofs.lemmas.Grind.{flat_map-append}
use Rattle.std.proofs.lemmas.List.{append-nil, append_assoc, length-drop, length-take-le}
use Rattle.std.proofs.lemmas.List.Folds.{drop_split}
use Rattle.run_picture.specs.declared.columns.Note.{Note}
use Rattle.run_plan.specs.Notes.{is_spoken_of, line_of, lines_of}
use Rattle.picture_svg.specs.Nesting.{Drawn, told}

-- a drawing whose lines are these
with_lines : Drawn → List (List ℕ) → Drawn
with_lines d lines = record d { told = lines }

told_nil : (d : Drawn) → told [] d ≡ d
unfolding with_lines
told_nil d = ap (with_lines d) (append-nil d.told)

told_more : (xs ys : List (List ℕ)) (d : Drawn) → told ys (told xs d) ≡ told (xs ++ ys) d
unfolding with_lines
told_more xs ys d = ap (with_lines d) (append_assoc d.told xs ys)

-- before the first
pub tell_none : {X : Type 0} (f : X → List (List ℕ)) (xs : List X) (d : Drawn) → d ≡ told (flat_map f (take 0 xs)) d
tell_none f [] d = sym (told_nil d)
tell_none f (x ∷ xs) d = sym (told_nil d)

-- all of them
pub tell_all : {X : Type 0} (f : X → List (List ℕ)) (xs : List X) (d : Drawn) → told (flat_map f (drop 0 xs)) d ≡ told (flat_map f xs) d
tell_all f [] d = refl
tell_all f (x ∷ xs) d = refl

-- those from a place on: some, and those behind them
pub tell_range : {X : Type 0} (f : X → List (List ℕ)) (xs : List X) (from to : ℕ) (d middle goal : Drawn) → from ≤ to
    → middle ≡ told (flat_map f (slice_range xs from to)) d → told (flat_map f (drop from xs)) d ≡ goal
    → told (flat_map f (drop to xs)) middle ≡ goal
tell_range f xs from to d middle goal le is_middle so_far =
    ap (told (flat_map f (drop to xs))) is_middle
    ∙ told_more (flat_map f (slice_range xs from to)) (flat_map f (drop to xs)) d
    ∙ ap (λ t. told t d) (sym (flat_map-append f (slice_range xs from to) (drop to xs)))
    ∙ ap (λ t. told (flat_map f t) d) (sym (drop_split xs from to le)) ∙ so_far

true_not_false : true ≡ false → ⊥
true_not_false h = let P : Bool → Type 0 = λ b. elim b as (λ _. Type 0) [ true ↦ Unit {0} | false ↦ ⊥ ] in subst P h tt

silent_at : (b rest : Bool) (line : List ℕ) (lines : List (List ℕ)) → (b || rest) ≡ false → (rest ≡ false → lines ≡ [])
    → (if b then line ∷ [] else []) ++ lines ≡ []
silent_at true rest line lines h k = absurd (true_not_false h)
silent_at false rest line lines h k = k h

-- no line speaks of a unit
pub silent : (unit : ℕ) (notes : List Note) → is_spoken_of unit notes ≡ false → lines_of unit notes ≡ []
silent unit [] h = refl
silent unit (n ∷ ns) h =
    silent_at (n.unit == unit) (is_spoken_of unit ns) n.text.now (lines_of unit ns) h (silent unit ns)

or_left : (a b : Bool) → (a || b) ≡ false → a ≡ false
or_left true b h = h
or_left false b h = refl

pub quiet : (unit : ℕ) (notes : List Note) (tells shows tip : Bool) (d : Drawn) → tells ≡ is_spoken_of unit notes
    → tip ≡ (tells || shows) → tip ≡ false → d ≡ told (lines_of unit notes) d
quiet unit notes tells shows tip d is or h =
    sym (told_nil d) ∙ ap (λ t. told t d) (sym (silent unit notes (sym is ∙ or_left tells shows (sym or ∙ h))))

pub le_more : (n m : ℕ) → n ≤ n + m
le_more n m = omega arith

-- so many of those from a place on are inside
pub fits_in : {X : Type 0} (xs : List X) (from count : ℕ) → from ≤ length xs
    → count ≤ length (take (length xs - from) (drop from xs)) → from + count ≤ length xs
fits_in xs from count inside fits =
    let d : length (drop from xs) ≡ length xs - from = length-drop from xs in
    let le : length xs - from ≤ length (drop from xs) = omega (arith, d) in
    let e : length (take (length xs - from) (drop from xs)) ≡ length xs - from =
    length-take-le (length xs - from) (drop from xs) le in
    omega (arith, e, inside, fits)
