use Rattle.std.proofs.Common.{◌≡◌, ℕ, ◌<◌, List, [], ◌∷◌, ◌++◌, length, refl, ap, arith, length-append}
use Rattle.std.proofs.lemmas.Bool.{eq-eqb, ne_eqb}
use Rattle.std.proofs.lemmas.List.{append_cancel_left}
use Rattle.run_picture.specs.declared.columns.Note.{Note}
use Rattle.run_plan.specs.Notes.{lines_of, lines_shown}
use Rattle.picture_svg.specs.Nesting.{Drawn, told}
use Rattle.picture_svg.specs.Pictures.{lines_of_lane}
use Rattle.picture_rows.proofs.nested_law.Goals as goal

-- of one drawing as many elements are open, and as many lines are told
as_many_open : (d e : Drawn) → d ≡ e → length d.within ≡ length e.within
as_many_open d e is = ap (λ (d : Drawn). length d.within) is

as_many_told : (d : Drawn) (lines others : List (List ℕ)) → told lines d ≡ told others d → length lines ≡ length others
as_many_told d lines others is = ap length (append_cancel_left d.told lines others (ap (λ (d : Drawn). d.told) is))

pub returns-clause-group_left_open : goal.returns-clause-group_left_open
returns-clause-group_left_open c = λ d is. omega (arith, as_many_open _ _ is)

pub returns-clause-letters_left_open : goal.returns-clause-letters_left_open
returns-clause-letters_left_open c = λ d is. omega (arith, as_many_open _ _ is)

pub returns-clause-script_line_left_open : goal.returns-clause-script_line_left_open
returns-clause-script_line_left_open c = λ d is. omega (arith, as_many_open _ _ is)

-- a line is told of the drive that it names
spoken : (note : Note) → lines_of note.unit (note ∷ []) ≡ note.text.now ∷ []
spoken note = rw (eq-eqb note.unit note.unit refl) refl

pub returns-clause-marks_of_another_unit : goal.returns-clause-marks_of_another_unit
returns-clause-marks_of_another_unit c = λ sheet note unit d single noted differs is.
    let here : lines_shown sheet note.unit ≡ note.text.now ∷ [] = rw (single, noted) (spoken note) in
    let none : lines_shown sheet unit ≡ [] = rw (single, noted, ne_eqb note.unit unit differs) refl in
    omega (arith, as_many_told d (lines_shown sheet note.unit) (lines_shown sheet unit) is, ap length here, ap length none)

pub returns-clause-lines_dropped : goal.returns-clause-lines_dropped
returns-clause-lines_dropped c = λ note d is.
    let same : length ((d.told ++ []) ++ []) ≡ length (d.told ++ lines_of note.unit (note ∷ [])) = ap (λ (d : Drawn). length d.told) is in
    omega (arith, same, ap length (spoken note), length-append (d.told ++ []) [], length-append d.told [], length-append d.told (lines_of note.unit (note ∷ [])))

pub returns-clause-drive_drawn_twice : goal.returns-clause-drive_drawn_twice
returns-clause-drive_drawn_twice c = λ sheet lane d some is. twice d.told (lines_of_lane sheet lane) (ap (λ (d : Drawn). length d.told) is) some
  where
    twice : (before lines : List (List ℕ)) → length ((before ++ lines) ++ lines) ≡ length (before ++ lines) → 0 < length lines → ⊥
    twice before lines same some = omega (arith, same, some, length-append (before ++ lines) lines)
