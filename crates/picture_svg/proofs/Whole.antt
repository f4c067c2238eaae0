-- A text is a picture of its sheet.
use Rattle.std.proofs.Common.{◌≡◌, ℕ, zero, suc, ◌≤◌, ◌+◌, List, [], ◌∷◌, ◌++◌, length, map, fold, refl, sym, ◌∙◌, ap, subst, arith, length-append}
use Rattle.std.specs.Prelude.{Bool, true, false, ◌&&◌, nat_lt, if◌then◌else◌}
use Rattle.std.proofs.lemmas.Bool.{leb-true}
use Rattle.std.proofs.lemmas.List.{append-nil, append_assoc}
use Rattle.drive_pictures.specs.declared.letters.Letter.{Letter}
use Rattle.drive_pictures.specs.declared.requests.Request.{Request}
use Rattle.run_plan.specs.declared.sheet.Sheet.{Sheet}
use Rattle.run_plan.specs.Notes.{lines_shown}
use Rattle.run_plan.specs.Requests.{is_few, is_listed, listed_with, listed_all, listed, shown_count}
use Rattle.run_plan.specs.Units.{is_drawn, unit_drawn, units_below, units_shown}
use Rattle.picture_svg.specs.declared.pieces.Element.TheVariants.{Svg}
use Rattle.picture_svg.specs.declared.scene.Lane.{Lane}
use Rattle.picture_svg.specs.Nesting.{Drawn, blank, started, ended, captioned, told, with_letter, with_row}
use Rattle.picture_svg.specs.Legend.{explained}
use Rattle.picture_svg.specs.Pictures.{caption_of, unit_of, lines_of_lanes, lines_of_units, with_all, IsPicture}
use Rattle.picture_svg.specs.Texts.{IsWritten}
use Rattle.picture_svg.proofs.Once.{once_law}

-- at most one drive for each number
one_drawn : (b : Bool) (n : ℕ) → length (if b then n ∷ [] else []) ≤ 1
one_drawn true n = omega arith
one_drawn false n = omega arith

pub few_units : (n : ℕ) (sheet : Sheet) → length (units_below n sheet) ≤ n
few_units zero sheet = omega arith
few_units (suc n) sheet =
    omega (arith, length-append (units_below n sheet) (unit_drawn sheet n), few_units n sheet, one_drawn (is_drawn sheet n) n)

-- at most 256 requests
one_listed : (a b : Bool) (r : Request) (requests : List Request) → length requests ≤ 256 → (b ≡ true → suc (length requests) ≤ 256)
    → length (if a && b then requests ++ r ∷ [] else requests) ≤ 256
one_listed true true r requests few room = omega (arith, length-append requests (r ∷ []), room refl)
one_listed true false r requests few room = few
one_listed false b r requests few room = few

few_with : (sheet : Sheet) (few first : Bool) (r : Request) (requests : List Request) → length requests ≤ 256
    → length (listed_with sheet few first requests r) ≤ 256
unfolding listed_with
few_with sheet few first r requests le =
    one_listed (is_listed sheet few first r) (nat_lt (length requests) 256) r requests le (leb-true (suc (length requests)) 256)

few_folded : (sheet : Sheet) (few first : Bool) (rs requests : List Request) → length requests ≤ 256
    → length (fold (listed_with sheet few first) requests rs) ≤ 256
few_folded sheet few first [] requests le = le
few_folded sheet few first (r ∷ rs) requests le = few_folded sheet few first rs (listed_with sheet few first requests r) (few_with sheet few first r requests le)

pub few_listed : (sheet : Sheet) (few : Bool) → length (listed sheet few) ≤ 256
few_listed sheet few = few_folded sheet few false sheet.run.now.requests (listed_all sheet few true []) (few_folded sheet few true sheet.run.now.requests [] (omega arith))

-- the lines of the drives are those of their units
pub lines_same : (sheet : Sheet) (lanes : List Lane) → lines_of_lanes sheet lanes ≡ lines_of_units sheet (map unit_of lanes)
lines_same sheet [] = refl
lines_same sheet (lane ∷ lanes) = ap (λ t. lines_shown sheet lane.unit ++ t) (lines_same sheet lanes)

-- the rows of a table, one by one
rows_all : (rs : List Request) (d : Drawn) → fold with_row d rs ≡ record d { rows = d.rows ++ rs }
rows_all [] d = ap (λ (rows : List Request). record d { rows = rows }) (sym (append-nil d.rows))
rows_all (r ∷ rs) d =
    rows_all rs (with_row d r) ∙ ap (λ (rows : List Request). record d { rows = rows }) (append_assoc d.rows (r ∷ []) rs)

letters_all : (ls : List Letter) (d : Drawn) → fold with_letter d ls ≡ record d { legend = d.legend ++ ls }
letters_all [] d = ap (λ (legend : List Letter). record d { legend = legend }) (sym (append-nil d.legend))
letters_all (l ∷ ls) d =
    letters_all ls (with_letter d l) ∙ ap (λ (legend : List Letter). record d { legend = legend }) (append_assoc d.legend (l ∷ []) ls)

-- a drawing from its start to its end
pub drawn_whole : (sheet : Sheet) (lines : List (List ℕ)) (rows : List Request) (old a b e h j k : Drawn)
    → a ≡ started Svg old → b ≡ captioned (caption_of sheet) a → e ≡ fold with_letter b explained
    → h ≡ told lines (captioned (caption_of sheet) e) → j ≡ fold with_row h rows → k ≡ ended Svg j
    → k ≡ with_all sheet lines rows old
drawn_whole sheet lines rows old a b e h j k is_a is_b is_e is_h is_j is_k =
    let letters : e ≡ record (captioned (caption_of sheet) (started Svg old)) { legend = old.legend ++ explained } =
    is_e ∙ letters_all explained b
    ∙ ap (λ (d : Drawn). record d { legend = d.legend ++ explained }) (is_b ∙ ap (captioned (caption_of sheet)) is_a) in
    is_k ∙ ap (ended Svg) (is_j ∙ rows_all rows h
    ∙ ap (λ (d : Drawn). record d { rows = d.rows ++ rows }) (is_h ∙ ap (λ d. told lines (captioned (caption_of sheet) d)) letters))

-- what a picture comes to
pub picture_is : (sheet : Sheet) (items lanes : List Lane) (rows : List Request) (start d : Drawn) → lanes ≡ items
    → map unit_of items ≡ units_shown sheet → start ≡ blank → d ≡ with_all sheet (lines_of_lanes sheet lanes) rows start
    → d ≡ with_all sheet (lines_of_units sheet (units_shown sheet)) rows blank
picture_is sheet items lanes rows start d same is begun e =
    e ∙ ap (with_all sheet (lines_of_lanes sheet lanes) rows) begun
    ∙ ap (λ lines. with_all sheet lines rows blank)
    (ap (lines_of_lanes sheet) same ∙ lines_same sheet items ∙ ap (lines_of_units sheet) is)

pub picture_of : (sheet : Sheet) (rows : List Request) (d : Drawn) (text : List ℕ)
    → rows ≡ listed sheet (is_few (shown_count sheet)) → d ≡ with_all sheet (lines_of_units sheet (units_shown sheet)) rows blank
    → IsWritten d text → IsPicture sheet text
picture_of sheet rows d text are is written = record {
  lines = lines_of_units sheet (units_shown sheet);
  written = subst (λ (d : Drawn). IsWritten d text) (is ∙ ap (λ rows. with_all sheet (lines_of_units sheet (units_shown sheet)) rows blank) are) written;
  once = once_law sheet;
}
