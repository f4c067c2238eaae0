-- The words of columns, windows, letters, requests and texts refuse these outcomes.
use Rattle.std.proofs.Common.{◌≡◌, ℕ, ◌+◌, ◌-◌, ◌^◌, ◌<◌, ◌≤◌, ◌==◌, nat_le, nat_lt, min, Bool, true, false, not, ◌&&◌, ◌||◌, if◌then◌else◌, List, [], ◌∷◌, ◌++◌, length, refl, sym, ap, ◌∙◌, arith}
use Rattle.std.proofs.lemmas.Bool.{false≢true, ne_eqb}
use Rattle.std.proofs.lemmas.Bool.Decides.{nat_tests}
use Rattle.std.proofs.lemmas.List.{take_at}
use Rattle.std.proofs.lemmas.List.Sums.{sum_by-append}
use Rattle.drive_pictures.specs.declared.drives.Drive.{Drive}
use Rattle.drive_pictures.specs.declared.letters.Letter.{Letter}
use Rattle.run_picture.specs.Columns.{together}
use Rattle.run_picture.specs.Positioning.{positioning, positions}
use Rattle.run_plan.specs.Letters.{count_of, oftener}
use Rattle.run_plan.specs.Requests.{is_shown}
use Rattle.picture_svg.specs.declared.pieces.Element.{Element}
use Rattle.picture_svg.specs.declared.pieces.Element.TheVariants.{Group, Title}
use Rattle.picture_svg.specs.declared.pieces.Point.{Point}
use Rattle.picture_svg.specs.Nesting.{Drawn, is_same, started, ended, ended_in}
use Rattle.picture_svg.specs.Places.{is_low}
use Rattle.picture_rows.specs.Outcomes.{ColumnDropsAnEvent, IdleEventLeftOut, AmpersandAsItIs, CoordinateOf20000, WindowFromTheFirstEvent, LeadOfEqualsTheFirst, AllAdaptersTakenTogether, RequestBehindTheWindowShown, LineOfAnotherDrive, GroupEndedAroundAnArm, TooltipEndedTwice}

one_more : (n : ℕ) → n < 2 ^ 64 - 1 → min (n + 1) (2 ^ 64 - 1) ≡ n → ⊥
one_more n less is = omega (arith, less, is)

pub column_drops_an_event : ColumnDropsAnEvent
column_drops_an_event line idle drives head one is = one_more head.events (omega (arith, one)) (is ∙ sym one)

pub idle_event_left_out : IdleEventLeftOut
idle_event_left_out line drives head less is = one_more head.events less is

pub ampersand_as_it_is : AmpersandAsItIs
ampersand_as_it_is is = longer is
  where
    longer : {x : ℕ} {xs : List ℕ} → 38 ∷ x ∷ xs ≡ 38 ∷ [] → ⊥
    longer is = cc is

pub coordinate_of_20000 : CoordinateOf20000
unfolding is_low
coordinate_of_20000 p far is = false≢true (sym (ap (λ b. b && nat_lt p.y 20000) (not_below p.x far)) ∙ is)
  where
    not_below : (x : ℕ) → x ≡ 20000 → nat_lt x 20000 ≡ false
    not_below x far = grind (arith, nat_tests)

pub window_from_the_first_event : WindowFromTheFirstEvent
window_from_the_first_event events first last some behind end is = least first last events behind end some is
  where
    least : (a b c : ℕ) → 0 < a → 0 < b → 0 < c → min a (min b c) ≡ 0 → ⊥
    least a b c a' b' c' is = omega (arith, a', b', c', is)

-- of as many the other one is taken
other_taken : (m n : ℕ) (letter other : Letter) → m ≡ n → (if nat_le m n then other else letter) ≡ other
other_taken m n letter other same = rw (le) refl
  where
    le : nat_le m n ≡ true
    le = grind (arith, nat_tests)

pub lead_of_equals_the_first : LeadOfEqualsTheFirst
unfolding oftener
lead_of_equals_the_first t events letter other same differs is =
    differs (sym is ∙ other_taken (count_of t events letter) (count_of t events other) letter other same)

-- a drive more that positions
one_more_positions : (first others : List Drive) (drive : Drive) → positions drive ≡ true → positioning first < positioning (first ++ drive ∷ others)
one_more_positions first others drive counts =
    omega (arith, sum_by-append (λ d. if positions d then 1 else 0) first (drive ∷ others), sum_by-append (λ d. if positions d then 1 else 0) (drive ∷ []) others, one (positions drive) counts)
  where
    one : (b : Bool) → b ≡ true → ◌≡◌ {A = ℕ} (if b then 1 else 0) 1
    one b counts = rw (counts) refl

pub all_adapters_taken_together : AllAdaptersTakenTogether
all_adapters_taken_together first others drive eight counts is =
    let here : together (first ++ drive ∷ others) 0 ≡ positioning first = ap positioning (take_at first (drive ∷ others) 8 eight) in
    omega (arith, one_more_positions first others drive counts, is, here)

-- a test in the middle fails
fails : (a b c : Bool) → b ≡ false → not a && b && c ≡ true → ⊥
fails true b c unlike is = false≢true is
fails false true c unlike is = false≢true (sym unlike)
fails false false c unlike is = false≢true is

pub request_behind_the_window_shown : RequestBehindTheWindowShown
unfolding is_shown
request_behind_the_window_shown sheet r at is = fails _ _ _ (not_before r.asked sheet.window.last at) is
  where
    not_before : (asked last : ℕ) → asked ≡ last → nat_lt asked last ≡ false
    not_before asked last at = grind (arith, nat_tests)

-- of another unit nothing is told
none_told : (here : Bool) (text : List ℕ) → here ≡ false → (if here then text ∷ [] else []) ++ [] ≡ text ∷ [] → ⊥
none_told true text elsewhere is = false≢true (sym elsewhere)
none_told false text elsewhere is = absurd (cc is)

pub line_of_another_drive : LineOfAnotherDrive
line_of_another_drive unit note differs is = none_told (note.unit == unit) note.text.now (ne_eqb note.unit unit differs) is

pub group_ended_around_an_arm : GroupEndedAroundAnArm
group_ended_around_an_arm e d is = omega (arith, shorter)
  where
    shorter : length d.within ≡ length (e ∷ d.within)
    shorter = ap (λ (d : Drawn). length d.within) is

-- what is broken stays so
or_true : (b : Bool) → b || true ≡ true
or_true true = refl
or_true false = refl

stays_broken : (within : List Element) (e : Element) (d : Drawn) → d.broken ≡ true → (ended_in within e d).broken ≡ true
stays_broken [] e d broken = refl
stays_broken (f ∷ rest) e d broken = rw (broken) (or_true (not (is_same e f)))

pub tooltip_ended_twice : TooltipEndedTwice
tooltip_ended_twice d whole is =
    false≢true (sym whole ∙ ap (λ (d : Drawn). d.broken) (sym is) ∙ stays_broken d.within Group (ended Title (ended Title (started Title (started Group d)))) refl)
