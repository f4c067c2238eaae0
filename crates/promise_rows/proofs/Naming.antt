-- What is promised of `play` refuses these outcomes too.
use Rattle.std.proofs.Common.{◌≡◌, ℕ, ◌+◌, ◌*◌, ◌<◌, ◌≤◌, ◌==◌, Bool, true, false, List, [], ◌∷◌, drop, length, Option, Some, refl, sym, ap, subst, arith, ◌∙◌}
use Rattle.std.specs.Prelude.{if◌then◌else◌, is_some, unwrap_or}
use Rattle.std.proofs.lemmas.Bool.{eq-eqb, eqb-true}
use Rattle.std.proofs.lemmas.Option.{same_Some}
use Rattle.pack_geometry.specs.declared.DriveKind.{DriveKind}
use Rattle.pack_geometry.specs.declared.DriveKind.TheVariants.{Rp06, Rm03, Rm05}
use Rattle.pack_geometry.specs.Geometry.{block_count}
use Rattle.pack_geometry.specs.TableSpelling.{Table}
use Rattle.trace_replay.specs.requests.Requests.{first_block}
use Rattle.trace_replay.specs.Moments.{Told}
use Rattle.trace_replay.specs.Script as says
use Rattle.trace_replay.specs.Script.{Input, Numbered, drives_of, inputs_of}
use Rattle.driver_laws.specs.rules.Drains.{event_by}
use Rattle.driver_laws.specs.shown.Reach.{AsksBelow, AskBelow, TablesBelow}
use Rattle.promise_rows.specs.Naming.{LaterUnitNamed, FittingLengthNamed, FirstEventUntold, OtherRunByOtherTables, NoneWrites, WritesTo, ReadsLengthen, MarkGoneBehindAFailure, NotAsLongAsWritten}

pub later_unit_named : LaterUnitNamed
later_unit_named script packs unit n named other kind there more =
    let fits : length (packs other).image ≤ 512 * block_count kind = named.first refl other kind there in
    omega (arith, fits, more)

pub fitting_length_named : FittingLengthNamed
fitting_length_named script packs unit n kind there fits named =
    let same : named.kind ≡ kind = same_Some named.kind kind (sym named.declared ∙ there) in
    let more : 512 * block_count kind < n = subst (λ (k : DriveKind). 512 * block_count k < n) same named.more in
    omega (arith, fits, more)

pub first_event_untold : FirstEventUntold
first_event_untold script tables old new moments promises number line unit id deed before after is some none =
    not_one (event_by deed) (promises.first_events number (Told line unit id deed) before after is some) none
  where
    not_one : (n : ℕ) → n + 0 ≡ 1 → n ≡ 0 → ⊥
    not_one n one none = omega (arith, one, none)

pub other_run_by_other_tables : OtherRunByOtherTables
other_run_by_other_tables script tables others old new left moments told promises run other = other (promises.only others left told run).1

-- WHERE NOTHING IS WRITTEN to a unit, what is asked ends below no block of it, and below a bound on each other one.
abbrev ends_at : ℕ → ℕ → ℕ → ℕ
ends_at unit top u = if u == unit then 0 else top

abbrev end_of : (ℕ → Option DriveKind) → Input → ℕ
end_of drives (says.Submit r) = first_block (unwrap_or (drives r.unit) Rp06) r + r.count
end_of drives input = 0

abbrev bound : (ℕ → Option DriveKind) → List Numbered → ℕ
bound drives [] = 1000000
bound drives (next ∷ inputs) = end_of drives next.input + bound drives inputs

left_part : (a b top : ℕ) → a + b ≤ top → a ≤ top
left_part a b top less = omega (arith, less)

right_part : (a b top : ℕ) → a + b ≤ top → b ≤ top
right_part a b top less = omega (arith, less)

least : (drives : ℕ → Option DriveKind) (inputs : List Numbered) → 1000000 ≤ bound drives inputs
least drives [] = omega arith
least drives (next ∷ inputs) = more (end_of drives next.input) (bound drives inputs) (least drives inputs)
  where
    more : (a b : ℕ) → 1000000 ≤ b → 1000000 ≤ a + b
    more a b less = omega (arith, less)

asks_one : (drives : ℕ → Option DriveKind) (unit top : ℕ) (input : Input) → ¬ WritesTo unit input → end_of drives input ≤ top → AsksBelow (ends_at unit top) drives input
asks_one drives unit top (says.Submit r) none less = λ kind there writes. by kind there writes (r.unit == unit) refl
  where
    by : (kind : DriveKind) → drives r.unit ≡ Some kind → is_some r.written ≡ true → (t : Bool) → (r.unit == unit) ≡ t → first_block kind r + r.count ≤ (if r.unit == unit then 0 else top)
    by kind there writes true is = absurd (none (eqb-true r.unit unit is, writes))
    by kind there writes false is =
        subst (λ (t : Bool). first_block kind r + r.count ≤ (if t then 0 else top)) (sym is)
        (subst (λ (o : Option DriveKind). first_block (unwrap_or o Rp06) r + r.count ≤ top) there less)
asks_one drives unit top (says.ArriveAt u) none less = tt
asks_one drives unit top (says.MoveAt a) none less = tt
asks_one drives unit top (says.AttendTo a) none less = tt
asks_one drives unit top says.Drain none less = tt
asks_one drives unit top (says.Turn u y) none less = tt
asks_one drives unit top (says.Noise n) none less = tt
asks_one drives unit top (says.Arm u k n) none less = tt
asks_one drives unit top (says.SetOnline u on) none less = tt
asks_one drives unit top (says.SetLocked u on) none less = tt

asks_all : (drives : ℕ → Option DriveKind) (unit top : ℕ) (inputs : List Numbered) → NoneWrites unit inputs → bound drives inputs ≤ top → AskBelow (ends_at unit top) drives inputs
asks_all drives unit top [] none less = tt
asks_all drives unit top (next ∷ inputs) none less = (
  asks_one drives unit top next.input none.0 (left_part (end_of drives next.input) (bound drives inputs) top less),
  asks_all drives unit top inputs none.1 (right_part (end_of drives next.input) (bound drives inputs) top less),
)

few_blocks : (kind : DriveKind) → block_count kind ≤ 1000000
few_blocks Rp06 = omega arith
few_blocks other = omega arith

tables_all : (drives : ℕ → Option DriveKind) (tables : ℕ → Option Table) (unit top : ℕ) → 1000000 ≤ top → TablesBelow (ends_at unit top) drives tables
tables_all drives tables unit top less u kind table there is some = by (u == unit) some
  where
    by : (t : Bool) → 0 < (if t then 0 else top) → block_count kind ≤ (if t then 0 else top)
    by true some = absurd (omega (arith, some))
    by false some =
        let few : block_count kind ≤ 1000000 = few_blocks kind in
        omega (arith, few, less)

pub reads_lengthen : ReadsLengthen
reads_lengthen script old new out_tells said said' trace_tells taken taken' plays unit none other =
    other (subst (λ (n : ℕ). drop (512 * n) (new unit).image ≡ drop (512 * n) (old unit).image) nothing (plays.reach (ends_at unit top) asks tables unit))
  where
    top : ℕ
    top = bound (drives_of script) (inputs_of script)

    same : (n : ℕ) → n ≤ n
    same n = omega arith

    asks : AskBelow (ends_at unit top) (drives_of script) (inputs_of script)
    asks = asks_all (drives_of script) unit top (inputs_of script) none (same top)

    tables : TablesBelow (ends_at unit top) (drives_of script) plays.tables
    tables = tables_all (drives_of script) plays.tables unit top (least (drives_of script) (inputs_of script))

    nothing : ends_at unit top unit ≡ 0
    nothing = ap (λ (t : Bool). if t then 0 else top) (eq-eqb unit unit refl)

pub not_as_long_as_written : NotAsLongAsWritten
not_as_long_as_written script old new out_tells said said' trace_tells taken taken' plays unit other = other (plays.long unit)

pub mark_gone_behind_a_failure : MarkGoneBehindAFailure
mark_gone_behind_a_failure script first left out trace stops keeps unit other = other ((keeps stops).2.taken.hold.marks unit)
