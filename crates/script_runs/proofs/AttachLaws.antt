-- Laws of attaching: behind some lines of a script its units are set up, their images fit, and their tables are those of their packs.
use Rattle.std.proofs.Common.{◌≡◌, inl, inr, ℕ, zero, suc, ◌+◌, ◌*◌, ◌<◌, ◌≤◌, Bool, true, false, IsTrue, List, [], ◌∷◌, ◌++◌, length, take, drop, refl, sym, ap, subst, ◌∙◌, arith, Option, Some, None}
use Rattle.std.specs.Prelude.{if◌then◌else◌, ◌==◌, slice_index_or, Result, Ok, Err, IfErr, IfOk, OnOk}
use Rattle.std.specs.Result.{IsErrAnd}
use Rattle.std.proofs.lemmas.Bool.{eqb-true}
use Rattle.std.proofs.lemmas.List.{take_more, take_all, take-append-drop}
use Rattle.std.proofs.lemmas.Option.{none-some}
use Rattle.std.proofs.Math.Seq.{drop-cons}
use Rattle.outside_traits.specs.Causes.{Rose}
use Rattle.outside_traits.specs.declared.traits.PackCall.{PackCall}
use Rattle.pack_geometry.specs.declared.DriveKind.{DriveKind}
use Rattle.pack_geometry.specs.Geometry.{block_count}
use Rattle.pack_geometry.specs.Pack.{Pack}
use Rattle.pack_geometry.specs.PackTable.{AreTablesOf}
use Rattle.trace_replay.specs.Script.{Script, Statement, Declares, Plays, Drain, Line, declared_by, drives_in, drives_of, IsPlayed, AreUnitsFirst}
use Rattle.driver_machine.specs.World.{Setup}
use Rattle.script_runs.specs.Steps.{tables_in, AreSetFor}
use Rattle.script_runs.proofs.Attached as one
use Rattle.script_runs.proofs.Attached.{IsSetupOf, AreAttached, HasDrive, attached_more, attached_still, is_first, drive_there, drives_same, drives-append, first_none, first_some, none_or_some, set_for_script}
use Rattle.script_runs.specs.declared.fault.PlayFault.{PlayFault}
use Rattle.script_runs.specs.declared.fault.PlayFault.TheVariants as faults
use Rattle.script_runs.specs.Lengths.{NamesTooLong}
use Rattle.script_runs.specs.Faults.{IsLongFor}
use Rattle.script_runs.specs.Attaching.{IsSet, drive_in, drive_at, HasRoom, Adds, RefusesLine, FailsLine, AttachesOne}

-- LINES AND SETUPS that go together, over packs that tell: each image fits, and each table is that of its pack
pub record AreTold (packs : ℕ → Pack) (lines : List Line) (setups : List Setup) : Type 0 where
  pub fits : (unit : ℕ) (kind : DriveKind) → drives_in lines unit ≡ Some kind → length (packs unit).image ≤ 512 * block_count kind
  pub tables : AreTablesOf (drives_in lines) packs (tables_in setups)

pub set_up_as : {tells : Bool} {packs : ℕ → Pack} {u : ℕ} {kind : DriveKind} {s : Setup} → IsSet tells packs u kind s → IsSetupOf u kind s
set_up_as set = record { unit_is = set.unit_is; kind_is = set.kind_is; good = set.good }

fits_at : (packs : ℕ → Pack) (lines : List Line) (line : Line) (u x : ℕ) (kind other : DriveKind) → line.statement ≡ Declares u kind
    → length (packs u).image ≤ 512 * block_count kind → (drives_in lines x ≡ Some other → length (packs x).image ≤ 512 * block_count other)
    → drives_in (lines ++ line ∷ []) x ≡ Some other → length (packs x).image ≤ 512 * block_count other
fits_at packs lines line u x kind other is new old e =
    elim (none_or_some (drives_in lines x)) [
      | inl none ↦ at (x == u) refl (sym (first_none (drives_in lines x) (drives_in (line ∷ []) x) none ∙ ap (λ (st : Statement). declared_by st x None) is) ∙ sym (drives-append lines (line ∷ []) x) ∙ e)
      | inr some ↦ old (some.1 ∙ sym (first_some (drives_in lines x) (drives_in (line ∷ []) x) some.0 some.1) ∙ sym (drives-append lines (line ∷ []) x) ∙ e)
    ]
  where
    same_kind : (a b : DriveKind) → ◌≡◌ {A = Option DriveKind} (Some a) (Some b) → a ≡ b
    same_kind a b f = cc

    at : (t : Bool) → (x == u) ≡ t → (if t then Some kind else None) ≡ Some other → length (packs x).image ≤ 512 * block_count other
    at true f g =
        subst (λ (k : DriveKind). length (packs x).image ≤ 512 * block_count k) (same_kind kind other g)
        (subst (λ (n : ℕ). length (packs n).image ≤ 512 * block_count kind) (sym (eqb-true x u f)) new)
    at false f g = absurd (none-some other g)

pub told_more : {lines : List Line} {setups : List Setup} {tells : Bool} {packs : ℕ → Pack} {u : ℕ} {kind : DriveKind} {s : Setup} (line : Line)
    → AreAttached lines setups → line.statement ≡ Declares u kind → IsSet tells packs u kind s → IsTrue tells → AreTold packs lines setups
    → AreTold packs (lines ++ line ∷ []) (setups ++ s ∷ [])
told_more {lines} {setups} {tells} {packs} {u} {kind} {s} line a is new t told = record {
  fits = λ x other e. fits_at packs lines line u x kind other is (new.fits t) (told.fits x other) e;
  tables = one.told_more packs s line a is new.unit_is (new.table_is t) told.tables;
}

pub told_still : {packs : ℕ → Pack} {lines : List Line} {setups : List Setup} (line : Line) → IsPlayed line.statement → AreTold packs lines setups → AreTold packs (lines ++ line ∷ []) setups
told_still {packs} {lines} {setups} line played told = record {
  fits = λ unit kind e. told.fits unit kind (sym (drives_same lines line unit played) ∙ e);
  tables = one.told_still packs lines setups line played told.tables;
}

-- ONE LINE
attached_line : (line : Line) (tells : Bool) (packs : ℕ → Pack) (lines : List Line) (old new : List Setup) → ((u : ℕ) (kind : DriveKind) → line.statement ≡ Declares u kind → HasDrive lines u)
    → Adds tells packs (drive_in line.statement) old new → AreAttached lines old → AreAttached (lines ++ line ∷ []) new
attached_line line tells packs lines old new first adds a = at line.statement refl adds
  where
    at : (st : Statement) → line.statement ≡ st → Adds tells packs (drive_in st) old new → AreAttached (lines ++ line ∷ []) new
    at (Declares u kind) e more = subst (λ (setups : List Setup). AreAttached (lines ++ line ∷ []) setups) (sym more.1) (attached_more line a (first u kind e) e (set_up_as more.2))
    at (Plays input) e same = subst (λ (setups : List Setup). AreAttached (lines ++ line ∷ []) setups) (sym same) (attached_still line (subst IsPlayed (sym e) tt) a)

told_line : (line : Line) (tells : Bool) (packs : ℕ → Pack) (lines : List Line) (old new : List Setup) → IsTrue tells
    → Adds tells packs (drive_in line.statement) old new → AreAttached lines old → AreTold packs lines old → AreTold packs (lines ++ line ∷ []) new
told_line line tells packs lines old new t adds a told = at line.statement refl adds
  where
    at : (st : Statement) → line.statement ≡ st → Adds tells packs (drive_in st) old new → AreTold packs (lines ++ line ∷ []) new
    at (Declares u kind) e more = subst (λ (setups : List Setup). AreTold packs (lines ++ line ∷ []) setups) (sym more.1) (told_more line a e more.2 t told)
    at (Plays input) e same = subst (λ (setups : List Setup). AreTold packs (lines ++ line ∷ []) setups) (sym same) (told_still line (subst IsPlayed (sym e) tt) told)

abbrev blank : Line
blank = record { number = 0; statement = Plays Drain }

drive_is : (lines : List Line) (i : ℕ) → drive_at lines i ≡ drive_in (slice_index_or lines i blank).statement
drive_is [] i = refl
drive_is (line ∷ lines) zero = refl
drive_is (line ∷ lines) (suc i) = drive_is lines i

-- AT A LINE of a script, by the drive that it declares
module _ (script : Script) (i : ℕ) (drive : Option (ℕ × DriveKind)) (first : AreUnitsFirst script.lines) (lt : i < length script.lines) (is : drive ≡ drive_at script.lines i) where
  abbrev line : Line
  line = slice_index_or script.lines i blank

  got : drive ≡ drive_in line.statement
  got = is ∙ drive_is script.lines i

  parts : script.lines ≡ take i script.lines ++ line ∷ drop (suc i) script.lines
  parts = sym (take-append-drop i script.lines) ∙ ap (λ (xs : List Line). take i script.lines ++ xs) (drop-cons script.lines i blank lt)

  is_new : (u : ℕ) (kind : DriveKind) → line.statement ≡ Declares u kind → HasDrive (take i script.lines) u
  is_new u kind e =
      let new = is_first (take i script.lines) (drop (suc i) script.lines) line u kind (subst AreUnitsFirst parts first) e in
      record { small = new.0; none = new.1 }

  declared_here : (u : ℕ) (kind : DriveKind) → line.statement ≡ Declares u kind → drives_of script u ≡ Some kind
  declared_here u kind e =
      ap (λ (lines : List Line). drives_in lines u) parts
      ∙ drive_there (take i script.lines) (drop (suc i) script.lines) line u kind e (is_new u kind e).none

  pub room_at : HasRoom drive
  room_at = subst HasRoom (sym got) (by line.statement refl)
    where
      by : (st : Statement) → line.statement ≡ st → HasRoom (drive_in st)
      by (Declares u kind) e = (is_new u kind e).small
      by (Plays input) e = tt

  pub attached_at : (tells : Bool) (packs : ℕ → Pack) (old new : List Setup) → Adds tells packs drive old new → AreAttached (take i script.lines) old → AreAttached (take (i + 1) script.lines) new
  attached_at tells packs old new adds a =
      subst (λ (lines : List Line). AreAttached lines new) (sym (take_more script.lines i blank lt))
      (attached_line line tells packs (take i script.lines) old new is_new (subst (λ (d : Option (ℕ × DriveKind)). Adds tells packs d old new) got adds) a)

  pub told_at_line : (tells : Bool) (packs first : ℕ → Pack) (old new : List Setup) → IsTrue tells → packs ≡ first → Adds tells packs drive old new
      → AreAttached (take i script.lines) old → AreTold first (take i script.lines) old → AreTold first (take (i + 1) script.lines) new
  told_at_line tells packs first old new t same adds a told =
      subst (λ (lines : List Line). AreTold first lines new) (sym (take_more script.lines i blank lt))
      (told_line line tells first (take i script.lines) old new t
      (subst (λ (p : ℕ → Pack). Adds tells p (drive_in line.statement) old new) same (subst (λ (d : Option (ℕ × DriveKind)). Adds tells packs d old new) got adds)) a told)

  -- a unit that is refused at the line is the first one whose image is too long
  pub long_at : (tells : Bool) (packs first : ℕ → Pack) (old : List Setup) (fault : PlayFault) → (IsTrue tells → packs ≡ first)
      → (IsTrue tells → AreTold first (take i script.lines) old) → RefusesLine tells packs drive fault → IsLongFor script tells first fault
  long_at tells packs first old fault same told refuses =
      at line.statement refl fault (subst (λ (d : Option (ℕ × DriveKind)). RefusesLine tells packs d fault) got refuses)
    where
      named : (u n : ℕ) (kind : DriveKind) → line.statement ≡ Declares u kind → 512 * block_count kind < n → (IsTrue tells → n ≡ length (packs u).image) → NamesTooLong script tells first u n
      named u n kind e more size = record {
        kind = kind;
        before = take i script.lines;
        line = line;
        after = drop (suc i) script.lines;
        lines = parts;
        declares = e;
        declared = declared_here u kind e;
        more = more;
        is = λ t. size t ∙ ap (λ (p : ℕ → Pack). length (p u).image) (same t);
        first = λ t other its there. (told t).fits other its there;
      }

      at : (st : Statement) → line.statement ≡ st → (stop : PlayFault) → RefusesLine tells packs (drive_in st) stop → IsLongFor script tells first stop
      at (Declares u kind) e faults.Memory long = tt
      at (Declares u kind) e (faults.TooLong other n) long = subst (λ (k : ℕ). NamesTooLong script tells first k n) (sym long.0) (named u n kind e long.1 long.2)
      at (Declares u kind) e faults.Store long = tt
      at (Declares u kind) e faults.Sink long = tt
      at (Plays input) e stop none = absurd none

  -- a unit at which the packs failed is declared
  pub attaches_at : (call : PackCall) → FailsLine drive call → AttachesOne script call
  attaches_at call fails = at line.statement refl (subst (λ (d : Option (ℕ × DriveKind)). FailsLine d call) got fails)
    where
      at : (st : Statement) → line.statement ≡ st → FailsLine (drive_in st) call → AttachesOne script call
      at (Declares u kind) e fails = record { unit = u; kind = kind; declared = declared_here u kind e; attaching = fails }
      at (Plays input) e none = absurd none

-- what holds of the fault that a call gave holds of the one that is handed on
pub at_fault : {T : Type 0} (result : Result T PlayFault) {fault : PlayFault} (P : PlayFault → Type 0) → IsErrAnd result (λ x. x ≡ fault) → P fault → IfErr result P
at_fault (Ok v) P is p = tt
at_fault (Err x) P is p = subst P (sym is) p

-- where a fault is handed on there is no value, and it is the same fault
pub not_given : {T : Type 0} (Q : T → Type 0) (result : Result T PlayFault) (fault : PlayFault) → IsErrAnd result (λ x. x ≡ fault) → IfOk result Q
not_given Q (Ok v) fault is = absurd is
not_given Q (Err x) fault is = tt

pub not_ok : {T : Type 0} (P : Type 0) (result : Result T PlayFault) (fault : PlayFault) → IsErrAnd result (λ x. x ≡ fault) → OnOk result P
not_ok P (Ok v) fault is = absurd is
not_ok P (Err x) fault is = tt

err_same : {T : Type 0} {a b : PlayFault} → ◌≡◌ {A = Result T PlayFault} (Err a) (Err b) → a ≡ b
err_same is = cc

pub fault_from : {T U : Type 0} (result : Result T PlayFault) {fault : PlayFault} (other : PlayFault) → IsErrAnd result (λ x. x ≡ fault) → result ≡ Err other
    → ◌≡◌ {A = Result U PlayFault} (Err fault) (Err other)
fault_from (Ok v) other is e = absurd is
fault_from (Err x) other is e = ap Err (sym is ∙ err_same e)

-- a count that rises further
pub later_from : (a b c : ℕ) → a ≤ b → b ≤ c → a ≤ c
later_from a b c le more = omega (arith, le, more)

pub rose_from : (a b c : ℕ) → a ≤ b → Rose b c → Rose a c
rose_from a b c le rose = omega (arith, le, rose)

-- BEHIND THE LAST LINE
pub attached_all : (script : Script) (i : ℕ) (setups : List Setup) → length script.lines ≤ i → AreAttached (take i script.lines) setups → AreSetFor script (tables_in setups) setups
attached_all script i setups all a = set_for_script script setups (subst (λ (lines : List Line). AreAttached lines setups) (take_all i script.lines all) a)

pub told_all : (script : Script) (i : ℕ) (packs : ℕ → Pack) (setups : List Setup) → length script.lines ≤ i → AreTold packs (take i script.lines) setups → AreTold packs script.lines setups
told_all script i packs setups all told = subst (λ (lines : List Line). AreTold packs lines setups) (take_all i script.lines all) told
