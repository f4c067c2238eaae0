-- The drives that lines declare and the units that are set up for them, one behind another.
use Rattle.std.proofs.Common.{◌≡◌, ◌⊎◌, inl, inr, ℕ, zero, suc, ◌<◌, ◌≤◌, Bool, true, false, List, [], ◌∷◌, ◌++◌, length, set, get_or, get_or-set_same, get_or-set_other, length-set, replicate, refl, sym, ap, subst, ◌∙◌, arith, Option, Some, None}
use Rattle.std.specs.List.{list_any}
use Rattle.std.proofs.lemmas.Bool.{eqb-true, eq-eqb, or_parts}
use Rattle.std.proofs.lemmas.List.{map-append, length-replicate}
use Rattle.std.proofs.lemmas.List.Elements.{Contains-append_cases}
use Rattle.std.proofs.lemmas.Option.{none-some}
use Rattle.std.proofs.Math.ListN.{get_or-eq_default}
use Rattle.pack_geometry.specs.declared.DriveKind.{DriveKind}
use Rattle.pack_geometry.specs.declared.DriveKind.TheVariants.{Rp06}
use Rattle.pack_geometry.specs.Pack.{Pack}
use Rattle.pack_geometry.specs.TableSpelling.{Table}
use Rattle.std.specs.Prelude.{if◌then◌else◌, ◌==◌, is_some, unwrap_or, Contains}
use Rattle.pack_geometry.specs.PackTable.{IsTableOf, IsTableAt, AreTablesOf}
use Rattle.trace_replay.specs.Script.{Script, Statement, Declares, Plays, Line, declared_by, drives_in, declares, IsPlayed, ArePlays, IsFirst, AreUnitsFirst}
use Rattle.driver_machine.specs.World.{UnitView, Setup, no_unit, new_unit, set_up}
use Rattle.driver_machine.specs.Sound.{Among, Once, IsTableFor}
use Rattle.driver_laws.specs.invariant.Setups.{units_of, AreSetups}
use Rattle.driver_laws.proofs.invariant.SlotsLists.{Once-push, Contains-none, Contains-first, Contains-later, Contains-cases}
use Rattle.script_runs.specs.Steps.{tables_in, AreSetFor}

-- A UNIT'S SETUP, whose table is for its kind
pub record IsSetupOf (unit : ℕ) (kind : DriveKind) (s : Setup) : Type 0 where
  pub unit_is : s.unit ≡ unit
  pub kind_is : s.kind ≡ kind
  pub good : (table : Table) → s.table ≡ Some table → IsTableFor kind table

-- OPTIONS: the first of two
abbrev pub first_of : {A : Type 0} → Option A → Option A → Option A
first_of None other = other
first_of (Some a) other = Some a

pub first_none : {A : Type 0} (o other : Option A) → o ≡ None → first_of o other ≡ other
first_none {A} o other e = ap (λ (x : Option A). first_of x other) e

pub first_some : {A : Type 0} (o other : Option A) (a : A) → o ≡ Some a → first_of o other ≡ Some a
first_some {A} o other a e = ap (λ (x : Option A). first_of x other) e

-- it is there or not
pub none_or_some : {A : Type 0} (o : Option A) → (o ≡ None) ⊎ ((a : A) × (o ≡ Some a))
none_or_some None = inl refl
none_or_some (Some a) = inr (a, refl)

-- THE DRIVES that lines declare
declared_first : (st : Statement) (x : ℕ) (a b other : Option DriveKind) → a ≡ first_of b other → declared_by st x a ≡ first_of (declared_by st x b) other
declared_first (Declares u kind) x a b other e = at (x == u)
  where
    at : (t : Bool) → (if t then Some kind else a) ≡ first_of (if t then Some kind else b) other
    at true = refl
    at false = e
declared_first (Plays input) x a b other e = e

pub drives-append : (xs ys : List Line) (x : ℕ) → drives_in (xs ++ ys) x ≡ first_of (drives_in xs x) (drives_in ys x)
drives-append [] ys x = refl
drives-append (line ∷ xs) ys x = declared_first line.statement x (drives_in (xs ++ ys) x) (drives_in xs x) (drives_in ys x) (drives-append xs ys x)

-- a line that declares a drive is the first to do so, and its unit is one of 32
apart : (u v : ℕ) (kind : DriveKind) (rest : Option DriveKind) → (u == v) ≡ false → rest ≡ None → (if u == v then Some kind else rest) ≡ None
apart u v kind rest ne e = ap (λ (t : Bool). if t then Some kind else rest) ne ∙ e

any_at : (test : Line → Bool) (xs rest : List Line) (line : Line) → list_any test (xs ++ line ∷ rest) ≡ false → test line ≡ false
any_at test [] rest line e = (or_parts (test line) (list_any test rest) e).0
any_at test (x ∷ xs) rest line e = any_at test xs rest line (or_parts (test x) (list_any test (xs ++ line ∷ rest)) e).1

played_at : (xs rest : List Line) (line : Line) → ArePlays (xs ++ line ∷ rest) → IsPlayed line.statement
played_at [] rest line p = p.0
played_at (x ∷ xs) rest line p = played_at xs rest line p.1

before_it : (st : Statement) (xs rest : List Line) (line : Line) (u : ℕ) (kind : DriveKind) (others : Option DriveKind) → line.statement ≡ Declares u kind
    → IsFirst st (xs ++ line ∷ rest) → others ≡ None → declared_by st u others ≡ None
before_it (Declares v other) xs rest line u kind others is first e =
    let not : declares v line.statement ≡ false = any_at (λ (l : Line). declares v l.statement) xs rest line first.1 in
    apart u v other others (sym (ap (declares v) is) ∙ not) e
before_it (Plays input) xs rest line u kind others is first e = absurd (subst IsPlayed is (played_at xs rest line first))

pub is_first : (xs rest : List Line) (line : Line) (u : ℕ) (kind : DriveKind) → AreUnitsFirst (xs ++ line ∷ rest) → line.statement ≡ Declares u kind
    → (u < 32) × (drives_in xs u ≡ None)
is_first [] rest line u kind first is = ((subst (λ (st : Statement). IsFirst st rest) is first.0).0, refl)
is_first (x ∷ xs) rest line u kind first is =
    let behind = is_first xs rest line u kind first.1 is in
    (behind.0, before_it x.statement xs rest line u kind (drives_in xs u) is first.0 behind.1)

its_kind : (u : ℕ) (kind : DriveKind) (others : Option DriveKind) → (if u == u then Some kind else others) ≡ Some kind
its_kind u kind others = at (u == u) (eq-eqb u u refl)
  where
    at : (t : Bool) → t ≡ true → (if t then Some kind else others) ≡ Some kind
    at true e = refl
    at false e = absurd (cc)

pub drive_there : (xs rest : List Line) (line : Line) (u : ℕ) (kind : DriveKind) → line.statement ≡ Declares u kind → drives_in xs u ≡ None
    → drives_in (xs ++ line ∷ rest) u ≡ Some kind
drive_there xs rest line u kind is none =
    drives-append xs (line ∷ rest) u ∙ first_none (drives_in xs u) (drives_in (line ∷ rest) u) none
    ∙ ap (λ (st : Statement). declared_by st u (drives_in rest u)) is ∙ its_kind u kind (drives_in rest u)

-- THE UNITS that are set up: their kinds
abbrev kinds_in : List Setup → ℕ → Option DriveKind
kinds_in [] x = None
kinds_in (s ∷ setups) x = if s.unit == x then Some s.kind else kinds_in setups x

chosen_first : {A : Type 0} (t : Bool) (mine a b other : Option A) → ((k : A) × (mine ≡ Some k)) → a ≡ first_of b other
    → (if t then mine else a) ≡ first_of (if t then mine else b) other
chosen_first true mine a b other some e = some.1 ∙ sym (first_some mine other some.0 some.1)
chosen_first false mine a b other some e = e

kinds-append : (setups more : List Setup) (x : ℕ) → kinds_in (setups ++ more) x ≡ first_of (kinds_in setups x) (kinds_in more x)
kinds-append [] more x = refl
kinds-append (s ∷ setups) more x =
    chosen_first (s.unit == x) (Some s.kind) (kinds_in (setups ++ more) x) (kinds_in setups x) (kinds_in more x) (s.kind, refl) (kinds-append setups more x)

tables_known : (setups more : List Setup) (x : ℕ) (kind : DriveKind) → kinds_in setups x ≡ Some kind → tables_in (setups ++ more) x ≡ tables_in setups x
tables_known [] more x kind e = absurd (none-some kind e)
tables_known (s ∷ setups) more x kind e = at (s.unit == x) e (λ f. tables_known setups more x kind f)
  where
    at : (t : Bool) → (if t then Some s.kind else kinds_in setups x) ≡ Some kind → (kinds_in setups x ≡ Some kind → tables_in (setups ++ more) x ≡ tables_in setups x)
        → (if t then s.table else tables_in (setups ++ more) x) ≡ (if t then s.table else tables_in setups x)
    at true f rest = refl
    at false f rest = rest f

tables_unknown : (setups more : List Setup) (x : ℕ) → kinds_in setups x ≡ None → tables_in (setups ++ more) x ≡ tables_in more x
tables_unknown [] more x e = refl
tables_unknown (s ∷ setups) more x e = at (s.unit == x) e (λ f. tables_unknown setups more x f)
  where
    at : (t : Bool) → (if t then Some s.kind else kinds_in setups x) ≡ None → (kinds_in setups x ≡ None → tables_in (setups ++ more) x ≡ tables_in more x)
        → (if t then s.table else tables_in (setups ++ more) x) ≡ tables_in more x
    at true f rest = absurd (none-some s.kind (sym f))
    at false f rest = rest f

not_among : (setups : List Setup) (u : ℕ) → kinds_in setups u ≡ None → Among u (units_of setups) → ⊥
not_among [] u e m = m
not_among (s ∷ setups) u e m = at (s.unit == u) refl e m (λ f. not_among setups u f)
  where
    at : (t : Bool) → (s.unit == u) ≡ t → (if t then Some s.kind else kinds_in setups u) ≡ None → Among u (units_of (s ∷ setups)) → (kinds_in setups u ≡ None → Among u (units_of setups) → ⊥) → ⊥
    at true f g m rest = none-some s.kind (sym g)
    at false f g (inl same) rest = let h : false ≡ true = sym f ∙ eq-eqb s.unit u (sym same) in absurd (cc)
    at false f g (inr later) rest = rest g later

-- LINES AND SETUPS that go together
pub record AreAttached (lines : List Line) (setups : List Setup) : Type 0 where
  pub kinds : (x : ℕ) → drives_in lines x ≡ kinds_in setups x
  pub are : AreSetups setups

pub attached_none : AreAttached [] []
attached_none = record {
  kinds = λ x. refl;
  are = record {
    differ = tt;
    small = λ s c. absurd (Contains-none s c);
    tables = λ s table c. absurd (Contains-none s c);
  };
}

-- what holds of each of some, and of one more, holds of each of them
each_more : (P : Setup → Type 0) (setups : List Setup) (s : Setup) → ((t : Setup) → Contains setups t → P t) → P s → (t : Setup) → Contains (setups ++ s ∷ []) t → P t
each_more P setups s each p t c =
    elim (Contains-append_cases setups (s ∷ []) t c) [
      | inl old ↦ each t old
      | inr new ↦ elim (Contains-cases t s [] new) [ inl same ↦ subst P same p | inr none ↦ absurd (Contains-none t none) ]
    ]

units-append : (setups : List Setup) (s : Setup) → units_of (setups ++ s ∷ []) ≡ units_of setups ++ s.unit ∷ []
units-append setups s = map-append (λ (x : Setup). x.unit) setups (s ∷ [])

pub record HasDrive (lines : List Line) (u : ℕ) : Type 0 where
  pub small : u < 32
  pub none : drives_in lines u ≡ None

-- which of two numbers comes first in a test does not matter
either_way : (a b : ℕ) → (a == b) ≡ (b == a)
either_way a b = at (a == b) (b == a) refl refl
  where
    at : (t u : Bool) → (a == b) ≡ t → (b == a) ≡ u → t ≡ u
    at true true e f = refl
    at false false e f = refl
    at true false e f = let g : b ≡ a = sym (eqb-true a b e) in sym (eq-eqb b a g) ∙ f
    at false true e f = let g : a ≡ b = sym (eqb-true b a f) in sym e ∙ eq-eqb a b g

kind_here : (s : Setup) (u x : ℕ) (kind : DriveKind) → s.unit ≡ u → s.kind ≡ kind → (if x == u then Some kind else None) ≡ kinds_in (s ∷ []) x
kind_here s u x kind e f =
    ap (λ (t : Bool). if t then Some kind else None) (either_way x u)
    ∙ ap (λ (n : ℕ). if n == x then Some kind else None) (sym e) ∙ ap (λ (k : DriveKind). if s.unit == x then Some k else None) (sym f)

kinds_more : (lines : List Line) (line : Line) (setups : List Setup) (s : Setup) (u x : ℕ) (kind : DriveKind) → line.statement ≡ Declares u kind → s.unit ≡ u → s.kind ≡ kind
    → drives_in lines x ≡ kinds_in setups x → drives_in (lines ++ line ∷ []) x ≡ kinds_in (setups ++ s ∷ []) x
kinds_more lines line setups s u x kind is e f same =
    drives-append lines (line ∷ []) x
    ∙ ap (λ (o : Option DriveKind). first_of o (drives_in (line ∷ []) x)) same
    ∙ ap (λ (o : Option DriveKind). first_of (kinds_in setups x) o) (ap (λ (st : Statement). declared_by st x None) is ∙ kind_here s u x kind e f)
    ∙ sym (kinds-append setups (s ∷ []) x)

pub attached_more : {lines : List Line} {setups : List Setup} {u : ℕ} {kind : DriveKind} {s : Setup} (line : Line)
    → AreAttached lines setups → HasDrive lines u → line.statement ≡ Declares u kind → IsSetupOf u kind s → AreAttached (lines ++ line ∷ []) (setups ++ s ∷ [])
attached_more {lines} {setups} {u} {kind} {s} line a first is new = record {
  kinds = λ x. kinds_more lines line setups s u x kind is new.unit_is new.kind_is (a.kinds x);
  are = record {
    differ = subst Once (sym (units-append setups s))
        (Once-push (units_of setups) s.unit a.are.differ
        (λ m. not_among setups u (sym (a.kinds u) ∙ first.none) (subst (λ (n : ℕ). Among n (units_of setups)) new.unit_is m)));
    small = each_more (λ (t : Setup). t.unit < 32) setups s a.are.small (subst (λ (n : ℕ). n < 32) (sym new.unit_is) first.small);
    tables = λ t table c. each_more (λ (t : Setup). (table : Table) → t.table ≡ Some table → IsTableFor t.kind table) setups s (λ t c table e. a.are.tables t table c e)
        (λ table e. subst (λ (k : DriveKind). IsTableFor k table) (sym new.kind_is) (new.good table e)) t c table;
  };
}

-- at a unit that was known all stays; the other one is the new one, or none
told_at : (packs : ℕ → Pack) (lines : List Line) (setups : List Setup) (line : Line) (s : Setup) (u x : ℕ) (kind : DriveKind) → line.statement ≡ Declares u kind
    → drives_in lines x ≡ kinds_in setups x → s.unit ≡ u → IsTableAt (Some kind) (packs u) s.table → IsTableAt (drives_in lines x) (packs x) (tables_in setups x)
    → IsTableAt (drives_in (lines ++ line ∷ []) x) (packs x) (tables_in (setups ++ s ∷ []) x)
told_at packs lines setups line s u x kind is same e new old =
    elim (none_or_some (drives_in lines x)) [
      | inl none ↦ subst (λ (o : Option DriveKind). IsTableAt o (packs x) (tables_in (setups ++ s ∷ []) x)) (sym (behind none))
          (subst (λ (o : Option Table). IsTableAt (if x == u then Some kind else None) (packs x) o) (sym (tables_unknown setups (s ∷ []) x (sym same ∙ none))) (at (x == u) refl))
      | inr some ↦ subst (λ (o : Option DriveKind). IsTableAt o (packs x) (tables_in (setups ++ s ∷ []) x)) (sym (known some.0 some.1))
          (subst (λ (o : Option Table). IsTableAt (Some some.0) (packs x) o) (sym (tables_known setups (s ∷ []) x some.0 (sym same ∙ some.1)))
          (subst (λ (o : Option DriveKind). IsTableAt o (packs x) (tables_in setups x)) some.1 old))
    ]
  where
    behind : drives_in lines x ≡ None → drives_in (lines ++ line ∷ []) x ≡ (if x == u then Some kind else None)
    behind none = drives-append lines (line ∷ []) x ∙ first_none (drives_in lines x) (drives_in (line ∷ []) x) none ∙ ap (λ (st : Statement). declared_by st x None) is

    known : (k : DriveKind) → drives_in lines x ≡ Some k → drives_in (lines ++ line ∷ []) x ≡ Some k
    known k some = drives-append lines (line ∷ []) x ∙ first_some (drives_in lines x) (drives_in (line ∷ []) x) k some

    at : (t : Bool) → (x == u) ≡ t → IsTableAt (if t then Some kind else None) (packs x) (if s.unit == x then s.table else None)
    at true f =
        let here : u ≡ x = sym (eqb-true x u f) in
        let mine : (if s.unit == x then s.table else None) ≡ s.table = ap (λ (b : Bool). if b then s.table else None) (eq-eqb s.unit x (e ∙ here)) in
        subst (λ (o : Option Table). IsTableAt (Some kind) (packs x) o) (sym mine) (subst (λ (n : ℕ). IsTableAt (Some kind) (packs n) s.table) here new)
    at false f =
        ap (λ (n : ℕ). if n == x then s.table else None) e ∙ ap (λ (b : Bool). if b then s.table else None) (either_way u x ∙ f)

pub told_more : (packs : ℕ → Pack) (s : Setup) {lines : List Line} {setups : List Setup} {u : ℕ} {kind : DriveKind} (line : Line)
    → AreAttached lines setups → line.statement ≡ Declares u kind → s.unit ≡ u → IsTableOf kind (packs u) s.table
    → AreTablesOf (drives_in lines) packs (tables_in setups) → AreTablesOf (drives_in (lines ++ line ∷ [])) packs (tables_in (setups ++ s ∷ []))
told_more packs s {lines} {setups} {u} {kind} line a is unit table told = λ x. told_at packs lines setups line s u x kind is (a.kinds x) unit table (told x)

-- a line that is played adds none
pub drives_same : (lines : List Line) (line : Line) (x : ℕ) → IsPlayed line.statement → drives_in (lines ++ line ∷ []) x ≡ drives_in lines x
drives_same lines line x played = drives-append lines (line ∷ []) x ∙ ap (first_of (drives_in lines x)) (at line.statement played) ∙ none_behind (drives_in lines x)
  where
    at : (st : Statement) → IsPlayed st → declared_by st x None ≡ None
    at (Declares u kind) p = absurd p
    at (Plays input) p = refl

    none_behind : (o : Option DriveKind) → first_of o None ≡ o
    none_behind None = refl
    none_behind (Some k) = refl

pub attached_still : {lines : List Line} {setups : List Setup} (line : Line) → IsPlayed line.statement → AreAttached lines setups → AreAttached (lines ++ line ∷ []) setups
attached_still {lines} {setups} line played a = record { kinds = λ x. drives_same lines line x played ∙ a.kinds x; are = a.are }

pub told_still : (packs : ℕ → Pack) (lines : List Line) (setups : List Setup) (line : Line) → IsPlayed line.statement
    → AreTablesOf (drives_in lines) packs (tables_in setups) → AreTablesOf (drives_in (lines ++ line ∷ [])) packs (tables_in setups)
told_still packs lines setups line played told = λ unit.
    subst (λ (o : Option DriveKind). IsTableAt o (packs unit) (tables_in setups unit)) (sym (drives_same lines line unit played)) (told unit)

-- THE WORLD at the start: a unit is as the first setup for it says, or none
abbrev found : List Setup → ℕ → UnitView → UnitView
found [] x v = v
found (s ∷ setups) x v = if s.unit == x then new_unit s else found setups x v

found_other : (setups : List Setup) (x : ℕ) (v : UnitView) → (Among x (units_of setups) → ⊥) → found setups x v ≡ v
found_other [] x v not = refl
found_other (s ∷ setups) x v not = at (s.unit == x) refl (found_other setups x v (λ m. not (inr m)))
  where
    at : (t : Bool) → (s.unit == x) ≡ t → found setups x v ≡ v → (if t then new_unit s else found setups x v) ≡ v
    at true e rest = absurd (not (inl (sym (eqb-true s.unit x e))))
    at false e rest = rest

set_up_found : (setups : List Setup) (units : List UnitView) (x : ℕ) → Once (units_of setups) → x < length units
    → get_or (set_up setups units) x no_unit ≡ found setups x (get_or units x no_unit)
set_up_found [] units x once lt = refl
set_up_found (s ∷ setups) units x once lt =
    set_up_found setups (set units s.unit (new_unit s)) x once.1 (subst (λ (n : ℕ). x < n) (sym (length-set units s.unit (new_unit s))) lt) ∙ at (s.unit == x) refl
  where
    at : (t : Bool) → (s.unit == x) ≡ t → found setups x (get_or (set units s.unit (new_unit s)) x no_unit) ≡ (if t then new_unit s else found setups x (get_or units x no_unit))
    at true e =
        let here : s.unit ≡ x = eqb-true s.unit x e in
        ap (found setups x) (subst (λ (n : ℕ). get_or (set units n (new_unit s)) x no_unit ≡ new_unit s) (sym here) (get_or-set_same units x (new_unit s) no_unit lt))
        ∙ found_other setups x (new_unit s) (subst (λ (n : ℕ). Among n (units_of setups) → ⊥) here once.0)
    at false e =
        ap (found setups x) (get_or-set_other units s.unit x (new_unit s) no_unit
        (λ same. let g : false ≡ true = sym e ∙ eq-eqb s.unit x (sym same) in absurd (cc)))

found_declared : (setups : List Setup) (x : ℕ) → is_some (kinds_in setups x) ≡ (found setups x no_unit).declared
found_declared [] x = refl
found_declared (s ∷ setups) x = at (s.unit == x) (found_declared setups x)
  where
    at : (t : Bool) → is_some (kinds_in setups x) ≡ (found setups x no_unit).declared
        → is_some (if t then Some s.kind else kinds_in setups x) ≡ (if t then new_unit s else found setups x no_unit).declared
    at true rest = refl
    at false rest = rest

abbrev set_for : List Setup → ℕ → UnitView
set_for setups x = new_unit (record { unit = x; kind = unwrap_or (kinds_in setups x) Rp06; table = tables_in setups x })

found_new : (setups : List Setup) (x : ℕ) → (found setups x no_unit).declared ≡ true → found setups x no_unit ≡ set_for setups x
found_new [] x e = absurd (cc)
found_new (s ∷ setups) x e = at (s.unit == x) refl e (λ f. found_new setups x f)
  where
    at : (t : Bool) → (s.unit == x) ≡ t → (if t then new_unit s else found setups x no_unit).declared ≡ true
        → ((found setups x no_unit).declared ≡ true → found setups x no_unit ≡ set_for setups x)
        → (if t then new_unit s else found setups x no_unit)
        ≡ new_unit (record { unit = x; kind = unwrap_or (if t then Some s.kind else kinds_in setups x) Rp06; table = if t then s.table else tables_in setups x })
    at true f g rest = ap (λ (n : ℕ). new_unit (record { unit = n; kind = s.kind; table = s.table })) (eqb-true s.unit x f)
    at false f g rest = rest g

length-set_up : (setups : List Setup) (units : List UnitView) → length (set_up setups units) ≡ length units
length-set_up [] units = refl
length-set_up (s ∷ setups) units = length-set_up setups (set units s.unit (new_unit s)) ∙ length-set units s.unit (new_unit s)

no_units : (n x : ℕ) → get_or (replicate n no_unit) x no_unit ≡ no_unit
no_units zero x = refl
no_units (suc n) zero = refl
no_units (suc n) (suc x) = no_units n x

unit_found : (setups : List Setup) (n x : ℕ) → Once (units_of setups) → x < n → get_or (set_up setups (replicate n no_unit)) x no_unit ≡ found setups x no_unit
unit_found setups n x once lt =
    set_up_found setups (replicate n no_unit) x once (subst (λ (k : ℕ). x < k) (sym (length-replicate n no_unit)) lt) ∙ ap (found setups x) (no_units n x)

pub unit_beyond : (setups : List Setup) (n x : ℕ) → n ≤ x → get_or (set_up setups (replicate n no_unit)) x no_unit ≡ no_unit
unit_beyond setups n x le =
    get_or-eq_default (set_up setups (replicate n no_unit)) no_unit
    (subst (λ (k : ℕ). k ≤ x) (sym (length-set_up setups (replicate n no_unit) ∙ length-replicate n no_unit)) le)

kinds_beyond : (setups : List Setup) (n x : ℕ) → ((s : Setup) → Contains setups s → s.unit < n) → n ≤ x → kinds_in setups x ≡ None
kinds_beyond [] n x small le = refl
kinds_beyond (s ∷ setups) n x small le =
    at (s.unit == x) refl (kinds_beyond setups n x (λ t c. small t (Contains-later t s setups c)) le)
  where
    at : (t : Bool) → (s.unit == x) ≡ t → kinds_in setups x ≡ None → (if t then Some s.kind else kinds_in setups x) ≡ None
    at true e rest =
        let here : s.unit ≡ x = eqb-true s.unit x e in
        let lt : s.unit < n = small s (Contains-first s setups) in
        absurd (omega (arith, here, lt, le))
    at false e rest = rest

pub below_or_not : (x n : ℕ) → (x < n) ⊎ (n ≤ x)
below_or_not x zero = inr (omega arith)
below_or_not zero (suc n) = inl (omega arith)
below_or_not (suc x) (suc n) = elim (below_or_not x n) [ inl lt ↦ inl (omega (arith, lt)) | inr le ↦ inr (omega (arith, le)) ]

declared_as : (setups : List Setup) (n x : ℕ) → Once (units_of setups) → ((s : Setup) → Contains setups s → s.unit < n)
    → is_some (kinds_in setups x) ≡ (get_or (set_up setups (replicate n no_unit)) x no_unit).declared
declared_as setups n x once small =
    elim (below_or_not x n) [
      | inl lt ↦ found_declared setups x ∙ ap (λ (v : UnitView). v.declared) (sym (unit_found setups n x once lt))
      | inr le ↦ ap (λ (o : Option DriveKind). is_some o) (kinds_beyond setups n x small le) ∙ ap (λ (v : UnitView). v.declared) (sym (unit_beyond setups n x le))
    ]

set_as : (setups : List Setup) (n x : ℕ) → Once (units_of setups) → x < n → (get_or (set_up setups (replicate n no_unit)) x no_unit).declared ≡ true
    → get_or (set_up setups (replicate n no_unit)) x no_unit ≡ set_for setups x
set_as setups n x once lt e =
    let here = unit_found setups n x once lt in
    here ∙ found_new setups x (ap (λ (v : UnitView). v.declared) (sym here) ∙ e)

pub set_for_script : (script : Script) (setups : List Setup) → AreAttached script.lines setups → AreSetFor script (tables_in setups) setups
set_for_script script setups a = record {
  are = a.are;
  set = λ outstanding noises x up.
      set_as setups 32 x a.are.differ up.unit up.declared
      ∙ ap (λ (o : Option DriveKind). new_unit (record { unit = x; kind = unwrap_or o Rp06; table = tables_in setups x })) (sym (a.kinds x));
  declared = λ outstanding noises x. ap (λ (o : Option DriveKind). is_some o) (a.kinds x) ∙ declared_as setups 32 x a.are.differ a.are.small;
}
