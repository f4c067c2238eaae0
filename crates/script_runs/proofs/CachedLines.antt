-- The lines of a script of the cache: which units they declare.
use Rattle.std.proofs.Common.{◌≡◌, ◌⊎◌, inl, inr, ℕ, zero, suc, ◌+◌, ◌<◌, ◌≤◌, ◌==◌, Bool, true, false, List, [], ◌∷◌, ◌++◌, length, map, take, drop, Option, None, Some, refl, sym, ap, ◌∙◌, subst, arith, append-nil, append_assoc}
use Rattle.std.specs.Prelude.{if◌then◌else◌, ◌||◌, not, slice_index_or}
use Rattle.std.specs.List.{list_any}
use Rattle.std.proofs.lemmas.Bool.{eq-eqb, ne_eqb}
use Rattle.std.proofs.lemmas.Bool.Decides.{eqb_tells}
use Rattle.std.proofs.lemmas.Option.{none-some}
use Rattle.std.proofs.lemmas.List.{take_more, map-append, get_or_default, take-append-drop}
use Rattle.std.proofs.Math.Seq.{drop-cons}
use Rattle.pack_geometry.specs.declared.DriveKind.{DriveKind}
use Rattle.pack_geometry.specs.declared.DriveKind.TheVariants.{Rp06}
use Rattle.trace_replay.specs.Script.{Line, declared_by, declares, drives_in, IsPlayed, ArePlays, IsFirst, AreUnitsFirst}
use Rattle.script_reader.specs.declared.cached.statement.Statement.{Statement as Says}
use Rattle.script_reader.specs.declared.cached.statement.Statement.TheVariants as says
use Rattle.script_reader.specs.declared.cached.statement.Line.{Line as Said}
use Rattle.script_reader.specs.cached.Scripts as cached
use Rattle.script_reader.specs.cached.Scripts.{as_said, as_line, known_of}
use Rattle.script_lines.specs.Known.{kind_after, kind_in, verb_of, declares as is_unit}
use Rattle.script_reader.specs.cached.Formed.{IsWell, AreWell, IsScript}
use Rattle.script_reader.specs.cached.Meaning.{statement_of, line_of, lines_before, meaning_of}

-- ---- the units that lines declare, as the reader knows them and as they are meant
abbrev pub Has : Option DriveKind → Type 0
Has o = (k : DriveKind) × (o ≡ Some k)

still_declared : (u : ℕ) (st : Says) (rest : Option DriveKind) → Has rest → Has (declared_by (statement_of st) u rest)
still_declared u (says.Unit v kind) rest has = by (u == v)
  where
    by : (t : Bool) → Has (if t then Some kind else rest)
    by true = (kind, refl)
    by false = has
still_declared u (says.Read a) rest has = has
still_declared u (says.Write a fill) rest has = has
still_declared u says.Sync rest has = has

some_step : (u : ℕ) (st : Says) (before rest : Option DriveKind) → Has (kind_after u (as_said st) before) → Has before ⊎ Has (declared_by (statement_of st) u rest)
some_step u (says.Unit v kind) before rest has = elim (eqb_tells v u) [
  | inl same ↦ inr (kind, ap (λ t. if t then Some kind else rest) (eq-eqb u v (sym same.1)))
  | inr other ↦ inl (has.0, sym (ap (λ t. if t then Some kind else before) other.0) ∙ has.1)
]
some_step u it before rest has = inl has

pub some_declared : (u : ℕ) (xs : List Said) (before : Option DriveKind) → Has (kind_in u (map as_line xs) before) → Has before ⊎ Has (drives_in (map line_of xs) u)
some_declared u [] before has = inl has
some_declared u (x ∷ xs) before has = elim (some_declared u xs (kind_after u (as_said x.statement) before) has) [
  | inl here ↦ some_step u x.statement before (drives_in (map line_of xs) u) here
  | inr later ↦ inr (still_declared u x.statement (drives_in (map line_of xs) u) later)
]

-- ---- UNITS ARE FIRST: behind a unit no line declares it again, and behind any other line none declares a unit
kind_more : (u : ℕ) (xs : List Said) (x : Said) (before : Option DriveKind) → kind_in u (map as_line (xs ++ x ∷ [])) before ≡ kind_after u (as_said x.statement) (kind_in u (map as_line xs) before)
kind_more u [] x before = refl
kind_more u (y ∷ xs) x before = kind_more u xs x (kind_after u (as_said y.statement) before)

kind_stays : (u : ℕ) (st : Says) (before : Option DriveKind) → Has before → Has (kind_after u (as_said st) before)
kind_stays u (says.Unit v kind) before has = by (v == u)
  where
    by : (t : Bool) → Has (if t then Some kind else before)
    by true = (kind, refl)
    by false = has
kind_stays u it before has = has

not_again : (u above most : ℕ) (before lines : List Said) → AreWell above most before lines → Has ((known_of before).kinds u) → list_any (λ (line : Line). declares u line.statement) (map line_of lines) ≡ false
not_again u above most before [] well has = refl
not_again u above most before (x ∷ xs) well has =
    let rest = not_again u x.number most (before ++ x ∷ []) xs well.1.1 (subst Has (sym (kind_more u before x None)) (kind_stays u x.statement ((known_of before).kinds u) has)) in
    ap (λ t. t || list_any (λ (line : Line). declares u line.statement) (map line_of xs)) (by x.statement well.1.0) ∙ rest
  where
    by : (st : Says) → IsWell (known_of before) st → declares u (statement_of st) ≡ false
    by (says.Unit v kind) well = ne_eqb v u (λ e. none-some has.0 (sym (subst (λ n. (known_of before).kinds n ≡ None) e well.undeclared) ∙ has.1))
    by (says.Read a) well = refl
    by (says.Write a fill) well = refl
    by says.Sync well = refl

or_on : (t : Bool) {a b : Bool} → (a ≡ true → b ≡ true) → (t || a) ≡ true → (t || b) ≡ true
or_on true turn e = refl
or_on false turn e = turn e

or_now : (t : Bool) {b : Bool} → b ≡ true → (t || b) ≡ true
or_now true e = refl
or_now false e = e

later_on : (xs : List Said) (x : Said) → (known_of xs).later ≡ true → (known_of (xs ++ x ∷ [])).later ≡ true
later_on [] x late = absurd (never late)
  where
    never : false ≡ true → ⊥
    never e = cc
later_on (y ∷ xs) x late = or_on (not (is_unit (verb_of (as_said y.statement)))) (λ e. later_on xs x e) late

later_now : (xs : List Said) (x : Said) → not (is_unit (verb_of (as_said x.statement))) ≡ true → (known_of (xs ++ x ∷ [])).later ≡ true
later_now [] x other = ap (λ t. t || false) other
later_now (y ∷ xs) x other = or_now (not (is_unit (verb_of (as_said y.statement)))) (later_now xs x other)

none_later : (above most : ℕ) (before lines : List Said) → AreWell above most before lines → (known_of before).later ≡ true → ArePlays (map line_of lines)
none_later above most before [] well late = tt
none_later above most before (x ∷ xs) well late = (by x.statement well.1.0, none_later x.number most (before ++ x ∷ []) xs well.1.1 (later_on before x late))
  where
    never : true ≡ false → ⊥
    never e = cc

    by : (st : Says) → IsWell (known_of before) st → IsPlayed (statement_of st)
    by (says.Unit v kind) well = never (sym late ∙ well.first)
    by (says.Read a) well = tt
    by (says.Write a fill) well = tt
    by says.Sync well = tt

first_lines : (above most : ℕ) (before lines : List Said) → AreWell above most before lines → AreUnitsFirst (map line_of lines)
first_lines above most before [] well = tt
first_lines above most before (x ∷ xs) well = (by x.statement refl well.1.0, first_lines x.number most (before ++ x ∷ []) xs well.1.1)
  where
    under : (n : ℕ) → n ≤ 31 → n < 32
    under n le = omega (arith, le)

    late : (st : Says) → x.statement ≡ st → not (is_unit (verb_of (as_said st))) ≡ true → ArePlays (map line_of xs)
    late st is other = none_later x.number most (before ++ x ∷ []) xs well.1.1 (later_now before x (ap (λ z. not (is_unit (verb_of (as_said z)))) is ∙ other))

    by : (st : Says) → x.statement ≡ st → IsWell (known_of before) st → IsFirst (statement_of st) (map line_of xs)
    by (says.Unit u kind) is new =
        let small = new.small in (
          under u small,
          not_again u x.number most (before ++ x ∷ []) xs well.1.1
              (kind, kind_more u before x None ∙ ap (λ z. kind_after u (as_said z) ((known_of before).kinds u)) is ∙ ap (λ t. if t then Some kind else (known_of before).kinds u) (eq-eqb u u refl)),
        )
    by (says.Read a) is w = late (says.Read a) is refl
    by (says.Write a fill) is w = late (says.Write a fill) is refl
    by says.Sync is w = late says.Sync is refl

pub units_first : (s : cached.Script) → IsScript s → AreUnitsFirst (meaning_of s).lines
units_first s script = first_lines 0 s.count [] s.lines script.lines

-- ---- a line that is read off a list of them
abbrev pub blank : Said
blank = record { number = 0; statement = says.Unit 0 Rp06 }

pub item_is : (xs lines : List Said) (i : ℕ) → xs ≡ lines → i < length xs → slice_index_or xs i blank ≡ slice_index_or lines i (slice_index_or xs i blank)
item_is xs lines i same lt = get_or_default xs i blank (slice_index_or xs i blank) lt ∙ ap (λ (zs : List Said). slice_index_or zs i (slice_index_or xs i blank)) same

-- ---- AT A LINE
pub record AtLine (before : List Said) (line : Said) : Type 0 where
  pub number : 1 ≤ line.number
  pub well : IsWell (known_of before) line.statement

at_line : (above most : ℕ) (before lines : List Said) (i : ℕ) (line other : Said) → AreWell above most before lines → i < length lines → line ≡ slice_index_or lines i other → AtLine (before ++ take i lines) line
at_line above most before [] i line other well lt is = absurd (omega (arith, lt))
at_line above most before (x ∷ xs) zero line other well lt is =
    subst (λ z. AtLine (before ++ take 0 (x ∷ xs)) z) (sym is)
    (record { number = some above x.number well.0; well = subst (λ z. IsWell (known_of z) x.statement) (sym (append-nil before)) well.1.0 })
  where
    some : (a n : ℕ) → a < n → 1 ≤ n
    some a n lt = omega (arith, lt)
at_line above most before (x ∷ xs) (suc i) line other well lt is =
    subst (λ z. AtLine z line) (append_assoc before (x ∷ []) (take i xs)) (at_line x.number most (before ++ x ∷ []) xs i line other well.1.1 (omega (arith, lt)) is)

module _ (s : cached.Script) (i : ℕ) (line : Said) (script : IsScript s) (lt : i < length s.lines) (is : line ≡ slice_index_or s.lines i line) where
  pub here_is : AtLine (take i s.lines) line
  here_is = at_line 0 s.count [] s.lines i line line script.lines lt is

  pub number_is : 1 ≤ line.number
  number_is = here_is.number

  pub lines_more : lines_before s (i + 1) ≡ lines_before s i ++ line_of line ∷ []
  lines_more =
      ap (map line_of) (take_more s.lines i line lt ∙ ap (λ (x : Said). take i s.lines ++ x ∷ []) (sym is))
      ∙ map-append line_of (take i s.lines) (line ∷ [])

  pub lines_split : (meaning_of s).lines ≡ lines_before s i ++ line_of line ∷ map line_of (drop (suc i) s.lines)
  lines_split =
      ap (map line_of) (sym (take-append-drop i s.lines))
      ∙ map-append line_of (take i s.lines) (drop i s.lines)
      ∙ ap (λ (xs : List Said). lines_before s i ++ map line_of xs) (drop-cons s.lines i line lt ∙ ap (λ (x : Said). x ∷ drop (suc i) s.lines) (sym is))
