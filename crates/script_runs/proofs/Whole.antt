-- A whole script, line by line, and the last drain behind it.
use Rattle.std.proofs.Common.{◌≡◌, inl, inr, ℕ, suc, ◌+◌, ◌<◌, ◌≤◌, ◌^◌, ◌==◌, false, List, [], ◌∷◌, ◌++◌, length, Option, refl, sym, ap, subst, arith, ◌∙◌, append_assoc, All}
use Rattle.std.specs.Prelude.{Contains}
use Rattle.std.specs.List.{list_any}
use Rattle.std.proofs.lemmas.Bool.{or_parts, eq-eqb, both_ways}
use Rattle.std.proofs.lemmas.List.Elements.{All-head, All-tail}
use Rattle.pack_geometry.specs.Pack.{Pack}
use Rattle.pack_geometry.specs.TableSpelling.{Table}
use Rattle.pack_geometry.proofs.PackTableLaws.{tables_once}
use Rattle.trace_replay.specs.requests.Requests.{Request}
use Rattle.trace_replay.specs.Script as says
use Rattle.trace_replay.specs.Script.{Script, Statement, Declares, Plays, Line, Numbered, IsStatement, AreNumbered, AreApart, drives_of, ids_of, with_id, with_input, inputs_before}
use Rattle.trace_replay.specs.Runs.{IsLegalRun}
use Rattle.trace_replay.proofs.OneTrace.{one_run, one_packs}
use Rattle.driver_laws.proofs.shown.RunsLaws.{runs_are_legal}
use Rattle.driver_laws.proofs.invariant.SlotsLists.{Contains-none, Contains-first, Contains-later, Contains-cases}
use Rattle.script_runs.specs.OneRun.{LegalRunsAreOne, OneRunExists}
use Rattle.script_runs.specs.Steps.{Behind, Drained, Went, HasSetups}
use Rattle.script_runs.proofs.Fitting.{few_lines}
use Rattle.script_runs.proofs.Setups.{setups_exist}
use Rattle.script_runs.proofs.Starts.{runs_start}
use Rattle.script_runs.proofs.Lines.{lines_go}
use Rattle.script_runs.proofs.Drains.{drains_end}

-- IDS. None of those that were used is still to come.
Unused : List ℕ → List ℕ → Type 0
Unused used ids = (id : ℕ) → Contains used id → Contains ids id → ⊥

none_listed : (x : ℕ) (xs : List ℕ) → list_any (λ other. other == x) xs ≡ false → Contains xs x → ⊥
none_listed x [] none has = absurd (Contains-none x has)
none_listed x (y ∷ xs) none has =
    let parts = or_parts (y == x) (list_any (λ other. other == x) xs) none in
    elim (Contains-cases x y xs has) [
      | inl same ↦ both_ways (y == x) parts.0 (eq-eqb y x same)
      | inr later ↦ none_listed x xs parts.1 later
    ]

behind_all : (st : Statement) (used ids : List ℕ) → AreApart (with_id st ids) → Unused used (with_id st ids) → AreApart ids × Unused (with_id st used) ids
unfolding Unused
behind_all (Declares u kind) used ids apart unused = (apart, unused)
behind_all (Plays (says.Submit r)) used ids apart unused = (
  apart.1,
  λ id has later. elim (Contains-cases id r.id used has) [
    | inl same ↦ none_listed r.id ids apart.0 (subst (λ (n : ℕ). Contains ids n) (sym same) later)
    | inr before ↦ unused id before (Contains-later id r.id ids later)
  ],
)
behind_all (Plays (says.ArriveAt u)) used ids apart unused = (apart, unused)
behind_all (Plays (says.MoveAt a)) used ids apart unused = (apart, unused)
behind_all (Plays (says.AttendTo a)) used ids apart unused = (apart, unused)
behind_all (Plays says.Drain) used ids apart unused = (apart, unused)
behind_all (Plays (says.Turn u sector)) used ids apart unused = (apart, unused)
behind_all (Plays (says.Noise noise)) used ids apart unused = (apart, unused)
behind_all (Plays (says.Arm u kind times)) used ids apart unused = (apart, unused)
behind_all (Plays (says.SetOnline u on)) used ids apart unused = (apart, unused)
behind_all (Plays (says.SetLocked u on)) used ids apart unused = (apart, unused)

fresh_now : (st : Statement) (used ids : List ℕ) (r : Request) → st ≡ Plays (says.Submit r) → Unused used (with_id st ids) → Contains used r.id → ⊥
unfolding Unused
fresh_now st used ids r is unused has = unused r.id has (subst (λ (s : Statement). Contains (with_id s ids) r.id) (sym is) (Contains-first r.id ids))

module _ (script : Script) (tables : ℕ → Option Table) (old : ℕ → Pack) (total : ℕ) (small : total < 2 ^ 32) where
  abbrev last : List Numbered
  last = record { line = script.count + 1; input = says.Drain } ∷ []

  record Ended (inputs : List Numbered) : Type 0 where
    line : ℕ
    done : ℕ
    used : List ℕ
    drained : Drained script tables old total done used line inputs

  go : (rest : List Line) (before line done : ℕ) (used : List ℕ) (inputs : List Numbered) → AreNumbered before script.count rest
      → All (λ (l : Line). IsStatement (drives_of script) l.statement) rest → AreApart (ids_of rest) → Unused used (ids_of rest) → line ≤ before
      → done + length rest ≤ total → Behind script tables old total done used line inputs → Ended (inputs ++ inputs_before last rest)
  go [] before line done used inputs numbers good apart unused le few b = record {
    line = script.count + 1;
    done = done;
    used = used;
    drained = drains_end script tables old total done used line (script.count + 1) inputs (behind_last line before script.count le numbers) b;
  }
    where
      behind_last : (a b c : ℕ) → a ≤ b → b ≤ c → a < c + 1
      behind_last a b c one other = omega (arith, one, other)
  go (l ∷ rest) before line done used inputs numbers good apart unused le few b =
      let later : AreApart (ids_of rest) × Unused (with_id l.statement used) (ids_of rest) = behind_all l.statement used (ids_of rest) apart unused in
      by l.statement refl (All-head (λ (x : Line). IsStatement (drives_of script) x.statement) l rest good)
      (λ done_now line_now inputs_now le_now few_now behind_now.
      go rest l.number line_now done_now (with_id l.statement used) inputs_now numbers.1
      (All-tail (λ (x : Line). IsStatement (drives_of script) x.statement) l rest good) later.0 later.1 le_now few_now behind_now)
    where
      before_it : (a b c : ℕ) → a ≤ b → b < c → a < c
      before_it a b c one other = omega (arith, one, other)

      at_most : (a b c : ℕ) → a ≤ b → b < c → a ≤ c
      at_most a b c one other = omega (arith, one, other)

      fewer : (done n total : ℕ) → done + suc n ≤ total → done + n ≤ total
      fewer done n total le = omega (arith, le)

      some : (done n total : ℕ) → done + suc n ≤ total → done < total
      some done n total le = omega (arith, le)

      one_more : (now done n total : ℕ) → now ≤ done + 1 → done + suc n ≤ total → now + n ≤ total
      one_more now done n total one le = omega (arith, one, le)

      by : (st : Statement) → l.statement ≡ st → IsStatement (drives_of script) l.statement
          → ((done_now line_now : ℕ) (inputs_now : List Numbered) → line_now ≤ l.number → done_now + length rest ≤ total
          → Behind script tables old total done_now (with_id l.statement used) line_now inputs_now → Ended (inputs_now ++ inputs_before last rest))
          → Ended (inputs ++ with_input l.number l.statement (inputs_before last rest))
      by (Declares u kind) is holds on =
          subst Ended (ap (λ (s : Statement). inputs ++ with_input l.number s (inputs_before last rest)) (sym is))
          (on done line inputs (at_most line before l.number le numbers.0) (fewer done (length rest) total few)
          (subst (λ (ids : List ℕ). Behind script tables old total done ids line inputs) (sym (ap (λ (s : Statement). with_id s used) is)) b))
      by (Plays input) is holds on =
          let went : Went script tables old total done (with_id (Plays input) used) l.number (inputs ++ record { line = l.number; input = input } ∷ []) =
          lines_go script tables old total done used line l.number input inputs (before_it line before l.number le numbers.0) (some done (length rest) total few) small
          (subst (IsStatement (drives_of script)) is holds) (λ r same. fresh_now l.statement used (ids_of rest) r (is ∙ ap Plays same) unused) b in
          subst Ended
          (append_assoc inputs (record { line = l.number; input = input } ∷ []) (inputs_before last rest)
          ∙ ap (λ (s : Statement). inputs ++ with_input l.number s (inputs_before last rest)) (sym is))
          (on went.done_now l.number (inputs ++ record { line = l.number; input = input } ∷ []) (omega arith) (one_more went.done_now done (length rest) total went.few few)
          (subst (λ (ids : List ℕ). Behind script tables old total went.done_now ids l.number (inputs ++ record { line = l.number; input = input } ∷ []))
          (sym (ap (λ (s : Statement). with_id s used) is)) went.behind))

-- NO OTHER is legal beside a legal run.
pub legal_runs_are_one : LegalRunsAreOne
legal_runs_are_one script old tables new moments legal = record {
  legal = legal;
  only = λ others left told other.
      let same : others ≡ tables = tables_once (drives_of script) old others tables other.tables_read legal.tables_read in
      let beside : IsLegalRun script tables old left told = subst (λ (t : ℕ → Option Table). IsLegalRun script t old left told) same other in
      (same, one_run script tables old left new told moments beside legal, one_packs script tables old left new told moments beside legal);
}

-- AND THERE IS ONE.
pub one_run_exists : OneRunExists
unfolding Unused
one_run_exists script old good short =
    let s : HasSetups script old = setups_exist script old good.units in
    let total : ℕ = length script.lines in
    let small : total < 2 ^ 32 = fewer total script.count (few_lines 0 script.count script.lines good.numbers) short in
    let end : Ended script s.tables old total small (inputs_before (record { line = script.count + 1; input = says.Drain } ∷ []) script.lines) =
    go script s.tables old total small script.lines 0 0 0 [] [] good.numbers good.inputs good.ids (λ id has. absurd (Contains-none id has)) (omega arith) (omega arith)
    (runs_start script s.tables old s.setups total s.set) in
    let b = end.drained.behind in
    record {
      tables = s.tables;
      new = b.held;
      moments = b.moments;
      is = legal_runs_are_one script old s.tables b.held b.moments
          (runs_are_legal script s.tables old b.held end.line b.moments b.world good b.far.plays s.read b.far.so_far b.far.kept end.drained.over);
    }
  where
    fewer : (a c : ℕ) → 0 + a ≤ c → c < 2 ^ 32 → a < 2 ^ 32
    fewer a c le less = omega (arith, le, less)
