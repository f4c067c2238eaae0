-- A new driver for the units of a script, and an empty cache.
use Rattle.std.proofs.Common.{◌≡◌, inl, inr, ℕ, ◌+◌, ◌≤◌, IsTrue, length, true, false, List, [], Option, None, Some, refl, sym, ap, ◌∙◌, subst, arith, append-nil}
use Rattle.std.specs.Prelude.{Result, OnErr, OnOk, is_some, unwrap_or, min}
use Rattle.std.proofs.Math.Path.{fun_ext}
use Rattle.pack_geometry.specs.declared.DriveKind.{DriveKind}
use Rattle.pack_geometry.specs.declared.DriveKind.TheVariants.{Rp06}
use Rattle.pack_geometry.specs.Pack.{Pack}
use Rattle.pack_geometry.specs.TableSpelling.{Table}
use Rattle.pack_geometry.specs.PackTable.{IsTableAt, AreTablesOf}
use Rattle.trace_replay.specs.Script.{Drain, Script, drives_of}
use Rattle.driver_laws.specs.rules.Rest.{HasTables, IsAtRest}
use Rattle.driver_machine.specs.World.{World, UnitView, Setup as UnitSetup, new_unit, new_world, unit_at}
use Rattle.driver_machine.specs.Guards.{IsSetUp}
use Rattle.buffer_cache.specs.Passes.{State as Driver, StandsQuiet, kind_if, table_if, setup_of, setup_at, map_at}
use Rattle.buffer_cache.proofs.Passes.{starts, others_none, new_is_quiet}
use Rattle.trace_replay.specs.Packs.{surface_of}
use Rattle.trace_replay.specs.Runs.{start_of}
use Rattle.driver_laws.specs.shown.Runs.{IsSoFar}
use Rattle.driver_laws.specs.rules.Stands.{Setup as Seen}
use Rattle.driver_laws.proofs.rules.Consistency.{starts_consistent}
use Rattle.driver_laws.proofs.rules.Restful.{start_rests}
use Rattle.std.specs.List.{AllByRecursion}
use Rattle.driver_laws.specs.declared.rules.cached.Entry.{Entry}
use Rattle.buffer_cache.specs.Asks.{IsData}
use Rattle.driver_laws.specs.rules.Entries.{State, empty_cache}
use Rattle.driver_laws.specs.rules.Contents.{cached, AllFit}
use Rattle.buffer_cache.specs.Calls.{MayUse}
use Rattle.script_runs.specs.UnitSetup.{UnitSetup as Made}
use Rattle.script_runs.specs.Setups.{setups_of}
use Rattle.script_runs.specs.Steps.{tables_in, AreUnits, AreSetFor}
use Rattle.script_runs.proofs.Attached.{below_or_not, unit_beyond}
use Rattle.script_runs.specs.declared.fault.PlayFault.{PlayFault}
use Rattle.script_reader.specs.cached.Formed.{IsScript}
use Rattle.script_reader.specs.cached.Meaning.{meaning_of}
use Rattle.script_reader.specs.cached.Scripts as cached
use Rattle.cached_run.specs.Going.{Scene, IsFar}
use Rattle.cached_run.specs.Lines.{inputs_till}
use Rattle.cached_run.specs.Places.{Place, PlaysScript, scene_at}
use Rattle.cached_run.specs.Theorem.{CachedPlays, CachedStops}
use Rattle.cached_run.proofs.Calls.{called_none}
use Rattle.cached_run.proofs.Causes.{on_err_map, on_ok_map}
use Rattle.cached_run.proofs.ScriptLines.{all_asked_well, inputs_all}
use Rattle.cached_run.proofs.Whole.{said_between, setup_for, told_between, whole_plays, whole_stops}
use Rattle.cached_run.proofs.Numbers.{itself}

module _ (script : Script) (tables : ℕ → Option Table) (setups : List UnitSetup) (outstanding noises : ℕ) (set : AreSetFor script tables setups) where
  abbrev New : World
  New = new_world setups outstanding noises

  never : true ≡ false → ⊥
  never e = cc

  up_at : (u : ℕ) (kind : DriveKind) → drives_of script u ≡ Some kind → IsSetUp New u
  up_at u kind declared = elim (below_or_not u 32) [
    | inl lt ↦ record { unit = lt; declared = is_there }
    | inr le ↦ absurd (never (sym is_there ∙ ap (λ (v : UnitView). v.declared) (unit_beyond setups 32 u le)))
  ]
    where
      is_there : (unit_at New u).declared ≡ true
      is_there = sym (set.declared outstanding noises u) ∙ ap (λ (o : Option DriveKind). is_some o) declared

  new_at : (u : ℕ) (kind : DriveKind) → drives_of script u ≡ Some kind → unit_at New u ≡ new_unit (record { unit = u; kind = kind; table = tables u })
  new_at u kind declared = set.set outstanding noises u (up_at u kind declared) ∙ ap (λ (o : Option DriveKind). new_unit (record { unit = u; kind = unwrap_or o Rp06; table = tables u })) declared

  none_at : (u : ℕ) → drives_of script u ≡ None → (unit_at New u).declared ≡ false
  none_at u none = sym (set.declared outstanding noises u) ∙ ap (λ (o : Option DriveKind). is_some o) none

  pub are_units : AreUnits script New
  are_units u kind declared = (up_at u kind declared, ap (λ (v : UnitView). v.drive.kind) (new_at u kind declared))

  kinds_at : (u : ℕ) → kind_if (unit_at New u).declared (unit_at New u).drive.kind ≡ drives_of script u
  kinds_at u = by (drives_of script u) refl
    where
      by : (o : Option DriveKind) → drives_of script u ≡ o → kind_if (unit_at New u).declared (unit_at New u).drive.kind ≡ drives_of script u
      by None e = ap (λ t. kind_if t (unit_at New u).drive.kind) (none_at u e) ∙ sym e
      by (Some kind) e = ap (λ (v : UnitView). kind_if v.declared v.drive.kind) (new_at u kind e) ∙ sym e

  module _ (held : ℕ → Pack) (read : AreTablesOf (drives_of script) held tables) where
    tables_at : (u : ℕ) → table_if (unit_at New u).declared (unit_at New u).table ≡ tables u
    tables_at u = by (drives_of script u) refl (read u)
      where
        by : (o : Option DriveKind) → drives_of script u ≡ o → IsTableAt o (held u) (tables u) → table_if (unit_at New u).declared (unit_at New u).table ≡ tables u
        by None e none = ap (λ t. table_if t (unit_at New u).table) (none_at u e) ∙ sym none
        by (Some kind) e is = ap (λ (v : UnitView). table_if v.declared v.table) (new_at u kind e)

    pub setup_new : setup_of New held ≡ setup_for script tables held
    setup_new =
        ap (λ (drives : ℕ → Option DriveKind). record { drives = drives; tables = (setup_of New held).tables; packs = held }) (fun_ext kinds_at)
        ∙ ap (λ (its : ℕ → Option Table). record { drives = drives_of script; tables = its; packs = held }) (fun_ext tables_at)

    -- the start of the script stands for it
    far_new : IsSoFar (start_of script tables held) 0 [] held New
    far_new = starts (drives_of script) tables held setups outstanding noises set.are (set.set outstanding noises) (set.declared outstanding noises)

    pub stands_new : StandsQuiet held New (start_of script tables held)
    stands_new = record {
      rest = subst (λ (z : Seen). IsAtRest z (start_of script tables held)) (sym setup_new) (start_rests (setup_for script tables held));
      stands = far_new.left.stands;
      consistent = starts_consistent (drives_of script) tables (surface_of held);
      there = far_new.there;
      finished = far_new.left.finished;
    }

-- THE CACHE may be used
pub may_use : (setups : List UnitSetup) (outstanding noises : ℕ) (s : State) (d : Driver) → s.entries ≡ [] → 1 ≤ outstanding
    → d ≡ record { world = new_world setups outstanding noises; outstanding = outstanding; failed = false; kept = [] } → MayUse s d
may_use setups outstanding noises s d empty room made = subst (MayUse s) (sym made)
    (record { ready = record { quiet = new_is_quiet setups outstanding noises; going = refl; sent = refl }; room = room; entries = subst (AllByRecursion (λ (e : Entry). IsData (new_world setups outstanding noises) e.unit e.block)) (sym empty) tt })

-- SO FAR nothing was played
pub far_none : (s : State) (here : Scene) → s.entries ≡ [] → HasTables (setup_at here.site) → IsFar here s [] s here
far_none s here empty tables = record {
  setup = refl;
  tables = tables;
  contents = λ u b. ap (λ z. cached z (map_at here.site) u b) empty;
  fit = subst (AllFit (map_at here.site)) (sym empty) tt;
  holds = record {
    synced = [];
    since = [];
    parted = record { parts = refl; ends = inl refl; none = tt };
    each = λ u b. record { number = 0; from = omega arith; to = omega arith; holds = refl };
  };
  others = others_none (setup_at here.site);
  said = λ t. sym (append-nil here.said);
  later = itself here.out_faults;
  later_trace = itself here.trace_faults;
  calls = called_none s here.site;
}

-- ---- A NEW DRIVER, as it was made of the units that were attached
module _ {script : Script} {units slice : List Made} {d : Driver} (same : slice ≡ units) (set : AreSetFor script (tables_in (setups_of units)) (setups_of units))
    (is : d ≡ record { world = new_world (setups_of slice) (min 1 16384) 0; outstanding = 1; failed = false; kept = [] }) where
  made_is : d ≡ record { world = new_world (setups_of units) 1 0; outstanding = 1; failed = false; kept = [] }
  made_is = is ∙ ap (λ (us : List Made). record { world = new_world (setups_of us) 1 0; outstanding = 1; failed = false; kept = [] }) same

  pub made_units : AreUnits script d.world
  made_units = subst (λ (z : Driver). AreUnits script z.world) (sym made_is) (are_units script (tables_in (setups_of units)) (setups_of units) 1 0 set)

  pub made_may : {s : State} → s.entries ≡ [] → MayUse s d
  made_may {s} empty = may_use (setups_of units) 1 0 s d empty (omega arith) made_is

  module _ {held first : ℕ → Pack} (held_is : held ≡ first) (read : AreTablesOf (drives_of script) first (tables_in (setups_of units))) where
    made_setup : setup_of d.world held ≡ setup_for script (tables_in (setups_of units)) first
    made_setup =
        ap (λ (z : Driver). setup_of z.world held) made_is
        ∙ ap (λ h. setup_of (new_world (setups_of units) 1 0) h) held_is
        ∙ setup_new script (tables_in (setups_of units)) (setups_of units) 1 0 set first read

    made_stands : StandsQuiet held d.world (start_of script (tables_in (setups_of units)) first)
    made_stands =
        subst (λ (z : Driver). StandsQuiet held z.world (start_of script (tables_in (setups_of units)) first)) (sym made_is)
        (subst (λ h. StandsQuiet h (new_world (setups_of units) 1 0) (start_of script (tables_in (setups_of units)) first)) (sym held_is)
        (stands_new script (tables_in (setups_of units)) (setups_of units) 1 0 set first read))

-- ---- A SCRIPT over it and an empty cache, where the packs hold what they held first
module _ (s : cached.Script) (capacity : ℕ) {units slice : List Made} {old new : Place} {first : ℕ → Pack} {result : Result (Unit {0}) PlayFault}
    (same : slice ≡ units) (set : AreSetFor (meaning_of s) (tables_in (setups_of units)) (setups_of units))
    (is : old.spot.driver ≡ record { world = new_world (setups_of slice) (min 1 16384) 0; outstanding = 1; failed = false; kept = [] }) (empty : old.cache ≡ empty_cache capacity)
    (held_is : IsTrue old.spot.packs_tell → old.spot.held ≡ first) (read : IsTrue old.spot.packs_tell → AreTablesOf (drives_of (meaning_of s)) first (tables_in (setups_of units)))
    (lines : PlaysScript (meaning_of s) result old new) where
  pub made_plays : IsScript s → OnOk result (IsTrue new.spot.packs_tell
      → CachedPlays capacity (meaning_of s) first new.spot.held (said_between (scene_at old) (scene_at new)) (told_between (scene_at old) (scene_at new)))
  made_plays good = on_ok_map result (λ plays t.
      let t' = lines.passes.told.never_again t in
      whole_plays (meaning_of s) (tables_in (setups_of units)) first (scene_at old) (scene_at new) (made_setup same set is (held_is t') (read t')) (read t') capacity old.cache empty t (made_stands same set is (held_is t') (read t'))
      (inputs_till s (length s.lines)) (record { line = s.count + 1; input = Drain }) (inputs_all s (length s.lines) (itself (length s.lines))) refl (all_asked_well s good) (plays t))
      lines.plays

  pub made_stops : OnErr result (IsTrue new.spot.packs_tell
      → CachedStops capacity (meaning_of s) first new.spot.held (said_between (scene_at old) (scene_at new)) (told_between (scene_at old) (scene_at new)))
  made_stops = on_err_map result (λ stops t.
      let t' = lines.passes.told.never_again t in
      whole_stops (meaning_of s) (tables_in (setups_of units)) first (scene_at old) (scene_at new) (made_setup same set is (held_is t') (read t')) (read t') capacity old.cache empty t (made_stands same set is (held_is t') (read t')) (stops t)) lines.stops
