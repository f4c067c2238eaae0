-- A script that was played to its end, and one that stopped.
use Rattle.std.proofs.Common.{◌≡◌, inl, inr, ℕ, ◌<◌, ◌≤◌, ◌==◌, IsTrue, List, [], ◌∷◌, ◌++◌, length, Option, None, Some, refl, sym, ap, ◌∙◌, subst, arith, append-nil}
use Rattle.std.specs.Prelude.{not, slice_index}
use Rattle.std.proofs.lemmas.List.{take_all}
use Rattle.outside_traits.specs.Puts.{TakesFront}
use Rattle.pack_geometry.specs.declared.DriveKind.{DriveKind}
use Rattle.pack_geometry.specs.Geometry.{copy_at}
use Rattle.pack_geometry.specs.Pack.{Pack}
use Rattle.pack_geometry.specs.TableSpelling.{Table}
use Rattle.pack_geometry.specs.PackTable.{IsTableAt, AreTablesOf, places_of}
use Rattle.pack_geometry.proofs.HomeLaws.{home_below}
use Rattle.pack_geometry.proofs.PackTableLaws.{table_room, table_same}
use Rattle.trace_replay.specs.Script.{Script, Numbered, Drain, drives_of, inputs_of}
use Rattle.driver_laws.specs.rules.Machine.{Blocks}
use Rattle.driver_laws.specs.rules.Laws.{RestStays}
use Rattle.driver_laws.specs.rules.LegalAnswers.{AreLegal, all_claimed}
use Rattle.driver_laws.specs.rules.Stands.{Setup, home_at, home_in}
use Rattle.driver_laws.specs.rules.Rest.{HasTables}
use Rattle.driver_laws.specs.rules.Waited.{map_of, with_packs}
use Rattle.buffer_cache.specs.Passes.{StandsQuiet, moments_in, setup_at, OthersStay, map_at, left_map, LongAt}
use Rattle.buffer_cache.proofs.Passes.{map_long}
use Rattle.driver_laws.specs.rules.Entries.{State, empty_cache}
use Rattle.driver_laws.specs.rules.Contents.{cached}
use Rattle.driver_laws.specs.rules.Requests.{Map}
use Rattle.trace_replay.specs.Runs.{start_of}
use Rattle.script_runs.specs.StopsPasses.{AreAsLong}
use Rattle.cached_run.specs.Leaving.{IsCalled}
use Rattle.cached_run.specs.Sessions.{calls_for, called, maps_behind, asked_by, cache_behind, parts_in, parts_till}
use Rattle.cached_run.proofs.Replacings.{same_map}
use Rattle.script_runs.specs.Stops.{Took}
use Rattle.cached_run.specs.Answers.{answers_of, map_of_inputs, text_of, replacements_of, after}
use Rattle.cached_run.specs.Theorem.{contents, HasAsked, HasAskedTill, CachedPlays, IsAfter, EndsWithSync, HasNoSync, AreParted, CachedStops}
use Rattle.cached_run.specs.Going.{Scene, drives_at, blocks_at, IsFar, AskedTill, HaltsScript}
use Rattle.cached_run.proofs.Inputs.{map_is}
use Rattle.cached_run.proofs.Legal.{AreAskedWell, answers_legal}
use Rattle.cached_run.proofs.Goings.{ends_with}
use Rattle.driver_laws.proofs.rules.MachineRuns.{copy_below}

-- ---- tables stay where copies do
module _ (setup : Setup) (new : ℕ → Pack) (tables : HasTables setup) (o : OthersStay setup new) where
  no_home : (unit k block : ℕ) (kind : DriveKind) → setup.drives unit ≡ Some kind → length (places_of (setup.tables unit)) ≤ 126 → home_in setup unit block ≡ Some (copy_at kind k) → ⊥
  no_home unit k block kind declared room home =
      apart (copy_at kind k) (home_below kind (setup.tables unit) (setup.packs unit) block (copy_at kind k) k room
      (sym (ap (λ z. home_at z (setup.tables unit) (setup.packs unit) block) declared) ∙ home))
    where
      apart : (n : ℕ) → n < n → ⊥
      apart n lt = omega (arith, lt)

  table_left : (unit : ℕ) (drive : Option DriveKind) → setup.drives unit ≡ drive → IsTableAt drive (setup.packs unit) (setup.tables unit) → IsTableAt drive (new unit) (setup.tables unit)
  table_left unit None declared is = is
  table_left unit (Some kind) declared is = table_same kind (setup.packs unit) (new unit) (setup.tables unit)
      (record {
        bytes = λ k lt. sym (o.sectors unit (copy_at kind k) kind declared (copy_below kind k lt)
            (λ block home. no_home unit k block kind declared (table_room kind (setup.packs unit) (setup.tables unit) is) home));
        marks = λ k lt. ap (λ z. not (slice_index z (copy_at kind k) == 0)) (sym (o.stay.marks unit));
      }) is

  pub tables_left : AreTablesOf setup.drives new setup.tables
  tables_left unit = table_left unit (setup.drives unit) refl (tables unit)

-- ---- behind the last sync the packs hold the map
last_syncs : (ys : List Numbered) (y : Numbered) → HasNoSync (y ∷ ys) → EndsWithSync (y ∷ ys) → ⊥
last_syncs [] y none ends = none.0 ends
last_syncs (z ∷ zs) y none ends = last_syncs zs z none.1 ends

both_ways : (xs : List Numbered) (y : Numbered) (ys : List Numbered) → HasNoSync (y ∷ ys) → EndsWithSync (xs ++ y ∷ ys) → ⊥
both_ways [] y ys none ends = last_syncs ys y none ends
both_ways (x ∷ []) y ys none ends = last_syncs ys y none ends
both_ways (x ∷ z ∷ zs) y ys none ends = both_ways (z ∷ zs) y ys none ends

all_synced : (xs synced since : List Numbered) (n : Numbered) → n.input ≡ Drain → AreParted (xs ++ n ∷ []) synced since → synced ≡ xs ++ n ∷ []
all_synced xs synced [] n is p = sym (p.parts ∙ append-nil synced)
all_synced xs synced (y ∷ ys) n is p = absurd (both_ways synced y ys p.none (subst EndsWithSync p.parts (ends_with xs n is)))

module _ {first now : Scene} {begun s : State} (xs : List Numbered) (n : Numbered) (is : n.input ≡ Drain) (far : IsFar first begun (xs ++ n ∷ []) s now) where
  final_map : (u b : ℕ) → map_at now.site u b ≡ map_of_inputs (drives_at first) (blocks_at first) (xs ++ n ∷ []) u b
  final_map u b =
      let so = far.holds.each u b in
      let synced : far.holds.synced ≡ xs ++ n ∷ [] = all_synced xs far.holds.synced far.holds.since n is far.holds.parted in
      so.holds
      ∙ ap (λ z. after z (blocks_at first) u b) (take_all so.number (replacements_of (drives_at first) (blocks_at first) (xs ++ n ∷ []))
      (subst (λ z. length (replacements_of (drives_at first) (blocks_at first) z) ≤ so.number) synced so.from))
      ∙ ap (λ z. z u b) (sym (map_is (drives_at first) (blocks_at first) (xs ++ n ∷ [])))

-- ---- THE SETUP of a script over packs
abbrev pub setup_for : Script → (ℕ → Option Table) → (ℕ → Pack) → Setup
setup_for script tables old = record { drives = drives_of script; tables = tables; packs = old }

rest_stays : (script : Script) (tables : ℕ → Option Table) (old new : ℕ → Pack) → AreTablesOf (drives_of script) old tables → OthersStay (setup_for script tables old) new → RestStays script tables old new
rest_stays script tables old new read o = record {
  sectors = λ unit sector kind declared below none.
      o.sectors unit sector kind declared below (λ block home. none (record { block = block; at = sym (ap (λ z. home_at z (tables unit) (old unit) block) declared) ∙ home }));
  marks = o.stay.marks;
  tables_stay = tables_left (setup_for script tables old) new read o;
  others = o.stay.others;
}

-- WHAT THE SINKS TOOK from one place to another
abbrev pub said_between : (first now : Scene) → Took
said_between first now = record { tells = now.out_tells; before = first.said; after = now.said; faults = first.out_faults; faults_after = now.out_faults }

abbrev pub told_between : (first now : Scene) → Took
told_between first now = record { tells = now.site.trace_tells; before = first.site.taken; after = now.site.taken; faults = first.trace_faults; faults_after = now.trace_faults }

module _ (script : Script) (tables : ℕ → Option Table) (old : ℕ → Pack) (first now : Scene) (set : setup_at first.site ≡ setup_for script tables old) (read : AreTablesOf (drives_of script) old tables) where
  left_is : left_map first.site now.site ≡ contents script tables now.site.held
  left_is = ap (λ (z : Setup). map_of (with_packs z now.site.held)) set

  others_are : OthersStay (setup_at first.site) now.site.held → OthersStay (setup_for script tables old) now.site.held
  others_are o = subst (λ (z : Setup). OthersStay z now.site.held) set o

  answers_as : (start : List ℕ) (inputs : List Numbered) → start ++ text_of (answers_of (drives_at first) (blocks_at first) inputs) ≡ start ++ text_of (answers_of (drives_of script) (contents script tables old) inputs)
  answers_as start inputs = ap (λ (z : Setup). start ++ text_of (answers_of z.drives (map_of z) inputs)) set

  module _ (capacity : ℕ) (begun : State) (empty : begun ≡ empty_cache capacity) (t : IsTrue now.site.packs_tell)
      (stands : StandsQuiet first.site.held first.site.world (start_of script tables old)) where
    has : HasTables (setup_at first.site)
    has = subst HasTables (sym set) read

    contents_is : cached begun.entries (map_at first.site) ≡ contents script tables old
    contents_is =
        ap (λ (b : State). cached b.entries (map_at first.site)) empty
        ∙ same_map (cached [] (map_at first.site)) (map_at first.site) (λ u b. refl)
        ∙ ap (λ (z : Setup). map_of z) set

    -- THE REQUESTS
    has_asked : {s : State} (inputs : List Numbered) → IsCalled (calls_for (drives_at first) (blocks_at first) inputs) begun s first.site now.site
        → HasAsked capacity script tables old now.site.held (told_between first now) inputs
    has_asked inputs calls = record {
      sessions = calls.sessions;
      asks = record {
        calls = calls.calls;
        are = calls.are ∙ ap (λ (z : Setup). calls_for z.drives (map_of z) inputs) set;
        requests = calls.requests ∙ ap (λ (m : Map). asked_by m begun calls.calls) contents_is ∙ ap (λ (b : State). asked_by (contents script tables old) b calls.calls) empty;
      };
      lawful = (calls.goes.reaches t has (start_of script tables old) stands).session;
      told = λ told. calls.goes.trace told;
      long = subst (λ (h : ℕ → Pack). AreAsLong (start_of script tables old) (moments_in (parts_in calls.sessions)) h now.site.held) (ap (λ (z : Setup). z.packs) set)
          (calls.goes.long t has (start_of script tables old) stands);
    }

    has_asked_till : (before : List Numbered) (at : Numbered) → AskedTill first begun before at now → HasAskedTill capacity script tables old now.site.held (told_between first now) before at
    has_asked_till before at a = record {
      stop = a.stop;
      rose = a.rose;
      cut = record {
        done = a.cut.cut.done;
        under = a.cut.cut.under;
        of_own = a.cut.cut.of_own;
        rest = a.cut.cut.rest;
        are = a.cut.cut.are ∙ ap (λ (z : Setup). calls_for z.drives (map_of z) before ++ a.cut.cut.of_own) set;
        next = sym (ap (λ (z : Setup). calls_for z.drives (map_of_inputs z.drives (map_of z) before) (at ∷ [])) set) ∙ a.cut.cut.next;
        sessions = a.cut.cut.sessions;
        last = a.cut.cut.last;
        request = a.cut.cut.request;
        asked = a.cut.cut.asked;
        drained = a.cut.cut.drained;
        later = a.cut.cut.later;
        all = a.cut.cut.all ∙ ap (λ (m : Map). asked_by m begun a.cut.cut.done) contents_is ∙ ap (λ (b : State). asked_by (contents script tables old) b a.cut.cut.done) empty;
        some = a.cut.cut.some
            ∙ ap (λ (m : Map). asked_by (maps_behind m (called a.cut.cut.done)) (cache_behind m begun a.cut.cut.done) (a.cut.cut.under ∷ [])) contents_is
            ∙ ap (λ (b : State). asked_by (maps_behind (contents script tables old) (called a.cut.cut.done)) (cache_behind (contents script tables old) b a.cut.cut.done) (a.cut.cut.under ∷ [])) empty;
      };
      lawful = (a.cut.stops.cut t has (start_of script tables old) stands).session;
      told = a.cut.stops.trace;
      long = subst (λ (h : ℕ → Pack). LongAt a.stop (parts_till a.cut.cut) h now.site.held (start_of script tables old)) (ap (λ (z : Setup). z.packs) set)
          (a.cut.stops.cut t has (start_of script tables old) stands).long;
    }

    -- PLAYED TO ITS END
    pub whole_plays : {s : State} (xs : List Numbered) (n : Numbered) → inputs_of script ≡ xs ++ n ∷ [] → n.input ≡ Drain → AreAskedWell (inputs_of script)
        → (HasTables (setup_at first.site) → IsFar first begun (inputs_of script) s now) → CachedPlays capacity script old now.site.held (said_between first now) (told_between first now)
    whole_plays {s} xs n inputs last well plays = record {
      tables = tables;
      read = read;
      legal = subst (λ (z : Setup). AreLegal z.drives all_claimed (inputs_of script) (answers_of z.drives (map_of z) (inputs_of script)) (map_of z) (map_of_inputs z.drives (map_of z) (inputs_of script))) set
          (answers_legal (drives_at first) (inputs_of script) (blocks_at first) well (λ u b bytes e. map_long (setup_at first.site) u b bytes e));
      held = λ unit block kind declared below.
          ap (λ (z : ℕ → Blocks). z unit block) (sym left_is) ∙ ap (λ (z : Setup). map_of z unit block) (sym far.setup)
          ∙ final unit block
          ∙ ap (λ (z : Setup). map_of_inputs z.drives (map_of z) (inputs_of script) unit block) set;
      rest = rest_stays script tables old now.site.held read (others_are far.others);
      stay = (others_are far.others).stay;
      said = λ t. far.said t ∙ answers_as first.said (inputs_of script);
      asked = has_asked (inputs_of script) far.calls;
    }
      where
        far : IsFar first begun (inputs_of script) s now
        far = plays has

        final : (u b : ℕ) → map_at now.site u b ≡ map_of_inputs (drives_at first) (blocks_at first) (inputs_of script) u b
        final u b = subst (λ z. map_at now.site u b ≡ map_of_inputs (drives_at first) (blocks_at first) z u b) (sym inputs)
            (final_map xs n last (subst (λ z. IsFar first begun z s now) inputs far) u b)

    -- STOPPED
    pub whole_stops : (HasTables (setup_at first.site) → HaltsScript script begun first now) → CachedStops capacity script old now.site.held (said_between first now) (told_between first now)
    whole_stops halts = record {
      asked = elim h.halted.asked [
        | inl all ↦ inl (has_asked (h.before ++ h.at ∷ []) all.calls)
        | inr till ↦ inr (has_asked_till h.before h.at till)
      ];
      tables = tables;
      read = read;
      before = h.before;
      at = h.at;
      later = h.later;
      inputs = h.inputs;
      synced = h.halted.holds.synced;
      since = h.halted.holds.since;
      parted = h.halted.holds.parted;
      held = λ unit block kind declared below.
          subst (λ (z : Option (List ℕ)). IsAfter (replacements_of (drives_of script) (contents script tables old) (h.before ++ h.at ∷ []))
          (length (replacements_of (drives_of script) (contents script tables old) h.halted.holds.synced)) (contents script tables old) unit block z) (ap (λ (z : ℕ → Blocks). z unit block) left_is)
          (subst (λ (z : Setup). IsAfter (replacements_of z.drives (map_of z) (h.before ++ h.at ∷ [])) (length (replacements_of z.drives (map_of z) h.halted.holds.synced)) (map_of z) unit block
          (left_map first.site now.site unit block)) set (h.halted.holds.each unit block));
      rest = rest_stays script tables old now.site.held read (others_are h.halted.others);
      stay = (others_are h.halted.others).stay;
      front = λ t. subst (λ (z : Setup). TakesFront (first.said ++ text_of (answers_of z.drives (map_of z) h.before)) now.said
          (text_of (answers_of z.drives (map_of_inputs z.drives (map_of z) h.before) (h.at ∷ [])))) set (h.halted.front t);
      whole = λ rose t. h.halted.whole rose t ∙ answers_as first.said h.before;
    }
      where
        h : HaltsScript script begun first now
        h = halts has
