-- What a line comes to, behind any inputs.
use Rattle.std.proofs.Common.{◌≡◌, ◌⊎◌, inl, inr, ℕ, ◌+◌, ◌≤◌, Bool, true, false, IsTrue, List, [], ◌∷◌, ◌++◌, length, take, Option, None, Some, refl, sym, ap, ◌∙◌, subst, arith, append-nil, append_assoc, length-append}
use Rattle.std.specs.Prelude.{map, unwrap_or, if◌then◌else◌}
use Rattle.std.proofs.Math.Seq.{take-length}
use Rattle.outside_traits.specs.Causes.{Rose}
use Rattle.outside_traits.specs.Puts.{TakesFront}
use Rattle.outside_traits.proofs.GatherLaws.{rose_more}
use Rattle.pack_geometry.specs.declared.DriveKind.TheVariants.{Rp06}
use Rattle.trace_replay.specs.requests.Requests.{Request}
use Rattle.trace_replay.specs.declared.requests.answers.AnswerKind.{AnswerKind}
use Rattle.trace_replay.specs.Script.{Submit, Drain, Numbered}
use Rattle.driver_laws.specs.rules.Machine.{Blocks, kind_of}
use Rattle.driver_laws.specs.rules.Stands.{Setup}
use Rattle.driver_machine.specs.World.{unit_at}
use Rattle.driver_machine.specs.Guards.{IsSetUp}
use Rattle.driver_laws.specs.rules.Rest.{HasTables}
use Rattle.driver_laws.specs.rules.Waited.{map_of, with_packs}
use Rattle.trace_lines.specs.answers.AnswerText.{answer_text}
use Rattle.buffer_cache.specs.Passes.{Stage, StillTell, setup_at, kind_if, kind_at, map_at, left_map}
use Rattle.buffer_cache.proofs.Passes.{others_over, left_over, map_long}
use Rattle.driver_laws.specs.rules.Requests.{Map}
use Rattle.driver_laws.specs.declared.rules.cached.Entry.{Entry}
use Rattle.driver_laws.specs.rules.Entries.{State, is_of, entry_of, unchanged, written_back}
use Rattle.driver_laws.specs.rules.Contents.{bytes_or, cached, Fits, AllFit, Flushes}
use Rattle.driver_laws.proofs.rules.Lookups.{IsKey, is_key, found_key, found_all}
use Rattle.buffer_cache.specs.Calls.{IfTold, Holds, Syncs}
use Rattle.cached_run.specs.Answers.{Replacement, answer_with, answers_of, map_of_inputs, text_of, replaced_with, replacements_of, after}
use Rattle.cached_run.specs.Theorem.{IsAfter, EndsWithSync, HasNoSync}
use Rattle.driver_laws.specs.declared.answers.outcome.Stop.{Stop}
use Rattle.driver_laws.specs.declared.answers.outcome.Stop.TheVariants.{Sink}
use Rattle.buffer_cache.specs.Asks.{AsksTill}
use Rattle.cached_run.specs.Leaving.{IsLeft, IsCalled, IsCutIn, Leaves, Makes, KeepsSetup, Does}
use Rattle.cached_run.specs.Sessions.{calls_with, calls_for}
use Rattle.script_runs.specs.Saying.{said_text}
use Rattle.cached_run.specs.Saying.{IsSaid, AreLong}
use Rattle.cached_run.specs.Going.{Scene, drives_at, blocks_at, IsFar, AskedAll, AskedTill, HasHalted, GoesOn, Halts, syncs_at}
use Rattle.cached_run.proofs.Replacings.{after_more, same_map, take_first, take_second}
use Rattle.cached_run.proofs.Inputs.{map_more, map_is, replacements_more, text_more, fewer_before}
use Rattle.cached_run.proofs.Leavings.{leaves_read}
use Rattle.cached_run.proofs.Calls.{calls_more, called_then, called_sync, cut_behind, cut_one}
use Rattle.cached_run.proofs.Legal.{long_inputs}
use Rattle.cached_run.proofs.Numbers.{both_longer, itself, longer, through}

-- ---- inputs that end with a sync, or have none
pub ends_with : (xs : List Numbered) (n : Numbered) → n.input ≡ Drain → EndsWithSync (xs ++ n ∷ [])
ends_with [] n is = is
ends_with (x ∷ []) n is = is
ends_with (x ∷ y ∷ ys) n is = ends_with (y ∷ ys) n is

none_more : (xs : List Numbered) (n : Numbered) → (n.input ≡ Drain → ⊥) → HasNoSync xs → HasNoSync (xs ++ n ∷ [])
none_more [] n other none = (other, tt)
none_more (x ∷ xs) n other none = (none.0, none_more xs n other none.1)

no_drain : {r : Request} → Submit r ≡ Drain → ⊥
no_drain e = cc

-- ---- behind inputs

module _ {first old : Scene} {begun : State} {inputs : List Numbered} {s : State} (far : IsFar first begun inputs s old) where
  cached_is : cached s.entries (map_at old.site) ≡ map_of_inputs (drives_at first) (blocks_at first) inputs
  cached_is = same_map (cached s.entries (map_at old.site)) (map_of_inputs (drives_at first) (blocks_at first) inputs) far.contents

  long_cached : (u : ℕ) → AreLong (cached s.entries (map_at old.site) u)
  long_cached u = subst (λ (z : ℕ → Blocks). AreLong (z u)) (sym cached_is)
      (long_inputs (drives_at first) inputs (blocks_at first) (λ x b bytes e. map_long (setup_at first.site) x b bytes e) u)

  kind_here : (u : ℕ) → IsSetUp old.site.world u → kind_of (drives_at first) u ≡ kind_at old.site.world u
  kind_here u up =
      ap (λ (z : Setup). unwrap_or (z.drives u) Rp06) (sym far.setup)
      ∙ ap (λ (t : Bool). unwrap_or (kind_if t (unit_at old.site.world u).drive.kind) Rp06) up.declared

  -- what one more request replaces, and what is said of it
  request_list : (line : ℕ) (r : Request) → IsSetUp old.site.world r.unit
      → replacements_of (drives_at first) (map_of_inputs (drives_at first) (blocks_at first) inputs) (record { line = line; input = Submit r } ∷ [])
      ≡ replaced_with (kind_at old.site.world r.unit) (cached s.entries (map_at old.site) r.unit) r
  request_list line r up =
      append-nil (replaced_with (kind_of (drives_at first) r.unit) (map_of_inputs (drives_at first) (blocks_at first) inputs r.unit) r)
      ∙ ap (λ k. replaced_with k (map_of_inputs (drives_at first) (blocks_at first) inputs r.unit) r) (kind_here r.unit up)
      ∙ ap (λ (z : ℕ → Blocks). replaced_with (kind_at old.site.world r.unit) (z r.unit) r) (sym cached_is)

  request_text : (line : ℕ) (r : Request) → IsSetUp old.site.world r.unit
      → text_of (answers_of (drives_at first) (map_of_inputs (drives_at first) (blocks_at first) inputs) (record { line = line; input = Submit r } ∷ []))
      ≡ answer_text (record { line = line; id = r.id; answer = answer_with (kind_at old.site.world r.unit) (cached s.entries (map_at old.site) r.unit) r })
  request_text line r up =
      append-nil (answer_text (record { line = line; id = r.id; answer = answer_with (kind_of (drives_at first) r.unit) (map_of_inputs (drives_at first) (blocks_at first) inputs r.unit) r }))
      ∙ ap (λ k. answer_text (record { line = line; id = r.id; answer = answer_with k (map_of_inputs (drives_at first) (blocks_at first) inputs r.unit) r })) (kind_here r.unit up)
      ∙ ap (λ (z : ℕ → Blocks). answer_text (record { line = line; id = r.id; answer = answer_with (kind_at old.site.world r.unit) (z r.unit) r })) (sym cached_is)

  -- and what the cache is called for
  request_calls : (line : ℕ) (r : Request) → IsSetUp old.site.world r.unit
      → calls_for (drives_at first) (map_of_inputs (drives_at first) (blocks_at first) inputs) (record { line = line; input = Submit r } ∷ [])
      ≡ calls_with (kind_at old.site.world r.unit) (cached s.entries (map_at old.site) r.unit) line r
  request_calls line r up =
      append-nil (calls_with (kind_of (drives_at first) r.unit) (map_of_inputs (drives_at first) (blocks_at first) inputs r.unit) line r)
      ∙ ap (λ k. calls_with k (map_of_inputs (drives_at first) (blocks_at first) inputs r.unit) line r) (kind_here r.unit up)
      ∙ ap (λ (z : ℕ → Blocks). calls_with (kind_at old.site.world r.unit) (z r.unit) line r) (sym cached_is)

  called_more : (n : Numbered) (at : List Numbered) (s' : State) (new : Stage) → calls_for (drives_at first) (map_of_inputs (drives_at first) (blocks_at first) inputs) (n ∷ []) ≡ at → StillTell old.site new
      → IsCalled at s s' old.site new → IsCalled (calls_for (drives_at first) (blocks_at first) (inputs ++ n ∷ [])) begun s' first.site new
  called_more n at s' new is still calls =
      subst (λ z. IsCalled z begun s' first.site new)
      (sym (calls_more (drives_at first) (blocks_at first) inputs (n ∷ []) ∙ ap (λ z. calls_for (drives_at first) (blocks_at first) inputs ++ z) is))
      (called_then (calls_for (drives_at first) (blocks_at first) inputs) at begun s s' first.site old.site new still far.calls calls)

  cut_more : (n : Numbered) (own : List Numbered) (stop : Stop) (new : Stage) → calls_for (drives_at first) (map_of_inputs (drives_at first) (blocks_at first) inputs) (n ∷ []) ≡ own → StillTell old.site new
      → IsCutIn stop [] own s old.site new
      → IsCutIn stop (calls_for (drives_at first) (blocks_at first) inputs) (calls_for (drives_at first) (map_of_inputs (drives_at first) (blocks_at first) inputs) (n ∷ [])) begun first.site new
  cut_more n own stop new is still cut =
      subst (λ z. IsCutIn stop (calls_for (drives_at first) (blocks_at first) inputs) z begun first.site new) (sym is)
      (cut_behind stop (calls_for (drives_at first) (blocks_at first) inputs) own begun s first.site old.site new still far.calls cut)

  -- the replacements and the map behind one input more
  module _ (n : Numbered) (list : List Replacement) (is : replacements_of (drives_at first) (map_of_inputs (drives_at first) (blocks_at first) inputs) (n ∷ []) ≡ list) where
    list_more : replacements_of (drives_at first) (blocks_at first) (inputs ++ n ∷ []) ≡ replacements_of (drives_at first) (blocks_at first) inputs ++ list
    list_more = replacements_more (drives_at first) (blocks_at first) inputs (n ∷ []) ∙ ap (λ z. replacements_of (drives_at first) (blocks_at first) inputs ++ z) is

    map_then : after list (cached s.entries (map_at old.site)) ≡ map_of_inputs (drives_at first) (blocks_at first) (inputs ++ n ∷ [])
    map_then =
        ap (after list) cached_is
        ∙ sym (map_more (drives_at first) (blocks_at first) inputs (n ∷ [])
        ∙ map_is (drives_at first) (map_of_inputs (drives_at first) (blocks_at first) inputs) (n ∷ [])
        ∙ ap (λ z. after z (map_of_inputs (drives_at first) (blocks_at first) inputs)) is)

    synced_few : length (replacements_of (drives_at first) (blocks_at first) far.holds.synced) ≤ length (replacements_of (drives_at first) (blocks_at first) inputs)
    synced_few = subst (λ z. length (replacements_of (drives_at first) (blocks_at first) far.holds.synced) ≤ length (replacements_of (drives_at first) (blocks_at first) z)) (sym far.holds.parted.parts)
        (fewer_before (drives_at first) (blocks_at first) far.holds.synced far.holds.since)

    -- A BLOCK THAT IS LEFT holds what some of them left
    left_some : (u b : ℕ) (now : Option (List ℕ)) → IsLeft list (map_at old.site) s.entries u b now
        → IsAfter (replacements_of (drives_at first) (blocks_at first) (inputs ++ n ∷ [])) (length (replacements_of (drives_at first) (blocks_at first) far.holds.synced)) (blocks_at first) u b now
    left_some u b now left =
        subst (λ z. IsAfter z (length (replacements_of (drives_at first) (blocks_at first) far.holds.synced)) (blocks_at first) u b now) (sym list_more) (by left)
      where
        under : (a b k : ℕ) → a ≤ b → a ≤ b + k
        under a b k le = omega (arith, le)

        by : IsLeft list (map_at old.site) s.entries u b now
            → IsAfter (replacements_of (drives_at first) (blocks_at first) inputs ++ list) (length (replacements_of (drives_at first) (blocks_at first) far.holds.synced)) (blocks_at first) u b now
        by (inl same) =
            let so = far.holds.each u b in
            record {
              number = so.number;
              from = so.from;
              to = longer so.number (length (replacements_of (drives_at first) (blocks_at first) inputs)) (length list) (length (replacements_of (drives_at first) (blocks_at first) inputs ++ list)) so.to
                  (length-append (replacements_of (drives_at first) (blocks_at first) inputs) list);
              holds = same ∙ so.holds ∙ ap (λ z. after z (blocks_at first) u b) (sym (take_first so.number (replacements_of (drives_at first) (blocks_at first) inputs) list so.to));
            }
        by (inr some) = record {
          number = length (replacements_of (drives_at first) (blocks_at first) inputs) + some.number;
          from = under (length (replacements_of (drives_at first) (blocks_at first) far.holds.synced)) (length (replacements_of (drives_at first) (blocks_at first) inputs)) some.number synced_few;
          to = both_longer (length (replacements_of (drives_at first) (blocks_at first) inputs)) some.number (length list) (length (replacements_of (drives_at first) (blocks_at first) inputs ++ list)) some.to
              (length-append (replacements_of (drives_at first) (blocks_at first) inputs) list);
          holds = some.holds
              ∙ ap (λ z. after (take some.number list) z u b) (cached_is ∙ map_is (drives_at first) (blocks_at first) inputs)
              ∙ ap (λ z. z u b) (sym (after_more (replacements_of (drives_at first) (blocks_at first) inputs) (take some.number list) (blocks_at first)))
              ∙ ap (λ z. after z (blocks_at first) u b) (sym (take_second (replacements_of (drives_at first) (blocks_at first) inputs) list some.number));
        }

  -- units and tables behind it
  setup_then : (new : Stage) → KeepsSetup old.site new → setup_at new ≡ with_packs (setup_at first.site) new.held
  setup_then new k = k.setup ∙ ap (λ (z : Setup). with_packs z new.held) far.setup

  -- IT STOPPED, and nothing of it was said
  halts_silent : (n : Numbered) (list : List Replacement) (new : Scene) → replacements_of (drives_at first) (map_of_inputs (drives_at first) (blocks_at first) inputs) (n ∷ []) ≡ list
      → Leaves list s old.site new.site → (IsTrue new.out_tells → IsTrue old.out_tells) → new.said ≡ old.said
      → AskedAll first begun (inputs ++ n ∷ []) new ⊎ AskedTill first begun inputs n new → HasHalted first begun inputs n new
  halts_silent n list new is l again same asked = record {
    asked = asked;
    holds = record {
      synced = far.holds.synced;
      since = far.holds.since;
      parted = far.holds.parted;
      each = λ u b. left_some n list is u b (left_map first.site new.site u b)
          (subst (λ (z : ℕ → Blocks). IsLeft list (map_at old.site) s.entries u b (z u b)) (left_over first.site old.site new.site far.setup) (l.each u b));
    };
    others = others_over first.site old.site new.site far.setup far.others l.others;
    front = λ t. (0, same ∙ far.said (again t) ∙ sym (append-nil (first.said ++ text_of (answers_of (drives_at first) (blocks_at first) inputs))));
    whole = λ rose t. same ∙ far.said (again t);
  }

  -- IT STOPPED at the sink for the answers
  halts_saying : (n : Numbered) (list : List Replacement) (text : List ℕ) (new : Scene)
      → replacements_of (drives_at first) (map_of_inputs (drives_at first) (blocks_at first) inputs) (n ∷ []) ≡ list
      → text_of (answers_of (drives_at first) (map_of_inputs (drives_at first) (blocks_at first) inputs) (n ∷ [])) ≡ text
      → Leaves list s old.site new.site → (IsTrue new.out_tells → IsTrue old.out_tells)
      → (IsTrue new.out_tells → TakesFront old.said new.said text) → Rose old.out_faults new.out_faults
      → AskedAll first begun (inputs ++ n ∷ []) new ⊎ AskedTill first begun inputs n new → HasHalted first begun inputs n new
  halts_saying n list text new is says l again front rose asked = record {
    asked = asked;
    holds = record {
      synced = far.holds.synced;
      since = far.holds.since;
      parted = far.holds.parted;
      each = λ u b. left_some n list is u b (left_map first.site new.site u b)
          (subst (λ (z : ℕ → Blocks). IsLeft list (map_at old.site) s.entries u b (z u b)) (left_over first.site old.site new.site far.setup) (l.each u b));
    };
    others = others_over first.site old.site new.site far.setup far.others l.others;
    front = λ t. cut (front t) (far.said (again t));
    whole = λ not. absurd (not (rose_more first.out_faults old.out_faults new.out_faults far.later rose));
  }
    where
      cut : TakesFront old.said new.said text → old.said ≡ first.said ++ text_of (answers_of (drives_at first) (blocks_at first) inputs)
          → TakesFront (first.said ++ text_of (answers_of (drives_at first) (blocks_at first) inputs)) new.said
          (text_of (answers_of (drives_at first) (map_of_inputs (drives_at first) (blocks_at first) inputs) (n ∷ [])))
      cut takes so = (
        takes.0,
        takes.1 ∙ ap (λ z. z ++ take takes.0 text) so ∙ ap (λ z. (first.said ++ text_of (answers_of (drives_at first) (blocks_at first) inputs)) ++ take takes.0 z) (sym says),
      )

  -- IT CAME TO ITS END
  goes_request : (line : ℕ) (r : Request) (list : List Replacement) (text : List ℕ) (s' : State) (new : Scene)
      → replacements_of (drives_at first) (map_of_inputs (drives_at first) (blocks_at first) inputs) (record { line = line; input = Submit r } ∷ []) ≡ list
      → text_of (answers_of (drives_at first) (map_of_inputs (drives_at first) (blocks_at first) inputs) (record { line = line; input = Submit r } ∷ [])) ≡ text
      → IsTrue new.site.packs_tell → KeepsSetup old.site new.site → Leaves list s old.site new.site → Makes list s s' old.site new.site
      → (IsTrue new.out_tells → IsTrue old.out_tells) → (IsTrue new.out_tells → new.said ≡ old.said ++ text) → old.out_faults ≤ new.out_faults → old.trace_faults ≤ new.trace_faults
      → IsCalled (calls_for (drives_at first) (blocks_at first) (inputs ++ record { line = line; input = Submit r } ∷ [])) begun s' first.site new.site
      → IsFar first begun (inputs ++ record { line = line; input = Submit r } ∷ []) s' new
  goes_request line r list text s' new is says t k l m again said later traced calls = record {
    later_trace = through first.trace_faults old.trace_faults new.trace_faults far.later_trace traced;
    setup = setup_then new.site k;
    tables = k.tables t far.tables;
    contents = λ u b. m.contents u b ∙ ap (λ z. z u b) (map_then (record { line = line; input = Submit r }) list is);
    fit = m.fit;
    holds = record {
      synced = far.holds.synced;
      since = far.holds.since ++ record { line = line; input = Submit r } ∷ [];
      parted = record {
        parts = ap (λ z. z ++ record { line = line; input = Submit r } ∷ []) far.holds.parted.parts ∙ append_assoc far.holds.synced far.holds.since (record { line = line; input = Submit r } ∷ []);
        ends = far.holds.parted.ends;
        none = none_more far.holds.since (record { line = line; input = Submit r }) no_drain far.holds.parted.none;
      };
      each = λ u b. left_some (record { line = line; input = Submit r }) list is u b (map_at new.site u b)
          (subst (λ (z : ℕ → Blocks). IsLeft list (map_at old.site) s.entries u b (z u b)) (ap map_of (sym k.setup)) (l.each u b));
    };
    others = others_over first.site old.site new.site far.setup far.others l.others;
    said = λ o. said o ∙ ap (λ z. z ++ text) (far.said (again o)) ∙ append_assoc first.said (text_of (answers_of (drives_at first) (blocks_at first) inputs)) text
        ∙ ap (λ z. first.said ++ (text_of (answers_of (drives_at first) (blocks_at first) inputs) ++ z)) (sym says)
        ∙ ap (λ z. first.said ++ z) (sym (text_more (drives_at first) (blocks_at first) inputs (record { line = line; input = Submit r } ∷ [])));
    later = through first.out_faults old.out_faults new.out_faults far.later later;
    calls = calls;
  }

-- ---- A SYNC: behind it the packs hold what is cached
unchanged_found : (u b : ℕ) (entries : List Entry) (e : Entry) → entry_of u b (map unchanged entries) ≡ Some e → e.changed ≡ false
unchanged_found u b [] e is = absurd (never is)
  where
    never : {x : Entry} → ◌≡◌ {A = Option Entry} None (Some x) → ⊥
    never f = cc
unchanged_found u b (x ∷ entries) e is = by (is_of u b (unchanged x)) is (λ f. unchanged_found u b entries e f)
  where
    by : (t : Bool) → (if t then Some (unchanged x) else entry_of u b (map unchanged entries)) ≡ Some e → (entry_of u b (map unchanged entries) ≡ Some e → e.changed ≡ false) → e.changed ≡ false
    by true f rest = ap (λ (z : Entry). z.changed) (sym (same f))
      where
        same : {x y : Entry} → ◌≡◌ {A = Option Entry} (Some x) (Some y) → x ≡ y
        same g = cc
    by false f rest = rest f

flushed_is : (entries : List Entry) (map_now : Map) (u b : ℕ) → AllFit map_now (map unchanged entries) → cached (map unchanged entries) map_now u b ≡ map_now u b
flushed_is entries map_now u b fit = by (entry_of u b (map unchanged entries)) refl
  where
    by : (o : Option Entry) → entry_of u b (map unchanged entries) ≡ o → bytes_or o (map_now u b) ≡ map_now u b
    by None is = refl
    by (Some e) is =
        let key : IsKey u b e = is_key u b e (found_key u b (map unchanged entries) e is) in
        sym (ap (λ z. map_now z b) key.unit_is ∙ ap (λ z. map_now e.unit z) key.block_is
        ∙ (found_all (Fits map_now) u b (map unchanged entries) e fit is).same (unchanged_found u b entries e is))

pub goes_sync : (line : ℕ) (s s' : State) (old : Scene) (new : Stage) (traced : ℕ) → old.trace_faults ≤ traced → IsTrue new.packs_tell → StillTell old.site new → KeepsSetup old.site new
    → Syncs line s s' old.site new → IfTold s old.site new (Holds 0 0 None s old.site new) → GoesOn (syncs_at line) s s' old (record old { site = new; trace_faults = traced })
goes_sync line s s' old new traced less t still k syncs holds first begun inputs far =
    let flushes : Flushes (map_at old.site) (map_at new) s.entries s'.entries = syncs.told t far.tables far.fit in
    let left = leaves_read 0 0 s old.site new (holds t far.tables far.fit) in
    record {
      setup = setup_then far new k;
      tables = k.tables t far.tables;
      contents = λ u b. same u b flushes.fit ∙ flushes.contents u b ∙ far.contents u b
          ∙ ap (λ z. z u b) (sym (map_more (drives_at first) (blocks_at first) inputs (syncs_at line)));
      fit = flushes.fit;
      holds = record {
        synced = inputs ++ syncs_at line;
        since = [];
        parted = record { parts = sym (append-nil (inputs ++ syncs_at line)); ends = inr (ends_with inputs (record { line = line; input = Drain }) refl); none = tt };
        each = λ u b. record {
          number = length (replacements_of (drives_at first) (blocks_at first) (inputs ++ syncs_at line));
          from = itself (length (replacements_of (drives_at first) (blocks_at first) (inputs ++ syncs_at line)));
          to = itself (length (replacements_of (drives_at first) (blocks_at first) (inputs ++ syncs_at line)));
          holds = flushes.contents u b ∙ far.contents u b
              ∙ ap (λ z. z u b) (sym (map_more (drives_at first) (blocks_at first) inputs (syncs_at line)) ∙ map_is (drives_at first) (blocks_at first) (inputs ++ syncs_at line))
              ∙ ap (λ z. after z (blocks_at first) u b) (sym (take-length (replacements_of (drives_at first) (blocks_at first) (inputs ++ syncs_at line))));
        };
      };
      others = others_over first.site old.site new far.setup far.others left.others;
      said = λ o. far.said o ∙ sym (ap (λ z. first.said ++ z) (text_more (drives_at first) (blocks_at first) inputs (syncs_at line) ∙ append-nil (text_of (answers_of (drives_at first) (blocks_at first) inputs))));
      later = far.later;
      later_trace = through first.trace_faults old.trace_faults traced far.later_trace less;
      calls = called_more far (record { line = line; input = Drain }) (syncs_at line) s' new refl still
          (called_sync line s s' old.site new syncs (λ u b. same u b flushes.fit ∙ flushes.contents u b));
    }
  where
    same : (u b : ℕ) → AllFit (map_at new) s'.entries → cached s'.entries (map_at new) u b ≡ map_at new u b
    same u b fit = subst (λ (z : State). cached z.entries (map_at new) u b ≡ map_at new u b) (sym syncs.state)
        (flushed_is s.entries (map_at new) u b (subst (λ (z : State). AllFit (map_at new) z.entries) syncs.state fit))

pub halts_sync : (stop : Stop) (line : ℕ) (s : State) (old : Scene) (new : Stage) (traced : ℕ) → IsTrue new.packs_tell → StillTell old.site new → (stop ≡ Sink → Rose old.trace_faults traced)
    → AsksTill stop line (written_back s.entries) old.site new → IfTold s old.site new (Holds 0 0 None s old.site new) → Halts (syncs_at line) s old (record old { site = new; trace_faults = traced })
halts_sync stop line s old new traced t still rose till holds first begun inputs far =
    let n : Numbered = record { line = line; input = Drain } in
    halts_silent far n [] (record old { site = new; trace_faults = traced }) refl (leaves_read 0 0 s old.site new (holds t far.tables far.fit)) (λ o. o) refl
    (inr (record {
      stop = stop;
      rose = λ e. rose_more first.trace_faults old.trace_faults traced far.later_trace (rose e);
      cut = cut_more far n (syncs_at line) stop new refl still (cut_one stop (record { at = n; refuses = false }) [] (written_back s.entries) s old.site new till refl);
    }))

-- ---- A REQUEST
module _ (line : ℕ) (r : Request) (list : List Replacement) (how : AnswerKind) (lines : List (List ℕ)) (s s' : State) (old new : Scene) (t : IsTrue new.site.packs_tell)
    (up : IsSetUp old.site.world r.unit) (list_is : list ≡ replaced_with (kind_at old.site.world r.unit) (cached s.entries (map_at old.site) r.unit) r) where
  pub request_halts : (stop : Stop) → StillTell old.site new.site → (stop ≡ Sink → Rose old.trace_faults new.trace_faults)
      → IfTold s old.site new.site (IsCutIn stop [] (calls_with (kind_at old.site.world r.unit) (cached s.entries (map_at old.site) r.unit) line r) s old.site new.site)
      → (IsTrue new.site.packs_tell → HasTables (setup_at old.site) → AllFit (map_at old.site) s.entries → Leaves list s old.site new.site)
      → (IsTrue new.out_tells → IsTrue old.out_tells) → new.said ≡ old.said → Halts (record { line = line; input = Submit r } ∷ []) s old new
  request_halts stop still rose cut leaves again same first begun inputs far =
      halts_silent far (record { line = line; input = Submit r }) list new (request_list far line r up ∙ sym list_is) (leaves t far.tables far.fit) again same
      (inr (record {
        stop = stop;
        rose = λ e. rose_more first.trace_faults old.trace_faults new.trace_faults far.later_trace (rose e);
        cut = cut_more far (record { line = line; input = Submit r }) (calls_with (kind_at old.site.world r.unit) (cached s.entries (map_at old.site) r.unit) line r) stop new.site (request_calls far line r up) still (cut t far.tables far.fit);
      }))

  module _ (does : IfTold s old.site new.site (Does (λ contents. calls_with (kind_at old.site.world r.unit) (contents r.unit) line r) list (λ contents. IsSaid (kind_at old.site.world r.unit) (contents r.unit) r how lines) s s' old.site new.site)) where
    its_text : {first : Scene} {begun : State} {inputs : List Numbered} → IsFar first begun inputs s old
        → text_of (answers_of (drives_at first) (map_of_inputs (drives_at first) (blocks_at first) inputs) (record { line = line; input = Submit r } ∷ [])) ≡ said_text line r.id how lines
    its_text far = request_text far line r up ∙ sym ((does t far.tables far.fit).says (long_cached far r.unit) line)

    all_called : {first : Scene} {begun : State} {inputs : List Numbered} → StillTell old.site new.site → (far : IsFar first begun inputs s old)
        → IsCalled (calls_for (drives_at first) (blocks_at first) (inputs ++ record { line = line; input = Submit r } ∷ [])) begun s' first.site new.site
    all_called still far =
        called_more far (record { line = line; input = Submit r }) (calls_with (kind_at old.site.world r.unit) (cached s.entries (map_at old.site) r.unit) line r) s' new.site (request_calls far line r up) still
        (does t far.tables far.fit).calls

    pub saying_halts : StillTell old.site new.site → (IsTrue new.out_tells → IsTrue old.out_tells) → (IsTrue new.out_tells → TakesFront old.said new.said (said_text line r.id how lines))
        → Rose old.out_faults new.out_faults → Halts (record { line = line; input = Submit r } ∷ []) s old new
    saying_halts still again front rose first begun inputs far =
        halts_saying far (record { line = line; input = Submit r }) list (said_text line r.id how lines) new (request_list far line r up ∙ sym list_is) (its_text far)
        (does t far.tables far.fit).leaves again front rose (inl (record { cache = s'; calls = all_called still far }))

    pub request_goes : KeepsSetup old.site new.site → StillTell old.site new.site → (IsTrue new.out_tells → IsTrue old.out_tells) → (IsTrue new.out_tells → new.said ≡ old.said ++ said_text line r.id how lines)
        → old.out_faults ≤ new.out_faults → old.trace_faults ≤ new.trace_faults → GoesOn (record { line = line; input = Submit r } ∷ []) s s' old new
    request_goes k still again said later traced first begun inputs far =
        goes_request far line r list (said_text line r.id how lines) s' new (request_list far line r up ∙ sym list_is) (its_text far) t k
        (does t far.tables far.fit).leaves (does t far.tables far.fit).makes again said later traced (all_called still far)
