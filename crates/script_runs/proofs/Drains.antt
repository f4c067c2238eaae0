-- A drain: the machine's next event, again and again, until none can come. What is left of its events falls with each.
use Rattle.std.proofs.Common.{◌≡◌, inl, inr, ℕ, zero, suc, ◌+◌, ◌<◌, ◌≤◌, true, List, [], ◌∷◌, ◌++◌, Option, Some, None, refl, ap, arith, ◌∙◌}
use Rattle.pack_geometry.specs.Pack.{Pack}
use Rattle.pack_geometry.specs.TableSpelling.{Table}
use Rattle.trace_replay.specs.Moments.{Moment, Played, played}
use Rattle.trace_replay.specs.Script as says
use Rattle.trace_replay.specs.Script.{Script, Input, Numbered, drives_of}
use Rattle.trace_replay.specs.Packs.{surface_of}
use Rattle.trace_replay.specs.Replay.{Replay, are_at_work, after_moment, after_moments}
use Rattle.trace_replay.specs.Runs.{start_of}
use Rattle.driver_laws.specs.rules.Measure.{events_left}
use Rattle.driver_laws.proofs.rules.Conserved.{is_conserved}
use Rattle.driver_machine.specs.World.{World}
use Rattle.driver_machine.specs.Acts.{Act, Nothing, after_all}
use Rattle.driver_machine.specs.Lines.{lines_of_all}
use Rattle.driver_machine.specs.Events.{event_acts, next_event}
use Rattle.driver_machine.specs.Sound.{Sound}
use Rattle.driver_machine.specs.Runs.{Works, CanCome}
use Rattle.driver_laws.proofs.invariant.Calls.{event_works}
use Rattle.driver_laws.proofs.invariant.Next.{next_can}
use Rattle.driver_laws.proofs.invariant.Sound.{sound_after}
use Rattle.driver_laws.specs.answers.Packs.{packs_after_all}
use Rattle.driver_laws.specs.shown.Calls.{Stands}
use Rattle.driver_laws.specs.shown.Runs.{with_call, IsDraining}
use Rattle.driver_laws.proofs.shown.DrainsLaws.{GoesOn, drain_begins, drain_goes_on, drain_between}
use Rattle.driver_laws.proofs.shown.TraceRuns.{drain_finds_nothing, drain_ends}
use Rattle.driver_laws.proofs.shown.Inputted.{calls_are_played, lines_play_nothing}
use Rattle.driver_laws.specs.shown.RunsRuns.{IsKept}
use Rattle.driver_laws.proofs.shown.RunsLaws.{events_keep}
use Rattle.driver_laws.specs.shown.Drains.{AreAsked}
use Rattle.driver_laws.proofs.shown.Asked.{calls_ask, lines_ask_nothing}
use Rattle.driver_laws.proofs.shown.Calls.{drain_starts_on, drain_goes_further}
use Rattle.driver_laws.proofs.shown.Falls.{scripts_can_start, falls_on}
use Rattle.driver_laws.specs.answers.Counts.{noises_of, faults_of}
use Rattle.driver_laws.proofs.answers.Events.{events_add}
use Rattle.driver_laws.proofs.answers.Ids.{events_add_none}
use Rattle.driver_laws.specs.answers.Waiting.{all_taken}
use Rattle.script_runs.specs.Steps.{Behind, Drained, HasRoom}
use Rattle.script_runs.proofs.Taking.{runs_wait, draining_taken, kept_taken}
use Rattle.script_runs.proofs.Tries.{Tries, tries}
use Rattle.script_runs.proofs.Fitting.{within_more}
use Rattle.script_runs.proofs.Rooms.{room_behind, nothing_armed}

-- How far a run is in a drain.
pub record IsFarIn (script : Script) (tables : ℕ → Option Table) (old : ℕ → Pack) (line : ℕ) (inputs : List Numbered) (held : ℕ → Pack) (w : World) (moments : List Moment) : Type 0 where
  pub draining : IsDraining (start_of script tables old) line moments held w
  pub kept : IsKept (drives_of script) old held w
  pub plays : played moments ≡ inputs
  pub asked : AreAsked (start_of script tables old).there moments

none_more : (n a : ℕ) → a ≡ 0 → n + a ≤ n
none_more n a is = omega (arith, is)

module _ (script : Script) (tables : ℕ → Option Table) (old : ℕ → Pack) (total done : ℕ) (used : List ℕ) where
  abbrev start : Replay
  start = start_of script tables old

  -- IN A DRAIN, behind one of its events
  record BehindIn (line : ℕ) (inputs : List Numbered) : Type 0 where
    held : ℕ → Pack
    world : World
    moments : List Moment
    far : IsFarIn script tables old line inputs held world moments
    room : HasRoom script total done used world

  abbrev left_of : (line : ℕ) (inputs : List Numbered) → BehindIn line inputs → ℕ
  left_of line inputs b = events_left (after_moments start b.moments)

  room_in : (line : ℕ) (input : Input) (w : World) (tried : _) → Sound w → CanCome w input → HasRoom script total done used w
      → Works w (event_acts line input tried w) → Rattle.driver_machine.specs.Sound.AtWork w → Rattle.driver_machine.specs.Runs.MayCome w input tried
      → HasRoom script total done used (all_taken (after_all w (event_acts line input tried w)))
  room_in line input w tried sound can room works work may =
      let acts : List Act = event_acts line input tried w in
      room_behind script total done done used used w acts room
      (within_more done done (done + noises_of input) done (done + faults_of input) done (after_all w acts) (omega arith)
      (none_more done (noises_of input) (nothing_armed w input can).0) (none_more done (faults_of input) (nothing_armed w input can).1)
      (events_add done done done w line input tried works.run room.within))
      (events_add_none used w line input tried sound work may room.ids)

  -- ITS FIRST EVENT
  drain_first : (line next : ℕ) (inputs : List Numbered) (b : Behind script tables old total done used line inputs) (input : Input) → line < next
      → next_event b.world ≡ Some input → BehindIn next (inputs ++ record { line = next; input = says.Drain } ∷ [])
  drain_first line next inputs b input less is =
      let w : World = b.world in
      let s : Replay = after_moments start b.moments in
      let stands : Stands b.held w s = b.far.so_far.left.stands in
      let can : CanCome w input = next_can w input stands.sound is in
      let goes : GoesOn next input b.held w (after_moment s (Played next says.Drain)) = drain_begins next input b.held w s stands b.far.so_far.there is in
      let found : Tries w (after_moment s (Played next says.Drain)) input =
      tries input b.held w (after_moment s (Played next says.Drain)) stands.sound goes.rests.shows goes.packs (nothing_armed w input can).2 in
      let acts : List Act = event_acts next input found.tried w in
      let works : Works w acts = event_works sound_after next input found.tried w stands.sound stands.work found.may in
      record {
        held = packs_after_all w b.held acts;
        world = all_taken (after_all w acts);
        moments = with_call b.moments next says.Drain w acts;
        far = record {
          draining = draining_taken start next (with_call b.moments next says.Drain w acts) (packs_after_all w b.held acts) (after_all w acts)
              (runs_wait w acts stands.sound works.run (inl b.room.none_waits))
              (drain_starts_on (drives_of script) tables (surface_of old) line next input found.tried b.moments b.held w b.far.so_far less is found.may found.on);
          kept = kept_taken (drives_of script) old (packs_after_all w b.held acts) (after_all w acts) works.sound
              (events_keep (drives_of script) old b.held w next input found.tried stands.sound stands.work found.may b.far.kept);
          plays = calls_are_played b.moments next says.Drain w acts ∙ ap (λ (xs : List Numbered). xs ++ record { line = next; input = says.Drain } ∷ []) b.far.plays;
          asked = calls_ask start.there b.moments next says.Drain w acts b.far.asked tt tt;
        };
        room = room_in next input w found.tried stands.sound can b.room works stands.work found.may;
      }

  -- EACH OTHER ONE leaves fewer.
  record Next (line : ℕ) (inputs : List Numbered) (b : BehindIn line inputs) : Type 0 where
    next : BehindIn line inputs
    fewer : left_of line inputs next < left_of line inputs b

  drain_next : (line : ℕ) (inputs : List Numbered) (b : BehindIn line inputs) (input : Input) → next_event b.world ≡ Some input → Next line inputs b
  drain_next line inputs b input is =
      let w : World = b.world in
      let s : Replay = after_moments start b.moments in
      let far = b.far.draining in
      let sound : Sound w = far.ends.over.rests.sound in
      let can : CanCome w input = next_can w input sound is in
      let at_work : are_at_work s ≡ true =
      is_conserved (drives_of script) tables (surface_of old) b.moments far.follows (inr (drain_between line input b.held w s far.ends far.work is)) in
      let goes : GoesOn line input b.held w s = drain_goes_on line input b.held w s far.ends far.work far.there is at_work in
      let found : Tries w s input = tries input b.held w s sound goes.rests.shows goes.packs (nothing_armed w input can).2 in
      let acts : List Act = event_acts line input found.tried w in
      let works : Works w acts = event_works sound_after line input found.tried w sound far.work found.may in
      record {
        next = record {
          held = packs_after_all w b.held acts;
          world = all_taken (after_all w acts);
          moments = b.moments ++ lines_of_all w acts;
          far = record {
            draining = draining_taken start line (b.moments ++ lines_of_all w acts) (packs_after_all w b.held acts) (after_all w acts)
                (runs_wait w acts sound works.run (inl b.room.none_waits))
                (drain_goes_further (drives_of script) tables (surface_of old) line input found.tried b.moments b.held w far is found.may found.on);
            kept = kept_taken (drives_of script) old (packs_after_all w b.held acts) (after_all w acts) works.sound
                (events_keep (drives_of script) old b.held w line input found.tried sound far.work found.may b.far.kept);
            plays = lines_play_nothing b.moments w acts ∙ b.far.plays;
            asked = lines_ask_nothing start.there b.moments w acts b.far.asked;
          };
          room = room_in line input w found.tried sound can b.room works far.work found.may;
        };
        fewer =
            (falls_on start line input found.tried b.moments b.held w (scripts_can_start (drives_of script) tables (surface_of old)) b.far.asked far is
            found.may found.on).fewer;
      }

  -- Where none can come it is over.
  drain_over : (line : ℕ) (inputs : List Numbered) (b : BehindIn line inputs) → next_event b.world ≡ None → Drained script tables old total done used line inputs
  drain_over line inputs b over = record {
    behind = record {
      held = b.held;
      world = b.world;
      moments = b.moments;
      far = record {
        so_far = drain_ends (drives_of script) tables (surface_of old) line b.moments b.held b.world b.far.draining over;
        kept = b.far.kept;
        plays = b.far.plays;
        asked = b.far.asked;
      };
      room = b.room;
    };
    over = over;
  }

  drain_on : (n line : ℕ) (inputs : List Numbered) (b : BehindIn line inputs) → left_of line inputs b < n → Drained script tables old total done used line inputs
  drain_on zero line inputs b less = absurd (omega (arith, less))
  drain_on (suc n) line inputs b less = by (next_event b.world) refl (λ c fewer. drain_on n line inputs c fewer)
    where
      below : (a b n : ℕ) → a < b → b < suc n → a < n
      below a b n one other = omega (arith, one, other)

      by : (o : Option Input) → next_event b.world ≡ o → ((c : BehindIn line inputs) → left_of line inputs c < n → Drained script tables old total done used line inputs)
          → Drained script tables old total done used line inputs
      by None is on = drain_over line inputs b is
      by (Some input) is on =
          let c : Next line inputs b = drain_next line inputs b input is in
          on c.next (below (left_of line inputs c.next) (left_of line inputs b) n c.fewer less)

  -- A DRAIN that finds nothing
  drain_empty : (line next : ℕ) (inputs : List Numbered) (b : Behind script tables old total done used line inputs) → line < next → next_event b.world ≡ None
      → Drained script tables old total done used next (inputs ++ record { line = next; input = says.Drain } ∷ [])
  drain_empty line next inputs b less over = record {
    behind = record {
      held = b.held;
      world = b.world;
      moments = with_call b.moments next says.Drain b.world (Nothing next ∷ []);
      far = record {
        so_far = drain_finds_nothing (drives_of script) tables (surface_of old) line next b.moments b.held b.world b.far.so_far less over;
        kept = b.far.kept;
        plays = calls_are_played b.moments next says.Drain b.world (Nothing next ∷ [])
            ∙ ap (λ (xs : List Numbered). xs ++ record { line = next; input = says.Drain } ∷ []) b.far.plays;
        asked = calls_ask start.there b.moments next says.Drain b.world (Nothing next ∷ []) b.far.asked tt tt;
      };
      room = b.room;
    };
    over = over;
  }

  drained : (line next : ℕ) (inputs : List Numbered) → line < next → (b : Behind script tables old total done used line inputs) (o : Option Input) → next_event b.world ≡ o
      → Drained script tables old total done used next (inputs ++ record { line = next; input = says.Drain } ∷ [])
  drained line next inputs less b None is = drain_empty line next inputs b less is
  drained line next inputs less b (Some input) is =
      let first : BehindIn next (inputs ++ record { line = next; input = says.Drain } ∷ []) = drain_first line next inputs b input less is in
      drain_on (suc (left_of next (inputs ++ record { line = next; input = says.Drain } ∷ []) first)) next (inputs ++ record { line = next; input = says.Drain } ∷ []) first (omega arith)

pub drains_end : (script : Script) (tables : ℕ → Option Table) (old : ℕ → Pack) (total done : ℕ) (used : List ℕ) (line next : ℕ) (inputs : List Numbered) → line < next
    → Behind script tables old total done used line inputs
    → Drained script tables old total done used next (inputs ++ record { line = next; input = says.Drain } ∷ [])
drains_end script tables old total done used line next inputs less b = drained script tables old total done used line next inputs less b (next_event b.world) refl
