-- A call of the driver, whose lines are kept, and the answers behind it.
use Rattle.std.proofs.Common.{◌≡◌, ℕ, Bool, true, false, IsTrue, List, [], ◌++◌, Option, Some, None, refl, sym, ap, subst, ◌∙◌, append-nil}
use Rattle.pack_geometry.specs.Pack.{Pack, empty_pack}
use Rattle.outside_traits.specs.Puts.{TakesFront}
use Rattle.hardware_table.specs.declared.Moved.TheVariants as verdict
use Rattle.trace_replay.specs.requests.Requests.{Request}
use Rattle.trace_replay.specs.Script.{Input}
use Rattle.trace_replay.specs.Text.{trace_text}
use Rattle.driver_machine.specs.World.{World}
use Rattle.driver_machine.specs.Lines.{lines_of_all}
use Rattle.driver_machine.specs.Events.{submit_acts, event_acts}
use Rattle.driver_laws.specs.answers.Waiting.{waiting, all_taken}
use Rattle.driver_machine.specs.Acts.{Tried}
use Rattle.driver_laws.specs.answers.Outcome.{Does, IsFront}
use Rattle.driver_laws.specs.declared.answers.outcome.Stop.{Stop}
use Rattle.driver_laws.specs.declared.answers.outcome.Stop.TheVariants as stop
use Rattle.driver_laws.proofs.answers.Joined.{front_more, front_of_front}
use Rattle.driver_laws.specs.shown.Noises.{AllFlip}
use Rattle.hp_driver.specs.Subsystem.{Submits, Comes, State, seen, IsThere, is_move, writes_by}
use Rattle.hp_driver.proofs.Sent.{whole_sent, front_told}
use Rattle.blocking_io.specs.Given.{Given, gives_all}
use Rattle.blocking_io.specs.Calls.{GivesSubmission, GivesEvent, SubmissionStops, EventTellsFront, EventStops, SendsRest}
use Rattle.blocking_io.proofs.Sending.{begins_taken, taken_front, ahead, left, told_same, sent_begins, ahead_front, still_taken, rest_sent}

-- ---- A SUBMISSION, before which nothing is kept
pub submission_given : {O : Type 0} (tells : O → Bool) (taken : O → List ℕ) (trace trace' : O) (line : ℕ) (r : Request) (old mid new : State) (given given' : Given)
    → Submits tells taken trace trace' line r old.world mid.world old.kept mid.kept None → old.kept ≡ []
    → new ≡ record mid { world = all_taken mid.world } → given' ≡ gives_all (waiting mid.world) given
    → (packs_tell : Bool) (held : ℕ → Pack) → GivesSubmission line r
    (record { world = old.world; packs_tell = packs_tell; held = held; trace_tells = tells trace; taken = taken trace; given = given })
    (record { world = new.world; packs_tell = packs_tell; held = held; trace_tells = tells trace'; taken = taken trace' ++ new.kept; given = given' })
submission_given tells taken trace trace' line r old mid new given given' does none is gives packs_tell held = record {
  slot = does.slot;
  held = does.held;
  may = does.may;
  is = does.is;
  packs = (does.outcome true held).does.packs refl;
  acts = record {
    run = (does.outcome packs_tell held).does.run;
    world = ap (λ (s : State). s.world) is ∙ ap all_taken (does.outcome packs_tell held).does.world;
    trace = λ t. ap (λ (s : State). taken trace' ++ s.kept) is
        ∙ whole_sent (taken trace) (taken trace') (taken trace' ++ mid.kept) old.kept mid.kept (trace_text (lines_of_all old.world (submit_acts r line does.slot does.held old.world))) none
        ((does.outcome packs_tell held).text t) refl;
    given = gives ∙ ap (λ (w : World). gives_all (waiting w) given) (does.outcome packs_tell held).does.world;
  };
}

-- of which the trace took some already,
pub submission_sent : {O : Type 0} (tells : O → Bool) (taken : O → List ℕ) (trace trace' : O) (line : ℕ) (r : Request) (old new : World) (kept kept' : List ℕ)
    → Submits tells taken trace trace' line r old new kept kept' None → IsTrue (tells trace') → IsFront (taken trace) (taken trace')
submission_sent tells taken trace trace' line r old new kept kept' does t = (does.outcome true (λ u. empty_pack)).sent t

-- and one that stopped
pub submission_halts : {O : Type 0} (tells : O → Bool) (taken : O → List ℕ) (trace trace' : O) (line : ℕ) (r : Request) (old new : State) (given given' : Given) → old.kept ≡ []
    → Submits tells taken trace trace' line r old.world new.world old.kept new.kept (Some stop.Sink) → (packs_tell : Bool) (held : ℕ → Pack) → SubmissionStops stop.Sink line r
    (record { world = old.world; packs_tell = packs_tell; held = held; trace_tells = tells trace; taken = taken trace; given = given })
    (record { world = new.world; packs_tell = packs_tell; held = held; trace_tells = tells trace'; taken = taken trace'; given = given' })
submission_halts tells taken trace trace' line r old new given given' none does packs_tell held =
    let halts = does.outcome packs_tell held in
    record {
      slot = does.slot;
      held = does.held;
      may = does.may;
      is = does.is;
      by = refl;
      same = refl;
      tells = record {
        done = halts.done;
        left = halts.left;
        all = halts.all;
        run = halts.does.run;
        reads = halts.does.reads;
        packs = halts.does.packs;
        least = halts.sent;
        most = λ t. front_told (taken trace) (taken trace') old.kept new.kept (trace_text (lines_of_all old.world halts.done)) none (halts.front t);
      };
    }

-- ---- AN EVENT, ahead of which lines were sent if it may write
pub record IsAhead {O : Type 0} (tells : O → Bool) (taken : O → List ℕ) (trace mid_trace : O) (writes : Bool) (old mid : State) : Type 0 where
  pub took : IsTrue (tells mid_trace) → taken mid_trace ≡ taken trace ++ ahead writes old.kept
  pub same : mid ≡ record old { kept = left writes old.kept }

comes_from : {O Q : Type 0} (holds : Q → Bool) (held : Q → ℕ → Pack) (tells : O → Bool) (taken : O → List ℕ) (packs packs' : Q) (trace trace' : O) (line : ℕ) (input : Input) (old mid new : State)
    (kept : List ℕ) (halt other : Option Stop) → mid ≡ record old { kept = kept } → other ≡ halt
    → Comes holds held tells taken packs packs' trace trace' line input mid.world new.world mid.kept new.kept other
    → Comes holds held tells taken packs packs' trace trace' line input old.world new.world kept new.kept halt
comes_from holds held tells taken packs packs' trace trace' line input old mid new kept halt other is halts comes =
    subst (λ (s : State). Comes holds held tells taken packs packs' trace trace' line input s.world new.world s.kept new.kept halt) is
    (subst (λ (h : Option Stop). Comes holds held tells taken packs packs' trace trace' line input mid.world new.world mid.kept new.kept h) halts comes)

module _ {O Q : Type 0} (holds : Q → Bool) (held : Q → ℕ → Pack) (tells : O → Bool) (taken : O → List ℕ) (packs packs' : Q) (trace mid_trace trace' : O) (line : ℕ) (input : Input) (writes : Bool)
    (old mid after : State) (sends : IsAhead tells taken trace mid_trace writes old mid) (again : IsTrue (tells trace') → IsTrue (tells mid_trace)) where
  told : IsTrue (tells trace') → taken mid_trace ++ left writes old.kept ≡ taken trace ++ old.kept
  told t = told_same writes (taken trace) (taken mid_trace) old.kept (sends.took (again t))

  before : IsTrue (tells trace') → IsFront (taken trace) (taken mid_trace)
  before t = sent_begins writes (taken trace) (taken mid_trace) old.kept (sends.took (again t))

  -- it comes to its end,
  pub event_given : (new : State) (given given' : Given) → Comes holds held tells taken packs packs' mid_trace trace' line input mid.world after.world mid.kept after.kept None
      → new ≡ record after { world = all_taken after.world } → given' ≡ gives_all (waiting after.world) given
      → GivesEvent line input
      (record { world = old.world; packs_tell = holds packs; held = held packs; trace_tells = tells trace; taken = taken trace ++ old.kept; given = given })
      (record { world = new.world; packs_tell = holds packs'; held = held packs'; trace_tells = tells trace'; taken = taken trace' ++ new.kept; given = given' })
  event_given new given given' came is gives =
      let comes = comes_from holds held tells taken packs packs' mid_trace trace' line input old mid after (left writes old.kept) None None sends.same refl came in
      let does : Does (record { packs = holds packs'; trace = tells trace' }) (event_acts line input comes.tried old.world) (seen old.world (held packs) (taken mid_trace) (left writes old.kept))
      (seen after.world (held packs') (taken trace') after.kept) = comes.outcome in
      record {
        tried = comes.tried;
        may = comes.may refl;
        reads = comes.reads refl;
        packs = does.does.packs;
        acts = record {
          run = does.does.run;
          world = ap (λ (s : State). s.world) is ∙ ap all_taken does.does.world;
          trace = λ t. ap (λ (s : State). taken trace' ++ s.kept) is ∙ does.text t
              ∙ ap (λ (xs : List ℕ). xs ++ trace_text (lines_of_all old.world (event_acts line input comes.tried old.world))) (told t);
          given = gives ∙ ap (λ (w : World). gives_all (waiting w) given) does.does.world;
        };
      }

  pub event_sent : Comes holds held tells taken packs packs' mid_trace trace' line input mid.world after.world mid.kept after.kept None → IsTrue (tells trace') → IsFront (taken trace) (taken trace')
  event_sent comes t = front_of_front (taken trace) (taken mid_trace) (taken trace') (before t) (comes.outcome.sent t)

  -- or stops at the trace,
  pub event_halts : (given given' : Given) → AllFlip old.world.book.live → IsThere old.world input → (is_move input ≡ false → packs' ≡ packs)
      → (halt : Stop) → halt ≡ stop.Sink → Comes holds held tells taken packs packs' mid_trace trace' line input mid.world after.world mid.kept after.kept (Some halt) → EventTellsFront (taken trace) line input
      (record { world = old.world; packs_tell = holds packs; held = held packs; trace_tells = tells trace; taken = taken trace ++ old.kept; given = given })
      (record { world = after.world; packs_tell = holds packs'; held = held packs'; trace_tells = tells trace'; taken = taken trace'; given = given' })
  event_halts given given' noise there still halt is_halt came =
      let comes = comes_from holds held tells taken packs packs' mid_trace trace' line input old mid after (left writes old.kept) (Some stop.Sink) (Some halt) sends.same (ap (λ (s : Stop). Some s) is_halt) came in
      let halts = comes.outcome in
      record {
        tried = comes.tried;
        there = there;
        noise = noise;
        still = λ is. ap held (still is);
        tells = record {
          done = halts.done;
          left = halts.left;
          all = halts.all;
          run = halts.does.run;
          reads = halts.does.reads;
          packs = halts.does.packs;
          least = λ t. front_of_front (taken trace) (taken mid_trace) (taken trace') (before t) (halts.sent t);
          most = λ t. front_of_front (taken trace') (taken trace' ++ after.kept) ((taken trace ++ old.kept) ++ trace_text (lines_of_all old.world halts.done)) (front_more (taken trace') after.kept)
              (subst (λ (xs : List ℕ). IsFront (taken trace' ++ after.kept) (xs ++ trace_text (lines_of_all old.world halts.done))) (told t) (halts.front t));
        };
      }

  -- or at the packs, and what is kept is sent.
  module _ (faults : O → ℕ) (last : O) (failed : Stop) (rest : SendsRest tells taken faults trace' last writes after.kept failed) (is_writes : writes ≡ writes_by old.world input)
      (noise : AllFlip old.world.book.live) (there : IsThere old.world input) (still : is_move input ≡ false → packs' ≡ packs)
      (halt : Stop) (is_halt : halt ≡ stop.Store) (came : Comes holds held tells taken packs packs' mid_trace trace' line input mid.world after.world mid.kept after.kept (Some halt)) (world : World) (given given' : Given) where
    comes : Comes holds held tells taken packs packs' mid_trace trace' line input old.world after.world (left writes old.kept) after.kept (Some stop.Store)
    comes = comes_from holds held tells taken packs packs' mid_trace trace' line input old mid after (left writes old.kept) (Some stop.Store) (Some halt) sends.same (ap (λ (s : Stop). Some s) is_halt) came

    nothing_told : IsTrue (tells last) → taken trace' ++ after.kept ≡ taken mid_trace ++ left writes old.kept
    nothing_told t = (comes.before refl).text (rest.never_again t)

    still_there : IsTrue (tells last) → taken trace' ≡ taken mid_trace
    still_there t = still_taken (taken mid_trace) (taken trace') (left writes old.kept) after.kept (comes.unsent refl) (nothing_told t)

    same_packs : failed ≡ stop.Sink → IsTrue (holds packs') → held packs' ≡ held packs
    same_packs is t = comes.leaves (sym is_writes ∙ rest.still is) t

    pub event_fails : EventStops failed (taken trace) line input
        (record { world = old.world; packs_tell = holds packs; held = held packs; trace_tells = tells trace; taken = taken trace ++ old.kept; given = given })
        (record { world = world; packs_tell = holds packs'; held = held packs'; trace_tells = tells last; taken = taken last; given = given' })
    event_fails = by failed refl
      where
        by : (halt : Stop) → failed ≡ halt → EventStops halt (taken trace) line input
            (record { world = old.world; packs_tell = holds packs; held = held packs; trace_tells = tells trace; taken = taken trace ++ old.kept; given = given })
            (record { world = world; packs_tell = holds packs'; held = held packs'; trace_tells = tells last; taken = taken last; given = given' })
        by stop.Store is = record {
          move = comes.moves refl;
          packs = (comes.before refl).packs;
          trace = λ t. rest_sent writes (taken trace) (taken mid_trace) (taken trace') (taken last) old.kept after.kept (sends.took (again (rest.never_again t))) (comes.unsent refl) (nothing_told t)
              (rest.all is t);
        }
        by stop.Sink is = record {
          tried = comes.tried;
          there = there;
          noise = noise;
          still = λ none. ap held (still none);
          tells = record {
            done = [];
            left = event_acts line input comes.tried old.world;
            all = refl;
            run = tt;
            reads = λ t. tt;
            packs = λ t. same_packs is t;
            least = λ t. front_of_front (taken trace) (taken trace') (taken last)
                (subst (IsFront (taken trace)) (sym (still_there t)) (before (rest.never_again t))) (begins_taken (taken trace') (taken last) after.kept (rest.front is t));
            most = λ t. subst (IsFront (taken last)) (nothing_told t ∙ told (rest.never_again t) ∙ sym (append-nil (taken trace ++ old.kept)))
                (taken_front (taken trace') (taken last) after.kept (rest.front is t));
          };
        }

-- or not all lines are sent ahead of it.
pub event_unsent : {O Q : Type 0} (holds : Q → Bool) (held : Q → ℕ → Pack) (tells : O → Bool) (taken : O → List ℕ) (packs : Q) (trace trace' : O) (line : ℕ) (input : Input) (writes : Bool)
    (old : State) (world : World) (given given' : Given) (halt : Stop) → halt ≡ stop.Sink → AllFlip old.world.book.live → IsThere old.world input
    → (IsTrue (tells trace') → TakesFront (taken trace) (taken trace') (ahead writes old.kept)) → EventStops halt (taken trace) line input
    (record { world = old.world; packs_tell = holds packs; held = held packs; trace_tells = tells trace; taken = taken trace ++ old.kept; given = given })
    (record { world = world; packs_tell = holds packs; held = held packs; trace_tells = tells trace'; taken = taken trace'; given = given' })
event_unsent holds held tells taken packs trace trace' line input writes old world given given' halt is noise there front =
    subst
    (λ (halt : Stop). EventStops halt (taken trace) line input
    (record { world = old.world; packs_tell = holds packs; held = held packs; trace_tells = tells trace; taken = taken trace ++ old.kept; given = given })
    (record { world = world; packs_tell = holds packs; held = held packs; trace_tells = tells trace'; taken = taken trace'; given = given' })) (sym is)
    (record {
      tried = none_tried;
      there = there;
      noise = noise;
      still = λ none. refl;
      tells = record {
        done = [];
        left = event_acts line input none_tried old.world;
        all = refl;
        run = tt;
        reads = λ t. tt;
        packs = λ t. refl;
        least = λ t. begins_taken (taken trace) (taken trace') (ahead writes old.kept) (front t);
        most = λ t. subst (IsFront (taken trace')) (sym (append-nil (taken trace ++ old.kept))) (ahead_front writes (taken trace) (taken trace') old.kept (front t));
      };
    })
  where
    none_tried : Tried
    none_tried = record { marked = false; verdict = verdict.Clean; bytes = [] }
