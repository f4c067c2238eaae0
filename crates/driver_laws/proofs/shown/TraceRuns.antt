-- A run goes on call by call.
use Rattle.std.proofs.Common.{◌≡◌, inl, ℕ, ◌<◌, Bool, true, false, filter, List, [], ◌∷◌, ◌++◌, length, Option, None, refl, sym, ap, ◌∙◌, rules}
use Rattle.std.specs.Prelude.{if◌then◌else◌, nat_lt}
use Rattle.std.proofs.lemmas.Bool.{lt-ltb}
use Rattle.pack_geometry.specs.declared.DriveKind.{DriveKind}
use Rattle.pack_geometry.specs.Pack.{Pack}
use Rattle.pack_geometry.specs.TableSpelling.{Table}
use Rattle.trace_replay.specs.Moments.{Moment, Played}
use Rattle.trace_replay.specs.Packs.{Surface}
use Rattle.trace_replay.specs.Script as script
use Rattle.trace_replay.specs.Script.{Input}
use Rattle.trace_replay.specs.Replay.{Replay, Submission, Refused, Joined, all_units, new_replay, InputMay, Follows, after_moment, after_moments, replay_played, submitted, submission, Legal}
use Rattle.driver_laws.proofs.rules.Conserved.{is_conserved}
use Rattle.driver_machine.specs.World.{World, UnitView, unit_at}
use Rattle.driver_machine.specs.Acts.{Act, Change, Nothing, after, after_all}
use Rattle.driver_machine.specs.Lines.{lines_of_all}
use Rattle.driver_machine.specs.Events.{next_event}
use Rattle.driver_machine.specs.Guards.{Allowed}
use Rattle.driver_machine.specs.Sound.{Sound, AtWork}
use Rattle.driver_machine.proofs.Frame.{effect_same}
use Rattle.driver_machine.specs.Runs.{Run}
use Rattle.driver_laws.proofs.invariant.Next.{unit_there}
pub use Rattle.driver_laws.proofs.invariant.Sound.{sound_after}
use Rattle.driver_laws.specs.answers.Packs.{packs_after_all}
use Rattle.driver_laws.specs.shown.Calls.{Ends, IsLeft, AreThere}
use Rattle.driver_laws.proofs.shown.Telling.{IsTold}
use Rattle.driver_laws.specs.shown.Runs.{IsSoFar, IsDraining}
use Rattle.driver_laws.proofs.shown.DrainsLaws.{drain_idle, call_left, drain_left, none_outstanding}
use Rattle.driver_laws.proofs.rules.Quiet.{after_parts}
use Rattle.trace_replay.proofs.Following.{joined as follows_append}

-- THE UNITS that are set up stay so.
set_declared : (w : World) (u : ℕ) (v : UnitView) (x : ℕ) → u < length w.units → v.declared ≡ (unit_at w u).declared
    → (unit_at (record w { units = Rattle.std.specs.Prelude.slice_set w.units u v }) x).declared ≡ (unit_at w x).declared
set_declared w u v x lt same = search rules

change_declared : (w : World) (input : Input) (x : ℕ) → Sound w → Allowed w (Change input) → (unit_at (after w (Change input)) x).declared ≡ (unit_at w x).declared
change_declared w input x sound may = search (rules, set_declared, unit_there)

act_declared : (w : World) (act : Act) (x : ℕ) → Sound w → Allowed w act → (unit_at (after w act) x).declared ≡ (unit_at w x).declared
act_declared w act x sound allowed = search (rules, set_declared, unit_there, effect_same, change_declared)

all_declared : (w : World) (acts : List Act) (x : ℕ) → Sound w → Run w acts → (unit_at (after_all w acts) x).declared ≡ (unit_at w x).declared
all_declared w [] x sound run = refl
all_declared w (act ∷ acts) x sound run =
    all_declared (after w act) acts x (sound_after w act sound run.0) run.1 ∙ act_declared w act x sound run.0

pub filter_by : (p q : ℕ → Bool) (xs : List ℕ) → ((x : ℕ) → p x ≡ q x) → filter p xs ≡ filter q xs
filter_by p q [] same = refl
filter_by p q (x ∷ xs) same =
    ap (λ (b : Bool). if b then x ∷ filter p xs else filter p xs) (same x)
    ∙ ap (λ (l : List ℕ). if q x then x ∷ l else l) (filter_by p q xs same)

pub there_after : (w : World) (acts : List Act) (s r : Replay) → Sound w → Run w acts → AreThere w s → r.there ≡ s.there → AreThere (after_all w acts) r
there_after w acts s r sound run there same =
    same ∙ there ∙ filter_by (λ u. (unit_at w u).declared) (λ u. (unit_at (after_all w acts) u).declared) all_units
    (λ x. sym (all_declared w acts x sound run))

-- the input of a line leaves them too
submit_there : (s : Replay) (r : _) (m : Submission) → (submitted s r m).there ≡ s.there
submit_there s r (Refused why) = refl
submit_there s r Joined = refl

pub played_there : (s : Replay) (input : Input) → (replay_played s input).there ≡ s.there
played_there s (script.Submit r) = submit_there s r (submission s r)
played_there s other = refl

-- WHAT FOLLOWS behind a run so far goes on with it, between two calls
so_far : (start : Replay) (line : ℕ) (moments more : List Moment) (held : ℕ → Pack) (w : World) → Follows start moments → Follows (after_moments start moments) more
    → IsLeft line held w (after_moments (after_moments start moments) more) → AreThere w (after_moments (after_moments start moments) more)
    → IsSoFar start line (moments ++ more) held w
so_far start line moments more held w before behind left there = search (rules, follows_append, after_parts)

-- and in a drain.
pub draining : (start : Replay) (line : ℕ) (moments more : List Moment) (held : ℕ → Pack) (w : World) → Follows start moments
    → Follows (after_moments start moments) more → Ends line true held w (after_moments (after_moments start moments) more) → AtWork w
    → AreThere w (after_moments (after_moments start moments) more) → IsDraining start line (moments ++ more) held w
draining start line moments more held w before behind ends work there = search (rules, follows_append, after_parts)

module _ (drives : ℕ → Option DriveKind) (tables : ℕ → Option Table) (surface : Surface) where
  abbrev start : Replay
  start = new_replay drives tables surface

  -- A LINE OF THE SCRIPT may be played.
  pub may_play : (line next : ℕ) (moments : List Moment) (held : ℕ → Pack) (w : World) → IsSoFar start line moments held w
      → line < next → InputMay (after_moments start moments) next
  may_play line next moments held w far less = record {
    later = ap (λ (n : ℕ). nat_lt n next) far.left.line_is ∙ lt-ltb line next less;
    over = far.left.stands.over;
    finished = far.left.finished;
    at_work = is_conserved drives tables surface moments far.follows (inl far.left.stands.over);
  }

  -- A CALL that is no drain
  pub call_goes : (line next : ℕ) (input : Input) (moments : List Moment) (held : ℕ → Pack) (w : World) (acts : List Act)
      → IsSoFar start line moments held w → line < next → Run w acts → AtWork (after_all w acts)
      → IsTold next false held w (after_moment (after_moments start moments) (Played next input)) acts
      → IsSoFar start next (moments ++ Played next input ∷ lines_of_all w acts) (packs_after_all w held acts) (after_all w acts)
  call_goes line next input moments held w acts far less run work told =
      let s : Replay = after_moments start moments in
      let now : Replay = after_moments (after_moment s (Played next input)) (lines_of_all w acts) in
      so_far start next moments (Played next input ∷ lines_of_all w acts) (packs_after_all w held acts) (after_all w acts) far.follows
      (may_play line next moments held w far less, told.follows) (call_left next (packs_after_all w held acts) (after_all w acts) now work told.ends)
      (there_after w acts s now far.left.stands.sound run far.there (told.there ∙ played_there s input))

  -- A DRAIN that finds nothing
  pub drain_finds_nothing : (line next : ℕ) (moments : List Moment) (held : ℕ → Pack) (w : World)
      → IsSoFar start line moments held w → line < next → next_event w ≡ None
      → IsSoFar start next (moments ++ Played next script.Drain ∷ lines_of_all w (Nothing next ∷ [])) held w
  drain_finds_nothing line next moments held w far less idle =
      let s : Replay = after_moments start moments in
      let told : IsTold next true held w (after_moment s (Played next script.Drain)) (Nothing next ∷ []) = drain_idle next held w s far.left.stands idle in
      so_far start next moments (Played next script.Drain ∷ lines_of_all w (Nothing next ∷ [])) held w far.follows
      (may_play line next moments held w far less, told.follows)
      (drain_left next held w (after_moments (after_moment s (Played next script.Drain)) (lines_of_all w (Nothing next ∷ []))) far.left.stands.work idle told.ends)
      far.there

  -- and the end of one that found something
  pub drain_ends : (line : ℕ) (moments : List Moment) (held : ℕ → Pack) (w : World)
      → IsDraining start line moments held w → next_event w ≡ None → IsSoFar start line moments held w
  drain_ends line moments held w far idle =
      record { follows = far.follows; left = drain_left line held w (after_moments start moments) far.work idle far.ends; there = far.there }

  -- WHERE NOTHING IS OUTSTANDING the trace is legal.
  pub is_legal : (line : ℕ) (moments : List Moment) (held : ℕ → Pack) (w : World)
      → IsSoFar start line moments held w → next_event w ≡ None → Legal start moments
  is_legal line moments held w far idle = search (rules, none_outstanding, start)
