-- A refusal is answered directly behind the line that submits its request.
use Rattle.std.proofs.Common.{◌≡◌, inl, inr, ◌⊎◌, ℕ, ◌==◌, true, false, List, [], ◌∷◌, ◌++◌, refl, sym, ap, ◌∙◌, subst, rules}
use Rattle.std.proofs.lemmas.Bool.{false≢true}
use Rattle.hardware_table.specs.Drive.{is_positioning}
use Rattle.trace_replay.specs.requests.Requests.{Request, Answer, Rejection, rejection_answer}
use Rattle.trace_replay.specs.Script.{Input, Submit, ArriveAt, MoveAt, AttendTo, Drain, drives_of, Script}
use Rattle.trace_replay.specs.Moments.{Deed, End, Moment, Played, Told, Idle}
use Rattle.trace_replay.specs.Adapters.{adapter_of, can_move}
use Rattle.trace_replay.specs.Conversation.{goes_on}
use Rattle.trace_replay.specs.Events.{Arriving, Trying, Serving, NothingToDo, Wish, Refusal, can_attend, serving}
use Rattle.trace_replay.specs.History.{is_refusal}
use Rattle.trace_replay.specs.Replay.{Replay, next_wish, hand_of, LineMay, ToldMay, InputMay, MayCome, Follows, Submission, Refused, Joined, submission, submitted, act_submitted, act_drained, act_done, after_moment, after_moments, told_after}
use Rattle.trace_replay.specs.Runs.{start_of, IsLegalRun}
use Rattle.trace_replay.proofs.Following.{follow_on}
use Rattle.trace_replay.proofs.Kept.{end_kept}
use Rattle.driver_laws.specs.rules.Stands.{Setup, start_over}
use Rattle.driver_laws.specs.rules.Refusals.{IsRefusedBehind}
use Rattle.driver_laws.proofs.rules.MachineUnits.{Keeps}
use Rattle.driver_laws.proofs.rules.Keeping.{IsCalm, calm_either, calm_drain}
use Rattle.driver_laws.proofs.rules.Kept.{start_kept, all_quiet}
use Rattle.driver_laws.proofs.rules.Lines.{line_eases}
use Rattle.driver_laws.proofs.rules.Steps.{beginning_kept}
use Rattle.driver_laws.proofs.rules.MachineRuns.{run_given}
use Rattle.driver_laws.proofs.rules.KnownScript.{last_of}
use Rattle.driver_laws.proofs.rules.MomentSteps.{AreGiven}
use Rattle.std.specs.Prelude.{Option}
use Rattle.pack_geometry.specs.Pack as model
use Rattle.pack_geometry.specs.TableSpelling.{Table}

-- ---- what is calm owes no refusal
nothing_owed : (s : Replay) (u i : ℕ) (why : Rejection) → IsCalm s.event.act → next_wish s ≡ Refusal u i why → ⊥
nothing_owed s u i why calm is = search rules

-- a line of the trace leaves it so
told_calm : (setup : Setup) (wish : Wish) (s : Replay) (line unit id : ℕ) (deed : Deed) → Keeps setup s → ToldMay wish s line unit id deed → IsCalm (told_after wish s unit deed).event.act
told_calm setup (Refusal u i why) s line unit id deed k may = tt
told_calm setup other s line unit id deed k may = (line_eases setup s line unit id deed k may).calm

-- ---- what a refusal that is due comes from
record ComesFrom (s : Replay) (u i : ℕ) (why : Rejection) (moment : Moment) : Type 0 where
  request : Request
  line : ℕ
  how : Rejection
  unit_is : request.unit ≡ u
  id_is : request.id ≡ i
  how_is : how ≡ why
  is : moment ≡ Played line (Submit request)
  met : submission s request ≡ Refused how

submitted_from : (s : Replay) (line u i : ℕ) (why : Rejection) (r : Request) (met : Submission) → submission s r ≡ met → goes_on (s.units r.unit).stage ≡ false
    → next_wish (record (submitted s r met) { event = record { line = line; drains = false; between = false; act = act_submitted r met; speaker = r.unit } }) ≡ Refusal u i why
    → ComesFrom s u i why (Played line (Submit r))
submitted_from s line u i why r (Refused how) met quiet is = search rules
submitted_from s line u i why r Joined met quiet is =
    absurd (nothing_owed (record (submitted s r Joined) { event = record { line = line; drains = false; between = false; act = Serving (adapter_of r.unit) false []; speaker = r.unit } }) u i why tt is)

played_from : (setup : Setup) (s : Replay) (line u i : ℕ) (why : Rejection) (input : Input) → Keeps setup s → InputMay s line → next_wish (after_moment s (Played line input)) ≡ Refusal u i why
    → ComesFrom s u i why (Played line input)
played_from setup s line u i why (Submit r) k may is = submitted_from s line u i why r (submission s r) refl (all_quiet setup s line k may r.unit) is
played_from setup s line u i why (ArriveAt x) k may is =
    absurd (nothing_owed (after_moment s (Played line (ArriveAt x))) u i why (calm_either (is_positioning (s.units x).drive.work) (Arriving x) NothingToDo tt tt) is)
played_from setup s line u i why (MoveAt a) k may is = absurd (nothing_owed (after_moment s (Played line (MoveAt a))) u i why (calm_either (can_move (s.adapters a).state) (Trying a) NothingToDo tt tt) is)
played_from setup s line u i why (AttendTo a) k may is =
    absurd (nothing_owed (after_moment s (Played line (AttendTo a))) u i why (calm_either (can_attend (s.adapters a).state) (serving a (s.adapters a).state) NothingToDo tt tt) is)
played_from setup s line u i why Drain k may is =
    absurd (nothing_owed (after_moment s (Played line Drain)) u i why (calm_either (s.outstanding == 0) NothingToDo (act_drained s) tt (calm_drain s)) is)
played_from setup s line u i why other k may is = absurd (nothing_owed (after_moment s (Played line other)) u i why tt is)

comes_from : (setup : Setup) (s : Replay) (u i : ℕ) (why : Rejection) (moment : Moment) → Keeps setup s → MayCome s moment → next_wish (after_moment s moment) ≡ Refusal u i why → ComesFrom s u i why moment
comes_from setup s u i why (Played line input) k may is = played_from setup s line u i why input k may is
comes_from setup s u i why (Told line unit id deed) k may is =
    absurd (nothing_owed (after_moment s (Told line unit id deed)) u i why (told_calm setup (next_wish s) s line unit id deed k may) is)
comes_from setup s u i why (Idle line) k may is = absurd (nothing_owed (act_done s) u i why tt is)

-- ---- an end line that is a refusal is due as one
record IsDue (wish : Wish) (unit id : ℕ) (answer : Answer) : Type 0 where
  u : ℕ
  i : ℕ
  why : Rejection
  is : wish ≡ Refusal u i why
  unit_is : unit ≡ u
  id_is : id ≡ i
  answer_is : answer ≡ rejection_answer why

line_ends : (setup : Setup) (s : Replay) (line unit id : ℕ) (answer : Answer) → Keeps setup s → LineMay s line unit id (End answer) → is_refusal answer ≡ true → ⊥
line_ends setup s line unit id answer k may refused =
    false≢true (sym (end_kept (s.units unit).drive (hand_of (s.units unit)) (s.units unit).stage (End answer) (k.lines unit) may.talk (k.fits unit).fits) ∙ refused)

is_due : (setup : Setup) (wish : Wish) (s : Replay) (line unit id : ℕ) (answer : Answer) → Keeps setup s → ToldMay wish s line unit id (End answer) → is_refusal answer ≡ true → IsDue wish unit id answer
is_due setup (Refusal u i why) s line unit id answer k may refused =
    record { u = u; i = i; why = why; is = refl; unit_is = may.same_unit; id_is = may.same_id; answer_is = cc may.answered }
is_due setup other s line unit id answer k may refused = absurd (line_ends setup s line unit id answer k may refused)

-- ---- the last of some moments
record Ends (ms : List Moment) : Type 0 where
  ahead : List Moment
  last : Moment
  is : ms ≡ ahead ++ last ∷ []

ends : (ms : List Moment) → (ms ≡ []) ⊎ Ends ms
ends [] = inl refl
ends (m ∷ ms) = at (ends ms)
  where
    at : (ms ≡ []) ⊎ Ends ms → (m ∷ ms ≡ []) ⊎ Ends (m ∷ ms)
    at (inl none) = inr (record { ahead = []; last = m; is = ap (λ z. m ∷ z) none })
    at (inr e) = inr (record { ahead = m ∷ e.ahead; last = e.last; is = ap (λ z. m ∷ z) e.is })

given_front : (setup : Setup) (ms ns : List Moment) → AreGiven setup.drives (ms ++ ns) → AreGiven setup.drives ms
given_front setup [] ns given = tt
given_front setup (m ∷ ms) ns given = (given.0, given_front setup ms ns given.1)

-- ---- behind some moments
refused_behind : (setup : Setup) (ms : List Moment) (line unit id : ℕ) (answer : Answer) → AreGiven setup.drives ms → Follows (start_over setup) ms
    → ToldMay (next_wish (after_moments (start_over setup) ms)) (after_moments (start_over setup) ms) line unit id (End answer) → is_refusal answer ≡ true
    → IsRefusedBehind (start_over setup) unit id answer ms
refused_behind setup ms line unit id answer given follows may refused = at (ends ms)
  where
    due : IsDue (next_wish (after_moments (start_over setup) ms)) unit id answer
    due = is_due setup (next_wish (after_moments (start_over setup) ms)) (after_moments (start_over setup) ms) line unit id answer (beginning_kept setup (start_over setup) ms (start_kept setup) given follows) may refused

    at : (ms ≡ []) ⊎ Ends ms → IsRefusedBehind (start_over setup) unit id answer ms
    at (inl none) = absurd (nothing_owed (start_over setup) due.u due.i due.why tt (sym (ap (λ z. next_wish (after_moments (start_over setup) z)) none) ∙ due.is))
    at (inr e) = record {
      request = from.request;
      line = from.line;
      ahead = e.ahead;
      why = from.how;
      unit_is = from.unit_is ∙ sym due.unit_is;
      id_is = from.id_is ∙ sym due.id_is;
      last = e.is ∙ ap (λ z. e.ahead ++ z ∷ []) from.is;
      met = from.met;
      answer_is = due.answer_is ∙ ap rejection_answer (sym from.how_is);
    }
      where
        parts : Follows (start_over setup) e.ahead × Follows (after_moments (start_over setup) e.ahead) (e.last ∷ [])
        parts = (follow_on (start_over setup) e.ahead (e.last ∷ [])).0 (subst (Follows (start_over setup)) e.is follows)

        from : ComesFrom (after_moments (start_over setup) e.ahead) due.u due.i due.why e.last
        from = comes_from setup (after_moments (start_over setup) e.ahead) due.u due.i due.why e.last
            (beginning_kept setup (start_over setup) e.ahead (start_kept setup) (given_front setup e.ahead (e.last ∷ []) (subst (AreGiven setup.drives) e.is given)) parts.0) parts.1.0
            (sym (ap next_wish (ap (after_moments (start_over setup)) e.is ∙ last_of (start_over setup) e.ahead e.last)) ∙ due.is)

-- each answer of a legal run that is a refusal
abbrev pub RefusalsAreMet : Type 0
RefusalsAreMet = (script : Script) (tables : ℕ → Option Table) (old new : ℕ → model.Pack) (ms ns : List Moment) (line unit id : ℕ) (answer : Answer)
    → IsLegalRun script tables old new (ms ++ Told line unit id (End answer) ∷ ns) → is_refusal answer ≡ true
    → IsRefusedBehind (start_of script tables old) unit id answer ms

pub refusals_are_met : RefusalsAreMet
refusals_are_met script tables old new ms ns line unit id answer run refused =
    refused_behind (record { drives = drives_of script; tables = tables; packs = old }) ms line unit id answer
    (given_front (record { drives = drives_of script; tables = tables; packs = old }) ms (Told line unit id (End answer) ∷ ns) (run_given script tables old new (ms ++ Told line unit id (End answer) ∷ ns) run))
    parts.0 parts.1.0 refused
  where
    parts : Follows (start_of script tables old) ms × Follows (after_moments (start_of script tables old) ms) (Told line unit id (End answer) ∷ ns)
    parts = (follow_on (start_of script tables old) ms (Told line unit id (End answer) ∷ ns)).0 run.trace.follows
