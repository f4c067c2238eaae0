-- The outcomes of a legal run.
use Rattle.std.proofs.Common.{◌≡◌, ℕ, Bool, true, false, not, [], ◌∷◌, Option, Some, sym, ap, ◌∙◌}
use Rattle.std.specs.Prelude.{◌<◌, ◌^◌, List, ◌++◌, length}
use Rattle.drive_pictures.specs.declared.drives.Drive.{Drive}
use Rattle.drive_pictures.specs.declared.requests.Request.{Request}
use Rattle.drive_pictures.specs.Requests.{answer}
use Rattle.pack_geometry.specs.Pack as model
use Rattle.pack_geometry.specs.TableSpelling.{Table}
use Rattle.trace_replay.specs.requests.Requests.{Answer}
use Rattle.trace_replay.specs.History.{is_refusal, lines_of}
use Rattle.trace_replay.specs.Moments.{Moment, Told, End, Deed}
use Rattle.trace_replay.specs.Replay.{Replay, next_wish, hand_of, ToldMay, LineMay, Follows, after_moments}
use Rattle.trace_replay.specs.Runs.{IsLegalRun, start_of}
use Rattle.trace_replay.specs.Script.{Script, drives_of}
use Rattle.run_view.specs.Answers.{IsWordOf}
use Rattle.run_view.proofs.answers.OwnLines.{HasHeard, IsInCondition, told_all}
use Rattle.drive_pictures.specs.declared.trials.Trial.{Trial}
use Rattle.trace_replay.specs.Conditions.{online_behind, locked_behind}
use Rattle.trace_replay.specs.Events.{Refusal, Wish}
use Rattle.trace_replay.specs.Packs.{surface_of}
use Rattle.trace_replay.proofs.AsSaid.{is_as_said}
use Rattle.trace_replay.proofs.Following.{follow_on}
use Rattle.trace_replay.proofs.Kept.{UnitFits, moments_all, starts, held_by, refused_is, no}
use Rattle.trace_replay.proofs.RunExplained.{run_explained}
use Rattle.trace_replay.proofs.Asking.{run_asks}
use Rattle.run_view.proofs.answers.Wanting.{UnitWants, moments_want, starts_want, some_asked, wrote_in}
use Rattle.run_view.proofs.answers.Hearing.{Facts, behind, wrote_or}
use Rattle.run_view.proofs.answers.Answering.{stands_at, word_of}

-- THE LAW OF OUTCOMES: where a legal run answers a request that it did not refuse, the outcome that a picture draws of its lines is
-- the answer's word, unless it is `stopped`.
abbrev pub AreAnswered : Type 0
AreAnswered = (script : Script) (tables : ℕ → Option Table) (old new : ℕ → model.Pack) (ms ns : List Moment) (line u id : ℕ) (a : Answer)
    → IsLegalRun script tables old new (ms ++ Told line u id (End a) ∷ ns) → is_refusal a ≡ false → length (lines_of u ms) < 2 ^ 64
    → (place : ℕ) (drive : Drive) (request : Request) → HasHeard place (lines_of u ms) drive request → IsInCondition u ms drive
    → IsWordOf (answer drive request) a

-- a line that is no refusal is one that a unit comes to
answer_in : Deed → Answer → Answer
answer_in (End a) other = a
answer_in deed other = other

line_comes : (wish : Wish) (s : Replay) (line u id : ℕ) (a : Answer) → is_refusal a ≡ false → ToldMay wish s line u id (End a) → LineMay s line u id (End a)
unfolding answer_in
line_comes (Refusal v i why) s line u id a kept may = absurd (no (sym kept ∙ ap is_refusal (ap (λ d. answer_in d a) may.answered) ∙ refused_is why))
line_comes wish s line u id a kept may = may

wrote : (o : Option Bool) (start : Bool) (w : Bool) → o ≡ Some w → wrote_or o start ≡ w
wrote o start w e = ap (λ x. wrote_or x start) e

pub are_answered : AreAnswered
are_answered script tables old new ms ns line u id a run kept short place drive request heard is =
    word_of (s.units u) (lines_of u ms) a drive request (record {
      explained = run_explained script tables old new ms ns line u id a run kept;
      stands = stands_at (s.units u).drive (hand_of (s.units u)) (s.units u).stage (lines_of u ms) a fits.fits wants comes.talk;
      kept = kept;
      some = some_asked (s.units u).service.waiting fits.some (held_by (s.units u).service.waiting id comes.service);
      want = ap (λ (t : Trial). t.want) heard.trial ∙ facts.want;
      fails = ap (λ (t : Trial). t.fails) heard.trial ∙ facts.fails;
      marks = ap (λ (t : Trial). t.marks) heard.trial ∙ facts.marks;
      done = heard.done ∙ facts.done;
      verdict = heard.verdict ∙ facts.verdict;
      write = λ w e. heard.write ∙ facts.write ∙ wrote (wrote_in (lines_of u ms)) heard.start.request.write w e;
      offline = is.offline ∙ ap not (sym said.0);
      locked = is.locked ∙ sym said.1;
    })
  where
    s : Replay
    s = after_moments (start_of script tables old) ms

    parts : Follows (start_of script tables old) ms × Follows s (Told line u id (End a) ∷ ns)
    parts = (follow_on (start_of script tables old) ms (Told line u id (End a) ∷ ns)).0 run.trace.follows

    comes : LineMay s line u id (End a)
    comes = line_comes (next_wish s) s line u id a kept parts.1.0

    fits : UnitFits (s.units u) (lines_of u ms)
    fits = moments_all (start_of script tables old) ms (λ x. []) (run_asks script tables old new ms (Told line u id (End a) ∷ ns) run) parts.0 (starts (drives_of script) tables (surface_of old)) u

    wants : UnitWants (s.units u) (lines_of u ms)
    wants = moments_want (start_of script tables old) ms (λ x. []) (run_asks script tables old new ms (Told line u id (End a) ∷ ns) run) parts.0 (starts (drives_of script) tables (surface_of old)) (starts_want (drives_of script) tables (surface_of old)) u

    facts : Facts place (lines_of u ms) heard.start (told_all place heard.start (lines_of u ms))
    facts = behind place heard.start (lines_of u ms) heard.fresh short

    said : ((s.units u).drive.online ≡ online_behind u true ms) × ((s.units u).drive.locked ≡ locked_behind u false ms)
    said = is_as_said (drives_of script) tables (surface_of old) ms u
