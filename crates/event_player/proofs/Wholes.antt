-- What a run so far, and a drain, leave of packs.
use Rattle.std.proofs.Common.{◌≡◌, ℕ, ◌&&◌, Bool, true, false, List, Option, refl, sym, ap, ◌∙◌}
use Rattle.std.specs.Prelude.{if◌then◌else◌, nat_lt}
use Rattle.pack_geometry.specs.Pack.{Pack}
use Rattle.pack_geometry.specs.TableSpelling.{Table}
use Rattle.trace_replay.specs.Moments.{Moment, played}
use Rattle.trace_replay.specs.Script.{Script, Line, drives_of}
use Rattle.trace_replay.specs.Events.{Event, is_no_line}
use Rattle.trace_replay.specs.Packs.{Surface}
use Rattle.trace_replay.specs.Replay.{Replay, Follows, after_moments, drained, act_drained, next_wish}
use Rattle.trace_replay.specs.Runs.{start_of}
use Rattle.driver_machine.specs.World.{World}
use Rattle.script_runs.proofs.StopsPasses.{packs_are_left}
use Rattle.script_runs.specs.StopsPasses.{AskBelow, TablesBelow, StayFrom}
use Rattle.script_runs.specs.Ahead.{AreBehind}
use Rattle.event_player.specs.Playing.{HasRun}
use Rattle.event_player.specs.Steps.{HasDrained}

-- A RUN done whole: it follows, and the packs are as it leaves them.
pub record Whole (script : Script) (tables : ℕ → Option Table) (first held : ℕ → Pack) (moments : List Moment) : Type 0 where
  pub follows : Follows (start_of script tables first) moments
  pub behind : AreBehind script tables first held moments
  pub reach : (ends : ℕ → ℕ) → AskBelow ends (drives_of script) (played moments) → TablesBelow ends (drives_of script) tables → StayFrom ends first held

-- A RUN SO FAR, and a drain
pub whole_run : (script : Script) (tables : ℕ → Option Table) (first held : ℕ → Pack) (line : ℕ) (done : List Line) (w : World) (moments : List Moment)
    → HasRun script tables first held line done w moments → Whole script tables first held moments
whole_run script tables first held line done w moments run = record {
  follows = run.so_far.follows;
  behind = record {
    surface = packs_are_left (drives_of script) first held (start_of script tables first) line moments w run.so_far run.kept;
    long = run.long;
  };
  reach = λ ends below tables_below. (run.reach ends below tables_below).packs;
}

drained_surface : (s : Replay) → (drained s).surface ≡ s.surface
drained_surface s = by_test (s.event.drains && (is_no_line (next_wish s) && nat_lt 0 s.outstanding)) (record s.event { between = true; act = act_drained s })
  where
    by_test : (b : Bool) (e : Event) → (if b then record s { event = e } else s).surface ≡ s.surface
    by_test true e = refl
    by_test false e = refl

pub whole_drained : (script : Script) (tables : ℕ → Option Table) (first held : ℕ → Pack) (line : ℕ) (done : List Line) (w : World) (moments : List Moment)
    → HasDrained script tables first held line done w moments → Whole script tables first held moments
whole_drained script tables first held line done w moments run =
    let same : (after_moments (start_of script tables first) moments).surface ≡ run.draining.ends.last.surface =
    ap (λ (s : Replay). s.surface) run.draining.ends.is ∙ drained_surface run.draining.ends.last in
    record {
      follows = run.draining.follows;
      behind = record {
        surface = record {
          sectors = λ unit kind block is less. sym (run.draining.ends.packs.sectors unit block) ∙ ap (λ (s : Surface). s.sector unit block) (sym same);
          beyond = run.kept.packs.beyond;
          marks = run.kept.packs.marks;
          others = run.kept.packs.others;
        };
        long = run.long;
      };
      reach = λ ends below tables_below. (run.reach ends below tables_below).packs;
    }
