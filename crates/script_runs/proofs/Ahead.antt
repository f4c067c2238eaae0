-- What calls keep of the write-ahead rule, and what it promises of the packs.
use Rattle.std.proofs.Common.{◌≡◌, ℕ, List, [], ◌++◌, Option, refl, sym, ap, subst, ◌∙◌, append_assoc, append-nil, arith}
use Rattle.pack_geometry.specs.Pack.{Pack}
use Rattle.pack_geometry.specs.TableSpelling.{Table}
use Rattle.trace_replay.specs.Script.{Script, drives_of}
use Rattle.trace_replay.specs.Moments.{Moment}
use Rattle.trace_replay.specs.Replay.{Replay, after_moments}
use Rattle.trace_replay.specs.Runs.{start_of}
use Rattle.driver_laws.specs.rules.Beginnings.{IsBegun, BeginningsKeep, PromisesSoFar}
use Rattle.script_runs.specs.Writing.{WriteNothing}
use Rattle.script_runs.specs.Ahead.{AreBehind, SaysOneSector, WritesAhead}
use Rattle.driver_laws.proofs.rules.Quiet.{after_parts}
use Rattle.script_runs.proofs.Writing.{nothing_leaves_packs, nothing_leaves_lengths, nothing_joined, nothing_front}
use Rattle.driver_laws.proofs.rules.Fronts.{begun_front}

-- BEHIND MOMENTS THAT WRITE NOTHING the packs are as before.
pub behind_more : (script : Script) (tables : ℕ → Option Table) (first left : ℕ → Pack) (moments more : List Moment) → AreBehind script tables first left moments
    → WriteNothing (after_moments (start_of script tables first) moments) more → AreBehind script tables first left (moments ++ more)
behind_more script tables first left moments more are none = record {
  surface = nothing_leaves_packs (drives_of script) first left (start_of script tables first) moments more none are.surface;
  long = nothing_leaves_lengths (start_of script tables first) first left moments more none are.long;
}

pub rules_start : (script : Script) (tables : ℕ → Option Table) (first held : ℕ → Pack) (moments : List Moment) → AreBehind script tables first held moments
    → WritesAhead script tables first held moments []
rules_start script tables first held moments are = record {
  move = [];
  quiet = [];
  cut = refl;
  one = record { few = omega arith; silent = refl };
  nothing = tt;
  packs = subst (AreBehind script tables first held) (sym (append-nil moments)) are;
}

whole_is : (sent move quiet late : List Moment) → late ≡ move ++ quiet → (sent ++ move) ++ quiet ≡ sent ++ late
whole_is sent move quiet late cut = append_assoc sent move quiet ∙ ap (λ (ms : List Moment). sent ++ ms) (sym cut)

pub all_sent : (script : Script) (tables : ℕ → Option Table) (first held : ℕ → Pack) (sent late : List Moment) → WritesAhead script tables first held sent late
    → WritesAhead script tables first held (sent ++ late) []
all_sent script tables first held sent late ahead =
    rules_start script tables first held (sent ++ late)
    (subst (AreBehind script tables first held) (whole_is sent ahead.move ahead.quiet late ahead.cut)
    (behind_more script tables first held (sent ++ ahead.move) ahead.quiet ahead.packs ahead.nothing))

pub nothing_keeps_rule : (script : Script) (tables : ℕ → Option Table) (first held : ℕ → Pack) (sent late more : List Moment) → WritesAhead script tables first held sent late
    → WriteNothing (after_moments (start_of script tables first) (sent ++ late)) more → WritesAhead script tables first held sent (late ++ more)
nothing_keeps_rule script tables first held sent late more ahead none =
    let start : Replay = start_of script tables first in
    let behind : after_moments start (sent ++ late) ≡ after_moments (after_moments start (sent ++ ahead.move)) ahead.quiet =
    ap (after_moments start) (sym (whole_is sent ahead.move ahead.quiet late ahead.cut)) ∙ after_parts start (sent ++ ahead.move) ahead.quiet in
    record {
      move = ahead.move;
      quiet = ahead.quiet ++ more;
      cut = ap (λ (ms : List Moment). ms ++ more) ahead.cut ∙ append_assoc ahead.move ahead.quiet more;
      one = ahead.one;
      nothing = nothing_joined (after_moments start (sent ++ ahead.move)) ahead.quiet more ahead.nothing (subst (λ (s : Replay). WriteNothing s more) behind none);
      packs = ahead.packs;
    }

pub writes_keep_rule : (script : Script) (tables : ℕ → Option Table) (first held : ℕ → Pack) (sent move : List Moment) → SaysOneSector move
    → AreBehind script tables first held (sent ++ move) → WritesAhead script tables first held sent move
writes_keep_rule script tables first held sent move one are = record {
  move = move;
  quiet = [];
  cut = sym (append-nil move);
  one = one;
  nothing = tt;
  packs = are;
}

pub rules_hold : BeginningsKeep → (script : Script) (tables : ℕ → Option Table) (first held : ℕ → Pack) (sent late : List Moment) → IsBegun script tables first (sent ++ late)
    → (ahead : WritesAhead script tables first held sent late) → (front rest : List Moment) → ahead.quiet ≡ front ++ rest
    → PromisesSoFar script tables first held (sent ++ (ahead.move ++ front))
rules_hold keep script tables first held sent late begun ahead front rest cut =
    let start : Replay = start_of script tables first in
    let whole : sent ++ late ≡ ((sent ++ ahead.move) ++ front) ++ rest =
    sym (whole_is sent ahead.move ahead.quiet late ahead.cut) ∙ ap (λ (ms : List Moment). (sent ++ ahead.move) ++ ms) cut ∙ sym (append_assoc (sent ++ ahead.move) front rest) in
    let none : WriteNothing (after_moments start (sent ++ ahead.move)) front =
    nothing_front (after_moments start (sent ++ ahead.move)) front rest (subst (WriteNothing (after_moments start (sent ++ ahead.move))) cut ahead.nothing) in
    subst (PromisesSoFar script tables first held) (append_assoc sent ahead.move front)
    (keep script tables first held ((sent ++ ahead.move) ++ front) (begun_front script tables first ((sent ++ ahead.move) ++ front) rest (subst (IsBegun script tables first) whole begun))
    (behind_more script tables first held (sent ++ ahead.move) front ahead.packs none).surface)
