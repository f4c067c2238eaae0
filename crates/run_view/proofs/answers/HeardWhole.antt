-- The moments of a legal run, as its script is played and its trace is read.
use Rattle.std.proofs.Common.{◌≡◌, ℕ, ◌<◌, ◌≤◌, Bool, true, false, cond, List, [], ◌∷◌, ◌++◌, map, refl, sym, ap, ◌∙◌, subst, arith}
use Rattle.std.specs.Prelude.{◌==◌, Option, nat_le, nat_lt, ◌&&◌}
use Rattle.std.proofs.lemmas.Bool.Decides.{nat_tests}
use Rattle.drive_pictures.specs.declared.moments.Moment.{Moment as Seen}
use Rattle.pack_geometry.specs.Pack as model
use Rattle.pack_geometry.specs.TableSpelling.{Table}
use Rattle.run_view.proofs.answers.Hears.{seen_of}
use Rattle.run_view.specs.Plays.{plays_of}
use Rattle.run_view.specs.Runs.{run_of, told_of, up_to, beyond}
use Rattle.run_view.specs.Saids.{Said}
use Rattle.script_reader.specs.Meaning.{meaning_of}
use Rattle.script_reader.specs.Stored.{Stored}
use Rattle.trace_reader.specs.RoundTrip.{lines_told}
use Rattle.trace_replay.specs.Moments.{Moment, Played, Told, Deed, Idle, played}
use Rattle.trace_replay.specs.Runs.{IsLegalRun, start_of}
use Rattle.trace_replay.specs.Script.{Numbered}
use Rattle.drive_pictures.specs.Events as events
use Rattle.trace_reader.specs.declared.line.TraceLine.{TraceLine}
use Rattle.trace_reader.specs.declared.line.TraceLine.TheVariants as lines
use Rattle.trace_reader.specs.Lines.{line_number}
use Rattle.trace_reader.specs.RoundTrip as trip
use Rattle.trace_replay.specs.Events.{Act, Wish, is_no_line, NoLine, DueLine, Arrival, SectorLine, Interrupt, Attention, Refusal, IdleLine}
use Rattle.trace_replay.specs.Replay.{Replay, ToldMay, Follows, after_moment, told_after, replay_told, unit_after, act_drained, next_wish}
use Rattle.run_view.proofs.answers.Meant.{seen_input, moment_of, meant}

-- THE RUN: of a legal run of a script that has a line a picture hears, of the script and of the lines that the run tells, just the
-- run's moments.
pub record IsHeardWhole (script : Stored) (ms : List Moment) : Type 0 where
  pub run : map moment_of (run_of (plays_of script) (lines_told ms)) ≡ map seen_of ms

abbrev pub AreHeardWhole : Type 0
AreHeardWhole = (script : Stored) (tables : ℕ → Option Table) (old new : ℕ → model.Pack) (ms : List Moment)
    → IsLegalRun (meaning_of script) tables old new ms → (script.count == 0) ≡ false → IsHeardWhole script ms

-- A LINE OF THE TRACE is of the event at hand, and leaves its number
drained_line : (s : Replay) (b : Bool) (act : Act) → (cond b (record s { event = record s.event { between = true; act = act } }) s).event.line ≡ s.event.line
drained_line s true act = refl
drained_line s false act = refl

pub told_line : (wish : Wish) (s : Replay) (u : ℕ) (d : Deed) → (told_after wish s u d).event.line ≡ s.event.line
told_line (Refusal v i why) s u d = refl
told_line NoLine s u d = due_line s u d
  where
    due_line : (s : Replay) (u : ℕ) (d : Deed) → (told_after NoLine s u d).event.line ≡ s.event.line
    due_line s u d = let t : Replay = replay_told s u d (unit_after s u d) in drained_line t (t.event.drains && (is_no_line (next_wish t) && nat_lt 0 t.outstanding)) (act_drained t)
told_line (DueLine v) s u d = let t : Replay = replay_told s u d (unit_after s u d) in drained_line t (t.event.drains && (is_no_line (next_wish t) && nat_lt 0 t.outstanding)) (act_drained t)
told_line (Arrival v) s u d = let t : Replay = replay_told s u d (unit_after s u d) in drained_line t (t.event.drains && (is_no_line (next_wish t) && nat_lt 0 t.outstanding)) (act_drained t)
told_line (SectorLine v) s u d = let t : Replay = replay_told s u d (unit_after s u d) in drained_line t (t.event.drains && (is_no_line (next_wish t) && nat_lt 0 t.outstanding)) (act_drained t)
told_line (Interrupt v) s u d = let t : Replay = replay_told s u d (unit_after s u d) in drained_line t (t.event.drains && (is_no_line (next_wish t) && nat_lt 0 t.outstanding)) (act_drained t)
told_line (Attention v) s u d = let t : Replay = replay_told s u d (unit_after s u d) in drained_line t (t.event.drains && (is_no_line (next_wish t) && nat_lt 0 t.outstanding)) (act_drained t)
told_line IdleLine s u d = let t : Replay = replay_told s u d (unit_after s u d) in drained_line t (t.event.drains && (is_no_line (next_wish t) && nat_lt 0 t.outstanding)) (act_drained t)

pub told_number : (wish : Wish) (s : Replay) (line u id : ℕ) (d : Deed) → ToldMay wish s line u id d → line ≡ s.event.line
told_number (Refusal v i why) s line u id d may = may.number
told_number wish s line u id d may = may.number

-- WHAT COMES FIRST of the lines that are told is of no line before; and what is played is of one behind
IsFrom : ℕ → List TraceLine → Type 0
IsFrom n [] = Unit {0}
IsFrom n (l ∷ ls) = n ≤ line_number l

IsBeyond : ℕ → List Numbered → Type 0
IsBeyond n [] = Unit {0}
IsBeyond n (i ∷ rest) = n < i.line

pub less_is : (n line : ℕ) → nat_lt n line ≡ true → n < line
less_is n line e = grind (arith, nat_tests, e)

same_least : (n line : ℕ) → line ≡ n → n ≤ line
same_least n line e = omega (arith, e)

lower : (n line m : ℕ) → n < line → line ≤ m → n ≤ m
lower n line m e f = omega (arith, e, f)

lower_from : (n line : ℕ) (ls : List TraceLine) → n < line → IsFrom line ls → IsFrom n ls
unfolding IsFrom
lower_from n line [] e is = tt
lower_from n line (l ∷ ls) e is = lower n line (line_number l) e is

told_from : (s : Replay) (ms : List Moment) → Follows s ms → IsFrom s.event.line (lines_told ms)
unfolding IsFrom
told_from s [] follows = tt
told_from s (Played line input ∷ ms) follows =
    lower_from s.event.line line (lines_told ms) (less_is s.event.line line follows.0.later) (told_from (after_moment s (Played line input)) ms follows.1)
told_from s (Told line u id d ∷ ms) follows = same_least s.event.line line (told_number (next_wish s) s line u id d follows.0)
told_from s (Idle line ∷ ms) follows = same_least s.event.line line follows.0.number

played_beyond : (s : Replay) (ms : List Moment) → Follows s ms → IsBeyond s.event.line (played ms)
unfolding IsBeyond
played_beyond s [] follows = tt
played_beyond s (Played line input ∷ ms) follows = less_is s.event.line line follows.0.later
played_beyond s (Told line u id d ∷ ms) follows =
    subst (λ (n : ℕ). IsBeyond n (played ms)) (told_line (next_wish s) s u d) (played_beyond (after_moment s (Told line u id d)) ms follows.1)
played_beyond s (Idle line ∷ ms) follows = played_beyond (after_moment s (Idle line)) ms follows.1

-- A PLAY AND A LINE in their order
up_to_is : (line n : ℕ) → line ≤ n → nat_le line n ≡ true
up_to_is line n e = grind (arith, nat_tests, e)

not_up_to : (n line : ℕ) → n < line → nat_le line n ≡ false
not_up_to n line e = grind (arith, nat_tests, e)

first_play : (p : Said) (plays : List Said) (ls : List TraceLine) (line : ℕ) → events.line_of p.moment ≡ line → IsFrom line ls → run_of (p ∷ plays) ls ≡ p ∷ run_of plays ls
unfolding IsFrom
first_play p plays [] line e is = refl
first_play p plays (l ∷ ls) line e is =
    ap (λ (b : Bool). cond b (p ∷ up_to (line_number l) plays) [] ++ told_of l ∷ run_of (cond b (beyond (line_number l) plays) (p ∷ plays)) ls)
    (ap (λ (n : ℕ). nat_le n (line_number l)) e ∙ up_to_is line (line_number l) is)

first_told : (l : TraceLine) (ls : List TraceLine) (p : Said) (plays : List Said) (line : ℕ) → events.line_of p.moment ≡ line → line_number l < line → run_of (p ∷ plays) (l ∷ ls) ≡ told_of l ∷ run_of (p ∷ plays) ls
first_told l ls p plays line e later =
    ap (λ (b : Bool). cond b (p ∷ up_to (line_number l) plays) [] ++ told_of l ∷ run_of (cond b (beyond (line_number l) plays) (p ∷ plays)) ls)
    (ap (λ (n : ℕ). nat_le n (line_number l)) e ∙ not_up_to (line_number l) line later)

some_told : (l : TraceLine) (ls : List TraceLine) (plays : List Said) (inputs : List Numbered) → map moment_of plays ≡ map seen_input inputs → IsBeyond (line_number l) inputs
    → run_of plays (l ∷ ls) ≡ told_of l ∷ run_of plays ls
unfolding IsBeyond
some_told l ls [] inputs e is = refl
some_told l ls (p ∷ plays) [] e is = cc
some_told l ls (p ∷ plays) (i ∷ inputs) e is = first_told l ls p plays i.line (ap events.line_of (head_same e)) is
  where
    head_same : moment_of p ∷ map moment_of plays ≡ seen_input i ∷ map seen_input inputs → moment_of p ≡ seen_input i
    head_same e = cc

-- ALL MOMENTS
all_heard : (s : Replay) (ms : List Moment) (plays : List Said) → Follows s ms → map moment_of plays ≡ map seen_input (played ms) → map moment_of (run_of plays (lines_told ms)) ≡ map seen_of ms
all_heard s [] plays follows e = e
all_heard s (Played line input ∷ ms) [] follows e = cc
all_heard s (Played line input ∷ ms) (p ∷ plays) follows e =
    ap (map moment_of) (first_play p plays (lines_told ms) line (ap events.line_of (head_same e)) (told_from (after_moment s (Played line input)) ms follows.1))
    ∙ ap (λ (x : Seen). x ∷ map moment_of (run_of plays (lines_told ms))) (head_same e)
    ∙ ap (λ (l : List Seen). seen_of (Played line input) ∷ l) (all_heard (after_moment s (Played line input)) ms plays follows.1 (tail_same e))
  where
    head_same : moment_of p ∷ map moment_of plays ≡ seen_of (Played line input) ∷ map seen_input (played ms) → moment_of p ≡ seen_of (Played line input)
    head_same e = cc

    tail_same : moment_of p ∷ map moment_of plays ≡ seen_of (Played line input) ∷ map seen_input (played ms) → map moment_of plays ≡ map seen_input (played ms)
    tail_same e = cc
all_heard s (Told line u id d ∷ ms) plays follows e =
    let is : IsBeyond line (played ms) =
    subst (λ (n : ℕ). IsBeyond n (played ms)) (told_line (next_wish s) s u d ∙ sym (told_number (next_wish s) s line u id d follows.0)) (played_beyond (after_moment s (Told line u id d)) ms follows.1) in
    ap (map moment_of) (some_told (lines.Deed line u id (trip.told_of d)) (lines_told ms) plays (played ms) e is)
    ∙ ap (λ (l : List Seen). seen_of (Told line u id d) ∷ l) (all_heard (after_moment s (Told line u id d)) ms plays follows.1 e)
all_heard s (Idle line ∷ ms) plays follows e =
    let is : IsBeyond line (played ms) = subst (λ (n : ℕ). IsBeyond n (played ms)) (sym follows.0.number) (played_beyond (after_moment s (Idle line)) ms follows.1) in
    ap (map moment_of) (some_told (lines.Idle line) (lines_told ms) plays (played ms) e is)
    ∙ ap (λ (l : List Seen). seen_of (Idle line) ∷ l) (all_heard (after_moment s (Idle line)) ms plays follows.1 e)

pub are_heard : AreHeardWhole
are_heard script tables old new ms run some = record {
  run = all_heard (start_of (meaning_of script) tables old) ms (plays_of script) run.trace.follows
      ((meant script (record { first = 0; last = 0; per = 1 })).plays some ∙ ap (map seen_input) (sym run.inputs));
}
