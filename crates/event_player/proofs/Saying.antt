-- What the two sinks took of a call, from what was sent ahead of it, what it told, and what was said behind it.
use Rattle.std.proofs.Common.{◌≡◌, ◌⊎◌, inl, inr, ℕ, ◌≤◌, Bool, true, false, IsTrue, List, [], ◌++◌, refl, sym, ap, subst, ◌∙◌, arith, append-nil, append_assoc, None}
use Rattle.std.specs.Prelude.{Result, Ok, Err, OnOk, OnErr, IsErr}
use Rattle.std.proofs.lemmas.Bool.{false≢true}
use Rattle.outside_traits.specs.Causes.{Rose}
use Rattle.outside_traits.specs.Puts.{Puts}
use Rattle.outside_traits.specs.declared.traits.SinkFailed.{SinkFailed}
use Rattle.outside_traits.specs.Gathers.{Gathers}
use Rattle.trace_replay.specs.Moments.{Answered, Idle, Played}
use Rattle.trace_replay.specs.Script.{Input}
use Rattle.trace_replay.specs.Text.{moment_text}
use Rattle.hp_driver.specs.Subsystem.{State}
use Rattle.driver_machine.specs.Events.{next_event}
use Rattle.driver_laws.specs.answers.Outcome.{IsFront}
use Rattle.driver_laws.proofs.answers.Joined.{front_same, front_more, front_of_front}
use Rattle.trace_lines.specs.answers.AnswerText.{said_text}
use Rattle.script_runs.specs.Ahead.{IsBetween}
use Rattle.event_player.specs.Saying.{Side, side, Says}
use Rattle.event_player.specs.Spots.{Spot, SaysText, Sends, IdlesAt, all_for}
use Rattle.event_player.specs.Steps.{Passes, PassesAhead, PlaysDrain}
use Rattle.event_player.proofs.Ahead.{between_by, IsOpened}
use Rattle.event_player.proofs.SaysLaws.{says_nothing}
use Rattle.event_player.proofs.Draining.{drain_nothing}
use Rattle.event_player.proofs.Inputs.{with_said}

err_left : {T E : Type 0} (A B : Type 0) (result : Result T E) → OnErr result A → OnErr result (A ⊎ B)
err_left A B (Ok x) a = tt
err_left A B (Err e) a = inl a

module _ {O T : Type 0} (tells : O → Bool) (took : O → List ℕ) (faults : O → ℕ) (trace_tells : T → Bool) (trace_took : T → List ℕ) (trace_faults : T → ℕ) where
  -- A TEXT IS PUT behind the sending of all lines,
  pub says_sent : {A E : Type 0} (out out' : O) (trace trace' : T) (kept was left lines lines' : List ℕ) (result : Result A E) (text : List ℕ)
      → Puts {T = Unit {0}} {E = SinkFailed} trace_tells trace_took trace_faults trace trace' (Ok tt) lines → lines' ≡ [] → was ≡ kept → Gathers tells took faults out out' was left result text
      → Says (side tells took faults out kept) (side tells took faults out' left) (side trace_tells trace_took trace_faults trace lines) (side trace_tells trace_took trace_faults trace' lines') result text
  says_sent {A = A} {E = E} out out' trace trace' kept was left lines lines' result text puts none same gathers = record {
    again = gathers.never_again;
    again_lines = puts.never_again;
    front = λ t. between_by (took out) (took out') (kept ++ text) (its.front t);
    front_lines = λ t. subst (IsBetween (trace_took trace) (trace_took trace ++ lines)) (sym (puts.bytes t))
        (record { least = front_more (trace_took trace) lines; most = front_same (trace_took trace ++ lines) });
    whole = its.bytes;
    whole_lines = sent result;
    lines_first = inr (λ t. puts.bytes t);
    later = gathers.cause.later;
    later_lines = puts.cause.later;
    failed = err_left (Rose (faults out) (faults out')) (Rose (trace_faults trace) (trace_faults trace')) result gathers.cause.failed;
  }
    where
      its : Gathers tells took faults out out' kept left result text
      its = subst (λ (xs : List ℕ). Gathers tells took faults out out' xs left result text) same gathers

      sent : (r : Result A E) → OnOk r (IsTrue (trace_tells trace') → trace_took trace' ++ lines' ≡ trace_took trace ++ lines)
      sent (Ok x) = λ t. ap (λ (xs : List ℕ). trace_took trace' ++ xs) none ∙ append-nil (trace_took trace') ∙ puts.bytes t
      sent (Err e) = tt

  -- or the lines could not be sent.
  pub says_unsent : {A E : Type 0} (out : O) (trace trace' : T) (kept left lines lines' : List ℕ) (result : Result A E) (text : List ℕ) {e : SinkFailed} → IsErr result
      → Puts {T = Unit {0}} trace_tells trace_took trace_faults trace trace' (Err e) lines
      → Says (side tells took faults out kept) (side tells took faults out left) (side trace_tells trace_took trace_faults trace lines) (side trace_tells trace_took trace_faults trace' lines') result text
  says_unsent out trace trace' kept left lines lines' (Ok x) text is puts = let no_way : ⊥ = cc in absurd no_way
  says_unsent out trace trace' kept left lines lines' (Err failed) text is puts = record {
    again = λ t. t;
    again_lines = puts.never_again;
    front = λ t. record { least = front_same (took out); most = front_more (took out) (kept ++ text) };
    front_lines = λ t. between_by (trace_took trace) (trace_took trace') lines (puts.front t);
    whole = tt;
    whole_lines = tt;
    lines_first = inl (λ t. refl);
    later = least (faults out);
    later_lines = puts.cause.later;
    failed = inr puts.cause.failed;
  }
    where
      least : (n : ℕ) → n ≤ n
      least n = omega arith

-- the driver keeps nothing once it sent its lines
pub driver_sent : {s : Spot} {d : State} → s.driver ≡ d → s ≡ record s { driver = d }
driver_sent {s} is = ap (λ (d : State). record s { driver = d }) is

-- WHAT A CALL TELLS: its lines are put behind those that are kept, and some are sent.
pub record IsTold (lines lines' : Side) (text : List ℕ) : Type 0 where
  pub again : IsTrue lines'.tells → IsTrue lines.tells
  pub sent : IsTrue lines'.tells → IsFront lines.took lines'.took
  pub whole : IsTrue lines'.tells → all_for lines' ≡ all_for lines ++ text

-- WHAT THE SINKS TOOK as a text was said
pub record IsSaid (out out' lines lines' : Side) (text : List ℕ) : Type 0 where
  pub again : IsTrue out'.tells → IsTrue out.tells
  pub again_lines : IsTrue lines'.tells → IsTrue lines.tells
  pub front : IsTrue out'.tells → IsBetween out.took (out.took ++ (out.kept ++ text)) out'.took
  pub front_lines : IsTrue lines'.tells → IsBetween lines.took (lines.took ++ lines.kept) lines'.took
  pub lines_first : (IsTrue out'.tells → out'.took ≡ out.took) ⊎ (IsTrue lines'.tells → lines'.took ≡ lines.took ++ lines.kept)

pub is_said : {A E : Type 0} {out out' lines lines' : Side} {result : Result A E} {text : List ℕ} → Says out out' lines lines' result text → IsSaid out out' lines lines' text
is_said says = record { again = says.again; again_lines = says.again_lines; front = says.front; front_lines = says.front_lines; lines_first = says.lines_first }

-- OF A CALL, told and then said, the sinks took so much,
module _ (old new : Spot) {out lines told : Side} (said_from told_from said_all told_all text line_text : List ℕ)
    (again : IsTrue out.tells → IsTrue old.out.tells) (again_lines : IsTrue lines.tells → IsTrue old.lines.tells)
    (from : IsTrue out.tells → (out.took ≡ said_from) × (out.took ++ (out.kept ++ text) ≡ said_all))
    (from_lines : IsTrue lines.tells → (lines.took ≡ told_from) × (all_for lines ++ line_text ≡ told_all))
    (tells : IsTold lines told line_text) (says : IsSaid out new.out told new.lines text) where
  told_is : IsTrue new.lines.tells → all_for told ≡ told_all
  told_is t = tells.whole (says.again_lines t) ∙ (from_lines (tells.again (says.again_lines t))).1

  call_passes : Passes said_from told_from said_all told_all old new
  call_passes = record {
    again = λ t. again (says.again t);
    again_trace = λ t. again_lines (tells.again (says.again_lines t));
    out = λ t. subst (λ (xs : List ℕ). IsBetween xs said_all new.out.took) (from (says.again t)).0
        (subst (λ (xs : List ℕ). IsBetween out.took xs new.out.took) (from (says.again t)).1 (says.front t));
    trace = λ t. record {
      least = subst (λ (xs : List ℕ). IsFront xs new.lines.took) (from_lines (tells.again (says.again_lines t))).0
          (front_of_front lines.took told.took new.lines.took (tells.sent (says.again_lines t)) (says.front_lines t).least);
      most = subst (IsFront new.lines.took) (told_is t) (says.front_lines t).most;
    };
    lines_first = by says.lines_first;
  }
    where
      by : (IsTrue new.out.tells → new.out.took ≡ out.took) ⊎ (IsTrue new.lines.tells → new.lines.took ≡ all_for told)
          → (IsTrue new.out.tells → new.out.took ≡ said_from) ⊎ (IsTrue new.lines.tells → new.lines.took ≡ told_all)
      by (inl same) = inl (λ t. same t ∙ (from (says.again t)).0)
      by (inr whole) = inr (λ t. whole t ∙ told_is t)

-- and so where text was sent ahead.
module _ {writes : Bool} {old ahead : Spot} {unit : Unit {0}} (sends : Sends {E = SinkFailed} writes (Ok unit) old ahead) where
  pub ahead_said : IsTrue ahead.out.tells → all_for ahead.out ≡ all_for old.out
  ahead_said t = sends.says.whole t ∙ ap (λ (xs : List ℕ). old.out.took ++ xs) (append-nil old.out.kept)

  pub ahead_told : IsTrue ahead.lines.tells → all_for ahead.lines ≡ all_for old.lines
  ahead_told = sends.says.whole_lines

  emptied : (xs ys kept : List ℕ) → xs ++ kept ≡ ys → kept ≡ [] → xs ≡ ys
  emptied xs ys kept whole none = sym (append-nil xs) ∙ ap (λ (l : List ℕ). xs ++ l) (sym none) ∙ whole

  pub sent_out : writes ≡ true → IsTrue ahead.out.tells → ahead.out.took ≡ all_for old.out
  sent_out on t = emptied ahead.out.took (all_for old.out) ahead.out.kept (ahead_said t) (sends.emptied on).0

  pub sent_lines : writes ≡ true → IsTrue ahead.lines.tells → ahead.lines.took ≡ all_for old.lines
  sent_lines on t = emptied ahead.lines.took (all_for old.lines) ahead.lines.kept (ahead_told t) (sends.emptied on).1

  module _ (new : Spot) {told : Side} (text : List ℕ) {line_text : List ℕ} (tells : IsTold ahead.lines told line_text) where
    said_is : IsTrue ahead.out.tells → ahead.out.took ++ (ahead.out.kept ++ text) ≡ all_for old.out ++ text
    said_is t = sym (append_assoc ahead.out.took ahead.out.kept text) ∙ ap (λ (xs : List ℕ). xs ++ text) (ahead_said t)

    told_by : IsTrue ahead.lines.tells → all_for ahead.lines ++ line_text ≡ all_for old.lines ++ line_text
    told_by t = ap (λ (xs : List ℕ). xs ++ line_text) (ahead_told t)

    pub ahead_passes : IsSaid ahead.out new.out told new.lines text → PassesAhead writes (all_for old.out ++ text) (all_for old.lines ++ line_text) old new
    ahead_passes says = record {
      sent = λ on. call_passes old new (all_for old.out) (all_for old.lines) (all_for old.out ++ text) (all_for old.lines ++ line_text) text line_text sends.says.again sends.says.again_lines
          (λ t. (sent_out on t, said_is t)) (λ t. (sent_lines on t, told_by t)) tells says;
      kept = λ off. call_passes old new old.out.took old.lines.took (all_for old.out ++ text) (all_for old.lines ++ line_text) text line_text sends.says.again sends.says.again_lines
          (λ t. (ap (λ (s : Spot). s.out.took) (sends.still off), said_is t)) (λ t. (ap (λ (s : Spot). s.lines.took) (sends.still off), told_by t)) tells says;
    }

    -- all that was said and told behind it
    module _ {A E : Type 0} {x : A} (says : Says {E = E} ahead.out new.out told new.lines (Ok x) text) where
      pub all_said : IsTrue new.out.tells → all_for new.out ≡ all_for old.out ++ text
      all_said t = says.whole t ∙ said_is (says.again t)

      pub all_told : IsTrue new.lines.tells → all_for new.lines ≡ all_for old.lines ++ line_text
      all_told t = says.whole_lines t ∙ tells.whole (says.again_lines t) ∙ told_by (tells.again (says.again_lines t))

-- NOTHING IS SENT AHEAD of what does not write.
pub still_ahead : {F : Type 0} (writes : Bool) (s : Spot) → writes ≡ false → Sends {T = Unit {0}} {E = F} writes (Ok tt) s s
still_ahead writes s off = record { says = says_nothing s.out s.lines; still = λ is. refl; emptied = λ on. absurd (false≢true (sym off ∙ on)); stopped = tt; same = refl }

-- what is passed of the same texts
pub passes_all : {from_out from_lines said told said' told' : List ℕ} {old new : Spot} → (IsTrue new.out.tells → said' ≡ said) → (IsTrue new.lines.tells → told' ≡ told)
    → Passes from_out from_lines said told old new → Passes from_out from_lines said' told' old new
passes_all {from_out} {from_lines} {said} {told} {said'} {told'} {old} {new} said_is told_is passes = record {
  again = passes.again;
  again_trace = passes.again_trace;
  out = λ t. subst (λ (xs : List ℕ). IsBetween from_out xs new.out.took) (sym (said_is t)) (passes.out t);
  trace = λ t. subst (λ (xs : List ℕ). IsBetween from_lines xs new.lines.took) (sym (told_is t)) (passes.trace t);
  lines_first = by passes.lines_first;
}
  where
    by : (IsTrue new.out.tells → new.out.took ≡ from_out) ⊎ (IsTrue new.lines.tells → new.lines.took ≡ told)
        → (IsTrue new.out.tells → new.out.took ≡ from_out) ⊎ (IsTrue new.lines.tells → new.lines.took ≡ told')
    by (inl same) = inl same
    by (inr whole) = inr (λ t. whole t ∙ sym (told_is t))

-- A text is said where nothing is told,
pub said_passes : {old new : Spot} (text : List ℕ) → IsSaid old.out new.out old.lines new.lines text → Passes old.out.took old.lines.took (all_for old.out ++ text) (all_for old.lines) old new
said_passes {old} {new} text says = record {
  again = says.again;
  again_trace = says.again_lines;
  out = λ t. subst (λ (xs : List ℕ). IsBetween old.out.took xs new.out.took) (sym (append_assoc old.out.took old.out.kept text)) (says.front t);
  trace = says.front_lines;
  lines_first = says.lines_first;
}

-- or was to be sent.
pub unsent_passes : {old new : Spot} → IsSaid old.out new.out old.lines new.lines [] → Passes old.out.took old.lines.took (all_for old.out) (all_for old.lines) old new
unsent_passes {old} {new} says = passes_all {old = old} {new = new} (λ t. sym (append-nil (all_for old.out))) (λ t. refl) (said_passes {old = old} {new = new} [] says)

-- A LINE OF THE SCRIPT is said.
pub said_at : {A E : Type 0} {answers : List Answered} {text : List ℕ} {result : Result A E} {old now : Spot} → SaysText answers text result old now → now.driver ≡ old.driver → now ≡ with_said old now
said_at {old = old} {now = now} said driver = said.same ∙ ap (λ (d : State). record old { driver = d; out = now.out; lines = now.lines; tally = now.tally }) driver

pub opened_said : {A E : Type 0} {x : A} (line : ℕ) (input : Input) (old now : Spot) → SaysText {T = A} {E = E} [] (said_text (Played line input)) (Ok x) old now → IsOpened line input old (with_said old now)
opened_said line input old now said = record {
  passes = passes_all {old = old} {new = with_said old now} whole said.says.whole_lines (said_passes {old = old} {new = with_said old now} (said_text (Played line input)) (is_said said.says));
  held = refl;
  out = whole;
  trace = said.says.whole_lines;
}
  where
    whole : IsTrue now.out.tells → all_for now.out ≡ all_for old.out ++ said_text (Played line input)
    whole t = said.says.whole t ∙ sym (append_assoc old.out.took old.out.kept (said_text (Played line input)))

-- A LINE IS TOLD that a drain found nothing, of which nothing is said.
module _ {A E : Type 0} (line : ℕ) (result : Result A E) (old new : Spot) (idles : IdlesAt line result old new) where
  same_out : new.out ≡ old.out
  same_out = ap (λ (s : Spot). s.out) idles.same

  pub idle_passes : Passes old.out.took old.lines.took (all_for old.out) (all_for old.lines ++ moment_text (Idle line)) old new
  idle_passes = record {
    again = subst (λ (o : Side). IsTrue o.tells → IsTrue old.out.tells) (sym same_out) (λ t. t);
    again_trace = idles.gathers.never_again;
    out = λ t. subst (λ (o : Side). IsBetween old.out.took (all_for old.out) o.took) (sym same_out) (record { least = front_same old.out.took; most = front_more old.out.took old.out.kept });
    trace = λ t. subst (λ (xs : List ℕ). IsBetween old.lines.took xs new.lines.took) (sym (append_assoc old.lines.took old.lines.kept (moment_text (Idle line))))
        (between_by old.lines.took new.lines.took (old.lines.kept ++ moment_text (Idle line)) (idles.gathers.front t));
    lines_first = inl (λ t. ap (λ (o : Side). o.took) same_out);
  }

-- A drain found nothing: it is played.
pub idle_drains : {A E : Type 0} {x : A} (line : ℕ) (old new : Spot) → next_event old.driver.world ≡ None → IdlesAt {T = A} {E = E} line (Ok x) old new → PlaysDrain line old new
idle_drains {A} {E} {x} line old new over idles =
    drain_nothing line old new over (ap (λ (s : Spot). s.driver.world) idles.same) (ap (λ (s : Spot). s.packs.held) idles.same) (ap (λ (s : Spot). s.tally) idles.same)
    unsaid told (passes_all {old = old} {new = new} unsaid told (idle_passes line (Ok x) old new idles))
  where
    unsaid : IsTrue new.out.tells → all_for new.out ≡ all_for old.out
    unsaid t = ap (λ (s : Spot). all_for s.out) idles.same

    told : IsTrue new.lines.tells → all_for new.lines ≡ all_for old.lines ++ moment_text (Idle line)
    told t = idles.gathers.bytes t ∙ sym (append_assoc old.lines.took old.lines.kept (moment_text (Idle line)))
