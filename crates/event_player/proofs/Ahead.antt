-- The write-ahead rule is kept from call to call.
use Rattle.std.proofs.Common.{◌≡◌, inl, inr, ◌⊎◌, ℕ, Bool, true, false, IsTrue, List, [], ◌∷◌, ◌++◌, Option, take, drop, refl, sym, ap, subst, ◌∙◌, append-nil, append_assoc, take-append-drop}
use Rattle.std.proofs.lemmas.Bool.{false≢true}
use Rattle.std.proofs.lemmas.Grind.{flat_map-append}
use Rattle.pack_geometry.specs.Pack.{Pack}
use Rattle.pack_geometry.specs.TableSpelling.{Table}
use Rattle.outside_traits.specs.Puts.{TakesFront}
use Rattle.trace_replay.specs.Moments.{Moment, Played}
use Rattle.trace_replay.specs.Script.{Script, Input}
use Rattle.trace_replay.specs.Replay.{after_moments}
use Rattle.trace_replay.specs.Runs.{start_of}
use Rattle.trace_replay.specs.Text.{trace_text, moment_text}
use Rattle.driver_laws.specs.answers.Outcome.{IsFront}
use Rattle.driver_laws.proofs.answers.Joined.{front_same, front_of_front}
use Rattle.trace_lines.specs.answers.AnswerText.{said_text, out_text}
use Rattle.script_runs.specs.Writing.{WriteNothing}
use Rattle.script_runs.specs.Ahead.{IsBetween, SaysOneSector, AreBehind, WritesAhead, TellsAhead}
use Rattle.script_runs.proofs.Ahead.{rules_start, nothing_keeps_rule, writes_keep_rule}
use Rattle.event_player.specs.Spots.{Spot, all_for}
use Rattle.event_player.specs.Steps.{Passes, PassesAhead, IsCut, IsAhead}

-- TEXTS one behind the other
text_more : (old mid new first later : List ℕ) → mid ≡ old ++ first → new ≡ mid ++ later → new ≡ old ++ (first ++ later)
text_more old mid new first later is also = also ∙ ap (λ (xs : List ℕ). xs ++ later) is ∙ append_assoc old first later

pub said_more : (old mid new : List ℕ) (first later : List Moment) → mid ≡ old ++ out_text first → new ≡ mid ++ out_text later → new ≡ old ++ out_text (first ++ later)
said_more old mid new first later is also =
    text_more old mid new (out_text first) (out_text later) is also ∙ ap (λ (xs : List ℕ). old ++ xs) (sym (flat_map-append said_text first later))

pub told_more : (old mid new : List ℕ) (first later : List Moment) → mid ≡ old ++ trace_text first → new ≡ mid ++ trace_text later → new ≡ old ++ trace_text (first ++ later)
told_more old mid new first later is also =
    text_more old mid new (trace_text first) (trace_text later) is also ∙ ap (λ (xs : List ℕ). old ++ xs) (sym (flat_map-append moment_text first later))

pub between_same : (text : List ℕ) → IsBetween text text text
between_same text = record { least = front_same text; most = front_same text }

-- a front of a text that was taken
pub between_by : (before after text : List ℕ) → TakesFront before after text → IsBetween before (before ++ text) after
between_by before after text front = record {
  least = record { rest = take front.0 text; whole = front.1 };
  most = record {
    rest = drop front.0 text;
    whole = ap (λ (xs : List ℕ). before ++ xs) (sym (take-append-drop front.0 text)) ∙ sym (append_assoc before (take front.0 text) (drop front.0 text))
        ∙ ap (λ (xs : List ℕ). xs ++ drop front.0 text) (sym front.1);
  };
}

-- WHAT THE SINKS TOOK in a call, behind what they had taken by the rule
module _ (said taken out_from trace_from s t : List ℕ) (sent late more : List Moment) (old new : Spot)
    (before : TellsAhead old.out.tells said out_from old.lines.tells taken trace_from sent late) (passes : Passes out_from trace_from s t old new)
    (said_front : IsTrue new.out.tells → IsFront s (said ++ out_text (sent ++ (late ++ more))))
    (told_is : IsTrue new.lines.tells → t ≡ taken ++ trace_text (sent ++ (late ++ more))) where
  abbrev Tells : Type 0
  Tells = TellsAhead new.out.tells said new.out.took new.lines.tells taken new.lines.took sent (late ++ more)

  none_said : (IsTrue new.out.tells → new.out.took ≡ out_from) → Tells
  none_said same = record {
    told = before.told;
    untold = before.untold ++ more;
    cut = ap (λ (ms : List Moment). ms ++ more) before.cut ∙ append_assoc before.told before.untold more;
    trace = λ tells. record {
      least = front_of_front (taken ++ trace_text (sent ++ before.told)) trace_from new.lines.took (before.trace (passes.again_trace tells)).least (passes.trace tells).least;
      most = subst (IsFront new.lines.took) (told_is tells) (passes.trace tells).most;
    };
    out = λ tells. subst (IsBetween (said ++ out_text sent) (said ++ out_text (sent ++ before.told))) (sym (same tells)) (before.out (passes.again tells));
  }

  all_told : (IsTrue new.lines.tells → new.lines.took ≡ t) → Tells
  all_told whole = record {
    told = late ++ more;
    untold = [];
    cut = sym (append-nil (late ++ more));
    trace = λ tells. subst (IsBetween (taken ++ trace_text (sent ++ (late ++ more))) (taken ++ trace_text (sent ++ (late ++ more)))) (sym (whole tells ∙ told_is tells))
        (between_same (taken ++ trace_text (sent ++ (late ++ more))));
    out = λ tells. record {
      least = front_of_front (said ++ out_text sent) out_from new.out.took (before.out (passes.again tells)).least (passes.out tells).least;
      most = front_of_front new.out.took s (said ++ out_text (sent ++ (late ++ more))) (passes.out tells).most (said_front tells);
    };
  }

  tells_more : Tells
  tells_more = by passes.lines_first
    where
      by : (IsTrue new.out.tells → new.out.took ≡ out_from) ⊎ (IsTrue new.lines.tells → new.lines.took ≡ t) → Tells
      by (inl same) = none_said same
      by (inr whole) = all_told whole

-- all was sent
sent_texts : {script : Script} {tables : ℕ → Option Table} {first : ℕ → Pack} {moments : List Moment} {said taken : List ℕ} {now : Spot}
    → IsAhead script tables first moments said taken now → TellsAhead now.out.tells said (all_for now.out) now.lines.tells taken (all_for now.lines) moments []
sent_texts {moments = moments} {said = said} {taken = taken} {now = now} rule = record {
  told = [];
  untold = [];
  cut = refl;
  trace = λ tells. subst (λ (ms : List Moment). IsBetween (taken ++ trace_text ms) (taken ++ trace_text ms) (all_for now.lines)) (sym (append-nil moments))
      (subst (λ (text : List ℕ). IsBetween text text (all_for now.lines)) (rule.trace tells) (between_same (all_for now.lines)));
  out = λ tells. subst (λ (ms : List Moment). IsBetween (said ++ out_text moments) (said ++ out_text ms) (all_for now.out)) (sym (append-nil moments))
      (subst (λ (text : List ℕ). IsBetween text text (all_for now.out)) (rule.out tells) (between_same (all_for now.out)));
}

-- LINES OF A CALL, behind moments that kept the rule
module _ {script : Script} {tables : ℕ → Option Table} {first : ℕ → Pack} {moments : List Moment} {said taken : List ℕ} {old : Spot}
    (rule : IsAhead script tables first moments said taken old) (writes : Bool) (s t : List ℕ) (lines : List Moment) (new : Spot) (passes : PassesAhead writes s t old new) where
  pub still_said : IsTrue new.out.tells → IsTrue old.out.tells
  still_said tells = by writes refl
    where
      by : (b : Bool) → writes ≡ b → IsTrue old.out.tells
      by true is = (passes.sent is).again tells
      by false is = (passes.kept is).again tells

  pub still_told : IsTrue new.lines.tells → IsTrue old.lines.tells
  still_told tells = by writes refl
    where
      by : (b : Bool) → writes ≡ b → IsTrue old.lines.tells
      by true is = (passes.sent is).again_trace tells
      by false is = (passes.kept is).again_trace tells

  module _ (quiet : writes ≡ false → (new.packs.held ≡ old.packs.held) × WriteNothing (after_moments (start_of script tables first) moments) lines)
      (moves : writes ≡ true → SaysOneSector lines × AreBehind script tables first new.packs.held (moments ++ lines))
      (said_front : IsTrue new.out.tells → IsFront s (all_for old.out ++ out_text lines)) (told_is : IsTrue new.lines.tells → t ≡ all_for old.lines ++ trace_text lines) where
    said_behind : IsTrue new.out.tells → IsFront s (said ++ out_text (moments ++ lines))
    said_behind tells = subst (IsFront s) (said_more said (all_for old.out) (all_for old.out ++ out_text lines) moments lines (rule.out (still_said tells)) refl) (said_front tells)

    told_behind : IsTrue new.lines.tells → t ≡ taken ++ trace_text (moments ++ lines)
    told_behind tells = told_more taken (all_for old.lines) t moments lines (rule.trace (still_told tells)) (told_is tells)

    -- what writes nothing is late with the others,
    still_cut : (new.packs.held ≡ old.packs.held) × WriteNothing (after_moments (start_of script tables first) moments) lines → Passes old.out.took old.lines.took s t old new
        → IsCut script tables first (moments ++ lines) said taken new
    still_cut nothing kept =
        let whole : rule.at.sent ++ (rule.at.late ++ lines) ≡ moments ++ lines =
        sym (append_assoc rule.at.sent rule.at.late lines) ∙ ap (λ (ms : List Moment). ms ++ lines) rule.at.cut in
        record {
          sent = rule.at.sent;
          late = rule.at.late ++ lines;
          cut = whole;
          ahead = subst (λ (held : ℕ → Pack). WritesAhead script tables first held rule.at.sent (rule.at.late ++ lines)) (sym nothing.0)
              (nothing_keeps_rule script tables first old.packs.held rule.at.sent rule.at.late lines rule.at.ahead
              (subst (λ (ms : List Moment). WriteNothing (after_moments (start_of script tables first) ms) lines) (sym rule.at.cut) nothing.1));
          texts = tells_more said taken old.out.took old.lines.took s t rule.at.sent rule.at.late lines old new rule.at.texts kept
              (λ tells. subst (λ (ms : List Moment). IsFront s (said ++ out_text ms)) (sym whole) (said_behind tells))
              (λ tells. told_behind tells ∙ ap (λ (ms : List Moment). taken ++ trace_text ms) (sym whole));
        }

    -- and a move that may write is late alone.
    moved_cut : SaysOneSector lines × AreBehind script tables first new.packs.held (moments ++ lines) → Passes (all_for old.out) (all_for old.lines) s t old new
        → IsCut script tables first (moments ++ lines) said taken new
    moved_cut moved sent = record {
      sent = moments;
      late = lines;
      cut = refl;
      ahead = writes_keep_rule script tables first new.packs.held moments lines moved.0 moved.1;
      texts = tells_more said taken (all_for old.out) (all_for old.lines) s t moments [] lines old new (sent_texts rule) sent said_behind told_behind;
    }

    pub cut_more : IsCut script tables first (moments ++ lines) said taken new
    cut_more = by writes refl
      where
        by : (b : Bool) → writes ≡ b → IsCut script tables first (moments ++ lines) said taken new
        by true is = moved_cut (moves is) (passes.sent is)
        by false is = still_cut (quiet is) (passes.kept is)

-- NOTHING IS DONE, behind moments that kept the rule: where it may write, all was sent, and else packs and texts are as before.
pub nothing_more : {script : Script} {tables : ℕ → Option Table} {first : ℕ → Pack} {moments : List Moment} {said taken : List ℕ} {old : Spot}
    (rule : IsAhead script tables first moments said taken old) (writes : Bool) (new : Spot) → PassesAhead writes (all_for old.out) (all_for old.lines) old new → AreBehind script tables first old.packs.held moments
    → new.packs.held ≡ old.packs.held → (at : IsCut script tables first moments said taken new) × (writes ≡ true → at.late ≡ [])
nothing_more {script} {tables} {first} {moments} {said} {taken} {old} rule true new passes behind same = (
  record {
    sent = moments;
    late = [];
    cut = append-nil moments;
    ahead = rules_start script tables first new.packs.held moments (subst (λ (held : ℕ → Pack). AreBehind script tables first held moments) (sym same) behind);
    texts = tells_more said taken (all_for old.out) (all_for old.lines) (all_for old.out) (all_for old.lines) moments [] [] old new (sent_texts rule) (passes.sent refl)
        (λ tells. subst (IsFront (all_for old.out)) (rule.out ((passes.sent refl).again tells) ∙ ap (λ (ms : List Moment). said ++ out_text ms) (sym (append-nil moments))) (front_same (all_for old.out)))
        (λ tells. rule.trace ((passes.sent refl).again_trace tells) ∙ ap (λ (ms : List Moment). taken ++ trace_text ms) (sym (append-nil moments)));
  },
  λ on. refl,
)
nothing_more {script} {tables} {first} {moments} {said} {taken} {old} rule false new passes behind same = (
  subst (λ (ms : List Moment). IsCut script tables first ms said taken new) (append-nil moments)
      (cut_more rule false (all_for old.out) (all_for old.lines) [] new passes (λ off. (same, tt)) (λ on. absurd (false≢true on))
      (λ tells. subst (IsFront (all_for old.out)) (sym (append-nil (all_for old.out))) (front_same (all_for old.out))) (λ tells. sym (append-nil (all_for old.lines)))),
  λ on. absurd (false≢true on),
)

-- A CALL that said and told all of its text
pub ahead_more : {script : Script} {tables : ℕ → Option Table} {first : ℕ → Pack} {moments : List Moment} {said taken : List ℕ} {old : Spot}
    (rule : IsAhead script tables first moments said taken old) (writes : Bool) (lines : List Moment) (new : Spot) (passes : PassesAhead writes (all_for new.out) (all_for new.lines) old new)
    → (writes ≡ false → (new.packs.held ≡ old.packs.held) × WriteNothing (after_moments (start_of script tables first) moments) lines)
    → (writes ≡ true → SaysOneSector lines × AreBehind script tables first new.packs.held (moments ++ lines))
    → (IsTrue new.out.tells → all_for new.out ≡ all_for old.out ++ out_text lines) → (IsTrue new.lines.tells → all_for new.lines ≡ all_for old.lines ++ trace_text lines)
    → IsAhead script tables first (moments ++ lines) said taken new
ahead_more {script} {tables} {first} {moments} {said} {taken} {old} rule writes lines new passes quiet moves out trace = record {
  at = cut_more rule writes (all_for new.out) (all_for new.lines) lines new passes quiet moves
      (λ tells. subst (IsFront (all_for new.out)) (out tells) (front_same (all_for new.out))) trace;
  out = λ tells. said_more said (all_for old.out) (all_for new.out) moments lines (rule.out (still_said rule writes (all_for new.out) (all_for new.lines) lines new passes tells)) (out tells);
  trace = λ tells. told_more taken (all_for old.lines) (all_for new.lines) moments lines (rule.trace (still_told rule writes (all_for new.out) (all_for new.lines) lines new passes tells)) (trace tells);
}

-- A LINE OF THE SCRIPT is played: what it says is said.
pub record IsOpened (line : ℕ) (input : Input) (old now : Spot) : Type 0 where
  pub passes : Passes old.out.took old.lines.took (all_for now.out) (all_for now.lines) old now
  pub held : now.packs.held ≡ old.packs.held
  pub out : IsTrue now.out.tells → all_for now.out ≡ all_for old.out ++ said_text (Played line input)
  pub trace : IsTrue now.lines.tells → all_for now.lines ≡ all_for old.lines

pub opened_ahead : {script : Script} {tables : ℕ → Option Table} {first : ℕ → Pack} {moments : List Moment} {said taken : List ℕ} {old : Spot}
    (line : ℕ) (input : Input) (now : Spot) → IsAhead script tables first moments said taken old → IsOpened line input old now
    → IsAhead script tables first (moments ++ Played line input ∷ []) said taken now
opened_ahead {old = old} line input now rule opened =
    ahead_more rule false (Played line input ∷ []) now (record { sent = λ is. absurd (false≢true is); kept = λ is. opened.passes })
    (λ is. (opened.held, (refl, tt))) (λ is. absurd (false≢true is))
    (λ tells. opened.out tells ∙ ap (λ (text : List ℕ). all_for old.out ++ text) (sym (append-nil (said_text (Played line input)))))
    (λ tells. opened.trace tells ∙ sym (append-nil (all_for old.lines)))

-- where it says nothing, it may as well not have been played
pub unopened_ahead : {script : Script} {tables : ℕ → Option Table} {first : ℕ → Pack} {moments : List Moment} {said taken : List ℕ} {old : Spot}
    (line : ℕ) (input : Input) (now : Spot) → IsAhead script tables first moments said taken old → said_text (Played line input) ≡ [] → IsOpened line input old now
    → IsAhead script tables first moments said taken now
unopened_ahead {script} {tables} {first} {moments} {said} {taken} {old} line input now rule silent opened =
    subst (λ (ms : List Moment). IsAhead script tables first ms said taken now) (append-nil moments)
    (ahead_more rule false [] now (record { sent = λ is. absurd (false≢true is); kept = λ is. opened.passes })
    (λ is. (opened.held, tt)) (λ is. absurd (false≢true is))
    (λ tells. opened.out tells ∙ ap (λ (text : List ℕ). all_for old.out ++ text) silent)
    (λ tells. opened.trace tells ∙ sym (append-nil (all_for old.lines))))

-- nothing is said of most lines
pub stays_opened : (line : ℕ) (input : Input) (old : Spot) → said_text (Played line input) ≡ [] → (IsTrue old.out.tells → IsFront old.out.took (all_for old.out))
    → (IsTrue old.lines.tells → IsFront old.lines.took (all_for old.lines)) → IsOpened line input old old
stays_opened line input old silent out trace = record {
  passes = record {
    again = λ tells. tells;
    again_trace = λ tells. tells;
    out = λ tells. record { least = front_same old.out.took; most = out tells };
    trace = λ tells. record { least = front_same old.lines.took; most = trace tells };
    lines_first = inl (λ tells. refl);
  };
  held = refl;
  out = λ tells. sym (append-nil (all_for old.out)) ∙ ap (λ (text : List ℕ). all_for old.out ++ text) (sym silent);
  trace = λ tells. refl;
}

-- WHAT WAS TAKEN is a front of what was said and told;
module _ {script : Script} {tables : ℕ → Option Table} {first : ℕ → Pack} {moments : List Moment} {said taken : List ℕ} {now : Spot}
    (rule : IsAhead script tables first moments said taken now) where
  kept_front : IsTrue now.out.tells → IsFront now.out.took (all_for now.out)
  kept_front tells =
      let sent : List Moment = rule.at.sent in
      let told : List Moment = rule.at.texts.told in
      let untold : List Moment = rule.at.texts.untold in
      let cut : moments ≡ (sent ++ told) ++ untold =
      sym rule.at.cut ∙ ap (λ (ms : List Moment). sent ++ ms) rule.at.texts.cut ∙ sym (append_assoc sent told untold) in
      front_of_front now.out.took (said ++ out_text (sent ++ told)) (all_for now.out) (rule.at.texts.out tells).most
      (record {
        rest = out_text untold;
        whole = rule.out tells ∙ ap (λ (ms : List Moment). said ++ out_text ms) cut
            ∙ sym (said_more said (said ++ out_text (sent ++ told)) ((said ++ out_text (sent ++ told)) ++ out_text untold) (sent ++ told) untold refl refl);
      })

  kept_lines_front : IsTrue now.lines.tells → IsFront now.lines.took (all_for now.lines)
  kept_lines_front tells =
      subst (IsFront now.lines.took) (ap (λ (ms : List Moment). taken ++ trace_text ms) rule.at.cut ∙ sym (rule.trace tells)) (rule.at.texts.trace tells).most

  -- so a line of which nothing is said may be played.
  pub rule_opened : (line : ℕ) (input : Input) → said_text (Played line input) ≡ [] → IsOpened line input now now
  rule_opened line input silent = stays_opened line input now silent kept_front kept_lines_front

-- AT THE START nothing was played, and nothing is kept.
pub starts_ahead : (script : Script) (tables : ℕ → Option Table) (first : ℕ → Pack) (now : Spot) → AreBehind script tables first now.packs.held []
    → now.out.took ≡ all_for now.out → now.lines.took ≡ all_for now.lines → IsAhead script tables first [] (all_for now.out) (all_for now.lines) now
starts_ahead script tables first now behind out trace = record {
  at = record {
    sent = [];
    late = [];
    cut = refl;
    ahead = rules_start script tables first now.packs.held [] behind;
    texts = record {
      told = [];
      untold = [];
      cut = refl;
      trace = λ tells. subst (λ (text : List ℕ). IsBetween text text now.lines.took) (trace ∙ sym (append-nil (all_for now.lines))) (between_same now.lines.took);
      out = λ tells. subst (λ (text : List ℕ). IsBetween text text now.out.took) (out ∙ sym (append-nil (all_for now.out))) (between_same now.out.took);
    };
  };
  out = λ tells. sym (append-nil (all_for now.out));
  trace = λ tells. sym (append-nil (all_for now.lines));
}
