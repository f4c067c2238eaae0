-- What is done is the one legal run of the lines that the source's bytes spell.
use Rattle.std.proofs.Common.{◌≡◌, ℕ, Bool, IsTrue, List, ◌++◌, ap, subst, ◌∙◌}
use Rattle.pack_geometry.specs.Pack.{Pack}
use Rattle.script_reader.specs.Grammar.{Spells}
use Rattle.script_lines.specs.Known.{Numbered}
use Rattle.script_lines.specs.Words.{all_verbs}
use Rattle.script_reader.proofs.ReadingLaws.{one_script}
use Rattle.script_reader.specs.Meaning.{meaning}
use Rattle.trace_replay.specs.Moments.{Moment}
use Rattle.trace_replay.specs.Text.{trace_text}
use Rattle.trace_lines.specs.answers.AnswerText.{out_text}
use Rattle.event_player.specs.Plays.{Plays}
use Rattle.event_player.specs.Passes.{HasOneRun}
use Rattle.event_player.proofs.Passes.{bytes_have_one_run}
use Rattle.script_commands.specs.Headline.{Headline}
use Rattle.script_commands.specs.TheRun.{IsThatRun}

that_run : (lines : List Numbered) (count : ℕ) (old new : ℕ → Pack) (out_tells : Bool) (said said' : List ℕ) (trace_tells : Bool) (taken taken' : List ℕ)
    → HasOneRun (meaning lines count) old → Plays (meaning lines count) old new out_tells said said' trace_tells taken taken'
    → IsThatRun lines count old new out_tells said said' trace_tells taken taken'
that_run lines count old new out_tells said said' trace_tells taken taken' one plays =
    let same = one.is.only plays.tables new plays.moments plays.run in
    record {
      one = one;
      packs = same.2;
      out = λ t. plays.out t ∙ ap (λ (moments : List Moment). said ++ out_text moments) same.1;
      trace = λ t. plays.trace t ∙ ap (λ (moments : List Moment). taken ++ trace_text moments) same.1;
    }

pub done_is_that_run : {source_tells : Bool} {left left_after : List ℕ} {tells : Bool} {old new : ℕ → Pack} {out_tells : Bool} {said said' : List ℕ} {trace_tells : Bool} {taken taken' : List ℕ}
    → Headline source_tells left left_after tells old new out_tells said said' trace_tells taken taken' → (lines : List Numbered) (count : ℕ)
    → IsTrue source_tells → IsTrue tells → Spells all_verbs left lines count
    → IsThatRun lines count old new out_tells said said' trace_tells taken taken'
done_is_that_run {source_tells} {left} {left_after} {tells} {old} {new} {out_tells} {said} {said'} {trace_tells} {taken} {taken'} h lines count source told spelled =
    let same : (h.lines ≡ lines) × (h.count ≡ count) = one_script all_verbs left h.lines lines h.count count (h.spelled source) spelled in
    that_run lines count old new out_tells said said' trace_tells taken taken' (bytes_have_one_run left lines count old spelled)
    (subst (λ (ls : List Numbered). Plays (meaning ls count) old new out_tells said said' trace_tells taken taken') same.0
    (subst (λ (n : ℕ). Plays (meaning h.lines n) old new out_tells said said' trace_tells taken taken') same.1 (h.plays told)))
