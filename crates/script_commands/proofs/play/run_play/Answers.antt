use Rattle.std.proofs.Common.{refl, sym}
use Rattle.event_player.specs.PlayFault.TheVariants as faults
use Rattle.script_lines.specs.Words.{all_verbs}
use Rattle.script_reader.specs.Grammar.{IsRefused}
use Rattle.script_reader.specs.Stored.{lines_in}
use Rattle.script_reader.specs.Meaning.{meaning}
use Rattle.command_parts.specs.Loading.{Means}
use Rattle.script_commands.proofs.PlayLaws.{told_of, told_from, refused_parts, refusal_is, long_parts, long_before, sink_plays, left_by, err_is}
use Rattle.script_commands.proofs.PlayRuns.{one_meaning, runs_done, runs_sink, runs_store, unplayed}
use Rattle.script_commands.proofs.ScriptLeft.{leaves_long, leaves_played, leaves_refused, leaves_unread, no_cause, play_is, sink_cause, source_cause, store_cause}
use Rattle.script_commands.proofs.ScriptRuns.{memory_apart, refused_apart, too_long_apart, unread_apart, script_memory, script_refused, script_too_long, script_unread}
use Rattle.script_commands.proofs.SoFar.{keeps}
use Rattle.script_commands.proofs.play.run_play.Goals as goal

pub returns-in-Err-Refused-clause-runs : goal.returns-in-Err-Refused-clause-runs
returns-in-Err-Refused-clause-runs g c = unplayed refused_apart (script_refused _ one_meaning _ _ c.in-Err-Refused.ensures.taken (record {
  line = c.in-Err-Refused.line;
  kind = c.in-Err-Refused.kind;
  none = λ t. (refused_parts Means (IsRefused all_verbs) _ _ _ _ c.in-Err-Refused.field-0-is (c.in-Err-Refused.ensures.refused t)).0;
  first = λ t. (refused_parts Means (IsRefused all_verbs) _ _ _ _ c.in-Err-Refused.field-0-is (c.in-Err-Refused.ensures.refused t)).1;
  told = told_of c.write_all.result _ _ _ _ _ _ _ _ c.as_bytes.ensures.text (refusal_is _ _ _ _ _ (sym c.in-Err-Refused.line-is) (sym c.in-Err-Refused.kind-is) c.refusal.ensures) c.write_all.ensures.bytes c.write_all.ensures.front c.write_all.ensures.cause;
}))

pub returns-in-Ok-play-clause-runs : goal.returns-in-Ok-play-clause-runs
returns-in-Ok-play-clause-runs g c = runs_done _ _ c.in-Ok.ensures.taken (record {
  lines = lines_in c.in-Ok.script;
  count = c.in-Ok.script.count;
  read = λ t. c.in-Ok.ensures.end t;
  spelled = λ t. c.in-Ok.ensures.ok t;
  plays = λ t. (c.in-Ok-play.ensures.tallied t).plays;
  keeps = λ t. c.promises_law.ensures _ _ _ _ _ (c.in-Ok-play.ensures.tallied t).plays.run;
  fits = λ t unit n. c.in-Ok-play.ensures.fits tt t unit n;
})

pub returns-in-Err-TooLong-clause-runs : goal.returns-in-Err-TooLong-clause-runs
returns-in-Err-TooLong-clause-runs g c = unplayed too_long_apart (script_too_long _ one_meaning _ _ c.in-Ok.ensures.taken
    (record {
      script = meaning (lines_in c.in-Ok.script) c.in-Ok.script.count;
      unit = c.in-Err-TooLong.unit;
      length_is = c.in-Err-TooLong.length;
      means = λ t. record { lines = lines_in c.in-Ok.script; count = c.in-Ok.script.count; spelled = c.in-Ok.ensures.ok t; is = refl };
      is = long_parts _ _ _ _ _ _ c.in-Err-TooLong.field-0-is c.in-Err-TooLong.ensures.too_long;
      told = λ t. told_from g.O.Sink.taken g.O.Sink.faults _ _ _ _ _ (c.in-Err-TooLong.ensures.untouched (long_before _ _ _ c.in-Err-TooLong.field-0-is)).silent
          (told_of c.write_all-in-Err-TooLong.result _ _ _ _ _ _ _ _ c.as_bytes-in-Err-TooLong.ensures.text c.too_long.ensures c.write_all-in-Err-TooLong.ensures.bytes c.write_all-in-Err-TooLong.ensures.front c.write_all-in-Err-TooLong.ensures.cause t);
    })
    (c.in-Err-TooLong.ensures.untouched (long_before _ _ _ c.in-Err-TooLong.field-0-is)).same)

pub returns-in-Err-Sink-clause-runs : goal.returns-in-Err-Sink-clause-runs
returns-in-Err-Sink-clause-runs g c = runs_sink _ _ c.in-Ok.ensures.taken
    (record {
      lines = lines_in c.in-Ok.script;
      count = c.in-Ok.script.count;
      read = λ t. c.in-Ok.ensures.end t;
      spelled = λ t. c.in-Ok.ensures.ok t;
      leaves = λ t. left_by _ _ _ _ _ _ _ _ c.in-Err-Sink.field-0-is (c.in-Err-Sink.ensures.stopped t);
      keeps = λ t. keeps c.beginnings_law.ensures.begun c.beginnings_law.ensures.next
          faults.Sink _ _ _ _ _ (c.meaning_law.ensures.read c.in-Ok.script.text c.in-Ok.script c.in-Ok.ensures.spells);
    })
    (c.in-Err-Sink.ensures.fits (sink_plays _ c.in-Err-Sink.field-0-is))
    (c.in-Err-Sink.ensures.causes.sink (err_is c.in-Err-Sink.field-0-is))

pub returns-in-Err-Store-clause-runs : goal.returns-in-Err-Store-clause-runs
returns-in-Err-Store-clause-runs g c = runs_store _ _ c.in-Ok.ensures.taken
    (record {
      lines = lines_in c.in-Ok.script;
      count = c.in-Ok.script.count;
      read = λ t. c.in-Ok.ensures.end t;
      spelled = λ t. c.in-Ok.ensures.ok t;
      leaves = λ t. left_by _ _ _ _ _ _ _ _ c.in-Err-Store.field-0-is (c.in-Err-Store.ensures.stopped t);
      keeps = λ t. keeps c.beginnings_law.ensures.begun c.beginnings_law.ensures.next
          faults.Store _ _ _ _ _ (c.meaning_law.ensures.read c.in-Ok.script.text c.in-Ok.script c.in-Ok.ensures.spells);
    })
    (c.in-Err-Store.ensures.causes.store (err_is c.in-Err-Store.field-0-is))

pub returns-in-Err-Failed-clause-runs : goal.returns-in-Err-Failed-clause-runs
returns-in-Err-Failed-clause-runs g c = unplayed unread_apart (script_unread _ one_meaning _ _ c.in-Err-Failed.ensures.taken
    (c.in-Err-Failed.ensures.failed (err_is c.in-Err-Failed.field-0-is)))

pub returns-in-Err-Memory-clause-runs : goal.returns-in-Err-Memory-clause-runs
returns-in-Err-Memory-clause-runs g c = unplayed memory_apart (script_memory _ one_meaning _ _ c.in-Err-Memory.ensures.taken (λ t. refl))

pub returns-in-Err-Refused-clause-causes : goal.returns-in-Err-Refused-clause-causes
returns-in-Err-Refused-clause-causes g c = no_cause 3 refl

pub returns-in-Err-Refused-clause-leaves : goal.returns-in-Err-Refused-clause-leaves
returns-in-Err-Refused-clause-leaves g c = leaves_refused play_is

pub returns-in-Ok-play-clause-causes : goal.returns-in-Ok-play-clause-causes
returns-in-Ok-play-clause-causes g c = no_cause 0 refl

pub returns-in-Ok-play-clause-leaves : goal.returns-in-Ok-play-clause-leaves
returns-in-Ok-play-clause-leaves g c = leaves_played play_is 0 refl refl refl

pub returns-in-Err-TooLong-clause-causes : goal.returns-in-Err-TooLong-clause-causes
returns-in-Err-TooLong-clause-causes g c = no_cause 7 refl

pub returns-in-Err-TooLong-clause-leaves : goal.returns-in-Err-TooLong-clause-leaves
returns-in-Err-TooLong-clause-leaves g c = leaves_long play_is (c.in-Err-TooLong.ensures.untouched (long_before _ _ _ c.in-Err-TooLong.field-0-is)).untraced

pub returns-in-Err-Sink-clause-causes : goal.returns-in-Err-Sink-clause-causes
returns-in-Err-Sink-clause-causes g c = sink_cause (c.in-Err-Sink.ensures.causes.sink (err_is c.in-Err-Sink.field-0-is))

pub returns-in-Err-Sink-clause-leaves : goal.returns-in-Err-Sink-clause-leaves
returns-in-Err-Sink-clause-leaves g c = leaves_played play_is 5 refl refl refl

pub returns-in-Err-Store-clause-causes : goal.returns-in-Err-Store-clause-causes
returns-in-Err-Store-clause-causes g c = store_cause (c.in-Err-Store.ensures.causes.store (err_is c.in-Err-Store.field-0-is))

pub returns-in-Err-Store-clause-leaves : goal.returns-in-Err-Store-clause-leaves
returns-in-Err-Store-clause-leaves g c = leaves_played play_is 6 refl refl refl

pub returns-in-Err-Failed-clause-causes : goal.returns-in-Err-Failed-clause-causes
returns-in-Err-Failed-clause-causes g c = source_cause (c.in-Err-Failed.ensures.failed (err_is c.in-Err-Failed.field-0-is))

pub returns-in-Err-Failed-clause-leaves : goal.returns-in-Err-Failed-clause-leaves
returns-in-Err-Failed-clause-leaves g c = leaves_unread play_is 4

pub returns-in-Err-Memory-clause-causes : goal.returns-in-Err-Memory-clause-causes
returns-in-Err-Memory-clause-causes g c = no_cause 9 refl

pub returns-in-Err-Memory-clause-leaves : goal.returns-in-Err-Memory-clause-leaves
returns-in-Err-Memory-clause-leaves g c = leaves_unread play_is 9
