use Rattle.std.proofs.Common.{refl, sym}
use Rattle.script_reader.specs.cached.Scripts.{IsRefused}
use Rattle.script_reader.specs.cached.Meaning.{meaning_of}
use Rattle.command_parts.specs.Loading.{MeansCached}
use Rattle.script_commands.proofs.PlayLaws.{told_of, told_from, refused_parts, refusal_is, err_is}
use Rattle.script_commands.proofs.ScriptLeft.{cached_is, leaves_long, leaves_played, leaves_refused, leaves_unread, no_cause, sink_cause, source_cause, store_cause}
use Rattle.hpsim_run.proofs.CachedRuns.{one_cached, cached_done, cached_sink, cached_store, cached_before, cached_leaves, cached_long, cached_plays, uncached}
use Rattle.script_commands.proofs.ScriptRuns.{memory_apart, refused_apart, too_long_apart, unread_apart, script_memory, script_refused, script_too_long, script_unread}
use Rattle.hpsim_run.proofs.cached.run_cached.Goals as goal

pub returns-in-Err-Refused-clause-runs : goal.returns-in-Err-Refused-clause-runs
returns-in-Err-Refused-clause-runs g c = uncached refused_apart (script_refused _ one_cached _ _ c.in-Err-Refused.ensures.taken (record {
  line = c.in-Err-Refused.line;
  kind = c.in-Err-Refused.kind;
  none = λ t. (refused_parts MeansCached IsRefused _ _ _ _ c.in-Err-Refused.field-0-is (c.in-Err-Refused.ensures.refused t)).0;
  first = λ t. (refused_parts MeansCached IsRefused _ _ _ _ c.in-Err-Refused.field-0-is (c.in-Err-Refused.ensures.refused t)).1;
  told = told_of c.write_all.result _ _ _ _ _ _ _ _ c.as_bytes.ensures.text (refusal_is _ _ _ _ _ (sym c.in-Err-Refused.line-is) (sym c.in-Err-Refused.kind-is) c.refusal.ensures) c.write_all.ensures.bytes c.write_all.ensures.front c.write_all.ensures.cause;
}))

pub returns-in-Ok-play_cached-clause-runs : goal.returns-in-Ok-play_cached-clause-runs
returns-in-Ok-play_cached-clause-runs g c = cached_done c.args.capacity _ _ c.in-Ok.ensures.taken (record {
  lines = c.in-Ok.script;
  read = λ t. c.in-Ok.ensures.end t;
  spelled = λ t. c.in-Ok.ensures.ok t;
  plays = λ t. c.in-Ok-play_cached.ensures.plays t;
  fits = λ t unit n. c.in-Ok-play_cached.ensures.fits tt t unit n;
})

pub returns-in-Err-TooLong-clause-runs : goal.returns-in-Err-TooLong-clause-runs
returns-in-Err-TooLong-clause-runs g c = uncached too_long_apart (script_too_long _ one_cached _ _ c.in-Ok.ensures.taken
    (record {
      script = meaning_of c.in-Ok.script;
      unit = c.in-Err-TooLong.unit;
      length_is = c.in-Err-TooLong.length;
      means = λ t. record { lines = c.in-Ok.script; spelled = c.in-Ok.ensures.ok t; is = refl };
      is = cached_long _ _ _ _ _ _ c.in-Err-TooLong.field-0-is c.in-Err-TooLong.ensures.too_long;
      told = λ t. told_from g.O.Sink.taken g.O.Sink.faults _ _ _ _ _ (c.in-Err-TooLong.ensures.untouched (cached_before (Unit {0}) _ _ _ c.in-Err-TooLong.field-0-is)).silent
          (told_of c.write_all-in-Err-TooLong.result _ _ _ _ _ _ _ _ c.as_bytes-in-Err-TooLong.ensures.text c.too_long.ensures c.write_all-in-Err-TooLong.ensures.bytes c.write_all-in-Err-TooLong.ensures.front c.write_all-in-Err-TooLong.ensures.cause t);
    })
    (c.in-Err-TooLong.ensures.untouched (cached_before (Unit {0}) _ _ _ c.in-Err-TooLong.field-0-is)).same)

pub returns-in-Err-Sink-clause-runs : goal.returns-in-Err-Sink-clause-runs
returns-in-Err-Sink-clause-runs g c = cached_sink c.args.capacity _ _ c.in-Ok.ensures.taken
    (record {
      lines = c.in-Ok.script;
      read = λ t. c.in-Ok.ensures.end t;
      spelled = λ t. c.in-Ok.ensures.ok t;
      leaves = λ t. cached_leaves _ _ _ _ _ _ _ _ _ c.in-Err-Sink.field-0-is (c.in-Err-Sink.ensures.stopped t);
    })
    (c.in-Err-Sink.ensures.fits (cached_plays (Unit {0}) _ c.in-Err-Sink.field-0-is))
    (c.in-Err-Sink.ensures.causes.sink (err_is c.in-Err-Sink.field-0-is))

pub returns-in-Err-Store-clause-runs : goal.returns-in-Err-Store-clause-runs
returns-in-Err-Store-clause-runs g c = cached_store c.args.capacity _ _ c.in-Ok.ensures.taken
    (record {
      lines = c.in-Ok.script;
      read = λ t. c.in-Ok.ensures.end t;
      spelled = λ t. c.in-Ok.ensures.ok t;
      leaves = λ t. cached_leaves _ _ _ _ _ _ _ _ _ c.in-Err-Store.field-0-is (c.in-Err-Store.ensures.stopped t);
    })
    (c.in-Err-Store.ensures.causes.store (err_is c.in-Err-Store.field-0-is))

pub returns-in-Err-Failed-clause-runs : goal.returns-in-Err-Failed-clause-runs
returns-in-Err-Failed-clause-runs g c = uncached unread_apart (script_unread _ one_cached _ _ c.in-Err-Failed.ensures.taken
    (c.in-Err-Failed.ensures.failed (err_is c.in-Err-Failed.field-0-is)))

pub returns-in-Err-Memory-clause-runs : goal.returns-in-Err-Memory-clause-runs
returns-in-Err-Memory-clause-runs g c = uncached memory_apart (script_memory _ one_cached _ _ c.in-Err-Memory.ensures.taken (λ t. refl))

pub returns-in-Err-Refused-clause-causes : goal.returns-in-Err-Refused-clause-causes
returns-in-Err-Refused-clause-causes g c = no_cause 3 refl

pub returns-in-Err-Refused-clause-leaves : goal.returns-in-Err-Refused-clause-leaves
returns-in-Err-Refused-clause-leaves g c = leaves_refused (cached_is c.args.capacity)

pub returns-in-Ok-play_cached-clause-causes : goal.returns-in-Ok-play_cached-clause-causes
returns-in-Ok-play_cached-clause-causes g c = no_cause 0 refl

pub returns-in-Ok-play_cached-clause-leaves : goal.returns-in-Ok-play_cached-clause-leaves
returns-in-Ok-play_cached-clause-leaves g c = leaves_played (cached_is c.args.capacity) 0 refl refl refl

pub returns-in-Err-TooLong-clause-causes : goal.returns-in-Err-TooLong-clause-causes
returns-in-Err-TooLong-clause-causes g c = no_cause 7 refl

pub returns-in-Err-TooLong-clause-leaves : goal.returns-in-Err-TooLong-clause-leaves
returns-in-Err-TooLong-clause-leaves g c = leaves_long (cached_is c.args.capacity) (c.in-Err-TooLong.ensures.untouched (cached_before (Unit {0}) _ _ _ c.in-Err-TooLong.field-0-is)).untraced

pub returns-in-Err-Sink-clause-causes : goal.returns-in-Err-Sink-clause-causes
returns-in-Err-Sink-clause-causes g c = sink_cause (c.in-Err-Sink.ensures.causes.sink (err_is c.in-Err-Sink.field-0-is))

pub returns-in-Err-Sink-clause-leaves : goal.returns-in-Err-Sink-clause-leaves
returns-in-Err-Sink-clause-leaves g c = leaves_played (cached_is c.args.capacity) 5 refl refl refl

pub returns-in-Err-Store-clause-causes : goal.returns-in-Err-Store-clause-causes
returns-in-Err-Store-clause-causes g c = store_cause (c.in-Err-Store.ensures.causes.store (err_is c.in-Err-Store.field-0-is))

pub returns-in-Err-Store-clause-leaves : goal.returns-in-Err-Store-clause-leaves
returns-in-Err-Store-clause-leaves g c = leaves_played (cached_is c.args.capacity) 6 refl refl refl

pub returns-in-Err-Failed-clause-causes : goal.returns-in-Err-Failed-clause-causes
returns-in-Err-Failed-clause-causes g c = source_cause (c.in-Err-Failed.ensures.failed (err_is c.in-Err-Failed.field-0-is))

pub returns-in-Err-Failed-clause-leaves : goal.returns-in-Err-Failed-clause-leaves
returns-in-Err-Failed-clause-leaves g c = leaves_unread (cached_is c.args.capacity) 4

pub returns-in-Err-Memory-clause-causes : goal.returns-in-Err-Memory-clause-causes
returns-in-Err-Memory-clause-causes g c = no_cause 9 refl

pub returns-in-Err-Memory-clause-leaves : goal.returns-in-Err-Memory-clause-leaves
returns-in-Err-Memory-clause-leaves g c = leaves_unread (cached_is c.args.capacity) 9
