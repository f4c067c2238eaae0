use Rattle.std.proofs.Common.{List, map, fold, ap, ◌∙◌, subst}
use Rattle.run_view.specs.declared.seen.Seen.{Seen}
use Rattle.run_view.specs.Runs as runs
use Rattle.run_view.specs.Saids.{said_of}
use Rattle.run_picture.specs.declared.columns.Column.{Column}
use Rattle.run_view.specs.declared.counter.Counter.{Counter}
use Rattle.run_view.specs.Views.{declared_line, played_text}
use Rattle.run_view.specs.Watched.{Watched, saw}
use Rattle.run_view.proofs.ViewLaws.{count_said, made}
use Rattle.run_view.proofs.view.view_run.Goals as goal

pub returns-clause-ok : goal.returns-clause-ok
returns-clause-ok c =
    let items : List Seen = c.in_ok-plays.plays.items in
    made c.args.script.now c.args.trace.now c.args.first c.args.last _ (map said_of items) c.watch_run.new.watcher c.declare_all.new.watch c.watch_run-2.new.watcher
    c.in_ok-plays.ensures.plays
    (c.grammar_law.ensures.one_trace c.args.script.now c.args.trace.now)
    (subst (λ (old : Counter). runs.Watched count_said old c.watch_run.new.watcher c.args.script.now (map said_of items) c.args.trace.now) c.new-counter.ensures
    (subst (λ (ps : List Seen). runs.Watched count_said c.new-counter.result c.watch_run.new.watcher c.args.script.now (map said_of ps) c.args.trace.now) c.as_slice.ensures.value
    c.in_ok-watch_run.ensures.ok))
    c.events-events.ensures
    c.new-window.ensures
    (c.declare_all.ensures ∙ ap (λ (w : Watched). record w { known = fold declared_line w.known c.args.script.now.lines }) c.new-watch.ensures)
    (subst (λ (ps : List Seen). runs.Watched saw c.declare_all.new.watch c.watch_run-2.new.watcher c.args.script.now (map said_of ps) c.args.trace.now) c.as_slice-2.ensures.value
    c.in_ok-watch_run-2.ensures.ok)
    c.in_ok-run.ensures.run
    c.in_ok-run.ensures.notes
    (c.in_ok-texts.ensures
    ∙ ap (λ (ps : List Seen). map (λ column. played_text (map said_of ps) column.head.line) c.columns.result.now) c.as_slice-3.ensures.value
    ∙ ap (λ (columns : List Column). map (λ column. played_text (map said_of items) column.head.line) columns) c.columns.ensures)
