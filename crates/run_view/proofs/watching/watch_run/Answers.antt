use Rattle.std.proofs.Common.{List, ℕ, [], ◌∷◌, ◌++◌, ◌∙◌, map, drop, subst}
use Rattle.script_reader.specs.Stored.{Stored}
use Rattle.trace_reader.specs.Grammar.{Spells}
use Rattle.trace_reader.specs.SoFar.{ReadsOn}
use Rattle.run_view.specs.Saids.{said_of}
use Rattle.run_view.proofs.SeeLaws.{saw_all, saw_line}
use Rattle.run_view.proofs.watching.watch_run.Goals as goal

pub returns-in-Ok-None-clause-ok : goal.returns-in-Ok-None-clause-ok
returns-in-Ok-None-clause-ok g c =
    let ends = rw c.in-Ok-None.field-0-is at c.in-Ok-None.ensures.ok in
    let lines = c.lines.invariant.lines in
    record {
      lines = lines;
      spells = subst (λ (s : Stored). Spells s c.args.trace.now lines) c.lines.invariant.script
          (subst (λ (bytes : List ℕ). Spells c.lines.left.script bytes lines) c.lines.invariant.bytes (ends lines c.lines.invariant.read));
      saw = saw_all g.W.Watcher.step c.args.watcher.now c.lines.watcher c.see_rest.new.watcher (map said_of c.args.plays.now) (drop c.lines.at (map said_of c.args.plays.now)) lines
          c.lines.invariant.saw c.in_ok-see_rest-in-Ok-None.ensures;
    }

pub lines-preserved : goal.lines-preserved
lines-preserved g c =
    let reads : ReadsOn c.lines.left c.next.new.self c.in-Ok-Some.found.line _ = rw c.in-Ok-Some.field-0-is at c.in-Ok-Some.ensures.ok in
    record {
      script = reads.script ∙ c.lines.invariant.script;
      bytes = reads.bytes ∙ c.lines.invariant.bytes;
      lines = c.lines.invariant.lines ++ c.in-Ok-Some.found.line ∷ [];
      read = reads.read c.lines.invariant.lines c.lines.invariant.read;
      saw = saw_line g.W.Watcher.step c.args.watcher.now c.lines.watcher c.see_line.new.watcher (map said_of c.args.plays.now) (drop c.lines.at (map said_of c.args.plays.now))
          (drop c.in_ok-at-in-Ok-Some.at (map said_of c.args.plays.now)) c.lines.invariant.lines c.in-Ok-Some.found.line c.lines.invariant.saw
          c.in_ok-at-in-Ok-Some.ensures.saw c.in_ok-at-in-Ok-Some.ensures.left;
    }
