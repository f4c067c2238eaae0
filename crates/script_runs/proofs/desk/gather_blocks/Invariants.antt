use Rattle.std.proofs.Common.{◌≡◌, take}
use Rattle.std.specs.Prelude.{Ok}
use Rattle.outside_traits.specs.declared.traits.SinkFailed.{SinkFailed}
use Rattle.outside_traits.specs.Gathers.{Gathers}
use Rattle.trace_lines.specs.answers.AnswerText.{block_texts}
use Rattle.script_runs.proofs.desk.gather_blocks.Given as goal

-- the lines of the blocks below k were gathered
abbrev pub invariant-loop-k : goal.invariant-loop-k
invariant-loop-k g l = record {
  gathers : Gathers {T = Unit {0}} {E = SinkFailed} g.O.Sink.tells g.O.Sink.taken g.O.Sink.faults l.fn.out l.out l.fn.desk.gather l.desk.gather (Ok tt) (block_texts 0 (take l.k l.fn.desk.blocks.items));
  blocks : l.desk.blocks ≡ l.fn.desk.blocks;
}
