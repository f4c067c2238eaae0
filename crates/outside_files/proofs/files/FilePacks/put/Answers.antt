use Rattle.std.proofs.Common.{sym, ◌∙◌}
use Rattle.outside_files.proofs.FolderLaws.{on_err}
use Rattle.outside_files.proofs.files.FilePacks.put.Goals as goal

pub returns-then-count-gt0-clause-front : goal.returns-then-count-gt0-clause-front
returns-then-count-gt0-clause-front g c = λ before now. record {
  count = c.write_front-count.result.0;
  some = c.if-count-gt0.true;
  few = on_err c.write_front-count.result.1 (sym c.is_err.ensures.value ∙ c.if-is_err.true) c.write_front-count.ensures.few;
  held = c.write_front-count.ensures.bytes;
}
