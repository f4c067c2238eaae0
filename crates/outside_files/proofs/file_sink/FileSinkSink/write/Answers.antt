use Rattle.std.proofs.Common.{length}
use Rattle.outside_files.proofs.SinkLaws.{some_counted}
use Rattle.outside_files.proofs.file_sink.FileSinkSink.write.Goals as goal

pub returns-clause-some : goal.returns-clause-some
returns-clause-some g c =
    some_counted c.try_write.result c.some_taken-answer.result _ c.counted.result _ _ (length c.args.from.now) c.some_taken-answer.ensures.exact c.some_taken-answer.ensures.count c.counted.ensures.answer
