use Rattle.std.proofs.Common.{refl, subst, sym}
use Rattle.command_parts.specs.Outside.{Outside, outside}
use Rattle.raw_command.specs.Endings.{ReadEnds}
use Rattle.raw_command.specs.Faults.{IsTransferCode, code_of}
use Rattle.command_parts.specs.declared.words.Transfer.{Transfer}
use Rattle.raw_command.proofs.RunLaws.{read_causes, read_is, read_status, write_causes, write_code, write_is, write_reads}
use Rattle.raw_command.proofs.run.run_transfer.Goals as goal

pub returns-in-Read : goal.returns-in-Read
returns-in-Read g c =
    let t = c.in-Read.target in
    let answer = c.run_read.result in
    let old : Outside = outside g.S.Source.tells g.S.Source.left g.S.Source.faults g.P.Packs.tells g.P.Packs.held g.P.Packs.faults g.P.Packs.failed_at g.O.Sink.tells g.O.Sink.taken g.O.Sink.faults g.T.Sink.tells g.T.Sink.taken g.T.Sink.faults c.args.source.now c.args.packs.now c.args.out.now c.args.trace.now in
    let new : Outside = outside g.S.Source.tells g.S.Source.left g.S.Source.faults g.P.Packs.tells g.P.Packs.held g.P.Packs.faults g.P.Packs.failed_at g.O.Sink.tells g.O.Sink.taken g.O.Sink.faults g.T.Sink.tells g.T.Sink.taken g.T.Sink.faults c.args.source.now c.run_read.new.packs c.run_read.new.out c.run_read.new.trace in
    let ends : ReadEnds t c.in-Read.size answer old new = c.run_read.ensures.ends (g.S.Source.tells c.args.source.now) (g.S.Source.left c.args.source.now) (g.S.Source.faults c.args.source.now) in
    record {
      ends = read_is c.args.transfer t c.in-Read.size answer old new c.in-Read.is ends;
      statuses = subst (λ (transfer : Transfer). IsTransferCode transfer (code_of answer)) (sym c.in-Read.is) (read_status t c.in-Read.size answer old new ends);
      causes = read_causes t c.in-Read.size answer {old = old} {new = new} ends;
      stays = c.run_read.ensures.stays;
      unread = λ none. refl;
    }

pub returns-in-Write : goal.returns-in-Write
returns-in-Write g c =
    let w = c.in-Write.writing in
    let answer = c.run_write.result in
    let old : Outside = outside g.S.Source.tells g.S.Source.left g.S.Source.faults g.P.Packs.tells g.P.Packs.held g.P.Packs.faults g.P.Packs.failed_at g.O.Sink.tells g.O.Sink.taken g.O.Sink.faults g.T.Sink.tells g.T.Sink.taken g.T.Sink.faults c.args.source.now c.args.packs.now c.args.out.now c.args.trace.now in
    let new : Outside = outside g.S.Source.tells g.S.Source.left g.S.Source.faults g.P.Packs.tells g.P.Packs.held g.P.Packs.faults g.P.Packs.failed_at g.O.Sink.tells g.O.Sink.taken g.O.Sink.faults g.T.Sink.tells g.T.Sink.taken g.T.Sink.faults c.run_write.new.source c.run_write.new.packs c.run_write.new.out c.run_write.new.trace in
    record {
      ends = write_is c.args.transfer w answer old new c.in-Write.is c.run_write.ensures.ends c.run_write.ensures.taken;
      statuses = write_code c.args.transfer w answer c.in-Write.is;
      causes = write_causes w answer {old = old} {new = new} c.run_write.ensures.ends;
      stays = c.run_write.ensures.stays;
      unread = λ none. absurd (write_reads c.args.transfer w c.in-Write.is none);
    }
