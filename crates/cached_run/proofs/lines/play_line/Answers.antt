use Rattle.script_reader.specs.declared.cached.statement.Statement.TheVariants as says
use Rattle.cached_run.proofs.Causes.{on_ok_map}
use Rattle.cached_run.proofs.Playing.{line_plays, may_as, numbered_so, plays_none}
use Rattle.cached_run.proofs.lines.play_line.Goals as goal

pub returns-in-Unit-clause-plays : goal.returns-in-Unit-clause-plays
returns-in-Unit-clause-plays g c = line_plays c.args.line.now c.from-number.result _ c.in-Unit.is c.from-number.ensures (plays_none (g.S.Scene.at c.args.scene.now) c.requires.may)

pub play_request-requires-clause-may : goal.play_request-requires-clause-may
play_request-requires-clause-may g c = record {
  line_is = numbered_so c.args.line.now c.from-number.result (says.Read c.in-Read.asked) c.in-Read.is c.from-number.ensures c.requires.line;
  may = c.requires.may;
  ask = may_as c.args.line.now c.from-number.result (says.Read c.in-Read.asked) c.in-Read.is c.from-number.ensures (g.S.Scene.at c.args.scene.now).spot.driver.world c.requires.ask;
}

pub returns-in-Read-clause-plays : goal.returns-in-Read-clause-plays
returns-in-Read-clause-plays g c = line_plays c.args.line.now c.from-number.result (says.Read c.in-Read.asked) c.in-Read.is c.from-number.ensures c.play_request.ensures.plays

pub play_request-requires-in-Write-clause-may : goal.play_request-requires-in-Write-clause-may
play_request-requires-in-Write-clause-may g c = record {
  line_is = numbered_so c.args.line.now c.from-number.result (says.Write c.in-Write.asked c.in-Write.fill) c.in-Write.is c.from-number.ensures c.requires.line;
  may = c.requires.may;
  ask = may_as c.args.line.now c.from-number.result (says.Write c.in-Write.asked c.in-Write.fill) c.in-Write.is c.from-number.ensures (g.S.Scene.at c.args.scene.now).spot.driver.world c.requires.ask;
}

pub returns-in-Write-clause-plays : goal.returns-in-Write-clause-plays
returns-in-Write-clause-plays g c = line_plays c.args.line.now c.from-number.result (says.Write c.in-Write.asked c.in-Write.fill) c.in-Write.is c.from-number.ensures c.play_request-in-Write.ensures.plays

pub play_sync-requires-clause-line : goal.play_sync-requires-clause-line
play_sync-requires-clause-line g c = numbered_so c.args.line.now c.from-number.result says.Sync c.in-Sync.is c.from-number.ensures c.requires.line

pub returns-in-Sync-clause-plays : goal.returns-in-Sync-clause-plays
returns-in-Sync-clause-plays g c = line_plays c.args.line.now c.from-number.result says.Sync c.in-Sync.is c.from-number.ensures c.play_sync.ensures.plays

pub returns-in-Sync-clause-desk : goal.returns-in-Sync-clause-desk
returns-in-Sync-clause-desk g c = on_ok_map c.play_sync.result (λ may. c.requires.desk) c.play_sync.ensures.plays.may
