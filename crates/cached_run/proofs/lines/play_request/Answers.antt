use Rattle.cached_run.specs.Places.{asked_with}
use Rattle.cached_run.proofs.Playing.{plays_cut, plays_said, plays_unsaid}
use Rattle.cached_run.proofs.lines.play_request.Goals as goal

pub returns-in_err-kind-clause-plays : goal.returns-in_err-kind-clause-plays
returns-in_err-kind-clause-plays g c = plays_cut c.answer.new.blocks.items c.from_residual.result c.in_err-kind.field-0.0 c.from_residual.ensures.1 c.requires.may.ask.unit_is c.in_err-kind.ensures.answers

pub say-requires-clause-desk : goal.say-requires-clause-desk
say-requires-clause-desk g c = record { none = c.requires.desk.none; room = c.in_ok-kind.ensures.room }

pub say-requires-clause-among : goal.say-requires-clause-among
say-requires-clause-among g c = c.in_ok-kind.ensures.among

pub returns-in_err-say-clause-plays : goal.returns-in_err-say-clause-plays
returns-in_err-say-clause-plays g c =
    plays_unsaid c.args.number (asked_with c.args.asked.now c.args.fill) c.answer.new.blocks.items c.in_ok-kind.kind (g.S.Scene.at c.args.scene.now) (g.S.Scene.at c.answer.new.scene) (g.S.Scene.at c.say.new.self) c.requires.may.ask.unit_is c.in_ok-kind.ensures.answers c.in_err-say.ensures.only c.from_residual-in_err-say.result c.in_err-say.field-0.0 c.from_residual-in_err-say.ensures.1 c.in_err-say.ensures.says

pub returns-clause-plays : goal.returns-clause-plays
returns-clause-plays g c = plays_said c.args.number (asked_with c.args.asked.now c.args.fill) c.answer.new.blocks.items c.in_ok-kind.kind (g.S.Scene.at c.args.scene.now) (g.S.Scene.at c.answer.new.scene) (g.S.Scene.at c.say.new.self) c.requires.may.ask.unit_is c.in_ok-kind.ensures.answers c.in_ok-say.ensures.only tt c.in_ok-say.ensures.says

pub returns-clause-desk : goal.returns-clause-desk
returns-clause-desk g c = c.in_ok-say.ensures.desk
