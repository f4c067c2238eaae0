use Rattle.std.proofs.Common.{◌<◌, List, map, length}
use Rattle.run_view.specs.Saids.{Said, said_of}
use Rattle.run_view.proofs.SeeLaws.{inside_all, saw_rest_more}
use Rattle.run_view.proofs.watching.see_rest.Goals as goal

pub plays-preserved : goal.plays-preserved
plays-preserved g c =
    let plays : List Said = map said_of c.args.plays.now in
    let here : Said = said_of c.play_at-play.result in
    let inside : c.plays.at < length plays = inside_all c.args.plays.now c.plays.at c.plays-test.true in
    saw_rest_more g.W.Watcher.step plays c.plays.at here c.plays.watcher c.see.new.self _ inside c.play_at-play.ensures.here c.in_ok-see.ensures c.plays.invariant
