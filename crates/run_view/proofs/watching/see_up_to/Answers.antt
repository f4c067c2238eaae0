use Rattle.std.proofs.Common.{◌≡◌, ◌<◌, false, true, List, map, fold, length, arith, ap, sym, ◌∙◌}
use Rattle.std.proofs.lemmas.Bool.Decides.{nat_tests}
use Rattle.run_view.specs.Saids.{Said, said_of}
use Rattle.run_view.specs.Runs.{is_up_to}
use Rattle.run_view.proofs.SeeLaws.{inside_all, up_to_stops, beyond_stops, saw_more, beyond_more}
use Rattle.run_view.proofs.watching.see_up_to.Goals as goal

pub returns-then-line_of-number-clause-saw : goal.returns-then-line_of-number-clause-saw
returns-then-line_of-number-clause-saw g c =
    let plays : List Said = map said_of c.args.plays.now in
    let here : Said = said_of c.play_at-play.result in
    let inside : c.plays.at < length plays = inside_all c.args.plays.now c.plays.at c.plays-test.true in
    let later : is_up_to c.args.number here ≡ false = grind (arith, nat_tests) in
    sym (ap (fold g.W.Watcher.step c.plays.watcher) (up_to_stops c.args.number plays c.plays.at here inside c.play_at-play.ensures.here later)) ∙ c.plays.invariant.saw

pub returns-then-line_of-number-clause-left : goal.returns-then-line_of-number-clause-left
returns-then-line_of-number-clause-left g c =
    let plays : List Said = map said_of c.args.plays.now in
    let here : Said = said_of c.play_at-play.result in
    let inside : c.plays.at < length plays = inside_all c.args.plays.now c.plays.at c.plays-test.true in
    let later : is_up_to c.args.number here ≡ false = grind (arith, nat_tests) in
    sym (beyond_stops c.args.number plays c.plays.at here inside c.play_at-play.ensures.here later) ∙ c.plays.invariant.left

pub plays-preserved : goal.plays-preserved
plays-preserved g c =
    let plays : List Said = map said_of c.args.plays.now in
    let here : Said = said_of c.play_at-play.result in
    let inside : c.plays.at < length plays = inside_all c.args.plays.now c.plays.at c.plays-test.true in
    let now : is_up_to c.args.number here ≡ true = grind (arith, nat_tests) in
    record {
      saw = saw_more g.W.Watcher.step c.args.number plays c.plays.at here c.plays.watcher c.see.new.self _ inside c.play_at-play.ensures.here now c.in_ok-see.ensures c.plays.invariant.saw;
      left = sym (beyond_more c.args.number plays c.plays.at here inside c.play_at-play.ensures.here now) ∙ c.plays.invariant.left;
    }
