use Rattle.std.proofs.Common.{◌≡◌, ◌<◌, ◌==◌, true, false, List, map, length, arith, sym, ◌∙◌}
use Rattle.std.proofs.lemmas.Bool.Decides.{nat_tests}
use Rattle.drive_pictures.specs.Events.{line_of}
use Rattle.run_view.specs.Saids.{Said, said_of}
use Rattle.run_view.proofs.SeeLaws.{inside_all}
use Rattle.run_view.proofs.TextLaws.{text_found, text_more}
use Rattle.run_view.proofs.view.text_of.Goals as goal

pub returns-then-line_of-line : goal.returns-then-line_of-line
returns-then-line_of-line c =
    let plays : List Said = map said_of c.args.plays.now in
    let here : Said = said_of c.play_at-play.result in
    let inside : c.plays.at < length plays = inside_all c.args.plays.now c.plays.at c.plays-test.true in
    let found : (line_of here.moment == c.args.line) ≡ true = grind (arith, nat_tests) in
    sym (text_found c.args.line plays c.plays.at here inside c.play_at-play.ensures found) ∙ c.plays.invariant

pub plays-preserved : goal.plays-preserved
plays-preserved c =
    let plays : List Said = map said_of c.args.plays.now in
    let here : Said = said_of c.play_at-play.result in
    let inside : c.plays.at < length plays = inside_all c.args.plays.now c.plays.at c.plays-test.true in
    let other : (line_of here.moment == c.args.line) ≡ false = grind (arith, nat_tests) in
    sym (text_more c.args.line plays c.plays.at here inside c.play_at-play.ensures other) ∙ c.plays.invariant
