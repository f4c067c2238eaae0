use Rattle.std.proofs.Common.{◌≡◌, ◌-◌, List, ℕ, map, ap, ◌∙◌}
use Rattle.script_reader.specs.Stored.{Kept}
use Rattle.run_view.specs.Plays.{text_at}
use Rattle.run_view.specs.Saids.{said_of}
use Rattle.run_view.proofs.LinesTextLaws.{played_more, text_here}
use Rattle.run_view.proofs.plays.plays_of.Goals as goal

pub lines-preserved : goal.lines-preserved
lines-preserved c =
    let lines : List Kept = c.lines-lines.result.now in
    let text : text_at c.args.text.now c.line-item.result.number ≡ text_at c.args.script.now.text c.line-item.result.number =
    ap (λ (bytes : List ℕ). text_at bytes c.line-item.result.number) c.requires.text in
    record {
      seen = played_more c.args.script.now.text lines c.lines.line-index c.line-item.result c.first_text.result.now (map said_of c.lines.plays.items) (map said_of c.push_line.new.plays.items)
          c.lines-test.true c.line-item.is
          (c.first_text.ensures ∙ text_here c.args.text.now c.line_at-rest.result.now (c.line-item.result.number - 1) c.line_at-rest.ensures ∙ text)
          c.lines.invariant.seen c.in_ok-push_line.ensures.plays;
      heard = c.in_ok-push_line.ensures.heard c.lines.invariant.heard;
      rest = c.line_at-rest.ensures;
    }
