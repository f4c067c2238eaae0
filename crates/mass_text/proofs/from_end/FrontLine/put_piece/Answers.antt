use Rattle.mass_text.proofs.FrontLaws.{in_front}
use Rattle.mass_text.proofs.from_end.FrontLine.put_piece.Goals as goal

pub returns : goal.returns
returns g c =
    in_front c.args.piece.now c.args.self.now c.self.inside.bytes c.put_piece-self-inside.new.bytes c.self.inside.start c.put_piece-self-inside.result g.row.END
    c.put_piece-self-inside.ensures.start c.self.invariant.0 c.self.view_is c.put_piece-self-inside.ensures.text
