use Rattle.std.specs.Prelude.{decimal}
use Rattle.mass_text.proofs.FrontLaws.{in_front}
use Rattle.mass_text.proofs.from_end.FrontLine.put_digits.Goals as goal

pub returns : goal.returns
returns g c =
    in_front (decimal c.args.value) c.args.self.now c.self.inside.bytes c.put_digits-self-inside.new.bytes c.self.inside.start c.put_digits-self-inside.result g.row.END
    c.put_digits-self-inside.ensures.start c.self.invariant.0 c.self.view_is c.put_digits-self-inside.ensures.text
