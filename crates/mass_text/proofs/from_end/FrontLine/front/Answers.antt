use Rattle.std.proofs.Common.{◌≡◌, ◌-◌, length, drop, sym, arith}
use Rattle.mass_text.proofs.FrontLaws.{front_is, text_length}
use Rattle.mass_text.proofs.from_end.FrontLine.front.Goals as goal

pub returns : goal.returns
returns g c =
    let size : length c.args.self.now ≡ g.row.END - c.self.inside.start =
    text_length c.self.inside.bytes c.args.self.now c.self.inside.start g.row.END c.self.invariant.0 (omega (arith, c.self.told, c.self.invariant.1)) c.self.view_is in
    front_is c.args.self.now (drop c.self.inside.start c.self.inside.bytes) c.in-Some.front.now (g.row.END - c.self.inside.start) _
    size (sym c.self.view_is) c.in-Some.ensures.cases.same (omega (arith, c.requires)) (omega (arith, c.self.told, c.self.invariant.1))
