use Rattle.std.proofs.Common.{arith, rules, sym, ◌∙◌}
use Rattle.mass_text.proofs.BlockLaws.{length-content_other}
use Rattle.mass_text.proofs.line.TextBuf.put_bytes.Goals as goal

pub put_each-requires : goal.put_each-requires
put_each-requires g c =
    let long = length-content_other c.args.bytes.now (sym c.is_one_byte.ensures ∙ c.if-is_one_byte.false) in
    (search rules, (c.requires.few, omega (arith, long, c.requires.room)))
