use Rattle.std.proofs.Common.{◌/◌, ◌%◌, ◌<◌, ◌==◌, length, get_or, ap, arith, false, w64}
use Rattle.std.proofs.lemmas.Nat.Bits.{bit_at_clear_same, bit_at_clear_other}
use Rattle.disksort.proofs.Bits.{row-with_bit}
use Rattle.disksort.proofs.row.clear_bit.Goals as goal

pub returns : goal.returns
returns c =
    let word : c.args.cylinder / 64 < length c.args.words.now = omega arith in
    let small : c.args.cylinder % 64 < 64 = omega arith in
    let old = get_or c.args.words.now (c.args.cylinder / 64) 0 in
    row-with_bit c.args.words.now c.args.cylinder _ false word (ap (λ b. b == 1) (bit_at_clear_same w64 old (c.args.cylinder % 64) small))
    (λ i l ne. bit_at_clear_other w64 old (c.args.cylinder % 64) small i l ne)
