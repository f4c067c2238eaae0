use Rattle.std.proofs.Common.{◌<◌, ◌^◌, get_or, refl, arith, w64}
use Rattle.std.proofs.lemmas.Nat.Bits.{bit_at-trailing_zeros}
use Rattle.disksort.proofs.Bits.{row-on, row-below}
use Rattle.disksort.proofs.row.lowest.Goals as goal

pub returns-then-word-ne0-clause-on : goal.returns-then-word-ne0-clause-on
returns-then-word-ne0-clause-on c =
    let word = get_or c.args.words.now c.loop-i.i 0 in
    let some : 0 < word = omega (arith, c.if-word-ne0.true) in
    let small : word < 2 ^ 64 = omega (arith, c.type_inv.words c.loop-i.i) in
    let low = bit_at-trailing_zeros w64 word some small in
    row-on c.args.words.now c.loop-i.i word _ refl low.0 low.1

pub returns-then-word-ne0-clause-lowest : goal.returns-then-word-ne0-clause-lowest
returns-then-word-ne0-clause-lowest c =
    let word = get_or c.args.words.now c.loop-i.i 0 in
    let some : 0 < word = omega (arith, c.if-word-ne0.true) in
    let small : word < 2 ^ 64 = omega (arith, c.type_inv.words c.loop-i.i) in
    let low = bit_at-trailing_zeros w64 word some small in
    λ k lt. row-below c.args.words.now c.loop-i.i word _ refl c.loop-i.invariant low.2 k lt low.0
