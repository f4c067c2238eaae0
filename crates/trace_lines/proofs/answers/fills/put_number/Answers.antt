use Rattle.std.proofs.Common.{◌≡◌, ℕ, List, ◌++◌, length, length-append, decimal, ap, arith}
use Rattle.trace_lines.proofs.answers.FillLaws.{few_digits}
use Rattle.trace_lines.proofs.answers.fills.put_number.Goals as goal

pub put_digits-requires : goal.put_digits-requires
put_digits-requires c =
    let same : length (decimal c.from.result) ≡ length (decimal c.args.k) = ap (λ (n : ℕ). length (decimal n)) c.from.ensures in
    omega (arith, same, few_digits c.args.k c.ranges.k.fits, c.requires)

pub returns-clause-room : goal.returns-clause-room
returns-clause-room c =
    let same : length (decimal c.from.result) ≡ length (decimal c.args.k) = ap (λ (n : ℕ). length (decimal n)) c.from.ensures in
    let is : length c.put_digits.new.self ≡ length (decimal c.from.result ++ c.args.line.now) = ap (λ (l : List ℕ). length l) c.put_digits.ensures in
    omega (arith, same, is, length-append (decimal c.from.result) c.args.line.now, few_digits c.args.k c.ranges.k.fits)
