use Rattle.std.proofs.Common.{ap, ◌∙◌, ◌++◌, drop}
use Rattle.blocking_io.proofs.Laying.{laid_least}
use Rattle.blocking_io.proofs.answers.lay.Goals as goal

pub returns : goal.returns
returns c =
    ap (λ bytes. bytes ++ drop c.min-fits.result c.args.into.now) c.copy_from_slice.ensures.after
    ∙ laid_least c.min-fits.result c.args.bytes.now c.args.into.now c.min-fits.ensures
