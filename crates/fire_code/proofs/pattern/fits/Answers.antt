-- Eleven places fit from place 4117 on back; from a later one the pattern's high bits must be 0.
use Rattle.std.proofs.Common.{le-leb, eq-eqb, eqb-true}
use Rattle.fire_code.proofs.Steps.{fits_far, high_none, none_high}
use Rattle.fire_code.proofs.pattern.fits.Goals as goal

pub returns-then-first-le4117 : goal.returns-then-first-le4117
returns-then-first-le4117 c =
    ((λ _. fits_far c.args.first c.args.pattern c.if-first-le4117.true c.requires.pattern), (λ _. le-leb c.args.first 4117 c.if-first-le4117.true))

pub returns-else-first-le4117 : goal.returns-else-first-le4117
returns-else-first-le4117 c =
    ((λ h. high_none _ _ (eqb-true _ 0 h)), (λ h. eq-eqb _ 0 (none_high _ _ h)))
