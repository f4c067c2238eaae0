-- Three folds leave the residue.
use Rattle.std.proofs.Common.{◌≡◌, ◌<◌, ◌^◌, arith, ap, ◌∙◌, subst, sym}
use Rattle.fire_code.specs.Residue.{cycle_of as the_cycle}
use Rattle.fire_code.proofs.Residues.{fold, fold-cycle, cycle_of-lt}
use Rattle.fire_code.proofs.by_residues.cycle_of.Goals as goal

value : (c : goal.After-folded-3) → c.folded-3.result ≡ the_cycle c.args.remainder
value c = c.folded-3.ensures ∙ ap fold (c.folded-2.ensures ∙ ap fold c.folded.ensures) ∙ fold-cycle c.args.remainder (omega arith)

pub returns-clause-value : goal.returns-clause-value
returns-clause-value c = value c

pub returns-clause-small : goal.returns-clause-small
returns-clause-small c = subst (λ z. z < 2 ^ 11) (sym (value c)) (cycle_of-lt c.args.remainder (omega arith))
