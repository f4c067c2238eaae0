use Rattle.std.proofs.Common.{sym, ◌∙◌}
use Rattle.mass_text.proofs.PieceLaws.{pieces-none, pieces-first}
use Rattle.mass_text.proofs.pieces.first_piece.Goals as goal

pub returns-in_err-start-clause-none : goal.returns-in_err-start-clause-none
returns-in_err-start-clause-none c = rw c.from_residual.ensures (pieces-none c.args.text.now (sym c.first_other.ensures ∙ c.in_err-start.was))

pub returns-clause-first : goal.returns-clause-first
returns-clause-first c =
    pieces-first c.args.text.now _ _ (sym c.first_other.ensures ∙ c.in_ok-start.was)
    (rw c.first_blank.ensures at c.unwrap_or-len.ensures)
