use Rattle.std.proofs.Common.{ℕ, subst, sym}
use Rattle.raw_command.specs.Faults.{IsTransferCode}
use Rattle.raw_command.proofs.TransferLaws.{causes_by, leaves_by}
use Rattle.raw_command.proofs.bytes.run_bytes.Goals as goal

pub returns-clause-runs : goal.returns-clause-runs
returns-clause-runs g c = record { answer = c.run_transfer-answer.result; code_is = c.status_of.ensures; ends = c.run_transfer-answer.ensures.ends }

pub returns-clause-statuses : goal.returns-clause-statuses
returns-clause-statuses g c = subst (λ (n : ℕ). IsTransferCode c.args.transfer n) (sym c.status_of.ensures) c.run_transfer-answer.ensures.statuses

pub returns-clause-causes : goal.returns-clause-causes
returns-clause-causes g c = causes_by _ _ c.status_of.ensures c.run_transfer-answer.ensures.causes

pub returns-clause-leaves : goal.returns-clause-leaves
returns-clause-leaves g c = leaves_by c.args.transfer _ _ c.status_of.ensures c.run_transfer-answer.ensures.statuses c.run_transfer-answer.ensures.stays c.run_transfer-answer.ensures.unread
