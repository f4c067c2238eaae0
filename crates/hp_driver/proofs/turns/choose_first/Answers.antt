use Rattle.std.proofs.Common.{sym}
use Rattle.hp_driver.proofs.Exits.{handed, waits_is, choice_stopped, due_stopped, chosen}
use Rattle.hp_driver.proofs.turns.choose_first.Goals as goal

pub choose-requires-clause-unit : goal.choose-requires-clause-unit
choose-requires-clause-unit g c = (waits_is _ _ _ _ c.requires.sound c.requires.adapter c.in-Some.ensures.some).0

pub returns-in_err-choose-clause-does : goal.returns-in_err-choose-clause-does
returns-in_err-choose-clause-does g c =
    handed _ _ _ _ _ _ _ _ _ c.from_residual.ensures.1
    (choice_stopped _ _ _ c.args.line c.args.a _ _ _ _ (sym c.if-is_busy.ensures) c.in-Some.ensures.some _ _ _ c.in_err-choose.ensures.does)

pub returns-in_err-due-clause-does : goal.returns-in_err-due-clause-does
returns-in_err-due-clause-does g c =
    handed _ _ _ _ _ _ _ _ _ c.from_residual-in_err-due.ensures.1
    (due_stopped _ _ _ c.args.line c.args.a _ _ _ _ (sym c.if-is_busy.ensures) c.in-Some.ensures.some _ _ _ _ _ c.in_ok-choose.ensures.does c.in_err-due.ensures)

pub returns-clause-does : goal.returns-clause-does
returns-clause-does g c =
    chosen _ _ _ c.args.line c.args.a _ _ _ _ (sym c.if-is_busy.ensures) c.in-Some.ensures.some _ _ _ _ c.in_ok-choose.ensures.does c.in_ok-due.ensures
