use Rattle.std.proofs.Common.{ℕ, IsTrue, ap, subst, sym, ◌∙◌}
use Rattle.pack_geometry.specs.Pack.{Pack}
use Rattle.pack_format.specs.Formatted.{IsTooLong}
use Rattle.pack_format.specs.Steps.{seen}
use Rattle.pack_format.specs.Faults.{IsEnd, IsFault, IsWhy, Leaves}
use Rattle.pack_format.proofs.StepLaws.{at_error, caused, no_value, step_then}
use Rattle.pack_format.proofs.EndLaws.{end_alone, end_behind, formatted_behind, if_err}
use Rattle.pack_format.proofs.ExitLaws.{memory_is_not_store}
use Rattle.pack_format.proofs.formatting.format.Goals as goal

pub returns-in_err-check_length : goal.returns-in_err-check_length
returns-in_err-check_length g c =
    let is = c.from_residual.ensures.0 in
    let error = c.from_residual.ensures.1 in
    let check = c.in_err-check_length.ensures in
    let end = end_alone c.args.kind c.args.serial c.args.unit (seen g.P.Packs.tells g.P.Packs.held g.P.Packs.faults c.args.packs.now)
    (seen g.P.Packs.tells g.P.Packs.held g.P.Packs.faults c.check_length.new.packs) _ check.step.why check.same in record {
      formatted = no_value _ _ is;
      few = no_value _ _ is;
      elsewhere = λ other ne t. ap (λ (h : ℕ → Pack). h other) (check.same t);
      why = at_error _ _ error end.reason.why;
      left = at_error _ _ error end.left;
      fault = at_error _ _ error end.reason.fault;
      never_again = check.step.goes.never_again;
      cause = caused _ check.step.goes.later (at_error _ _ error check.step.store);
    }

pub returns-in_err-station : goal.returns-in_err-station
returns-in_err-station g c =
    let is = c.from_residual-in_err-station.ensures.0 in
    let error = c.from_residual-in_err-station.ensures.1 in
    let check = c.in_ok-check_length.ensures in record {
      formatted = no_value _ _ is;
      few = no_value _ _ is;
      elsewhere = λ other ne t. ap (λ (h : ℕ → Pack). h other) (check.same t);
      why = at_error _ _ error check.step.well;
      left = at_error _ _ error check.same;
      fault = at_error _ _ error tt;
      never_again = check.step.goes.never_again;
      cause = caused _ check.step.goes.later (at_error _ _ error (λ s. absurd (memory_is_not_store s)));
    }

pub format_through-requires : goal.format_through-requires
format_through-requires g c =
    let check = c.in_ok-check_length.ensures in record {
      ready = record { unit = c.requires; rest = c.in_ok-station.ensures };
      fits = λ t. subst (λ (h : ℕ → Pack). ¬ (IsTooLong c.args.kind (h c.args.unit))) (sym (check.same t)) (check.step.well t);
    }

pub returns : goal.returns
returns g c =
    let check = c.in_ok-check_length.ensures in
    let through = c.format_through.ensures in
    let old = seen g.P.Packs.tells g.P.Packs.held g.P.Packs.faults c.args.packs.now in
    let mid = seen g.P.Packs.tells g.P.Packs.held g.P.Packs.faults c.check_length.new.packs in
    let new = seen g.P.Packs.tells g.P.Packs.held g.P.Packs.faults c.format_through.new.packs in
    let same = λ (t : IsTrue (g.P.Packs.tells c.format_through.new.packs)). check.same (through.step.goes.never_again t) in
    let step = step_then {Ends = IsEnd c.args.kind c.args.serial c.args.unit old new} _ check.step.goes through.step (λ f. end_behind c.args.kind c.args.serial c.args.unit old mid new f same) in record {
      formatted = formatted_behind c.args.kind c.args.serial c.args.unit old mid new _ same through.formatted;
      few = through.few;
      elsewhere = λ other ne t. through.elsewhere other ne t ∙ ap (λ (h : ℕ → Pack). h other) (same t);
      why = if_err _ (λ f. IsTrue new.told → IsWhy c.args.kind (old.held c.args.unit) f) _ step.why (λ f end. end.reason.why);
      left = if_err _ (λ f. IsTrue new.told → Leaves c.args.kind c.args.serial c.args.unit old.held new.held f) _ step.why (λ f end. end.left);
      fault = if_err _ (IsFault c.args.kind c.args.serial) _ step.why (λ f end. end.reason.fault);
      never_again = step.goes.never_again;
      cause = caused _ step.goes.later step.store;
    }
