use Rattle.std.proofs.Common.{◌≡◌, ℕ, inl, inr, IsTrue, List, replicate, subst, ◌∙◌}
use Rattle.pack_format.specs.testing.Stages.{Fills, IsTested, Stops, one}
use Rattle.pack_format.specs.testing.Stops.{Writes}
use Rattle.pack_format.proofs.StepLaws.{goes_same, not_done, on_err, on_err_then, on_ok_then, step_on, step_then}
use Rattle.pack_format.proofs.testing.StageLaws.{fills_over, stops_over, stops_weaken}
use Rattle.pack_format.proofs.testing.StopLaws.{stop_as}
use Rattle.pack_format.proofs.testing.testing.test_block.Goals as goal

pub returns-in_err-write_and_read : goal.returns-in_err-write_and_read
returns-in_err-write_and_read g c =
    let is = c.from_residual.ensures.0 in
    let first = c.in_err-write_and_read.ensures in record {
      fills = not_done _ _ is;
      stops = on_err _ is (λ t.
          stops_weaken c.args.job.unit IsTested (λ (x : List ℕ). x ≡ c.all-pattern.result) _ _ _ (λ x e. inl (e ∙ c.all-pattern.ensures)) (first.stops t));
      step = step_on _ c.from_residual.ensures.1 goes_same first.step
          (stop_as _ (Writes c.args.block (λ x. x ≡ c.all-pattern.result)) (Writes c.args.block IsTested) (λ b xs w. (w.0, inl (w.1 ∙ c.all-pattern.ensures))) _);
    }

pub returns : goal.returns
returns g c =
    let first = c.in_ok-write_and_read.ensures in
    let second = c.write_and_read-2.ensures in record {
      fills = on_ok_then {Q = IsTrue (g.P.Packs.tells c.write_and_read-2.new.packs) → Fills c.args.job.unit (one (g.P.Packs.held c.args.packs.now c.args.job.unit) c.args.block) (replicate 512 0) (g.P.Packs.held c.args.packs.now) (g.P.Packs.held c.write_and_read-2.new.packs)}
          _ second.fills
          (λ fills t.
          fills_over c.args.job.unit c.args.block c.all-pattern.result (replicate 512 0) _ _ _ (first.fills (second.step.goes.never_again t))
          (subst (λ (x : List ℕ). Fills c.args.job.unit (one (g.P.Packs.held c.write_and_read.new.packs c.args.job.unit) c.args.block) x (g.P.Packs.held c.write_and_read.new.packs) (g.P.Packs.held c.write_and_read-2.new.packs))
          c.all-zeros.ensures (fills t)));
      stops = on_err_then {Q = IsTrue (g.P.Packs.tells c.write_and_read-2.new.packs) → Stops c.args.job.unit (one (g.P.Packs.held c.args.packs.now c.args.job.unit) c.args.block) IsTested (g.P.Packs.held c.args.packs.now) (g.P.Packs.held c.write_and_read-2.new.packs)}
          _ second.stops
          (λ stops t.
          stops_over c.args.job.unit c.args.block IsTested (λ (x : List ℕ). x ≡ c.all-zeros.result) c.all-pattern.result _ _ _ (inl c.all-pattern.ensures)
          (λ x e. inr (e ∙ c.all-zeros.ensures)) (first.fills (second.step.goes.never_again t)) (stops t));
      step = step_then _ first.step.goes second.step
          (stop_as _ (Writes c.args.block (λ x. x ≡ c.all-zeros.result)) (Writes c.args.block IsTested) (λ b xs w. (w.0, inr (w.1 ∙ c.all-zeros.ensures))));
    }
