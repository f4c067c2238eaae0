use Rattle.std.proofs.Common.{◌<◌, ◌≤◌, length, subst, ◌∙◌, arith}
use Rattle.hp_units.specs.Setups.{setups_of}
use Rattle.script_runs.specs.declared.fault.PlayFault.TheVariants as faults
use Rattle.script_runs.proofs.AttachLaws.{room_at, attached_at, told_at_line, long_at, attaches_at, at_fault, attached_all, told_all, not_given, not_ok, fault_from, later_from, rose_from}
use Rattle.script_runs.proofs.attaching.attach_units.Goals as goal

pub attach_declared-requires : goal.attach_declared-requires
attach_declared-requires g c =
    let s = g.S.Declaring.means c.args.script.now in
    let i = c.loop-i.i in
    let lt : i < length s.lines = subst (λ n. i < n) c.line_count-i-end.ensures c.loop-i-test.true in
    record { room = room_at s i c.declared.result c.requires.first lt c.declared.ensures }

pub loop-i-preserved : goal.loop-i-preserved
loop-i-preserved g c =
    let s = g.S.Declaring.means c.args.script.now in
    let i = c.loop-i.i in
    let lt : i < length s.lines = subst (λ n. i < n) c.line_count-i-end.ensures c.loop-i-test.true in
    let before = c.loop-i.invariant in
    let step = c.in_ok-attach_declared.ensures in
    let tells = g.P.Packs.tells c.attach_declared.new.packs in
    let held = g.P.Packs.held c.loop-i.packs in
    let old = setups_of c.loop-i.units.items in
    let new = setups_of c.attach_declared.new.units.items in
    let later_before = before.later in
    let later_step = step.later in record {
      attached = attached_at s i c.declared.result c.requires.first lt c.declared.ensures tells held old new step.adds before.attached;
      told = λ t.
          let t' = step.never_again t in
          told_at_line s i c.declared.result c.requires.first lt c.declared.ensures tells held (g.P.Packs.held c.args.packs.now) old new t (before.same t') step.adds before.attached (before.told t');
      same = λ t. step.same t ∙ before.same (step.never_again t);
      never_again = λ t. before.never_again (step.never_again t);
      later = omega (arith, later_before, later_step);
    }

pub returns-in_err-attach_declared : goal.returns-in_err-attach_declared
returns-in_err-attach_declared g c =
    let s = g.S.Declaring.means c.args.script.now in
    let i = c.loop-i.i in
    let lt : i < length s.lines = subst (λ n. i < n) c.line_count-i-end.ensures c.loop-i-test.true in
    let before = c.loop-i.invariant in
    let step = c.in_err-attach_declared.ensures in
    record {
      set = not_given _ _ _ c.from_residual.ensures.1;
      tables = not_given _ _ _ c.from_residual.ensures.1;
      fits = not_ok _ _ _ c.from_residual.ensures.1;
      too_long = at_fault _ _ c.from_residual.ensures.1
          (long_at s i c.declared.result c.requires.first lt c.declared.ensures (g.P.Packs.tells c.attach_declared.new.packs) (g.P.Packs.held c.loop-i.packs) (g.P.Packs.held c.args.packs.now) _ _
          (λ t. c.loop-i.invariant.same (c.in_err-attach_declared.ensures.never_again t)) (λ t. c.loop-i.invariant.told (c.in_err-attach_declared.ensures.never_again t))
          c.in_err-attach_declared.ensures.refuses);
      same = λ t. step.same t ∙ before.same (step.never_again t);
      never_again = λ t. before.never_again (step.never_again t);
      later = later_from _ _ _ before.later step.later;
      store = λ e. rose_from _ _ _ before.later (step.store (fault_from _ faults.Store c.from_residual.ensures.1 e));
      at = λ e. attaches_at s i c.declared.result c.requires.first lt c.declared.ensures (g.P.Packs.failed_at c.attach_declared.new.packs) (step.at (fault_from _ faults.Store c.from_residual.ensures.1 e));
      no_sink = λ e. step.no_sink (fault_from _ faults.Sink c.from_residual.ensures.1 e);
    }

pub returns-clause-set : goal.returns-clause-set
returns-clause-set g c =
    let s = g.S.Declaring.means c.args.script.now in
    let count = c.line_count-i-end.ensures in
    let over = c.loop-i-test.false in
    let all : length s.lines ≤ c.loop-i.i = omega (arith, count, over) in
    attached_all s c.loop-i.i (setups_of c.loop-i.units.items) all c.loop-i.invariant.attached

pub returns-clause-tables : goal.returns-clause-tables
returns-clause-tables g c =
    let s = g.S.Declaring.means c.args.script.now in
    let count = c.line_count-i-end.ensures in
    let over = c.loop-i-test.false in
    let all : length s.lines ≤ c.loop-i.i = omega (arith, count, over) in
    λ t. (told_all s c.loop-i.i (g.P.Packs.held c.args.packs.now) (setups_of c.loop-i.units.items) all (c.loop-i.invariant.told t)).tables

pub returns-clause-same : goal.returns-clause-same
returns-clause-same g c = c.loop-i.invariant.same

pub returns-clause-never_again : goal.returns-clause-never_again
returns-clause-never_again g c = c.loop-i.invariant.never_again

pub returns-clause-later : goal.returns-clause-later
returns-clause-later g c = c.loop-i.invariant.later
