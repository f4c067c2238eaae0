use Rattle.std.proofs.Common.{◌∙◌, refl, arith}
use Rattle.bad144_tool.proofs.AddLaws.{at_error}
use Rattle.bad144_tool.proofs.ExitLaws.{counted_failed, counted_ok, counted_then, counted_unless, first_marked, free_more, le_then, none_before, not_done, not_this, ok_is_no_error, spare_is_not_store, store_is_not_spare}
use Rattle.bad144_tool.proofs.tool.check_spare.Goals as goal

pub loop-j-preserved : goal.loop-j-preserved
loop-j-preserved g c =
    let so_far = c.loop-j.invariant in
    let mark = c.in_ok-marked.ensures in record {
      never_again = λ t. so_far.never_again (mark.never_again t);
      same = λ t. mark.same t ∙ so_far.same (mark.never_again t);
      later = le_then so_far.later mark.cause.later;
      free = λ t.
          let told = mark.never_again t in
          free_more c.args.kind c.args.unit c.args.i c.loop-j.j c.from.result _ _ _ _ (so_far.same told) c.from.ensures c.replacement.ensures (mark.mark t) c.if-branch.false
          (so_far.free told);
    }

pub returns : goal.returns
returns g c =
    let all = c.loop-j.invariant in record {
      never_again = all.never_again;
      same = all.same;
      free = λ t k from to. all.free t k from (omega arith);
      faults = tt;
      marked = λ j is _. absurd (ok_is_no_error is);
      store = counted_ok _ all.later;
    }

pub loop-j-init : goal.loop-j-init
loop-j-init g c = record {
  never_again = λ t. t;
  same = λ _. refl;
  later = omega arith;
  free = λ _. none_before c.args.kind (g.P.Packs.held c.args.packs.now c.args.unit) c.args.i;
}

pub returns-in_err-marked : goal.returns-in_err-marked
returns-in_err-marked g c =
    let error = c.from_residual.ensures.1 in
    let so_far = c.loop-j.invariant in
    let mark = c.in_err-marked.ensures in record {
      never_again = λ t. so_far.never_again (mark.never_again t);
      same = λ t. mark.same t ∙ so_far.same (mark.never_again t);
      free = not_done _ _ c.from_residual.ensures.0;
      faults = at_error _ _ error tt;
      marked = λ j is _. absurd (not_this _ error (store_is_not_spare j) is);
      store = counted_then so_far.later (counted_failed mark.cause);
    }

pub returns-then-branch : goal.returns-then-branch
returns-then-branch g c =
    let so_far = c.loop-j.invariant in
    let mark = c.in_ok-marked.ensures in record {
      never_again = λ t. so_far.never_again (mark.never_again t);
      same = λ t. mark.same t ∙ so_far.same (mark.never_again t);
      free = tt;
      faults = tt;
      marked = λ j is t.
          let told = mark.never_again t in
          first_marked c.args.kind c.args.unit c.args.i c.args.end c.loop-j.j c.from.result _ j _ _ _ (so_far.same told) c.from.ensures c.replacement.ensures (mark.mark t) c.if-branch.true
          c.loop-j.auto.j c.loop-j-test.true (so_far.free told) is;
      store = counted_then so_far.later (counted_unless _ (spare_is_not_store c.loop-j.j) mark.cause.later);
    }
