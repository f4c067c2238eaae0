use Rattle.std.proofs.Common.{rules, arith, ◌∙◌}
use Rattle.outside_files.proofs.FolderLaws.{read_step, read_none}
use Rattle.outside_files.proofs.transfers.read_front.Goals as goal
use Rattle.outside_files.proofs.transfers.read_front.Goals.{in-Ok, in-Err}

-- src/transfers.rt:44:5
pub loop-preserved : goal.loop-preserved
loop-preserved g c = elim c.match-read_at.branch [
  | in-Ok w ↦ record {
    inside = search rules;
    size = search rules;
    never_again = λ t. c.loop.invariant.never_again (c.read_at.ensures.never_again t);
    told = λ t.
        read_step _ _ c.args.unit c.args.part c.loop.into c.read_at.new.into c.args.at c.in_ok-place.place c.loop.done _ w.in-Ok.count _
        (c.loop.invariant.same (c.read_at.ensures.never_again t)) c.in_ok-place.ensures w.done-is c.loop.invariant.inside w.in-Ok.ensures.bound
        (c.loop.invariant.told (c.read_at.ensures.never_again t)) (w.in-Ok.ensures.bytes t);
    same = λ t. c.read_at.ensures.same t ∙ c.loop.invariant.same (c.read_at.ensures.never_again t);
  }
  | in-Err w ↦ record {
    inside = search rules;
    size = search rules;
    never_again = λ t. c.loop.invariant.never_again (c.read_at.ensures.never_again t);
    told = λ t. read_none _ c.loop.into c.read_at.new.into c.args.at c.loop.done _ _ w.done-is c.loop.invariant.inside (c.loop.invariant.told (c.read_at.ensures.never_again t));
    same = λ t. c.read_at.ensures.same t ∙ c.loop.invariant.same (c.read_at.ensures.never_again t);
  }
]

pub returns-then-done-into : goal.returns-then-done-into
returns-then-done-into g c = record {
  never_again = c.loop.invariant.never_again;
  bound = c.loop.invariant.inside;
  size = c.loop.invariant.size;
  bytes = λ t. record { bytes = c.loop.invariant.told t; end = λ short. absurd (omega (arith, c.if-done-into.true, short)) };
  same = c.loop.invariant.same;
}

pub returns-in_err-place-clause-never_again : goal.returns-in_err-place-clause-never_again
returns-in_err-place-clause-never_again g c = c.loop.invariant.never_again

pub returns-in_err-place-clause-size : goal.returns-in_err-place-clause-size
returns-in_err-place-clause-size g c = c.loop.invariant.size

pub returns-in_err-place-clause-same : goal.returns-in_err-place-clause-same
returns-in_err-place-clause-same g c = c.loop.invariant.same

pub returns-in-Ok-eq0-clause-never_again : goal.returns-in-Ok-eq0-clause-never_again
returns-in-Ok-eq0-clause-never_again g c = λ t. c.loop.invariant.never_again (c.read_at.ensures.never_again t)

pub returns-in-Ok-eq0-clause-same : goal.returns-in-Ok-eq0-clause-same
returns-in-Ok-eq0-clause-same g c = λ t. c.read_at.ensures.same t ∙ c.loop.invariant.same (c.read_at.ensures.never_again t)

pub returns-in-Err-2-clause-never_again : goal.returns-in-Err-2-clause-never_again
returns-in-Err-2-clause-never_again g c = λ t. c.loop.invariant.never_again (c.read_at.ensures.never_again t)

pub returns-in-Err-2-clause-same : goal.returns-in-Err-2-clause-same
returns-in-Err-2-clause-same g c = λ t. c.read_at.ensures.same t ∙ c.loop.invariant.same (c.read_at.ensures.never_again t)

pub returns : goal.returns
returns g c = record {
  never_again = c.loop.invariant.never_again;
  bound = tt;
  size = c.loop.invariant.size;
  bytes = tt;
  same = c.loop.invariant.same;
}
