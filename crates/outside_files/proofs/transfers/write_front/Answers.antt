use Rattle.std.proofs.Common.{rules, arith}
use Rattle.outside_files.proofs.FolderLaws.{put_step, put_same}
use Rattle.outside_files.proofs.transfers.write_front.Goals as goal
use Rattle.outside_files.proofs.transfers.write_front.Goals.{in-Ok-write_at, in-Err-write_at}

-- src/transfers.rt:100:5
pub loop-preserved : goal.loop-preserved
loop-preserved g c = elim c.match-write_at.branch [
  | in-Ok-write_at w ↦ record {
    inside = search rules;
    never_again = λ t. c.loop.invariant.never_again (c.write_at.ensures.never_again t);
    told = λ t.
        put_step (g.F.PackFolder.held c.args.folder.now) (g.F.PackFolder.held c.loop.folder) (g.F.PackFolder.held c.write_at.new.self) c.args.unit c.args.part c.args.at c.in-Ok.place c.loop.done w.in-Ok-write_at.count _ c.args.from.now c.in-Ok.ensures w.done-is
        c.loop.invariant.inside (c.loop.invariant.told (c.write_at.ensures.never_again t)) (w.in-Ok-write_at.ensures.bytes t);
  }
  | in-Err-write_at w ↦ record {
    inside = search rules;
    never_again = λ t. c.loop.invariant.never_again (c.write_at.ensures.never_again t);
    told = λ t. put_same (g.F.PackFolder.held c.args.folder.now) (g.F.PackFolder.held c.loop.folder) (g.F.PackFolder.held c.write_at.new.self) c.args.unit c.args.part c.args.at c.loop.done _ c.args.from.now w.done-is (c.loop.invariant.told (c.write_at.ensures.never_again t)) (w.in-Err-write_at.ensures.err t);
  }
]

pub returns-then-done-from : goal.returns-then-done-from
returns-then-done-from g c = record {
  bound = c.loop.invariant.inside;
  whole = omega (arith, c.loop.invariant.inside, c.if-done-from.true);
  few = tt;
  never_again = c.loop.invariant.never_again;
  bytes = c.loop.invariant.told;
}

pub returns-in-Err : goal.returns-in-Err
returns-in-Err g c = record {
  bound = c.loop.invariant.inside;
  whole = tt;
  few = omega (arith, c.if-done-from.false);
  never_again = c.loop.invariant.never_again;
  bytes = c.loop.invariant.told;
}

pub returns-in-Err-2-clause-never_again : goal.returns-in-Err-2-clause-never_again
returns-in-Err-2-clause-never_again g c = λ t. c.loop.invariant.never_again (c.write_at.ensures.never_again t)

pub returns-then-done-from-2 : goal.returns-then-done-from-2
returns-then-done-from-2 g c = record {
  bound = c.loop.invariant.inside;
  whole = tt;
  few = omega (arith, c.if-done-from-2.true);
  never_again = c.loop.invariant.never_again;
  bytes = c.loop.invariant.told;
}

pub returns : goal.returns
returns g c = record {
  bound = c.loop.invariant.inside;
  whole = omega (arith, c.loop.invariant.inside, c.if-done-from-2.false);
  few = tt;
  never_again = c.loop.invariant.never_again;
  bytes = c.loop.invariant.told;
}
