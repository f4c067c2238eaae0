use Rattle.std.proofs.Common.{◌<◌, ◌≤◌, ◌-◌}
use Rattle.picture_svg.specs.Stretches.{IsStretch}
use Rattle.picture_svg.proofs.stretches.next_stretch.Given as goal

abbrev pub invariant-columns : goal.invariant-columns
invariant-columns l = record {
  some : l.from < l.end;
  inside : l.end ≤ l.to;
  same : IsStretch l.scene l.track l.from l.end;
}

abbrev pub decreases-columns : goal.decreases-columns
decreases-columns l = l.to - l.end
