use Rattle.std.proofs.Common.{◌≡◌, ◌-◌, None, length}
use Rattle.blocking_io.specs.Spots.{Keeps, seen}
use Rattle.raw_io.proofs.WriteRanges.{SoWritten}
use Rattle.raw_io.proofs.writing.write_range.Given as goal

-- so many bytes were written
abbrev pub invariant-loop-done : goal.invariant-loop-done
invariant-loop-done g l = record {
  so : SoWritten l.unit l.part l.at l.done l.from (seen (g.S.Site.at l.fn.site)) (seen (g.S.Site.at l.site));
  keeps : Keeps (g.S.Site.at l.fn.site) (g.S.Site.at l.site) None;
  loans : g.S.Site.loans l.site ≡ g.S.Site.loans l.fn.site;
}

abbrev pub decreases-loop-done : goal.decreases-loop-done
decreases-loop-done g l = length l.from - l.done
