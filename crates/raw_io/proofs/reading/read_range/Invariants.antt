use Rattle.std.proofs.Common.{◌≡◌, ◌-◌, None, length}
use Rattle.blocking_io.specs.Spots.{Keeps, seen}
use Rattle.raw_io.proofs.ReadRanges.{SoRead}
use Rattle.raw_io.proofs.reading.read_range.Given as goal

-- so many bytes were read
abbrev pub invariant-loop-done : goal.invariant-loop-done
invariant-loop-done g l = record {
  so : SoRead l.unit l.part l.at l.done l.fn.into l.into (seen (g.S.Site.at l.fn.site)) (seen (g.S.Site.at l.site));
  keeps : Keeps (g.S.Site.at l.fn.site) (g.S.Site.at l.site) None;
  loans : g.S.Site.loans l.site ≡ g.S.Site.loans l.fn.site;
  long : length l.into ≡ length l.fn.into;
  room : length l.blocks ≡ 65024;
}

abbrev pub decreases-loop-done : goal.decreases-loop-done
decreases-loop-done g l = length l.into - l.done
