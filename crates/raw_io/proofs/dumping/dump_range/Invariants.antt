use Rattle.std.proofs.Common.{◌≡◌, ◌*◌, ◌-◌, None, length}
use Rattle.partitions.specs.declared.Part.TheVariants.{B}
use Rattle.driver_laws.specs.rules.Bytes.{blocks_for, dumped}
use Rattle.blocking_io.specs.Spots.{Keeps, seen}
use Rattle.raw_io.proofs.WriteRanges.{SoWritten}
use Rattle.raw_io.proofs.dumping.dump_range.Given as goal

-- so many bytes of the memory, filled up with zeros, were written
abbrev pub invariant-loop-done : goal.invariant-loop-done
invariant-loop-done g l = record {
  so : SoWritten l.unit B l.place l.done (dumped l.memory) (seen (g.S.Site.at l.fn.site)) (seen (g.S.Site.at l.site));
  keeps : Keeps (g.S.Site.at l.fn.site) (g.S.Site.at l.site) None;
  loans : g.S.Site.loans l.site ≡ g.S.Site.loans l.fn.site;
  all : l.size ≡ 512 * blocks_for (length l.memory);
  room : length l.blocks ≡ 65024;
}

abbrev pub decreases-loop-done : goal.decreases-loop-done
decreases-loop-done g l = l.size - l.done
