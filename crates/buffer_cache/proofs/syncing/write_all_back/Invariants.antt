use Rattle.std.specs.Prelude.{◌≡◌, None}
use Rattle.blocking_io.specs.Spots.{Keeps, seen}
use Rattle.buffer_cache.proofs.Turns.{Flushing}
use Rattle.buffer_cache.proofs.syncing.write_all_back.Given as goal

-- the entries in front were written back, and the rest is as it was
abbrev pub invariant-loop-key : goal.invariant-loop-key
invariant-loop-key g l = record {
  flushing : Flushing l.line l.order.entries l.fn.slots.items l.slots.items (seen (g.S.Site.at l.fn.site)) (seen (g.S.Site.at l.site)) l.key-iterator;
  keeps : Keeps (g.S.Site.at l.fn.site) (g.S.Site.at l.site) None;
  loans : g.S.Site.loans l.site ≡ g.S.Site.loans l.fn.site;
}
