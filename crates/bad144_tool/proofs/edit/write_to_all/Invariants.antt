use Rattle.std.proofs.Common.{Ok, take}
use Rattle.outside_traits.specs.declared.traits.StoreFailed.{StoreFailed}
use Rattle.bad144_tool.specs.Changes.{DoesAll}
use Rattle.bad144_tool.specs.Edit.{copies}
use Rattle.bad144_tool.proofs.edit.write_to_all.Given as goal

-- the copies so far were written
abbrev pub invariant-loop-k : goal.invariant-loop-k
invariant-loop-k g l =
    DoesAll {T = Unit {0}} {E = StoreFailed} g.P.Packs.tells g.P.Packs.held g.P.Packs.faults l.unit l.fn.packs l.packs (Ok tt) (take l.k (copies l.kind l.text))
