use Rattle.std.proofs.Common.{◌≡◌, take}
use Rattle.driver_machine.specs.World.{bytes_in}
use Rattle.driver_laws.specs.rules.Laid.{laid}
use Rattle.blocking_io.specs.Taking.{oldest_blocks}
use Rattle.blocking_io.proofs.answers.give_blocks.Given as goal

-- the blocks below k are given
abbrev pub invariant-loop-k : goal.invariant-loop-k
invariant-loop-k l = l.into ≡ laid (bytes_in (take l.k (oldest_blocks l.subsystem.world))) l.fn.into
