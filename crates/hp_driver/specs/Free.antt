-- Where a transfer command may come at once.
use Rattle.std.specs.Prelude.{ℕ}
use Rattle.driver_machine.specs.Free as machine
use Rattle.driver_machine.specs.World.{World, unit_at, adapter_at, adapter_of}

-- a unit that may issue one without a choice finds its adapter free
abbrev pub IsFree : World → ℕ → Type 0
IsFree w u = machine.IsFree (unit_at w u) (adapter_at w (adapter_of u))
