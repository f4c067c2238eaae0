-- Where a transfer command may come at once.
use Rattle.std.specs.Prelude.{◌≡◌, Bool, true, false}
use Rattle.driver_machine.specs.declared.Task.TheVariants.{Clear, Judge, Command}
use Rattle.driver_machine.specs.declared.Phase.{Phase}
use Rattle.driver_machine.specs.declared.Phase.TheVariants.{Due}
use Rattle.driver_machine.specs.World.{UnitView, AdapterView}

-- inside an event, behind the verdict of a transfer, the next transfer command comes without a choice of the adapter
abbrev pub needs_free : Phase → Bool
needs_free (Due (Clear moved last)) = true
needs_free (Due (Judge moved last)) = true
needs_free (Due Command) = true
needs_free phase = false

-- a unit that may issue one without a choice finds its adapter free
abbrev pub IsFree : UnitView → AdapterView → Type 0
IsFree v a = needs_free v.phase ≡ true → a.state.busy ≡ false
