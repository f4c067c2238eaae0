use Rattle.std.proofs.Common.{◌≡◌, List, [], ◌∷◌, false, refl, sym, subst}
use Rattle.pack_geometry.specs.declared.DriveKind.TheVariants.{Rm03}
use Rattle.driver_machine.specs.World.{Setup, new_world}
use Rattle.hp_driver.specs.Subsystem.{State}
use Rattle.blocking_io.specs.Asking.{IsReady}
use Rattle.callers.proofs.attaching.attached.Goals as goal

pub returns-in-Ok-new-clause-ready : goal.returns-in-Ok-new-clause-ready
returns-in-Ok-new-clause-ready g c =
    let setups : List Setup = record { unit = 0; kind = Rm03; table = c.in-Ok.found.table } ∷ [] in
    let made : State = record { world = new_world setups 1 0; outstanding = 1; failed = false; kept = [] } in
    let is : c.in-Ok-new.subsystem ≡ made = c.in-Ok-new.ensures in
    subst IsReady (sym is) (record { quiet = c.rests_law.ensures.new setups 1 0; going = refl; sent = refl })
