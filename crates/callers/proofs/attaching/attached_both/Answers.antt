use Rattle.std.proofs.Common.{◌≡◌, List, [], ◌∷◌, false, refl, sym, subst}
use Rattle.std.specs.Prelude.{min}
use Rattle.pack_geometry.specs.declared.DriveKind.TheVariants.{Rm03}
use Rattle.driver_machine.specs.World.{Setup, new_world}
use Rattle.hp_driver.specs.Subsystem.{State}
use Rattle.callers.specs.Asking.{MayGoOn}
use Rattle.callers.proofs.Carrying.{new_fits, two_up}
use Rattle.callers.proofs.attaching.attached_both.Goals as goal

pub returns-in-Ok-new-clause-may : goal.returns-in-Ok-new-clause-may
returns-in-Ok-new-clause-may g c =
    let setups : List Setup = record { unit = 0; kind = Rm03; table = c.in-Ok.first.table } ∷ record { unit = 1; kind = Rm03; table = c.in-Ok-attach.second.table } ∷ [] in
    let room = min c.args.outstanding 16384 in
    let made : State = record { world = new_world setups room 0; outstanding = c.args.outstanding; failed = false; kept = [] } in
    let is : c.in-Ok-new.subsystem ≡ made = c.in-Ok-new.ensures in
    subst (MayGoOn 0) (sym is)
    (record {
      call = record { going = refl; none_waits = refl };
      fits = new_fits setups room (two_up c.in-Ok.first.table c.in-Ok-attach.second.table room);
    })
