-- A deed under the name that it has.
use Rattle.std.proofs.Common.{◌≡◌, ℕ, refl, sym, ap, ◌∙◌, subst}
use Rattle.hardware_table.specs.Adapter.{AdapterState}
use Rattle.driver_machine.specs.World.{World, UnitView, Held}
use Rattle.driver_machine.specs.Acts.{Of}
use Rattle.driver_machine.specs.Guards.{Allowed}
use Rattle.hp_core.specs.State.{State}
use Rattle.hp_core.specs.Deeds.{act_of, deed_in, did}
use Rattle.hp_core.specs.declared.deed.Deed.{Deed}
use Rattle.hp_core.specs.declared.deed.Deed.TheVariants.{Arrive}
use Rattle.hp_core.proofs.Telling.{IsApart}

pub may_as : (w : World) (line u id : ℕ) (d e : Deed) → d ≡ e → Allowed w (act_of w line u id d) → Allowed w (act_of w line u id e)
may_as w line u id d e is may = subst (λ (x : Deed). Allowed w (act_of w line u id x)) is may

pub did_as : (old new : State) (line u id : ℕ) (d e : Deed) → d ≡ e → new ≡ did old (act_of old.world line u id e) → new ≡ did old (act_of old.world line u id d)
did_as old new line u id d e is change = change ∙ sym (ap (λ (x : Deed). did old (act_of old.world line u id x)) is)

-- no deed has to do with the packs
pub apart : (line u id : ℕ) (d : Deed) (v : UnitView) (h : Held) (a : AdapterState) → IsApart (Of line u id (deed_in d v h a))
apart line u id Arrive v h a = record { reads = λ w p. tt; packs = λ w p. refl }
apart line u id other v h a = record { reads = λ w p. tt; packs = λ w p. refl }
