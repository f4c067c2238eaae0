use Rattle.std.proofs.Common.{◌≡◌, ◌∷◌, [], sym, ap, subst}
use Rattle.hp_core.specs.Asked.{Asked}
use Rattle.hp_core.specs.Deeds.{deed_in}
use Rattle.driver_machine.specs.World.{World, UnitView, unit_at, adapter_at, adapter_of}
use Rattle.driver_machine.specs.Acts.{Deed, Of}
use Rattle.driver_machine.specs.Due.{command_of}
use Rattle.driver_machine.specs.Guards.{Allowed}
use Rattle.hp_driver.specs.Hand.{hand_at}
use Rattle.hp_driver.proofs.Chosen.{asked_some, may_chosen, chosen_free}
use Rattle.hp_driver.proofs.Exits.{as_acts}
use Rattle.hp_driver.proofs.Joined.{of_act}
use Rattle.hp_driver.proofs.Next.{in_hand_are}
use Rattle.hp_driver.proofs.Whole.{sound_if, free_if}
use Rattle.hp_driver.proofs.deeds.choose.Goals as goal

pub asked_in_hand-requires : goal.asked_in_hand-requires
asked_in_hand-requires g c = record { sound = c.requires.sound; unit = c.requires.unit }

pub act-requires : goal.act-requires
act-requires g c =
    let w : World = c.args.core.now.world in
    let is : deed_in c.command-deed.result (unit_at w c.args.u) (hand_at w c.args.u) (adapter_at w (adapter_of c.args.u)).state ≡ command_of (unit_at w c.args.u) (hand_at w c.args.u) =
    subst (λ (v : UnitView). deed_in c.command-deed.result v (hand_at w c.args.u) (adapter_at w (adapter_of c.args.u)).state ≡ command_of v (hand_at w c.args.u)) c.unit.ensures
    (c.command-deed.ensures _ _ c.in-Some.ensures.asked) in
    record {
      sound = c.requires.sound;
      may = subst (λ (d : Deed). Allowed w (Of c.args.line c.args.u c.in-Some.asked.id d)) (sym is)
          (may_chosen w c.args.line c.args.u c.in-Some.asked.id (ap (λ (a : Asked). a.id) c.in-Some.ensures.asked) c.requires.sound c.requires.unit c.requires.phase
          c.requires.first c.requires.idle);
    }

pub returns : goal.returns
returns g c =
    let w : World = c.args.core.now.world in
    let is : deed_in c.command-deed.result (unit_at w c.args.u) (hand_at w c.args.u) (adapter_at w (adapter_of c.args.u)).state ≡ command_of (unit_at w c.args.u) (hand_at w c.args.u) =
    subst (λ (v : UnitView). deed_in c.command-deed.result v (hand_at w c.args.u) (adapter_at w (adapter_of c.args.u)).state ≡ command_of v (hand_at w c.args.u)) c.unit.ensures
    (c.command-deed.ensures _ _ c.in-Some.ensures.asked) in
    let named : c.in-Some.asked.id ≡ (hand_at w c.args.u).id = ap (λ (a : Asked). a.id) c.in-Some.ensures.asked in
    let does = as_acts _ _ _ _ _ _ _ _ _ _ (ap (λ (d : Deed). Of c.args.line c.args.u c.in-Some.asked.id d ∷ []) is) (of_act _ _ _ _ _ _ _ _ _ c.act.ensures) in
    record {
      does = as_acts _ _ _ _ _ _ _ _ _ _
          (sym (in_hand_are w c.args.line c.args.u c.in-Some.asked.id (command_of (unit_at w c.args.u) (hand_at w c.args.u)) named (asked_some w c.args.line c.args.u c.in-Some.asked.id named c.requires.sound c.requires.unit c.requires.phase)))
          does;
      sound = sound_if _ _ _ _ _ _ _ _ c.requires.sound _ does;
      free = free_if _ _ _ _ _ _ _ _ c.requires.sound _ _
          (chosen_free w c.args.line c.args.u c.in-Some.asked.id named c.requires.sound c.requires.unit c.requires.phase) does;
    }
