-- What is set up of each unit stays.
use Rattle.std.proofs.Common.{ℕ, Bool, true, false, [], ◌∷◌, refl, ◌∙◌}
use Rattle.std.specs.Prelude.{slice_set}
use Rattle.hardware_table.specs.Events.{turned, fault_armed, online_set, locked_set}
use Rattle.trace_replay.specs.Script as script
use Rattle.trace_replay.specs.Script.{Input}
use Rattle.driver_machine.specs.World.{World, UnitView, unit_at, slot_in_hand, no_unit}
use Rattle.driver_machine.specs.Acts.{Act, Submit, Of, Change, effect, scene_of, with_drive, joined, changed, after}
use Rattle.driver_machine.proofs.Frame.{effect_same}
use Rattle.driver_laws.specs.answers.Counts.{IsSetAs}
use Rattle.driver_laws.specs.answers.Laws.{SetupsStay}
use Rattle.driver_laws.proofs.answers.Lists.{set_related}

same_unit : (v : UnitView) → IsSetAs v v
same_unit v = record { declared = refl; table = refl; kind = refl }

put_unit : (w : World) (u x : ℕ) (v : UnitView) → IsSetAs (unit_at w u) v → IsSetAs (unit_at w x) (unit_at (record w { units = slice_set w.units u v }) x)
put_unit w u x v is = set_related IsSetAs same_unit w.units u x v no_unit is

online_unit : (on : Bool) (v : UnitView) → IsSetAs v (with_drive (online_set on) v)
online_unit true v = record { declared = refl; table = refl; kind = refl }
online_unit false v = record { declared = refl; table = refl; kind = refl }

changed_unit : (input : Input) (w : World) (x : ℕ) → IsSetAs (unit_at w x) (unit_at (changed input w) x)
changed_unit (script.Turn u sector) w x =
    put_unit w u x (with_drive (turned sector) (unit_at w u)) (record { declared = refl; table = refl; kind = refl })
changed_unit (script.Arm u kind times) w x =
    put_unit w u x (with_drive (fault_armed kind times) (unit_at w u)) (record { declared = refl; table = refl; kind = refl })
changed_unit (script.SetOnline u on) w x = put_unit w u x (with_drive (online_set on) (unit_at w u)) (online_unit on (unit_at w u))
changed_unit (script.SetLocked u on) w x =
    put_unit w u x (with_drive (locked_set on) (unit_at w u)) (record { declared = refl; table = refl; kind = refl })
changed_unit input w x = same_unit (unit_at w x)

act_unit : (w : World) (act : Act) (x : ℕ) → IsSetAs (unit_at w x) (unit_at (after w act) x)
act_unit w (Submit line p h) x =
    put_unit w h.unit x (joined p h (unit_at w h.unit)) (record { declared = refl; table = refl; kind = refl })
act_unit w (Of line u id d) x =
    let same = effect_same line u (slot_in_hand (unit_at w u)) d (scene_of w u) in
    put_unit w u x (effect line u (slot_in_hand (unit_at w u)) d (scene_of w u)).unit
    (record { declared = same.declared; table = same.table; kind = same.kind })
act_unit w (Change input) x = changed_unit input w x
act_unit w other x = same_unit (unit_at w x)

pub setups_stay : SetupsStay
setups_stay w [] u = same_unit (unit_at w u)
setups_stay w (act ∷ acts) u =
    let one = act_unit w act u in
    let more = setups_stay (after w act) acts u in
    record { declared = more.declared ∙ one.declared; table = more.table ∙ one.table; kind = more.kind ∙ one.kind }
