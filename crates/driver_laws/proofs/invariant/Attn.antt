-- AN ATTENTION is taken: it leaves a phase, a drive and an adapter that hold.
use Rattle.std.proofs.Common.{◌≡◌, ℕ, ◌-◌, ◌^◌, true, refl, ap, bit_and, arith, rules}
use Rattle.hardware_table.specs.Drive.{DriveState}
use Rattle.hardware_table.specs.Events.{attention_cleared}
use Rattle.driver_machine.specs.declared.Phase.TheVariants.{Positioning}
use Rattle.driver_machine.specs.declared.Task.TheVariants.{Steps}
use Rattle.driver_machine.specs.Acts as deed
use Rattle.driver_machine.specs.Acts.{Scene, effect}
use Rattle.driver_machine.specs.Sound.{IsDrive, IsPhase, IsTask, IsStill, IsMoving}
use Rattle.driver_machine.specs.World.{drive_of}
use Rattle.driver_machine.specs.Guards.{May}
use Rattle.driver_laws.proofs.invariant.Drives.{drive_attended}
use Rattle.driver_laws.proofs.invariant.Scene.{SceneOk, phase_is, same_ask, begun_as}
use Rattle.driver_laws.proofs.invariant.AdapterLeft.{SceneAdapter, AdapterLeft, state_left, is_transferring, is_queued, not_transferring, not_queued}
use Rattle.driver_laws.proofs.invariant.Lists.{lowered_same, lowered_other, lowered_small}

-- ATTENTION: the drive stands still, and the next step comes
still_behind : (d : DriveState) → d.attention ≡ true → IsMoving d → IsStill (attention_cleared d)
still_behind d up moving = first_of (search rules, grind arith)

pub attn_phase : (line u p taken : ℕ) (s : Scene) → SceneOk u s → May u (deed.Attn taken) s
    → IsTask (effect line u p (deed.Attn taken) s).unit s.held (Steps taken)
attn_phase line u p taken s ok may =
    let is : IsPhase u s.unit s.adapter s.held (Positioning taken) = phase_is u s (Positioning taken) ok may.0 in (
      begun_as s.unit (effect line u p (deed.Attn taken) s).unit s.held s.held is.0 refl refl refl (same_ask s.held),
      still_behind s.unit.drive may.1 is.1,
      is.2,
    )

pub attn_drive : (line u p taken : ℕ) (s : Scene) → SceneOk u s → May u (deed.Attn taken) s → IsDrive (effect line u p (deed.Attn taken) s).unit.drive
attn_drive line u p taken s ok may = drive_attended s.unit.drive ok.drive

pub attn_left : (line u p taken : ℕ) (s : Scene) → SceneOk u s → SceneAdapter u s → May u (deed.Attn taken) s
    → AdapterLeft u s.adapter (effect line u p (deed.Attn taken) s).unit (effect line u p (deed.Attn taken) s).adapter (effect line u p (deed.Attn taken) s).held
attn_left line u p taken s ok at may =
    state_left u s ok at (effect line u p (deed.Attn taken) s).unit s.held (bit_and s.adapter.state.attentions (255 - 2 ^ drive_of u)) s.adapter.queue
    (not_transferring s.unit.phase (ap is_transferring may.0)) (λ x m other. m)
    (λ m. absurd (not_queued s.unit.phase (ap is_queued may.0) (at.mine m))) at.once
    (lowered_small s.adapter.state.attentions (drive_of u) at.small)
    (λ k lt other. lowered_other s.adapter.state.attentions (drive_of u) k at.unit lt other)
    (lowered_same s.adapter.state.attentions (drive_of u) at.unit)
