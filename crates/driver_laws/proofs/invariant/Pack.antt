-- PACK: the volume is valid, and phase, drive and adapter hold.
use Rattle.std.proofs.Common.{ℕ, refl}
use Rattle.drive_registers.specs.declared.Function.TheVariants as function
use Rattle.hardware_table.specs.Functions.{performed}
use Rattle.driver_machine.specs.declared.Phase.{Phase}
use Rattle.driver_machine.specs.declared.Phase.TheVariants.{Waiting, Positioning, Queued, Transferring, Due}
use Rattle.driver_machine.specs.declared.Task.TheVariants.{Clear, Judge, Steps, Command, GiveUp}
use Rattle.driver_machine.specs.Acts.{Scene, effect, with_drive}
use Rattle.driver_machine.specs.Acts as deed
use Rattle.driver_machine.specs.Sound.{IsDrive, IsBegun, IsPhase, IsStill}
use Rattle.driver_machine.specs.World.{UnitView, AdapterView, Held}
use Rattle.driver_machine.specs.Guards.{May}
use Rattle.driver_machine.proofs.Dues.{AtStart, AtStep, AtTransfer, AtChoice, Calls, IsDue}
use Rattle.driver_laws.proofs.invariant.Drives.{drive_pack}
use Rattle.driver_laws.proofs.invariant.Scene.{same_ask, begun_as, SceneOk, due_of}
use Rattle.driver_laws.proofs.invariant.AdapterLeft.{SceneAdapter, AdapterLeft, task_left, not_transferring, calls_rest}

-- PACK: the volume is valid, and the phase is as it was.
packed_begun : (v : UnitView) (h : Held) → IsBegun v h → IsBegun (with_drive (performed function.Pack) v) h
packed_begun v h is = begun_as v (with_drive (performed function.Pack) v) h h is refl refl refl (same_ask h)

packed_still : (v : UnitView) → IsStill v.drive → IsStill (performed function.Pack v.drive)
packed_still v is = record { work = is.work; attention = is.attention; clear = record { er1 = is.clear.er1; er2 = is.clear.er2 } }

pack_by : (u : ℕ) (v : UnitView) (a : AdapterView) (h : Held) (phase : Phase) → Calls phase → IsPhase u v a h phase
    → IsPhase u (with_drive (performed function.Pack) v) a h phase
pack_by u v a h Waiting AtStart is = (packed_still v is.0, is.1)
pack_by u v a h (Due (Steps taken)) (AtStep same) is = (packed_begun v h is.0, packed_still v is.1, is.2)
pack_by u v a h (Due Command) AtTransfer is = (packed_begun v h is.0, packed_still v is.1)
pack_by u v a h Queued AtChoice is = (packed_begun v h is.0, packed_still v is.1, is.2)
pack_by u v a h (Positioning taken) called is = elim called [ ]
pack_by u v a h Transferring called is = elim called [ ]
pack_by u v a h (Due (Clear moved last)) called is = elim called [ ]
pack_by u v a h (Due (Judge moved last)) called is = elim called [ ]
pack_by u v a h (Due (GiveUp done)) called is = elim called [ ]

pub pack_phase : (line u p : ℕ) (s : Scene) → SceneOk u s → IsDue s.unit s.held deed.Pack
    → IsPhase u (effect line u p deed.Pack s).unit s.adapter s.held s.unit.phase
pack_phase line u p s ok due = pack_by u s.unit s.adapter s.held s.unit.phase due.2 ok.phase

pub pack_drive : (line u p : ℕ) (s : Scene) → SceneOk u s → May u deed.Pack s → IsDrive (effect line u p deed.Pack s).unit.drive
pack_drive line u p s ok may = drive_pack s.unit.drive (due_of u deed.Pack s may).0 ok.drive

pub pack_left : (line u p : ℕ) (s : Scene) → SceneOk u s → SceneAdapter u s → May u deed.Pack s
    → AdapterLeft u s.adapter (effect line u p deed.Pack s).unit (effect line u p deed.Pack s).adapter (effect line u p deed.Pack s).held
pack_left line u p s ok at may =
    let due = due_of u deed.Pack s may in
    task_left u s ok at (effect line u p deed.Pack s).unit s.held (not_transferring s.unit.phase (calls_rest s.unit.phase due.2)) (λ is. is) refl
