-- The deed of the machine that a deed is, and the line that it tells.
use Rattle.std.specs.Prelude.{ℕ, ◌+◌, List, [], ◌∷◌, Option, None, Some}
use Rattle.hardware_table.specs.Adapter.{AdapterState}
use Rattle.transfer_engine.specs.State.{begun}
use Rattle.transfer_engine.specs.Calls.{step_for}
use Rattle.trace_replay.specs.Moments as moment
use Rattle.trace_replay.specs.requests.Requests.{Answer, WriteOk}
use Rattle.trace_lines.specs.Deeds.{deed_of}
use Rattle.trace_lines.specs.declared.telling.Told.{Told}
use Rattle.driver_machine.specs.World.{World, UnitView, Held, unit_at, adapter_at, held_in, slot_in_hand, adapter_of, transfer_of, job_of}
use Rattle.driver_machine.specs.Acts as machine
use Rattle.driver_machine.specs.Acts.{Act, Of, after}
use Rattle.driver_machine.specs.Due.{task_for}
use Rattle.driver_machine.specs.Lines.{answer_told}
use Rattle.hp_core.specs.State.{State}
use Rattle.hp_core.specs.declared.deed.Deed.{Deed}
use Rattle.hp_core.specs.declared.deed.Deed.TheVariants as deed

-- for a unit with this request in hand, by its adapter
abbrev pub deed_in : Deed → UnitView → Held → AdapterState → machine.Deed
deed_in deed.Arrive v h a = machine.Arrive
deed_in (deed.Attend taken) v h a = machine.Attn taken
deed_in deed.Interrupt v h a = machine.Intr a.moved a.verdict
deed_in (deed.Search target sector) v h a = machine.Search target sector
deed_in (deed.Step step taken) v h a = machine.Do step taken
deed_in (deed.Transfer write segment) v h a = machine.Move write segment
deed_in deed.Pack v h a = machine.Pack
deed_in (deed.Clear moved last) v h a = machine.Dclr moved last
deed_in deed.Centre v h a = machine.Rtc
deed_in deed.Ready v h a = machine.Ready (transfer_of v)
deed_in deed.Begin v h a = machine.Ready (begun (job_of v.drive.kind h))
deed_in (deed.Repair moved at pattern) v h a = machine.Repair moved at pattern
deed_in (deed.Forward moved index) v h a = machine.Forward moved index
deed_in (deed.Continue moved) v h a = machine.Continue moved
deed_in (deed.Try moved block failures) v h a = machine.Try moved block failures (task_for (step_for moved (transfer_of v)) ((transfer_of v).done + moved))
deed_in (deed.End kind) v h a = machine.End kind

-- done at a line for the request of an id
abbrev pub act_of : World → (line u id : ℕ) → Deed → Act
act_of w line u id d = Of line u id (deed_in d (unit_at w u) (held_in w (slot_in_hand (unit_at w u))) (adapter_at w (adapter_of u)).state)

abbrev pub did : State → Act → State
did s act = record s { world = after s.world act }

-- its line, if it has one; an end tells the answer with the bytes of the request's buffer
abbrev pub answer_by : Deed → Held → Answer
answer_by (deed.End kind) h = answer_told kind h.blocks
answer_by other h = WriteOk

abbrev pub told_by : Answer → Option Told → List moment.Deed
told_by answer None = []
told_by answer (Some told) = deed_of answer told ∷ []
