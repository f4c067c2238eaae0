-- Which replay a world stands for between two acts, and which line it may then tell.
use Rattle.std.specs.Prelude.{◌≡◌, ℕ, ◌+◌, ◌-◌, ◌*◌, Bool, true, false, List, [], ◌∷◌, Option, None, Some}
use Rattle.pack_geometry.specs.declared.DriveKind.{DriveKind}
use Rattle.hardware_table.specs.Adapter.{AdapterState}
use Rattle.disksort.specs.declared.Waiter.{Waiter}
use Rattle.trace_replay.specs.requests.ServiceOrder.{Waiting}
use Rattle.trace_replay.specs.requests.Requests.{Request}
use Rattle.trace_replay.specs.Service.{cylinder_of, head_of}
use Rattle.trace_replay.specs.Replay.{UnitSeen, hand_of}
use Rattle.driver_machine.specs.World.{UnitView, Held, slot_in_hand}
use Rattle.driver_machine.specs.Guards.{IsHeldFor}
use Rattle.driver_laws.specs.shown.Stages.{stage_by, IsProgress}

-- THE QUEUE. The requests that wait are those in the slots of the waiters, one by one.
pub record IsTheirs (held : ℕ → Held) (kind : DriveKind) (x : Waiter) (y : Waiting Request) : Type 0 where
  pub request : IsHeldFor kind y.request (held x.number)
  pub cylinder : cylinder_of kind y.request ≡ x.cylinder

abbrev pub Match : (ℕ → Held) → DriveKind → List Waiter → List (Waiting Request) → Type 0
Match held kind [] [] = Unit {0}
Match held kind (x ∷ xs) (y ∷ ys) = IsTheirs held kind x y × Match held kind xs ys
Match held kind xs ys = ⊥

-- A UNIT, with the requests in the slots and its adapter
pub record IsUnitSeen (held : ℕ → Held) (v : UnitView) (a : AdapterState) (seen : UnitSeen) : Type 0 where
  pub drive : seen.drive ≡ v.drive
  pub table : seen.table ≡ v.table
  pub queue : Match held v.drive.kind v.queue seen.service.waiting
  pub stage : seen.stage ≡ stage_by v.phase v a (hand_of seen) (head_of seen.service)
  pub progress : IsProgress v.phase v a (held (slot_in_hand v)) seen.progress

-- AN ADAPTER. The buffer that is loaded is not seen: the replay counts whole blocks.
pub record IsAdapterSeen (a seen : AdapterState) : Type 0 where
  pub busy : seen.busy ≡ a.busy
  pub completion : seen.completion ≡ a.completion
  pub drive : seen.drive ≡ a.drive
  pub block : seen.block ≡ a.block
  pub count : seen.count ≡ a.count
  pub write : seen.write ≡ a.write
  pub moved : seen.moved ≡ a.moved
  pub verdict : seen.verdict ≡ a.verdict
  pub late : seen.data_late ≡ a.data_late
  pub attentions : seen.attentions ≡ a.attentions
  pub counted : seen.busy ≡ true → seen.byte_count ≡ 512 * seen.count - 512 * seen.moved

-- how many requests are outstanding
abbrev pub counted_by : Bool → ℕ → ℕ
counted_by true others = others
counted_by false others = others + 1

abbrev pub outstanding_in : List (Option Held) → ℕ
outstanding_in [] = 0
outstanding_in (None ∷ slots) = outstanding_in slots
outstanding_in (Some h ∷ slots) = counted_by h.ended (outstanding_in slots)
