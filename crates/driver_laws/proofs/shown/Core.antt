-- A unit and its request in hand, as the replay sees them, apart from the others that wait.
use Rattle.std.proofs.Common.{◌≡◌, ◌<◌, ℕ, List, [], ◌∷◌, length, Some, refl, arith}
use Rattle.std.specs.Prelude.{slice_index_or}
use Rattle.pack_geometry.specs.declared.DriveKind.{DriveKind}
use Rattle.hardware_table.specs.Adapter.{AdapterState}
use Rattle.disksort.specs.declared.Waiter.{Waiter}
use Rattle.trace_replay.specs.requests.ServiceOrder.{Waiting}
use Rattle.trace_replay.specs.requests.Requests.{Request}
use Rattle.trace_replay.specs.Service.{head_of, first_waiting}
use Rattle.trace_replay.specs.Replay.{UnitSeen, hand_of}
use Rattle.driver_machine.specs.World.{UnitView, Held, slot_in_hand}
use Rattle.driver_machine.specs.Guards.{IsHeldFor}
use Rattle.driver_laws.specs.shown.Stages.{stage_by, IsProgress}
use Rattle.driver_laws.specs.shown.Shows.{IsUnitSeen, Match}

-- the unit with its request in hand
pub record Core (h : Held) (v : UnitView) (a : AdapterState) (seen : UnitSeen) : Type 0 where
  pub drive : seen.drive ≡ v.drive
  pub table : seen.table ≡ v.table
  pub stage : seen.stage ≡ stage_by v.phase v a (hand_of seen) (head_of seen.service)
  pub progress : IsProgress v.phase v a h seen.progress

-- the request in hand
pub record IsHead (h : Held) (kind : DriveKind) (seen : UnitSeen) : Type 0 where
  pub request : Request
  pub head : head_of seen.service ≡ Some request
  pub is : IsHeldFor kind request h

pub core_of : (held : ℕ → Held) (v : UnitView) (a : AdapterState) (seen : UnitSeen) → IsUnitSeen held v a seen → Core (held (slot_in_hand v)) v a seen
core_of held v a seen is = record { drive = is.drive; table = is.table; stage = is.stage; progress = is.progress }

pub record IsFirst (held : ℕ → Held) (kind : DriveKind) (queue : List Waiter) (waiting : List (Waiting Request)) : Type 0 where
  pub request : Request
  pub head : first_waiting waiting ≡ Some request
  pub is : IsHeldFor kind request (held (slice_index_or queue 0 (record { number = 0; cylinder = 0 })).number)

none_before : {P : Type 0} → 0 < 0 → P
none_before e = absurd (omega (arith, e))

first_is : (held : ℕ → Held) (kind : DriveKind) (queue : List Waiter) (waiting : List (Waiting Request)) → Match held kind queue waiting
    → 0 < length queue → IsFirst held kind queue waiting
first_is held kind [] [] match some = none_before some
first_is held kind [] (y ∷ ys) match some = absurd match
first_is held kind (x ∷ xs) [] match some = absurd match
first_is held kind (x ∷ xs) (y ∷ ys) match some = record { request = y.request; head = refl; is = match.0.request }

pub head_is : (held : ℕ → Held) (v : UnitView) (a : AdapterState) (seen : UnitSeen) → IsUnitSeen held v a seen → 0 < length v.queue
    → IsHead (held (slot_in_hand v)) v.drive.kind seen
head_is held v a seen is some =
    let first : IsFirst held v.drive.kind v.queue seen.service.waiting = first_is held v.drive.kind v.queue seen.service.waiting is.queue some in
    record { request = first.request; head = first.head; is = first.is }
