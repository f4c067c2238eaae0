-- The invariant as tests that compute, so that it is tried on worlds that scripts reach.
use Rattle.std.specs.Prelude.{ℕ, zero, suc, ◌+◌, ◌/◌, ◌==◌, ◌&&◌, ◌||◌, nat_lt, nat_le, Bool, true, false, not, if◌then◌else◌, List, [], ◌∷◌, length, map, Option, None, Some, is_none}
use Rattle.std.specs.Int.{bit_at}
use Rattle.pack_geometry.specs.Geometry.{cylinders_of, sectors_of, limit_of, place_at}
use Rattle.hardware_table.specs.declared.Moved.{Moved}
use Rattle.hardware_table.specs.declared.Moved.TheVariants as verdict
use Rattle.hardware_table.specs.Drive.{DriveState, is_ready, is_positioning, is_transferring}
use Rattle.hardware_table.specs.Functions.{is_addressed}
use Rattle.hardware_table.specs.Moves.{after_move}
use Rattle.hardware_table.specs.Adapter.{AdapterState, next_block}
use Rattle.disksort.specs.declared.Waiter.{Waiter}
use Rattle.pack_geometry.specs.Homes.{index_in}
use Rattle.transfer_engine.specs.State.{TransferState, segment_of}
use Rattle.trace_replay.specs.declared.requests.answers.Answer.{Answer}
use Rattle.driver_machine.specs.declared.Made.{Made}
use Rattle.driver_machine.specs.declared.Task.{Task}
use Rattle.driver_machine.specs.declared.Task.TheVariants.{Clear, Judge, Steps, Command, GiveUp}
use Rattle.driver_machine.specs.declared.Phase.{Phase}
use Rattle.driver_machine.specs.declared.Phase.TheVariants.{Waiting, Positioning, Queued, Transferring, Due}
use Rattle.driver_machine.specs.World.{World, UnitView, AdapterView, Held, adapter_of, drive_of, unit_on, unit_at, adapter_at, slot_at, held_in, slot_in_hand, transfer_of}
use Rattle.driver_machine.specs.Due.{steps_of}
use Rattle.driver_machine.specs.Refusals.{refuses}
use Rattle.driver_machine.specs.Sound.{late_by, frames_used}

abbrev pub all_of : {A : Type 0} → (A → Bool) → List A → Bool
all_of test [] = true
all_of test (x ∷ xs) = test x && all_of test xs

abbrev pub times_in : ℕ → List ℕ → ℕ
times_in x [] = 0
times_in x (y ∷ ys) = (if x == y then 1 else 0) + times_in x ys

abbrev pub implies : Bool → Bool → Bool
implies p q = not p || q

-- the drive
abbrev pub clear : DriveState → Bool
clear d = d.er1 == 0 && d.er2 == 0

abbrev pub still : DriveState → Bool
still d = is_ready d.work && (not d.attention && clear d)

abbrev pub moving : DriveState → Bool
moving d = clear d && ((is_positioning d.work && not d.attention) || (is_ready d.work && d.attention))

abbrev pub stopped : DriveState → Bool
stopped d = is_ready d.work && not d.attention

abbrev pub good_drive : DriveState → Bool
good_drive d = nat_lt d.cc (cylinders_of d.kind) && (nat_lt (d.la / 64) (sectors_of d.kind) && (is_addressed d && implies d.valid d.online))

-- the transfer
abbrev pub same_index : Option ℕ → Option ℕ → Bool
same_index None found = true
same_index (Some i) None = false
same_index (Some i) (Some j) = i == j

abbrev pub begun_with : TransferState → UnitView → Held → Bool
begun_with t v h =
    t.job.first == h.first && (t.job.count == h.loan.count && (nat_lt t.done h.loan.count && (nat_le t.failures 27
    && same_index t.index (index_in v.table (place_at v.drive.kind (h.first + t.done))))))

abbrev pub is_begun : Option TransferState → UnitView → Held → Bool
is_begun None v h = false
is_begun (Some t) v h = begun_with t v h

abbrev pub begun : UnitView → Held → Bool
begun v h = is_begun v.transfer v h

abbrev pub good_steps : UnitView → ℕ → Bool
good_steps v taken = nat_le taken (length (steps_of (transfer_of v)))

abbrev pub is_clean : Moved → Bool
is_clean verdict.Clean = true
is_clean last = false

abbrev pub ended_at : Moved → ℕ → ℕ → Bool
ended_at verdict.Clean moved count = nat_le 1 moved && nat_le moved count
ended_at last moved count = nat_lt moved count

abbrev pub is_for : Bool → Moved → Bool
is_for write (verdict.Burst at pattern) = not write && (nat_le 1 at && (nat_le at 4128 && nat_lt pattern 2048))
is_for write verdict.Hard = not write
is_for write last = true

abbrev pub segment_count : UnitView → ℕ
segment_count v = (segment_of (transfer_of v)).count

abbrev pub good_task : UnitView → Held → Task → Bool
good_task v h (Clear moved last) =
    begun v h && (stopped v.drive && (not (is_clean last) && (ended_at last moved (segment_count v) && is_for h.write last)))
good_task v h (Judge moved last) = begun v h && (still v.drive && (ended_at last moved (segment_count v) && is_for h.write last))
good_task v h (Steps taken) = begun v h && (still v.drive && good_steps v taken)
good_task v h Command = begun v h && still v.drive
good_task v h (GiveUp done) = is_none v.transfer && (still v.drive && nat_lt done h.loan.count)

-- the registers as the last verdict leaves those of a clear drive
abbrev pub same_errors : DriveState → DriveState → Bool
same_errors d e = d.er1 == e.er1 && (d.er2 == e.er2 && (d.ec1 == e.ec1 && d.ec2 == e.ec2))

abbrev pub same_bool : Bool → Bool → Bool
same_bool p q = if p then q else not q

abbrev pub shown : DriveState → AdapterState → Bool
shown d a =
    same_errors d (after_move a.verdict (next_block a) (record d { er1 = 0; er2 = 0 })) && same_bool a.data_late (late_by a.verdict)

abbrev pub under_way : DriveState → AdapterState → Bool
under_way d a =
    (if a.completion then is_ready d.work else is_transferring d.work)
    && (not d.attention && (if a.completion then shown d a else clear d && not a.data_late))

abbrev pub transfers : UnitView → AdapterState → Held → Bool
transfers v a h =
    h.on_bus && (a.block == (segment_of (transfer_of v)).block && (a.skip == (segment_of (transfer_of v)).skip && (a.count == segment_count v
    && (a.blocks == h.loan.count && implies a.completion (ended_at a.verdict a.moved a.count
    && (is_for h.write a.verdict && implies (is_clean a.verdict) (a.moved == a.count)))))))

abbrev pub good_phase : ℕ → UnitView → AdapterView → Held → Phase → Bool
good_phase u v a h Waiting = still v.drive && is_none v.transfer
good_phase u v a h (Positioning taken) = begun v h && (moving v.drive && good_steps v taken)
good_phase u v a h Queued = begun v h && (still v.drive && times_in u a.queue == 1)
good_phase u v a h Transferring =
    begun v h && (under_way v.drive a.state && (a.state.busy && (a.state.drive == drive_of u && transfers v a.state h)))
good_phase u v a h (Due task) = good_task v h task && not h.on_bus

abbrev pub is_waiting : Phase → Bool
is_waiting Waiting = true
is_waiting phase = false

abbrev pub is_queued : Phase → Bool
is_queued Queued = true
is_queued phase = false

abbrev pub is_busy_phase : Phase → Bool
is_busy_phase Transferring = true
is_busy_phase phase = false

abbrev pub waiter_ok : World → ℕ → Waiter → Bool
waiter_ok w u x =
    (held_in w x.number).unit == u && (not (held_in w x.number).ended
    && x.cylinder == (place_at (unit_at w u).drive.kind (held_in w x.number).first).cylinder)

abbrev pub unit_ok_with : World → ℕ → UnitView → Held → Bool
unit_ok_with w u v h =
    all_of (waiter_ok w u) v.queue
    && (good_drive v.drive && (implies (not (is_waiting v.phase)) (nat_lt 0 (length v.queue))
    && good_phase u v (adapter_at w (adapter_of u)) h v.phase))

abbrev pub unit_ok : World → ℕ → Bool
unit_ok w u = if (unit_at w u).declared then unit_ok_with w u (unit_at w u) (held_in w (slot_in_hand (unit_at w u))) else true

abbrev pub waits_ok : World → ℕ → ℕ → Bool
waits_ok w a u = adapter_of u == a && is_queued (unit_at w u).phase

abbrev pub raised_ok : World → ℕ → ℕ → Bool
raised_ok w a k = bit_at (adapter_at w a).state.attentions k == (if (unit_at w (unit_on a k)).drive.attention then 1 else 0)

abbrev pub adapter_ok : World → ℕ → Bool
adapter_ok w a =
    all_of (waits_ok w a) (adapter_at w a).queue
    && (all_of (raised_ok w a) (0 ∷ 1 ∷ 2 ∷ 3 ∷ 4 ∷ 5 ∷ 6 ∷ 7 ∷ [])
    && (nat_lt (adapter_at w a).state.drive 8
    && (if (adapter_at w a).state.busy then is_busy_phase (unit_at w (unit_on a (adapter_at w a).state.drive)).phase
    else not (adapter_at w a).state.completion)))

abbrev pub slots_in : List Waiter → List ℕ
slots_in queue = map (λ (x : Waiter). x.number) queue

-- the blocks of a buffer are whole, but for the last one, which has so many bytes
abbrev pub are_whole : List (List ℕ) → ℕ → Bool
are_whole [] last = true
are_whole (block ∷ []) last = length block == last
are_whole (block ∷ next ∷ rest) last = length block == 512 && are_whole (next ∷ rest) last

abbrev pub slot_ok_with : World → ℕ → Option Held → Bool
slot_ok_with w p None = true
slot_ok_with w p (Some h) =
    implies (not h.ended) (times_in p (slots_in (unit_at w h.unit).queue) == 1)
    && (implies h.on_bus (p == slot_in_hand (unit_at w h.unit) && is_busy_phase (unit_at w h.unit).phase)
    && (nat_le (h.first + h.loan.count) (limit_of (unit_at w h.unit).drive.kind)
    && (length h.blocks == h.loan.count && are_whole h.blocks h.loan.last)))

abbrev pub numbers_below : ℕ → List ℕ
numbers_below zero = []
numbers_below (suc n) = n ∷ numbers_below n

-- an answer that waits
abbrev pub made_ok_at : Option ℕ → World → Answer → Bool
made_ok_at None w answer = refuses answer.kind
made_ok_at (Some p) w answer = answer.id == (held_in w p).id && (held_in w p).ended

abbrev pub made_ok : World → Made → Bool
made_ok w made = made_ok_at made.slot w made.answer

abbrev pub sound_by : World → Bool
sound_by w =
    all_of (unit_ok w) (numbers_below 32)
    && (all_of (adapter_ok w) (numbers_below 4)
    && (all_of (λ p. slot_ok_with w p (slot_at w p)) (numbers_below (length w.slots))
    && (all_of (made_ok w) w.answers && (w.frames == frames_used w.slots && nat_le w.frames 16384))))

-- between two events
abbrev pub rests : Phase → ℕ → Bool
rests Waiting waiting = waiting == 0
rests (Due task) waiting = false
rests phase waiting = true

abbrev pub unit_at_work : World → ℕ → Bool
unit_at_work w u = rests (unit_at w u).phase (length (unit_at w u).queue)

abbrev pub adapter_at_work : World → ℕ → Bool
adapter_at_work w a = implies (not (adapter_at w a).state.busy) (length (adapter_at w a).queue == 0)

abbrev pub at_work : World → Bool
at_work w = all_of (unit_at_work w) (numbers_below 32) && all_of (adapter_at_work w) (numbers_below 4)
