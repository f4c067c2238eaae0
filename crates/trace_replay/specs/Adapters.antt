-- THE RULE OF ADAPTERS. Each adapter does what the hardware table says: it has one transfer at a time, sector by sector, until its
-- interrupt is taken. It also keeps the units that are ready to transfer, in the order in which they became ready.
use Rattle.std.specs.Prelude.{◌≡◌, ℕ, ◌==◌, ◌&&◌, ◌/◌, ◌%◌, ◌*◌, ◌+◌, Bool, true, false, not, if◌then◌else◌, List, [], ◌∷◌, ◌++◌, filter}
use Rattle.std.specs.Int.{bit_at}
use Rattle.std.specs.List.{list_any}
use Rattle.hardware_table.specs.Adapter.{AdapterState, new_adapter, loaded, started, stepped, next_block, completed, attention_raised, attention_lowered}
use Rattle.trace_replay.specs.Moments.{Deed, Transfer, Arrive, Sector, Intr, Attn, End}

-- unit u is drive u % 8 of adapter u / 8
abbrev pub adapter_of : ℕ → ℕ
adapter_of unit = unit / 8

-- its number as a drive of its adapter
abbrev pub drive_of : ℕ → ℕ
drive_of unit = unit % 8

-- the unit of a drive of an adapter
abbrev pub unit_on : ℕ → ℕ → ℕ
unit_on adapter drive = 8 * adapter + drive

-- an adapter, and the units that are ready at it
pub record AdapterSeen : Type 0 where
  pub state : AdapterState
  pub ready : List ℕ

-- at the start an adapter is free and no unit is ready
abbrev pub free_adapter : AdapterSeen
free_adapter = record { state = new_adapter; ready = [] }

-- the adapter transfers for this unit
abbrev pub is_busy_for : AdapterState → ℕ → Bool
is_busy_for a unit = a.busy && (a.drive == drive_of unit)

-- a sector can move: a transfer is under way, and its completion is down
abbrev pub can_move : AdapterState → Bool
can_move a = a.busy && not a.completion

-- the drives of an adapter, in ascending order
abbrev pub drives_of_adapter : List ℕ
drives_of_adapter = 0 ∷ 1 ∷ 2 ∷ 3 ∷ 4 ∷ 5 ∷ 6 ∷ 7 ∷ []

-- the drives whose attention is up, in ascending order
abbrev pub attentive : AdapterState → List ℕ
attentive a = filter (λ drive. bit_at a.attentions drive == 1) drives_of_adapter

-- A transfer is commanded at a free adapter: one that was kept is free again at its interrupt. A sector is its next block.
abbrev pub AdapterMay : AdapterState → ℕ → Deed → Type 0
AdapterMay a unit (Transfer write block count) = a.busy ≡ false
AdapterMay a unit (Sector block verdict) = (is_busy_for a unit && can_move a ≡ true) × (block ≡ next_block a)
AdapterMay a unit Intr = is_busy_for a unit && a.completion ≡ true
AdapterMay a unit Attn = bit_at a.attentions (drive_of unit) ≡ 1
AdapterMay a unit deed = Unit {0}

-- the buffer that is loaded is not seen: its frames are left out, and its blocks are whole
abbrev pub adapter_after : AdapterState → ℕ → Deed → AdapterState
adapter_after a unit (Transfer write block count) = started (drive_of unit) block write (loaded [] 0 count 512 0 count a)
adapter_after a unit (Sector block verdict) = stepped verdict a
adapter_after a unit Intr = completed a
adapter_after a unit Arrive = attention_raised (drive_of unit) a
adapter_after a unit Attn = attention_lowered (drive_of unit) a
adapter_after a unit deed = a

-- THE UNITS THAT ARE READY. A unit leaves where its transfer is commanded or its request ends, and joins behind all others
-- where its request comes to wait for the adapter.
abbrev pub without : ℕ → List ℕ → List ℕ
without unit ready = filter (λ other. not (other == unit)) ready

-- the lines at which a unit is taken from those that are ready
abbrev pub leaves : Deed → Bool
leaves (Transfer write block count) = true
leaves (End answer) = true
leaves deed = false

-- a unit that waits joins behind all others, where it is not there yet
abbrev pub with_ready : Bool → ℕ → List ℕ → List ℕ
with_ready waits unit ready = if waits && not (list_any (λ other. other == unit) ready) then ready ++ unit ∷ [] else ready

-- the ready units after a line of a unit that then waits for its adapter or does not
abbrev pub ready_after : Bool → ℕ → Deed → List ℕ → List ℕ
ready_after waits unit deed ready = with_ready waits unit (if leaves deed then without unit ready else ready)
