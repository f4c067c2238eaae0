-- What holds of the scene of a deed, and what a transfer that goes on keeps.
use Rattle.std.proofs.Common.{◌≡◌, inl, inr, ℕ, ◌+◌, ◌<◌, ◌≤◌, Bool, true, false, Some, refl, sym, subst, arith, rules}
use Rattle.std.specs.Prelude.{if◌then◌else◌}
use Rattle.pack_geometry.specs.Geometry.{limit_of, block_count}
use Rattle.pack_geometry.specs.TableSpelling.{Table}
use Rattle.hardware_table.specs.declared.Moved.TheVariants as verdict
use Rattle.hardware_table.specs.Moves.{was_read}
use Rattle.hardware_table.specs.Adapter.{AdapterState, IsAdapter, next_window}
use Rattle.main_memory.specs.Blocks.{IsLoan}
use Rattle.transfer_engine.specs.State.{TransferState, IsJob, IsTransfer, segment_of}
use Rattle.driver_machine.specs.declared.Phase.{Phase}
use Rattle.driver_machine.specs.declared.Phase.TheVariants.{Waiting, Positioning, Queued, Transferring, Due}
use Rattle.driver_machine.specs.declared.Task.TheVariants.{Clear, Judge, Steps, Command, GiveUp}
use Rattle.driver_machine.specs.World.{UnitView, AdapterView, Held, transfer_of, job_of, drive_of, with_block_in}
use Rattle.driver_machine.specs.Acts as deed
use Rattle.driver_machine.specs.Acts.{Deed, Scene, effect}
use Rattle.driver_machine.specs.Guards.{IsNext}
use Rattle.driver_machine.specs.Sound.{IsDrive, IsBegun, IsPhase, IsTableFor, IsEndedAt, IsFor}
use Rattle.driver_machine.proofs.DueFacts.{due_facts, chosen_facts}
use Rattle.driver_machine.proofs.Dues.{IsDue}

-- WHAT HOLDS OF A SCENE. Where the adapter is busy for the unit, it transfers for the request in hand.
pub record HasTransferFor (v : UnitView) (h : Held) (a : AdapterState) : Type 0 where
  pub phase : v.phase ≡ Transferring
  pub on_bus : h.on_bus ≡ true
  pub loan : record { frames = a.frames; offset = a.offset; count = a.blocks; last = a.last } ≡ h.loan
  pub segment : record { block = a.block; skip = a.skip; count = a.count } ≡ segment_of (transfer_of v)
  pub write : a.write ≡ h.write
  pub over : a.completion ≡ true → IsEndedAt a.verdict a.moved a.count × IsFor h.write a.verdict
  pub whole : a.completion ≡ true → a.verdict ≡ verdict.Clean → a.moved ≡ a.count

abbrev pub HasTransfer : Scene → Type 0
HasTransfer s = HasTransferFor s.unit s.held s.adapter.state

-- The drive, the phase and the table are as they have to be, what is asked lies on the pack, and the adapter is one.
pub record SceneOk (u : ℕ) (s : Scene) : Type 0 where
  pub drive : IsDrive s.unit.drive
  pub phase : IsPhase u s.unit s.adapter s.held s.unit.phase
  pub table : (table : Table) → s.unit.table ≡ Some table → IsTableFor s.unit.drive.kind table
  pub loan : IsLoan s.held.loan
  pub inside : s.held.first + s.held.loan.count ≤ limit_of s.unit.drive.kind
  pub adapter : IsAdapter s.adapter.state
  pub transfer : s.adapter.state.busy ≡ true → s.adapter.state.drive ≡ drive_of u → HasTransfer s

-- the phase of a unit, once it is known
pub phase_is : (u : ℕ) (s : Scene) (phase : Phase) → SceneOk u s → s.unit.phase ≡ phase → IsPhase u s.unit s.adapter s.held phase
phase_is u s phase ok is = subst (IsPhase u s.unit s.adapter s.held) is ok.phase

-- what may come because it is due, or because the adapter takes the unit
pub due_of : (u : ℕ) (d : Deed) (s : Scene) → IsNext u d s → IsDue s.unit s.held d
due_of u d s next = elim next [
  | inl is ↦ due_facts s.unit s.held d is
  | inr chosen ↦ subst (IsDue s.unit s.held) (sym chosen.due) (chosen_facts s.unit s.held chosen.phase)
]

pub job_is : (u : ℕ) (s : Scene) → SceneOk u s → IsJob (job_of s.unit.drive.kind s.held)
job_is u s ok = record { some = ok.loan.shape.some; few = ok.loan.shape.few; below = ok.inside }

-- THE SAME REQUEST, as far as it says what is asked
pub record IsSameAsk (h g : Held) : Type 0 where
  pub first : g.first ≡ h.first
  pub loan : g.loan ≡ h.loan
  pub write : g.write ≡ h.write

pub same_ask : (h : Held) → IsSameAsk h h
same_ask h = record { first = refl; loan = refl; write = refl }

pub effect_ask : (line u p : ℕ) (d : Deed) (s : Scene) → IsSameAsk s.held (effect line u p d s).held
effect_ask line u p (deed.Sector block t) s = by_read (was_read s.unit.drive t.verdict)
  where
    by_read : (b : Bool) → IsSameAsk s.held (if b then with_block_in (next_window s.adapter.state) t.bytes s.held else s.held)
    by_read true = record { first = refl; loan = refl; write = refl }
    by_read false = record { first = refl; loan = refl; write = refl }
effect_ask line u p (deed.Intr moved last) s = record { first = refl; loan = refl; write = refl }
effect_ask line u p (deed.Move write segment) s = record { first = refl; loan = refl; write = refl }
effect_ask line u p (deed.Repair moved at pattern) s = record { first = refl; loan = refl; write = refl }
effect_ask line u p (deed.End kind) s = record { first = refl; loan = refl; write = refl }
effect_ask line u p other s = record { first = refl; loan = refl; write = refl }

-- A TRANSFER GOES ON where the transfer, the table, the drive's kind and what is asked are as before.
pub begun_as : (v x : UnitView) (h g : Held) → IsBegun v h → x.transfer ≡ v.transfer → x.table ≡ v.table → x.drive.kind ≡ v.drive.kind → IsSameAsk h g → IsBegun x g
begun_as v x h g is transfer table kind ask = first_of (search rules, grind arith)

-- what holds of a phase holds for the same request
pub phase_held : (u : ℕ) (v : UnitView) (a : AdapterView) (h g : Held) (phase : Phase) → IsSameAsk h g → IsPhase u v a h phase → IsPhase u v a g phase
phase_held u v a h g Waiting ask is = is
phase_held u v a h g (Positioning taken) ask is = (begun_as v v h g is.0 refl refl refl ask, is.1, is.2)
phase_held u v a h g Queued ask is = (begun_as v v h g is.0 refl refl refl ask, is.1, is.2)
phase_held u v a h g Transferring ask is = (begun_as v v h g is.0 refl refl refl ask, is.1, is.2, is.3)
phase_held u v a h g (Due (Clear moved last)) ask is =
    (begun_as v v h g is.0 refl refl refl ask, is.1, is.2, is.3, subst (λ b. IsFor b last) (sym ask.write) is.4)
phase_held u v a h g (Due (Judge moved last)) ask is =
    (begun_as v v h g is.0 refl refl refl ask, is.1, is.2, subst (λ b. IsFor b last) (sym ask.write) is.3)
phase_held u v a h g (Due (Steps taken)) ask is = (begun_as v v h g is.0 refl refl refl ask, is.1, is.2)
phase_held u v a h g (Due Command) ask is = (begun_as v v h g is.0 refl refl refl ask, is.1)
phase_held u v a h g (Due (GiveUp done)) ask is = (is.0, is.1, subst (λ l. done < l.count) (sym ask.loan) is.2)

-- THE SECTORS OF A SEGMENT lie on the pack.
pub block_below : (v : UnitView) (h : Held) (k : ℕ) → IsBegun v h → k < (segment_of (transfer_of v)).count
    → (segment_of (transfer_of v)).block + k < block_count v.drive.kind
block_below v h k begun less = first_of (search rules, grind arith)

pub segment_some : (t : TransferState) → IsTransfer t → 0 < (segment_of t).count
segment_some t is = first_of (search rules, grind arith)
