-- RCOM AND WCOM: the segment lies on the drive and in the buffer, and behind them phase, drive and adapter hold.
use Rattle.std.proofs.Common.{◌≡◌, inl, inr, ℕ, ◌+◌, ◌<◌, ◌≤◌, Bool, Option, Some, None, refl, sym, ap, ◌∙◌, subst, arith, rules}
use Rattle.std.specs.Prelude.{if◌then◌else◌}
use Rattle.std.proofs.lemmas.Bool.{false≢true}
use Rattle.pack_geometry.specs.Geometry.{IsInside, place_at}
use Rattle.hardware_table.specs.Drive.{DriveState}
use Rattle.hardware_table.specs.Adapter.{AdapterState, IsAdapter, loaded, started}
use Rattle.main_memory.specs.Blocks.{Loan, IsLoan}
use Rattle.transfer_engine.specs.declared.job.Job.{Job}
use Rattle.transfer_engine.specs.declared.job.Segment.{Segment}
use Rattle.transfer_engine.specs.State.{TransferState, segment_by, segment_of}
use Rattle.driver_machine.specs.declared.Phase.TheVariants.{Queued, Transferring, Due}
use Rattle.driver_machine.specs.declared.Task.TheVariants.{Command}
use Rattle.driver_machine.specs.Acts.{Scene, effect, transferring}
use Rattle.driver_machine.specs.Acts as deed
use Rattle.driver_machine.specs.Sound.{IsDrive, IsBegun, IsPhase, IsTask, IsStill, IsUnderWay}
use Rattle.driver_machine.specs.World.{transfer_of, drive_of}
use Rattle.driver_machine.specs.Guards.{May}
use Rattle.driver_laws.proofs.invariant.Drives.{performed-transfer, drive_transfer}
use Rattle.driver_laws.proofs.invariant.Scene.{SceneOk, phase_is, same_ask, begun_as, due_of, segment_some}
use Rattle.driver_laws.proofs.invariant.DeedFacts.{sector_inside}
use Rattle.driver_laws.proofs.invariant.AdapterLeft.{SceneAdapter, AdapterLeft}
use Rattle.driver_laws.proofs.invariant.Lists.{among_left, once_left}
use Rattle.driver_machine.proofs.Dues.{IsAtCommand, IsDue}

-- RCOM AND WCOM
pub at_command : (u : ℕ) (s : Scene) → SceneOk u s → IsAtCommand s.unit.phase → IsBegun s.unit s.held × IsStill s.unit.drive
at_command u s ok at = elim at [
  | inl command ↦ let is : IsTask s.unit s.held Command = phase_is u s (Due Command) ok command in (is.0, is.1)
  | inr queued ↦ let is : IsPhase u s.unit s.adapter s.held Queued = phase_is u s Queued ok queued in (is.0, is.1)
]

command_inside : (segment : Segment) (s : Scene) → IsBegun s.unit s.held → segment ≡ segment_of (transfer_of s.unit)
    → IsInside s.unit.drive.kind (place_at s.unit.drive.kind segment.block)
command_inside segment s is same =
    subst (λ (x : Segment). IsInside s.unit.drive.kind (place_at s.unit.drive.kind x.block)) (sym same) (sector_inside s is)

pub move_phase : (line u p : ℕ) (write : Bool) (segment : Segment) (s : Scene) → SceneOk u s → IsDue s.unit s.held (deed.Move write segment)
    → IsPhase u (effect line u p (deed.Move write segment) s).unit (effect line u p (deed.Move write segment) s).adapter s.held Transferring
move_phase line u p write segment s ok due =
    let is = at_command u s ok due.0 in
    let inside = command_inside segment s is.0 due.3 in
    let e = performed-transfer write s.unit.drive (place_at s.unit.drive.kind segment.block) inside due.1.unlocked in
    let a = (effect line u p (deed.Move write segment) s).adapter.state in
    let way : IsUnderWay (transferring write segment.block s.unit.drive) a = subst (λ (d : DriveState). IsUnderWay d a) (sym e) (record {
      work = refl;
      attention = is.1.attention;
      quiet = λ down. record { clear = record { er1 = is.1.clear.er1; er2 = is.1.clear.er2 }; late = refl };
      shown = λ up. absurd (false≢true up);
    }) in (
      begun_as s.unit (effect line u p (deed.Move write segment) s).unit s.held s.held is.0 refl refl (ap (λ (d : DriveState). d.kind) e) (same_ask s.held),
      way,
      refl,
      refl,
    )

pub move_drive : (line u p : ℕ) (write : Bool) (segment : Segment) (s : Scene) → SceneOk u s → May u (deed.Move write segment) s
    → IsDrive (effect line u p (deed.Move write segment) s).unit.drive
move_drive line u p write segment s ok may =
    let due = due_of u (deed.Move write segment) s may.0 in
    drive_transfer write s.unit.drive (place_at s.unit.drive.kind segment.block)
    (command_inside segment s (at_command u s ok due.0).0 due.3) due.1.unlocked ok.drive

-- A TRANSFER BEGINS. Its segment lies in the buffer.
segment_inside : (index : Option ℕ) (job : Job) (done : ℕ) → done < job.count → (segment_by index job done).skip + (segment_by index job done).count ≤ job.count
segment_inside None job done left = omega (arith, left)
segment_inside (Some i) job done left = omega (arith, left)

started_adapter : (a : AdapterState) (loan : Loan) (skip count drive block : ℕ) (write : Bool) → IsLoan loan → 1 ≤ count → skip + count ≤ loan.count
    → IsAdapter (started drive block write (loaded loan.frames loan.offset loan.count loan.last skip count a))
started_adapter a loan skip count drive block write is some inside = first_of (search rules, grind arith)

pub move_left : (line u p : ℕ) (write : Bool) (segment : Segment) (s : Scene) → SceneOk u s → SceneAdapter u s → IsDue s.unit s.held (deed.Move write segment)
    → AdapterLeft u s.adapter (effect line u p (deed.Move write segment) s).unit (effect line u p (deed.Move write segment) s).adapter
    (effect line u p (deed.Move write segment) s).held
move_left line u p write segment s ok at due =
    let e : Scene = effect line u p (deed.Move write segment) s in
    let t : TransferState = transfer_of s.unit in
    let is = at_command u s ok due.0 in
    let inside = command_inside segment s is.0 due.3 in
    let done = performed-transfer write s.unit.drive (place_at s.unit.drive.kind segment.block) inside due.1.unlocked in
    let some : 1 ≤ segment.count = subst (λ (x : Segment). 1 ≤ x.count) (sym due.3) (segment_some t is.0.is) in
    let fits : segment.skip + segment.count ≤ s.held.loan.count =
    subst (λ (x : Segment). x.skip + x.count ≤ s.held.loan.count) (sym due.3)
    (subst (λ (j : Job). (segment_of t).skip + (segment_of t).count ≤ j.count) is.0.job (segment_inside t.index t.job t.done is.0.is.left)) in
    record {
      state = started_adapter s.adapter.state s.held.loan segment.skip segment.count (drive_of u) segment.block write ok.loan some fits;
      drive = at.unit;
      own = λ busy drive. record {
        phase = refl;
        on_bus = refl;
        loan = refl;
        segment = due.3;
        write = due.2;
        over = λ up. absurd (false≢true up);
        whole = λ up. absurd (false≢true up);
      };
      elsewhere = λ busy other. absurd (other refl);
      rest = λ free. refl;
      waits = λ x m other. (among_left x u s.adapter.queue m).0;
      mine = λ m. absurd ((among_left u u s.adapter.queue m).1 refl);
      once = once_left u s.adapter.queue at.once;
      small = at.small;
      bits = λ k lt other. refl;
      bit = at.bit ∙ ap (λ b. if b then 1 else 0) (sym (ap (λ (d : DriveState). d.attention) done));
    }
