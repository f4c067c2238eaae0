-- What a deed at one unit leaves of the adapter for the others, and that their phases hold on.
use Rattle.std.proofs.Common.{◌≡◌, ◌≢◌, ℕ, Bool, true, refl, sym, subst, arith, ◌∙◌, rules}
use Rattle.std.specs.Prelude.{if◌then◌else◌}
use Rattle.std.proofs.lemmas.Bool.{false≢true}
use Rattle.hardware_table.specs.declared.Work.TheVariants as work
use Rattle.hardware_table.specs.Drive.{DriveState}
use Rattle.hardware_table.specs.Adapter.{AdapterState}
use Rattle.driver_machine.specs.declared.Phase.{Phase}
use Rattle.driver_machine.specs.declared.Phase.TheVariants.{Waiting, Positioning, Queued, Transferring, Due}
use Rattle.driver_machine.specs.World.{UnitView, AdapterView, Held, drive_of, adapter_of}
use Rattle.driver_machine.specs.Acts as deed
use Rattle.driver_machine.specs.Acts.{Deed, Scene, effect}
use Rattle.driver_machine.specs.Guards.{May}
use Rattle.driver_machine.specs.Sound.{Among, IsPhase, IsUnderWay, IsQuiet, IsShown}
use Rattle.driver_laws.proofs.invariant.Lists.{among_more, among_rest}

-- the transfer of another drive goes on
pub record IsSameTransfer (old new : AdapterState) : Type 0 where
  pub busy : new.busy ≡ old.busy
  pub drive : new.drive ≡ old.drive
  pub completion : new.completion ≡ old.completion
  pub write : new.write ≡ old.write
  pub verdict : new.verdict ≡ old.verdict
  pub late : new.data_late ≡ old.data_late

pub record LeavesOthers (u : ℕ) (old new : AdapterView) : Type 0 where
  pub waits : (x : ℕ) → x ≢ u → Among x old.queue → Among x new.queue
  pub transfers : old.state.busy ≡ true → old.state.drive ≢ drive_of u → IsSameTransfer old.state new.state

pub alone : (u : ℕ) (a : AdapterView) → LeavesOthers u a a
alone u a = first_of (search rules, grind arith)

-- the transfer is this unit's own
own : (u : ℕ) (old new : AdapterView) → new.queue ≡ old.queue → old.state.drive ≡ drive_of u → LeavesOthers u old new
own u old new queue is = first_of (search rules, grind arith)

pub leaves_others : (line u p : ℕ) (d : Deed) (s : Scene) → May u d s → LeavesOthers u s.adapter (effect line u p d s).adapter
leaves_others line u p deed.Arrive s may = record {
  waits = λ x other is. is;
  transfers = λ busy other. record { busy = refl; drive = refl; completion = refl; write = refl; verdict = refl; late = refl };
}
leaves_others line u p (deed.Sector block t) s may = own u s.adapter (effect line u p (deed.Sector block t) s).adapter refl may.0.drive
leaves_others line u p (deed.Intr moved last) s may = own u s.adapter (effect line u p (deed.Intr moved last) s).adapter refl may.0.drive
leaves_others line u p (deed.Attn taken) s may = record {
  waits = λ x other is. is;
  transfers = λ busy other. record { busy = refl; drive = refl; completion = refl; write = refl; verdict = refl; late = refl };
}
leaves_others line u p (deed.End kind) s may = record {
  waits = λ x other is. among_rest x u s.adapter.queue other is;
  transfers = λ busy other. record { busy = refl; drive = refl; completion = refl; write = refl; verdict = refl; late = refl };
}
leaves_others line u p (deed.Move write segment) s may = record {
  waits = λ x other is. among_rest x u s.adapter.queue other is;
  transfers = λ busy other. absurd (false≢true (sym may.1 ∙ busy));
}
leaves_others line u p (deed.Ready t) s may = record {
  waits = λ x other is. among_more x u s.adapter.queue is;
  transfers = λ busy other. record { busy = refl; drive = refl; completion = refl; write = refl; verdict = refl; late = refl };
}
leaves_others line u p other s may = alone u s.adapter

-- the registers of a drive go by its transfer alone
quiet_too : {d : DriveState} {old new : AdapterState} → IsSameTransfer old new → IsQuiet d old → IsQuiet d new
quiet_too same is = record { clear = is.clear; late = same.late ∙ is.late }

shown_too : {d : DriveState} {old new : AdapterState} → IsSameTransfer old new → IsShown d old → IsShown d new
shown_too same is = first_of (search rules, grind arith)

-- units of one adapter with one drive are one
pub one_unit : (x u : ℕ) → adapter_of x ≡ adapter_of u → drive_of x ≡ drive_of u → x ≡ u
one_unit x u adapter drive = omega (arith, adapter, drive)

-- the phase of another unit of the adapter holds on
pub other_phase : (u x : ℕ) (v : UnitView) (old new : AdapterView) (h : Held) (phase : Phase) → x ≢ u → adapter_of x ≡ adapter_of u
    → LeavesOthers u old new → IsPhase x v old h phase → IsPhase x v new h phase
other_phase u x v old new h Waiting other one leaves is = is
other_phase u x v old new h (Positioning taken) other one leaves is = is
other_phase u x v old new h (Due task) other one leaves is = is
other_phase u x v old new h Queued other one leaves is = (is.0, is.1, leaves.waits x other is.2)
other_phase u x v old new h Transferring other one leaves is =
    let apart : old.state.drive ≢ drive_of u = λ (e : old.state.drive ≡ drive_of u). other (one_unit x u one (sym is.3 ∙ e)) in
    let same : IsSameTransfer old.state new.state = leaves.transfers is.2 apart in
    (is.0, under_way same is.1, same.busy ∙ is.2, same.drive ∙ is.3)
  where
    under_way : IsSameTransfer old.state new.state → IsUnderWay v.drive old.state → IsUnderWay v.drive new.state
    under_way same on = record {
      work =
          subst (λ (c : Bool). v.drive.work ≡ (if c then work.Ready else work.Transfer new.state.write)) (sym same.completion)
          (subst (λ (b : Bool). v.drive.work ≡ (if old.state.completion then work.Ready else work.Transfer b)) (sym same.write) on.work);
      attention = on.attention;
      quiet = λ down. quiet_too same (on.quiet (sym same.completion ∙ down));
      shown = λ up. shown_too same (on.shown (sym same.completion ∙ up));
    }
