-- A REPLACEMENT comes next: it is that of the entry which lists the block, and phase and adapter hold.
use Rattle.std.proofs.Common.{◌≡◌, ℕ, ◌+◌, ◌<◌, get_or, Option, Some, None, refl, sym, ap, ◌∙◌, subst, arith, rules}
use Rattle.std.specs.Prelude.{slice_get}
use Rattle.std.proofs.lemmas.List.Quantifiers.{position-Some}
use Rattle.std.proofs.lemmas.Option.{slice_get-get_or}
use Rattle.pack_geometry.specs.declared.DriveKind.{DriveKind}
use Rattle.pack_geometry.specs.declared.Place.{Place}
use Rattle.pack_geometry.specs.Geometry.{place_at}
use Rattle.pack_geometry.specs.TableSpelling.{Table}
use Rattle.pack_geometry.specs.PackTable.{places_of}
use Rattle.pack_geometry.specs.Homes.{is_place}
use Rattle.hardware_table.specs.declared.Moved.TheVariants as verdict
use Rattle.transfer_engine.specs.declared.job.Job.{Job}
use Rattle.transfer_engine.specs.State.{TransferState, segment_of}
use Rattle.transfer_engine.specs.Calls.{entry_by}
use Rattle.driver_machine.specs.declared.Task.TheVariants.{Judge, Command}
use Rattle.driver_machine.specs.Acts as deed
use Rattle.driver_machine.specs.Acts.{Scene, effect}
use Rattle.driver_machine.specs.Sound.{IsTask, IsTableFor}
use Rattle.driver_machine.specs.World.{transfer_of}
use Rattle.driver_machine.specs.Guards.{May}
use Rattle.driver_machine.proofs.DueFacts.{none_some}
use Rattle.driver_laws.proofs.invariant.Scene.{SceneOk, due_of}
use Rattle.driver_laws.proofs.invariant.DeedFacts.{judged_is, left_by}
use Rattle.driver_laws.proofs.invariant.AdapterLeft.{SceneAdapter, AdapterLeft, is_transferring, is_queued, due_left}
use Rattle.pack_geometry.proofs.HomeLaws.{same_place}
use Rattle.driver_machine.proofs.Dues.{IsDue}

-- FORWARD: the replacement that comes next is that of the entry which lists the block.
found_at : (index : Option ℕ) (table : Option Table) (place : Place) (i : ℕ) → entry_by index table place ≡ Some i
    → slice_get (places_of table) i ≡ Some place
found_at (Some k) table place i is = absurd (none_some is)
found_at None table place i is =
    let at = position-Some (is_place place) (places_of table) i place is in
    slice_get-get_or (places_of table) i place at.0 ∙ ap Some (sym (same_place place (get_or (places_of table) i place) at.1))

found_small : (index : Option ℕ) (kind : DriveKind) (table : Option Table) (place : Place) (i : ℕ)
    → ((x : Table) → table ≡ Some x → IsTableFor kind x) → entry_by index table place ≡ Some i → i < 126
found_small index kind table place i h0 h1 = first_of (search rules, grind arith)

some_number : (i k : ℕ) → Some i ≡ Some k → i ≡ k
some_number i k e = cc

pub forward_phase : (line u p moved index : ℕ) (s : Scene) → SceneOk u s → IsDue s.unit s.held (deed.Forward moved index)
    → IsTask (effect line u p (deed.Forward moved index) s).unit s.held Command
forward_phase line u p moved index s ok due =
    let is : IsTask s.unit s.held (Judge moved verdict.Marked) = judged_is u moved verdict.Marked s ok due.0 in
    let t : TransferState = transfer_of s.unit in
    let less : moved < (segment_of t).count = is.2 in
    let found = found_at t.index s.unit.table (place_at t.job.kind (t.job.first + (t.done + moved))) index due.1 in
    let small = found_small t.index s.unit.drive.kind s.unit.table (place_at t.job.kind (t.job.first + (t.done + moved))) index ok.table due.1 in
    let here : slice_get (places_of s.unit.table) index ≡ Some (place_at s.unit.drive.kind (s.held.first + (t.done + moved))) =
    subst (λ (j : Job). slice_get (places_of s.unit.table) index ≡ Some (place_at j.kind (j.first + (t.done + moved)))) is.0.job found in (
      record {
        some = refl;
        is = record {
          is_job = is.0.is.is_job;
          left = left_by t.index t.job t.done moved is.0.is.left less;
          tries = omega arith;
          entry = λ i at. subst (λ n. n < 126) (some_number index i at) small;
        };
        job = is.0.job;
        listed = λ i at.
            subst (λ n. slice_get (places_of s.unit.table) n ≡ Some (place_at s.unit.drive.kind (s.held.first + (t.done + moved))))
            (some_number index i at) here;
      },
      record { work = is.1.work; attention = is.1.attention; clear = is.1.clear },
    )

pub forward_left : (line u p moved index : ℕ) (s : Scene) → SceneOk u s → SceneAdapter u s → May u (deed.Forward moved index) s
    → AdapterLeft u s.adapter (effect line u p (deed.Forward moved index) s).unit (effect line u p (deed.Forward moved index) s).adapter
    (effect line u p (deed.Forward moved index) s).held
forward_left line u p moved index s ok at may =
    let due = due_of u (deed.Forward moved index) s may in
    due_left u s ok at (effect line u p (deed.Forward moved index) s).unit s.held (ap is_transferring due.0.phase) (ap is_queued due.0.phase) refl
