-- SEARCH: its place lies on the drive, and behind it phase, drive and adapter hold.
use Rattle.std.proofs.Common.{◌≡◌, inl, ℕ, ◌/◌, ◌<◌, Bool, true, false, refl, sym, ap, subst, arith, rules}
use Rattle.std.specs.Prelude.{if◌then◌else◌}
use Rattle.pack_geometry.specs.declared.DriveKind.{DriveKind}
use Rattle.pack_geometry.specs.declared.Place.{Place}
use Rattle.pack_geometry.specs.Geometry.{sectors_of, IsInside}
use Rattle.hardware_table.specs.Drive.{DriveState}
use Rattle.trace_replay.specs.declared.seek_engine.Position.{Position}
use Rattle.trace_replay.specs.declared.seek_engine.Position.TheVariants as position
use Rattle.trace_replay.specs.Seek.{position_for, sector_before}
use Rattle.trace_replay.specs.Drives.{search_place}
use Rattle.driver_machine.specs.declared.Phase.TheVariants.{Waiting, Positioning}
use Rattle.driver_machine.specs.Acts.{Scene, effect, searching}
use Rattle.driver_machine.specs.Acts as deed
use Rattle.driver_machine.specs.Sound.{IsDrive, IsPhase, IsMoving}
use Rattle.driver_machine.specs.Guards.{May}
use Rattle.driver_machine.specs.Due.{target_of, position_of}
use Rattle.driver_laws.proofs.invariant.Drives.{sector_below, performed-search, drive_search}
use Rattle.driver_laws.proofs.invariant.Scene.{SceneOk, phase_is, due_of}
use Rattle.driver_laws.proofs.invariant.DeedFacts.{new_begun}
use Rattle.driver_laws.proofs.invariant.AdapterLeft.{SceneAdapter, AdapterLeft, is_transferring, is_queued, due_left}
use Rattle.driver_machine.proofs.Dues.{IsDue}

-- SEARCH. The target lies on the drive, and so does the place that is searched.
first_inside : (u : ℕ) (s : Scene) → SceneOk u s → IsInside s.unit.drive.kind (target_of s.unit s.held)
first_inside u s ok = first_of (search rules, grind arith)

search_by : (b : Bool) (x y c k : ℕ) → ◌≡◌ {A = Position} (if b then position.Ready else position.Search x y) (position.Search c k) → k ≡ y
search_by true x y c k e = absurd (cc)
search_by false x y c k e = cc

search_sector : (kind : DriveKind) (here look : ℕ) (target : Place) (c k : ℕ) → position_for kind here look target true ≡ position.Search c k → k < sectors_of kind
search_sector kind here look target c k e =
    subst (λ n. n < sectors_of kind) (sym (search_by _ target.cylinder (sector_before (sectors_of kind) 3 target.sector) c k e)) (sector_below kind _)

pub searched_inside : (u sector : ℕ) (target : Place) (s : Scene) → SceneOk u s → IsDue s.unit s.held (deed.Search target sector)
    → IsInside s.unit.drive.kind (search_place target.cylinder sector target)
searched_inside u sector target s ok due =
    let at : IsInside s.unit.drive.kind target = subst (IsInside s.unit.drive.kind) (sym due.2) (first_inside u s ok) in
    let here : position_of s.unit s.held ≡ position.Search target.cylinder sector = due.3 in
    record {
      cylinder = at.cylinder;
      track = at.track;
      sector = search_sector s.unit.drive.kind s.unit.drive.cc (s.unit.drive.la / 64) (target_of s.unit s.held) target.cylinder sector here;
    }

pub search_phase : (line u p sector : ℕ) (target : Place) (s : Scene) → SceneOk u s → IsDue s.unit s.held (deed.Search target sector)
    → IsPhase u (effect line u p (deed.Search target sector) s).unit s.adapter s.held (Positioning 0)
search_phase line u p sector target s ok due =
    let is : IsPhase u s.unit s.adapter s.held Waiting = phase_is u s Waiting ok due.0 in
    let inside = searched_inside u sector target s ok due in
    let e = performed-search s.unit.drive (search_place target.cylinder sector target) inside in
    let moving : IsMoving (searching target sector s.unit.drive) = subst IsMoving (sym e) (record {
      either = inl ((inside.cylinder, inside.sector), is.0.attention);
      clear = record { er1 = is.0.clear.er1; er2 = is.0.clear.er2 };
    }) in
    (new_begun u s _ ok refl refl (ap (λ (d : DriveState). d.kind) e), moving, omega arith)

pub search_drive : (line u p : ℕ) (target : Place) (sector : ℕ) (s : Scene) → SceneOk u s → May u (deed.Search target sector) s
    → IsDrive (effect line u p (deed.Search target sector) s).unit.drive
search_drive line u p target sector s ok may =
    drive_search s.unit.drive (search_place target.cylinder sector target)
    (searched_inside u sector target s ok (due_of u (deed.Search target sector) s may)) ok.drive

pub search_left : (line u p : ℕ) (target : Place) (sector : ℕ) (s : Scene) → SceneOk u s → SceneAdapter u s → May u (deed.Search target sector) s
    → AdapterLeft u s.adapter (effect line u p (deed.Search target sector) s).unit (effect line u p (deed.Search target sector) s).adapter
    (effect line u p (deed.Search target sector) s).held
search_left line u p target sector s ok at may =
    let due = due_of u (deed.Search target sector) s may in
    due_left u s ok at (effect line u p (deed.Search target sector) s).unit s.held (ap is_transferring due.0) (ap is_queued due.0)
    (ap (λ (d : DriveState). d.attention) (performed-search s.unit.drive (search_place target.cylinder sector target) (searched_inside u sector target s ok due)))
