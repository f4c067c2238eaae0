-- A unit for which a deed is done keeps a drive that is one, a phase that holds, and what holds of its adapter.
use Rattle.std.proofs.Common.{ℕ, sym, subst}
use Rattle.driver_machine.specs.Acts as deed
use Rattle.driver_machine.specs.Acts.{Deed, Scene, effect}
use Rattle.driver_machine.specs.Sound.{IsDrive, IsPhase}
use Rattle.driver_machine.specs.Guards.{May}
use Rattle.driver_laws.proofs.invariant.Scene.{SceneOk, due_of, effect_ask, phase_held}
use Rattle.driver_laws.proofs.invariant.AdapterLeft.{SceneAdapter, AdapterLeft}
use Rattle.driver_laws.proofs.invariant.Dclr.{dclr_phase, dclr_drive, dclr_left}
use Rattle.driver_laws.proofs.invariant.Rtc.{rtc_phase, rtc_drive, rtc_left}
use Rattle.driver_laws.proofs.invariant.Repair.{repair_phase, repair_left}
use Rattle.driver_laws.proofs.invariant.Continue.{continue_phase, continue_left}
use Rattle.driver_laws.proofs.invariant.Try.{try_phase, try_left}
use Rattle.driver_laws.proofs.invariant.Forward.{forward_phase, forward_left}
use Rattle.driver_laws.proofs.invariant.Pack.{pack_phase, pack_drive, pack_left}
use Rattle.driver_laws.proofs.invariant.End.{end_phase, end_left}
use Rattle.driver_laws.proofs.invariant.Search.{search_phase, search_drive, search_left}
use Rattle.driver_laws.proofs.invariant.Do.{do_phase, do_drive, do_left}
use Rattle.driver_laws.proofs.invariant.Move.{move_phase, move_drive, move_left}
use Rattle.driver_laws.proofs.invariant.Ready.{ready_phase, ready_left}
use Rattle.driver_laws.proofs.invariant.Arrive.{arrive_phase, arrive_drive, arrive_left}
use Rattle.driver_laws.proofs.invariant.Attn.{attn_phase, attn_drive, attn_left}
use Rattle.driver_laws.proofs.invariant.Sector.{sector_phase, sector_drive, sector_left}
use Rattle.driver_laws.proofs.invariant.Intr.{intr_phase, intr_left}

-- THE PHASE, for the request as it was
phase_left : (line u p : ℕ) (d : Deed) (s : Scene) → SceneOk u s → May u d s
    → IsPhase u (effect line u p d s).unit (effect line u p d s).adapter s.held (effect line u p d s).unit.phase
phase_left line u p deed.Arrive s ok may = arrive_phase line u p s ok may
phase_left line u p (deed.Sector block t) s ok may = sector_phase line u p block t s ok may.0
phase_left line u p (deed.Intr moved last) s ok may = intr_phase line u p moved last s ok may
phase_left line u p (deed.Attn taken) s ok may = attn_phase line u p taken s ok may
phase_left line u p (deed.Search target sector) s ok may = search_phase line u p sector target s ok (due_of u (deed.Search target sector) s may)
phase_left line u p (deed.Do step taken) s ok may = do_phase line u p taken step s ok (due_of u (deed.Do step taken) s may)
phase_left line u p (deed.Move write segment) s ok may = move_phase line u p write segment s ok (due_of u (deed.Move write segment) s may.0)
phase_left line u p deed.Pack s ok may = pack_phase line u p s ok (due_of u deed.Pack s may)
phase_left line u p (deed.Dclr moved last) s ok may = dclr_phase line u p moved last s ok (due_of u (deed.Dclr moved last) s may)
phase_left line u p deed.Rtc s ok may =
    let due = due_of u deed.Rtc s may in
    subst (IsPhase u (effect line u p deed.Rtc s).unit s.adapter s.held) (sym due.2) (rtc_phase line u p due.0 due.1 s ok due.2)
phase_left line u p (deed.Ready t) s ok may = ready_phase line u p t s ok (due_of u (deed.Ready t) s may)
phase_left line u p (deed.Repair moved at pattern) s ok may = repair_phase line u p moved at pattern s ok (due_of u (deed.Repair moved at pattern) s may)
phase_left line u p (deed.Forward moved index) s ok may = forward_phase line u p moved index s ok (due_of u (deed.Forward moved index) s may)
phase_left line u p (deed.Continue moved) s ok may = continue_phase line u p moved s ok (due_of u (deed.Continue moved) s may)
phase_left line u p (deed.Try moved block number next) s ok may =
    try_phase line u p moved block number next s ok (due_of u (deed.Try moved block number next) s may)
phase_left line u p (deed.End kind) s ok may =
    end_phase line u p kind s (effect line u p (deed.End kind) s).adapter s.held ok (due_of u (deed.End kind) s may)

pub own_phase : (line u p : ℕ) (d : Deed) (s : Scene) → SceneOk u s → May u d s
    → IsPhase u (effect line u p d s).unit (effect line u p d s).adapter (effect line u p d s).held (effect line u p d s).unit.phase
own_phase line u p d s ok may =
    phase_held u (effect line u p d s).unit (effect line u p d s).adapter s.held (effect line u p d s).held (effect line u p d s).unit.phase
    (effect_ask line u p d s) (phase_left line u p d s ok may)

-- THE DRIVE
pub own_drive : (line u p : ℕ) (d : Deed) (s : Scene) → SceneOk u s → May u d s → IsDrive (effect line u p d s).unit.drive
own_drive line u p deed.Arrive s ok may = arrive_drive line u p s ok may
own_drive line u p (deed.Sector block t) s ok may = sector_drive line u p block t s ok may
own_drive line u p (deed.Attn taken) s ok may = attn_drive line u p taken s ok may
own_drive line u p (deed.Search target sector) s ok may = search_drive line u p target sector s ok may
own_drive line u p (deed.Do step taken) s ok may = do_drive line u p step taken s ok may
own_drive line u p (deed.Move write segment) s ok may = move_drive line u p write segment s ok may
own_drive line u p deed.Pack s ok may = pack_drive line u p s ok may
own_drive line u p (deed.Dclr moved last) s ok may = dclr_drive line u p moved last s ok may
own_drive line u p deed.Rtc s ok may = rtc_drive line u p s ok may
own_drive line u p other s ok may = ok.drive

-- THE ADAPTER
pub deed_left : (line u p : ℕ) (d : Deed) (s : Scene) → SceneOk u s → SceneAdapter u s → May u d s
    → AdapterLeft u s.adapter (effect line u p d s).unit (effect line u p d s).adapter (effect line u p d s).held
deed_left line u p deed.Arrive s ok at may = arrive_left line u p s ok at may
deed_left line u p (deed.Attn taken) s ok at may = attn_left line u p taken s ok at may
deed_left line u p (deed.Sector block t) s ok at may = sector_left line u p block t s ok at may
deed_left line u p (deed.Intr moved last) s ok at may = intr_left line u p moved last s ok at may
deed_left line u p (deed.Move write segment) s ok at may = move_left line u p write segment s ok at (due_of u (deed.Move write segment) s may.0)
deed_left line u p (deed.Search target sector) s ok at may = search_left line u p target sector s ok at may
deed_left line u p (deed.Do step taken) s ok at may = do_left line u p step taken s ok at may
deed_left line u p deed.Pack s ok at may = pack_left line u p s ok at may
deed_left line u p (deed.Dclr moved last) s ok at may = dclr_left line u p moved last s ok at may
deed_left line u p deed.Rtc s ok at may = rtc_left line u p s ok at may
deed_left line u p (deed.Ready t) s ok at may = ready_left line u p t s ok at may
deed_left line u p (deed.Repair moved place pattern) s ok at may = repair_left line u p moved place pattern s ok at may
deed_left line u p (deed.Forward moved index) s ok at may = forward_left line u p moved index s ok at may
deed_left line u p (deed.Continue moved) s ok at may = continue_left line u p moved s ok at may
deed_left line u p (deed.Try moved block number next) s ok at may = try_left line u p moved block number next s ok at may
deed_left line u p (deed.End kind) s ok at may = end_left line u p kind s ok at may
