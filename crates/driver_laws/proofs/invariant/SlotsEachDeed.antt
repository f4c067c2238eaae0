-- What each deed but the last one keeps of its scene, and that its blocks fit.
use Rattle.std.proofs.Common.{◌≡◌, ℕ, true}
use Rattle.driver_machine.specs.declared.Phase.TheVariants.{Transferring}
use Rattle.driver_machine.specs.Guards.{May}
use Rattle.driver_machine.specs.Acts as deed
use Rattle.driver_machine.specs.Acts.{Deed, Scene, effect}
use Rattle.driver_laws.proofs.invariant.Hand.{Keeps, Fits}
use Rattle.driver_laws.proofs.invariant.SlotsSector.{sector_keeps, sector_fits}
use Rattle.driver_laws.proofs.invariant.SlotsArrive.{arrive_keeps, arrive_fits}
use Rattle.driver_laws.proofs.invariant.SlotsIntr.{intr_keeps, intr_fits}
use Rattle.driver_laws.proofs.invariant.SlotsAttn.{attn_keeps, attn_fits}
use Rattle.driver_laws.proofs.invariant.SlotsSearch.{search_keeps, search_fits}
use Rattle.driver_laws.proofs.invariant.SlotsDo.{do_keeps, do_fits}
use Rattle.driver_laws.proofs.invariant.SlotsMove.{move_keeps, move_fits}
use Rattle.driver_laws.proofs.invariant.SlotsPack.{pack_keeps, pack_fits}
use Rattle.driver_laws.proofs.invariant.SlotsDclr.{dclr_keeps, dclr_fits}
use Rattle.driver_laws.proofs.invariant.SlotsRtc.{rtc_keeps, rtc_fits}
use Rattle.driver_laws.proofs.invariant.SlotsReady.{ready_keeps, ready_fits}
use Rattle.driver_laws.proofs.invariant.SlotsRepair.{repair_keeps, repair_fits}
use Rattle.driver_laws.proofs.invariant.SlotsForward.{forward_keeps, forward_fits}
use Rattle.driver_laws.proofs.invariant.SlotsContinue.{continue_keeps, continue_fits}
use Rattle.driver_laws.proofs.invariant.SlotsTry.{try_keeps, try_fits}

-- behind it the request goes on
abbrev pub GoesOn : Deed → Type 0
GoesOn (deed.End kind) = ⊥
GoesOn other = Unit {0}

pub deed_keeps : (line u p : ℕ) (d : Deed) (s : Scene) → GoesOn d → Keeps s (effect line u p d s)
deed_keeps line u p deed.Arrive s on = arrive_keeps line u p s
deed_keeps line u p (deed.Sector block t) s on = sector_keeps line u p block t s
deed_keeps line u p (deed.Intr moved last) s on = intr_keeps line u p moved last s
deed_keeps line u p (deed.Attn taken) s on = attn_keeps line u p taken s
deed_keeps line u p (deed.Search target sector) s on = search_keeps line u p target sector s
deed_keeps line u p (deed.Do step taken) s on = do_keeps line u p step taken s
deed_keeps line u p (deed.Move write segment) s on = move_keeps line u p write segment s
deed_keeps line u p deed.Pack s on = pack_keeps line u p s
deed_keeps line u p (deed.Dclr moved last) s on = dclr_keeps line u p moved last s
deed_keeps line u p deed.Rtc s on = rtc_keeps line u p s
deed_keeps line u p (deed.Ready t) s on = ready_keeps line u p t s
deed_keeps line u p (deed.Repair moved at pattern) s on = repair_keeps line u p moved at pattern s
deed_keeps line u p (deed.Forward moved index) s on = forward_keeps line u p moved index s
deed_keeps line u p (deed.Continue moved) s on = continue_keeps line u p moved s
deed_keeps line u p (deed.Try moved block number next) s on = try_keeps line u p moved block number next s
deed_keeps line u p (deed.End kind) s on = absurd on

pub deed_fits : (line u p : ℕ) (d : Deed) (s : Scene) → GoesOn d → May u d s → (s.held.on_bus ≡ true → s.unit.phase ≡ Transferring) → Fits s (effect line u p d s)
deed_fits line u p deed.Arrive s on may bus = arrive_fits line u p s may bus
deed_fits line u p (deed.Sector block t) s on may bus = sector_fits line u p block t s may bus
deed_fits line u p (deed.Intr moved last) s on may bus = intr_fits line u p moved last s may bus
deed_fits line u p (deed.Attn taken) s on may bus = attn_fits line u p taken s may bus
deed_fits line u p (deed.Search target sector) s on may bus = search_fits line u p target sector s may bus
deed_fits line u p (deed.Do step taken) s on may bus = do_fits line u p step taken s may bus
deed_fits line u p (deed.Move write segment) s on may bus = move_fits line u p write segment s may bus
deed_fits line u p deed.Pack s on may bus = pack_fits line u p s may bus
deed_fits line u p (deed.Dclr moved last) s on may bus = dclr_fits line u p moved last s may bus
deed_fits line u p deed.Rtc s on may bus = rtc_fits line u p s may bus
deed_fits line u p (deed.Ready t) s on may bus = ready_fits line u p t s may bus
deed_fits line u p (deed.Repair moved at pattern) s on may bus = repair_fits line u p moved at pattern s may bus
deed_fits line u p (deed.Forward moved index) s on may bus = forward_fits line u p moved index s may bus
deed_fits line u p (deed.Continue moved) s on may bus = continue_fits line u p moved s may bus
deed_fits line u p (deed.Try moved block number next) s on may bus = try_fits line u p moved block number next s may bus
deed_fits line u p (deed.End kind) s on may bus = absurd on
