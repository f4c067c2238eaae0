-- What several deeds share: what they keep of a scene, and that the blocks of a buffer fit.
use Rattle.std.proofs.Common.{◌≡◌, ◌≢◌, inl, inr, ℕ, Bool, true, List, length, Some, sym, ◌∙◌, arith, rules}
use Rattle.driver_machine.specs.declared.Phase.TheVariants.{Queued, Transferring}
use Rattle.driver_machine.specs.declared.Phase.{Phase}
use Rattle.driver_machine.specs.World.{UnitView, AdapterView, Held}
use Rattle.driver_machine.specs.Guards.{IsNext}
use Rattle.driver_machine.specs.Acts.{Deed, Scene}
use Rattle.driver_machine.specs.Due.{next_by}
use Rattle.driver_laws.proofs.invariant.Hand.{Keeps, Fits}

pub kept : (s : Scene) (v : UnitView) (a : AdapterView) → v.declared ≡ s.unit.declared → v.queue ≡ s.unit.queue → v.drive.kind ≡ s.unit.drive.kind
    → Keeps s (record s { unit = v; adapter = a })
kept s v a declared queue kind = first_of (search rules, grind arith)

-- the request's blocks and its hold of the bus change
pub kept_held : (s new : Scene) (blocks : List (List ℕ)) (on_bus : Bool) → new.unit.declared ≡ s.unit.declared → new.unit.queue ≡ s.unit.queue
    → new.unit.drive.kind ≡ s.unit.drive.kind → new.held ≡ record s.held { blocks = blocks; on_bus = on_bus } → length blocks ≡ length s.held.blocks
    → new.frames ≡ s.frames → new.answers ≡ s.answers → Keeps s new
kept_held s new blocks on_bus declared queue kind held size frames answers = first_of (search rules, grind arith)

-- WHAT IS DUE is due nowhere in a transfer.
none_in_transfer : (phase : Phase) (v : UnitView) (h : Held) (d : Deed) → next_by phase v h ≡ Some d → phase ≢ Transferring
none_in_transfer Transferring v h d e same = grind (arith, e)
none_in_transfer other v h d e same = grind (arith, same)

pub not_transferring : (u : ℕ) (d : Deed) (s : Scene) → IsNext u d s → s.unit.phase ≢ Transferring
not_transferring u d s (inl next) same = none_in_transfer s.unit.phase s.unit s.held d next same
not_transferring u d s (inr chosen) same = queued (sym chosen.phase ∙ same)
  where
    queued : Queued ≡ Transferring → ⊥
    queued e = grind (arith, e)

-- a deed that leaves the request's buffer alone, where the unit does not transfer
pub rests : (s new : Scene) → new.held ≡ s.held → (s.held.on_bus ≡ true → s.unit.phase ≡ Transferring) → s.unit.phase ≢ Transferring → Fits s new
rests s new same bus elsewhere = first_of (search rules, grind arith)
