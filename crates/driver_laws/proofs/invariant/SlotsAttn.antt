-- AN ATTENTION is taken: what it keeps of its scene, and that the request's blocks fit.
use Rattle.std.proofs.Common.{◌≡◌, ◌≢◌, ℕ, true, refl, sym, ◌∙◌, arith}
use Rattle.driver_machine.specs.declared.Phase.TheVariants.{Positioning, Transferring}
use Rattle.driver_machine.specs.declared.Phase.{Phase}
use Rattle.driver_machine.specs.Guards.{May}
use Rattle.driver_machine.specs.Acts as deed
use Rattle.driver_machine.specs.Acts.{Scene, effect}
use Rattle.driver_laws.proofs.invariant.Hand.{Keeps, Fits}
use Rattle.driver_laws.proofs.invariant.SlotsDeedFacts.{kept, rests}

pub attn_keeps : (line u p taken : ℕ) (s : Scene) → Keeps s (effect line u p (deed.Attn taken) s)
attn_keeps line u p taken s = kept s _ _ refl refl refl

moving : (taken : ℕ) (phase : Phase) → phase ≡ Positioning taken → phase ≢ Transferring
moving taken phase e same = grind (arith, sym e ∙ same)

pub attn_fits : (line u p taken : ℕ) (s : Scene) → May u (deed.Attn taken) s → (s.held.on_bus ≡ true → s.unit.phase ≡ Transferring)
    → Fits s (effect line u p (deed.Attn taken) s)
attn_fits line u p taken s may bus = rests s _ refl bus (moving taken s.unit.phase may.0)
