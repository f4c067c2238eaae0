-- The units that are set up stay so, with drives of the same kinds.
use Rattle.std.proofs.Common.{◌≡◌, ◌≢◌, ◌⊎◌, inl, inr, ℕ, ◌==◌, ◌<◌, true, false, refl, sym, subst, get_or-set_same, get_or-set_other}
use Rattle.std.specs.Prelude.{slice_set}
use Rattle.std.proofs.lemmas.Bool.Decides.{eqb_tells}
use Rattle.hardware_table.specs.Events.{turned, fault_armed, online_set, locked_set}
use Rattle.trace_replay.specs.Script as script
use Rattle.trace_replay.specs.Script.{Input}
use Rattle.driver_machine.specs.World.{World, UnitView, unit_at, slot_in_hand, no_unit}
use Rattle.driver_machine.specs.Acts as deed
use Rattle.driver_machine.specs.Acts.{Act, Submit, Of, Change, effect, scene_of, joined, after}
use Rattle.driver_machine.specs.Guards.{Allowed}
use Rattle.driver_machine.specs.Sound.{Sound}
use Rattle.driver_machine.proofs.Frame.{effect_same}
use Rattle.trace_replay.proofs.Kept.{online_kind}

pub record IsSameUnit (v x : UnitView) : Type 0 where
  pub declared : x.declared ≡ v.declared
  pub kind : x.drive.kind ≡ v.drive.kind

same_unit : (v : UnitView) → IsSameUnit v v
same_unit v = record { declared = refl; kind = refl }

set_same : (w : World) (u : ℕ) (v : UnitView) (x : ℕ) → Sound w → u < 32 → IsSameUnit (unit_at w u) v
    → IsSameUnit (unit_at w x) (unit_at (record w { units = slice_set w.units u v }) x)
set_same w u v x sound lt same = by_unit (eqb_tells x u)
  where
    by_unit : ((x == u ≡ true) × (x ≡ u)) ⊎ ((x == u ≡ false) × (x ≢ u))
        → IsSameUnit (unit_at w x) (unit_at (record w { units = slice_set w.units u v }) x)
    by_unit (inl here) =
        subst (λ (k : ℕ). IsSameUnit (unit_at w k) (unit_at (record w { units = slice_set w.units u v }) k)) (sym here.1)
        (subst (IsSameUnit (unit_at w u)) (sym (get_or-set_same w.units u v no_unit (subst (λ (k : ℕ). u < k) (sym sound.units) lt))) same)
    by_unit (inr other) = subst (IsSameUnit (unit_at w x)) (sym (get_or-set_other w.units u x v no_unit other.1)) (same_unit (unit_at w x))

change_same : (w : World) (input : Input) (x : ℕ) → Sound w → Allowed w (Change input) → IsSameUnit (unit_at w x) (unit_at (after w (Change input)) x)
change_same w (script.Turn u sector) x sound may =
    set_same w u (deed.with_drive (turned sector) (unit_at w u)) x sound may.0.unit (record { declared = refl; kind = refl })
change_same w (script.Arm u kind times) x sound may =
    set_same w u (deed.with_drive (fault_armed kind times) (unit_at w u)) x sound may.0.unit (record { declared = refl; kind = refl })
change_same w (script.SetOnline u on) x sound may =
    set_same w u (deed.with_drive (online_set on) (unit_at w u)) x sound may.unit
    (record { declared = refl; kind = online_kind on (unit_at w u).drive })
change_same w (script.SetLocked u on) x sound may =
    set_same w u (deed.with_drive (locked_set on) (unit_at w u)) x sound may.unit (record { declared = refl; kind = refl })
change_same w (script.Noise noise) x sound may = same_unit (unit_at w x)
change_same w other x sound may = absurd may

pub act_same : (w : World) (act : Act) (x : ℕ) → Sound w → Allowed w act → IsSameUnit (unit_at w x) (unit_at (after w act) x)
act_same w (Submit line p h) x sound allowed =
    set_same w h.unit (joined p h (unit_at w h.unit)) x sound allowed.unit.unit (record { declared = refl; kind = refl })
act_same w (Of line u id d) x sound allowed =
    set_same w u (effect line u (slot_in_hand (unit_at w u)) d (scene_of w u)).unit x sound allowed.0.unit (record {
      declared = (effect_same line u (slot_in_hand (unit_at w u)) d (scene_of w u)).declared;
      kind = (effect_same line u (slot_in_hand (unit_at w u)) d (scene_of w u)).kind;
    })
act_same w (Change input) x sound allowed = change_same w input x sound allowed
act_same w other x sound allowed = same_unit (unit_at w x)
