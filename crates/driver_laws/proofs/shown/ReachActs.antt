-- An act keeps the reach, and what lies beyond it.
use Rattle.std.proofs.Common.{◌≡◌, ℕ, ◌+◌, ◌*◌, ◌<◌, ◌≤◌, true, List, [], ◌∷◌, drop, length, Option, Some, None, refl, sym, ap, subst, ◌∙◌, rules}
use Rattle.std.specs.Prelude.{slice_index_or, slice_set, unwrap_or}
use Rattle.pack_geometry.specs.declared.DriveKind.{DriveKind}
use Rattle.pack_geometry.specs.Geometry.{block_count}
use Rattle.pack_geometry.specs.Pack.{Pack}
use Rattle.main_memory.specs.Bytes.{filled}
use Rattle.hardware_table.specs.Drive.{is_writing}
use Rattle.hardware_table.specs.Moves.{has_bytes, was_written}
use Rattle.trace_replay.specs.Script as script
use Rattle.trace_replay.specs.Script.{Input}
use Rattle.driver_machine.specs.World.{World, Held, no_held, unit_at, held_in, slot_in_hand}
use Rattle.driver_machine.specs.Acts as deed
use Rattle.driver_machine.specs.Acts.{Act, Submit, Of, Change, Taken, Deed, Scene, scene_of, effect, after}
use Rattle.driver_machine.specs.Guards.{Allowed, InHand, MayChange}
use Rattle.driver_machine.specs.Sound.{Sound}
use Rattle.driver_machine.proofs.Frame.{effect_same}
use Rattle.driver_laws.proofs.invariant.Frame.{slot_there}
use Rattle.driver_laws.proofs.answers.Units.{setups_stay}
use Rattle.driver_laws.proofs.answers.Ids.{freed_was}
use Rattle.driver_laws.specs.answers.Packs.{packs_after}
use Rattle.driver_laws.proofs.shown.Starting.{set_up}
use Rattle.driver_laws.proofs.shown.Acts.{beyond_by, is_inside}
use Rattle.driver_laws.specs.shown.Reach.{Reaches, StayFrom, JoinsBelow, ActsKeepReach}
use Rattle.driver_laws.proofs.shown.Blocks.{next_in_reach}
use Rattle.driver_laws.proofs.rules.Stages.{second_of}

-- THE PACKS: a sector that is written lies within the reach.
deed_stays : (ends : ℕ → ℕ) (line u id : ℕ) (d : Deed) (w : World) (held : ℕ → Pack) (unit : ℕ) → Sound w → Allowed w (Of line u id d) → Reaches ends w
    → drop (512 * ends unit) (packs_after w held (Of line u id d) unit).image ≡ drop (512 * ends unit) (held unit).image
deed_stays ends line u id (deed.Sector block t) w held unit sound allowed reaches =
    beyond_by (was_written (unit_at w u).drive t.verdict) held u block (filled 512 t.bytes) unit (ends unit)
    (λ given. (
      (is_inside w line u id block t sound allowed given).long,
      λ same. subst (λ (k : ℕ). block < ends k) (sym same) (subst (λ (b : ℕ). b < ends u) (sym allowed.1.1)
          (next_in_reach ends w u id sound allowed.0 (set_up w u sound allowed.0.unit allowed.0.some).declared reaches allowed.1.0
          (second_of (has_bytes t.verdict) (is_writing (unit_at w u).drive.work) given))),
    ))
deed_stays ends line u id d w held unit sound allowed reaches = refl

packs_stay : (ends : ℕ → ℕ) (w : World) (act : Act) (held : ℕ → Pack) → Sound w → Allowed w act → Reaches ends w → StayFrom ends held (packs_after w held act)
packs_stay ends w (Of line u id d) held sound allowed reaches unit = deed_stays ends line u id d w held unit sound allowed reaches
packs_stay ends w other held sound allowed reaches unit = refl

-- THE SLOTS
abbrev Below : (ℕ → ℕ) → Held → Type 0
Below ends h = h.write ≡ true → h.first + h.loan.count ≤ ends h.unit

abbrev AreBelow : (ℕ → ℕ) → List (Option Held) → Type 0
AreBelow ends slots = (p : ℕ) (h : Held) → slice_index_or slots p None ≡ Some h → Below ends h

set_below : (ends : ℕ → ℕ) (slots : List (Option Held)) (p : ℕ) (new : Held) → p < length slots → Below ends new → AreBelow ends slots
    → AreBelow ends (slice_set slots p (Some new))
set_below ends slots p new less here there q g e = search rules

same_below : (ends : ℕ → ℕ) (h g : Held) → g.first ≡ h.first → g.loan ≡ h.loan → g.unit ≡ h.unit → g.write ≡ h.write → Below ends h → Below ends g
same_below ends h g first loan unit write asked writes = search rules

deed_below : (ends : ℕ → ℕ) (w : World) (line u id : ℕ) (d : Deed) → InHand w u id → AreBelow ends w.slots → AreBelow ends (after w (Of line u id d)).slots
deed_below ends w line u id d i are =
    let p : ℕ = slot_in_hand (unit_at w u) in
    let new : Scene = effect line u p d (scene_of w u) in
    let was : held_in w p ≡ i.held = ap (λ (o : Option Held). unwrap_or o no_held) i.slot in
    let same = effect_same line u p d (scene_of w u) in
    set_below ends w.slots p new.held (slot_there w.slots p i.held i.slot)
    (same_below ends (held_in w p) new.held same.first same.loan same.unit same.write (subst (Below ends) (sym was) (are p i.held i.slot))) are

changed_below : (ends : ℕ → ℕ) (w : World) (input : Input) → MayChange w input → AreBelow ends w.slots → AreBelow ends (after w (Change input)).slots
changed_below ends w (script.Turn u sector) may are = are
changed_below ends w (script.Noise noise) may are = are
changed_below ends w (script.Arm u kind times) may are = are
changed_below ends w (script.SetOnline u on) may are = are
changed_below ends w (script.SetLocked u on) may are = are
changed_below ends w input may are = absurd may

act_below : (ends : ℕ → ℕ) (w : World) (act : Act) → Allowed w act → JoinsBelow ends act → AreBelow ends w.slots → AreBelow ends (after w act).slots
act_below ends w (Submit line p h) allowed joins are = set_below ends w.slots p h allowed.free joins are
act_below ends w (Of line u id d) allowed joins are = deed_below ends w line u id d allowed.0 are
act_below ends w (Change input) allowed joins are = changed_below ends w input allowed are
act_below ends w Taken allowed joins are = λ p h e. are p h (freed_was w.answers w.slots p h e)
act_below ends w other allowed joins are = are

-- ONE ACT
act_reaches : (ends : ℕ → ℕ) (w : World) (act : Act) → Allowed w act → JoinsBelow ends act → Reaches ends w → Reaches ends (after w act)
act_reaches ends w act allowed joins reaches = record {
  requests = act_below ends w act allowed joins reaches.requests;
  tables = λ unit table declared is some.
      let set = setups_stay w (act ∷ []) unit in
      subst (λ (k : DriveKind). block_count k ≤ ends unit) (sym set.kind) (reaches.tables unit table (sym set.declared ∙ declared) (sym set.table ∙ is) some);
}

pub acts_keep_reach : ActsKeepReach
acts_keep_reach ends old held w act sound allowed joins within = record {
  reaches = act_reaches ends w act allowed joins within.reaches;
  packs = λ unit. packs_stay ends w act held sound allowed within.reaches unit ∙ within.packs unit;
}
