-- A sector that an act writes lies inside the pack of a unit that is set up.
use Rattle.std.proofs.Common.{◌≡◌, ◌≢◌, ℕ, ◌+◌, ◌*◌, ◌<◌, ◌≤◌, Bool, true, false, List, drop, length, refl, sym, ap, subst, arith, ◌∙◌, rules}
use Rattle.std.specs.Prelude.{if◌then◌else◌}
use Rattle.std.proofs.lemmas.Bool.{false≢true}
use Rattle.std.proofs.lemmas.Bool.Decides.{eqb_tells}
use Rattle.pack_geometry.specs.Geometry.{block_count}
use Rattle.pack_geometry.specs.Pack.{Pack, with_written}
use Rattle.main_memory.specs.Bytes.{filled}
use Rattle.main_memory.specs.Blocks.{Loan}
use Rattle.main_memory.proofs.ByteLaws.{length-filled}
use Rattle.hardware_table.specs.Moves.{was_written}
use Rattle.hardware_table.specs.Adapter.{AdapterState, next_window}
use Rattle.driver_machine.specs.World.{World, Held, adapter_of, drive_of, unit_at, adapter_at, held_in, slot_in_hand, block_in}
use Rattle.driver_machine.specs.Acts as deed
use Rattle.driver_machine.specs.Acts.{Of, Deed, Tried, Scene, scene_of, Act}
use Rattle.driver_machine.specs.Guards.{InHand, IsBusyFor, Allowed}
use Rattle.driver_machine.specs.Sound.{SlotOk, Sound}
use Rattle.driver_laws.proofs.invariant.Scene.{HasTransferFor, SceneOk}
use Rattle.driver_laws.proofs.invariant.Frame.{held_is, scene_ok}
use Rattle.driver_laws.proofs.invariant.Sector.{moved_less, next_below}
use Rattle.driver_laws.proofs.invariant.DeedFacts.{transfer_at}
use Rattle.driver_laws.specs.answers.Packs.{packs_after}
use Rattle.driver_laws.proofs.shown.Starting.{set_up}
use Rattle.driver_laws.proofs.shown.Images.{block_beyond}
use Rattle.main_memory.proofs.BlockLaws.{size_few}

-- HOW MANY BYTES IT GETS
window_inside : (skip count blocks moved size : ℕ) → skip + count ≤ blocks → moved < count → blocks ≡ size → skip + moved < size
window_inside skip count blocks moved size fits less is = omega (arith, fits, less, is)

-- so a sector that is written is a whole one inside the pack of a unit that is set up
pub record IsInside (w : World) (u block : ℕ) (t : Tried) : Type 0 where
  pub below : block < block_count (unit_at w u).drive.kind
  pub long : length (filled 512 t.bytes) ≡ 512

pub piece_few : (w : World) (u id : ℕ) → Sound w → InHand w u id → IsBusyFor (adapter_at w (adapter_of u)).state (drive_of u) false
    → length (block_in (held_in w (slot_in_hand (unit_at w u))) (next_window (adapter_at w (adapter_of u)).state)) ≤ 512
piece_few w u id sound hand busy =
    let s : Scene = scene_of w u in
    let h : Held = held_in w (slot_in_hand (unit_at w u)) in
    let a : AdapterState = (adapter_at w (adapter_of u)).state in
    let ok : SceneOk u s = scene_ok w u id sound hand in
    let has : HasTransferFor (unit_at w u) h a = transfer_at u false s ok busy in
    let same : h ≡ hand.held = held_is w (slot_in_hand (unit_at w u)) hand.held hand.slot in
    let slot : SlotOk w (slot_in_hand (unit_at w u)) h =
    subst (SlotOk w (slot_in_hand (unit_at w u))) (sym same) (sound.each_slot (slot_in_hand (unit_at w u)) hand.held hand.slot) in
    let inside : next_window a < h.loan.count =
    window_inside a.skip a.count a.blocks a.moved h.loan.count ok.adapter.inside (moved_less a ok.adapter busy.busy busy.completion) (ap (λ (l : Loan). l.count) has.loan) in
    subst (λ n. n ≤ 512) (sym (slot.whole (next_window a) inside)) (size_few h.loan (next_window a) slot.loan)

few_bytes : (w : World) (line u id block : ℕ) (t : Tried) → Sound w → Allowed w (Of line u id (deed.Sector block t))
    → was_written (unit_at w u).drive t.verdict ≡ true → length t.bytes ≤ 512
few_bytes w line u id block t sound allowed given =
    subst (λ (bytes : List ℕ). length bytes ≤ 512) (sym (allowed.1.2.bytes given)) (piece_few w u id sound allowed.0 allowed.1.0)

pub is_inside : (w : World) (line u id block : ℕ) (t : Tried) → Sound w → Allowed w (Of line u id (deed.Sector block t))
    → was_written (unit_at w u).drive t.verdict ≡ true → IsInside w u block t
is_inside w line u id block t sound allowed given = record {
  below = subst (λ n. n < block_count (unit_at w u).drive.kind) (sym allowed.1.1)
      (next_below u (scene_of w u) (scene_ok w u id sound allowed.0) allowed.1.0);
  long = length-filled 512 t.bytes (few_bytes w line u id block t sound allowed given);
}

-- BEHIND A PACK nothing is written.
pub written_beyond : (held : ℕ → Pack) (u block : ℕ) (bytes : List ℕ) (unit count : ℕ) → length bytes ≡ 512 → (unit ≡ u → block < count)
    → drop (512 * count) (with_written held u block bytes unit).image ≡ drop (512 * count) (held unit).image
written_beyond held u block bytes unit count long below = search (rules, eqb_tells, block_beyond)

pub beyond_by : (b : Bool) (held : ℕ → Pack) (u block : ℕ) (bytes : List ℕ) (unit count : ℕ)
    → (b ≡ true → (length bytes ≡ 512) × (unit ≡ u → block < count))
    → drop (512 * count) ((if b then with_written held u block bytes else held) unit).image ≡ drop (512 * count) (held unit).image
beyond_by true held u block bytes unit count inside = written_beyond held u block bytes unit count (inside refl).0 (inside refl).1
beyond_by false held u block bytes unit count inside = refl

deed_beyond : (line u id : ℕ) (d : Deed) (w : World) (held : ℕ → Pack) (unit : ℕ) → Sound w → Allowed w (Of line u id d)
    → drop (512 * block_count (unit_at w unit).drive.kind) (packs_after w held (Of line u id d) unit).image
    ≡ drop (512 * block_count (unit_at w unit).drive.kind) (held unit).image
deed_beyond line u id (deed.Sector block t) w held unit sound allowed =
    beyond_by (was_written (unit_at w u).drive t.verdict) held u block (filled 512 t.bytes) unit (block_count (unit_at w unit).drive.kind)
    (λ given. (
      (is_inside w line u id block t sound allowed given).long,
      λ here. subst (λ k. block < block_count (unit_at w k).drive.kind) (sym here) (is_inside w line u id block t sound allowed given).below,
    ))
deed_beyond line u id other w held unit sound allowed = refl

-- What an image has behind the last sector of its unit's drive stays,
pub beyond_stays : (w : World) (act : Act) (held : ℕ → Pack) (unit : ℕ) → Sound w → Allowed w act
    → drop (512 * block_count (unit_at w unit).drive.kind) (packs_after w held act unit).image
    ≡ drop (512 * block_count (unit_at w unit).drive.kind) (held unit).image
beyond_stays w (Of line u id d) held unit sound allowed = deed_beyond line u id d w held unit sound allowed
beyond_stays w other held unit sound allowed = refl

-- A UNIT THAT IS NOT SET UP has no request in hand.
is_other : (w : World) (u id unit : ℕ) → Sound w → InHand w u id → (unit_at w unit).declared ≡ false → unit ≢ u
is_other w u id unit sound hand off here =
    false≢true (sym off ∙ ap (λ (k : ℕ). (unit_at w k).declared) here ∙ (set_up w u sound hand.unit hand.some).declared)

deed_others : (line u id : ℕ) (d : Deed) (w : World) (held : ℕ → Pack) (unit : ℕ) → unit ≢ u → packs_after w held (Of line u id d) unit ≡ held unit
deed_others line u id d w held unit other = search rules

-- and so does the pack of a unit that is not set up.
pub others_stay : (w : World) (act : Act) (held : ℕ → Pack) (unit : ℕ) → Sound w → Allowed w act → (unit_at w unit).declared ≡ false
    → packs_after w held act unit ≡ held unit
others_stay w (Of line u id d) held unit sound allowed off = deed_others line u id d w held unit (is_other w u id unit sound allowed.0 off)
others_stay w other held unit sound allowed off = refl
