-- A block that a write comes to lies below the end of its request, or is a replacement.
use Rattle.std.proofs.Common.{◌≡◌, ℕ, ◌+◌, ◌*◌, ◌<◌, ◌≤◌, Bool, true, false, List, drop, length, Option, Some, None, refl, sym, ap, subst, arith, ◌∙◌}
use Rattle.std.specs.Prelude.{if◌then◌else◌, slice_get, slice_index_or}
use Rattle.std.proofs.lemmas.Option.{none-some}
use Rattle.pack_geometry.specs.Geometry.{block_count, place_at}
use Rattle.pack_geometry.specs.Pack.{Pack}
use Rattle.pack_geometry.specs.PackTable.{places_of}
use Rattle.pack_geometry.specs.TableSpelling.{Table}
use Rattle.hardware_table.specs.Drive.{is_writing}
use Rattle.hardware_table.specs.declared.Work.TheVariants as work
use Rattle.hardware_table.specs.Adapter.{AdapterState, next_block, next_window}
use Rattle.main_memory.specs.Bytes.{filled}
use Rattle.main_memory.proofs.ByteLaws.{length-filled}
use Rattle.transfer_engine.specs.declared.job.Job.{Job}
use Rattle.transfer_engine.specs.declared.job.Segment.{Segment}
use Rattle.transfer_engine.specs.State.{segment_by, segment_of}
use Rattle.driver_machine.specs.declared.Phase.TheVariants.{Transferring}
use Rattle.driver_machine.specs.World.{World, UnitView, Held, adapter_of, drive_of, unit_on, unit_of, unit_at, adapter_at, held_in, slot_in_hand, transfer_of, block_in}
use Rattle.driver_machine.specs.Acts.{Scene, scene_of}
use Rattle.driver_machine.specs.Guards.{InHand, IsBusyFor}
use Rattle.driver_machine.specs.Sound.{IsBegun, IsPhase, IsOutstanding, Sound}
use Rattle.driver_laws.proofs.invariant.Scene.{SceneOk, phase_is, block_below}
use Rattle.driver_laws.proofs.invariant.Frame.{head_out, held_is, scene_ok, unit_on-own}
use Rattle.driver_laws.proofs.invariant.Sector.{moved_less}
use Rattle.driver_laws.proofs.invariant.DeedFacts.{transfer_at}
use Rattle.driver_laws.proofs.invariant.Calls.{IsServing, serving}
use Rattle.driver_laws.proofs.shown.Starting.{set_up}
use Rattle.driver_laws.proofs.shown.Acts.{piece_few, written_beyond}
use Rattle.driver_laws.specs.shown.Reach.{Reaches, NextBlocksStay}

-- A BLOCK OF A SEGMENT of own sectors lies below the end of the request; a replacement is one of a table.
own_below : (index : Option ℕ) (job : Job) (done k top : ℕ) → index ≡ None → job.first + job.count ≤ top → k < (segment_by index job done).count
    → (segment_by index job done).block + k < top
own_below None job done k top own below less = omega (arith, below, less)
own_below (Some i) job done k top own below less = absurd (none-some i (sym own))

has_table : (table : Option Table) (i : ℕ) (place : Rattle.pack_geometry.specs.declared.Place.Place) → slice_get (places_of table) i ≡ Some place
    → (t : Table) × (table ≡ Some t)
has_table None i place is = absurd (none-some place is)
has_table (Some t) i place is = (t, refl)

segment_reached : (v : UnitView) (h : Held) (k top : ℕ) → IsBegun v h → h.first + h.loan.count ≤ top
    → ((table : Table) → v.table ≡ Some table → block_count v.drive.kind ≤ top) → k < (segment_of (transfer_of v)).count
    → (segment_of (transfer_of v)).block + k < top
segment_reached v h k top begun below tables less = by_index (transfer_of v).index refl
  where
    by_index : (index : Option ℕ) → (transfer_of v).index ≡ index → (segment_of (transfer_of v)).block + k < top
    by_index None is =
        own_below (transfer_of v).index (transfer_of v).job (transfer_of v).done k top is (subst (λ (j : Job). j.first + j.count ≤ top) (sym begun.job) below) less
    by_index (Some i) is =
        let table : (t : Table) × (v.table ≡ Some t) =
        has_table v.table i (place_at v.drive.kind (h.first + (transfer_of v).done)) (begun.listed i is) in
        let all : block_count v.drive.kind ≤ top = tables table.0 table.1 in
        let inside : (segment_of (transfer_of v)).block + k < block_count v.drive.kind = block_below v h k begun less in
        omega (arith, all, inside)

-- THE NEXT BLOCK of a transfer that is under way
reaches_some : (first count top : ℕ) → 1 ≤ count → first + count ≤ top → 0 < top
reaches_some first count top some below = omega (arith, some, below)

next_reached : (u : ℕ) (s : Scene) (top : ℕ) → SceneOk u s → IsBusyFor s.adapter.state (drive_of u) false → is_writing s.unit.drive.work ≡ true
    → (s.held.write ≡ true → s.held.first + s.held.loan.count ≤ top)
    → ((table : Table) → s.unit.table ≡ Some table → 0 < top → block_count s.unit.drive.kind ≤ top) → next_block s.adapter.state < top
next_reached u s top ok may writing asked tables =
    let a : AdapterState = s.adapter.state in
    let has = transfer_at u false s ok may in
    let is : IsPhase u s.unit s.adapter s.held Transferring = phase_is u s Transferring ok has.phase in
    let count : a.count ≡ (segment_of (transfer_of s.unit)).count = ap (λ (x : Segment). x.count) has.segment in
    let block : a.block ≡ (segment_of (transfer_of s.unit)).block = ap (λ (x : Segment). x.block) has.segment in
    let less : a.moved < (segment_of (transfer_of s.unit)).count = subst (λ n. a.moved < n) count (moved_less a ok.adapter may.busy may.completion) in
    let works : s.unit.drive.work ≡ work.Transfer a.write = is.1.work ∙ ap (λ (done : Bool). if done then work.Ready else work.Transfer a.write) may.completion in
    let writes : s.held.write ≡ true = sym (ap is_writing works ∙ has.write) ∙ writing in
    let below : s.held.first + s.held.loan.count ≤ top = asked writes in
    subst (λ n. n + a.moved < top) (sym block)
    (segment_reached s.unit s.held a.moved top is.0 below (λ table given. tables table given (reaches_some s.held.first s.held.loan.count top ok.loan.shape.some below)) less)

-- of a request in hand
hand_below : (ends : ℕ → ℕ) (w : World) (u id : ℕ) → Sound w → InHand w u id → Reaches ends w
    → (held_in w (slot_in_hand (unit_at w u))).write ≡ true
    → (held_in w (slot_in_hand (unit_at w u))).first + (held_in w (slot_in_hand (unit_at w u))).loan.count ≤ ends u
hand_below ends w u id sound hand reaches =
    let out : IsOutstanding w u (slice_index_or (unit_at w u).queue 0 (record { number = 0; cylinder = 0 })) = head_out w u (sound.each_unit u hand.unit) hand.some in
    subst (λ (h : Held). h.write ≡ true → h.first + h.loan.count ≤ ends u) (sym (held_is w (slot_in_hand (unit_at w u)) out.held out.slot))
    (subst (λ (k : ℕ). out.held.write ≡ true → out.held.first + out.held.loan.count ≤ ends k) out.unit (reaches.requests (slot_in_hand (unit_at w u)) out.held out.slot))

pub next_in_reach : (ends : ℕ → ℕ) (w : World) (u id : ℕ) → Sound w → InHand w u id → (unit_at w u).declared ≡ true → Reaches ends w
    → IsBusyFor (adapter_at w (adapter_of u)).state (drive_of u) false → is_writing (unit_at w u).drive.work ≡ true → next_block (adapter_at w (adapter_of u)).state < ends u
next_in_reach ends w u id sound hand declared reaches busy writing =
    next_reached u (scene_of w u) (ends u) (scene_ok w u id sound hand) busy writing (hand_below ends w u id sound hand reaches) (λ table is. reaches.tables u table declared is)

-- WHERE THE PACKS FAILED at a block that was to be written
pub next_blocks_stay : NextBlocksStay
next_blocks_stay ends held left w sound reaches n unit =
    ap (λ (f : ℕ → Pack). drop (512 * ends unit) (f unit).image) n.is
    ∙ written_beyond held n.unit block (filled 512 piece) unit (ends unit) (length-filled 512 piece (piece_few w n.unit hand.held.id sound hand n.busy))
    (λ same. subst (λ (k : ℕ). block < ends k) (sym same) (next_in_reach ends w n.unit hand.held.id sound hand (set_up w n.unit sound small some).declared reaches n.busy n.writes))
  where
    block : ℕ
    block = next_block (adapter_at w (adapter_of n.unit)).state

    piece : List ℕ
    piece = block_in (held_in w (slot_in_hand (unit_at w n.unit))) (next_window (adapter_at w (adapter_of n.unit)).state)

    serves : IsServing w (adapter_of n.unit)
    serves = serving w (adapter_of n.unit) sound n.busy.busy

    own : unit_of w (adapter_of n.unit) ≡ n.unit
    own = ap (λ (d : ℕ). unit_on (adapter_of n.unit) d) n.busy.drive ∙ unit_on-own n.unit

    small : n.unit < 32
    small = subst (λ (k : ℕ). k < 32) own serves.unit

    some : 0 < length (unit_at w n.unit).queue
    some = subst (λ (k : ℕ). 0 < length (unit_at w k).queue) own serves.some

    out : IsOutstanding w n.unit (slice_index_or (unit_at w n.unit).queue 0 (record { number = 0; cylinder = 0 }))
    out = head_out w n.unit (sound.each_unit n.unit small) some

    hand : InHand w n.unit out.held.id
    hand = record { unit = small; some = some; held = out.held; slot = out.slot; named = refl }
