-- The block at which the packs failed is the next block of a write, as the replay has it.
use Rattle.std.proofs.Common.{◌≡◌, inl, ℕ, ◌+◌, ◌-◌, ◌*◌, ◌==◌, ◌&&◌, ◌<◌, ◌≤◌, Bool, true, false, not, List, [], take, drop, length, Option, None, Some, refl, sym, ap, subst, arith, ◌∙◌, rules}
use Rattle.std.specs.Prelude.{slice_index, slice_index_or, IsTrue}
use Rattle.std.proofs.lemmas.Option.{none-some}
use Rattle.std.proofs.lemmas.Bool.{false≢true}
use Rattle.std.proofs.lemmas.Bool.Decides.{eqb_tells}
use Rattle.pack_geometry.specs.declared.DriveKind.{DriveKind}
use Rattle.pack_geometry.specs.Geometry.{block_count}
use Rattle.pack_geometry.specs.Pack.{Pack, block_at, with_written}
use Rattle.pack_geometry.proofs.PackLaws.{block_at-with_block_same, block_at-with_block_other}
use Rattle.hardware_table.specs.declared.Moved.{Moved}
use Rattle.hardware_table.specs.declared.Moved.TheVariants as verdict
use Rattle.hardware_table.specs.Drive.{is_writing}
use Rattle.hardware_table.specs.Adapter.{AdapterState, next_block, next_window}
use Rattle.hardware_table.specs.Moves.{IsVerdictBy, stop_of, has_bytes}
use Rattle.hardware_table.specs.Noise.{strikes}
use Rattle.main_memory.specs.Bytes.{filled}
use Rattle.main_memory.specs.Blocks.{size_at}
use Rattle.main_memory.proofs.ByteLaws.{length-filled}
use Rattle.trace_replay.specs.Conversation as told
use Rattle.trace_replay.specs.Packs.{this_sector_or, size_of_block, sector_of_block}
use Rattle.trace_replay.specs.Service.{in_hand}
use Rattle.trace_replay.specs.Replay.{Replay, AreLeft}
use Rattle.driver_machine.specs.declared.Phase.{Phase}
use Rattle.driver_machine.specs.declared.Phase.TheVariants.{Transferring}
use Rattle.driver_machine.specs.World.{World, UnitView, Held, adapter_of, unit_on, unit_of, unit_at, adapter_at, held_in, slot_in_hand, transfer_of, block_in, pieces}
use Rattle.driver_machine.specs.Acts.{Tried, scene_of}
use Rattle.driver_machine.specs.Guards.{InHand, IsTried, IsSetUp}
use Rattle.driver_machine.specs.Sound.{Sound}
use Rattle.driver_laws.proofs.invariant.Frame.{scene_ok, unit_on-own}
use Rattle.driver_laws.proofs.invariant.Sector.{next_below}
use Rattle.driver_laws.proofs.invariant.Calls.{IsServing, serving}
use Rattle.driver_laws.specs.answers.Outcome.{IsNextBlock}
use Rattle.driver_laws.specs.shown.Stages.{segment_seen, progress_with}
use Rattle.driver_laws.proofs.shown.Busy.{Moves, moves}
use Rattle.driver_laws.proofs.shown.DeedFacts.{judged_start}
use Rattle.driver_laws.proofs.shown.Facts.{At, at_facts}
use Rattle.driver_laws.proofs.shown.Sector.{IsSector, one_sector, sector_facts, sector_progress}
use Rattle.driver_laws.proofs.shown.Writes.{piece_at, written_is, sector_same}
use Rattle.driver_laws.specs.shown.Within.{ShowsAll}
use Rattle.driver_laws.proofs.shown.Due.{IsQuiet, rest_quiet}
use Rattle.driver_laws.proofs.shown.Moves.{cut_filled, written_marks}
use Rattle.driver_laws.proofs.shown.Resting.{shows_one}
use Rattle.driver_laws.proofs.shown.Starting.{set_up}
use Rattle.driver_laws.specs.rules.Beginnings.{IsNextSector, with_next}
use Rattle.driver_laws.specs.shown.NextBlock.{IsTorn, NextBlocksShow}
use Rattle.driver_laws.specs.shown.RunsRuns.{AreDeclared}
use Rattle.driver_laws.proofs.shown.Acts.{written_beyond}
use Rattle.main_memory.proofs.BlockLaws.{size_few}
use Rattle.driver_laws.proofs.shown.QuietEachDeed.{other_by}
use Rattle.driver_laws.proofs.shown.Showing.{Shows, is_coming}

-- ---- a try of the block, whatever its verdict
verdict_by : Option Moved → Moved
verdict_by None = verdict.Clean
verdict_by (Some stop) = stop

is_verdict : (stop : Option Moved) (write : Bool) (places : Option (List ℕ)) → write ≡ true → IsVerdictBy stop false write places (verdict_by stop)
unfolding verdict_by
is_verdict stop write places is = search rules

no_read : (a w : Bool) → w ≡ true → IsTrue (a && not w) → ⊥
no_read true w is e = grind (arith, is, e)
no_read false w is e = grind (arith, e)

less_some : (m n : ℕ) → m < n → 1 ≤ n - m
less_some m n e = omega (arith, e)

-- ---- a sector that is written in the surface and in the packs alike, where they are the same
written_left : (held : ℕ → Pack) (sectors : ℕ → ℕ → List ℕ) (u block : ℕ) (bytes : List ℕ) (x b : ℕ) → length bytes ≡ 512 → block_at (held x).image b ≡ sectors x b
    → block_at (with_written held u block bytes x).image b ≡ this_sector_or ((x == u) && (b == block)) bytes sectors x b
written_left held sectors u block bytes x b long same = search (rules, eqb_tells, block_at-with_block_same, block_at-with_block_other)

-- ---- THE BLOCK
module _ (drives : ℕ → Option DriveKind) (old held left : ℕ → Pack) (s : Replay) (w : World) (sound : Sound w) (shows : ShowsAll w s) (units : AreDeclared drives w)
    (packs : AreLeft drives old held s.surface) (n : IsNextBlock w held left) where
  abbrev View : UnitView
  View = unit_at w n.unit

  abbrev State : AdapterState
  State = (adapter_at w (adapter_of n.unit)).state

  abbrev Slot : Held
  Slot = held_in w (slot_in_hand View)

  serves : IsServing w (adapter_of n.unit)
  serves = serving w (adapter_of n.unit) sound n.busy.busy

  own : unit_of w (adapter_of n.unit) ≡ n.unit
  own = ap (λ d. unit_on (adapter_of n.unit) d) n.busy.drive ∙ unit_on-own n.unit

  small : n.unit < 32
  small = subst (λ k. k < 32) own serves.unit

  some : 0 < length View.queue
  some = subst (λ k. 0 < length (unit_at w k).queue) own serves.some

  transfers : Moves w n.unit
  transfers = moves w n.unit (sound.each_adapter (adapter_of n.unit) serves.adapter) n.busy.busy n.busy.drive

  hand : InHand w n.unit transfers.held.id
  hand = record { unit = small; some = some; held = transfers.held; slot = transfers.is.slot; named = refl }

  there : IsSetUp w n.unit
  there = set_up w n.unit sound small some

  quiet : IsQuiet Transferring (s.units n.unit).stage
  quiet = rest_quiet Transferring (held_in w) View State (s.units n.unit) (shows.units n.unit there) transfers.is.phase (inl refl)

  shown : Shows n.unit w s
  shown = shows_one n.unit w s small shows (ap (λ (p : Phase). is_coming p (s.units n.unit).stage) transfers.is.phase ∙ quiet.coming)

  at : At n.unit transfers.held.id w s
  at = at_facts n.unit transfers.held.id w s sound shown hand

  tried : Tried
  tried = record { marked = false; verdict = verdict_by (stop_of View.drive); bytes = block_in Slot (next_window State) }

  is_tried : IsTried n.unit (next_block State) tried (scene_of w n.unit)
  unfolding tried
  is_tried = record {
    verdict = is_verdict (stop_of View.drive) (is_writing View.drive.work) (strikes n.unit (next_block State) View.drive.offset w.book.live) n.writes;
    bytes = λ written. refl;
    size = λ read. absurd (no_read (has_bytes (verdict_by (stop_of View.drive))) (is_writing View.drive.work) n.writes read);
  }

  sector : IsSector n.unit w s tried.verdict
  sector = sector_facts n.unit transfers.held.id (next_block State) w s tried sound at n.busy is_tried

  writes : Slot.write ≡ true
  writes = sym sector.moving.write ∙ n.writes

  progress : (s.units n.unit).progress ≡ progress_with State.moved (transfer_of View) Slot
  progress = sector_progress Slot View State (s.units n.unit) at.core sector.moving.phase sector.moving.down

  done : (s.units n.unit).progress.done ≡ next_window State
  done = ap (λ (p : told.Progress). p.done) progress ∙ sym sector.moving.window

  inside : next_window State < Slot.loan.count
  inside = subst (λ k. k < Slot.loan.count) (sym sector.moving.window) (subst (λ k. (transfer_of View).done + State.moved < k) at.slot.size sector.moving.inside)

  few : length (block_in Slot (next_window State)) ≤ 512
  few = subst (λ k. k ≤ 512) (sym (at.slot.whole (next_window State) inside)) (size_few Slot.loan (next_window State) at.slot.loan)

  content : sector_of_block (in_hand (s.units n.unit).service) (s.units n.unit).progress.done ≡ filled 512 (block_in Slot (next_window State))
  content =
      let asked : (bytes : List ℕ) × (at.head.request.written ≡ Some bytes) = written_is at.head.request.written (sym at.head.is.write ∙ writes) in
      let count : Slot.loan.count ≡ at.head.request.count = at.head.is.count in
      let blocks : Slot.blocks ≡ pieces at.head.request.count asked.0 = at.head.is.content asked.0 asked.1 in
      let piece : block_in Slot (next_window State) ≡ take 512 (drop (512 * next_window State) asked.0) =
      ap (λ blocks. slice_index_or blocks (next_window State) []) blocks
      ∙ piece_at at.head.request.count (next_window State) asked.0 (subst (λ k. next_window State < k) count inside) in
      let size : size_of_block at.head.request (next_window State) ≡ size_at Slot.loan (next_window State) = rw (count, at.head.is.last) refl in
      rw (at.head.head, done) (sector_same at.head.request asked.0 (next_window State) (size_at Slot.loan (next_window State)) (block_in Slot (next_window State)) asked.1 size piece (at.slot.whole (next_window State) inside)
      ∙ cut_filled 512 (block_in Slot (next_window State)) few)

  next : IsNextSector (s.units n.unit) (old n.unit) (next_block State)
  next = record {
    segment = segment_seen (transfer_of View);
    left = State.count - State.moved;
    stage = at.core.stage ∙ rw (sector.moving.phase, sector.moving.down) refl;
    some = less_some State.moved State.count sector.more;
    writes = rw at.head.head (sym at.head.is.write ∙ writes);
    is = ap (λ k. k + State.moved) sector.block
        ∙ sym (judged_start Slot View State (s.units n.unit) State.moved at.core at.head sector.begun (ap (λ (p : told.Progress). p.done) progress)
        (one_sector (transfer_of View).index (transfer_of View).job (transfer_of View).done State.moved State.count sector.more sector.count));
    unmarked = sym (ap (λ (ms : List ℕ). not (slice_index ms (next_block State) == 0)) (packs.marks n.unit)) ∙ n.unmarked;
  }

  below : next_block State < block_count View.drive.kind
  below = next_below n.unit (scene_of w n.unit) (scene_ok w n.unit transfers.held.id sound hand) n.busy

  long : length (filled 512 (block_in Slot (next_window State))) ≡ 512
  long = length-filled 512 (block_in Slot (next_window State)) few

  module _ (kind : DriveKind) (declared : drives n.unit ≡ Some kind) where
    is_left : AreLeft drives old left (with_next s n.unit (next_block State))
    is_left = record {
      sectors = λ x k b there less. ap (λ (f : ℕ → Pack). block_at (f x).image b) n.is
          ∙ written_left held s.surface.sector n.unit (next_block State) (filled 512 (block_in Slot (next_window State))) x b long (packs.sectors x k b there less)
          ∙ ap (λ bytes. this_sector_or ((x == n.unit) && (b == next_block State)) bytes s.surface.sector x b) (sym content);
      beyond = λ x k there. ap (λ (f : ℕ → Pack). drop (512 * block_count k) (f x).image) n.is
          ∙ written_beyond held n.unit (next_block State) (filled 512 (block_in Slot (next_window State))) x (block_count k) long
          (λ same. subst (λ (z : DriveKind). next_block State < block_count z) (sym (ap (λ (y : ℕ). (unit_at w y).drive.kind) same) ∙ units.kinds x k there) below)
          ∙ packs.beyond x k there;
      marks = λ x. ap (λ (f : ℕ → Pack). (f x).marks) n.is ∙ written_marks held n.unit (next_block State) (filled 512 (block_in Slot (next_window State))) x ∙ packs.marks x;
      others = λ x none. ap (λ (f : ℕ → Pack). f x) n.is
          ∙ other_by true held n.unit (next_block State) (filled 512 (block_in Slot (next_window State))) x (λ same. none-some kind (sym none ∙ ap drives same ∙ declared)) ∙ packs.others x none;
    }

  is_torn : IsTorn drives old held left s
  is_torn = by_drive (drives n.unit) refl
    where
      by_drive : (drive : Option DriveKind) → drives n.unit ≡ drive → IsTorn drives old held left s
      by_drive None none = absurd (false≢true (sym (units.others n.unit none) ∙ there.declared))
      by_drive (Some kind) declared = record {
        at = record { unit = n.unit; block = next_block State; kind = kind; declared = declared; next = next; packs = is_left kind declared };
        is = n.is ∙ ap (λ (bytes : List ℕ). with_written held n.unit (next_block State) bytes) (sym content);
      }

pub next_blocks_show : NextBlocksShow
next_blocks_show drives old held left s w sound shows units packs n = is_torn drives old held left s w sound shows units packs n
