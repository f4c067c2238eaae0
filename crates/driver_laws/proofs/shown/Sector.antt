-- A SECTOR is tried: its line may be said, and what it leaves is shown.
use Rattle.std.proofs.Common.{◌≡◌, ◌<◌, ℕ, ◌≤◌, List, [], ◌++◌, take, length, ◌+◌, ◌-◌, Option, Some, None, ◌*◌, ◌==◌, ◌&&◌, Bool, true, false, refl, sym, ap, not, subst, arith, ◌∙◌, append-nil, rules}
use Rattle.std.specs.Prelude.{if◌then◌else◌}
use Rattle.pack_geometry.specs.declared.DriveKind.{DriveKind}
use Rattle.hardware_table.specs.declared.Moved.{Moved}
use Rattle.hardware_table.specs.declared.Moved.TheVariants.{Clean, Burst, Hard}
use Rattle.hardware_table.specs.declared.Work.TheVariants as work
use Rattle.hardware_table.specs.declared.Work.{Work}
use Rattle.hardware_table.specs.Adapter.{AdapterState, IsAdapter, bytes_between, stepped, step_bytes, next_block, next_window, drive_stepped}
use Rattle.hardware_table.specs.Drive.{DriveState, is_writing}
use Rattle.hardware_table.specs.Moves.{IsVerdict, has_bytes, was_read, was_written}
use Rattle.hardware_table.specs.Noise.{strikes, after_strike, book_struck, Book}
use Rattle.main_memory.specs.Blocks.{Loan, size_at}
use Rattle.transfer_engine.specs.declared.job.Job.{Job}
use Rattle.transfer_engine.specs.declared.job.Segment.{Segment}
use Rattle.transfer_engine.specs.State.{TransferState}
use Rattle.transfer_engine.specs.State as engine
use Rattle.trace_replay.specs.requests.Requests.{Request}
use Rattle.trace_replay.specs.Service.{in_hand}
use Rattle.trace_replay.specs.Replay.{UnitSeen, Replay, hand_of, at_unit, unit_after, bytes_of}
use Rattle.trace_replay.specs.Conversation as told
use Rattle.trace_replay.specs.Moments as moment
use Rattle.trace_replay.specs.Packs.{Surface, flips_at, read_as, size_of_block, bytes_read, surface_read}
use Rattle.trace_replay.specs.Adapters as rule
use Rattle.driver_machine.specs.declared.Phase.TheVariants.{Transferring}
use Rattle.driver_machine.specs.declared.Phase.TheVariants as phases
use Rattle.driver_machine.specs.World.{World, UnitView, Held, slot_in_hand, transfer_of, with_block_in, drive_of, adapter_of, unit_at, adapter_at, held_in}
use Rattle.driver_machine.specs.Guards.{IsHeldFor, InHand, IsBusyFor, IsTried}
use Rattle.driver_machine.specs.Acts.{with_drive, Tried, scene_of}
use Rattle.driver_machine.specs.Acts as deed
use Rattle.driver_machine.specs.Sound.{Sound, IsPhase, IsBegun}
use Rattle.driver_laws.specs.shown.Stages.{segment_seen, last_verdict, left_by, progress_stopped, failures_at, front_of, progress_with}
use Rattle.driver_laws.specs.shown.Shows.{IsAdapterSeen}
use Rattle.driver_laws.proofs.shown.Told.{seen_told}
use Rattle.driver_laws.proofs.shown.Core.{Core, IsHead}
use Rattle.driver_laws.proofs.shown.Facts.{At, some_one}
use Rattle.driver_laws.proofs.shown.Plain.{ready_plain}
use Rattle.driver_laws.proofs.shown.DeedFacts.{no, kept_block, said_by}
use Rattle.driver_laws.proofs.shown.Busy.{Moves, moves, only_one}
use Rattle.driver_laws.proofs.shown.Fronts.{front_more, front_same, block_set}
use Rattle.driver_laws.proofs.rules.Known.{written_live}
use Rattle.driver_laws.proofs.shown.Showing.{IsOnSurface, Shows, is_coming, with_coming, IsSaid}

-- THE COMPLETION goes up behind a clean sector where it was the last, in bytes as in blocks.
bytes_left : (blocks last skip count moved : ℕ) → 0 < bytes_between blocks last skip count - 512 * moved → moved < count
bytes_left blocks last skip count moved some = grind (arith, some)

-- both go up together
over_together : (a seen : AdapterState) → IsAdapter a → IsAdapterSeen a seen → a.busy ≡ true → a.completion ≡ false → 1 ≤ a.blocks
    → (seen.byte_count - step_bytes seen == 0) ≡ (a.byte_count - step_bytes a == 0)
over_together a seen ok is busy down some = search rules

sector_adapter : (v : Moved) (a seen : AdapterState) → (seen.byte_count - step_bytes seen == 0) ≡ (a.byte_count - step_bytes a == 0)
    → IsAdapterSeen a seen → IsAdapterSeen (stepped v a) (stepped v seen)
sector_adapter v a seen over is = search rules

-- and so for the drive
sector_drive : (v : Moved) (a seen : AdapterState) (d : DriveState) → IsAdapterSeen a seen → IsAdapterSeen (stepped v a) (stepped v seen)
    → drive_stepped v seen d ≡ drive_stepped v a d
sector_drive v a seen d is after = rw (after.completion, is.block, is.moved) refl

one_less : (n m : ℕ) → n - m - 1 ≡ n - (m + 1)
one_less n m = omega arith

clean_by : (b : Bool) → (if b then Clean else Clean) ≡ Clean
clean_by true = refl
clean_by false = refl

-- THE STAGE
stepped_verdict : (v : Moved) (a : AdapterState) → last_verdict (stepped v a) ≡ v
stepped_verdict Clean a = clean_by (a.byte_count - step_bytes a == 0)
stepped_verdict other a = refl

left_after : (v : Moved) (a : AdapterState) → a.count - a.moved - 1 ≡ left_by v ((stepped v a).count - (stepped v a).moved)
left_after Clean a = one_less a.count a.moved
left_after other a = refl

sector_stage : (h : Held) (v : UnitView) (a : AdapterState) (seen : UnitSeen) → Core h v a seen → v.phase ≡ Transferring → a.completion ≡ false
    → seen.stage ≡ told.Moving (segment_seen (transfer_of v)) (a.count - a.moved) Clean
sector_stage h v a seen is phase down = is.stage ∙ rw (phase, down) refl

pub sector_progress : (h : Held) (v : UnitView) (a : AdapterState) (seen : UnitSeen) → Core h v a seen → v.phase ≡ Transferring → a.completion ≡ false
    → seen.progress ≡ progress_with a.moved (transfer_of v) h
sector_progress h v a seen is phase down = (rw phase at is.progress) ∙ rw down refl

-- THE BYTES. A burst and a hard error are found by reads alone, and so no write comes to one.
abbrev pub FitsWrite : Moved → Type 0
FitsWrite (Burst at pattern) = ⊥
FitsWrite Hard = ⊥
FitsWrite v = Unit {0}

-- what a write comes to
written_verdict : (d : DriveState) (marked : Bool) (places : Option (List ℕ)) (v : Moved) → is_writing d.work ≡ true → IsVerdict d marked places v → FitsWrite v
written_verdict d marked places v writes is = search rules

-- the block of the buffer that was read, where one was
abbrev pub read_into : Bool → ℕ → List ℕ → Held → Held
read_into true k bytes h = with_block_in k bytes h
read_into false k bytes h = h

abbrev pub bytes_got : Bool → List ℕ → List ℕ
bytes_got true bytes = bytes
bytes_got false bytes = []

no_front : (write : Bool) (x y : List ℕ) → write ≡ true → (if write then [] else x) ≡ (if write then [] else y)
no_front true x y is = refl
no_front false x y is = absurd (grind (arith, is))

-- the front behind a sector that moved
front_got : (write : Bool) (k : ℕ) (bytes : List ℕ) (h : Held) → h.write ≡ write → k < length h.blocks
    → front_of h k ++ bytes_got (not write) bytes ≡ front_of (read_into (not write) k bytes h) (k + 1)
front_got true k bytes h writes inside = append-nil (front_of h k) ∙ no_front h.write _ _ writes
front_got false k bytes h reads inside = sym (front_more h k bytes reads inside)

front_kept : (read : Bool) (k : ℕ) (bytes : List ℕ) (h : Held) → front_of h k ≡ front_of (read_into read k bytes h) k
front_kept true k bytes h = sym (front_same h k bytes)
front_kept false k bytes h = refl

not_none : (n failures : ℕ) → 0 ≡ failures_at (n + 1) failures
not_none n failures = grind (arith)

pub more_done : (done moved : ℕ) → done + moved + 1 ≡ done + (moved + 1)
more_done done moved = omega arith

tried_progress : (v : Moved) (write : Bool) (a : AdapterState) (bytes : List ℕ) (t : TransferState) (h : Held) → h.write ≡ write
    → t.done + a.moved < length h.blocks → (write ≡ true → FitsWrite v)
    → told.progress_tried v (bytes_got (has_bytes v && not write) bytes) (progress_with a.moved t h)
    ≡ progress_stopped v (stepped v a).moved t (read_into (has_bytes v && not write) (t.done + a.moved) bytes h)
tried_progress v write a bytes t h is inside reads = search (rules, front_got, read_into, more_done, not_none, front_kept, block_set)

read_into_is : (b : Bool) (k n : ℕ) (bytes : List ℕ) (h : Held) → k ≡ n → read_into b n bytes h ≡ (if b then with_block_in k bytes h else h)
read_into_is true k n bytes h is = ap (λ j. with_block_in j bytes h) (sym is)
read_into_is false k n bytes h is = refl

-- what is known of a sector that is tried
pub record IsMoving (v : UnitView) (a : AdapterState) (h : Held) (last : Moved) : Type 0 where
  pub phase : v.phase ≡ Transferring
  pub down : a.completion ≡ false
  pub write : is_writing v.drive.work ≡ h.write
  pub window : next_window a ≡ (transfer_of v).done + a.moved
  pub inside : (transfer_of v).done + a.moved < length h.blocks
  pub read : h.write ≡ true → FitsWrite last

sector_core : (h : Held) (v : UnitView) (a : AdapterState) (seen : UnitSeen) (b : AdapterState) (block : ℕ) (last : Moved) (bytes got : List ℕ)
    → Core h v a seen → IsMoving v a h last → drive_stepped last b v.drive ≡ drive_stepped last a v.drive
    → got ≡ bytes_got (was_read v.drive last) bytes
    → Core (if was_read v.drive last then with_block_in (next_window a) bytes h else h) (with_drive (drive_stepped last a) v) (stepped last a)
    (seen_told seen b (moment.Sector block last) got)
sector_core h v a seen b block last bytes got is moving drive gives =
    let read : was_read v.drive last ≡ (has_bytes last && not h.write) = rw moving.write refl in
    let stage : seen.stage ≡ told.Moving (segment_seen (transfer_of v)) (a.count - a.moved) Clean = sector_stage h v a seen is moving.phase moving.down in
    let progress : seen.progress ≡ progress_with a.moved (transfer_of v) h = sector_progress h v a seen is moving.phase moving.down in
    let tried : told.progress_tried last (bytes_got (has_bytes last && not h.write) bytes) (progress_with a.moved (transfer_of v) h)
    ≡ progress_stopped last (stepped last a).moved (transfer_of v) (read_into (has_bytes last && not h.write) ((transfer_of v).done + a.moved) bytes h) =
    tried_progress last h.write a bytes (transfer_of v) h refl moving.inside moving.read in
    let held : read_into (was_read v.drive last) ((transfer_of v).done + a.moved) bytes h ≡ (if was_read v.drive last then with_block_in (next_window a) bytes h else h) =
    read_into_is (was_read v.drive last) (next_window a) ((transfer_of v).done + a.moved) bytes h moving.window in
    let went : told.progress_tried last got seen.progress
    ≡ progress_stopped last (stepped last a).moved (transfer_of v) (read_into (was_read v.drive last) ((transfer_of v).done + a.moved) bytes h) =
    rw (progress, gives, read) tried in
    record {
      drive = rw is.drive drive;
      table = is.table;
      stage =
          rw (stage, moving.phase)
          (ap (λ n. told.Moving (segment_seen (transfer_of v)) n last) (left_after last a)
          ∙ ap (λ l. told.Moving (segment_seen (transfer_of v)) (left_by l ((stepped last a).count - (stepped last a).moved)) l) (sym (stepped_verdict last a)));
      progress =
          rw moving.phase
          (went
          ∙ ap (progress_stopped last (stepped last a).moved (transfer_of v)) held
          ∙ ap (λ l. progress_stopped l (stepped last a).moved (transfer_of v) (if was_read v.drive last then with_block_in (next_window a) bytes h else h))
          (sym (stepped_verdict last a)));
    }

-- A SECTOR MAY COME where some are left, and it is the one where the segment stands.
sector_talk : (h : Held) (v : UnitView) (a : AdapterState) (seen : UnitSeen) (block : ℕ) → Core h v a seen → IsHead h v.drive.kind seen → IsBegun v h
    → v.phase ≡ Transferring → a.completion ≡ false → a.moved < a.count → ((i : ℕ) → (transfer_of v).index ≡ Some i → a.moved ≡ 0)
    → block ≡ (engine.segment_of (transfer_of v)).block + a.moved → told.sector_may (hand_of seen) seen.stage block ≡ true
sector_talk h v a seen block is head begun phase down more none at = search rules

was_read_reads : (d : DriveState) (last : Moved) (write : Bool) → is_writing d.work ≡ write → was_read d last ≡ true → write ≡ false
was_read_reads d last write is read = search rules

kept_sector : (b : Bool) (kind : DriveKind) (q : Request) (h : Held) (k : ℕ) (bytes : List ℕ) → (b ≡ true → h.write ≡ false)
    → IsHeldFor kind q h → IsHeldFor kind q (if b then with_block_in k bytes h else h)
kept_sector true kind q h k bytes reads is = kept_block kind q h k bytes (reads refl) is
kept_sector false kind q h k bytes reads is = is

ended_sector : (b : Bool) (h : Held) (k : ℕ) (bytes : List ℕ) → (if b then with_block_in k bytes h else h).ended ≡ h.ended
ended_sector true h k bytes = refl
ended_sector false h k bytes = refl

-- the bytes that the line gives
size_same : (r : Request) (loan : Loan) (k : ℕ) → loan.count ≡ r.count → loan.last ≡ r.last → size_of_block r k ≡ size_at loan k
size_same r loan k count last = rw (count, last) refl

got_bytes : (b : Bool) (s : Surface) (u : ℕ) (d : DriveState) (block : ℕ) (r : Request) (k : ℕ) (loan : Loan) (bytes : List ℕ)
    → size_of_block r k ≡ size_at loan k
    → (b ≡ true → bytes ≡ take (size_at loan k) (read_as (flips_at s u d block) (s.sector u block)))
    → bytes_read b s u d block r k ≡ bytes_got b bytes
got_bytes true s u d block r k loan bytes size read = ap (λ n. take n (read_as (flips_at s u d block) (s.sector u block))) size ∙ sym (read refl)
got_bytes false s u d block r k loan bytes size read = refl

-- the noise that is left
noise_read : (b : Bool) (s : Surface) (u : ℕ) (d : DriveState) (block : ℕ) (book : Book) → s.live ≡ book.live
    → (surface_read b s u d block).live ≡ (if b then book_struck u block d.offset book else book).live
noise_read true s u d block book is = ap (after_strike u block d.offset) is
noise_read false s u d block book is = is

-- what moves
moving_work : (completion : Bool) (write : Bool) (w : Work) → completion ≡ false → w ≡ (if completion then work.Ready else work.Transfer write)
    → w ≡ work.Transfer write
moving_work true write w down is = absurd (grind (arith, down))
moving_work false write w down is = is

segment_skip : (index : Option ℕ) (job : Job) (done : ℕ) → (engine.segment_by index job done).skip ≡ done
segment_skip None job done = refl
segment_skip (Some i) job done = refl

pub one_sector : (index : Option ℕ) (job : Job) (done moved count : ℕ) → moved < count → count ≡ (engine.segment_by index job done).count
    → (i : ℕ) → index ≡ Some i → moved ≡ 0
one_sector None job done moved count less same i is = absurd (grind (arith, is))
one_sector (Some j) job done moved count less same i is = omega (arith, less, same)

inside_buffer : {skip count blocks moved done size : ℕ} → skip + count ≤ blocks → moved < count → skip ≡ done → blocks ≡ size → done + moved < size
inside_buffer fits less at is = omega (arith, fits, less, at, is)

-- what is known of the sector that moves
pub record IsSector (u : ℕ) (w : World) (s : Replay) (last : Moved) : Type 0 where
  pub moving : IsMoving (unit_at w u) (adapter_at w (adapter_of u)).state (held_in w (slot_in_hand (unit_at w u))) last
  pub begun : IsBegun (unit_at w u) (held_in w (slot_in_hand (unit_at w u)))
  pub work : (unit_at w u).drive.work ≡ work.Transfer (adapter_at w (adapter_of u)).state.write
  pub more : (adapter_at w (adapter_of u)).state.moved < (adapter_at w (adapter_of u)).state.count
  pub block : (adapter_at w (adapter_of u)).state.block ≡ (engine.segment_of (transfer_of (unit_at w u))).block
  pub count : (adapter_at w (adapter_of u)).state.count ≡ (engine.segment_of (transfer_of (unit_at w u))).count
  pub some : 1 ≤ (adapter_at w (adapter_of u)).state.blocks

pub sector_facts : (u id block : ℕ) (w : World) (s : Replay) (t : Tried) → Sound w → At u id w s
    → IsBusyFor (adapter_at w (adapter_of u)).state (drive_of u) false → IsTried u block t (scene_of w u) → IsSector u w s t.verdict
sector_facts u id block w s t sound at busy tried =
    let h : Held = held_in w (slot_in_hand (unit_at w u)) in
    let v : UnitView = unit_at w u in
    let a : AdapterState = (adapter_at w (adapter_of u)).state in
    let m : Moves w u = moves w u at.adapter_ok busy.busy busy.drive in
    let one : m.held ≡ h = some_one (sym m.is.slot ∙ at.there) in
    let phase : v.phase ≡ phases.Transferring = m.is.phase in
    let facts : IsPhase u v (adapter_at w (adapter_of u)) h phases.Transferring =
    subst (IsPhase u v (adapter_at w (adapter_of u)) h) phase at.ok.phase in
    let moves_write : v.drive.work ≡ work.Transfer a.write = moving_work a.completion a.write v.drive.work busy.completion facts.1.work in
    let write : is_writing v.drive.work ≡ h.write = ap is_writing moves_write ∙ m.is.write ∙ ap (λ (g : Held). g.write) one in
    let loan : record { frames = a.frames; offset = a.offset; count = a.blocks; last = a.last } ≡ h.loan = m.is.loan ∙ ap (λ (g : Held). g.loan) one in
    let blocks : a.blocks ≡ h.loan.count = ap (λ (l : Loan). l.count) loan in
    let skip : a.skip ≡ (transfer_of v).done =
    ap (λ (g : Segment). g.skip) m.is.segment ∙ segment_skip (transfer_of v).index (transfer_of v).job (transfer_of v).done in
    let left : 0 < bytes_between a.blocks a.last a.skip a.count - 512 * a.moved =
    subst (λ n. 0 < n) (at.adapter_ok.state.counted busy.busy) (at.adapter_ok.state.left busy.busy busy.completion) in
    let more : a.moved < a.count = bytes_left a.blocks a.last a.skip a.count a.moved left in
    record {
      moving = record {
        phase = phase;
        down = busy.completion;
        write = write;
        window = ap (λ n. n + a.moved) skip;
        inside = inside_buffer at.adapter_ok.state.inside more skip (blocks ∙ sym at.slot.size);
        read = λ writes. written_verdict v.drive t.marked (strikes u block v.drive.offset w.book.live) t.verdict (write ∙ writes) tried.verdict;
      };
      begun = facts.0;
      work = moves_write;
      more = more;
      block = ap (λ (g : Segment). g.block) m.is.segment;
      count = ap (λ (g : Segment). g.count) m.is.segment;
      some = subst (λ n. 1 ≤ n) (sym blocks) at.slot.loan.shape.some;
    }

sector_adapter_may : (u block : ℕ) (a seen : AdapterState) → seen.busy ≡ true → seen.drive ≡ drive_of u → seen.completion ≡ false
    → rule.is_busy_for seen u && rule.can_move seen ≡ true
sector_adapter_may u block a seen busy drive down = search rules

pub sector_line : (line u id block : ℕ) (w : World) (s : Replay) (t : Tried) → Sound w → Shows u w s → InHand w u id → At u id w s
    → IsBusyFor (adapter_at w (adapter_of u)).state (drive_of u) false → block ≡ next_block (adapter_at w (adapter_of u)).state
    → IsTried u block t (scene_of w u) → IsOnSurface s u (deed.Sector block t) (scene_of w u)
    → IsSaid line u id w s (deed.Sector block t) (moment.Sector block t.verdict)
sector_line line u id block w s t sound shows hand at busy here tried surface =
    let h : Held = held_in w (slot_in_hand (unit_at w u)) in
    let v : UnitView = unit_at w u in
    let a : AdapterState = (adapter_at w (adapter_of u)).state in
    let is : IsSector u w s t.verdict = sector_facts u id block w s t sound at busy tried in
    let waits : told.waits (s.units u).stage ≡ false = rw (at.core.stage, is.moving.phase) refl in
    let over : ((at_unit s u).state.byte_count - step_bytes (at_unit s u).state == 0) ≡ (a.byte_count - step_bytes a == 0) =
    over_together a (at_unit s u).state at.adapter_ok.state at.adapter busy.busy busy.completion is.some in
    let next : IsAdapterSeen (stepped t.verdict a) (stepped t.verdict (at_unit s u).state) = sector_adapter t.verdict a (at_unit s u).state over at.adapter in
    let progress : (s.units u).progress ≡ progress_with a.moved (transfer_of v) h =
    sector_progress h v a (s.units u) at.core is.moving.phase is.moving.down in
    let done : (s.units u).progress.done ≡ next_window a = ap (λ (p : told.Progress). p.done) progress ∙ sym is.moving.window in
    let got : bytes_of s u (moment.Sector block t.verdict) ≡ bytes_got (was_read v.drive t.verdict) t.bytes =
    rw (at.core.drive, done, at.head.head)
    (got_bytes (was_read v.drive t.verdict) s.surface u v.drive block at.head.request (next_window a) h.loan t.bytes
    (size_same at.head.request h.loan (next_window a) at.head.is.count at.head.is.last) surface.1) in
    said_by line u id w s (deed.Sector block t) (moment.Sector block t.verdict) sound shows hand at
    (record {
      service = at.service;
      talk =
          sector_talk h v a (s.units u) block at.core at.head is.begun is.moving.phase is.moving.down is.more
          (one_sector (transfer_of v).index (transfer_of v).job (transfer_of v).done a.moved a.count is.more is.count)
          (here ∙ ap (λ n. n + a.moved) is.block);
      drive = rw (at.core.drive, is.work) refl;
      adapter = (
        sector_adapter_may u block a (at_unit s u).state (at.adapter.busy ∙ busy.busy) (at.adapter.drive ∙ busy.drive) (at.adapter.completion ∙ busy.completion),
        here ∙ rw (at.adapter.block, at.adapter.moved) refl,
      );
      verdict = rw (at.core.drive, shows.noise, sym surface.0) tried.verdict;
    })
    (record {
      core =
          sector_core h v a (s.units u) (at_unit s u).state block t.verdict t.bytes (bytes_of s u (moment.Sector block t.verdict)) at.core is.moving
          (sector_drive t.verdict a (at_unit s u).state v.drive at.adapter next) got;
      queue = refl;
      service = refl;
      kept = λ kind q held. kept_sector (was_read v.drive t.verdict) kind q h (next_window a) t.bytes
          (was_read_reads v.drive t.verdict h.write is.moving.write) held;
      ended = ended_sector (was_read v.drive t.verdict) h (next_window a) t.bytes;
      declared = refl;
      adapter = next;
      ready =
          subst (λ ph. rule.with_ready (told.waits (unit_after s u (moment.Sector block t.verdict)).stage) u (at_unit s u).ready
          ≡ with_coming (is_coming ph (unit_after s u (moment.Sector block t.verdict)).stage) u (adapter_at w (adapter_of u)).queue) (sym is.moving.phase)
          (ready_plain u id w s (told.waits (unit_after s u (moment.Sector block t.verdict)).stage) shows at
          (λ e. grind (arith, is.moving.phase, e)) (λ e. no waits e));
      apart = λ x other one phase. only_one w u x sound hand.unit other one phase busy.drive;
      noise =
          written_live (was_written (s.units u).drive t.verdict) (surface_read (was_read (s.units u).drive t.verdict) s.surface u (s.units u).drive block) u block
          (in_hand (s.units u).service) (s.units u).progress.done
          ∙ rw at.core.drive (noise_read (was_read v.drive t.verdict) s.surface u v.drive block w.book shows.noise);
      frames = shows.frames;
      outstanding = refl;
    })
