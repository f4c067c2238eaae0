-- A sector that is tried at a unit.
use Rattle.std.proofs.Common.{◌≡◌, ℕ, ◌+◌, ◌<◌, ◌≤◌, Bool, true, false, List, length, All, Option, Some, None, refl, sym, ap, ◌∙◌, subst, arith}
use Rattle.std.specs.Prelude.{if◌then◌else◌, IsTrue}
use Rattle.pack_geometry.specs.declared.DriveKind.{DriveKind}
use Rattle.pack_geometry.specs.Geometry.{limit_of}
use Rattle.pack_geometry.specs.Pack.{Pack, block_at, is_marked}
use Rattle.pack_geometry.specs.Homes.{home_of}
use Rattle.pack_geometry.specs.PackTable.{IsTableOf, places_of}
use Rattle.hardware_table.specs.declared.Moved.{Moved}
use Rattle.hardware_table.specs.declared.Moved.TheVariants as verdict
use Rattle.hardware_table.specs.declared.Work.TheVariants as work
use Rattle.hardware_table.specs.Drive.{is_writing}
use Rattle.hardware_table.specs.Moves.{was_read, was_written, IsVerdict}
use Rattle.hardware_table.specs.Noise.{LiveNoise, strikes}
use Rattle.hardware_table.specs.Adapter.{AdapterState, stepped, next_window}
use Rattle.main_memory.specs.Blocks.{size_at}
use Rattle.request_slots.specs.Move.{IsFrontRead}
use Rattle.transfer_engine.specs.declared.job.Job.{Job}
use Rattle.transfer_engine.specs.declared.job.Segment.{Segment}
use Rattle.transfer_engine.specs.State.{TransferState, segment_by, segment_of}
use Rattle.driver_laws.specs.rules.Machine.{Blocks}
use Rattle.driver_laws.specs.rules.Stands.{is_sure_among, IsLive}
use Rattle.driver_laws.proofs.rules.Noises.{struck_harmless}
use Rattle.driver_machine.specs.declared.Phase.TheVariants.{Transferring}
use Rattle.driver_machine.specs.World.{Held, transfer_of, job_of, block_in}
use Rattle.driver_machine.specs.Acts as deed
use Rattle.driver_machine.specs.Acts.{Scene, Tried, effect}
use Rattle.driver_machine.specs.Guards.{May}
use Rattle.driver_machine.specs.Sound.{IsPhase}
use Rattle.driver_laws.proofs.invariant.Scene.{SceneOk, phase_is}
use Rattle.driver_laws.proofs.invariant.DeedFacts.{transfer_at, left_by}
use Rattle.driver_laws.proofs.invariant.Sector.{moved_less}
use Rattle.driver_laws.specs.shown.Bytes.{sector_for, HandBears}
use Rattle.driver_laws.proofs.shown.Deeds.{At, SceneBears, one_sector}
use Rattle.driver_laws.proofs.shown.QuietSector.{tried_sector, tried_home, IsTry, pack_tried, held_tried, done_tried, tried_bears, tried_table}
use Rattle.main_memory.proofs.BlockLaws.{size_few}
use Rattle.driver_laws.proofs.shown.Sector.{more_done}

segment_skip : (index : Option ℕ) (job : Job) (done : ℕ) → (segment_by index job done).skip ≡ done
segment_skip None job done = refl
segment_skip (Some i) job done = refl

done_stepped : (v : Moved) (done : ℕ) (a : AdapterState) → done_tried v (done + a.moved) ≡ done + (stepped v a).moved
done_stepped verdict.Clean done a = more_done done a.moved
done_stepped other done a = refl

clean_by : (b : Bool) → verdict.Clean ≡ (if b then verdict.Clean else verdict.Clean)
clean_by true = refl
clean_by false = refl

last_stepped : (v : Moved) (a : AdapterState) → v ≡ (if (stepped v a).completion then (stepped v a).verdict else verdict.Clean)
last_stepped verdict.Clean a = clean_by (stepped verdict.Clean a).completion
last_stepped other a = refl

below_limit : (first done count job limit : ℕ) → done < job → job ≡ count → first + count ≤ limit → first + done < limit
below_limit first done count job limit less same inside = omega (arith, less, same, inside)

-- what a try goes by, beside the scene
pub record Given (armed : List LiveNoise) (pack : Pack) (u block : ℕ) (t : Tried) (s : Scene) : Type 0 where
  pub mark : t.marked ≡ is_marked pack block
  pub bytes : IsTrue (was_read s.unit.drive t.verdict)
      → IsFrontRead (strikes u block s.unit.drive.offset s.book.live) (block_at pack.image block) (size_at s.held.loan (next_window s.adapter.state)) t.bytes
  pub noise : All (IsLive armed) s.book.live
  pub size : length s.held.blocks ≡ s.held.loan.count
  pub whole : (k : ℕ) → k < s.held.loan.count → length (block_in s.held k) ≡ size_at s.held.loan k
  pub room : length (places_of s.unit.table) ≤ 126

pub sector_bears : (armed : List LiveNoise) (pack : Pack) (blocks : Blocks) (line u p block : ℕ) (t : Tried) (s : Scene) → SceneOk u s → May u (deed.Sector block t) s
    → Given armed pack u block t s → IsTableOf s.unit.drive.kind pack s.unit.table → SceneBears (is_sure_among armed u) s.unit.drive.kind pack blocks s
    → IsTableOf s.unit.drive.kind (pack_tried (was_written s.unit.drive t.verdict) pack block t.bytes) s.unit.table
    × SceneBears (is_sure_among armed u) s.unit.drive.kind (pack_tried (was_written s.unit.drive t.verdict) pack block t.bytes) blocks (effect line u p (deed.Sector block t) s)
sector_bears armed pack blocks line u p block tried s ok may given table b =
    let kind : DriveKind = s.unit.drive.kind in
    let h : Held = s.held in
    let t : TransferState = transfer_of s.unit in
    let a : AdapterState = s.adapter.state in
    let has = transfer_at u false s ok may.0 in
    let is : IsPhase u s.unit s.adapter h Transferring = phase_is u s Transferring ok has.phase in
    let skip : a.skip ≡ t.done = ap (λ (g : Segment). g.skip) has.segment ∙ segment_skip t.index t.job t.done in
    let window : next_window a ≡ t.done + a.moved = ap (λ n. n + a.moved) skip in
    let less : a.moved < (segment_of t).count = subst (λ n. a.moved < n) (ap (λ (g : Segment). g.count) has.segment) (moved_less a ok.adapter may.0.busy may.0.completion) in
    let at : block ≡ (segment_of t).block + a.moved = may.1 ∙ ap (λ (g : Segment). g.block + a.moved) has.segment in
    let job : t.job ≡ job_of kind h = is.0.job in
    let sector : block ≡ sector_for kind t.index (h.first + (t.done + a.moved)) =
    tried_sector t.index t.job kind t.done a.moved block (ap (λ (j : Job). j.kind) job) less at
    ∙ ap (λ (j : Job). sector_for kind t.index (j.first + (t.done + a.moved))) job in
    let count : t.job.count ≡ h.loan.count = ap (λ (j : Job). j.count) job in
    let inside : t.done + a.moved < t.job.count = left_by t.index t.job t.done a.moved is.0.is.left less in
    let counted : t.done + a.moved < h.loan.count = subst (λ n. t.done + a.moved < n) count inside in
    let below : h.first + (t.done + a.moved) < limit_of kind = below_limit h.first (t.done + a.moved) h.loan.count t.job.count (limit_of kind) inside count ok.inside in
    let does : s.unit.drive.work ≡ work.Transfer a.write = is.1.work ∙ ap (λ c. if c then work.Ready else work.Transfer a.write) may.0.completion in
    let one : HandBears (is_sure_among armed u) kind s.unit.table pack blocks h t (t.done + a.moved) (if a.completion then a.verdict else verdict.Clean) =
    subst (λ p. At (is_sure_among armed u) kind s.unit.table pack blocks h s.unit.transfer p a) has.phase b in
    let here : HandBears (is_sure_among armed u) kind s.unit.table pack blocks h t (t.done + a.moved) verdict.Clean =
    subst (λ c. HandBears (is_sure_among armed u) kind s.unit.table pack blocks h t (t.done + a.moved) (if c then a.verdict else verdict.Clean)) may.0.completion one in
    let try : IsTry (is_sure_among armed u block) (limit_of kind) pack s.unit.table h (t.done + a.moved) block s.unit.drive (strikes u block s.unit.drive.offset s.book.live) tried.verdict tried.bytes = record {
      direction = ap is_writing does ∙ has.write;
      verdict_is = subst (λ m. IsVerdict s.unit.drive m (strikes u block s.unit.drive.offset s.book.live) tried.verdict) given.mark may.2.verdict;
      given = λ w. may.2.bytes w ∙ ap (block_in h) window;
      got = λ r. subst (λ k. IsFrontRead (strikes u block s.unit.drive.offset s.book.live) (block_at pack.image block) (size_at h.loan k) tried.bytes) window (given.bytes r);
      harmless = λ ps e. struck_harmless armed s.book.live u block s.unit.drive.offset ps given.noise e;
      inside = subst (λ n. t.done + a.moved < n) (sym given.size) counted;
      counted = counted;
      few = subst (λ n. n ≤ 512) (sym (given.whole (t.done + a.moved) counted)) (size_few h.loan (t.done + a.moved) ok.loan);
      room = given.room;
    } in
    let home : is_marked pack (sector_for kind t.index (h.first + (t.done + a.moved))) ≡ false → home_of kind s.unit.table pack (h.first + (t.done + a.moved)) ≡ Some (sector_for kind t.index (h.first + (t.done + a.moved))) =
    λ unmarked. tried_home t.index kind s.unit.table pack h.first t.done a.moved here.forwarded (one_sector t.index t.job t.done a.moved less) below unmarked in
    let sized : IsTry (is_sure_among armed u (sector_for kind t.index (h.first + (t.done + a.moved)))) (limit_of kind) pack s.unit.table h (t.done + a.moved) (sector_for kind t.index (h.first + (t.done + a.moved))) s.unit.drive (strikes u block s.unit.drive.offset s.book.live) tried.verdict tried.bytes =
    subst (λ x. IsTry (is_sure_among armed u x) (limit_of kind) pack s.unit.table h (t.done + a.moved) x s.unit.drive (strikes u block s.unit.drive.offset s.book.live) tried.verdict tried.bytes) sector try in
    let left : HandBears (is_sure_among armed u) kind s.unit.table (pack_tried (was_written s.unit.drive tried.verdict) pack (sector_for kind t.index (h.first + (t.done + a.moved))) tried.bytes) blocks
    (held_tried (was_read s.unit.drive tried.verdict) (t.done + a.moved) tried.bytes h) t (done_tried tried.verdict (t.done + a.moved)) tried.verdict =
    tried_bears (is_sure_among armed u) kind s.unit.table pack blocks h t (t.done + a.moved) here s.unit.drive (strikes u block s.unit.drive.offset s.book.live) tried.bytes
    home tried.verdict sized in
    let kept : IsTableOf kind (pack_tried (was_written s.unit.drive tried.verdict) pack (sector_for kind t.index (h.first + (t.done + a.moved))) tried.bytes) s.unit.table =
    tried_table (is_sure_among armed u) kind s.unit.table pack blocks h t (t.done + a.moved) here s.unit.drive (strikes u block s.unit.drive.offset s.book.live) tried.bytes
    home tried.verdict sized table in
    let placed : HandBears (is_sure_among armed u) kind s.unit.table (pack_tried (was_written s.unit.drive tried.verdict) pack block tried.bytes) blocks
    (held_tried (was_read s.unit.drive tried.verdict) (next_window a) tried.bytes h) t (t.done + (stepped tried.verdict a).moved)
    (if (stepped tried.verdict a).completion then (stepped tried.verdict a).verdict else verdict.Clean) =
    moved_to left (sym sector) (sym window) (done_stepped tried.verdict t.done a) (last_stepped tried.verdict a) in (
      subst (λ x. IsTableOf kind (pack_tried (was_written s.unit.drive tried.verdict) pack x tried.bytes) s.unit.table) (sym sector) kept,
      subst (λ p. At (is_sure_among armed u) kind s.unit.table (pack_tried (was_written s.unit.drive tried.verdict) pack block tried.bytes) blocks
          (held_tried (was_read s.unit.drive tried.verdict) (next_window a) tried.bytes h) s.unit.transfer p (stepped tried.verdict a)) (sym has.phase) placed,
    )
  where
    moved_to : {x y k m n r : ℕ} {l q : Moved}
        → HandBears (is_sure_among armed u) s.unit.drive.kind s.unit.table (pack_tried (was_written s.unit.drive tried.verdict) pack x tried.bytes) blocks
        (held_tried (was_read s.unit.drive tried.verdict) k tried.bytes s.held) (transfer_of s.unit) n l
        → x ≡ y → k ≡ m → n ≡ r → l ≡ q
        → HandBears (is_sure_among armed u) s.unit.drive.kind s.unit.table (pack_tried (was_written s.unit.drive tried.verdict) pack y tried.bytes) blocks
        (held_tried (was_read s.unit.drive tried.verdict) m tried.bytes s.held) (transfer_of s.unit) r q
    moved_to {x} {y} {k} {m} {n} {r} {l} {q} is e f g i =
        subst (λ z. HandBears (is_sure_among armed u) s.unit.drive.kind s.unit.table (pack_tried (was_written s.unit.drive tried.verdict) pack z tried.bytes) blocks (held_tried (was_read s.unit.drive tried.verdict) m tried.bytes s.held) (transfer_of s.unit) r q) e
        (subst (λ z. HandBears (is_sure_among armed u) s.unit.drive.kind s.unit.table (pack_tried (was_written s.unit.drive tried.verdict) pack x tried.bytes) blocks (held_tried (was_read s.unit.drive tried.verdict) z tried.bytes s.held) (transfer_of s.unit) r q) f
        (subst (λ z. HandBears (is_sure_among armed u) s.unit.drive.kind s.unit.table (pack_tried (was_written s.unit.drive tried.verdict) pack x tried.bytes) blocks (held_tried (was_read s.unit.drive tried.verdict) k tried.bytes s.held) (transfer_of s.unit) z q) g
        (subst (λ z. HandBears (is_sure_among armed u) s.unit.drive.kind s.unit.table (pack_tried (was_written s.unit.drive tried.verdict) pack x tried.bytes) blocks (held_tried (was_read s.unit.drive tried.verdict) k tried.bytes s.held) (transfer_of s.unit) n z) i is)))
