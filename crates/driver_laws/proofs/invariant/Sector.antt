-- A SECTOR is tried: the next one lies on the pack, and behind it phase, drive and adapter hold.
use Rattle.std.proofs.Common.{◌≡◌, ℕ, ◌+◌, ◌<◌, ◌≤◌, Bool, true, false, List, Option, Some, None, refl, sym, ap, ◌∙◌, subst, arith, rules}
use Rattle.std.specs.Prelude.{◌*◌, ◌-◌, if◌then◌else◌, option_map}
use Rattle.std.proofs.lemmas.Bool.{false≢true}
use Rattle.std.specs.Int.{bit_at}
use Rattle.pack_geometry.specs.Geometry.{block_count}
use Rattle.fire_code.specs.Burst.{IsBurst}
use Rattle.fire_code.specs.Remainder.{remainder}
use Rattle.fire_code.proofs.Laws.{burst_begins}
use Rattle.hardware_table.specs.declared.FaultKind.{FaultKind}
use Rattle.hardware_table.specs.declared.Moved.{Moved}
use Rattle.hardware_table.specs.declared.Moved.TheVariants as verdict
use Rattle.hardware_table.specs.declared.Work.TheVariants as work
use Rattle.hardware_table.specs.Drive.{DriveState, is_writing}
use Rattle.hardware_table.specs.Events.{transfer_ended}
use Rattle.hardware_table.specs.Moves.{passed, after_move, first_armed, stop_of, IsReadVerdict, IsVerdictBy, IsVerdict, was_read}
use Rattle.hardware_table.specs.Adapter.{AdapterState, IsAdapter, bytes_between, bytes_loaded, stepped, drive_stepped, next_block, late_after, next_window}
use Rattle.main_memory.specs.Blocks.{Loan}
use Rattle.transfer_engine.specs.declared.job.Segment.{Segment}
use Rattle.transfer_engine.specs.State.{segment_of}
use Rattle.driver_machine.specs.declared.Phase.TheVariants.{Transferring}
use Rattle.driver_machine.specs.Acts as deed
use Rattle.driver_machine.specs.Acts.{Tried, Scene, effect}
use Rattle.driver_machine.specs.Sound.{IsDrive, IsPhase, IsClear, IsUnderWay, IsEndedAt, IsBurstAt, IsFor, late_by}
use Rattle.driver_machine.specs.World.{Held, transfer_of, drive_of, with_block_in}
use Rattle.driver_machine.specs.Guards.{May, IsBusyFor}
use Rattle.driver_laws.proofs.invariant.Drives.{drive_after_step}
use Rattle.driver_laws.proofs.invariant.Scene.{SceneOk, phase_is, same_ask, begun_as, block_below, effect_ask}
use Rattle.driver_laws.proofs.invariant.DeedFacts.{transfer_at}
use Rattle.driver_laws.proofs.invariant.AdapterLeft.{SceneAdapter, AdapterLeft}
use Rattle.trace_replay.proofs.Kept.{stepped_kind}

attention_stepped : (v : Moved) (a : AdapterState) (d : DriveState) → (drive_stepped v a d).attention ≡ d.attention
attention_stepped v a d = first_of (search rules, grind arith)

-- a transfer that ends shows what its last verdict left
stopped_way : (v : Moved) (block : ℕ) (d : DriveState) (a : AdapterState) → a.completion ≡ true → a.verdict ≡ v → a.data_late ≡ late_by v
    → d.attention ≡ false → IsClear d → IsUnderWay (transfer_ended (after_move v block d)) a
stopped_way v block d a up last late down clear = first_of (search rules, grind arith)

clean_way : (b : Bool) (block : ℕ) (d : DriveState) (a : AdapterState) → a.completion ≡ b → a.verdict ≡ verdict.Clean → a.data_late ≡ false
    → d.work ≡ work.Transfer a.write → d.attention ≡ false → IsClear d → IsUnderWay (if b then transfer_ended (passed block d) else passed block d) a
clean_way b block d a h0 h1 h2 h3 h4 h5 = first_of (search rules, grind arith)

way_stepped : (v : Moved) (a : AdapterState) (d : DriveState) → a.completion ≡ false → IsUnderWay d a → IsUnderWay (drive_stepped v a d) (stepped v a)
way_stepped verdict.Clean a d up way =
    let does : d.work ≡ work.Transfer a.write = way.work ∙ ap (λ b. if b then work.Ready else work.Transfer a.write) up in
    clean_way (stepped verdict.Clean a).completion (next_block a) d (stepped verdict.Clean a) refl refl (way.quiet up).late does way.attention (way.quiet up).clear
way_stepped (verdict.Faulted kind) a d up way =
    stopped_way (verdict.Faulted kind) (next_block a) d (stepped (verdict.Faulted kind) a) refl refl (ap (late_after kind) (way.quiet up).late)
    way.attention (way.quiet up).clear
way_stepped other a d up way =
    stopped_way other (next_block a) d (stepped other a) refl refl (way.quiet up).late way.attention (way.quiet up).clear

-- a step leaves what was started
pub record IsStepOf (a b : AdapterState) : Type 0 where
  pub busy : b.busy ≡ a.busy
  pub drive : b.drive ≡ a.drive
  pub frames : b.frames ≡ a.frames
  pub offset : b.offset ≡ a.offset
  pub blocks : b.blocks ≡ a.blocks
  pub last : b.last ≡ a.last
  pub block : b.block ≡ a.block
  pub skip : b.skip ≡ a.skip
  pub count : b.count ≡ a.count
  pub write : b.write ≡ a.write
  pub attentions : b.attentions ≡ a.attentions

-- it changes only what has moved, what is left, and what it shows
step_of : {a : AdapterState} {address byte_count moved : ℕ} {completion : Bool} {v : Moved} {late : Bool}
    → IsStepOf a (record a { address = address; byte_count = byte_count; moved = moved; completion = completion; verdict = v; data_late = late })
step_of = first_of (search rules, grind arith)

is_step : (v : Moved) (a : AdapterState) → IsStepOf a (stepped v a)
is_step verdict.Clean a = step_of
is_step other a = step_of

pub sector_phase : (line u p block : ℕ) (t : Tried) (s : Scene) → SceneOk u s → IsBusyFor s.adapter.state (drive_of u) false
    → IsPhase u (effect line u p (deed.Sector block t) s).unit (effect line u p (deed.Sector block t) s).adapter s.held s.unit.phase
sector_phase line u p block t s ok may =
    let has = transfer_at u false s ok may in
    let x = (effect line u p (deed.Sector block t) s).unit in
    let a = (effect line u p (deed.Sector block t) s).adapter in
    let is : IsPhase u s.unit s.adapter s.held Transferring = phase_is u s Transferring ok has.phase in
    let step = is_step t.verdict s.adapter.state in
    subst (IsPhase u x a s.held) (sym has.phase) (
      begun_as s.unit x s.held s.held is.0 refl refl (stepped_kind t.verdict s.adapter.state s.unit.drive) (same_ask s.held),
      way_stepped t.verdict s.adapter.state s.unit.drive may.completion is.1,
      step.busy ∙ may.busy,
      step.drive ∙ may.drive,
    )

-- THE NEXT SECTOR of a transfer that is under way lies on the pack: some bytes of the segment are left.
loaded_few : (blocks last skip count : ℕ) → bytes_between blocks last skip count ≤ 512 * count
loaded_few blocks last skip count = first_of (search rules, grind arith)

moved_fewer : (bytes all moved count : ℕ) → bytes ≡ all - 512 * moved → 0 < bytes → all ≤ 512 * count → moved < count
moved_fewer bytes all moved count counted some few = omega arith

pub moved_less : (a : AdapterState) → IsAdapter a → a.busy ≡ true → a.completion ≡ false → a.moved < a.count
moved_less a is busy up = moved_fewer a.byte_count (bytes_loaded a) a.moved a.count (is.counted busy) (is.left busy up) (loaded_few a.blocks a.last a.skip a.count)

pub next_below : (u : ℕ) (s : Scene) → SceneOk u s → IsBusyFor s.adapter.state (drive_of u) false → next_block s.adapter.state < block_count s.unit.drive.kind
next_below u s ok may =
    let a : AdapterState = s.adapter.state in
    let has = transfer_at u false s ok may in
    let is : IsPhase u s.unit s.adapter s.held Transferring = phase_is u s Transferring ok has.phase in
    let count : a.count ≡ (segment_of (transfer_of s.unit)).count = ap (λ (x : Segment). x.count) has.segment in
    let block : a.block ≡ (segment_of (transfer_of s.unit)).block = ap (λ (x : Segment). x.block) has.segment in
    let less : a.moved < (segment_of (transfer_of s.unit)).count = subst (λ n. a.moved < n) count (moved_less a ok.adapter may.busy may.completion) in
    subst (λ n. n + a.moved < block_count s.unit.drive.kind) (sym block) (block_below s.unit s.held a.moved is.0 less)

pub sector_drive : (line u p block : ℕ) (t : deed.Tried) (s : Scene) → SceneOk u s → May u (deed.Sector block t) s
    → IsDrive (effect line u p (deed.Sector block t) s).unit.drive
sector_drive line u p block t s ok may = drive_after_step t.verdict s.adapter.state s.unit.drive (next_below u s ok may.0) ok.drive

-- A SECTOR.
stepped_adapter : (v : Moved) (a : AdapterState) → IsAdapter a → a.busy ≡ true → IsAdapter (stepped v a)
stepped_adapter v a h0 h1 = first_of (search rules, grind arith)

over_stepped : (v : Moved) (a : AdapterState) → IsAdapter a → a.busy ≡ true → a.completion ≡ false
    → IsEndedAt (stepped v a).verdict (stepped v a).moved (stepped v a).count
over_stepped verdict.Clean a k busy up = let less = moved_less a k busy up in (omega arith, omega (arith, less))
over_stepped other a k busy up = moved_less a k busy up

whole_stepped : (v : Moved) (a : AdapterState) → IsAdapter a → a.busy ≡ true → a.completion ≡ false → (stepped v a).completion ≡ true
    → (stepped v a).verdict ≡ verdict.Clean → (stepped v a).moved ≡ (stepped v a).count
whole_stepped v a h0 h1 h2 h3 h4 = first_of (search rules, grind arith)

stepped_verdict : (v : Moved) (a : AdapterState) → (stepped v a).verdict ≡ v
stepped_verdict verdict.Clean a = refl
stepped_verdict other a = refl

-- a burst lies in the word
burst_at : (at pattern r : ℕ) → IsBurst at pattern r → IsBurstAt at pattern
burst_at at pattern r is = record { first = omega (arith, is.counted); last = burst_begins at pattern r is; pattern_bits = is.small }

-- a burst and a hard error are found by reads alone
for_read : (places : Option (List ℕ)) (v : Moved) → IsReadVerdict places v → IsFor false v
for_read None v is = subst (IsFor false) (sym is) tt
for_read (Some places) verdict.Clean is = tt
for_read (Some places) (verdict.Burst at pattern) is = (refl, burst_at at pattern (remainder places) is)
for_read (Some places) verdict.Hard is = refl
for_read (Some places) verdict.Marked is = tt
for_read (Some places) (verdict.Faulted kind) is = tt
for_read (Some places) verdict.Offline is = tt

-- a drive that is stopped shows neither
abbrev pub IsStop : Bool → Option Moved → Type 0
IsStop write None = Unit {0}
IsStop write (Some stop) = IsFor write stop

stop_by : (on write : Bool) (kind : Option FaultKind) → IsStop write (if on then option_map verdict.Faulted kind else Some verdict.Offline)
stop_by on write kind = first_of (search rules, grind arith)

for_by : (stop : Option Moved) (marked write : Bool) (places : Option (List ℕ)) (v : Moved) → IsStop write stop → IsVerdictBy stop marked write places v → IsFor write v
for_by (Some stop) marked write places v stops is = subst (IsFor write) (sym is) stops
for_by None true write places v stops is = subst (IsFor write) (sym is) tt
for_by None false true places v stops is = subst (IsFor true) (sym is) tt
for_by None false false places v stops is = for_read places v is

for_verdict : (d : DriveState) (marked write : Bool) (places : Option (List ℕ)) (v : Moved) → d.work ≡ work.Transfer write → IsVerdict d marked places v → IsFor write v
for_verdict d marked write places v does is =
    for_by (stop_of d) marked write places v (stop_by d.online write (first_armed d.armed))
    (subst (λ b. IsVerdictBy (stop_of d) marked b places v) (ap is_writing does) is)

held_on_bus : (b : Bool) (h : Held) (k : ℕ) (bytes : List ℕ) → (if b then with_block_in k bytes h else h).on_bus ≡ h.on_bus
held_on_bus true h k bytes = refl
held_on_bus false h k bytes = refl

same_loan : (a b : AdapterState) → IsStepOf a b
    → ◌≡◌ {A = Loan} (record { frames = b.frames; offset = b.offset; count = b.blocks; last = b.last })
    (record { frames = a.frames; offset = a.offset; count = a.blocks; last = a.last })
same_loan a b is = λ i. record { frames = is.frames i; offset = is.offset i; count = is.blocks i; last = is.last i }

same_segment : (a b : AdapterState) → IsStepOf a b
    → ◌≡◌ {A = Segment} (record { block = b.block; skip = b.skip; count = b.count }) (record { block = a.block; skip = a.skip; count = a.count })
same_segment a b is = λ i. record { block = is.block i; skip = is.skip i; count = is.count i }

pub sector_left : (line u p block : ℕ) (t : deed.Tried) (s : Scene) → SceneOk u s → SceneAdapter u s → May u (deed.Sector block t) s
    → AdapterLeft u s.adapter (effect line u p (deed.Sector block t) s).unit (effect line u p (deed.Sector block t) s).adapter
    (effect line u p (deed.Sector block t) s).held
sector_left line u p block t s ok at may =
    let e : Scene = effect line u p (deed.Sector block t) s in
    let a : AdapterState = s.adapter.state in
    let has = transfer_at u false s ok may.0 in
    let is : IsPhase u s.unit s.adapter s.held Transferring = phase_is u s Transferring ok has.phase in
    let step = is_step t.verdict a in
    let ask = effect_ask line u p (deed.Sector block t) s in
    let does : s.unit.drive.work ≡ work.Transfer a.write = is.1.work ∙ ap (λ b. if b then work.Ready else work.Transfer a.write) may.0.completion in
    let reads : IsFor e.held.write (stepped t.verdict a).verdict =
    subst (IsFor e.held.write) (sym (stepped_verdict t.verdict a))
    (subst (λ b. IsFor b t.verdict) (has.write ∙ sym ask.write) (for_verdict s.unit.drive t.marked a.write _ t.verdict does may.2.verdict)) in
    record {
      state = stepped_adapter t.verdict a ok.adapter may.0.busy;
      drive = subst (λ n. n < 8) (sym (step.drive ∙ may.0.drive)) at.unit;
      own = λ busy drive. record {
        phase = has.phase;
        on_bus = held_on_bus (was_read s.unit.drive t.verdict) s.held (next_window a) t.bytes ∙ has.on_bus;
        loan = same_loan a (stepped t.verdict a) step ∙ (has.loan ∙ sym ask.loan);
        segment = same_segment a (stepped t.verdict a) step ∙ has.segment;
        write = step.write ∙ (has.write ∙ sym ask.write);
        over = λ up. (over_stepped t.verdict a ok.adapter may.0.busy may.0.completion, reads);
        whole = λ up clean. whole_stepped t.verdict a ok.adapter may.0.busy may.0.completion up clean;
      };
      elsewhere = λ busy other. absurd (other (step.drive ∙ may.0.drive));
      rest = λ free. absurd (false≢true (sym free ∙ (step.busy ∙ may.0.busy)));
      waits = λ x m other. m;
      mine = at.mine;
      once = at.once;
      small = subst (λ n. n < 256) (sym step.attentions) at.small;
      bits = λ k lt other. ap (λ n. bit_at n k) step.attentions;
      bit = ap (λ n. bit_at n (drive_of u)) step.attentions
          ∙ (at.bit ∙ ap (λ b. if b then 1 else 0) (sym (attention_stepped t.verdict a s.unit.drive)));
    }
