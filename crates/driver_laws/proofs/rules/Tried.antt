-- A sector that is tried keeps the request in hand standing for blocks of the map.
use Rattle.std.proofs.Common.{◌≡◌, ℕ, ◌<◌, ◌≤◌, ◌+◌, ◌==◌, ◌&&◌, Bool, true, false, not, List, [], ◌++◌, length, take, Option, Some, refl, sym, ap, ◌∙◌, arith, rules}
use Rattle.std.specs.Prelude.{if◌then◌else◌, is_some, option_map}
use Rattle.std.proofs.lemmas.Bool.{eq-eqb, ne_eqb}
use Rattle.hardware_table.specs.declared.FaultKind.{FaultKind}
use Rattle.hardware_table.specs.declared.Moved.{Moved}
use Rattle.hardware_table.specs.declared.Moved.TheVariants as verdict
use Rattle.hardware_table.specs.Drive.{DriveState, is_writing}
use Rattle.hardware_table.specs.Moves.{stop_of, first_armed, IsVerdict, IsVerdictBy, IsReadVerdict, has_bytes, was_read}
use Rattle.trace_replay.specs.requests.Requests.{Request}
use Rattle.trace_replay.specs.Packs.{Surface, flips_at, bytes_read, surface_read, surface_written, surface_tried, size_of_block, sector_of_block, read_as, this_sector_or}
use Rattle.trace_replay.specs.Conversation.{Progress, progress_tried}
use Rattle.driver_laws.specs.rules.Machine.{Blocks, bytes_or_none}
use Rattle.driver_laws.specs.rules.Stands.{IsSure, HandStands, LastStands, BurstStands}
use Rattle.driver_laws.proofs.rules.Blocks.{not_written, part_length}
use Rattle.driver_laws.proofs.rules.Noises.{Harmless, read_clean, read_burst}
use Rattle.driver_laws.proofs.rules.Hands.{same_hand, at_home, read_more, written_more}

-- ---- the verdict of a sector whose bytes move
abbrev pub MovedBy : Bool → Option (List ℕ) → Moved → Type 0
MovedBy true places v = v ≡ verdict.Clean
MovedBy false places v = IsReadVerdict places v

pub has_moved : (stop : Option Moved) (marked write : Bool) (places : Option (List ℕ)) (v : Moved) → ((x : Moved) → stop ≡ Some x → has_bytes x ≡ false)
    → IsVerdictBy stop marked write places v → has_bytes v ≡ true → (marked ≡ false) × MovedBy write places v
has_moved stop marked write places v none is bytes = search rules

stopped : (online : Bool) (armed : Option FaultKind) (x : Moved) → (if online then option_map verdict.Faulted armed else Some verdict.Offline) ≡ Some x → has_bytes x ≡ false
stopped online armed x is = search rules

pub verdict_moved : (d : DriveState) (marked : Bool) (places : Option (List ℕ)) (v : Moved) → IsVerdict d marked places v → has_bytes v ≡ true
    → (marked ≡ false) × MovedBy (is_writing d.work) places v
verdict_moved d marked places v is bytes = has_moved (stop_of d) marked (is_writing d.work) places v (λ x stop. stopped d.online (first_armed d.armed) x stop) is bytes

-- ---- what is known of a try
pub record TryOf (sure : ℕ → Type 0) (homes : ℕ → Option ℕ) (first : ℕ) (r : Request) (p : Progress) (s : Surface) (unit : ℕ) (d : DriveState) (block : ℕ) (v : Moved) : Type 0 where
  pub direction : is_writing d.work ≡ is_some r.written
  pub home : has_bytes v ≡ true → homes (first + p.done) ≡ Some block
  pub moved : has_bytes v ≡ true → MovedBy (is_writing d.work) (flips_at s unit d block) v
  pub room : p.done < r.count
  pub harmless : (places : List ℕ) → flips_at s unit d block ≡ Some places → Harmless (sure block) places
  pub full : length (s.sector unit block) ≡ 512
  pub small : size_of_block r p.done ≤ 512
  pub apart : (b c x : ℕ) → homes b ≡ Some x → homes c ≡ Some x → b ≡ c

no_more : (n : ℕ) → n ≡ 512 → n ≤ 512
no_more n e = omega (arith, e)

sure_block : (sure : ℕ → Type 0) (homes : ℕ → Option ℕ) (first : ℕ) (r : Request) (k block : ℕ) → IsSure sure homes first r → k < r.count → homes (first + k) ≡ Some block → sure block
sure_block sure homes first r k block is_sure room home = is_sure k block room home

-- ---- a sector that moved clean: it was written, or read
clean_by : (sure : ℕ → Type 0) (homes : ℕ → Option ℕ) (first : ℕ) (r : Request) (p : Progress) (s : Surface) (unit : ℕ) (d : DriveState) (block : ℕ) (blocks : Blocks) (w : Bool)
    → w ≡ is_some r.written → MovedBy w (flips_at s unit d block) verdict.Clean → TryOf sure homes first r p s unit d block verdict.Clean → HandStands sure homes first r p (s.sector unit) blocks
    → HandStands sure homes first r (progress_tried verdict.Clean (bytes_read (not w) s unit d block r p.done) p) ((surface_written w (surface_read (not w) s unit d block) unit block r p.done).sector unit) blocks
clean_by sure homes first r p s unit d block blocks true way moved t h =
    written_more sure homes first r p (record p { done = p.done + 1; failures = 0; bytes = p.bytes ++ [] }) (s.sector unit)
    (λ b. this_sector_or ((unit == unit) && (b == block)) (sector_of_block r p.done) s.sector unit b) blocks block t.apart refl (sym way) (t.home refl)
    (rw (eq-eqb unit unit refl, eq-eqb block block refl) refl) (λ b ne. rw (eq-eqb unit unit refl, ne_eqb b block ne) refl) h
clean_by sure homes first r p s unit d block blocks false way moved t h =
    read_more sure homes first r p (record p { done = p.done + 1; failures = 0; bytes = p.bytes ++ take (size_of_block r p.done) (read_as (flips_at s unit d block) (s.sector unit block)) }) (s.sector unit) blocks
    (take (size_of_block r p.done) (read_as (flips_at s unit d block) (s.sector unit block))) refl refl (not_written r.written (sym way))
    (ap is_some map_is) (part_length (size_of_block r p.done) (flips_at s unit d block) (s.sector unit block) t.small t.full)
    (λ is_sure. ap (take (size_of_block r p.done))
    (read_clean (flips_at s unit d block) (s.sector unit block) (λ ps is. (t.harmless ps is).no_alias (sure_block sure homes first r p.done block is_sure t.room (t.home refl))) moved
    ∙ sym (ap bytes_or_none map_is))) h
  where
    map_is : blocks (first + p.done) ≡ Some (s.sector unit block)
    map_is = at_home sure homes first r p (s.sector unit) blocks block h (t.home refl)

-- a burst was read, and is to be repaired
burst_by : (sure : ℕ → Type 0) (homes : ℕ → Option ℕ) (first : ℕ) (r : Request) (p : Progress) (s : Surface) (unit : ℕ) (d : DriveState) (block : ℕ) (blocks : Blocks) (at q : ℕ) (w : Bool)
    → w ≡ is_some r.written → MovedBy w (flips_at s unit d block) (verdict.Burst at q) → TryOf sure homes first r p s unit d block (verdict.Burst at q) → HandStands sure homes first r p (s.sector unit) blocks
    → HandStands sure homes first r (progress_tried (verdict.Burst at q) (bytes_read (not w) s unit d block r p.done) p) ((surface_written w (surface_read (not w) s unit d block) unit block r p.done).sector unit) blocks
    × BurstStands sure homes first r (progress_tried (verdict.Burst at q) (bytes_read (not w) s unit d block r p.done) p) blocks at q
burst_by sure homes first r p s unit d block blocks at q true way moved t h = cc
burst_by sure homes first r p s unit d block blocks at q false way moved t h = (
  same_hand sure homes first r p (record p { struck = take (size_of_block r p.done) (read_as (flips_at s unit d block) (s.sector unit block)) }) (s.sector unit) blocks refl refl h,
  record {
    reads = not_written r.written (sym way);
    usable = ap is_some map_is;
    size = part_length (size_of_block r p.done) (flips_at s unit d block) (s.sector unit block) t.small t.full;
    repaired = λ is_sure. read_burst (flips_at s unit d block) (s.sector unit block) at q (size_of_block r p.done) (no_more (length (s.sector unit block)) t.full)
        (λ ps is. ((t.harmless ps is).noise, (t.harmless ps is).no_alias (sure_block sure homes first r p.done block is_sure t.room (t.home refl)))) moved
        ∙ ap (take (size_of_block r p.done)) (sym (ap bytes_or_none map_is));
  },
)
  where
    map_is : blocks (first + p.done) ≡ Some (s.sector unit block)
    map_is = at_home sure homes first r p (s.sector unit) blocks block h (t.home refl)

-- noise that shows was read
hard_by : (sure : ℕ → Type 0) (homes : ℕ → Option ℕ) (first : ℕ) (r : Request) (p : Progress) (s : Surface) (unit : ℕ) (d : DriveState) (block : ℕ) (blocks : Blocks) (w : Bool)
    → MovedBy w (flips_at s unit d block) verdict.Hard → HandStands sure homes first r p (s.sector unit) blocks
    → HandStands sure homes first r p ((surface_written w (surface_read (not w) s unit d block) unit block r p.done).sector unit) blocks
hard_by sure homes first r p s unit d block blocks true moved h = cc
hard_by sure homes first r p s unit d block blocks false moved h = h

-- A SECTOR IS TRIED.
pub tried : (sure : ℕ → Type 0) (homes : ℕ → Option ℕ) (first : ℕ) (r : Request) (p : Progress) (s : Surface) (unit : ℕ) (d : DriveState) (block : ℕ) (blocks : Blocks) (v : Moved)
    → TryOf sure homes first r p s unit d block v → HandStands sure homes first r p (s.sector unit) blocks
    → HandStands sure homes first r (progress_tried v (bytes_read (was_read d v) s unit d block r p.done) p) ((surface_tried s unit d block v r p.done).sector unit) blocks
    × LastStands sure homes first r (progress_tried v (bytes_read (was_read d v) s unit d block r p.done) p) blocks v
tried sure homes first r p s unit d block blocks verdict.Clean t h = (clean_by sure homes first r p s unit d block blocks (is_writing d.work) t.direction (t.moved refl) t h, tt)
tried sure homes first r p s unit d block blocks (verdict.Burst at q) t h = burst_by sure homes first r p s unit d block blocks at q (is_writing d.work) t.direction (t.moved refl) t h
tried sure homes first r p s unit d block blocks verdict.Hard t h = (hard_by sure homes first r p s unit d block blocks (is_writing d.work) (t.moved refl) h, tt)
tried sure homes first r p s unit d block blocks other t h = (h, tt)
