-- A SECTOR IS TRIED: a block more is done, or the segment stopped at it.
use Rattle.std.proofs.Common.{◌≡◌, ℕ, ◌+◌, ◌<◌, ◌≤◌, not, Bool, true, false, List, [], length, take, Option, Some, None, refl, sym, ap, ◌∙◌, subst, arith, rules}
use Rattle.std.specs.Prelude.{if◌then◌else◌, is_some, IsTrue}
use Rattle.std.proofs.lemmas.Bool.{lt-ltb, false≢true}
use Rattle.std.proofs.lemmas.List.{get_or-set_same}
use Rattle.pack_geometry.specs.declared.DriveKind.{DriveKind}
use Rattle.pack_geometry.specs.Geometry.{limit_of, replacement_at}
use Rattle.pack_geometry.specs.Pack.{Pack, block_at, is_marked, written}
use Rattle.pack_geometry.specs.Homes.{home_of}
use Rattle.pack_geometry.specs.TableSpelling.{Table}
use Rattle.pack_geometry.specs.PackTable.{IsTableOf, places_of}
use Rattle.pack_geometry.proofs.PackTableLaws.{table_same}
use Rattle.pack_geometry.proofs.HomeWriteLaws.{copies_same}
use Rattle.pack_geometry.proofs.PackLaws.{length-block_at}
use Rattle.hardware_table.specs.declared.Moved.{Moved}
use Rattle.hardware_table.specs.declared.Moved.TheVariants as verdict
use Rattle.hardware_table.specs.Drive.{DriveState, is_writing}
use Rattle.hardware_table.specs.Moves.{IsVerdict, has_bytes, was_read, was_written}
use Rattle.main_memory.specs.Bytes.{filled}
use Rattle.main_memory.specs.Blocks.{size_at}
use Rattle.main_memory.proofs.ByteLaws.{length-filled}
use Rattle.request_slots.specs.Move.{IsFrontRead}
use Rattle.driver_machine.specs.Repaired.{repaired}
use Rattle.transfer_engine.specs.declared.job.Job.{Job}
use Rattle.transfer_engine.specs.State.{TransferState, segment_by}
use Rattle.driver_laws.specs.rules.Machine.{Blocks}
use Rattle.driver_laws.proofs.rules.Noises.{Harmless}
use Rattle.driver_laws.proofs.rules.Tried.{MovedBy, verdict_moved}
use Rattle.driver_machine.specs.World.{Held, block_in, with_block_in}
use Rattle.driver_laws.specs.shown.Bytes.{asked_of, IsSureFor, IsForwarded, sector_for, HandBears}
use Rattle.driver_laws.proofs.shown.Hand.{next_home, hand_stopped, hand_read, hand_struck, hand_written}
use Rattle.driver_laws.proofs.shown.Struck.{clean_read, burst_read}
use Rattle.trace_replay.proofs.Unusable.{marked_only}

-- THE SECTOR that is tried carries the first block not done,
pub tried_sector : (index : Option ℕ) (job : Job) (kind : DriveKind) (done moved block : ℕ) → job.kind ≡ kind → moved < (segment_by index job done).count
    → block ≡ (segment_by index job done).block + moved → block ≡ sector_for kind index (job.first + (done + moved))
tried_sector index job kind done moved block same less is = search rules

-- and where it is unmarked it is that block's home.
own_home : (kind : DriveKind) (table : Option Table) (pack : Pack) (block : ℕ) → block < limit_of kind → is_marked pack block ≡ false → home_of kind table pack block ≡ Some block
own_home kind table pack block below unmarked = rw (lt-ltb block (limit_of kind) below, unmarked) refl

listed_home : (kind : DriveKind) (table : Option Table) (pack : Pack) (block i : ℕ) → block < limit_of kind → IsForwarded kind table pack block i
    → is_marked pack (replacement_at kind i) ≡ false → home_of kind table pack block ≡ Some (replacement_at kind i)
listed_home kind table pack block i below is unmarked =
    rw (lt-ltb block (limit_of kind) below, is.marked, is.listed) (rw unmarked refl)

pub tried_home : (index : Option ℕ) (kind : DriveKind) (table : Option Table) (pack : Pack) (first done moved : ℕ)
    → ((i : ℕ) → index ≡ Some i → IsForwarded kind table pack (first + done) i) → ((i : ℕ) → index ≡ Some i → done + moved ≡ done)
    → first + (done + moved) < limit_of kind → is_marked pack (sector_for kind index (first + (done + moved))) ≡ false
    → home_of kind table pack (first + (done + moved)) ≡ Some (sector_for kind index (first + (done + moved)))
tried_home None kind table pack first done moved forwarded one below unmarked = own_home kind table pack (first + (done + moved)) below unmarked
tried_home (Some i) kind table pack first done moved forwarded one below unmarked =
    listed_home kind table pack (first + (done + moved)) i below (subst (λ n. IsForwarded kind table pack (first + n) i) (sym (one i refl)) (forwarded i refl)) unmarked

abbrev clean_sort : Moved → ℕ
clean_sort verdict.Clean = 0
clean_sort v = 1

not_written : (b : Bool) (places : Option (List ℕ)) (v : Moved) → clean_sort v ≡ 1 → MovedBy b places v → b ≡ false
not_written true places v other is = absurd (omega (arith, other, ap clean_sort is))
not_written false places v other is = refl

-- WHAT IS KNOWN OF A TRY: of its drive, verdict and bytes, and of the sector, which carries block `done` of the request
pub record IsTry (claimed : Type 0) (limit : ℕ) (pack : Pack) (table : Option Table) (h : Held) (done sector : ℕ) (d : DriveState) (places : Option (List ℕ)) (v : Moved) (bytes : List ℕ) : Type 0 where
  pub direction : is_writing d.work ≡ h.write
  pub verdict_is : IsVerdict d (is_marked pack sector) places v
  pub given : IsTrue (was_written d v) → bytes ≡ block_in h done
  pub got : IsTrue (was_read d v) → IsFrontRead places (block_at pack.image sector) (size_at h.loan done) bytes
  pub harmless : (ps : List ℕ) → places ≡ Some ps → Harmless claimed ps
  pub inside : done < length h.blocks
  pub counted : done < h.loan.count
  pub few : length (block_in h done) ≤ 512
  pub room : length (places_of table) ≤ 126

-- WHAT A TRY LEAVES of pack, buffer and blocks done
abbrev pub pack_tried : Bool → Pack → ℕ → List ℕ → Pack
pack_tried w pack sector bytes = if w then written pack sector (filled 512 bytes) else pack

abbrev pub held_tried : Bool → ℕ → List ℕ → Held → Held
held_tried r k bytes h = if r then with_block_in k bytes h else h

abbrev pub done_tried : Moved → ℕ → ℕ
done_tried verdict.Clean n = n + 1
done_tried v n = n

module _ (sure : ℕ → Type 0) (kind : DriveKind) (table : Option Table) (pack : Pack) (blocks : Blocks) (h : Held) (t : TransferState) (done : ℕ)
    (b : HandBears sure kind table pack blocks h t done verdict.Clean) (d : DriveState) (places : Option (List ℕ)) (bytes : List ℕ)
    (home : is_marked pack (sector_for kind t.index (h.first + done)) ≡ false → home_of kind table pack (h.first + done) ≡ Some (sector_for kind t.index (h.first + done))) where
  abbrev sector : ℕ
  sector = sector_for kind t.index (h.first + done)

  abbrev Try : Moved → Type 0
  Try v = IsTry (sure sector) (limit_of kind) pack table h done sector d places v bytes

  abbrev Hand : Pack → Held → ℕ → Moved → Type 0
  Hand p g n v = HandBears sure kind table p blocks g t n v

  -- the sector is sure where the request is
  sure_there : (v : Moved) → Try v → home_of kind table pack (h.first + done) ≡ Some sector → IsSureFor sure kind table pack h → sure sector
  sure_there v is at sures = sures done sector is.counted at

  asked_is : (o : Option (List ℕ)) → o ≡ Some (block_at pack.image sector) → take (size_at h.loan done) (block_at pack.image sector) ≡ asked_of h done o
  asked_is o is = ap (λ (x : Option (List ℕ)). asked_of h done x) (sym is)

  moved_there : (v : Moved) → has_bytes v ≡ true → Try v → (is_marked pack sector ≡ false) × MovedBy (is_writing d.work) places v
  moved_there v has is = verdict_moved d (is_marked pack sector) places v is.verdict_is has

  -- CLEAN: it was written,
  clean_written : Try verdict.Clean → is_writing d.work ≡ true → Hand (written pack sector (filled 512 bytes)) h (done + 1) verdict.Clean
  clean_written is writes =
      let there = moved_there verdict.Clean refl is in
      let same : bytes ≡ block_in h done = is.given (rw writes refl) in
      subst (λ x. Hand (written pack sector (filled 512 x)) h (done + 1) verdict.Clean) (sym same)
      (hand_written sure kind table pack blocks h t done verdict.Clean b sector (sym is.direction ∙ writes) (home there.0)
      (length-filled 512 (block_in h done) is.few) is.room)

  -- or read.
  clean_got : Try verdict.Clean → is_writing d.work ≡ false → Hand pack (with_block_in done bytes h) (done + 1) verdict.Clean
  clean_got is reads =
      let there = moved_there verdict.Clean refl is in
      let at : blocks (h.first + done) ≡ Some (block_at pack.image sector) = next_home sure kind table pack blocks h t done verdict.Clean b sector (home there.0) in
      hand_read sure kind table pack blocks h t done verdict.Clean b bytes (sym is.direction ∙ reads) is.inside (ap is_some at)
      (λ sures. clean_read (sure sector) places (block_at pack.image sector) (size_at h.loan done) bytes is.harmless
      (subst (λ w. MovedBy w places verdict.Clean) reads there.1) (is.got (rw reads refl)) (sure_there verdict.Clean is (home there.0) sures)
      ∙ asked_is (blocks (h.first + done)) at)

  -- A BURST was read,
  burst_got : (at q : ℕ) → Try (verdict.Burst at q) → is_writing d.work ≡ false → Hand pack (with_block_in done bytes h) done (verdict.Burst at q)
  burst_got at q is reads =
      let there = moved_there (verdict.Burst at q) refl is in
      let here : blocks (h.first + done) ≡ Some (block_at pack.image sector) = next_home sure kind table pack blocks h t done verdict.Clean b sector (home there.0) in
      hand_struck sure kind table pack blocks h t done verdict.Clean b bytes (verdict.Burst at q) (sym is.direction ∙ reads) (
        ap is_some here,
        λ sures. ap (repaired at q) (get_or-set_same h.blocks done bytes [] is.inside)
            ∙ burst_read (sure sector) places (block_at pack.image sector) at q (size_at h.loan done) bytes (length-block_at pack.image sector) is.harmless
            (subst (λ w. MovedBy w places (verdict.Burst at q)) reads there.1) (is.got (rw reads refl)) (sure_there (verdict.Burst at q) is (home there.0) sures)
            ∙ asked_is (blocks (h.first + done)) here,
      )

  -- or noise that shows.
  hard_got : Try verdict.Hard → is_writing d.work ≡ false → Hand pack (with_block_in done bytes h) done verdict.Hard
  hard_got is reads = hand_struck sure kind table pack blocks h t done verdict.Clean b bytes verdict.Hard (sym is.direction ∙ reads) tt

  -- ANY OTHER verdict moves no bytes.
  marked_there : Try verdict.Marked → Hand pack h done verdict.Marked
  marked_there is = hand_stopped sure kind table pack blocks h t done verdict.Clean b verdict.Marked (marked_only d (is_marked pack sector) places is.verdict_is)

  by_clean : (w : Bool) → is_writing d.work ≡ w → Try verdict.Clean → Hand (pack_tried w pack sector bytes) (held_tried (not w) done bytes h) (done + 1) verdict.Clean
  by_clean true is try = clean_written try is
  by_clean false is try = clean_got try is

  by_burst : (at q : ℕ) (w : Bool) → is_writing d.work ≡ w → MovedBy w places (verdict.Burst at q) → Try (verdict.Burst at q)
      → Hand (pack_tried w pack sector bytes) (held_tried (not w) done bytes h) done (verdict.Burst at q)
  by_burst at q true is moved try = absurd (false≢true (sym (not_written true places (verdict.Burst at q) refl moved)))
  by_burst at q false is moved try = burst_got at q try is

  by_hard : (w : Bool) → is_writing d.work ≡ w → MovedBy w places verdict.Hard → Try verdict.Hard
      → Hand (pack_tried w pack sector bytes) (held_tried (not w) done bytes h) done verdict.Hard
  by_hard true is moved try = absurd (false≢true (sym (not_written true places verdict.Hard refl moved)))
  by_hard false is moved try = hard_got try is

  pub tried_bears : (v : Moved) → Try v → Hand (pack_tried (was_written d v) pack sector bytes) (held_tried (was_read d v) done bytes h) (done_tried v done) v
  tried_bears verdict.Clean try = by_clean (is_writing d.work) refl try
  tried_bears (verdict.Burst at q) try = by_burst at q (is_writing d.work) refl (moved_there (verdict.Burst at q) refl try).1 try
  tried_bears verdict.Hard try = by_hard (is_writing d.work) refl (moved_there verdict.Hard refl try).1 try
  tried_bears verdict.Marked try = marked_there try
  tried_bears other try = hand_stopped sure kind table pack blocks h t done verdict.Clean b other tt

  -- and the table stays that of the pack.
  table_by : (w : Bool) → is_writing d.work ≡ w → Try verdict.Clean → IsTableOf kind pack table → IsTableOf kind (pack_tried w pack sector bytes) table
  table_by false is try read = read
  table_by true is try read =
      let there = moved_there verdict.Clean refl try in
      let same : bytes ≡ block_in h done = try.given (rw is refl) in
      let long : length (filled 512 bytes) ≡ 512 = ap (λ x. length (filled 512 x)) same ∙ length-filled 512 (block_in h done) try.few in
      table_same kind pack (written pack sector (filled 512 bytes)) table
      (copies_same kind table pack (h.first + done) sector (filled 512 bytes) long try.room (home there.0)) read

  pub tried_table : (v : Moved) → Try v → IsTableOf kind pack table → IsTableOf kind (pack_tried (was_written d v) pack sector bytes) table
  tried_table verdict.Clean try read = table_by (is_writing d.work) refl try read
  tried_table (verdict.Burst at q) try read =
      rw (not_written (is_writing d.work) places (verdict.Burst at q) refl (moved_there (verdict.Burst at q) refl try).1) read
  tried_table verdict.Hard try read = rw (not_written (is_writing d.work) places verdict.Hard refl (moved_there verdict.Hard refl try).1) read
  tried_table other try read = read
