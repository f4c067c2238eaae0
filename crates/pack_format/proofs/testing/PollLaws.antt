-- The move of one sector on a good drive, as a poll.
use Rattle.std.proofs.Common.{◌≡◌, ◌⊎◌, inl, inr, ℕ, ◌+◌, ◌-◌, ◌==◌, ◌&&◌, not, Bool, true, false, IsTrue, if◌then◌else◌, List, [], ◌∷◌, ◌++◌, length, replicate, take, Option, None, refl, sym, ap, ◌∙◌, subst, arith}
use Rattle.std.specs.Prelude.{min, slice_set}
use Rattle.std.proofs.lemmas.List.{append-nil, take_all}
use Rattle.pack_geometry.specs.declared.DriveKind.{DriveKind}
use Rattle.pack_geometry.specs.declared.DriveKind.TheVariants.{Rp06, Rm03, Rm05}
use Rattle.pack_geometry.specs.Pack.{Pack, block_at, is_marked, with_written}
use Rattle.pack_geometry.proofs.PackLaws.{length-block_at}
use Rattle.main_memory.specs.Blocks.{Loan, blocks_from, bytes_in, size_at, span_of}
use Rattle.main_memory.specs.Bytes.{filled, front}
use Rattle.main_memory.specs.Memory.{Memory, blocks_of}
use Rattle.hardware_table.specs.declared.Moved.{Moved}
use Rattle.hardware_table.specs.declared.Moved.TheVariants as verdict
use Rattle.hardware_table.specs.declared.Work.TheVariants.{Ready, Transfer}
use Rattle.hardware_table.specs.Adapter.{AdapterState, drive_stepped, next_block, stepped}
use Rattle.hardware_table.specs.Drive.{DriveState, is_writing}
use Rattle.hardware_table.specs.Events.{transfer_ended}
use Rattle.hardware_table.specs.Functions.{performed}
use Rattle.drive_registers.specs.declared.Function.TheVariants.{Clear}
use Rattle.hardware_table.specs.Moves.{IsReadAs, IsVerdictBy, after_move, has_bytes, stop_of, was_read, was_written, with_mark_bits}
use Rattle.hardware_table.specs.Noise.{Book, after_strike, book_struck}
use Rattle.drive_model.specs.Move.{MovesSector, Site, struck_at}
use Rattle.drive_model.specs.Move as move
use Rattle.mba_adapter.specs.Loaded.{loaded_buffer}
use Rattle.pack_format.specs.testing.Polls.{IsOldOrNew, Polls, Sides, answer_for, moved, sides_of}
use Rattle.pack_format.specs.testing.Stations.{Does, IsFrame, IsStarted}
use Rattle.pack_format.specs.declared.testing.station.Polled.{Polled}
use Rattle.pack_format.specs.declared.testing.station.Polled.TheVariants.{Clean, Marked}

-- ---- bytes of a block

filled_front : (size : ℕ) (bytes : List ℕ) → length bytes ≡ size → filled size (front size bytes) ≡ bytes
unfolding filled front
filled_front size bytes long =
    let all : take size bytes ≡ bytes = take_all size bytes (omega (arith, long)) in
    let none : size - length bytes ≡ 0 = omega (arith, long) in
    ap (λ (xs : List ℕ). xs ++ replicate (size - length xs) 0) all ∙ ap (λ (n : ℕ). bytes ++ replicate n 0) none ∙ append-nil bytes

and_false : (b : Bool) → (b && false) ≡ false
and_false true = refl
and_false false = refl

-- ---- the verdict on a good drive

abbrev verdict_for : Bool → Moved
verdict_for true = verdict.Marked
verdict_for false = verdict.Clean

by_marks : (marked write : Bool) (v : Moved) → IsVerdictBy None marked write None v → v ≡ verdict_for marked
by_marks true write v is = is
by_marks false true v is = is
by_marks false false v is = is

pub same_sides : (h i : ℕ → Pack) (b c : List ℕ) → h ≡ i → b ≡ c → ◌≡◌ {A = Sides} (record { held = h; bytes = b }) (record { held = i; bytes = c })
same_sides h i b c one two = rw (one, two) refl

module _ (kind : DriveKind) (unit block size : ℕ) (write told : Bool) (d : DriveState) (old new : Site) (v : Moved) (does : Does kind (Transfer write) d)
    (quiet : old.book.live ≡ []) (whole : size ≡ 512) (m : MovesSector unit block d size told old new v) where
  writing : is_writing d.work ≡ write
  writing = ap is_writing does.work_is

  stop : stop_of d ≡ None
  stop = rw (does.online, does.none) refl

  unstruck : struck_at unit block d old.book ≡ None
  unstruck = rw quiet refl

  pub verdict_is : v ≡ verdict_for m.marked
  verdict_is =
      by_marks m.marked (is_writing d.work) v
      (subst (λ (places : Option (List ℕ)). IsVerdictBy None m.marked (is_writing d.work) places v) unstruck
      (subst (λ (s : Option Moved). IsVerdictBy s m.marked (is_writing d.work) (struck_at unit block d old.book) v) stop m.by_rules))

  bytes_same : was_read d v ≡ false → filled 512 new.window ≡ filled 512 old.window
  bytes_same unread = ap (λ (w : List ℕ). filled 512 w) (m.unread unread)

  not_read : v ≡ verdict.Marked → was_read d v ≡ false
  not_read is = ap (λ (x : Moved). has_bytes x && not (is_writing d.work)) is

  read_of : v ≡ verdict.Clean → was_read d v ≡ not write
  read_of is = ap (λ (x : Moved). has_bytes x && not (is_writing d.work)) is ∙ ap not writing

  written_of : v ≡ verdict.Clean → was_written d v ≡ write
  written_of is = ap (λ (x : Moved). has_bytes x && is_writing d.work) is ∙ writing

  held_by : (b : Bool) → IsTrue told → was_written d v ≡ b → new.held ≡ (if b then with_written old.held unit block (filled 512 old.window) else old.held)
  held_by b t is = m.written t ∙ ap (λ (x : Bool). if x then with_written old.held unit block (filled 512 old.window) else old.held) is

  bytes_read : IsTrue told → was_read d v ≡ true → filled 512 new.window ≡ block_at (old.held unit).image block
  bytes_read t is =
      let front_read = m.read is t in
      let sector : front_read.bytes ≡ block_at (old.held unit).image block =
      subst (λ (places : Option (List ℕ)). IsReadAs places (block_at (old.held unit).image block) front_read.bytes) unstruck front_read.whole in
      ap (λ (w : List ℕ). filled 512 w) (front_read.cut ∙ ap (λ (n : ℕ). front n front_read.bytes) whole)
      ∙ filled_front 512 front_read.bytes (ap (λ (bytes : List ℕ). length bytes) sector ∙ length-block_at (old.held unit).image block) ∙ sector

  sides_by : (b w : Bool) → IsTrue told → v ≡ verdict_for b → write ≡ w
      → ◌≡◌ {A = Sides} (record { held = new.held; bytes = filled 512 new.window }) (moved (answer_for b) w unit block (record { held = old.held; bytes = filled 512 old.window }))
  sides_by true w t is same =
      same_sides new.held old.held (filled 512 new.window) (filled 512 old.window)
      (held_by false t (ap (λ (x : Moved). has_bytes x && is_writing d.work) is)) (bytes_same (not_read is))
  sides_by false true t is same =
      same_sides new.held (with_written old.held unit block (filled 512 old.window)) (filled 512 new.window) (filled 512 old.window)
      (held_by true t (written_of is ∙ same)) (bytes_same (read_of is ∙ ap not same))
  sides_by false false t is same =
      same_sides new.held old.held (filled 512 new.window) (block_at (old.held unit).image block)
      (held_by false t (written_of is ∙ same)) (bytes_read t (read_of is ∙ ap not same))

  marked_by : (b : Bool) → v ≡ verdict_for b → answer_for b ≡ Marked → filled 512 new.window ≡ filled 512 old.window
  marked_by true is answer = bytes_same (not_read is)
  marked_by false is answer = absurd (clash answer)
    where
      clash : Clean ≡ Marked → ⊥
      clash e = cc

  pub polls : Polls unit block write told (record { held = old.held; bytes = filled 512 old.window }) (record { held = new.held; bytes = filled 512 new.window }) (answer_for m.marked)
  polls = record {
    answer = λ t. ap answer_for (m.by_pack t);
    sides = λ t. sides_by m.marked write t verdict_is refl;
    marked = λ e. marked_by m.marked verdict_is e;
    written = λ e. bytes_same (ap (λ (x : Bool). has_bytes v && not x) (writing ∙ e) ∙ and_false (has_bytes v));
  }

  -- which answer that is
  pub clean : v ≡ verdict.Clean → answer_for m.marked ≡ Clean
  clean is = by m.marked (sym is ∙ verdict_is)
    where
      by : (b : Bool) → verdict.Clean ≡ verdict_for b → answer_for b ≡ Clean
      by true e = absurd (clash e)
        where
          clash : verdict.Clean ≡ verdict.Marked → ⊥
          clash h = cc
      by false e = refl

  pub marked : (v ≡ verdict.Clean → ⊥) → (v ≡ verdict.Marked) × (answer_for m.marked ≡ Marked)
  marked not_clean = by m.marked verdict_is
    where
      by : (b : Bool) → v ≡ verdict_for b → (v ≡ verdict.Marked) × (answer_for b ≡ Marked)
      by true e = (e, refl)
      by false e = absurd (not_clean e)

-- ---- as the adapter says it

one_block : (loan : Loan) → IsFrame loan → size_at loan 0 ≡ 512
one_block loan frame = by (0 + 1 == loan.count)
  where
    by : (b : Bool) → (if b then loan.last else 512) ≡ 512
    by true = frame.last
    by false = refl

module _ (kind : DriveKind) (unit block : ℕ) (write told : Bool) (d : DriveState) (a : AdapterState) (loan : Loan) (old new : Memory) (book book' : Book)
    (held held' : ℕ → Pack) (v : Moved) (does : Does kind (Transfer write) d) (quiet : book.live ≡ []) (frame : IsFrame loan) (started : IsStarted loan block write a) where
  abbrev pub Moves : ℕ → ℕ → Type 0
  Moves n k = MovesSector unit n d (size_at loan k) told (record { book = book; held = held; window = bytes_in (span_of loan k) old.bytes })
      (record { book = book'; held = held'; window = bytes_in (span_of loan k) new.bytes }) v

  block_is : a.block + a.moved ≡ block
  block_is = omega (arith, started.block_is, started.none_moved)

  window_is : a.skip + a.moved ≡ 0
  window_is = omega (arith, started.first, started.none_moved)

  at_block : Moves (a.block + a.moved) (a.skip + a.moved) → Moves block 0
  at_block m = subst (λ (n : ℕ). Moves n 0) block_is (subst (λ (k : ℕ). Moves (a.block + a.moved) k) window_is m)

  pub polls_clean : Moves (a.block + a.moved) (a.skip + a.moved) → v ≡ verdict.Clean
      → Polls unit block write told (sides_of held loan old) (sides_of held' loan new) Clean
  polls_clean m is =
      let at = at_block m in
      subst (λ (p : Polled). Polls unit block write told (sides_of held loan old) (sides_of held' loan new) p)
      (clean kind unit block (size_at loan 0) write told d _ _ v does quiet (one_block loan frame) at is)
      (polls kind unit block (size_at loan 0) write told d _ _ v does quiet (one_block loan frame) at)

  pub is_marked_v : Moves (a.block + a.moved) (a.skip + a.moved) → (v ≡ verdict.Clean → ⊥) → v ≡ verdict.Marked
  is_marked_v m not_clean = (marked kind unit block (size_at loan 0) write told d _ _ v does quiet (one_block loan frame) (at_block m) not_clean).0

  pub polls_marked : Moves (a.block + a.moved) (a.skip + a.moved) → (v ≡ verdict.Clean → ⊥)
      → Polls unit block write told (sides_of held loan old) (sides_of held' loan new) Marked
  polls_marked m not_clean =
      let at = at_block m in
      subst (λ (p : Polled). Polls unit block write told (sides_of held loan old) (sides_of held' loan new) p)
      (marked kind unit block (size_at loan 0) write told d _ _ v does quiet (one_block loan frame) at not_clean).1
      (polls kind unit block (size_at loan 0) write told d _ _ v does quiet (one_block loan frame) at)

-- the drive after a mark, cleared
pub cleared : (kind : DriveKind) (write : Bool) (a : AdapterState) (d now then_ : DriveState) (v : Moved) → Does kind (Transfer write) d → v ≡ verdict.Marked
    → now ≡ drive_stepped v a d → then_ ≡ performed Clear now → Does kind Ready then_
cleared kind write a d now then_ v does is step clear =
    subst (λ (x : DriveState). Does kind Ready x) (sym (clear ∙ ap (performed Clear) (step ∙ ap (λ (u : Moved). drive_stepped u a d) is))) (by d.kind)
  where
    by : (k : DriveKind) → Does kind Ready (performed Clear (transfer_ended (with_mark_bits k d)))
    by Rp06 = record { kind_is = does.kind_is; work_is = refl; online = does.online; unlocked = does.unlocked; none = does.none }
    by Rm03 = record { kind_is = does.kind_is; work_is = refl; online = does.online; unlocked = does.unlocked; none = does.none }
    by Rm05 = record { kind_is = does.kind_is; work_is = refl; online = does.online; unlocked = does.unlocked; none = does.none }

-- the adapter after a mark
pub given_up : (loan : Loan) (block : ℕ) (write : Bool) (a now : AdapterState) (v : Moved) → IsStarted loan block write a → v ≡ verdict.Marked → now ≡ stepped v a
    → (now.completion ≡ true) × (loan ≡ loaded_buffer now)
given_up loan block write a now v started is step =
    subst (λ (x : AdapterState). (x.completion ≡ true) × (loan ≡ loaded_buffer x)) (sym (step ∙ ap (λ (u : Moved). stepped u a) is)) (refl, started.loaded)

pub still_quiet : (d : DriveState) (v : Moved) (book book' other : Book) → book.live ≡ [] → v ≡ verdict.Marked → book' ≡ (if was_read d v then other else book) → book'.live ≡ []
still_quiet d v book book' other quiet is same =
    ap (λ (b : Book). b.live) (same ∙ ap (λ (x : Moved). if was_read d x then other else book) is) ∙ quiet

abbrev Either : (unit : ℕ) (write : Bool) (loan : Loan) (memory : Memory) (held left : ℕ → Pack) → ℕ → ℕ → Type 0
Either unit write loan memory held left n k = (left ≡ held)
    ⊎ ((write ≡ true) × (is_marked (held unit) n ≡ false) × (left ≡ with_written held unit n (filled 512 (bytes_in (span_of loan k) memory.bytes))))

same_way : (v write : Bool) (P Q R : Type 0) → v ≡ write → P ⊎ ((v ≡ true) × Q × R) → P ⊎ ((write ≡ true) × Q × R)
same_way v write P Q R is (inl p) = inl p
same_way v write P Q R is (inr q) = inr (sym is ∙ q.0, q.1, q.2)

pub old_or_new : (kind : DriveKind) (unit block : ℕ) (write told : Bool) (d : DriveState) (a : AdapterState) (loan : Loan) (memory : Memory) (book : Book) (held left : ℕ → Pack)
    → Does kind (Transfer write) d → IsStarted loan block write a
    → move.IsOldOrNew unit (a.block + a.moved) d told (record { book = book; held = held; window = bytes_in (span_of loan (a.skip + a.moved)) memory.bytes }) left
    → IsOldOrNew unit block write told (sides_of held loan memory) left
old_or_new kind unit block write told d a loan memory book held left does started which =
    λ t.
    let here : a.block + a.moved ≡ block = omega (arith, started.block_is, started.none_moved) in
    let first : a.skip + a.moved ≡ 0 = omega (arith, started.first, started.none_moved) in
    subst (λ (n : ℕ). Either unit write loan memory held left n 0) here
    (subst (λ (k : ℕ). Either unit write loan memory held left (a.block + a.moved) k) first
    (same_way (is_writing d.work) write (left ≡ held) (is_marked (held unit) (a.block + a.moved) ≡ false)
    (left ≡ with_written held unit (a.block + a.moved) (filled 512 (bytes_in (span_of loan (a.skip + a.moved)) memory.bytes)))
    (ap is_writing does.work_is) (which t)))

-- ---- a block that goes through the frame

-- the one block of a frame
one_of : (loan : Loan) (bytes : List ℕ) (n : ℕ) → n ≡ 1 → blocks_from loan bytes 0 n ≡ bytes_in (span_of loan 0) bytes ∷ []
unfolding blocks_from
one_of loan bytes n is = rw is refl

pub stored : (loan : Loan) (old new : Memory) (from : List ℕ) → IsFrame loan → length from ≡ 512
    → blocks_of loan new ≡ slice_set (blocks_of loan old) 0 (front (size_at loan 0) from) → filled 512 (bytes_in (span_of loan 0) new.bytes) ≡ from
stored loan old new from frame long set =
    let one : bytes_in (span_of loan 0) new.bytes ∷ [] ≡ front (size_at loan 0) from ∷ [] =
    sym (one_of loan new.bytes loan.count frame.count) ∙ set
    ∙ ap (λ (blocks : List (List ℕ)). slice_set blocks 0 (front (size_at loan 0) from)) (one_of loan old.bytes loan.count frame.count) in
    ap (λ (w : List ℕ). filled 512 w) (first one ∙ ap (λ (n : ℕ). front n from) (one_block loan frame)) ∙ filled_front 512 from long
  where
    first : {x y : List ℕ} → x ∷ [] ≡ y ∷ [] → x ≡ y
    first {x} {y} e = cc

-- ---- after a sector moved

all_moved : (a : AdapterState) → a.byte_count ≡ 512 → (stepped verdict.Clean a).completion ≡ true
all_moved a bytes = ap (λ (n : ℕ). n - min 512 n == 0) bytes

-- the adapter after the only sector
pub finished : (loan : Loan) (block : ℕ) (write : Bool) (a now : AdapterState) (v : Moved) → IsStarted loan block write a → v ≡ verdict.Clean → now ≡ stepped v a
    → (now.completion ≡ true) × (loan ≡ loaded_buffer now)
finished loan block write a now v started is step =
    subst (λ (x : AdapterState). (x.completion ≡ true) × (loan ≡ loaded_buffer x)) (sym (step ∙ ap (λ (u : Moved). stepped u a) is)) (all_moved a started.bytes, started.loaded)

-- the drive after it
pub ended : (kind : DriveKind) (block : ℕ) (write : Bool) (loan : Loan) (a : AdapterState) (d now : DriveState) (v : Moved) → Does kind (Transfer write) d → IsStarted loan block write a
    → v ≡ verdict.Clean → now ≡ drive_stepped v a d → Does kind Ready now
ended kind block write loan a d now v does started is step =
    subst (λ (x : DriveState). Does kind Ready x)
    (sym (step ∙ ap (λ (u : Moved). drive_stepped u a d) is
    ∙ ap (λ (b : Bool). if b then transfer_ended (after_move verdict.Clean (next_block a) d) else after_move verdict.Clean (next_block a) d) (all_moved a started.bytes)))
    (record { kind_is = does.kind_is; work_is = refl; online = does.online; unlocked = does.unlocked; none = does.none })

-- where no noise was live, none is live
pub quiet_again : (unit block word : ℕ) (read : Bool) (book book' : Book) → book.live ≡ [] → book' ≡ (if read then book_struck unit block word book else book) → book'.live ≡ []
quiet_again unit block word true book book' quiet is = ap (λ (b : Book). b.live) is ∙ ap (after_strike unit block word) quiet
quiet_again unit block word false book book' quiet is = ap (λ (b : Book). b.live) is ∙ quiet
