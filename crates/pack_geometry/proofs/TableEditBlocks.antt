-- What the writes of a table edit leave in each block, and at each mark.
use Rattle.std.proofs.Common.{◌≡◌, ◌≢◌, inl, inr, ℕ, zero, suc, ◌+◌, ◌<◌, ◌==◌, ◌||◌, Bool, true, false, not, if◌then◌else◌, List, [], ◌∷◌, length, get_or, refl, sym, ap, ◌∙◌, arith}
use Rattle.std.proofs.lemmas.Bool.{cases_lt}
use Rattle.std.proofs.lemmas.List.{length-replicate}
use Rattle.pack_geometry.specs.declared.DriveKind.{DriveKind}
use Rattle.pack_geometry.specs.declared.DriveKind.TheVariants.{Rp06}
use Rattle.pack_geometry.specs.Geometry.{copy_at, replacement_at}
use Rattle.pack_geometry.specs.Pack.{Pack, block_at, is_marked, written, with_window}
use Rattle.pack_geometry.specs.TableEdit.{Edit, zero_block, replacement_bytes, moved_up, with_copies, with_mark_at}
use Rattle.pack_geometry.proofs.PackLaws.{length-block_at, block_at-with_block_same, block_at-with_block_other, get_or-with_window_here, get_or-with_window_before, get_or-with_window_after}
use Rattle.pack_geometry.proofs.HomeLaws.{replacement_once}

copy_once : (kind : DriveKind) (k l : ℕ) → copy_at kind k ≡ copy_at kind l → k ≡ l
copy_once Rp06 k l e = omega arith
copy_once other k l e = omega arith

pub other_block : (pack : Pack) (at b : ℕ) (bytes : List ℕ) → length bytes ≡ 512 → b ≢ at
    → block_at (written pack at bytes).image b ≡ block_at pack.image b
other_block pack at b bytes l ne = block_at-with_block_other pack.image bytes at b l ne

-- ---- replacements that move up

pub moved_marks : (kind : DriveKind) (pack : Pack) (i m : ℕ) → (moved_up kind pack i m).marks ≡ pack.marks
moved_marks kind pack i zero = refl
moved_marks kind pack i (suc m) = moved_marks kind (written pack (replacement_at kind (i + m + 1)) (block_at pack.image (replacement_at kind (i + m)))) i m

pub moved_apart : (kind : DriveKind) (pack : Pack) (i m b : ℕ) → ((k : ℕ) → k < m → b ≢ replacement_at kind (i + k + 1))
    → block_at (moved_up kind pack i m).image b ≡ block_at pack.image b
moved_apart kind pack i zero b apart = refl
moved_apart kind pack i (suc m) b apart =
    moved_apart kind (written pack (replacement_at kind (i + m + 1)) (block_at pack.image (replacement_at kind (i + m)))) i m b (λ k lt. apart k (omega (arith, lt)))
    ∙ other_block pack (replacement_at kind (i + m + 1)) b (block_at pack.image (replacement_at kind (i + m))) (length-block_at pack.image (replacement_at kind (i + m))) (apart m (omega arith))

pub differ : (kind : DriveKind) (i j : ℕ) → i < 126 → j < 126 → (i ≡ j → ⊥) → replacement_at kind i ≢ replacement_at kind j
differ kind i j li lj ne e = ne (replacement_once kind i j li lj e)

pub moved_here : (kind : DriveKind) (pack : Pack) (i m k : ℕ) → i + m < 126 → k < m
    → block_at (moved_up kind pack i m).image (replacement_at kind (i + k + 1)) ≡ block_at pack.image (replacement_at kind (i + k))
moved_here kind pack i zero k room lt = absurd (omega (arith, lt))
moved_here kind pack i (suc m) k room lt =
    elim (cases_lt k m) [
      | inl below ↦
          moved_here kind next i m k (omega (arith, room)) below
          ∙ other_block pack (replacement_at kind (i + m + 1)) (replacement_at kind (i + k)) bytes size
          (differ kind (i + k) (i + m + 1) (omega (arith, room, below)) (omega (arith, room)) (λ e. omega (arith, e, below)))
      | inr top ↦
          let last : k ≡ m = omega (arith, lt, top) in
          rw last (moved_apart kind next i m (replacement_at kind (i + m + 1))
          (λ l lt'. differ kind (i + m + 1) (i + l + 1) (omega (arith, room)) (omega (arith, room, lt')) (λ e. omega (arith, e, lt')))
          ∙ block_at-with_block_same pack.image bytes (replacement_at kind (i + m + 1)) size)
    ]
  where
    bytes : List ℕ
    bytes = block_at pack.image (replacement_at kind (i + m))

    size : length bytes ≡ 512
    size = length-block_at pack.image (replacement_at kind (i + m))

    next : Pack
    next = written pack (replacement_at kind (i + m + 1)) bytes

-- ---- the copies

pub copied_marks : (kind : DriveKind) (bytes : List ℕ) (n : ℕ) (pack : Pack) → (with_copies kind bytes n pack).marks ≡ pack.marks
copied_marks kind bytes zero pack = refl
copied_marks kind bytes (suc n) pack = copied_marks kind bytes n pack

pub copied_apart : (kind : DriveKind) (bytes : List ℕ) (n : ℕ) (pack : Pack) (b : ℕ) → length bytes ≡ 512 → ((k : ℕ) → k < n → b ≢ copy_at kind k)
    → block_at (with_copies kind bytes n pack).image b ≡ block_at pack.image b
copied_apart kind bytes zero pack b size apart = refl
copied_apart kind bytes (suc n) pack b size apart =
    other_block (with_copies kind bytes n pack) (copy_at kind n) b bytes size (apart n (omega arith))
    ∙ copied_apart kind bytes n pack b size (λ k lt. apart k (omega (arith, lt)))

pub copied_here : (kind : DriveKind) (bytes : List ℕ) (n : ℕ) (pack : Pack) (k : ℕ) → length bytes ≡ 512 → k < n
    → block_at (with_copies kind bytes n pack).image (copy_at kind k) ≡ bytes
copied_here kind bytes zero pack k size lt = absurd (omega (arith, lt))
copied_here kind bytes (suc n) pack k size lt =
    elim (cases_lt k n) [
      | inl below ↦
          other_block (with_copies kind bytes n pack) (copy_at kind n) (copy_at kind k) bytes size (λ e. apart_by k n (copy_once kind k n e) below)
          ∙ copied_here kind bytes n pack k size below
      | inr top ↦
          let last : k ≡ n = omega (arith, lt, top) in
          rw last (block_at-with_block_same (with_copies kind bytes n pack).image bytes (copy_at kind n) size)
    ]
  where
    apart_by : (k n : ℕ) → k ≡ n → k < n → ⊥
    apart_by k n e lt = omega (arith, e, lt)

-- ---- the mark

pub length-zero_block : length zero_block ≡ 512
unfolding zero_block
length-zero_block = length-replicate {A = ℕ} 512 0

pub length-replacement_bytes : (pack : Pack) (edit : Edit) → length (replacement_bytes pack edit) ≡ 512
length-replacement_bytes pack edit = by edit.copy
  where
    by : (c : Bool) → length (if c then block_at pack.image edit.block else zero_block) ≡ 512
    by true = length-block_at pack.image edit.block
    by false = length-zero_block

pub mark_image : (mark : Bool) (block : ℕ) (pack : Pack) → (with_mark_at mark block pack).image ≡ pack.image
mark_image true block pack = refl
mark_image false block pack = refl

one_here : (marks : List ℕ) (block : ℕ) → get_or (with_window block (1 ∷ []) marks) block 0 ≡ 1
one_here marks block =
    let at : block ≡ block + 0 = omega arith in
    ap (λ k. get_or (with_window block (1 ∷ []) marks) k 0) at ∙ get_or-with_window_here marks (1 ∷ []) block 0 (omega arith)

others_there : (marks : List ℕ) (block other : ℕ) → other ≢ block → get_or (with_window block (1 ∷ []) marks) other 0 ≡ get_or marks other 0
others_there marks block other ne =
    elim (cases_lt other block) [
      | inl before ↦ get_or-with_window_before marks (1 ∷ []) block other before
      | inr behind ↦ get_or-with_window_after marks (1 ∷ []) block other (omega (arith, behind, ne))
    ]

pub marked_other : (mark : Bool) (block : ℕ) (pack : Pack) (other : ℕ) → other ≢ block → is_marked (with_mark_at mark block pack) other ≡ is_marked pack other
marked_other true block pack other ne = ap (λ n. not (n == 0)) (others_there pack.marks block other ne)
marked_other false block pack other ne = refl

pub marked_itself : (mark : Bool) (block : ℕ) (pack : Pack) → is_marked (with_mark_at mark block pack) block ≡ (is_marked pack block || mark)
marked_itself true block pack = ap (λ n. not (n == 0)) (one_here pack.marks block) ∙ sym (or_true (is_marked pack block))
  where
    or_true : (b : Bool) → (b || true) ≡ true
    or_true true = refl
    or_true false = refl
marked_itself false block pack = sym (or_false (is_marked pack block))
  where
    or_false : (b : Bool) → (b || false) ≡ b
    or_false true = refl
    or_false false = refl
