-- Laws of the blocks of buffers.
use Rattle.std.proofs.Common.{◌≡◌, ◌≢◌, ◌⊎◌, inl, inr, ℕ, zero, suc, ◌+◌, ◌-◌, ◌*◌, ◌<◌, ◌≤◌, ◌==◌, nat_lt, Bool, if◌then◌else◌, List, [], take, drop, length, get_or, refl, sym, ap, ◌∙◌, subst, arith}
use Rattle.std.proofs.Math.ListN.{set, drop_of_length-le}
use Rattle.std.proofs.lemmas.Bool.{ltb-true, ltb-false, eqb-true, eqb-false}
use Rattle.std.proofs.lemmas.List.{get_or_past, take_all}
use Rattle.std.proofs.lemmas.Option.{slice_get-get_or}
use Rattle.std.specs.List.{Contains, slice_get}
use Rattle.std.specs.Prelude.{Some}
use Rattle.main_memory.specs.Bytes.{front, with_part}
use Rattle.main_memory.specs.declared.span.Span.{Span}
use Rattle.main_memory.specs.Blocks.{Loan, IsLoan, IsSpan, in_frame, in_next, size_at, place_in, span_of, bytes_in, with_bytes_in, blocks_from}
use Rattle.main_memory.specs.Memory.{Memory, IsLent, AreApart, with_block, blocks_of}
use Rattle.main_memory.proofs.FrameLaws.{by_test}
use Rattle.main_memory.proofs.ByteLaws.{Fits, with_part-none, length-front, Outside, length-joined, length-spread, joined-spread, joined-spread_other, joined_first, joined_second}
use Rattle.main_memory.proofs.LendLaws.{contains_at}

-- two spans that share no byte of memory: their frames differ, but that one may end in a frame where the other begins
pub record AreSeparate (span other : Span) : Type 0 where
  pub frames : span.frame ≢ other.frame
  pub nexts : 0 < in_next span → 0 < in_next other → span.next ≢ other.next
  pub ends : 0 < in_next span → span.next ≡ other.frame → in_next span ≤ other.offset
  pub begins : 0 < in_next other → other.next ≡ span.frame → in_next other ≤ span.offset

by_order : (span : Span) → span.frame ≢ span.next → span.offset < 512 → span.len ≤ 512 → (512 * span.frame + span.offset + in_frame span ≤ 512 * span.next) ⊎ (512 * span.next + in_next span ≤ 512 * span.frame + span.offset)
by_order span ne inside few =
    by_test (nat_lt span.frame span.next)
    (λ below. let lt : span.frame < span.next = ltb-true _ _ below in inl (omega arith))
    (λ above. let ge : span.next ≤ span.frame = ltb-false _ _ above in inr (omega arith))

-- a span lies in the memory
pub fits_span : (span : Span) (n : ℕ) → IsSpan span → n ≡ 8388608 → Fits (512 * span.frame + span.offset) (in_frame span) (512 * span.next) (in_next span) n
fits_span span n is size = record {
  first = omega (arith, is.frame_small, is.inside);
  second = omega (arith, is.next_small, is.inside, is.few);
  apart = λ some. by_order span (is.differ some) is.inside is.few;
}

whole_block : (span : Span) (block : List ℕ) → IsSpan span → length block ≡ span.len → length block ≡ in_frame span + in_next span
whole_block span block is size = omega (arith, is.inside)

pub length-bytes_in : (span : Span) (bytes : List ℕ) → IsSpan span → length bytes ≡ 8388608 → length (bytes_in span bytes) ≡ span.len
unfolding bytes_in
length-bytes_in span bytes is size =
    omega (arith, is.inside, length-joined (512 * span.frame + span.offset) (in_frame span) (512 * span.next) (in_next span) bytes (fits_span span _ is size))

pub length-with_bytes_in : (span : Span) (block bytes : List ℕ) → IsSpan span → length block ≡ span.len → length bytes ≡ 8388608 → length (with_bytes_in span block bytes) ≡ 8388608
unfolding with_bytes_in
length-with_bytes_in span block bytes is whole size =
    length-spread (512 * span.frame + span.offset) (in_frame span) (512 * span.next) (in_next span) block bytes (whole_block span block is whole) (fits_span span _ is size) ∙ size

-- what was written is read
pub bytes_in-with_bytes_in : (span : Span) (block bytes : List ℕ) → IsSpan span → length block ≡ span.len → length bytes ≡ 8388608 → bytes_in span (with_bytes_in span block bytes) ≡ block
unfolding bytes_in with_bytes_in
bytes_in-with_bytes_in span block bytes is whole size =
    joined-spread (512 * span.frame + span.offset) (in_frame span) (512 * span.next) (in_next span) block bytes (whole_block span block is whole) (fits_span span _ is size)

-- a block in a span that is one whole frame
pub with_bytes_in-whole : (span : Span) (block bytes : List ℕ) → span.offset ≡ 0 → span.len ≡ 512 → length block ≡ 512 → with_bytes_in span block bytes ≡ with_part (512 * span.frame) block bytes
unfolding with_bytes_in
with_bytes_in-whole span block bytes start size whole =
    let at : 512 * span.frame + span.offset ≡ 512 * span.frame = omega arith in
    let first : take (in_frame span) block ≡ block = take_all (in_frame span) block (omega (arith, start, size, whole)) in
    let second : drop (in_frame span) block ≡ [] = drop_of_length-le block (omega (arith, start, size, whole)) in
    rw (first, second, at) (with_part-none (512 * span.next) (with_part (512 * span.frame) block bytes))

-- a place of a frame lies outside a part of another frame
outside_frame : (f g low size place i at : ℕ) → f ≢ g → low + size ≤ 512 → place < 512 → i ≡ 512 * f + place → at ≡ 512 * g + low → Outside i at size
outside_frame f g low size place i at ne small inside i_is at_is =
    by_test (nat_lt f g)
    (λ below. let lt : f < g = ltb-true _ _ below in inl (omega arith))
    (λ above. let ge : g ≤ f = ltb-false _ _ above in inr (omega arith))

-- and outside the start of its own frame, if that ends no later
outside_start : (f g size place i : ℕ) → (0 < size → g ≡ f → size ≤ place) → size ≤ 512 → place < 512 → i ≡ 512 * f + place → Outside i (512 * g) size
outside_start f g size place i if_same small inside i_is =
    by_test (g == f)
    (λ same. let e : g ≡ f = eqb-true _ _ same in
    by_test (nat_lt 0 size)
    (λ some. let le : size ≤ place = if_same (ltb-true _ _ some) e in inr (omega arith))
    (λ none. let le : size ≤ 0 = ltb-false _ _ none in inr (omega arith)))
    (λ other. let ne : g ≢ f = eqb-false _ _ other in outside_frame f g 0 size place i (512 * g) (λ e. ne (sym e)) (omega arith) inside i_is (omega arith))

-- and outside the rest of its own frame, if that begins later
outside_rest : (f g low size place i at : ℕ) → (g ≡ f → place < low) → low + size ≤ 512 → place < 512 → i ≡ 512 * f + place → at ≡ 512 * g + low → Outside i at size
outside_rest f g low size place i at if_same small inside i_is at_is =
    by_test (g == f)
    (λ same. let e : g ≡ f = eqb-true _ _ same in let lt : place < low = if_same e in inl (omega arith))
    (λ other. let ne : g ≢ f = eqb-false _ _ other in outside_frame f g low size place i at (λ e. ne (sym e)) small inside i_is at_is)

first_outside : (span other : Span) → IsSpan span → IsSpan other → AreSeparate span other → (k : ℕ) → k < in_frame other
    → Outside (512 * other.frame + other.offset + k) (512 * span.frame + span.offset) (in_frame span) × Outside (512 * other.frame + other.offset + k) (512 * span.next) (in_next span)
first_outside span other is other_is separate k small = (
  outside_frame other.frame span.frame span.offset (in_frame span) (other.offset + k) _ _ (λ e. separate.frames (sym e)) (omega (arith, is.inside)) (omega (arith, other_is.inside)) (omega arith) refl,
  outside_start other.frame span.next (in_next span) (other.offset + k) _ (λ some e. omega (arith, separate.ends some e)) (omega (arith, is.few)) (omega (arith, other_is.inside)) (omega arith),
)

second_outside : (span other : Span) → IsSpan span → IsSpan other → AreSeparate span other → (k : ℕ) → k < in_next other
    → Outside (512 * other.next + k) (512 * span.frame + span.offset) (in_frame span) × Outside (512 * other.next + k) (512 * span.next) (in_next span)
second_outside span other is other_is separate k small = (
  outside_rest other.next span.frame span.offset (in_frame span) k _ _ (λ e. omega (arith, separate.begins (omega arith) (sym e))) (omega (arith, is.inside)) (omega (arith, other_is.few)) refl refl,
  outside_start other.next span.next (in_next span) k _ (λ some e. absurd (separate.nexts some (omega arith) e)) (omega (arith, is.few)) (omega (arith, other_is.few)) refl,
)

-- a block that shares no byte with the one that was written stays
pub bytes_in-with_bytes_in_other : (span other : Span) (block bytes : List ℕ) → IsSpan span → IsSpan other → AreSeparate span other → length block ≡ span.len → length bytes ≡ 8388608
    → bytes_in other (with_bytes_in span block bytes) ≡ bytes_in other bytes
unfolding bytes_in with_bytes_in
bytes_in-with_bytes_in_other span other block bytes is other_is separate whole size =
    joined-spread_other (512 * span.frame + span.offset) (in_frame span) (512 * span.next) (in_next span) block bytes (whole_block span block is whole) (fits_span span _ is size)
    (512 * other.frame + other.offset) (in_frame other) (512 * other.next) (in_next other) (fits_span other _ other_is size)
    (first_outside span other is other_is separate)
    (second_outside span other is other_is separate)

-- the last block has what the buffer has of it, each other one 512 bytes
pub by_size : (loan : Loan) (k : ℕ) {X : Type 0} → (k + 1 ≡ loan.count → size_at loan k ≡ loan.last → X) → (k + 1 ≢ loan.count → size_at loan k ≡ 512 → X) → X
by_size loan k last other = by_test (k + 1 == loan.count) (λ same. last (eqb-true _ _ same) (rw same refl)) (λ ne. other (eqb-false _ _ ne) (rw ne refl))

pub size_some : (loan : Loan) (k : ℕ) → IsLoan loan → 1 ≤ size_at loan k
size_some loan k is = by_size loan k (λ last e. omega (arith, e, is.shape.last_some)) (λ other e. omega (arith, e))

pub size_few : (loan : Loan) (k : ℕ) → IsLoan loan → size_at loan k ≤ 512
size_few loan k is = by_size loan k (λ last e. omega (arith, e, is.shape.last_few)) (λ other e. omega (arith, e))

pub length-front_of : (loan : Loan) (k : ℕ) (block : List ℕ) → IsLoan loan → length block ≡ 512 → length (front (size_at loan k) block) ≡ size_at loan k
length-front_of loan k block is whole = length-front (size_at loan k) block (omega (arith, size_few loan k is))

-- block k of a buffer begins in one of its frames, and ends in the next one where it is in two
pub has_frame : (loan : Loan) (k : ℕ) → IsLoan loan → k < loan.count → k < length loan.frames
has_frame loan k is inside = omega (arith, is.enough, is.shape.last_some)

pub has_next : (loan : Loan) (k : ℕ) → IsLoan loan → k < loan.count → 0 < in_next (span_of loan k) → k + 1 < length loan.frames
has_next loan k is inside some =
    by_size loan k (λ last e. omega (arith, e, some, is.enough, is.shape.inside)) (λ other e. omega (arith, other, is.enough, is.shape.last_some))

next_small : (memory : Memory) (loan : Loan) (k : ℕ) → IsLent memory loan → get_or loan.frames (k + 1) 0 < 16384
next_small memory loan k lent =
    by_test (nat_lt (k + 1) (length loan.frames))
    (λ inside. lent.small (k + 1) (ltb-true _ _ inside))
    (λ past. let none : get_or loan.frames (k + 1) 0 ≡ 0 = get_or_past loan.frames (k + 1) 0 (ltb-false _ _ past) in omega arith)

-- each block of a lent buffer lies in the memory
pub is_span : (memory : Memory) (loan : Loan) (k : ℕ) → IsLoan loan → IsLent memory loan → k < loan.count → IsSpan (span_of loan k)
is_span memory loan k is lent inside = record {
  frame_small = lent.small k (has_frame loan k is inside);
  next_small = next_small memory loan k lent;
  inside = is.shape.inside;
  some = size_some loan k is;
  few = size_few loan k is;
  differ = λ some. lent.differ k (k + 1) (omega arith) (has_next loan k is inside some);
}

frames_differ : (memory : Memory) (loan : Loan) (i j : ℕ) → IsLent memory loan → i < length loan.frames → j < length loan.frames → i ≢ j → get_or loan.frames i 0 ≢ get_or loan.frames j 0
frames_differ memory loan i j lent i_in j_in ne =
    by_test (nat_lt i j)
    (λ below. lent.differ i j (ltb-true _ _ below) j_in)
    (λ above. let gt : j < i = omega (arith, ltb-false _ _ above) in λ e. lent.differ j i gt i_in (sym e))

-- two blocks of one buffer share no byte
pub separate_blocks : (memory : Memory) (loan : Loan) (k j : ℕ) → IsLoan loan → IsLent memory loan → k < loan.count → j < loan.count → j ≢ k → AreSeparate (span_of loan k) (span_of loan j)
separate_blocks memory loan k j is lent k_in j_in ne = record {
  frames = frames_differ memory loan k j lent (has_frame loan k is k_in) (has_frame loan j is j_in) (λ e. ne (sym e));
  nexts = λ some other_some. frames_differ memory loan (k + 1) (j + 1) lent (has_next loan k is k_in some) (has_next loan j is j_in other_some) (λ e. ne (omega arith));
  ends = λ some e. omega (arith, size_few loan k is);
  begins = λ some e. omega (arith, size_few loan j is);
}

-- blocks of two buffers that have no frame in common share no byte
pub separate_buffers : (loan other : Loan) (k j : ℕ) → IsLoan loan → IsLoan other → AreApart loan other → k < loan.count → j < other.count → AreSeparate (span_of loan k) (span_of other j)
separate_buffers loan other k j is other_is apart k_in j_in =
    let clash : (i m : ℕ) → i < length loan.frames → m < length other.frames → get_or loan.frames i 0 ≢ get_or other.frames m 0 =
    λ i m i_in m_in e. apart (get_or loan.frames i 0) (contains_at loan.frames i i_in) (subst (Contains other.frames) (sym e) (contains_at other.frames m m_in)) in
    record {
      frames = clash k j (has_frame loan k is k_in) (has_frame other j other_is j_in);
      nexts = λ some other_some. clash (k + 1) (j + 1) (has_next loan k is k_in some) (has_next other j other_is j_in other_some);
      ends = λ some e. absurd (clash (k + 1) j (has_next loan k is k_in some) (has_frame other j other_is j_in) e);
      begins = λ some e. absurd (clash k (j + 1) (has_frame loan k is k_in) (has_next other j other_is j_in some) (sym e));
    }

-- the blocks of a buffer, one by one
pub length-blocks_from : (loan : Loan) (bytes : List ℕ) (k n : ℕ) → length (blocks_from loan bytes k n) ≡ n
unfolding blocks_from
length-blocks_from loan bytes k zero = refl
length-blocks_from loan bytes k (suc n) = omega (arith, length-blocks_from loan bytes (suc k) n)

pub get_or-blocks_from : (loan : Loan) (bytes : List ℕ) (k n i : ℕ) (d : List ℕ) → i < n → get_or (blocks_from loan bytes k n) i d ≡ bytes_in (span_of loan (k + i)) bytes
unfolding blocks_from
get_or-blocks_from loan bytes k zero i d inside = absurd (omega arith)
get_or-blocks_from loan bytes k (suc n) zero d inside = let e : k ≡ k + 0 = omega arith in ap (λ (j : ℕ). bytes_in (span_of loan j) bytes) e
get_or-blocks_from loan bytes k (suc n) (suc i) d inside =
    let e : suc k + i ≡ k + suc i = omega arith in
    get_or-blocks_from loan bytes (suc k) n i d (omega arith) ∙ ap (λ (j : ℕ). bytes_in (span_of loan j) bytes) e

pub blocks_from-same : (loan : Loan) (bytes other : List ℕ) (k n : ℕ) → ((j : ℕ) → k ≤ j → j < k + n → bytes_in (span_of loan j) other ≡ bytes_in (span_of loan j) bytes)
    → blocks_from loan other k n ≡ blocks_from loan bytes k n
unfolding blocks_from
blocks_from-same loan bytes other k zero same = refl
blocks_from-same loan bytes other k (suc n) same =
    let here : bytes_in (span_of loan k) other ≡ bytes_in (span_of loan k) bytes = same k (omega arith) (omega arith) in
    let rest : blocks_from loan other (suc k) n ≡ blocks_from loan bytes (suc k) n = blocks_from-same loan bytes other (suc k) n (λ j low high. same j (omega arith) (omega arith)) in
    rw (here, rest) refl

pub blocks_from-set : (loan : Loan) (bytes other block : List ℕ) (k n i : ℕ) → i < n → bytes_in (span_of loan (k + i)) other ≡ block
    → ((j : ℕ) → k ≤ j → j < k + n → j ≢ k + i → bytes_in (span_of loan j) other ≡ bytes_in (span_of loan j) bytes)
    → blocks_from loan other k n ≡ set (blocks_from loan bytes k n) i block
unfolding blocks_from
blocks_from-set loan bytes other block k zero i inside at same = absurd (omega arith)
blocks_from-set loan bytes other block k (suc n) zero inside at same =
    let e : k + 0 ≡ k = omega arith in
    let here : bytes_in (span_of loan k) other ≡ block = ap (λ (j : ℕ). bytes_in (span_of loan j) other) (sym e) ∙ at in
    let rest : blocks_from loan other (suc k) n ≡ blocks_from loan bytes (suc k) n = blocks_from-same loan bytes other (suc k) n (λ j low high. same j (omega arith) (omega arith) (omega arith)) in
    rw (here, rest) refl
blocks_from-set loan bytes other block k (suc n) (suc i) inside at same =
    let e : k + suc i ≡ suc k + i = omega arith in
    let here : bytes_in (span_of loan k) other ≡ bytes_in (span_of loan k) bytes = same k (omega arith) (omega arith) (omega arith) in
    let rest : blocks_from loan other (suc k) n ≡ set (blocks_from loan bytes (suc k) n) i block =
    blocks_from-set loan bytes other block (suc k) n i (omega arith) (ap (λ (j : ℕ). bytes_in (span_of loan j) other) (sym e) ∙ at) (λ j low high ne. same j (omega arith) (omega arith) (omega arith)) in
    rw (here, rest) refl

-- what a buffer holds after a write to one of its blocks
pub blocks_of-with_block : (memory : Memory) (loan : Loan) (k : ℕ) (block : List ℕ) → length memory.bytes ≡ 8388608 → IsLoan loan → IsLent memory loan → k < loan.count → length block ≡ size_at loan k
    → blocks_of loan (with_block loan k block memory) ≡ set (blocks_of loan memory) k block
blocks_of-with_block memory loan k block size is lent inside whole =
    let here : IsSpan (span_of loan k) = is_span memory loan k is lent inside in
    let first : 0 + k ≡ k = omega arith in
    blocks_from-set loan memory.bytes (with_bytes_in (span_of loan k) block memory.bytes) block 0 loan.count k inside
    (ap (λ (j : ℕ). bytes_in (span_of loan j) (with_bytes_in (span_of loan k) block memory.bytes)) first ∙ bytes_in-with_bytes_in (span_of loan k) block memory.bytes here whole size)
    (λ j low high ne.
    let j_in : j < loan.count = omega arith in
    let ne_k : j ≢ k = λ e. ne (omega arith) in
    bytes_in-with_bytes_in_other (span_of loan k) (span_of loan j) block memory.bytes here (is_span memory loan j is lent j_in) (separate_blocks memory loan k j is lent inside j_in ne_k) whole size)

-- what another buffer holds after it
pub blocks_of-with_block_other : (memory : Memory) (loan other : Loan) (k : ℕ) (block : List ℕ) → length memory.bytes ≡ 8388608 → IsLoan loan → IsLent memory loan → k < loan.count → length block ≡ size_at loan k
    → IsLoan other → IsLent memory other → AreApart loan other → blocks_of other (with_block loan k block memory) ≡ blocks_of other memory
blocks_of-with_block_other memory loan other k block size is lent inside whole other_is other_lent apart =
    blocks_from-same other memory.bytes (with_bytes_in (span_of loan k) block memory.bytes) 0 other.count
    (λ j low high.
    let j_in : j < other.count = omega arith in
    bytes_in-with_bytes_in_other (span_of loan k) (span_of other j) block memory.bytes (is_span memory loan k is lent inside) (is_span memory other j other_is other_lent j_in)
    (separate_buffers loan other k j is other_is apart inside j_in) whole size)

pub slice_get-blocks_of : (memory : Memory) (loan : Loan) (k : ℕ) → k < loan.count → slice_get (blocks_of loan memory) k ≡ Some (bytes_in (span_of loan k) memory.bytes)
slice_get-blocks_of memory loan k inside =
    let all : List (List ℕ) = blocks_of loan memory in
    let here : k < length all = omega (arith, length-blocks_from loan memory.bytes 0 loan.count) in
    let first : 0 + k ≡ k = omega arith in
    slice_get-get_or all k [] here ∙ ap (λ (b : List ℕ). Some b) (get_or-blocks_from loan memory.bytes 0 loan.count k [] inside ∙ ap (λ (j : ℕ). bytes_in (span_of loan j) memory.bytes) first)

-- byte by byte
pub get_or-bytes_in : (span : Span) (bytes : List ℕ) (at : ℕ) → IsSpan span → length bytes ≡ 8388608 → at < span.len → get_or bytes (place_in span at) 0 ≡ get_or (bytes_in span bytes) at 0
unfolding bytes_in
get_or-bytes_in span bytes at is size inside =
    by_test (nat_lt at (512 - span.offset))
    (λ first. let lt : at < 512 - span.offset = ltb-true _ _ first in
    ap (λ (b : Bool). get_or bytes (if b then 512 * span.frame + span.offset + at else 512 * span.next + (at - (512 - span.offset))) 0) first
    ∙ sym (joined_first (512 * span.frame + span.offset) (in_frame span) (512 * span.next) (in_next span) bytes (fits_span span _ is size) at (omega arith)))
    (λ second. let ge : 512 - span.offset ≤ at = ltb-false _ _ second in
    let whole : 512 - span.offset ≡ in_frame span = omega arith in
    ap (λ (b : Bool). get_or bytes (if b then 512 * span.frame + span.offset + at else 512 * span.next + (at - (512 - span.offset))) 0) second
    ∙ ap (λ (n : ℕ). get_or bytes (512 * span.next + (at - n)) 0) whole
    ∙ sym (joined_second (512 * span.frame + span.offset) (in_frame span) (512 * span.next) (in_next span) bytes (fits_span span _ is size) at (omega arith) (omega arith)))
