-- Ranges of bytes, and bytes that are laid over others.
use Rattle.std.proofs.Common.{◌≡◌, ℕ, zero, suc, ◌+◌, ◌-◌, ◌*◌, ◌/◌, ◌%◌, ◌<◌, ◌≤◌, List, [], ◌∷◌, ◌++◌, length, take, drop, Some, refl, sym, ap, ◌∙◌, arith, rules}
use Rattle.std.specs.Prelude.{get_or}
use Rattle.std.proofs.lemmas.List.{take_all, take_at, take-append-le, drop-append-le, drop_more, drop_all}
use Rattle.trace_replay.specs.Packs.{size_of_block}
use Rattle.driver_laws.specs.rules.Machine.{Blocks, bytes_or_none, bytes_of_first}
use Rattle.driver_laws.specs.rules.Laid.{laid, laid_at}
use Rattle.driver_laws.specs.rules.Bytes.{byte_at, range}
use Rattle.trace_replay.specs.requests.Requests.{Request}
use Rattle.driver_laws.proofs.rules.WholeBlocks.{IsBlock}

-- ---- LAID BYTES
pub laid_short : (xs ys : List ℕ) → length xs ≤ length ys → laid xs ys ≡ xs ++ drop (length xs) ys
laid_short [] ys le = refl
laid_short (x ∷ xs) [] le = absurd (omega (arith, le))
laid_short (x ∷ xs) (y ∷ ys) le = ap (λ zs. x ∷ zs) (laid_short xs ys (omega (arith, le)))

pub laid_long : (xs ys : List ℕ) → length ys ≤ length xs → laid xs ys ≡ take (length ys) xs
laid_long [] [] le = refl
laid_long [] (y ∷ ys) le = absurd (omega (arith, le))
laid_long (x ∷ xs) [] le = refl
laid_long (x ∷ xs) (y ∷ ys) le = ap (λ zs. x ∷ zs) (laid_long xs ys (omega (arith, le)))

-- one behind the other
pub laid_over_none : (bytes : List ℕ) → laid bytes [] ≡ []
laid_over_none [] = refl
laid_over_none (byte ∷ bytes) = refl

pub laid_more : (xs ys into : List ℕ) → laid_at (length xs) ys (laid xs into) ≡ laid (xs ++ ys) into
laid_more [] ys into = refl
laid_more (x ∷ xs) ys [] = laid_over_none ys
laid_more (x ∷ xs) ys (z ∷ into) = ap (λ zs. x ∷ zs) (laid_more xs ys into)

-- ---- RANGES
pub length_range : (n : ℕ) (blocks : Blocks) (first at : ℕ) → length (range n blocks first at) ≡ n
length_range zero blocks first at = refl
length_range (suc n) blocks first at = ap suc (length_range n blocks first (at + 1))

pub range_more : (m n : ℕ) (blocks : Blocks) (first at : ℕ) → range (m + n) blocks first at ≡ range m blocks first at ++ range n blocks first (at + m)
range_more zero n blocks first at = search rules
range_more (suc m) n blocks first at =
    let next : at + 1 + m ≡ at + suc m = omega arith in
    let more : suc m + n ≡ suc (m + n) = omega arith in
    ap (λ k. range k blocks first at) more
    ∙ ap (λ zs. byte_at blocks first at ∷ zs) (range_more m n blocks first (at + 1) ∙ ap (λ k. range m blocks first (at + 1) ++ range n blocks first k) next)

pub take_range : (m n : ℕ) (blocks : Blocks) (first at : ℕ) → m ≤ n → take m (range n blocks first at) ≡ range m blocks first at
take_range m n blocks first at le =
    let whole : n ≡ m + (n - m) = omega (arith, le) in
    ap (λ k. take m (range k blocks first at)) whole ∙ ap (take m) (range_more m (n - m) blocks first at)
    ∙ take_at (range m blocks first at) (range (n - m) blocks first (at + m)) m (length_range m blocks first at)

pub drop_range : (m n : ℕ) (blocks : Blocks) (first at : ℕ) → m ≤ n → drop m (range n blocks first at) ≡ range (n - m) blocks first (at + m)
drop_range m n blocks first at le =
    let whole : n ≡ m + (n - m) = omega (arith, le) in
    ap (λ k. drop m (range k blocks first at)) whole ∙ ap (drop m) (range_more m (n - m) blocks first at)
    ∙ Rattle.std.proofs.lemmas.List.drop_at (range m blocks first at) (range (n - m) blocks first (at + m)) m (length_range m blocks first at)

-- a piece of a buffer over which a range was laid
pub range_laid : (skip size n : ℕ) (blocks : Blocks) (first at : ℕ) (into : List ℕ) → n ≤ length into → skip + size ≤ n
    → take size (drop skip (laid (range n blocks first at) into)) ≡ range size blocks first (at + skip)
range_laid skip size n blocks first at into room few = search (rules, length_range, laid_short, drop-append-le, drop_range, take-append-le, take_range)

-- ---- WHOLE BLOCKS
block_from : (m j q : ℕ) (blocks : Blocks) (first : ℕ) (bytes : List ℕ) → blocks (first + q) ≡ Some bytes → length bytes ≡ 512 → j + m ≡ 512
    → range m blocks first (512 * q + j) ≡ drop j bytes
block_from zero j q blocks first bytes is long all = sym (drop_all j bytes (omega (arith, long, all)))
block_from (suc m) j q blocks first bytes is long all =
    let lt : j < length bytes = omega (arith, long, all) in
    let block : (512 * q + j) / 512 ≡ q = omega (arith, all) in
    let place : (512 * q + j) % 512 ≡ j = omega (arith, all) in
    let next : 512 * q + j + 1 ≡ 512 * q + (j + 1) = omega arith in
    let here : byte_at blocks first (512 * q + j) ≡ get_or bytes j 0 =
    ap (λ k. get_or (bytes_or_none (blocks (first + k))) ((512 * q + j) % 512) 0) block
    ∙ ap (λ k. get_or (bytes_or_none (blocks (first + q))) k 0) place
    ∙ ap (λ z. get_or (bytes_or_none z) j 0) is in
    ap (λ b. b ∷ range m blocks first (512 * q + j + 1)) here
    ∙ ap (λ k. get_or bytes j 0 ∷ range m blocks first k) next
    ∙ ap (λ zs. get_or bytes j 0 ∷ zs) (block_from m (j + 1) q blocks first bytes is long (omega (arith, all)))
    ∙ sym (drop_more bytes j 0 lt)

pub block_range : (q : ℕ) (blocks : Blocks) (first : ℕ) (bytes : List ℕ) → blocks (first + q) ≡ Some bytes → length bytes ≡ 512 → range 512 blocks first (512 * q) ≡ bytes
block_range q blocks first bytes is long =
    let none : 512 * q ≡ 512 * q + 0 = omega arith in
    ap (range 512 blocks first) none ∙ block_from 512 0 q blocks first bytes is long (omega arith)

-- a read of the first blocks of a request, from block b of the partition on
pub blocks_range : (n b : ℕ) (blocks : Blocks) (first : ℕ) (r : Request) → ((k : ℕ) → k < n → IsBlock (blocks (first + b + k)))
    → ((k : ℕ) → k < n → size_of_block r k ≡ 512) → bytes_of_first n blocks (first + b) r ≡ range (512 * n) blocks first (512 * b)
blocks_range zero b blocks first r are whole = refl
blocks_range (suc n) b blocks first r are whole =
    let one : IsBlock (blocks (first + b + n)) = are n (omega arith) in
    let at : first + b + n ≡ first + (b + n) = omega arith in
    let place : 512 * b + 512 * n ≡ 512 * (b + n) = omega arith in
    let all : 512 * n + 512 ≡ 512 * suc n = omega arith in
    let room : length one.bytes ≤ 512 = omega (arith, one.long) in
    ap (λ zs. bytes_of_first n blocks (first + b) r ++ take (size_of_block r n) (bytes_or_none zs)) one.is
    ∙ ap (λ k. bytes_of_first n blocks (first + b) r ++ take k one.bytes) (whole n (omega arith))
    ∙ ap (λ zs. bytes_of_first n blocks (first + b) r ++ zs) (take_all 512 one.bytes room ∙ sym (block_range (b + n) blocks first one.bytes (ap blocks (sym at) ∙ one.is) one.long))
    ∙ ap (λ zs. zs ++ range 512 blocks first (512 * (b + n))) (blocks_range n b blocks first r (λ k lt. are k (omega (arith, lt))) (λ k lt. whole k (omega (arith, lt))))
    ∙ ap (λ k. range (512 * n) blocks first (512 * b) ++ range 512 blocks first k) (sym place)
    ∙ sym (range_more (512 * n) 512 blocks first (512 * b))
    ∙ ap (λ k. range k blocks first (512 * b)) all
