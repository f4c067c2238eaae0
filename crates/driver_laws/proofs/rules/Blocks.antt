-- Blocks, homes and bytes: what is done of a request, block by block.
use Rattle.std.proofs.Common.{◌≡◌, ◌≢◌, ℕ, zero, suc, ◌≤◌, ◌+◌, ◌-◌, ◌*◌, ◌&&◌, nat_le, nat_lt, Bool, true, false, List, [], ◌∷◌, ◌++◌, length, take, drop, replicate, Option, None, Some, refl, ap, arith, length-append, ◌<◌, ◌∙◌, rules}
use Rattle.std.specs.Prelude.{is_some}
use Rattle.std.proofs.lemmas.Bool.Decides.{nat_tests}
use Rattle.std.proofs.lemmas.Bool.{eq-eqb, ne_eqb, true≢false}
use Rattle.std.proofs.lemmas.List.{length-take-le, length-replicate}
use Rattle.trace_replay.specs.requests.Requests.{Request}
use Rattle.trace_replay.specs.Packs.{size_of_block, sector_of_block, bytes_of_write, read_as, repaired_from}
use Rattle.driver_laws.specs.rules.Machine.{Blocks, bytes_or_none, bytes_of_first, blocks_done}
use Rattle.driver_laws.specs.rules.Stands.{held_at, size_of_first}
use Rattle.trace_replay.proofs.ReadBytes.{length_flipped}

-- ---- the test whether a block is done
pub not_done : (first n : ℕ) → nat_le first (first + n) && nat_lt (first + n) (first + n) ≡ false
not_done first n = grind (arith, nat_tests)

pub none_done : (first b : ℕ) → nat_le first b && nat_lt b (first + 0) ≡ false
none_done first b = grind (arith, nat_tests)

pub other_done : (first n b : ℕ) → b ≢ first + n → nat_le first b && nat_lt b (first + (n + 1)) ≡ nat_le first b && nat_lt b (first + n)
other_done first n b ne = grind (arith, nat_tests)

pub and_false : (w : Bool) → w && false ≡ false
and_false true = refl
and_false false = refl

-- ---- the map with what is done
pub begun_blocks : (blocks : Blocks) (first : ℕ) (r : Request) (b : ℕ) → blocks_done blocks first r 0 b ≡ blocks b
begun_blocks blocks first r b = rw (none_done first b, and_false (is_some r.written)) refl

pub block_not_done : (blocks : Blocks) (first : ℕ) (r : Request) (n : ℕ) → blocks_done blocks first r n (first + n) ≡ blocks (first + n)
block_not_done blocks first r n = rw (not_done first n, and_false (is_some r.written)) refl

pub read_blocks : (blocks : Blocks) (first : ℕ) (r : Request) (n b : ℕ) → is_some r.written ≡ false → blocks_done blocks first r n b ≡ blocks b
read_blocks blocks first r n b reads = rw reads refl

pub block_done : (blocks : Blocks) (first : ℕ) (r : Request) (n : ℕ) → is_some r.written ≡ true → blocks_done blocks first r (n + 1) (first + n) ≡ Some (sector_of_block r n)
block_done blocks first r n writes = search rules

pub other_blocks : (blocks : Blocks) (first : ℕ) (r : Request) (n b : ℕ) → b ≢ first + n → blocks_done blocks first r (n + 1) b ≡ blocks_done blocks first r n b
other_blocks blocks first r n b ne = rw (other_done first n b ne) refl

-- ---- the bytes of one block more
pub next_bytes : (n : ℕ) (blocks : Blocks) (first : ℕ) (r : Request)
    → bytes_of_first (n + 1) blocks first r ≡ bytes_of_first n blocks first r ++ take (size_of_block r n) (bytes_or_none (blocks (first + n)))
next_bytes n blocks first r = search rules

-- ---- options
pub not_written : (w : Option (List ℕ)) → is_some w ≡ false → w ≡ None
not_written None is = refl
not_written (Some bytes) is = absurd (true≢false is)

pub reads_so : (w : Option (List ℕ)) → w ≡ None → is_some w ≡ false
reads_so w is = ap is_some is

pub held_some : (sectors : ℕ → List ℕ) (home : Option ℕ) (sector : ℕ) → home ≡ Some sector → held_at sectors home ≡ Some (sectors sector)
held_some sectors home sector is = ap (held_at sectors) is

-- ---- the bytes of a write fill a sector
filled : (n : ℕ) (xs : List ℕ) → length (take n (xs ++ replicate n 0)) ≡ n
filled n xs = length-take-le n (xs ++ replicate n 0) (let e : length (xs ++ replicate n 0) ≡ length xs + n = length-append xs (replicate n 0) ∙ ap (λ z. length xs + z) (length-replicate n 0) in omega (arith, e))

pub sector_full : (r : Request) (k : ℕ) → length (sector_of_block r k) ≡ 512
sector_full r k = filled 512 (take (size_of_block r k) (drop (512 * k) (bytes_of_write r.written)))

-- ---- how many bytes a request asks for
pub size_small : (r : Request) (k : ℕ) → r.last ≤ 512 → size_of_block r k ≤ 512
size_small r k few = search rules

inner_size : (n : ℕ) (r : Request) → n < r.count → size_of_first n r ≡ 512 * n
inner_size zero r lt = refl
inner_size (suc n) r lt = rw (ne_eqb (n + 1) r.count (last n r.count lt)) (more (size_of_first n r) n (inner_size n r (omega (arith, lt))))
  where
    last : (n c : ℕ) → suc n < c → n + 1 ≡ c → ⊥
    last n c lt e = omega (arith, lt, e)

    more : (a n : ℕ) → a ≡ 512 * n → a + 512 ≡ 512 * suc n
    more a n e = omega (arith, e)

pub whole_size : (r : Request) → 1 ≤ r.count → size_of_first r.count r ≡ 512 * (r.count - 1) + r.last
whole_size r some = search (rules, eq-eqb, inner_size)

-- ---- reads and repairs give as many bytes

pub read_length : (flips : Option (List ℕ)) (sector : List ℕ) → length (read_as flips sector) ≡ length sector
read_length None sector = refl
read_length (Some places) sector = length_flipped 0 places sector

pub repaired_length : (i at q : ℕ) (bytes : List ℕ) → length (repaired_from i at q bytes) ≡ length bytes
repaired_length i at q [] = refl
repaired_length i at q (b ∷ bytes) = ap suc (repaired_length (i + 1) at q bytes)

pub part_length : (size : ℕ) (flips : Option (List ℕ)) (sector : List ℕ) → size ≤ 512 → length sector ≡ 512 → length (take size (read_as flips sector)) ≡ size
part_length size flips sector small full = length-take-le size (read_as flips sector) (let e : length (read_as flips sector) ≡ 512 = read_length flips sector ∙ full in omega (arith, e, small))
