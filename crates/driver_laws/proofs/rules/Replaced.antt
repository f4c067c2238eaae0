-- Blocks with bytes replaced.
use Rattle.std.proofs.Common.{◌≡◌, ◌⊎◌, inl, inr, ℕ, ◌+◌, ◌-◌, ◌*◌, ◌<◌, ◌≤◌, nat_le, true, false, List, [], ◌++◌, length, take, drop, replicate, take-append-drop, Option, None, Some, refl, sym, ap, ◌∙◌, subst, arith, rules}
use Rattle.std.specs.Prelude.{is_some, IsSome}
use Rattle.std.proofs.lemmas.Option.{none-some, same_Some}
use Rattle.std.proofs.lemmas.List.{length-take-le, take_all, take-take, take_at, drop_all, drop-take, drop-drop}
use Rattle.std.proofs.Math.ListN.{length-drop}
use Rattle.std.proofs.lemmas.Bool.Decides.{nat_tests, leb_tells}
use Rattle.trace_replay.specs.requests.Requests.{Request}
use Rattle.trace_replay.specs.Packs.{size_of_block, sector_of_block, bytes_of_write}
use Rattle.driver_laws.specs.rules.Machine.{Blocks, blocks_done}
use Rattle.driver_laws.specs.rules.Laid.{laid_at}
use Rattle.driver_laws.specs.rules.Bytes.{block_with, with_bytes, with_range}
use Rattle.driver_laws.proofs.rules.Ranges.{laid_long}
use Rattle.driver_laws.proofs.rules.WholeBlocks.{AreWhole}

-- ---- ONE BLOCK
laid_at_none : (x : ℕ) (bytes : List ℕ) → laid_at x [] bytes ≡ bytes
laid_at_none x bytes = take-append-drop x bytes

laid_at_same : (x : ℕ) (xs ys bytes : List ℕ) → length bytes - x ≤ length xs → length bytes - x ≤ length ys → take (length bytes - x) xs ≡ take (length bytes - x) ys
    → laid_at x xs bytes ≡ laid_at x ys bytes
laid_at_same x xs ys bytes one other same =
    let long : length (drop x bytes) ≡ length bytes - x = length-drop x bytes in
    ap (λ zs. take x bytes ++ zs)
    (laid_long xs (drop x bytes) (omega (arith, long, one)) ∙ ap (λ k. take k xs) long ∙ same ∙ ap (λ k. take k ys) (sym long) ∙ sym (laid_long ys (drop x bytes) (omega (arith, long, other))))

front_of : (off d : ℕ) (from : List ℕ) → off ≤ d → drop off (take d from) ≡ take (d - off) (drop off from)
front_of off d from le =
    let whole : d ≡ off + (d - off) = omega (arith, le) in
    ap (λ k. drop off (take k from)) whole ∙ drop-take off (d - off) from

front_none : (off d : ℕ) (from : List ℕ) → d ≤ off → d ≤ length from → drop off (take d from) ≡ []
front_none off d from le few = drop_all off (take d from) (subst (λ k. k ≤ off) (sym (length-take-le d from few)) le)

-- a block that is covered by the first d bytes, or reached by none of the first e
pub block_same : (k at d e : ℕ) (from bytes : List ℕ) → length bytes ≡ 512 → d ≤ e → e ≤ length from → (512 * k + 512 ≤ at + d) ⊎ (at + e ≤ 512 * k)
    → block_with k at (take d from) bytes ≡ block_with k at (take e from) bytes
block_same k at d e from bytes long le few h0 = search (rules, front_none, length-drop, length-take-le, front_of, laid_at_same, take-take)

-- a block that is covered whole
pub block_whole : (k at e : ℕ) (from bytes : List ℕ) → length bytes ≡ 512 → at ≤ 512 * k → 512 * k + 512 ≤ at + e → e ≤ length from
    → block_with k at (take e from) bytes ≡ take 512 (drop (512 * k - at) from)
block_whole k at e from bytes long begins covered few = search (rules, length-drop, length-take-le, front_of, laid_long, take-take)

-- a block that is covered in part, behind the first d bytes
pub block_edge : (b at d size skip : ℕ) (from bytes : List ℕ) → at + d ≡ 512 * b + skip → (d ≡ 0) ⊎ (skip ≡ 0) → d + size ≤ length from
    → block_with b at (take (d + size) from) bytes ≡ laid_at skip (take size (drop d from)) (block_with b at (take d from) bytes)
block_edge b at d size skip from bytes is h0 few = search (rules, drop_all, laid_at_none, front_none, drop-take)

-- ---- WHAT A WRITE gives a sector
pub sector_whole : (r : Request) (k : ℕ) (bytes : List ℕ) → r.written ≡ Some bytes → size_of_block r k ≡ 512 → 512 * k + 512 ≤ length bytes
    → sector_of_block r k ≡ take 512 (drop (512 * k) bytes)
sector_whole r k bytes written whole few =
    let rest : length (drop (512 * k) bytes) ≡ length bytes - 512 * k = length-drop (512 * k) bytes in
    ap (λ zs. take 512 (take (size_of_block r k) (drop (512 * k) (bytes_of_write zs)) ++ replicate 512 0)) written
    ∙ ap (λ n. take 512 (take n (drop (512 * k) bytes) ++ replicate 512 0)) whole
    ∙ filled 512 (drop (512 * k) bytes) (omega (arith, rest, few))
  where
    filled : (n : ℕ) (xs : List ℕ) → n ≤ length xs → take n (take n xs ++ replicate n 0) ≡ take n xs
    filled n xs le = take_at (take n xs) (replicate n 0) n (length-take-le n xs le)

-- ---- THE MAP behind a write of some blocks
at_place : (blocks : Blocks) (first at k : ℕ) (from : List ℕ) → with_range blocks first at from (first + k) ≡ with_bytes k at from (blocks (first + k))
at_place blocks first at k from = search rules

in_front : (blocks : Blocks) (first at block : ℕ) (from : List ℕ) → block < first → with_range blocks first at from block ≡ blocks block
in_front blocks first at block from lt = rw (outside first block lt) refl
  where
    outside : (first block : ℕ) → block < first → nat_le first block ≡ false
    outside first block lt = grind (arith, nat_tests)

bytes_same : (k at d e : ℕ) (from : List ℕ) (block : Option (List ℕ)) → ((bytes : List ℕ) → block ≡ Some bytes → length bytes ≡ 512) → d ≤ e → e ≤ length from
    → (512 * k + 512 ≤ at + d) ⊎ (at + e ≤ 512 * k) → with_bytes k at (take d from) block ≡ with_bytes k at (take e from) block
bytes_same k at d e from None long le few where_is = refl
bytes_same k at d e from (Some bytes) long le few where_is = ap Some (block_same k at d e from bytes (long bytes refl) le few where_is)

-- a block of which there are bytes now had some
pub record HadBytes (k at : ℕ) (from : List ℕ) (block : Option (List ℕ)) (now : List ℕ) : Type 0 where
  pub bytes : List ℕ
  pub is : block ≡ Some bytes
  pub now_is : now ≡ block_with k at from bytes

had_bytes : (k at : ℕ) (from : List ℕ) (block : Option (List ℕ)) (now : List ℕ) → with_bytes k at from block ≡ Some now → HadBytes k at from block now
had_bytes k at from None now is = absurd (none-some now is)
had_bytes k at from (Some bytes) now is = record { bytes = bytes; is = refl; now_is = sym (same_Some (block_with k at from bytes) now is) }

outside_done : (now : Blocks) (first b n k : ℕ) (r : Request) → (k < b) ⊎ (b + n ≤ k) → blocks_done now (first + b) r n (first + k) ≡ now (first + k)
outside_done now first b n k r where_is = search rules

front_done : (now : Blocks) (first b n block : ℕ) (r : Request) → block < first → blocks_done now (first + b) r n block ≡ now block
front_done now first b n block r lt = search rules

inside_done : (now : Blocks) (first b n k : ℕ) (r : Request) → is_some r.written ≡ true → b ≤ k → k < b + n → blocks_done now (first + b) r n (first + k) ≡ Some (sector_of_block r (k - b))
inside_done now first b n k r writes le lt = search rules

-- where a block of the partition lies
data Where (b n k : ℕ) : Type 0 where
  Outside : (k < b) ⊎ (b + n ≤ k) → Where b n k
  Inside : b ≤ k → k < b + n → Where b n k

where_lies : (b n k : ℕ) → Where b n k
where_lies b n k = search rules

module _ (blocks now : Blocks) (first at d e b n : ℕ) (from bytes : List ℕ) (r : Request)
    (long : (block : ℕ) (bytes : List ℕ) → blocks block ≡ Some bytes → length bytes ≡ 512)
    (so_far : (block : ℕ) → now block ≡ with_range blocks first at (take d from) block)
    (written : r.written ≡ Some bytes) (le : d ≤ e) (few : e ≤ length from)
    (begins : 512 * b ≤ at + d) (ends : at + e ≤ 512 * (b + n))
    (own : (k : ℕ) → b ≤ k → k < b + n → Some (sector_of_block r (k - b)) ≡ with_bytes k at (take e from) (blocks (first + k))) where
  at_block : (k : ℕ) → Where b n k → blocks_done now (first + b) r n (first + k) ≡ with_range blocks first at (take e from) (first + k)
  at_block k (Outside where_is) =
      outside_done now first b n k r where_is ∙ so_far (first + k) ∙ at_place blocks first at k (take d from)
      ∙ bytes_same k at d e from (blocks (first + k)) (long (first + k)) le few (lies where_is) ∙ sym (at_place blocks first at k (take e from))
    where
      lies : (k < b) ⊎ (b + n ≤ k) → (512 * k + 512 ≤ at + d) ⊎ (at + e ≤ 512 * k)
      lies (inl lt) = inl (omega (arith, lt, begins))
      lies (inr past) = inr (omega (arith, past, ends))
  at_block k (Inside from_b below) = inside_done now first b n k r (ap is_some written) from_b below ∙ own k from_b below ∙ sym (at_place blocks first at k (take e from))

  pub written_so : (block : ℕ) → blocks_done now (first + b) r n block ≡ with_range blocks first at (take e from) block
  written_so block = elim (leb_tells first block) [
    | inr below ↦ front_done now first b n block r below.1 ∙ so_far block ∙ in_front blocks first at block (take d from) below.1 ∙ sym (in_front blocks first at block (take e from) below.1)
    | inl above ↦ subst (λ z. blocks_done now (first + b) r n z ≡ with_range blocks first at (take e from) z) (back above.1) (at_block (block - first) (where_lies b n (block - first)))
  ]
    where
      back : first ≤ block → first + (block - first) ≡ block
      back le = omega (arith, le)

nothing : (block : Option (List ℕ)) → block ≡ None → IsSome block → ⊥
nothing None is some = search arith
nothing (Some bytes) is some = none-some bytes (sym is)

-- whole blocks, of which n were written
pub whole_written : (blocks now : Blocks) (first at d b c n : ℕ) (from piece : List ℕ) (r : Request) → AreWhole blocks
    → ((block : ℕ) → now block ≡ with_range blocks first at (take d from) block)
    → r.written ≡ Some piece → piece ≡ take (512 * c) (drop d from) → ((k : ℕ) → k < c → size_of_block r k ≡ 512) → n ≤ c → at + d ≡ 512 * b → d + 512 * c ≤ length from
    → ((k : ℕ) → k < n → IsSome (now (first + b + k)))
    → (block : ℕ) → blocks_done now (first + b) r n block ≡ with_range blocks first at (take (d + 512 * n) from) block
whole_written blocks now first at d b c n from piece r long so_far written is whole few begins room usable =
    written_so blocks now first at d (d + 512 * n) b n from piece r long so_far written (omega arith) (omega (arith, few, room)) (omega (arith, begins)) (omega (arith, begins)) own
  where
    some_had : (k : ℕ) → (block now_is : Option (List ℕ)) → now_is ≡ with_bytes k at (take d from) block → IsSome now_is → (old : List ℕ) × (block ≡ Some old)
    some_had k None now_is e some = absurd (nothing now_is e some)
    some_had k (Some old) now_is e some = (old, refl)

    piece_from : (j : ℕ) → j < c → take 512 (drop (512 * j) piece) ≡ take 512 (drop (d + 512 * j) from)
    piece_from j lt =
        let within : 512 * j ≤ 512 * c = omega (arith, lt) in
        let room_in : 512 ≤ 512 * c - 512 * j = omega (arith, lt) in
        ap (λ zs. take 512 (drop (512 * j) zs)) is
        ∙ ap (take 512) (front_of (512 * j) (512 * c) (drop d from) within)
        ∙ take-take 512 (512 * c - 512 * j) (drop (512 * j) (drop d from)) room_in
        ∙ ap (take 512) (drop-drop (512 * j) d from)

    size_of_piece : length piece ≡ 512 * c
    size_of_piece =
        let rest : length (drop d from) ≡ length from - d = length-drop d from in
        ap length is ∙ length-take-le (512 * c) (drop d from) (omega (arith, rest, room))

    own : (k : ℕ) → b ≤ k → k < b + n → Some (sector_of_block r (k - b)) ≡ with_bytes k at (take (d + 512 * n) from) (blocks (first + k))
    own k from_b below =
        let j_lt : k - b < c = omega (arith, from_b, below, few) in
        let j_in : k - b < n = omega (arith, from_b, below) in
        let place : first + b + (k - b) ≡ first + k = omega (arith, from_b) in
        let had : (old : List ℕ) × (blocks (first + k) ≡ Some old) = some_had k (blocks (first + k)) (now (first + k)) (so_far (first + k) ∙ at_place blocks first at k (take d from))
        (subst (λ z. IsSome (now z)) place (usable (k - b) j_in)) in
        let off : 512 * k - at ≡ d + 512 * (k - b) = omega (arith, begins, from_b) in
        let in_piece : 512 * (k - b) + 512 ≤ length piece = omega (arith, size_of_piece, j_lt) in
        ap Some (sector_whole r (k - b) piece written (whole (k - b) j_lt) in_piece
        ∙ piece_from (k - b) j_lt ∙ ap (λ z. take 512 (drop z from)) (sym off)
        ∙ sym (block_whole k at (d + 512 * n) from had.0 (long (first + k) had.0 had.1) (omega (arith, begins, from_b)) (omega (arith, begins, below)) (omega (arith, few, room))))
        ∙ ap (with_bytes k at (take (d + 512 * n) from)) (sym had.1)

-- a block that is covered in part, written back whole
pub edge_written : (blocks now : Blocks) (first at d b skip size : ℕ) (from content buffer : List ℕ) (r : Request) → AreWhole blocks
    → ((block : ℕ) → now block ≡ with_range blocks first at (take d from) block)
    → r.written ≡ Some buffer → size_of_block r 0 ≡ 512 → length buffer ≡ 512 → now (first + b) ≡ Some content → buffer ≡ laid_at skip (take size (drop d from)) content
    → at + d ≡ 512 * b + skip → (d ≡ 0) ⊎ (skip ≡ 0) → skip + size ≤ 512 → d + size ≤ length from
    → (block : ℕ) → blocks_done now (first + b) r 1 block ≡ with_range blocks first at (take (d + size) from) block
edge_written blocks now first at d b skip size from content buffer r long so_far written whole full now_is merged begins either fits room =
    written_so blocks now first at d (d + size) b 1 from buffer r long so_far written (omega arith) room (omega (arith, begins)) (omega (arith, begins, fits)) own
  where
    had : HadBytes b at (take d from) (blocks (first + b)) content
    had = had_bytes b at (take d from) (blocks (first + b)) content (sym (so_far (first + b) ∙ at_place blocks first at b (take d from)) ∙ now_is)

    own : (k : ℕ) → b ≤ k → k < b + 1 → Some (sector_of_block r (k - b)) ≡ with_bytes k at (take (d + size) from) (blocks (first + k))
    own k from_b below =
        let same : k ≡ b = omega (arith, from_b, below) in
        let none : b - b ≡ 0 = omega arith in
        ap (λ z. Some (sector_of_block r (z - b))) same
        ∙ ap (λ z. Some (sector_of_block r z)) none
        ∙ ap Some (sector_whole r 0 buffer written whole (omega (arith, full)) ∙ take_all 512 (drop (512 * 0) buffer) (omega (arith, full)) ∙ merged
        ∙ ap (λ zs. laid_at skip (take size (drop d from)) zs) had.now_is
        ∙ sym (block_edge b at d size skip from had.bytes begins either room))
        ∙ ap (with_bytes b at (take (d + size) from)) (sym had.is)
        ∙ ap (λ z. with_bytes z at (take (d + size) from) (blocks (first + z))) (sym same)

-- ---- no bytes replaced, and what can be used stays so
pub none_replaced : (blocks : Blocks) (first at block : ℕ) → with_range blocks first at [] block ≡ blocks block
none_replaced blocks first at block = search (rules, nat_le, drop_all, laid_at_none)

pub had_some : (blocks : Blocks) (first at block : ℕ) (from : List ℕ) → IsSome (with_range blocks first at from block) → IsSome (blocks block)
had_some blocks first at block from h0 = search rules

pub had_none : (blocks : Blocks) (first at block : ℕ) (from : List ℕ) → with_range blocks first at from block ≡ None → blocks block ≡ None
had_none blocks first at block from h0 = search rules
