-- What a write of one block leaves in a map.
use Rattle.std.proofs.Common.{◌≡◌, ◌≢◌, ◌⊎◌, inl, inr, ℕ, ◌<◌, ◌≤◌, ◌+◌, ◌*◌, ◌==◌, ◌&&◌, Bool, true, false, List, [], ◌∷◌, length, take, Option, None, Some, refl, sym, ap, ◌∙◌, subst, arith}
use Rattle.std.specs.Prelude.{IsSome, if◌then◌else◌}
use Rattle.std.proofs.lemmas.Bool.{eq-eqb, ne_eqb}
use Rattle.std.proofs.lemmas.Bool.Decides.{eqb_tells}
use Rattle.pack_geometry.specs.declared.DriveKind.{DriveKind}
use Rattle.pack_geometry.specs.declared.DriveKind.TheVariants.{Rp06}
use Rattle.pack_geometry.specs.Geometry.{limit_of}
use Rattle.partitions.specs.declared.Part.TheVariants.{C}
use Rattle.partitions.specs.Partitions.{first_of, size_of}
use Rattle.trace_replay.specs.Packs.{sector_of_block}
use Rattle.driver_laws.specs.rules.Machine.{Blocks, bytes_or_none, blocks_done, bytes_of_first}
use Rattle.driver_laws.proofs.rules.Blocks.{begun_blocks, block_done, other_blocks}
use Rattle.driver_laws.specs.rules.Pieces.{Reaches}
use Rattle.driver_laws.specs.rules.Laid.{laid}
use Rattle.driver_laws.proofs.rules.Ranges.{laid_long}
use Rattle.driver_laws.proofs.rules.Replaced.{sector_whole}
use Rattle.driver_machine.specs.World.{World}
use Rattle.blocking_io.specs.Blocks.{AreBlocks}
use Rattle.blocking_io.specs.Sites.{kind_at}
use Rattle.driver_laws.specs.rules.Requests.{one_block, reads, writes, Map, written_over, behind_one}
use Rattle.buffer_cache.specs.Asks.{IsData, found_bytes}

-- ---- partition `c` is all data blocks
pub first_c : (kind : DriveKind) → first_of kind C ≡ 0
first_c Rp06 = refl
first_c other = refl

size_c : (kind : DriveKind) → size_of kind C ≡ limit_of kind
size_c Rp06 = refl
size_c other = refl

pub are_blocks : (w : World) (unit block : ℕ) (written : Option (List ℕ)) → IsData w unit block → AreBlocks (kind_at w unit) (one_block unit block written)
are_blocks w unit block written d = record {
  id = refl;
  some = omega arith;
  few = omega arith;
  last = refl;
  offset = refl;
  inside = subst (λ n. block + 1 ≤ n) (sym (size_c (kind_at w unit))) (let lt = d.inside in more block (limit_of (kind_at w unit)) lt);
}
  where
    more : (a b : ℕ) → a < b → a + 1 ≤ b
    more a b lt = omega (arith, lt)

-- ---- a map at one block, and at the others
own_block : (u b unit block : ℕ) (x y : Option (List ℕ)) → u ≡ unit → b ≡ block → (if (u == unit) && (b == block) then x else y) ≡ x
own_block u b unit block x y e f = rw (eq-eqb u unit e, eq-eqb b block f) refl

and_false : (w : Bool) → w && false ≡ false
and_false true = refl
and_false false = refl

other_block : (u b unit block : ℕ) (x y : Option (List ℕ)) → b ≢ block → (if (u == unit) && (b == block) then x else y) ≡ y
other_block u b unit block x y ne = rw (ne_eqb b block ne, and_false (u == unit)) refl

pub other_unit : (u b unit block : ℕ) (x y : Option (List ℕ)) → u ≢ unit → (if (u == unit) && (b == block) then x else y) ≡ y
other_unit u b unit block x y ne = rw (ne_eqb u unit ne) refl

-- ---- a write
all_taken : (n : ℕ) (bytes : List ℕ) → length bytes ≡ n → take n bytes ≡ bytes
all_taken n bytes long = subst (λ k. take k bytes ≡ bytes) long (whole bytes)
  where
    whole : (xs : List ℕ) → take (length xs) xs ≡ xs
    whole [] = refl
    whole (x ∷ xs) = ap (λ zs. x ∷ zs) (whole xs)

over_some : (bytes : List ℕ) (held : Option (List ℕ)) → IsSome held → written_over (Some bytes) held ≡ Some bytes
over_some bytes None some = absurd (search arith)
over_some bytes (Some old) some = refl

over_unusable : (bytes : List ℕ) (held : Option (List ℕ)) → held ≡ None → written_over (Some bytes) held ≡ held
over_unusable bytes None none = refl
over_unusable bytes (Some old) none = absurd (never none)
  where
    never : Some old ≡ None → ⊥
    never e = cc

module _ (map : Map) (unit block : ℕ) (bytes : List ℕ) (long : length bytes ≡ 512) where
  sector : sector_of_block (writes unit block bytes) 0 ≡ bytes
  sector = sector_whole (writes unit block bytes) 0 bytes refl refl (enough (length bytes) long) ∙ all_taken 512 bytes long
    where
      enough : (n : ℕ) → n ≡ 512 → 512 * 0 + 512 ≤ n
      enough n e = omega (arith, e)

  done_one : (first b : ℕ) → first ≡ block → IsSome (map unit block) → blocks_done (map unit) first (writes unit block bytes) (0 + 1) b ≡ behind_one map (writes unit block bytes) unit b
  done_one first b here usable = elim (eqb_tells b (first + 0)) [
    | inl same ↦ ap (blocks_done (map unit) first (writes unit block bytes) (0 + 1)) same.1 ∙ block_done (map unit) first (writes unit block bytes) 0 refl ∙ ap Some sector
        ∙ sym (own_block unit b unit block (written_over (Some bytes) (map unit b)) (map unit b) refl (at b first block same.1 here)
        ∙ over_some bytes (map unit b) (subst (λ n. IsSome (map unit n)) (sym (at b first block same.1 here)) usable))
    | inr other ↦ other_blocks (map unit) first (writes unit block bytes) 0 b other.1 ∙ begun_blocks (map unit) first (writes unit block bytes) b
        ∙ sym (other_block unit b unit block (written_over (Some bytes) (map unit b)) (map unit b) (away b first block other.1 here))
  ]
    where
      at : (b first block : ℕ) → b ≡ first + 0 → first ≡ block → b ≡ block
      at b first block e f = omega (arith, e, f)

      away : (b first block : ℕ) → b ≢ first + 0 → first ≡ block → b ≢ block
      away b first block ne f = grind (arith, ne, f)

  done_none : (first b : ℕ) → map unit block ≡ None → blocks_done (map unit) first (writes unit block bytes) 0 b ≡ behind_one map (writes unit block bytes) unit b
  done_none first b none = begun_blocks (map unit) first (writes unit block bytes) b ∙ sym (elim (eqb_tells b block) [
    | inl same ↦ own_block unit b unit block (written_over (Some bytes) (map unit b)) (map unit b) refl same.1
        ∙ over_unusable bytes (map unit b) (ap (map unit) same.1 ∙ none)
    | inr other ↦ other_block unit b unit block (written_over (Some bytes) (map unit b)) (map unit b) other.1
  ])

  -- all of it, where it was answered
  pub write_one : (first n : ℕ) → first ≡ block → n ≤ 1 → Reaches (map unit) first 1 n → (b : ℕ) → blocks_done (map unit) first (writes unit block bytes) n b ≡ behind_one map (writes unit block bytes) unit b
  write_one first n here few r b = elim (eqb_tells n 0) [
    | inl none ↦ subst (λ k. blocks_done (map unit) first (writes unit block bytes) k b ≡ behind_one map (writes unit block bytes) unit b) (sym none.1)
        (done_none first b (ap (map unit) (sym (at first n block here none.1)) ∙ r.ends (below n none.1)))
    | inr some ↦ subst (λ k. blocks_done (map unit) first (writes unit block bytes) k b ≡ behind_one map (writes unit block bytes) unit b) (sym (one n few some.1))
        (done_one first b here (subst (λ k. IsSome (map unit k)) (at first 0 block here refl) (r.usable 0 (above n some.1))))
  ]
    where
      at : (first n block : ℕ) → first ≡ block → n ≡ 0 → first + n ≡ block
      at first n block e f = omega (arith, e, f)

      below : (n : ℕ) → n ≡ 0 → n < 1
      below n e = omega (arith, e)

      one : (n : ℕ) → n ≤ 1 → n ≢ 0 → n ≡ 0 + 1
      one n few ne = grind (arith, few, ne)

      above : (n : ℕ) → n ≢ 0 → 0 < n
      above n ne = grind (arith, ne)

  -- nothing or all, where it stopped
  pub stop_one : (first n : ℕ) → first ≡ block → n ≤ 1 → ((k : ℕ) → k < n → IsSome (map unit (first + k)))
      → ((b : ℕ) → blocks_done (map unit) first (writes unit block bytes) n b ≡ map unit b) ⊎ ((b : ℕ) → blocks_done (map unit) first (writes unit block bytes) n b ≡ behind_one map (writes unit block bytes) unit b)
  stop_one first n here few usable = elim (eqb_tells n 0) [
    | inl none ↦ inl (λ b. subst (λ k. blocks_done (map unit) first (writes unit block bytes) k b ≡ map unit b) (sym none.1) (begun_blocks (map unit) first (writes unit block bytes) b))
    | inr some ↦ inr (λ b. subst (λ k. blocks_done (map unit) first (writes unit block bytes) k b ≡ behind_one map (writes unit block bytes) unit b) (sym (one n few some.1))
        (done_one first b here (subst (λ k. IsSome (map unit k)) (at first block here) (usable 0 (above n some.1)))))
  ]
    where
      at : (first block : ℕ) → first ≡ block → first + 0 ≡ block
      at first block e = omega (arith, e)

      one : (n : ℕ) → n ≤ 1 → n ≢ 0 → n ≡ 0 + 1
      one n few ne = grind (arith, few, ne)

      above : (n : ℕ) → n ≢ 0 → 0 < n
      above n ne = grind (arith, ne)

-- ---- a read
unusable : (o : Option (List ℕ)) → o ≡ None → IsSome o → ⊥
unusable None none some = search arith
unusable (Some bytes) none some = cc

pub read_one : (held : Blocks) (unit block first n : ℕ) (found : Bool) (into into' : List ℕ) → first ≡ block → n ≡ (if found then 1 else 0) → length into ≡ 512
    → ((bytes : List ℕ) → held block ≡ Some bytes → length bytes ≡ 512) → Reaches held first 1 n
    → (n ≡ 1 → into' ≡ laid (bytes_of_first 1 held first (reads unit block)) into) → held block ≡ found_bytes found into'
read_one held unit block first n false into into' here is room long r all = ap held (sym (at first n block here is)) ∙ r.ends (below n is)
  where
    at : (first n block : ℕ) → first ≡ block → n ≡ 0 → first + n ≡ block
    at first n block e f = omega (arith, e, f)

    below : (n : ℕ) → n ≡ 0 → n < 1
    below n e = omega (arith, e)
read_one held unit block first n true into into' here is room long r all = by (held block) refl
  where
    at : (first block : ℕ) → first ≡ block → first + 0 ≡ block
    at first block e = omega (arith, e)

    above : (n : ℕ) → n ≡ 1 → 0 < n
    above n e = omega (arith, e)

    taken : (content : List ℕ) → length content ≡ 512 → laid (take 512 content) into ≡ content
    taken content size = ap (λ zs. laid zs into) (all_taken 512 content size) ∙ laid_long content into (fits (length into) (length content) room size)
        ∙ ap (λ n. take n content) room ∙ all_taken 512 content size
      where
        fits : (a b : ℕ) → a ≡ 512 → b ≡ 512 → a ≤ b
        fits a b e f = omega (arith, e, f)

    by : (content : Option (List ℕ)) → held block ≡ content → content ≡ Some into'
    by None none = absurd (unusable (held (first + 0)) (ap held (at first block here) ∙ none) (r.usable 0 (above n is)))
    by (Some content) some = ap Some (sym (all is ∙ ap (λ zs. laid (take 512 (bytes_or_none zs)) into) (ap held (at first block here) ∙ some) ∙ taken content (long content some)))
