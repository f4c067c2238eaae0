-- How far pieces of a range come, one behind the other.
use Rattle.std.proofs.Common.{◌≡◌, ◌≢◌, ◌⊎◌, inl, inr, ℕ, ◌+◌, ◌-◌, ◌*◌, ◌/◌, ◌%◌, ◌<◌, ◌≤◌, sym, ap, ◌∙◌, subst, arith, rules}
use Rattle.std.specs.Prelude.{min, IsSome}
use Rattle.std.proofs.lemmas.Bool.Decides.{eqb_tells}
use Rattle.driver_laws.specs.rules.Machine.{Blocks}
use Rattle.driver_laws.specs.rules.Bytes.{Touches, ComesTo}
use Rattle.driver_laws.specs.rules.Pieces.{EndsBlock, Reaches, bytes_among}

-- ---- the bytes in the first blocks of a piece

pub some_among : (n skip size : ℕ) → 0 < n → bytes_among n skip size ≡ min (512 * n - skip) size
some_among n skip size some = search rules

-- all of them, or fewer
pub all_among : (n skip size : ℕ) → 0 < size → skip + size ≤ 512 * n → bytes_among n skip size ≡ size
all_among n skip size some fits = search rules

pub fewer_among : (n c skip size : ℕ) → 0 < n → n < c → 512 * c < skip + size + 512 → bytes_among n skip size ≡ 512 * n - skip
fewer_among n c skip size some less ends = search rules

pub among_less : (n c skip size : ℕ) → 0 < size → skip < 512 → n < c → 512 * c < skip + size + 512 → bytes_among n skip size < size
among_less n c skip size some in_block less ends = search rules

pub among_fits : (n skip size : ℕ) → skip < 512 → 0 < n → skip + bytes_among n skip size ≤ 512 * n
among_fits n skip size in_block some = search rules

pub among_few : (n skip size : ℕ) → bytes_among n skip size ≤ size
among_few n skip size = search rules

-- ---- SO FAR all blocks that were touched can be used, and the last one is whole
pub record SoFar (blocks : Blocks) (first at size done : ℕ) : Type 0 where
  pub usable : (k : ℕ) → Touches at done k → IsSome (blocks (first + k))
  pub whole : EndsBlock at size done

pub starts_so : (blocks : Blocks) (first at size : ℕ) → SoFar blocks first at size 0
starts_so blocks first at size = search rules

pub comes_whole : (blocks : Blocks) (first at size : ℕ) → SoFar blocks first at size size → ComesTo blocks first at size size
comes_whole blocks first at size so = record { few = omega arith; usable = so.usable; ends = λ lt. absurd (omega (arith, lt)); whole = λ lt. absurd (omega (arith, lt)) }

-- the next piece: it begins at a block, or at the front of the range
pub record IsNext (at size d b c skip piece : ℕ) : Type 0 where
  pub begins : at + d ≡ 512 * b + skip
  pub skip_less : skip < 512
  pub some : 0 < piece
  pub fits : skip + piece ≤ 512 * c
  pub ends : 512 * c < skip + piece + 512
  pub inside : d + piece ≤ size
  pub whole : (d + piece ≡ size) ⊎ (skip + piece ≡ 512 * c)

pub front_or_aligned : (blocks : Blocks) (first at size d b c skip piece : ℕ) → SoFar blocks first at size d → IsNext at size d b c skip piece → (d ≡ 0) ⊎ (skip ≡ 0)
front_or_aligned blocks first at size d b c skip piece so next = search rules

module _ (blocks : Blocks) (first at size d b c skip piece n : ℕ) (so : SoFar blocks first at size d) (next : IsNext at size d b c skip piece) (r : Reaches blocks (first + b) c n) (few : n ≤ c) where
  at_front : (d ≡ 0) ⊎ (skip ≡ 0)
  at_front = front_or_aligned blocks first at size d b c skip piece so next

  own : (k e : ℕ) → b ≤ k → k < b + n → IsSome (blocks (first + k))
  own k e from below =
      let place : first + b + (k - b) ≡ first + k = omega (arith, from) in
      subst (λ z. IsSome (blocks z)) place (r.usable (k - b) (omega (arith, from, below)))

  -- a block that more bytes touch was touched before, or is one of the piece
  pub touched_in : (e : ℕ) → d ≤ e → at + e ≤ 512 * (b + n) → (k : ℕ) → Touches at e k → Touches at d k ⊎ ((b ≤ k) × (k < b + n))
  touched_in e le ends k touched = search rules

  pub touched_among : (k : ℕ) → Touches at (d + bytes_among n skip piece) k → Touches at d k ⊎ ((b ≤ k) × (k < b + n))
  touched_among k touched = search rules

  more : (e : ℕ) → d ≤ e → at + e ≤ 512 * (b + n) → (k : ℕ) → Touches at e k → IsSome (blocks (first + k))
  more e le ends k touched = by (touched_in e le ends k touched)
    where
      by : Touches at d k ⊎ ((b ≤ k) × (k < b + n)) → IsSome (blocks (first + k))
      by (inl before) = so.usable k before
      by (inr here) = own k e here.0 here.1

  pub so_more : n ≡ c → SoFar blocks first at size (d + piece)
  so_more all =
      let begins = next.begins in
      let fits = next.fits in
      record {
        usable = more (d + piece) (omega arith) (omega (arith, begins, fits, all));
        whole = by next.whole;
      }
    where
      by : (d + piece ≡ size) ⊎ (skip + piece ≡ 512 * c) → EndsBlock at size (d + piece)
      by (inl end) = inr (inl end)
      by (inr full) = let begins = next.begins in inr (inr (omega (arith, begins, full)))

  pub comes_to : n < c → ComesTo blocks first at size (d + bytes_among n skip piece)
  comes_to less = elim (eqb_tells n 0) [
    | inl none ↦ subst (λ z. ComesTo blocks first at size (d + bytes_among z skip piece)) (sym none.1) (at_once none.1)
    | inr other ↦ subst (λ z. ComesTo blocks first at size (d + z)) (sym (fewer_among n c skip piece (above n other.1) less next.ends)) (behind (above n other.1))
  ]
    where
      above : (n : ℕ) → n ≢ 0 → 0 < n
      above n ne = grind (arith, ne)

      at_once : n ≡ 0 → ComesTo blocks first at size (d + 0)
      at_once none =
          let begins = next.begins in
          let inside = next.inside in
          let in_block = next.skip_less in
          let some = next.some in
          let block : (at + (d + 0)) / 512 ≡ b = omega (arith, begins, in_block) in
          let here : first + b + n ≡ first + (at + (d + 0)) / 512 = omega (arith, none, block) in
          record {
            few = omega (arith, inside);
            usable = λ k touched. so.usable k (subst (λ z. Touches at z k) (nothing d) touched);
            ends = λ lt. ap blocks (sym here) ∙ r.ends less;
            whole = λ lt. by at_front;
          }
        where
          nothing : (x : ℕ) → x + 0 ≡ x
          nothing x = omega arith

          by : (d ≡ 0) ⊎ (skip ≡ 0) → (d + 0 ≡ 0) ⊎ ((at + (d + 0)) % 512 ≡ 0)
          by (inl front) = inl (omega (arith, front))
          by (inr aligned) = let begins = next.begins in inr (omega (arith, aligned, begins))

      behind : 0 < n → ComesTo blocks first at size (d + (512 * n - skip))
      behind some_n =
          let begins = next.begins in
          let inside = next.inside in
          let in_block = next.skip_less in
          let ends_c = next.ends in
          let place : at + (d + (512 * n - skip)) ≡ 512 * (b + n) = omega (arith, begins, in_block, some_n) in
          let block : (at + (d + (512 * n - skip))) / 512 ≡ b + n = omega (arith, place) in
          let here : first + b + n ≡ first + (at + (d + (512 * n - skip))) / 512 = omega (arith, block) in
          record {
            few = omega (arith, inside, ends_c, less);
            usable = more (d + (512 * n - skip)) (omega arith) (omega (arith, place));
            ends = λ lt. ap blocks (sym here) ∙ r.ends less;
            whole = λ lt. inr (omega (arith, place));
          }
