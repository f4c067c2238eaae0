-- Laws of bytes that are all one byte, and of what is known of frames.
use Rattle.std.proofs.Common.{◌≡◌, ◌≢◌, ℕ, ◌+◌, ◌-◌, ◌*◌, ◌<◌, ◌≤◌, ◌==◌, nat_eq, nat_lt, Bool, true, List, [], ◌∷◌, ◌++◌, length, get_or, slice_index, IfSome, IsSomeAnd, Option, Some, None, false, if◌then◌else◌, refl, sym, ap, ◌∙◌, subst, inl, inr, arith}
use Rattle.std.proofs.Common.{get_or-set_same, get_or-set_other, ◌↔◌, bit_or, below_more, eq-eqb, IsTrue}
use Rattle.std.proofs.Math.ListN.{set, length-set}
use Rattle.std.proofs.lemmas.Bool.{eqb-true, eqb-false, ltb-true, ltb-false}
use Rattle.std.proofs.lemmas.Grind.{same_number_lists}
use Rattle.std.proofs.lemmas.List.{length-replicate, get_or-replicate, get_or_past, get_or_default, get_or_append_left, get_or-append_right}
use Rattle.std.proofs.lemmas.Nat.{le_or_l, le_or_r, and_le_l, and_le_r}
use lib.Bits.{bit_xor}
use Rattle.std.specs.Option.{option_eq}
use Rattle.std.specs.Int.Bits.{xor_add_and, xor_self}
use Rattle.main_memory.specs.Bytes.{with_part, IsFill, AreFills}
use Rattle.main_memory.specs.Blocks.{IsSpan, bytes_in, in_next, place_in}
use Rattle.main_memory.specs.declared.span.Span.{Span}
use Rattle.main_memory.proofs.FrameLaws.{by_test}
use Rattle.main_memory.proofs.ByteLaws.{length-with_part, get_or-with_part-inside, get_or-with_part-outside}
use Rattle.main_memory.proofs.BlockLaws.{length-bytes_in, get_or-bytes_in}

-- each byte of such bytes is that byte
pub fill_at : (byte : ℕ) (bytes : List ℕ) (k : ℕ) → IsFill byte bytes → k < length bytes → get_or bytes k 0 ≡ byte
fill_at byte bytes k is small = ap (λ (xs : List ℕ). get_or xs k 0) is ∙ get_or-replicate (length bytes) k byte 0 small

pub fill_each : (byte : ℕ) (bytes : List ℕ) → ((k : ℕ) → k < length bytes → get_or bytes k 0 ≡ byte) → IsFill byte bytes
fill_each byte bytes each =
    same_number_lists _ _ (sym (length-replicate (length bytes) byte)) (λ k h. each k h ∙ sym (get_or-replicate (length bytes) k byte 0 h))

-- bits in which no number differs
or_none : (a b : ℕ) → bit_or a b ≡ 0 → (a ≡ 0) × (b ≡ 0)
or_none a b e = (omega (arith, le_or_l a b, e), omega (arith, le_or_r a b, e))

xor_none : (a b : ℕ) → bit_xor a b ≡ 0 → a ≡ b
xor_none a b e = omega (arith, xor_add_and a b, and_le_l a b, and_le_r a b, e)

-- whether the bytes so far are one byte, with one more of them
pub one_more_same : (differ first i : ℕ) (bytes : List ℕ) → (differ ≡ 0) ↔ ((k : ℕ) → k < i → get_or bytes k 0 ≡ first)
    → (bit_or differ (bit_xor (get_or bytes i 0) first) ≡ 0) ↔ ((k : ℕ) → k < i + 1 → get_or bytes k 0 ≡ first)
one_more_same differ first i bytes before = (
  λ e. let parts = or_none differ (bit_xor (get_or bytes i 0) first) e in below_more _ _ (before.0 parts.0) (xor_none _ _ parts.1),
  λ each.
      let none : differ ≡ 0 = before.1 (λ k h. each k (omega arith)) in
      let same : get_or bytes i 0 ≡ first = each i (omega arith) in
      rw (none, same, xor_self) refl,
)

-- and with all of them
pub all_same : (differ i : ℕ) (bytes : List ℕ) → i ≡ length bytes → 1 ≤ length bytes → (differ ≡ 0) ↔ ((k : ℕ) → k < i → get_or bytes k 0 ≡ get_or bytes 0 0)
    → IsTrue (nat_eq differ 0) ↔ IsFill (slice_index bytes 0) bytes
all_same differ i bytes end some all = (
  λ yes. fill_each (get_or bytes 0 0) bytes (λ k h. all.0 (eqb-true differ 0 yes) k (omega (arith, end, h))),
  λ fill. eq-eqb differ 0 (all.1 (λ k h. fill_at (get_or bytes 0 0) bytes k fill (omega (arith, end, h)))),
)

-- what is written is there
pub with_part-same : (at : ℕ) (new bytes : List ℕ) → at + length new ≤ length bytes → ((k : ℕ) → k < length new → get_or bytes (at + k) 0 ≡ get_or new k 0)
    → bytes ≡ with_part at new bytes
with_part-same at new bytes fits each =
    same_number_lists _ _ (sym (length-with_part at new bytes fits)) (λ i h.
    by_test (nat_lt i at)
    (λ before. sym (get_or-with_part-outside at new bytes i (omega arith) (inl (ltb-true _ _ before))))
    (λ from. by_test (nat_lt i (at + length new))
    (λ inside. let low : at ≤ i = ltb-false _ _ from in
    let high : i < at + length new = ltb-true _ _ inside in
    let back : at + (i - at) ≡ i = omega arith in
    sym (ap (λ (j : ℕ). get_or bytes j 0) back) ∙ each (i - at) (omega arith) ∙ sym (get_or-with_part-inside at new bytes i (omega arith) low high))
    (λ past. sym (get_or-with_part-outside at new bytes i (omega arith) (inr (ltb-false _ _ past))))))

-- what a value that is there is
the_same : {x y : ℕ} → Some x ≡ Some y → x ≡ y
the_same e = grind arith

pub none_some : {X : Type 0} {byte : ℕ} → None ≡ Some byte → X
none_some e = absurd (grind (arith, e))

-- what is known of one more frame
pub one_more : {n : ℕ} (fills : List (Option ℕ)) (frame : ℕ) → length fills ≡ n → ((f : ℕ) → f < n → get_or fills f None ≡ Some 0) → frame < n + 1
    → get_or (fills ++ Some 0 ∷ []) frame None ≡ Some 0
one_more {n} fills frame long each small =
    by_test (nat_lt frame n)
    (λ before. let less : frame < n = ltb-true _ _ before in get_or_append_left fills (Some 0 ∷ []) None frame (omega (arith, long, less)) ∙ each frame less)
    (λ last. let none : frame - n ≡ 0 = omega (arith, ltb-false _ _ last, small) in
    get_or-append_right fills (Some 0 ∷ []) n frame None long (ltb-false _ _ last) ∙ ap (λ (i : ℕ). get_or (Some 0 ∷ []) i None) none)

-- zeros are zeros in each frame
pub fills_of_zeros : (fills : List (Option ℕ)) (bytes : List ℕ) → length fills ≡ 16384 → ((frame : ℕ) → frame < 16384 → get_or fills frame None ≡ Some 0)
    → length bytes ≡ 8388608 → ((place : ℕ) → get_or bytes place 0 ≡ 0) → AreFills fills bytes
fills_of_zeros fills bytes frames are size zeros = record {
  frames = frames;
  size = size;
  all = λ frame byte k is small. zeros (512 * frame + k) ∙ by_test (nat_lt frame 16384)
      (λ inside. the_same (sym (are frame (ltb-true _ _ inside)) ∙ is))
      (λ past. none_some (sym (get_or_past fills frame None (omega (arith, frames, ltb-false _ _ past))) ∙ is));
}

-- a write in a frame
module _ (fills : List (Option ℕ)) (bytes from : List ℕ) (frame offset : ℕ) (fill : Option ℕ)
    (are : AreFills fills bytes) (small : frame < 16384) (inside : offset + length from ≤ 512)
    (whole : (byte : ℕ) → fill ≡ Some byte → (length from ≡ 512) × IsFill byte from) where
  abbrev pub start : ℕ
  start = 512 * frame + offset

  fits : start + length from ≤ length bytes
  fits = omega (arith, are.size, small, inside)

  in_it : (byte k : ℕ) → fill ≡ Some byte → k < 512 → get_or (with_part start from bytes) (512 * frame + k) 0 ≡ byte
  in_it byte k is few =
      let all = whole byte is in
      let back : (512 * frame + k) - start ≡ k = omega (arith, all.0, inside) in
      get_or-with_part-inside start from bytes (512 * frame + k) (omega (arith, fits)) (omega (arith, all.0, inside)) (omega (arith, all.0, inside))
      ∙ ap (λ (j : ℕ). get_or from j 0) back ∙ fill_at byte from k all.1 (omega (arith, all.0))

  out_of_it : (other byte k : ℕ) → other ≢ frame → get_or fills other None ≡ Some byte → k < 512 → get_or (with_part start from bytes) (512 * other + k) 0 ≡ byte
  out_of_it other byte k ne is few =
      get_or-with_part-outside start from bytes (512 * other + k) (omega (arith, fits))
      (by_test (nat_lt other frame)
      (λ below. let less : other < frame = ltb-true _ _ below in inl (omega (arith, less)))
      (λ above. let more : frame < other = omega (arith, ltb-false _ _ above, ne) in inr (omega (arith, more, inside))))
      ∙ are.all other byte k is few

  pub fills_put : AreFills (set fills frame fill) (with_part start from bytes)
  fills_put = record {
    frames = length-set fills frame fill ∙ are.frames;
    size = length-with_part start from bytes fits ∙ are.size;
    all = λ other byte k is few. by_test (other == frame)
        (λ same. let e : other ≡ frame = eqb-true _ _ same in
        ap (λ (f : ℕ). get_or (with_part start from bytes) (512 * f + k) 0) e
        ∙ in_it byte k (sym (ap (λ (f : ℕ). get_or (set fills frame fill) f None) e ∙ get_or-set_same fills frame fill None (omega (arith, are.frames, small))) ∙ is) few)
        (λ apart. let ne : other ≢ frame = eqb-false _ _ apart in
        out_of_it other byte k ne (sym (get_or-set_other fills frame other fill None ne) ∙ is) few);
  }

-- a write of a whole frame
pub fills_put_whole : (fills : List (Option ℕ)) (bytes from : List ℕ) (frame : ℕ) (fill : Option ℕ) → AreFills fills bytes → frame < 16384 → length from ≡ 512
    → ((byte : ℕ) → fill ≡ Some byte → IsFill byte from) → AreFills (set fills frame fill) (with_part (512 * frame) from bytes)
fills_put_whole fills bytes from frame fill are small whole told =
    let start : 512 * frame + 0 ≡ 512 * frame = omega arith in
    subst (λ (at : ℕ). AreFills (set fills frame fill) (with_part at from bytes)) start
    (fills_put fills bytes from frame 0 fill are small (omega (arith, whole)) (λ byte is. (whole, told byte is)))

-- the bytes of a span whose frames are all one byte
pub fill_in : (span : Span) (byte : ℕ) (bytes : List ℕ) → IsSpan span → length bytes ≡ 8388608 → ((k : ℕ) → k < 512 → get_or bytes (512 * span.frame + k) 0 ≡ byte)
    → (0 < in_next span → (k : ℕ) → k < 512 → get_or bytes (512 * span.next + k) 0 ≡ byte) → IsFill byte (bytes_in span bytes)
fill_in span byte bytes is size first second =
    fill_each byte (bytes_in span bytes) (λ k h.
    let small : k < span.len = omega (arith, h, length-bytes_in span bytes is size) in
    sym (get_or-bytes_in span bytes k is size small) ∙ by_place_in k small)
  where
    at_place : (k : ℕ) (test : Bool) → nat_lt k (512 - span.offset) ≡ test → k < span.len
        → get_or bytes (if test then 512 * span.frame + span.offset + k else 512 * span.next + (k - (512 - span.offset))) 0 ≡ byte
    at_place k true e small =
        let there : 512 * span.frame + span.offset + k ≡ 512 * span.frame + (span.offset + k) = omega arith in
        ap (λ (j : ℕ). get_or bytes j 0) there ∙ first (span.offset + k) (omega (arith, ltb-true _ _ e))
    at_place k false e small =
        second (omega (arith, ltb-false _ _ e, small)) (k - (512 - span.offset)) (omega (arith, is.few, small))

    by_place_in : (k : ℕ) → k < span.len → get_or bytes (place_in span k) 0 ≡ byte
    by_place_in k small = at_place k (nat_lt k (512 - span.offset)) refl small

-- what is known of a frame, as it is looked up
pub known : (fills : List (Option ℕ)) (bytes shown : List ℕ) (frame : ℕ) (fill : Option ℕ) → AreFills fills bytes → bytes ≡ shown → frame < 16384 → fill ≡ get_or fills frame fill
    → IfSome fill (λ byte. (k : ℕ) → k < 512 → get_or shown (512 * frame + k) 0 ≡ byte)
known fills bytes shown frame (Some byte) are is small looked = λ k few.
    ap (λ (xs : List ℕ). get_or xs (512 * frame + k) 0) (sym is)
    ∙ are.all frame byte k (get_or_default fills frame None (Some byte) (omega (arith, are.frames, small)) ∙ sym looked) few
known fills bytes shown frame None are is small looked = tt

-- and where it is found to be this byte
pub known_as : (fills : List (Option ℕ)) (bytes shown : List ℕ) (frame byte : ℕ) (fill : Option ℕ) → AreFills fills bytes → bytes ≡ shown → frame < 16384 → fill ≡ get_or fills frame fill
    → option_eq nat_eq fill (Some byte) ≡ true → (k : ℕ) → k < 512 → get_or shown (512 * frame + k) 0 ≡ byte
known_as fills bytes shown frame byte (Some there) are is small looked same = λ k few.
    known fills bytes shown frame (Some there) are is small looked k few ∙ eqb-true there byte same
known_as fills bytes shown frame byte None are is small looked same = absurd (grind (arith, same))

-- bytes that a frame is all through are written over themselves
pub written_same : (bytes shown from : List ℕ) (frame offset : ℕ) → bytes ≡ shown → length bytes ≡ 8388608 → frame < 16384 → offset + length from ≤ 512
    → ((at k : ℕ) → at < 512 → k < length from → get_or shown (512 * frame + at) 0 ≡ get_or from k 0) → shown ≡ with_part (512 * frame + offset) from shown
written_same bytes shown from frame offset is size small inside each =
    let long : length shown ≡ 8388608 = sym (ap (λ (xs : List ℕ). length xs) is) ∙ size in
    with_part-same (512 * frame + offset) from shown (omega (arith, long, small, inside)) (λ k h.
    let there : (512 * frame + offset) + k ≡ 512 * frame + (offset + k) = omega arith in
    ap (λ (j : ℕ). get_or shown j 0) there ∙ each (offset + k) k (omega (arith, inside, h)) h)

-- a whole frame that is all through what the bytes are
pub whole_same : (bytes shown from : List ℕ) (frame byte : ℕ) → bytes ≡ shown → length bytes ≡ 8388608 → frame < 16384 → length from ≡ 512
    → ((k : ℕ) → k < 512 → get_or shown (512 * frame + k) 0 ≡ byte) → IsFill byte from → shown ≡ with_part (512 * frame) from shown
whole_same bytes shown from frame byte is size small whole each fill =
    let long : length shown ≡ 8388608 = sym (ap (λ (xs : List ℕ). length xs) is) ∙ size in
    with_part-same (512 * frame) from shown (omega (arith, long, small, whole)) (λ k h. each k (omega (arith, whole, h)) ∙ sym (fill_at byte from k fill h))

-- what is found of a block's bytes, as it stands among the blocks
pub fill_there : (fill : Option ℕ) (bytes block : List ℕ) (found : Option (List ℕ)) → bytes ≡ block → found ≡ Some block → IfSome fill (λ byte. IsFill byte bytes)
    → IfSome fill (λ byte. IsSomeAnd found (IsFill byte))
fill_there (Some byte) bytes block found is there all = subst (λ (o : Option (List ℕ)). IsSomeAnd o (IsFill byte)) (sym there) (subst (IsFill byte) is all)
fill_there None bytes block found is there all = tt
