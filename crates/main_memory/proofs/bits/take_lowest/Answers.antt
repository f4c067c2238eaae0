use Rattle.std.proofs.Common.{◌≡◌, ◌<◌, ℕ, List, length, get_or, sym, ap, ◌∙◌, subst, arith, w64}
use Rattle.std.proofs.lemmas.Nat.Bits.{bit_at-trailing_zeros, bit_at_clear_same, bit_at_clear_other}
use Rattle.main_memory.specs.Frames.{free_frames}
use Rattle.main_memory.proofs.BitLaws.{free-lowest, free-none}
use Rattle.main_memory.proofs.bits.take_lowest.Goals as goal

pub returns-then-word-ne0-clause-taken : goal.returns-then-word-ne0-clause-taken
returns-then-word-ne0-clause-taken c =
    let words : List ℕ = c.loop-index.words in
    let i : ℕ = c.loop-index.index in
    let inside : i < 256 = omega arith in
    let same : words ≡ c.args.words.now = c.loop-index.invariant.same in
    let fits : get_or words i 0 < 18446744073709551616 = subst (λ (ws : List ℕ). get_or ws i 0 < 18446744073709551616) (sym same) (c.fits-words i) in
    let lowest = bit_at-trailing_zeros w64 (get_or words i 0) (omega arith) fits in
    ap free_frames (sym same)
    ∙ free-lowest words i _ _ (ap length same ∙ c.told-words) inside c.loop-index.invariant.none_before lowest.1 lowest.2
    (record { inside = lowest.0; others = λ j small ne. bit_at_clear_other w64 _ _ lowest.0 j small ne })
    (bit_at_clear_same w64 _ _ lowest.0)

pub unreachable-requires : goal.unreachable-requires
unreachable-requires c =
    let none : free_frames c.loop-index.words ≡ _ = free-none c.loop-index.words (λ k h. c.loop-index.invariant.none_before k (omega arith)) in
    omega (arith, ap length (ap free_frames (sym c.loop-index.invariant.same) ∙ none), c.requires.some)
