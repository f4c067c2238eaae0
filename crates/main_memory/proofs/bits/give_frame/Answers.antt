use Rattle.std.proofs.Common.{◌≡◌, ◌<◌, ◌+◌, ◌*◌, ◌/◌, ◌%◌, ◌^◌, ℕ, List, get_or, ap, ◌∙◌, arith, w64, bit_or}
use Rattle.std.proofs.Math.ListN.{set}
use Rattle.std.proofs.lemmas.Nat.Bits.{bit_at_set_same, bit_at_set_other}
use Rattle.main_memory.specs.Frames.{free_frames, with_frame}
use Rattle.main_memory.proofs.BitLaws.{free-insert}
use Rattle.main_memory.proofs.bits.give_frame.Goals as goal

pub returns : goal.returns
returns c =
    let words : List ℕ = c.args.words.now in
    let frame : ℕ = c.args.frame in
    let word : ℕ = frame / 64 in
    let bit : ℕ = frame % 64 in
    let small : bit < 64 = omega arith in
    let same : 64 * word + bit ≡ frame = omega arith in
    ap (λ (n : ℕ). free_frames (set words (n / 64) (bit_or (get_or words (n / 64) 0) (1 * 2 ^ bit % 18446744073709551616)))) c.from.ensures
    ∙ free-insert words word _ bit c.told-words (omega arith)
    (record { inside = small; others = λ j j_small ne. bit_at_set_other w64 (get_or words word 0) bit small j ne })
    (bit_at_set_same w64 (get_or words word 0) bit small)
    ∙ ap (λ (f : ℕ). with_frame f (free_frames words)) same
