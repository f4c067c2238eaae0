use Rattle.std.proofs.Common.{ℕ, ◌∙◌, ap, length, arith, refl, length-drop}
use Rattle.std.proofs.Math.ListN.{replicate}
use Rattle.bad144_table.proofs.SpellingLemmas.{four_long, head_by}
use Rattle.bad144_table.proofs.spelling.write_head.Goals as goal

pub returns : goal.returns
returns c =
    let written = ap length c.write_u32.ensures in
    head_by c.args.serial 504 c.fill.new.self c.write_u32.new.buf c.fill-2.new.self refl
    (c.fill.ensures.after (λ y same. same) ∙ ap (λ (n : ℕ). replicate {A = ℕ} n 255) c.requires)
    c.write_u32.ensures
    (c.fill-2.ensures.after (λ y same. same)
    ∙ ap (λ (n : ℕ). replicate {A = ℕ} n 0) (four_long c.write_u32.new.buf
    (omega (arith, written, length-drop 4 c.fill.new.self, c.fill.ensures.len, c.requires))))
