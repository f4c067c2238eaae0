use Rattle.std.proofs.Common.{◌≡◌, ℕ, ◌+◌, ◌-◌, ◌≤◌, List, ◌++◌, length, length-drop, take, drop, sym, ap, ◌∙◌, arith}
use borrow.Rule.Slice.PartMut.{put_mid}
use Rattle.driver_laws.specs.rules.Laid.{laid_at}
use Rattle.driver_laws.proofs.rules.Ranges.{laid_short}
use Rattle.raw_io.proofs.writing.merge.Goals as goal

merged : (skip : ℕ) (block from part : List ℕ) → part ≡ from → skip + length from ≤ length block → put_mid skip (skip + length from - skip) block part ≡ laid_at skip from block
merged skip block from part same room =
    let more : skip + length from - skip ≡ length from = omega arith in
    let left : length (drop skip block) ≡ length block - skip = length-drop skip block in
    ap (λ zs. put_mid skip (skip + length from - skip) block zs) same
    ∙ ap (λ n. put_mid skip n block from) more
    ∙ ap (λ zs. take skip block ++ zs) (sym (laid_short from (drop skip block) (omega (arith, left, room))))

pub returns : goal.returns
returns c = merged c.args.skip c.args.block.now c.args.from.now c.copy_from_slice.new.self c.copy_from_slice.ensures.after (omega arith)
