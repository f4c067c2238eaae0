use Rattle.std.proofs.Common.{◌≡◌, ◌-◌, ℕ, List, length, refl, ap, ◌∙◌, arith}
use Rattle.std.proofs.Math.ListN.{replicate}
use Rattle.main_memory.specs.Bytes.{filled}
use Rattle.main_memory.specs.Blocks.{bytes_in}
use Rattle.main_memory.proofs.BlockLaws.{length-bytes_in}
use Rattle.main_memory.proofs.span.read_filled.Goals as goal

pub returns-clause-bytes : goal.returns-clause-bytes
unfolding filled
returns-clause-bytes c =
    let window : List ℕ = bytes_in c.args.span c.args.bytes.now in
    let size : length window ≡ c.args.span.len = length-bytes_in c.args.span c.args.bytes.now c.requires.span c.read_span.ensures.size in
    let rest : length c.split_at_mut-window.result.1.now ≡ length c.args.into.now - length window = omega (arith, c.split_at_mut-window.ensures.back_len, size) in
    let zeros : c.fill.new.self ≡ replicate (length c.args.into.now - length window) 0 = c.fill.ensures.after (λ y e. e) ∙ ap (λ (n : ℕ). replicate n 0) rest in
    rw (c.read_span.ensures.bytes, zeros) refl
