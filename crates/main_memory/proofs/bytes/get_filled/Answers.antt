use Rattle.std.proofs.Common.{◌≡◌, ◌-◌, ◌++◌, ℕ, List, length, ap, ◌∙◌, arith}
use Rattle.std.proofs.Math.ListN.{replicate}
use Rattle.main_memory.specs.Bytes.{part}
use Rattle.main_memory.proofs.HeldLaws.{read_is}
use Rattle.main_memory.proofs.bytes.get_filled.Goals as goal

pub returns : goal.returns
returns c =
    let size : ℕ = length c.args.into.now in
    let first : ℕ = c.min-first.result in
    let there : ℕ = c.min-there.result in
    let front : length c.split_at_mut-front.result.0.now ≡ there = c.split_at_mut-front.ensures.front_len in
    let back : length c.split_at_mut-front.result.1.now ≡ size - there = omega (arith, c.split_at_mut-front.ensures.back_len) in
    let read : c.get_inside.new.into ≡ part there first c.args.bytes.now = c.get_inside.ensures ∙ ap (λ (n : ℕ). part n first c.args.bytes.now) front in
    let zeros : c.fill.new.self ≡ replicate (size - there) 0 = c.fill.ensures.after (λ y e. e) ∙ ap (λ (n : ℕ). replicate n 0) back in
    ap (λ (xs : List ℕ). xs ++ c.fill.new.self) read ∙ ap (λ (xs : List ℕ). part there first c.args.bytes.now ++ xs) zeros
    ∙ read_is 8388608 c.args.at size first there c.args.bytes.now c.requires.size c.requires.inside c.min-first.ensures c.min-there.ensures
