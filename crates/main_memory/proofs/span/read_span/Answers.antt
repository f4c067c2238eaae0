use Rattle.std.proofs.Common.{◌≡◌, ◌+◌, ◌*◌, ℕ, length, ap, refl, ◌∙◌, arith}
use Rattle.main_memory.specs.Bytes.{part}
use Rattle.main_memory.specs.Blocks.{bytes_in, in_frame, in_next}
use Rattle.main_memory.proofs.span.read_span.Goals as goal

pub returns-clause-bytes : goal.returns-clause-bytes
unfolding bytes_in
returns-clause-bytes c =
    let span = c.args.span in
    let bytes = c.args.bytes.now in
    let front : length c.split_at_mut-first.result.0.now ≡ in_frame span = c.split_at_mut-first.ensures.front_len ∙ c.len_in_frame.ensures.frame in
    let back : length c.split_at_mut-first.result.1.now ≡ in_next span = omega (arith, c.split_at_mut-first.ensures.back_len, c.len_in_frame.ensures.frame, c.requires.whole) in
    let first : c.get.new.into ≡ part (in_frame span) (512 * span.frame + span.offset) bytes =
    c.get.ensures.bytes ∙ ap (λ (n : ℕ). part n (512 * span.frame + span.offset) bytes) front in
    let start : 512 * span.next + 0 ≡ 512 * span.next = omega arith in
    let second : c.get-2.new.into ≡ part (in_next span) (512 * span.next) bytes =
    c.get-2.ensures.bytes ∙ ap (λ (at : ℕ). part (length c.split_at_mut-first.result.1.now) at bytes) start ∙ ap (λ (n : ℕ). part n (512 * span.next) bytes) back in
    rw (first, second) refl
