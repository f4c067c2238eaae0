use Rattle.std.proofs.Common.{◌≡◌, ap, sym, ◌∙◌, subst}
use Rattle.main_memory.specs.declared.span.Span.{Span}
use Rattle.main_memory.specs.Bytes.{front}
use Rattle.main_memory.specs.Blocks.{IsSpan, size_at}
use Rattle.main_memory.specs.Memory.{with_span, with_block, blocks_of}
use Rattle.main_memory.proofs.BlockLaws.{is_span, length-front_of, blocks_of-with_block, blocks_of-with_block_other}
use Rattle.main_memory.proofs.memory.MainMemory.store.Goals as goal

pub write-requires : goal.write-requires
write-requires c = subst IsSpan (sym c.span_at.ensures.span) (is_span c.args.self.now c.args.buffer.now c.args.k c.span_at.ensures.shape c.requires.lent c.requires.inside)

pub returns-clause-held : goal.returns-clause-held
returns-clause-held c =
    let after : c.write.new.self ≡ with_block c.args.buffer.now c.args.k (front (size_at c.args.buffer.now c.args.k) c.args.from.now) c.args.self.now =
    c.write.ensures.memory ∙ ap (λ (s : Span). with_span s (front s.len c.args.from.now) c.args.self.now) c.span_at.ensures.span in
    ap (blocks_of c.args.buffer.now) after
    ∙ blocks_of-with_block c.args.self.now c.args.buffer.now c.args.k (front (size_at c.args.buffer.now c.args.k) c.args.from.now) c.write.ensures.size c.span_at.ensures.shape c.requires.lent c.requires.inside
    (length-front_of c.args.buffer.now c.args.k c.args.from.now c.span_at.ensures.shape c.told-from)

pub returns-clause-others : goal.returns-clause-others
returns-clause-others c = λ other shape lent apart.
    let after : c.write.new.self ≡ with_block c.args.buffer.now c.args.k (front (size_at c.args.buffer.now c.args.k) c.args.from.now) c.args.self.now =
    c.write.ensures.memory ∙ ap (λ (s : Span). with_span s (front s.len c.args.from.now) c.args.self.now) c.span_at.ensures.span in
    ap (blocks_of other) after
    ∙ blocks_of-with_block_other c.args.self.now c.args.buffer.now other c.args.k (front (size_at c.args.buffer.now c.args.k) c.args.from.now) c.write.ensures.size c.span_at.ensures.shape c.requires.lent c.requires.inside
    (length-front_of c.args.buffer.now c.args.k c.args.from.now c.span_at.ensures.shape c.told-from) shape lent apart
