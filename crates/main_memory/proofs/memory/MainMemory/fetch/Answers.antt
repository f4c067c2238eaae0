use Rattle.std.proofs.Common.{ap, sym, ◌∙◌, subst}
use Rattle.main_memory.specs.Bytes.{filled}
use Rattle.main_memory.specs.declared.span.Span.{Span}
use Rattle.main_memory.specs.Blocks.{IsSpan, bytes_in}
use Rattle.main_memory.proofs.BlockLaws.{is_span, slice_get-blocks_of}
use Rattle.main_memory.proofs.memory.MainMemory.fetch.Goals as goal

pub read-requires : goal.read-requires
read-requires c = subst IsSpan (sym c.span_at.ensures.span) (is_span c.args.self.now c.args.buffer.now c.args.k c.span_at.ensures.shape c.requires.lent c.requires.inside)

pub returns-clause-held : goal.returns-clause-held
returns-clause-held c =
    rw (slice_get-blocks_of c.args.self.now c.args.buffer.now c.args.k c.requires.inside)
    (c.read.ensures.block ∙ ap (λ (s : Span). filled 512 (bytes_in s c.args.self.now.bytes)) c.span_at.ensures.span)
