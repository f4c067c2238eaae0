use Rattle.std.proofs.Common.{◌≡◌, ap, sym, ◌∙◌, subst}
use Rattle.main_memory.specs.Memory.{Memory}
use Rattle.main_memory.specs.declared.span.Span.{Span}
use Rattle.main_memory.specs.Blocks.{IsSpan, bytes_in, span_of}
use Rattle.main_memory.proofs.BlockLaws.{is_span, slice_get-blocks_of}
use Rattle.main_memory.proofs.FillLaws.{fill_there}
use Rattle.main_memory.proofs.memory.MainMemory.fill.Goals as goal

pub fill_span-requires : goal.fill_span-requires
fill_span-requires c = record {
  span = subst IsSpan (sym c.span_at.ensures.span) (is_span c.args.self.now c.args.buffer.now c.args.k c.span_at.ensures.shape c.requires.lent c.requires.inside);
}

pub returns-clause-held : goal.returns-clause-held
returns-clause-held c =
    let bytes : bytes_in c.span_at.result c.self.inside.bytes ≡ bytes_in (span_of c.args.buffer.now c.args.k) c.args.self.now.bytes =
    ap (λ (s : Span). bytes_in s c.self.inside.bytes) c.span_at.ensures.span ∙ ap (λ (m : Memory). bytes_in (span_of c.args.buffer.now c.args.k) m.bytes) c.self.view_is in
    fill_there c.fill_span.result (bytes_in c.span_at.result c.self.inside.bytes) (bytes_in (span_of c.args.buffer.now c.args.k) c.args.self.now.bytes) _
    bytes (slice_get-blocks_of c.args.self.now c.args.buffer.now c.args.k c.requires.inside) c.fill_span.ensures
