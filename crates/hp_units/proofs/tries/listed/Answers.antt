use Rattle.std.proofs.Common.{◌≡◌, ◌+◌, ℕ, sym, ap, ◌∙◌, arith}
use Rattle.pack_geometry.specs.declared.DriveKind.{DriveKind}
use Rattle.pack_geometry.specs.Geometry.{limit_of, place_at}
use Rattle.pack_geometry.specs.Homes.{index_in}
use Rattle.transfer_engine.specs.declared.job.Segment.{Segment}
use Rattle.transfer_engine.specs.State.{segment_of}
use Rattle.transfer_engine.specs.Calls.{state_of}
use Rattle.hp_units.proofs.Listed.{entry_of_own, entry_of_replacement}
use Rattle.hp_units.proofs.tries.listed.Goals as goal

pub returns-then-block-data_limit : goal.returns-then-block-data_limit
returns-then-block-data_limit c =
    let limit : c.data_limit.result ≡ limit_of (state_of c.args.transfer.now).job.kind = c.data_limit.ensures ∙ ap limit_of (sym c.requires.kind) in
    let block : c.segment-block.result.block ≡ (segment_of (state_of c.args.transfer.now)).block = ap (λ (s : Segment). s.block) c.segment-block.ensures.segment in
    entry_of_replacement (state_of c.args.transfer.now) c.args.table.now c.args.moved c.segment-block.ensures.valid (omega (arith, limit, block, c.if-block-data_limit.true))

pub returns : goal.returns
returns c =
    let limit : c.data_limit.result ≡ limit_of (state_of c.args.transfer.now).job.kind = c.data_limit.ensures ∙ ap limit_of (sym c.requires.kind) in
    let block : c.segment-block.result.block ≡ (segment_of (state_of c.args.transfer.now)).block = ap (λ (s : Segment). s.block) c.segment-block.ensures.segment in
    c.listed_at.ensures
    ∙ ap (λ (k : DriveKind). index_in c.args.table.now (place_at k (c.segment-block.result.block + c.args.moved))) (sym c.requires.kind)
    ∙ ap (λ (b : ℕ). index_in c.args.table.now (place_at (state_of c.args.transfer.now).job.kind (b + c.args.moved))) block
    ∙ sym (entry_of_own (state_of c.args.transfer.now) c.args.table.now c.args.moved c.segment-block.ensures.valid (omega (arith, limit, block, c.if-block-data_limit.false)))
