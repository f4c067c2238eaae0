use Rattle.std.proofs.Common.{◌≡◌, ◌≤◌, ◌+◌, length, arith}
use Rattle.std.proofs.lemmas.Grind.{common_steps}
use Rattle.hardware_table.specs.Adapter.{registers_of, bytes_between, registers_used, frames_used}
use Rattle.mba_adapter.proofs.MapLaws.{frames_enough, registers-used, registers-rest}
use Rattle.mba_adapter.proofs.adapter.Adapter.load.Goals as goal

-- the frames that are mapped are frames of the buffer
room : (c : goal.After-to_bus) → c.args.skip + registers_used (bytes_between c.args.buffer.count c.args.buffer.last c.args.skip c.args.count) c.args.buffer.offset ≤ length c.args.buffer.frames
room c = rw c.frames_of-frames.ensures.shape.enough (frames_enough c.args.count c.args.buffer.count c.args.buffer.last c.args.buffer.offset c.args.skip c.requires.some c.frames_of-frames.ensures.shape.shape.last_some c.frames_of-frames.ensures.shape.shape.last_few c.requires.inside)

mapped : (c : goal.After-to_bus)
    → c.map_of-self-inside.result ≡ registers_of 256 (frames_used c.args.buffer.frames c.args.buffer.offset c.args.skip (bytes_between c.args.buffer.count c.args.buffer.last c.args.skip c.args.count))
mapped c = grind (arith, common_steps)

pub returns-clause-mapped : goal.returns-clause-mapped
returns-clause-mapped c = λ j lt.
    rw (mapped c) (registers-used 256 c.args.buffer.frames c.args.skip _ j (room c) lt)

pub returns-clause-cleared : goal.returns-clause-cleared
returns-clause-cleared c = λ j le.
    rw (mapped c) (registers-rest 256 c.args.buffer.frames c.args.skip _ j (room c) le)
