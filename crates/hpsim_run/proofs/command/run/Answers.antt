use Rattle.hpsim_run.proofs.CommandLaws.{add_ends, cached_ends, clauses_of, ends_at, exercise_ends, format_ends, fresh_ends, list_ends, mark_ends, play_ends, transfer_ends, usage_ends}
use Rattle.script_commands.proofs.PlayLaws.{told_of}
use Rattle.hpsim_run.proofs.command.run.Goals as goal

pub returns-in-None : goal.returns-in-None
returns-in-None g c =
    usage_ends c.in-None.ensures.named c.code.ensures
    (told_of c.write_all.result _ _ _ _ _ _ _ _ c.as_bytes.ensures.text c.usage.ensures c.write_all.ensures.bytes c.write_all.ensures.front c.write_all.ensures.cause)

pub returns-in-Some-Play : goal.returns-in-Some-Play
returns-in-Some-Play g c =
    let arm = c.in-Some-Play in
    let ran = c.run_play.ensures in
    clauses_of (ends_at arm.ensures.named arm.field-0-is c.code-in-Some-Play.ensures (play_ends ran.runs ran.causes ran.leaves))

pub returns-in-Some-ListTable : goal.returns-in-Some-ListTable
returns-in-Some-ListTable g c =
    let arm = c.in-Some-ListTable in
    let ran = c.run_list.ensures in
    clauses_of (ends_at arm.ensures.named arm.field-0-is c.code-in-Some-ListTable.ensures (list_ends arm.unit arm.kind _ ran.runs ran.sink ran.store))

pub returns-in-Some-AddBlock : goal.returns-in-Some-AddBlock
returns-in-Some-AddBlock g c =
    let arm = c.in-Some-AddBlock in
    let ran = c.run_add.ensures in
    clauses_of (ends_at arm.ensures.named arm.field-0-is c.code-in-Some-AddBlock.ensures (add_ends arm.unit arm.block arm.kind arm.way _ ran.runs ran.sink ran.store))

pub returns-in-Some-FreshTable : goal.returns-in-Some-FreshTable
returns-in-Some-FreshTable g c =
    let arm = c.in-Some-FreshTable in
    let ran = c.run_fresh.ensures in
    clauses_of (ends_at arm.ensures.named arm.field-0-is c.code-in-Some-FreshTable.ensures (fresh_ends arm.unit arm.serial arm.kind _ ran.runs ran.sink ran.store))

pub returns-in-Some-MarkBlocks : goal.returns-in-Some-MarkBlocks
returns-in-Some-MarkBlocks g c =
    let arm = c.in-Some-MarkBlocks in
    let ran = c.run_mark.ensures in
    clauses_of (ends_at arm.ensures.named arm.field-0-is c.code-in-Some-MarkBlocks.ensures (mark_ends arm.unit arm.kind _ ran.runs ran.sink ran.store))

pub returns-in-Some-Exercise : goal.returns-in-Some-Exercise
returns-in-Some-Exercise g c =
    let arm = c.in-Some-Exercise in
    let ran = c.run_exercise.ensures in
    clauses_of (ends_at arm.ensures.named arm.field-0-is c.code-in-Some-Exercise.ensures (exercise_ends arm.number _ ran.runs ran.sink ran.silent ran.untraced))

pub returns-in-Some-Cached : goal.returns-in-Some-Cached
returns-in-Some-Cached g c =
    let arm = c.in-Some-Cached in
    let ran = c.run_cached.ensures in
    clauses_of (ends_at arm.ensures.named arm.field-0-is c.code-in-Some-Cached.ensures (cached_ends arm.capacity ran.runs ran.causes ran.leaves))

pub returns-in-Some-FormatPack : goal.returns-in-Some-FormatPack
returns-in-Some-FormatPack g c =
    let arm = c.in-Some-FormatPack in
    let ran = c.run_format.ensures in
    clauses_of (ends_at arm.ensures.named arm.field-0-is c.code-in-Some-FormatPack.ensures (format_ends arm.unit arm.serial arm.kind _ ran.runs ran.sink ran.store ran.silent))

pub returns-in-Some-TransferBytes : goal.returns-in-Some-TransferBytes
returns-in-Some-TransferBytes g c =
    let arm = c.in-Some-TransferBytes in
    let ran = c.run_bytes.ensures in
    clauses_of (ends_at arm.ensures.named arm.field-0-is c.code-in-Some-TransferBytes.ensures (transfer_ends arm.transfer ran.runs ran.statuses ran.causes ran.leaves))
