use Rattle.std.proofs.Common.{◌∙◌}
use Rattle.script_lines.specs.Fields.{kind_field}
use Rattle.script_lines.proofs.FieldLaws.{field_read}
use Rattle.script_lines.proofs.WordLaws.{kind_or}
use Rattle.script_lines.proofs.words.next_kind.Goals as goal

pub returns : goal.returns
returns c = field_read kind_field c.args.fields.now c.in_ok-need.field-0.now c.need.new.fields c.ok_or.result c.in_ok-need.ensures
    (c.ok_or.ensures.value ∙ kind_or c.in_ok-need.field-0.now c.kind_of.result c.kind_of.ensures.named)
