use Rattle.std.proofs.Common.{ap, ◌∙◌}
use Rattle.command_parts.specs.Fields.{kind_named}
use Rattle.command_parts.proofs.FieldLaws.{kind_is}
use Rattle.command_parts.proofs.fields.kind_in.Goals as goal

pub returns : goal.returns
returns c = kind_is c.kind_of.result c.as_bytes.result.now c.kind_of.ensures.named c.kind_of.ensures.none ∙ ap kind_named c.as_bytes.ensures.value
