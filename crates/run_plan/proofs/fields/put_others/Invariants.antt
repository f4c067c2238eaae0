use Rattle.std.proofs.Common.{◌≡◌, fold, take}
use Rattle.run_plan.specs.Fields.{field_text, with_field}
use Rattle.run_plan.proofs.fields.put_others.Given as goal

abbrev pub invariant-loop-field : goal.invariant-loop-field
invariant-loop-field l = l.out.items ≡ fold (λ text f. with_field text (field_text f)) l.initial.out.items (take l.field-index l.others)
