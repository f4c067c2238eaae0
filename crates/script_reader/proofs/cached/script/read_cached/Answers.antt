use Rattle.std.proofs.Common.{◌≡◌, ℕ, List, map, sym, ap, subst, ◌∙◌}
use Rattle.script_lines.specs.declared.dialect.Dialect.TheVariants.{Cached}
use Rattle.script_lines.specs.declared.kinds.ScriptKind.{ScriptKind}
use Rattle.script_reader.specs.declared.fault.ReadFault.{ReadFault}
use Rattle.script_reader.specs.declared.fault.ReadFault.TheVariants.{Refused}
use Rattle.script_reader.specs.Reading.{Refuses}
use Rattle.script_reader.specs.cached.Kinds.{IsCachedKind}
use Rattle.script_reader.specs.cached.Scripts.{narrowed_line, Spells}
use Rattle.script_reader.proofs.cached.Narrow.{spelled_narrow}
use Rattle.script_reader.proofs.cached.Wrongs.{refused_kind}
use Rattle.script_reader.proofs.cached.script.read_cached.Goals as goal

refused_by : (bytes : List ℕ) (fault : ReadFault) (line : ℕ) (kind : ScriptKind) → fault ≡ Refused line kind → Refuses Cached fault bytes → IsCachedKind kind
refused_by bytes fault line kind is refused = refused_kind bytes line kind (subst (λ (f : ReadFault). Refuses Cached f bytes) is refused)

pub named-requires : goal.named-requires
named-requires c = subst IsCachedKind (sym c.in-Err-Refused.kind-is) (refused_by _ _ _ _ c.in-Err-Refused.field-0-is c.in-Err-Refused.ensures.err)

pub returns-clause-ok : goal.returns-clause-ok
returns-clause-ok c =
    subst (λ (n : ℕ). Spells c.args.bytes.items c.in_ok-lines.lines.items n) (sym c.count.ensures)
    (spelled_narrow c.args.bytes.items c.in-Ok.script.text c.in-Ok.script.lines c.in_ok-lines.lines.items c.in-Ok.script.count c.in-Ok.ensures.ok
    (c.in_ok-lines.ensures.ok ∙ ap (map narrowed_line) c.lines.ensures))

pub invariant_of-result : goal.invariant_of-result
invariant_of-result c = record {
  bytes = c.args.bytes.items;
  spells = subst (λ (n : ℕ). Spells c.args.bytes.items c.in_ok-lines.lines.items n) (sym c.count.ensures)
      (spelled_narrow c.args.bytes.items c.in-Ok.script.text c.in-Ok.script.lines c.in_ok-lines.lines.items c.in-Ok.script.count c.in-Ok.ensures.ok
      (c.in_ok-lines.ensures.ok ∙ ap (map narrowed_line) c.lines.ensures));
}
