use Rattle.std.proofs.Common.{List, ℕ, subst, ◌∙◌}
use Rattle.script_reader.specs.Reading.{Refuses}
use Rattle.script_lines.specs.Words.{all_verbs}
use Rattle.hpview_run.proofs.LoadLaws.{read_refuses}
use Rattle.hpview_run.proofs.sources.load_script.Goals as goal

pub returns-in-Err-clause-refused : goal.returns-in-Err-clause-refused
returns-in-Err-clause-refused g c = λ command tells trace t.
    read_refuses command tells _ c.in_ok-text.text.items trace c.in-Err.fault c.from.result c.from.ensures
    (record { rest = g.S.Source.left c.read_all.new.source; front = c.in_ok-text.ensures.bytes t; end = c.in_ok-text.ensures.end t })
    (subst (λ (bytes : List ℕ). Refuses all_verbs c.in-Err.fault bytes) (c.in_ok-copy.ensures.items ∙ c.as_slice.ensures.value) c.in-Err.ensures.err)
