use Rattle.std.proofs.Common.{List, ℕ, ◌≤◌, length, sym, subst}
use Rattle.trace_reader.specs.Grammar.{Spells}
use Rattle.trace_reader.specs.RoundTrip.{lines_told}
use Rattle.run_view.proofs.answers.Standing.{are_of_run}
use Rattle.run_view.proofs.view.legal_law.Goals as goal

pub returns : goal.returns
returns c = λ script bytes legal.
    subst (λ (text : List ℕ). Spells script text (lines_told legal.moments)) (sym legal.text)
    (c.round_trip_law.ensures.told script legal.moments (are_of_run script legal.tables legal.old legal.new legal.moments legal.run legal.ranges)
    (subst (λ (text : List ℕ). length text ≤ 268435456) legal.text legal.short))
