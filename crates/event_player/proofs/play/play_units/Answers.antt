use Rattle.std.proofs.Common.{ap, ◌∙◌, ℕ, [], rules}
use Rattle.hp_driver.specs.Setups.{setups_of}
use Rattle.hp_driver.specs.Subsystem.{State}
use Rattle.script_reader.specs.Meaning.{meaning_of}
use Rattle.trace_lines.specs.answers.Counting.{tally_by}
use Rattle.event_player.proofs.Played.{begins_at, over_at}
use Rattle.event_player.proofs.play.play_units.Goals as goal

pub play_all-requires-clause-begins : goal.play_all-requires-clause-begins
play_all-requires-clause-begins g c =
    begins_at (meaning_of c.args.script.now) (setups_of c.args.units.now) _ _ c.requires.set (ap (λ (d : State). record d { kept = [] }) c.in_ok-subsystem.ensures) c.in_ok-bench.ensures.gather
    (ap (λ (d : State). d.kept) c.in_ok-subsystem.ensures) c.count_noises-noises.ensures.count c.count_requests-requests.ensures.count c.requires.tables
    (c.in_ok-bench.ensures.tally ∙ ap (λ (n : ℕ). tally_by n [] []) c.from.ensures)

pub returns-clause-plays : goal.returns-clause-plays
returns-clause-plays g c = over_at c.play_all.ensures.plays (search rules) (search rules) (search rules)

pub returns-clause-untouched : goal.returns-clause-untouched
returns-clause-untouched g c = λ before. absurd (c.play_all.ensures.begun before)
