use Rattle.std.proofs.Common.{rules, ◌≡◌, Result, Err, ap, refl, subst}
use Rattle.script_reader.specs.Grammar.{Spells}
use Rattle.script_reader.specs.Stored.{lines_in}
use Rattle.script_lines.specs.Words.{all_verbs}
use Rattle.script_reader.specs.Meaning.{meaning_of}
use Rattle.hp_exercise.specs.Exercise.{script_text}
use Rattle.outside_traits.specs.Causes.{Rose}
use Rattle.trace_lines.specs.declared.answers.tally.Tally.{Tally}
use Rattle.event_player.specs.PlayFault.{PlayFault}
use Rattle.hp_exercise.specs.Room.{faults_of}
use Rattle.script_commands.specs.Exercises.{exercise_script}
use Rattle.script_commands.proofs.ExerciseLaws.{cut_short_for, exercised_for, is_exercise, never_refused, one_meaning}
use Rattle.script_commands.proofs.RoomLaws.{never_fails}
use Rattle.script_commands.proofs.exercise.play_exercise.Goals as goal

pub unreachable-requires : goal.unreachable-requires
unreachable-requires g c =
    never_refused c.args.number c.in-Ok.text.items c.in-Err-Refused.field-0 c.in-Err-Refused.field-0-0 c.in-Err-Refused.field-0-1
    (λ bytes lines count s number kind. c.grammar_law.ensures.no_fault all_verbs bytes lines count s number kind)
    (c.spelling_law.ensures c.args.number) c.in-Ok.ensures c.in-Err-Refused.field-0-is c.in-Err-Refused.ensures.err

pub unreachable-requires-in-Err-Store : goal.unreachable-requires-in-Err-Store
unreachable-requires-in-Err-Store g c =
    let read : Spells all_verbs (script_text c.args.number) (lines_in c.in-Ok-read_script.script) c.in-Ok-read_script.script.count =
    subst (λ bytes. Spells all_verbs bytes (lines_in c.in-Ok-read_script.script) c.in-Ok-read_script.script.count) c.in-Ok.ensures c.in-Ok-read_script.ensures.ok in
    let same : meaning_of c.in-Ok-read_script.script ≡ exercise_script c.args.number =
    one_meaning c.args.number c.in-Ok-read_script.script (c.spelling_law.ensures c.args.number) read
    (λ bytes ls os k o. c.grammar_law.ensures.one_script all_verbs bytes ls os k o) in
    never_fails c.args.number c.in-Err-Store.field-0 (meaning_of c.in-Ok-read_script.script) _ _ _ _ _ _ c.play.new.packs.outside
    c.in-Err-Store.field-0-is same c.in-Ok-new.ensures.empty (c.in-Err-Store.ensures.stopped refl) c.outside_law.ensures refl
    (subst (λ outside. Rose (faults_of outside) (faults_of c.play.new.packs.outside)) c.in-Ok-new.ensures.inside (c.in-Err-Store.ensures.causes.store (ap {B = Result Tally PlayFault} (λ (fault : PlayFault). Err fault) c.in-Err-Store.field-0-is)))

pub returns-in-Ok-play-clause-done : goal.returns-in-Ok-play-clause-done
returns-in-Ok-play-clause-done g c =
    let read : Spells all_verbs (script_text c.args.number) (lines_in c.in-Ok-read_script.script) c.in-Ok-read_script.script.count =
    subst (λ bytes. Spells all_verbs bytes (lines_in c.in-Ok-read_script.script) c.in-Ok-read_script.script.count) c.in-Ok.ensures c.in-Ok-read_script.ensures.ok in
    let same : meaning_of c.in-Ok-read_script.script ≡ exercise_script c.args.number =
    one_meaning c.args.number c.in-Ok-read_script.script (c.spelling_law.ensures c.args.number) read
    (λ bytes ls os k o. c.grammar_law.ensures.one_script all_verbs bytes ls os k o) in
    exercised_for c.args.number (meaning_of c.in-Ok-read_script.script) _ _ _ _ _ c.in-Ok-play.tally same
    (is_exercise c.args.number (c.spelling_law.ensures c.args.number) (c.bounds_law.ensures.short c.args.number))
    (c.meaning_law.ensures.script _ _ _ (c.spelling_law.ensures c.args.number)) c.in-Ok-new.ensures.empty (search rules) c.promises_law.ensures
    (c.in-Ok-play.ensures.tallied refl)

pub returns-in-Err-Sink-clause-stopped : goal.returns-in-Err-Sink-clause-stopped
returns-in-Err-Sink-clause-stopped g c = λ sink.
    let read : Spells all_verbs (script_text c.args.number) (lines_in c.in-Ok-read_script.script) c.in-Ok-read_script.script.count =
    subst (λ bytes. Spells all_verbs bytes (lines_in c.in-Ok-read_script.script) c.in-Ok-read_script.script.count) c.in-Ok.ensures c.in-Ok-read_script.ensures.ok in
    let same : meaning_of c.in-Ok-read_script.script ≡ exercise_script c.args.number =
    one_meaning c.args.number c.in-Ok-read_script.script (c.spelling_law.ensures c.args.number) read
    (λ bytes ls os k o. c.grammar_law.ensures.one_script all_verbs bytes ls os k o) in
    cut_short_for c.args.number (meaning_of c.in-Ok-read_script.script) c.in-Err-Sink.field-0 _ _ _ _ _ same
    (is_exercise c.args.number (c.spelling_law.ensures c.args.number) (c.bounds_law.ensures.short c.args.number)) c.in-Ok-new.ensures.empty c.in-Err-Sink.field-0-is refl refl refl
    (c.in-Err-Sink.ensures.stopped refl)
