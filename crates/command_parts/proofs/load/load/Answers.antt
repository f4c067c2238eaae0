use Rattle.script_lines.specs.Words.{all_verbs}
use Rattle.command_parts.proofs.LoadLaws.{play_by_front, play_found, play_no_fault, refused_all}
use Rattle.command_parts.proofs.load.load.Goals as goal

pub returns-in_err-script-clause-refused : goal.returns-in_err-script-clause-refused
returns-in_err-script-clause-refused g c =
    refused_all play_by_front (play_no_fault (λ bytes lines count s number kind. c.grammar_law.ensures.no_fault all_verbs bytes lines count s number kind))
    _ c.in_ok-bytes.bytes.items _ _ c.from_residual-in_err-script.result
    c.in_ok-bytes.ensures.bytes c.in_ok-bytes.ensures.end (play_found c.in_err-script.field-0.0 _ c.in_err-script.ensures.err) c.from_residual-in_err-script.ensures.1
