use Rattle.std.proofs.Common.{sym, ap, ◌∙◌, Ok, Err}
use Rattle.std.proofs.lemmas.Result.{err_from_is_err_and}
use Rattle.script_lines.specs.Knowing.{known_in}
use Rattle.script_reader.proofs.EntryLaws.{entry_says}
use Rattle.script_reader.proofs.script.entry.Goals as goal

pub returns-in_err-read-in-Some : goal.returns-in_err-read-in-Some
returns-in_err-read-in-Some c =
    let p = err_from_is_err_and c.from_residual-in_err-read-in-Some.result c.from_residual-in_err-read-in-Some.ensures.1 in
    rw (p.1, p.2) (entry_says c.args.span c.args.dialect (known_in c.args.known.now) c.args.fields.now c.in-Some.word.now c.next.new.self c.in_ok-verb-in-Some.verb
    (Err c.in_err-read-in-Some.field-0.0) c.in-Some.ensures (sym c.in_ok-verb-in-Some.ensures) c.in_err-read-in-Some.ensures)

pub returns-in_ok-read-in-Some : goal.returns-in_ok-read-in-Some
returns-in_ok-read-in-Some c =
    entry_says c.args.span c.args.dialect (known_in c.args.known.now) c.args.fields.now c.in-Some.word.now c.next.new.self c.in_ok-verb-in-Some.verb
    (Ok c.in_ok-read-in-Some.read) c.in-Some.ensures (sym c.in_ok-verb-in-Some.ensures) c.in_ok-read-in-Some.ensures
