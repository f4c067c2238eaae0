use Rattle.command_parts.proofs.LoadLaws.{cached_by_front, cached_found, cached_no_fault, refused_all}
use Rattle.command_parts.proofs.load.load_cached.Goals as goal

pub returns-in_err-script-clause-refused : goal.returns-in_err-script-clause-refused
returns-in_err-script-clause-refused g c =
    refused_all cached_by_front (cached_no_fault c.cached_grammar_law.ensures.no_fault)
    _ c.in_ok-bytes.bytes.items _ _ c.from_residual-in_err-script.result
    c.in_ok-bytes.ensures.bytes c.in_ok-bytes.ensures.end (cached_found c.in_err-script.field-0.0 _ c.in_err-script.ensures.err) c.from_residual-in_err-script.ensures.1
