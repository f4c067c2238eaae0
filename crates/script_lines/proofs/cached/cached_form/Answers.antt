use Rattle.script_lines.proofs.cached.cached_form.Goals as goal

pub returns-in-Unit : goal.returns-in-Unit
returns-in-Unit c = rw c.in-Unit.is (λ span. c.unit_line.ensures span)

pub returns-in-Read : goal.returns-in-Read
returns-in-Read c = rw c.in-Read.is (λ span. c.read_line.ensures span)

pub returns-in-Write : goal.returns-in-Write
returns-in-Write c = rw c.in-Write.is (λ span. c.write_line.ensures span)
