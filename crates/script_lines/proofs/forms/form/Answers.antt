use Rattle.script_lines.proofs.forms.form.Goals as goal

pub returns-in-Unit : goal.returns-in-Unit
returns-in-Unit c = rw c.in-Unit.is (c.unit_line.ensures c.args.span)

pub returns-in-Read : goal.returns-in-Read
returns-in-Read c = rw c.in-Read.is (c.read_line.ensures c.args.span)

pub returns-in-Turn : goal.returns-in-Turn
returns-in-Turn c = rw c.in-Turn.is (c.turn_line.ensures c.args.span)

pub returns-in-Noise : goal.returns-in-Noise
returns-in-Noise c = rw c.in-Noise.is (c.noise_line.ensures c.args.span)

pub returns-in-Fault : goal.returns-in-Fault
returns-in-Fault c = rw c.in-Fault.is (c.fault_line.ensures c.args.span)
