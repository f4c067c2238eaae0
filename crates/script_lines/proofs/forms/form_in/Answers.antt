use Rattle.script_lines.proofs.forms.form_in.Goals as goal

pub returns-in-Events : goal.returns-in-Events
returns-in-Events c = rw c.in-Events.is c.form.ensures

pub returns-in-Cached : goal.returns-in-Cached
returns-in-Cached c = rw c.in-Cached.is (c.cached_form.ensures c.args.span)
