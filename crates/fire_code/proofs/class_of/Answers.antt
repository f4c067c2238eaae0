-- Noise has one class.
use Rattle.std.proofs.Common.{subst}
use Rattle.fire_code.specs.Noise.{Classes}
use Rattle.fire_code.proofs.Laws.{short_exactly, shown_exactly, alias_exactly}
use Rattle.fire_code.proofs.class_of.Goals as goal

class : (c : goal.After-class_by) → Classes c.class_by.result c.args.noise.now
class c = subst (Classes c.class_by.result) c.places.ensures.value c.class_by.ensures

pub returns-clause-short : goal.returns-clause-short
returns-clause-short c = short_exactly c.class_by.result c.args.noise.now (class c)

pub returns-clause-shown : goal.returns-clause-shown
returns-clause-shown c = shown_exactly c.class_by.result c.args.noise.now (class c)

pub returns-clause-alias : goal.returns-clause-alias
returns-clause-alias c = alias_exactly c.class_by.result c.args.noise.now (class c)
