use Rattle.request_slots.specs.Stored.{all_slots}
use Rattle.request_slots.proofs.StoreLaws.{whole_at, apart_at, full_at}
use Rattle.request_slots.proofs.slots.Slots.law.Goals as goal

pub returns-clause-whole : goal.returns-clause-whole
returns-clause-whole c = whole_at c.self.inside.memory (all_slots c.self.inside.slots) c.self.invariant c.self.view_is

pub returns-clause-apart : goal.returns-clause-apart
returns-clause-apart c = apart_at c.self.inside.memory (all_slots c.self.inside.slots) c.self.invariant c.self.view_is

pub returns-clause-full : goal.returns-clause-full
returns-clause-full c = full_at c.self.inside.memory (all_slots c.self.inside.slots) c.self.invariant c.self.view_is
