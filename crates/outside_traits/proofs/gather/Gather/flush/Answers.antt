use Rattle.std.proofs.Common.{List, ℕ, [], ap, take, ◌∙◌, subst, refl}
use Rattle.outside_traits.specs.Puts.{Puts}
use Rattle.outside_traits.proofs.GatherLaws.{flushed}
use Rattle.outside_traits.proofs.gather.Gather.flush.Goals as goal

pub returns-clause-puts : goal.returns-clause-puts
returns-clause-puts g c =
    subst (λ (kept : List ℕ). Puts g.T.Sink.tells g.T.Sink.taken g.T.Sink.faults c.args.sink.now c.write_all-result.new.out c.write_all-result.result kept)
    (ap (λ (room : List ℕ). take c.self.inside.filled room) c.deref.ensures.value ∙ c.self.view_is) c.write_all-result.ensures

pub returns-clause-gathers : goal.returns-clause-gathers
returns-clause-gathers g c = flushed _ _ _ _ _ c.args.self.now [] _ refl (returns-clause-puts g c)
