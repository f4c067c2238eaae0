use Rattle.std.proofs.Common.{refl, ◌∙◌}
use Rattle.outside_traits.proofs.GatherLaws.{passed_on}
use Rattle.outside_traits.proofs.gather.Gather.put_first.Goals as goal

pub returns : goal.returns
returns g c = passed_on _ _ _ _ _ _ _ _ (c.if-try_keep.ensures.full refl ∙ c.requires) c.write_all.ensures
