use Rattle.std.proofs.Common.{ap, ◌∙◌}
use Rattle.std.specs.Vec.Iter.{into_iter_items, into_iter_len}
use Rattle.std.proofs.lemmas.Iterator.{items_from_collect}
use Rattle.std.proofs.lemmas.Iterator.Adapters.{YieldsList-from_skip, YieldsList-from_vec}
use Rattle.outside_files.proofs.start.collected.Goals as goal

pub returns : goal.returns
returns c =
    let same = c.skip.ensures.source in
    items_from_collect c.collect.result c.collect.ensures.ran
    (YieldsList-from_skip 1 (YieldsList-from_vec _ (ap (λ it. into_iter_items it) same) (ap (λ it. into_iter_len it) same ∙ c.args.args.rest.ok.0)) c.skip.ensures.count)
