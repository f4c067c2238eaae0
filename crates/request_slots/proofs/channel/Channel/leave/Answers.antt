use Rattle.std.proofs.Common.{rules, not, ◌==◌, ◌∙◌}
use Rattle.arrayvec.proofs.ArrayVecLemmas.{filter-from_retain}
use Rattle.request_slots.proofs.Leaves.{without-from-filter}
use Rattle.request_slots.proofs.channel.Channel.leave.Goals as goal

pub returns : goal.returns
returns c =
    let filtered = filter-from_retain _ (λ x. not (x == c.args.unit)) _ (λ x b f' y k. search rules) _ _ c.retain.ensures.filtered in
    let left = filtered ∙ without-from-filter c.args.unit _ in
    search rules
