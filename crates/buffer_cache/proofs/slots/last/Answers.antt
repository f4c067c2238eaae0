use Rattle.std.proofs.Common.{◌<◌, sym, ap, ◌∙◌, subst}
use Rattle.std.specs.Prelude.{Some, option_map}
use Rattle.std.proofs.lemmas.List.{get_or_default}
use Rattle.buffer_cache.specs.declared.entry.Held.{Held}
use Rattle.buffer_cache.specs.Views.{nothing, entry_with, entry_at}
use Rattle.buffer_cache.proofs.Orders.{last_in}
use Rattle.buffer_cache.proofs.slots.last.Goals as goal

pub index-held-requires : goal.index-held-requires
index-held-requires c = subst (λ n. c.in_ok-key.slot.now < n) (sym c.args.slots.now.ok.0)
    (last_in c.args.order.now c.args.slots.now.items (c.in_ok-key.key.now, c.in_ok-key.slot.now) c.requires.kept c.len-count.ensures.valid.1 (sym (c.in_ok-key.ensures)))

pub returns : goal.returns
returns c =
    ap (λ (h : Held). Some (entry_with c.in_ok-key.key.now h)) (c.index-held.ensures
    ∙ get_or_default c.args.slots.now.items c.in_ok-key.slot.now c.index-held.result.now nothing
    (last_in c.args.order.now c.args.slots.now.items (c.in_ok-key.key.now, c.in_ok-key.slot.now) c.requires.kept c.len-count.ensures.valid.1 (sym (c.in_ok-key.ensures))))
    ∙ ap (option_map (entry_at c.args.slots.now.items)) (c.in_ok-key.ensures)
