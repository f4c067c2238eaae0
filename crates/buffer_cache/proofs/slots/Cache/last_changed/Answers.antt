use Rattle.std.proofs.Common.{ap, ◌∙◌, arith}
use Rattle.driver_laws.specs.rules.Entries.{if_changed, to_write_back}
use Rattle.buffer_cache.proofs.Orders.{back_free, back_full}
use Rattle.buffer_cache.proofs.slots.Cache.last_changed.Goals as goal

pub returns-then-len-get : goal.returns-then-len-get
returns-then-len-get c =
    let count = c.len.ensures.len in
    let cap = c.get.ensures.value ∙ c.cap.ensures in
    let lt = c.if-len-get.true in
    back_free c.self.inside.order c.self.inside.slots.items c.self.inside.refused (omega (arith, count, cap, lt)) ∙ ap to_write_back c.self.view_is

pub returns : goal.returns
returns c =
    let count = c.len.ensures.len in
    let cap = c.get.ensures.value ∙ c.cap.ensures in
    let le = c.if-len-get.false in
    c.if_changed.ensures ∙ ap if_changed c.last.ensures
    ∙ back_full c.self.inside.order c.self.inside.slots.items c.self.inside.refused c.len.ensures.valid.1 (omega (arith, count, cap, le)) ∙ ap to_write_back c.self.view_is
