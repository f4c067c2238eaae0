use Rattle.std.proofs.Common.{subst, arith, sym}
use Rattle.std.proofs.lemmas.List.{length-map}
use Rattle.std.specs.Prelude.{◌≤◌}
use Rattle.driver_laws.specs.rules.Entries.{IsCache}
use Rattle.buffer_cache.specs.Views.{entry_at}
use Rattle.buffer_cache.proofs.Orders.{apart_of}
use Rattle.buffer_cache.proofs.slots.Cache.law.Goals as goal

pub returns : goal.returns
returns c =
    let some = c.len-count.ensures.valid.1 in
    subst IsCache c.self.view_is (record {
      some = omega (arith, some);
      few = subst (λ n. n ≤ c.self.inside.order.cap) (sym (length-map c.self.inside.order.entries (entry_at c.self.inside.slots.items))) c.len-count.ensures.valid.1;
      apart = apart_of c.self.inside.order.entries c.self.inside.slots.items c.len-count.ensures.valid.0;
    })
