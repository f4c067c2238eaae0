use Rattle.std.proofs.Common.{◌<◌, arith, sym, ◌∙◌}
use Rattle.live_noise.proofs.BookLaws.{live_of-with_entry, slots_put, same_book}
use Rattle.live_noise.proofs.book.NoiseBook.arm.Goals as goal

pub invariant_of-self-2 : goal.invariant_of-self-2
invariant_of-self-2 c = record {
  order = c.put.ensures.order;
  slots = rw (c.put.ensures.items, c.push_reserved.ensures.items)
      (slots_put c.self.inside.noises.items c.args.noise _ c.self.inside.entries.items (c.len-slot.ensures ∙ c.self.inside.noises.ok.0) c.self.invariant.slots);
  few = omega (arith, c.put.new.entries.ok.0, c.push_reserved.new.self.ok.0, c.self.inside.entries.ok.0, c.self.inside.noises.ok.0);
  counted = omega (arith, c.push_reserved.new.self.ok.0, c.self.inside.noises.ok.0);
  bound = let few : c.self.inside.armed < c.self.inside.capacity = rw (← c.self.view_is) at c.requires in omega arith;
  noise_fits = omega arith;
  entry_fits = omega arith;
}

pub returns : goal.returns
returns c = rw (← c.self.view_is)
    (same_book _ _ _ _ (rw (c.push_reserved.ensures.items, c.put.ensures.items)
    (live_of-with_entry c.self.inside.noises.items c.args.noise _ c.self.inside.entries.items (c.len-slot.ensures ∙ c.self.inside.noises.ok.0) (sym c.if-is_spent.ensures) c.self.invariant.slots)))
