use Rattle.std.proofs.Common.{List, [], ◌∷◌, ◌++◌, replicate, ap, ◌∙◌, arith}
use Rattle.std.proofs.lemmas.List.{replicate_more}
use Rattle.driver_machine.specs.World.{AdapterView, new_adapter_view}
use Rattle.hp_core.proofs.start.free_channels.Goals as goal

pub loop-preserved : goal.loop-preserved
loop-preserved c = record {
  items =
      c.push_reserved.ensures.items ∙ ap (λ (vs : List AdapterView). vs ++ c.new.result ∷ []) c.loop.invariant.items
      ∙ ap (λ (v : AdapterView). replicate c.loop.counter new_adapter_view ++ v ∷ []) c.new.ensures ∙ replicate_more c.loop.counter new_adapter_view;
  len = omega (arith, c.push_reserved.ensures.len, c.loop.invariant.len);
  room = omega (arith, c.push_reserved.ensures.capacity, c.loop.invariant.room);
}
