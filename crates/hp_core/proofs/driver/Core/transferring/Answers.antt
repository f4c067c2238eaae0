use Rattle.std.proofs.Common.{◌≡◌, ◌<◌, ◌+◌, ◌*◌, ℕ, length, ap, ◌∙◌, arith}
use Rattle.driver_machine.specs.World.{AdapterView, adapter_at}
use Rattle.hp_core.specs.State.{State}
use Rattle.hp_core.proofs.Places.{adapter_here}
use Rattle.hp_core.proofs.driver.Core.transferring.Goals as goal

-- the drive is that of the adapter
own : (c : goal.After-drive) → c.drive.result ≡ (adapter_at c.args.self.now.world c.args.a).state.drive
own c =
    let there : c.args.a < length c.args.self.now.world.adapters = omega (arith, c.requires.adapter, c.requires.sound.adapters) in
    c.drive.ensures ∙ ap (λ (v : AdapterView). v.state.drive) (c.behind-self.view_is ∙ adapter_here _ _ c.args.self.now.world _ _ c.from.ensures (ap (λ (s : State). s.world.adapters) c.self.view_is) there c.index.ensures)

pub overflow_add-result : goal.overflow_add-result
overflow_add-result c =
    let ok = c.requires.sound.each_adapter c.args.a c.requires.adapter in
    omega (arith, ok.drive, own c, c.requires.adapter)

pub returns : goal.returns
returns c = record {
  unit = ap (λ (n : ℕ). 8 * c.args.a + n) (own c);
  drive = (c.requires.sound.each_adapter c.args.a c.requires.adapter).drive;
}
