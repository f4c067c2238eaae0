use Rattle.std.proofs.Common.{refl, sym, subst, ◌<◌}
use Rattle.hardware_table.specs.Noise.{Book, book_armed}
use Rattle.hp_core.specs.State.{State}
use Rattle.hp_core.proofs.Telling.{silent_act}
use Rattle.hp_core.proofs.Scenes.{book_inside}
use Rattle.hp_core.proofs.driver.Core.arm_noise.Goals as goal

pub arm-requires : goal.arm-requires
arm-requires c = subst (λ (s : State). s.world.book.armed < s.world.book.capacity) (sym c.self.view_is) (c.requires.may.4)

pub returns : goal.returns
returns c = silent_act _ _ _ (record { reads = λ w p. tt; packs = λ w p. refl }) c.requires.may refl (book_inside _ _ _ (λ (b : Book). book_armed (record { unit = c.args.unit; block = c.args.block; span = c.args.span; places = c.args.noise }) b) c.self.view_is c.arm.ensures)
