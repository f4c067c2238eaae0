use Rattle.std.proofs.Common.{refl}
use Rattle.hp_core.proofs.Joining.{is_put}
use Rattle.hp_core.proofs.driver.Core.put_in_slot.Goals as goal

pub returns : goal.returns
returns c = rw (← c.self.view_is) (is_put _ _ _ _ _ c.join-slot.new.self c.frames_for.result c.join-slot.ensures.free c.join-slot.ensures.none c.join-slot.ensures.joined c.law.ensures.apart c.frames_for.ensures.needed refl)
