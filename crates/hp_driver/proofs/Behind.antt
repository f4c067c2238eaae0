-- Whatever a call comes to, some acts ran, and they leave what holds between any two acts.
use Rattle.std.proofs.Common.{◌≡◌, List, length, Option, Some, None, sym, ap, ◌∙◌, subst}
use Rattle.driver_machine.specs.World.{World}
use Rattle.driver_machine.specs.Acts.{Act, after_all}
use Rattle.driver_machine.specs.Sound.{Sound}
use Rattle.driver_laws.proofs.invariant.Sizes.{sizes_all}
use Rattle.driver_machine.specs.Runs.{Run}
use Rattle.driver_laws.proofs.invariant.Leads.{sound_along}
use Rattle.hp_driver.proofs.Passes.{sound_after}
use Rattle.driver_laws.specs.shown.QuietPasses.{Site, Told, Outcome, AllFlip}
use Rattle.driver_laws.specs.declared.answers.outcome.Stop.{Stop}
use Rattle.driver_laws.specs.declared.answers.outcome.Stop.TheVariants.{Store, Sink}
use Rattle.driver_laws.proofs.shown.QuietPasses.{acts_keep_noise}

-- some acts ran, and left this world
pub record Ran (w now : World) : Type 0 where
  pub acts : List Act
  pub run : Run w acts
  pub world : now ≡ after_all w acts

pub ran_by : (told : Told) (acts : List Act) (old new : Site) (stop : Option Stop) → Outcome told acts old new stop → Ran old.world new.world
ran_by told acts old new None is = record { acts = acts; run = is.does.run; world = is.does.world }
ran_by told acts old new (Some Sink) is = record { acts = is.done; run = is.does.run; world = is.does.world }
ran_by told acts old new (Some Store) is = record { acts = is.done; run = is.does.does.run; world = is.world ∙ is.does.does.world }

pub ran_sound : (w now : World) → Ran w now → Sound w → Sound now
ran_sound w now ran sound = subst Sound (sym ran.world) (sound_along sound_after w ran.acts sound ran.run)

pub ran_noise : (w now : World) → Ran w now → AllFlip w.book.live → AllFlip now.book.live
ran_noise w now ran all = subst (λ (x : World). AllFlip x.book.live) (sym ran.world) (acts_keep_noise w ran.acts ran.run all)

pub ran_slots : (w now : World) → Ran w now → length now.slots ≡ length w.slots
ran_slots w now ran = ap (λ (x : World). length x.slots) ran.world ∙ (sizes_all w ran.acts).slots
