-- Acts that run, one part behind another, and what holds behind them.
use Rattle.std.proofs.Common.{◌≡◌, List, [], ◌∷◌, ◌++◌, refl}
use Rattle.driver_machine.specs.World.{World}
use Rattle.driver_machine.specs.Acts.{Act, after, after_all}
use Rattle.driver_machine.specs.Events.{Part, followed}
use Rattle.driver_machine.specs.Guards.{Allowed}
use Rattle.driver_machine.specs.Sound.{Sound}
use Rattle.driver_machine.specs.Runs.{Run}
use Rattle.driver_laws.specs.invariant.InvariantKept.{EachActKeeps}

-- the acts run, and P holds of the world behind them
pub record Leads (P : World → Type 0) (w : World) (acts : List Act) : Type 0 where
  pub run : Run w acts
  pub holds : P (after_all w acts)

pub nothing : (P : World → Type 0) (w : World) → P w → Leads P w []
nothing P w holds = record { run = tt; holds = holds }

pub one_more : (P : World → Type 0) (w : World) (act : Act) (acts : List Act) → Allowed w act → Leads P (after w act) acts → Leads P w (act ∷ acts)
one_more P w act acts allowed leads = record { run = (allowed, leads.run); holds = leads.holds }

pub alone : (P : World → Type 0) (w : World) (act : Act) → Allowed w act → P (after w act) → Leads P w (act ∷ [])
alone P w act allowed holds = one_more P w act [] allowed (nothing P (after w act) holds)

-- one part behind another
pub then_part : (P Q : World → Type 0) (w : World) (acts : List Act) (part : Part) → Leads P w acts
    → ((x : World) → P x → Leads Q x (part x)) → Leads Q w (followed acts part w)
then_part P Q w acts part first next =
    more acts w part first.run (next (after_all w acts) first.holds)
  where
    more : (acts : List Act) (w : World) (part : Part) → Run w acts → Leads Q (after_all w acts) (part (after_all w acts))
        → Leads Q w (followed acts part w)
    more [] w part run leads = leads
    more (act ∷ acts) w part run leads = one_more Q w act (followed acts part (after w act)) run.0 (more acts (after w act) part run.1 leads)

-- one run behind another
pub after_append : (w : World) (xs ys : List Act) → after_all w (xs ++ ys) ≡ after_all (after_all w xs) ys
after_append w [] ys = refl
after_append w (x ∷ xs) ys = after_append (after w x) xs ys

pub run_split : (w : World) (xs ys : List Act) → Run w (xs ++ ys) → Run w xs × Run (after_all w xs) ys
run_split w [] ys run = (tt, run)
run_split w (x ∷ xs) ys run =
    let rest : Run (after w x) xs × Run (after_all (after w x) xs) ys = run_split (after w x) xs ys run.1 in
    ((run.0, rest.0), rest.1)

-- what holds between any two acts holds all along a run
pub sound_along : EachActKeeps → (w : World) (acts : List Act) → Sound w → Run w acts → Sound (after_all w acts)
sound_along stays w [] sound run = sound
sound_along stays w (act ∷ acts) sound run = sound_along stays (after w act) acts (stays w act sound run.0) run.1

-- what follows from what holds
pub so_too : (P Q : World → Type 0) (w : World) (acts : List Act) → Leads P w acts → (P (after_all w acts) → Q (after_all w acts)) → Leads Q w acts
so_too P Q w acts leads so = record { run = leads.run; holds = so leads.holds }
