-- Each answer that waits is taken.
use Rattle.std.proofs.Common.{◌≡◌, ◌<◌, List, [], ◌∷◌, length, drop, refl, sym, ap, subst, arith, ◌∙◌, Option, None, Some}
use Rattle.std.specs.Prelude.{IfSome}
use Rattle.trace_replay.specs.declared.requests.answers.Answer.{Answer}
use Rattle.driver_machine.specs.declared.Made.{Made}
use Rattle.driver_machine.specs.World.{World}
use Rattle.driver_machine.specs.Acts.{Taken, after, after_all}
use Rattle.driver_laws.specs.answers.Waiting.{takings, all_taken}
use Rattle.driver_laws.proofs.answers.Taking.{nothing_taken}
use Rattle.hp_driver.specs.Subsystem.{State, IsOldest}
use Rattle.blocking_io.proofs.Taking.{Found, is_taken}

-- what is still to be taken comes to what was to be
pub record SoTaken (old now : State) : Type 0 where
  pub state : now ≡ record old { world = now.world }
  pub taken : all_taken now.world ≡ all_taken old.world

pub so_far : (old : State) → SoTaken old old
so_far old = record { state = refl; taken = refl }

pub one_more : (old now new : State) (answer : Answer) → Found now.world answer → (result : Option Answer)
    → IfSome result (λ _. new ≡ record now { world = after now.world Taken }) → (result ≡ None → now.world.answers ≡ [])
    → SoTaken old now → SoTaken old new
one_more old now new answer found result taken none so =
    subst (λ (s : State). SoTaken old s) (sym (is_taken now new answer result found taken none))
    (record {
      state = ap (λ (s : State). record s { world = after now.world Taken }) so.state;
      taken = sym (ap (λ (xs : List Made). after_all now.world (takings xs)) found.1.first) ∙ so.taken;
    })

-- AT THE END none waits.
pub all_are_taken : (old now : State) → SoTaken old now → now.world.answers ≡ [] → now ≡ record old { world = all_taken old.world }
all_are_taken old now so none =
    so.state ∙ ap (λ (w : World). record old { world = w }) (sym (nothing_taken now.world none) ∙ so.taken)
