-- A part that is done again until it has nothing to do is the same acts, however often it might be done again.
use Rattle.std.proofs.Common.{◌≡◌, ℕ, zero, suc, List, [], ◌∷◌, ◌++◌, refl, sym, ap, ◌∙◌}
use Rattle.driver_machine.specs.World.{World}
use Rattle.driver_machine.specs.Acts.{Act, after_all}
use Rattle.driver_machine.specs.Events.{Part, go_on, until}
use Rattle.driver_laws.proofs.invariant.Leads.{after_append}
use Rattle.driver_laws.proofs.invariant.Start.{until_stop}

turn_same : (part : Part) (n m : ℕ) (w : World) (acts : List Act) → part (after_all w (go_on acts (until n part) w)) ≡ []
    → part (after_all w (go_on acts (until m part) w)) ≡ []
    → ((x : World) → part (after_all x (until n part x)) ≡ [] → part (after_all x (until m part x)) ≡ [] → until n part x ≡ until m part x)
    → go_on acts (until n part) w ≡ go_on acts (until m part) w
turn_same part n m w [] over too later = refl
turn_same part n m w (act ∷ acts) over too later =
    ap (λ (rest : List Act). (act ∷ acts) ++ rest)
    (later (after_all w (act ∷ acts))
    (ap (λ (x : World). part x) (sym (after_append w (act ∷ acts) (until n part (after_all w (act ∷ acts))))) ∙ over)
    (ap (λ (x : World). part x) (sym (after_append w (act ∷ acts) (until m part (after_all w (act ∷ acts))))) ∙ too))

pub until_same : (part : Part) (n m : ℕ) (w : World) → part (after_all w (until n part w)) ≡ [] → part (after_all w (until m part w)) ≡ []
    → until n part w ≡ until m part w
until_same part zero m w over too = sym (until_stop m part w over)
until_same part (suc n) zero w over too = until_stop (suc n) part w too
until_same part (suc n) (suc m) w over too = turn_same part n m w (part w) over too (λ x. λ a. λ b. until_same part n m x a b)
