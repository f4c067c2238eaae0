-- A move does one act at most.
use Rattle.std.proofs.Common.{◌≡◌, ◌⊎◌, inl, inr, ℕ, Bool, true, false, List, [], ◌∷◌, ◌++◌, drop, refl, sym, ap, ◌∙◌}
use Rattle.disksort.specs.declared.Waiter.{Waiter}
use Rattle.driver_machine.specs.World.{World, unit_at}
use Rattle.driver_machine.specs.Acts.{Act, Deed}
use Rattle.driver_machine.specs.Events.{in_hand, in_hand_by, or_nothing}

abbrev pub IsShort : List Act → Type 0
IsShort [] = Unit {0}
IsShort (x ∷ []) = Unit {0}
IsShort (x ∷ y ∷ rest) = ⊥

pub front_short : (acts done left : List Act) → IsShort acts → acts ≡ done ++ left → (done ≡ []) ⊎ (done ≡ acts)
front_short acts [] left short all = inl refl
front_short [] (d ∷ done) left short all = absurd (cc all)
front_short (x ∷ []) (d ∷ []) left short all =
    inr (sym (all ∙ ap (λ (l : List Act). d ∷ l) (sym (ap (λ (l : List Act). drop 1 l) all))))
front_short (x ∷ []) (d ∷ e ∷ done) left short all = absurd (let none : [] ≡ e ∷ (done ++ left) = ap (λ (l : List Act). drop 1 l) all in cc none)
front_short (x ∷ y ∷ rest) (d ∷ done) left short all = absurd short

short_in_hand : (queue : List Waiter) (line u : ℕ) (d : Deed) (w : World) → IsShort (in_hand_by queue line u d w)
short_in_hand [] line u d w = tt
short_in_hand (x ∷ rest) line u d w = tt

pub short_or : (b : Bool) (line u : ℕ) (d : Deed) (w : World) → IsShort (or_nothing b line (in_hand line u d) w)
short_or true line u d w = short_in_hand (unit_at w u).queue line u d w
short_or false line u d w = tt
