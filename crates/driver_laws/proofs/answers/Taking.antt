-- Each answer that waits is taken: what each taking keeps is kept, and none waits behind the last.
use Rattle.std.proofs.Common.{◌≡◌, ◌<◌, List, [], ◌∷◌, length, drop, refl, sym, ap, subst, arith}
use Rattle.driver_machine.specs.declared.Made.{Made}
use Rattle.driver_machine.specs.World.{World}
use Rattle.driver_machine.specs.Acts.{Taken, after, after_all}
use Rattle.driver_laws.specs.answers.Waiting.{takings, all_taken, NoneWaits}

pub some_first : (xs : List Made) (made : Made) (rest : List Made) → xs ≡ made ∷ rest → 0 < length xs
some_first xs made rest is = subst (λ (ys : List Made). 0 < length ys) (sym is) (omega arith)

pub taken_by : (P : World → Type 0) → ((x : World) → 0 < length x.answers → P x → P (after x Taken)) → (answers : List Made) (w : World)
    → w.answers ≡ answers → P w → P (after_all w (takings answers))
taken_by P step [] w is holds = holds
taken_by P step (made ∷ rest) w is holds =
    taken_by P step rest (after w Taken) (ap (λ (xs : List Made). drop 1 xs) is) (step w (some_first w.answers made rest is) holds)

taken_none : (answers : List Made) (w : World) → w.answers ≡ answers → (after_all w (takings answers)).answers ≡ []
taken_none [] w is = is
taken_none (made ∷ rest) w is = taken_none rest (after w Taken) (ap (λ (xs : List Made). drop 1 xs) is)

pub none_waits : NoneWaits
none_waits w = taken_none w.answers w refl

pub nothing_taken : (w : World) → w.answers ≡ [] → all_taken w ≡ w
nothing_taken w none = ap (λ (xs : List Made). after_all w (takings xs)) none
