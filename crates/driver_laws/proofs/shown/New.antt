-- A new driver is quiet.
use Rattle.std.proofs.Common.{◌≡◌, ℕ, zero, suc, List, [], ◌∷◌, length-set, replicate, Option, None, refl, sym, ◌∙◌, get_or-set_same, get_or-set_other, rules}
use Rattle.std.specs.Prelude.{slice_index_or, slice_set}
use Rattle.std.proofs.lemmas.List.{get_or_past}
use Rattle.std.proofs.lemmas.Option.{none-some}
use Rattle.std.proofs.lemmas.Bool.{cases_lt, cases_eq}
use Rattle.driver_laws.specs.rules.Calm.{IsGood}
use Rattle.driver_machine.specs.World.{UnitView, Held, Setup, new_unit, no_unit, set_up}
use Rattle.driver_laws.specs.shown.Quiet.{NewIsQuiet}

-- what all of some things are, and the one beyond them
abbrev pub AreAll : {A : Type 0} → (A → Type 0) → List A → A → Type 0
AreAll P xs d = (u : ℕ) → P (slice_index_or xs u d)

all_set : {A : Type 0} (P : A → Type 0) (xs : List A) (i : ℕ) (v d : A) → P v → P d → AreAll P xs d → AreAll P (slice_set xs i v) d
all_set P xs i v d new past all u = search (rules, cases_eq, get_or-set_other, cases_lt, get_or-set_same, get_or_past, length-set)

all_replicate : {A : Type 0} (P : A → Type 0) (n : ℕ) (d : A) → P d → AreAll P (replicate n d) d
all_replicate P zero d is u = is
all_replicate P (suc n) d is zero = is
all_replicate P (suc n) d is (suc u) = all_replicate P n d is u

set_good : (setups : List Setup) (units : List UnitView) → AreAll (λ (v : UnitView). IsGood v.drive) units no_unit → AreAll (λ (v : UnitView). IsGood v.drive) (set_up setups units) no_unit
set_good [] units all = all
set_good (s ∷ setups) units all = set_good setups (slice_set units s.unit (new_unit s)) (all_set (λ (v : UnitView). IsGood v.drive) units s.unit (new_unit s) no_unit (refl, refl, refl) (refl, refl, refl) all)

abbrev pub none : Option Held
none = None

none_held : (n p : ℕ) → slice_index_or (replicate n none) p none ≡ none
none_held n p = all_replicate (λ (o : Option Held). o ≡ none) n none refl p

pub new_is_quiet : NewIsQuiet
new_is_quiet setups outstanding noises = record {
  none = λ p h is. absurd (none-some h (sym (none_held outstanding p) ∙ is));
  taken = refl;
  good = λ u set. set_good setups (replicate 32 no_unit) (all_replicate (λ (v : UnitView). IsGood v.drive) 32 no_unit (refl, refl, refl)) u;
  live = refl;
}
