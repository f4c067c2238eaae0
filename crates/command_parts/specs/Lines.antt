-- Lines that several commands print.
use Rattle.std.specs.Prelude.{◌≡◌, ◌⊎◌, ℕ, List, [], ◌∷◌, ◌++◌, codes, decimal}
use Rattle.outside_traits.specs.Causes.{Rose}
use Rattle.outside_traits.specs.Puts.{TakesFront}

-- A text was taken whole; or the sink failed, and took a front of it.
abbrev pub Told : List ℕ → List ℕ → List ℕ → ℕ → ℕ → Type 0
Told taken taken_after text faults faults_after =
    (taken_after ≡ taken ++ text) ⊎ (Rose faults faults_after × TakesFront taken taken_after text)

-- `too long unit U length L`
abbrev pub too_long_text : ℕ → ℕ → List ℕ
too_long_text unit n = codes "too long unit " ++ decimal unit ++ codes " length " ++ decimal n ++ 10 ∷ []
