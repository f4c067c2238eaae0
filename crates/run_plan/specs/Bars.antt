-- BARS, one behind another, and the columns that they stand for.
use Rattle.std.specs.Prelude.{ℕ, suc, ◌-◌, List, [], ◌∷◌, replicate}
use Rattle.std.specs.List.{flat_map}
use Rattle.drive_pictures.specs.declared.letters.Letter.{Letter}
use Rattle.run_plan.specs.declared.bars.Bar.{Bar}

-- a column by its number, and its letter
pub record Lettered : Type 0 where
  pub column : ℕ
  pub letter : Letter

-- letters with the numbers of their columns, from one on
abbrev pub numbered : ℕ → List Letter → List Lettered
numbered n [] = []
numbered n (l ∷ ls) = record { column = n; letter = l } ∷ numbered (suc n) ls

-- THE COLUMNS THAT BARS STAND FOR: of each bar those from its first up to the one behind its last, with its letter
abbrev pub columns_in : Bar → List Lettered
columns_in bar = numbered bar.from (replicate (bar.to - bar.from) bar.letter)

abbrev pub columns_of : List Bar → List Lettered
columns_of bars = flat_map columns_in bars
