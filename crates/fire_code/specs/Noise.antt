-- Noise: 1 to 64 places that are flipped.
use Rattle.std.specs.Prelude.{◌≡◌, ℕ, ◌-◌, ◌<◌, ◌≤◌, ◌==◌, cond, List, length}
use Rattle.std.specs.List.{list_any}
use Rattle.fire_code.specs.Remainder.{remainder}
use Rattle.fire_code.specs.Word.{bit_of_word}
use Rattle.fire_code.specs.Burst.{IsPlaces, IsShortBurst, IsUncorrectable}
use Rattle.fire_code.specs.declared.NoiseClass.{NoiseClass}
use Rattle.fire_code.specs.declared.NoiseClass.TheVariants.{Short, Shown, Alias}

pub record IsNoise (places : List ℕ) : Type 0 where
  pub set : IsPlaces places
  pub not_empty : 0 < length places
  pub bounded : length places ≤ 64

-- neither a short burst nor shown by its remainder
pub record IsAlias (places : List ℕ) : Type 0 where
  pub long : ¬ IsShortBurst places
  pub hidden : ¬ IsUncorrectable (remainder places)

-- Short: a short burst. Shown: no short burst has its remainder, which is not zero. Alias: neither
abbrev pub Classes : NoiseClass → List ℕ → Type 0
Classes Short places = IsShortBurst places
Classes Shown places = IsUncorrectable (remainder places)
Classes Alias places = IsAlias places

-- the bit v of place k after these places are flipped
abbrev pub flipped : List ℕ → ℕ → ℕ → ℕ
flipped places k v = cond (list_any (λ p. p == k) places) (1 - v) v

-- the word new, d is the word old, c with just these places flipped
pub record IsFlipped (places old : List ℕ) (c : ℕ) (new : List ℕ) (d : ℕ) : Type 0 where
  pub bits : (k : ℕ) → k < 4128 → bit_of_word new d k ≡ flipped places k (bit_of_word old c k)
