-- Short bursts of the rows; docs/trace-rows/rows.py writes this.
use Rattle.std.proofs.Common.{[], ◌∷◌, refl, arith}
use Rattle.fire_code.specs.Burst as burst
use Rattle.fire_code.specs.Burst.{IsBurst}
use Rattle.fire_code.specs.Remainder.{remainder}

pub burst_9_1 : IsBurst 9 1 (remainder (8 ∷ []))
unfolding burst.places_of
burst_9_1 = record { counted = omega arith; odd = refl; small = omega arith; burst = search arith; is = refl }

pub burst_9_1025 : IsBurst 9 1025 (remainder (8 ∷ 18 ∷ []))
unfolding burst.places_of
burst_9_1025 = record { counted = omega arith; odd = refl; small = omega arith; burst = search arith; is = refl }

pub burst_29_65 : IsBurst 29 65 (remainder (28 ∷ 34 ∷ []))
unfolding burst.places_of
burst_29_65 = record { counted = omega arith; odd = refl; small = omega arith; burst = search arith; is = refl }

pub burst_101_33 : IsBurst 101 33 (remainder (100 ∷ 105 ∷ []))
unfolding burst.places_of
burst_101_33 = record { counted = omega arith; odd = refl; small = omega arith; burst = search arith; is = refl }

pub burst_1691_257 : IsBurst 1691 257 (remainder (1690 ∷ 1698 ∷ []))
unfolding burst.places_of
burst_1691_257 = record { counted = omega arith; odd = refl; small = omega arith; burst = search arith; is = refl }

pub burst_4091_1025 : IsBurst 4091 1025 (remainder (4090 ∷ 4100 ∷ []))
unfolding burst.places_of
burst_4091_1025 = record { counted = omega arith; odd = refl; small = omega arith; burst = search arith; is = refl }
