-- Live noise flips places of a sector, as the laws of what a read gives require.
use Rattle.std.specs.Prelude.{List, [], ◌∷◌}
use Rattle.fire_code.specs.Burst.{IsPlaces}
use Rattle.hardware_table.specs.Noise.{LiveNoise}

abbrev pub AllFlip : List LiveNoise → Type 0
AllFlip [] = Unit {0}
AllFlip (noise ∷ rest) = IsPlaces noise.places × AllFlip rest
