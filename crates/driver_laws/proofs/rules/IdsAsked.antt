use Rattle.std.specs.Prelude.{ℕ, List, [], ◌∷◌}
use Rattle.trace_replay.specs.Script.{Input, Submit, Numbered}

-- The ids that lines of a script ask for.

-- the ids that are asked for, in order: with that of an input
abbrev pub with_asked : Input → List ℕ → List ℕ
with_asked (Submit r) ids = r.id ∷ ids
with_asked input ids = ids

-- of all inputs
abbrev pub ids_asked : List Numbered → List ℕ
ids_asked [] = []
ids_asked (n ∷ inputs) = with_asked n.input (ids_asked inputs)
