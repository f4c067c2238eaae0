-- How much the lines of a script ask for.
use Rattle.std.specs.Prelude.{ℕ, ◌+◌, ◌-◌, ◌*◌, ◌/◌, ◌≤◌, max, Bool, true, false, if◌then◌else◌, List, [], ◌∷◌}
use Rattle.fire_code.specs.Burst.{IsShortBurst}
use Rattle.script_lines.specs.Known.{Said, verb_of, requests}
use Rattle.script_lines.specs.declared.statement.Request.{Request}
use Rattle.script_lines.specs.declared.statement.Statement.TheVariants as says
use Rattle.script_lines.specs.declared.verbs.Verb.{Verb}
use Rattle.script_lines.specs.declared.verbs.Verb.TheVariants as verbs

-- how many frames of 512 bytes a request takes whose first byte stands at an offset
abbrev pub frames_of : Request → ℕ
frames_of request = (request.offset + 512 * (request.count - 1) + request.last + 511) / 512

-- what is asked for takes at most 17 frames
abbrev pub IsNarrow : Said → Type 0
IsNarrow (says.Read request) = frames_of request ≤ 17
IsNarrow (says.Write request content) = frames_of request ≤ 17
IsNarrow statement = Unit {0}

-- a noise is short
abbrev pub HasShortNoise : Said → Type 0
HasShortNoise (says.Noise u block span places) = IsShortBurst places
HasShortNoise statement = Unit {0}

abbrev pub drains : Verb → Bool
drains verbs.Drain = true
drains verb = false

abbrev pub one_more : Bool → ℕ → ℕ
one_more true n = n + 1
one_more false n = n

-- the most requests between two drains, where `since` came since the last one
abbrev pub most_asked : ℕ → List Said → ℕ
most_asked since [] = since
most_asked since (statement ∷ rest) =
    if drains (verb_of statement) then max since (most_asked 0 rest) else most_asked (one_more (requests (verb_of statement)) since) rest

-- how often the faults strike that a line arms, and all lines do
abbrev pub strikes_of : Said → ℕ
strikes_of (says.Fault u what times) = times
strikes_of statement = 0

abbrev pub armed : List Said → ℕ
armed [] = 0
armed (statement ∷ rest) = strikes_of statement + armed rest
