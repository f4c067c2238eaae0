-- What a line may rest on: what the lines before it said.
use Rattle.std.specs.Prelude.{ℕ, ◌==◌, nat_le, Bool, true, false, not, if◌then◌else◌, List, [], ◌∷◌, Option, None, Some, count_by, Result, Ok, Err}
use Rattle.std.specs.List.{list_any}
use Rattle.pack_geometry.specs.declared.DriveKind.{DriveKind}
use Rattle.script_lines.specs.declared.statement.Line.{Line}
use Rattle.script_lines.specs.declared.statement.Statement.{Statement}
use Rattle.script_lines.specs.declared.statement.Statement.TheVariants as says
use Rattle.script_lines.specs.declared.verbs.Verb.{Verb}
use Rattle.script_lines.specs.declared.verbs.Verb.TheVariants as verbs
use Rattle.script_lines.specs.declared.kinds.ScriptKind.{ScriptKind}
use Rattle.script_lines.specs.declared.kinds.ScriptKind.TheVariants.{UnitUnknown, UnitTwice, IdTwice}
use Rattle.script_lines.specs.Fields.{and_then, number_field}

-- what a line says, with the digits of a write and the places of a noise themselves
abbrev pub Said : Type 0
Said = Statement (List ℕ) (List ℕ)

-- a line with its number
abbrev pub Numbered : Type 0
Numbered = Line (List ℕ) (List ℕ)

-- the kinds of the units that were declared, the ids that were used, whether a line with another word than `unit`
-- came, and how many requests and noises there were
pub record Known : Type 0 where
  pub kinds : ℕ → Option DriveKind
  pub used : ℕ → Bool
  pub later : Bool
  pub requests : ℕ
  pub noises : ℕ

-- the word of what a line says
abbrev pub verb_of : {D N : Type 0} → Statement D N → Verb
verb_of (says.Unit unit_number kind) = verbs.Unit
verb_of (says.Read request) = verbs.Read
verb_of (says.Write request content) = verbs.Write
verb_of (says.Arrive unit_number) = verbs.Arrive
verb_of (says.Turn unit_number sector) = verbs.Turn
verb_of (says.Move adapter) = verbs.Move
verb_of (says.Attend adapter) = verbs.Attend
verb_of (says.Noise unit_number block span places) = verbs.Noise
verb_of (says.Fault unit_number what times) = verbs.Fault
verb_of (says.Offline unit_number) = verbs.Offline
verb_of (says.Online unit_number) = verbs.Online
verb_of (says.Lock unit_number) = verbs.Lock
verb_of (says.Unlock unit_number) = verbs.Unlock
verb_of says.Drain = verbs.Drain

abbrev pub declares : Verb → Bool
declares verbs.Unit = true
declares verb = false

abbrev pub requests : Verb → Bool
requests verbs.Read = true
requests verbs.Write = true
requests verb = false

abbrev pub strikes : Verb → Bool
strikes verbs.Noise = true
strikes verb = false

abbrev pub has_id : {D N : Type 0} → ℕ → Statement D N → Bool
has_id id (says.Read request) = request.id == id
has_id id (says.Write request content) = request.id == id
has_id id said = false

-- the kind of a unit that a line declares, or else what was known of it
abbrev pub kind_after : {D N : Type 0} → ℕ → Statement D N → Option DriveKind → Option DriveKind
kind_after u (says.Unit unit_number kind) before = if unit_number == u then Some kind else before
kind_after u said before = before

-- the kind that the last of some lines to declare a unit gave it
abbrev pub kind_in : {D N : Type 0} → ℕ → List (Line D N) → Option DriveKind → Option DriveKind
kind_in u [] before = before
kind_in u (line ∷ lines) before = kind_in u lines (kind_after u line.statement before)

abbrev pub known_of : {D N : Type 0} → List (Line D N) → Known
known_of lines = record {
  kinds = λ u. kind_in u lines None;
  used = λ id. list_any (λ line. has_id id line.statement) lines;
  later = list_any (λ line. not (declares (verb_of line.statement))) lines;
  requests = count_by (λ line. requests (verb_of line.statement)) lines;
  noises = count_by (λ line. strikes (verb_of line.statement)) lines;
}

-- a line with this word would be request number 65,537 or noise number 4,097
abbrev pub is_full : Known → Verb → Bool
is_full known verb = if requests verb then nat_le 65536 known.requests else if strikes verb then nat_le 4096 known.noises else false

-- FIELDS that rest on it. A unit's number that was not declared before
abbrev pub fresh : Option DriveKind → ℕ → Result ℕ ScriptKind
fresh (Some kind) u = Err UnitTwice
fresh None u = Ok u

abbrev pub new_unit_field : Known → List ℕ → Result ℕ ScriptKind
new_unit_field known field = and_then (number_field 0 31 field) (λ u. fresh (known.kinds u) u)

-- a declared unit's number, with its kind
abbrev pub old : Option DriveKind → ℕ → Result (ℕ × DriveKind) ScriptKind
old (Some kind) u = Ok (u, kind)
old None u = Err UnitUnknown

abbrev pub unit_field : Known → List ℕ → Result (ℕ × DriveKind) ScriptKind
unit_field known field = and_then (number_field 0 31 field) (λ u. old (known.kinds u) u)

-- a request's id that was not used before
abbrev pub id_field : Known → List ℕ → Result ℕ ScriptKind
id_field known field = and_then (number_field 0 4294967295 field) (λ id. if known.used id then Err IdTwice else Ok id)
