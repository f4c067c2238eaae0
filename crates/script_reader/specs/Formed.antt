-- Well-formed statements: each number is in its range, and each unit and id is as it has to be behind what is known.
use Rattle.std.specs.Prelude.{◌≡◌, ℕ, ◌+◌, ◌*◌, ◌<◌, ◌≤◌, ◌||◌, true, false, not, List, [], ◌∷◌, length, None, Some}
use Rattle.std.specs.List.{list_all}
use Rattle.fire_code.specs.Noise.{IsNoise}
use Rattle.hex.specs.Hex.{is_hex_digit}
use Rattle.pack_geometry.specs.declared.DriveKind.{DriveKind}
use Rattle.pack_geometry.specs.Geometry.{block_count, sectors_of}
use Rattle.hardware_table.specs.declared.NoiseSpan.{NoiseSpan}
use Rattle.hardware_table.specs.declared.NoiseSpan.TheVariants.{Times, Until}
use Rattle.script_lines.specs.declared.dialect.Dialect.{Dialect}
use Rattle.script_lines.specs.declared.dialect.Dialect.TheVariants.{Events, Cached}
use Rattle.script_lines.specs.declared.statement.Content.{Content}
use Rattle.script_lines.specs.declared.statement.Content.TheVariants as contents
use Rattle.script_lines.specs.declared.statement.Request.{Request}
use Rattle.script_lines.specs.declared.statement.Statement.TheVariants as says
use Rattle.script_lines.specs.Forms.{too_late}
use Rattle.script_lines.specs.Known.{Known, Said, verb_of, kind_after, has_id, declares, requests, strikes}
use Rattle.script_lines.specs.Knowing.{one}
use Rattle.script_reader.specs.cached.Scripts.{IsOfCache}

-- a unit was declared, as a drive of this kind, and as one of any kind
abbrev pub IsDrive : Known → ℕ → DriveKind → Type 0
IsDrive known u kind = (u ≤ 31) × (known.kinds u ≡ Some kind)

abbrev pub IsDeclared : Known → ℕ → Type 0
IsDeclared known u = (kind : DriveKind) × IsDrive known u kind

-- so often something strikes
abbrev pub AreTimes : ℕ → Type 0
AreTimes n = (1 ≤ n) × (n ≤ 1000)

-- blocks are asked for under a new id
pub record IsAsked (known : Known) (request : Request) : Type 0 where
  pub id : request.id ≤ 4294967295
  pub new : known.used request.id ≡ false
  pub declared : IsDeclared known request.unit
  pub block : request.block ≤ 4294967295
  pub some : 1 ≤ request.count
  pub count : request.count ≤ 127
  pub offset : request.offset ≤ 511
  pub byte : 1 ≤ request.last
  pub last : request.last ≤ 512

-- so many blocks are written with this
abbrev pub IsWritten : ℕ → Content (List ℕ) → Type 0
IsWritten count (contents.Fill b) = b ≤ 255
IsWritten count (contents.Seq n) = n ≤ 255
IsWritten count (contents.Hex digits) = (length digits ≡ 1024 * count) × (list_all is_hex_digit digits ≡ true)

abbrev pub IsSpan : NoiseSpan → Type 0
IsSpan (Times n) = AreTimes n
IsSpan (Until code) = Unit {0}

-- a block of a declared unit has noise
pub record IsStruck (known : Known) (u block : ℕ) (span : NoiseSpan) (places : List ℕ) : Type 0 where
  pub kind : DriveKind
  pub drive : IsDrive known u kind
  pub inside : block < block_count kind
  pub spans : IsSpan span
  pub noise : IsNoise places

-- what a statement says is in its ranges
abbrev pub IsInRange : Known → Said → Type 0
IsInRange known (says.Unit u kind) = (u ≤ 31) × (known.kinds u ≡ None)
IsInRange known (says.Read request) = IsAsked known request
IsInRange known (says.Write request content) = IsAsked known request × IsWritten request.count content
IsInRange known (says.Arrive u) = IsDeclared known u
IsInRange known (says.Turn u sector) = (kind : DriveKind) × IsDrive known u kind × (sector < sectors_of kind)
IsInRange known (says.Move a) = a ≤ 3
IsInRange known (says.Attend a) = a ≤ 3
IsInRange known (says.Noise u block span places) = IsStruck known u block span places
IsInRange known (says.Fault u what times) = IsDeclared known u × AreTimes times
IsInRange known (says.Offline u) = IsDeclared known u
IsInRange known (says.Online u) = IsDeclared known u
IsInRange known (says.Lock u) = IsDeclared known u
IsInRange known (says.Unlock u) = IsDeclared known u
IsInRange known says.Drain = Unit {0}

-- A statement may stand behind what is known: it comes in time, and is not one too many.
pub record IsWell (known : Known) (statement : Said) : Type 0 where
  pub in_time : too_late known (verb_of statement) ≡ None
  pub in_range : IsInRange known statement

-- what is known after one more statement
abbrev pub learned : Known → Said → Known
learned known statement = record {
  kinds = λ u. kind_after u statement (known.kinds u);
  used = λ id. known.used id || has_id id statement;
  later = known.later || not (declares (verb_of statement));
  requests = known.requests + one (requests (verb_of statement));
  noises = known.noises + one (strikes (verb_of statement));
}

-- In a script of the cache ids may come again, and only its own statements are there.
abbrev pub without_ids : Known → Known
without_ids known = record known { used = λ id. false }

abbrev pub IsWellIn : Dialect → Known → Said → Type 0
IsWellIn Events known statement = IsWell known statement
IsWellIn Cached known statement = IsWell (without_ids known) statement × IsOfCache statement

-- statements, each well formed behind those before it
abbrev pub AreWellIn : Dialect → Known → List Said → Type 0
AreWellIn dialect known [] = Unit {0}
AreWellIn dialect known (statement ∷ rest) = IsWellIn dialect known statement × AreWellIn dialect (learned known statement) rest

-- the same of a script of events
abbrev pub AreWell : Known → List Said → Type 0
AreWell known statements = AreWellIn Events known statements
