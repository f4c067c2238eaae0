-- WHICH ANSWERS to a script are legal.
use Rattle.std.specs.Prelude.{◌≡◌, ℕ, ◌<◌, ◌≤◌, ◌+◌, ◌==◌, if◌then◌else◌, List, [], ◌∷◌, ◌++◌, Option, Some, Contains}
use Rattle.pack_geometry.specs.declared.DriveKind.{DriveKind}
use Rattle.pack_geometry.specs.Pack as model
use Rattle.pack_geometry.specs.TableSpelling.{Table}
use Rattle.pack_geometry.specs.Homes.{home_of}
use Rattle.fire_code.specs.Noise.{IsAlias}
use Rattle.hardware_table.specs.Noise.{LiveNoise}
use Rattle.trace_replay.specs.requests.Requests.{Request, first_block}
use Rattle.trace_replay.specs.Script.{Input, Noise, Numbered}
use Rattle.trace_replay.specs.Moments.{Answered}
use Rattle.driver_laws.specs.rules.Machine.{Blocks, Machine, idle, after_input, answers_of_input, kind_of, Steps}

-- The answers that come at one input: first that of its submission, where it is refused at once, and then answers of outstanding
-- requests, in their order.
pub record AnswersAt (drives : ℕ → Option DriveKind) (claims : (line : ℕ) → Request → Type 0) (old : Machine) (n : Numbered)
    (answers : List Answered) (new : Machine) : Type 0 where
  pub later : List Answered
  pub order : answers ≡ answers_of_input drives old n.line n.input ++ later
  pub steps : Steps drives claims n.line (after_input drives old n.input) later new

-- the answers to inputs in order: those at the first input, and then those to the others
abbrev pub AnswersTo : (ℕ → Option DriveKind) → ((line : ℕ) → Request → Type 0) → Machine → List Numbered → List Answered → Machine → Type 0
AnswersTo drives claims old [] answers new = (answers ≡ []) × (new ≡ old)
AnswersTo drives claims old (n ∷ inputs) answers new =
    (here rest : List Answered) × (mid : Machine) × (answers ≡ here ++ rest) × AnswersAt drives claims old n here mid
    × AnswersTo drives claims mid inputs rest new

-- LEGAL ANSWERS to inputs, from a first map to a last one: at first and behind the last input no request is outstanding.
abbrev pub AreLegal : (ℕ → Option DriveKind) → ((line : ℕ) → Request → Type 0) → List Numbered → List Answered → (first last : ℕ → Blocks) → Type 0
AreLegal drives claims inputs answers first last = AnswersTo drives claims (idle first) inputs answers (idle last)

-- ALIAS NOISE leaves a read with wrong bytes, of which no verdict tells. An input at or before a line arms such noise at the home
-- of a block of a request.
pub record IsAliased (drives : ℕ → Option DriveKind) (tables : ℕ → Option Table) (packs : ℕ → model.Pack) (inputs : List Numbered)
    (line : ℕ) (r : Request) : Type 0 where
  pub at : ℕ
  pub noise : LiveNoise
  pub block : ℕ
  pub armed : Contains inputs (record { line = at; input = Noise noise })
  pub before : at ≤ line
  pub alias : IsAlias noise.places
  pub unit : noise.unit ≡ r.unit
  pub is_block : block < r.count
  pub at_home : home_of (kind_of drives r.unit) (tables r.unit) (packs r.unit) (first_block (kind_of drives r.unit) r + block) ≡ Some noise.block

-- the bytes of all other reads are claimed
abbrev pub unaliased : (ℕ → Option DriveKind) → (ℕ → Option Table) → (ℕ → model.Pack) → List Numbered → (line : ℕ) → Request → Type 0
unaliased drives tables packs inputs line r = ¬ (IsAliased drives tables packs inputs line r)

-- no input arms alias noise
abbrev pub IsNoAlias : Input → Type 0
IsNoAlias (Noise noise) = ¬ (IsAlias noise.places)
IsNoAlias input = Unit {0}

-- and none of them does
abbrev pub AreNoAliases : List Numbered → Type 0
AreNoAliases [] = Unit {0}
AreNoAliases (n ∷ inputs) = IsNoAlias n.input × AreNoAliases inputs

-- and then those of all reads are
abbrev pub all_claimed : (line : ℕ) → Request → Type 0
all_claimed line r = Unit {0}

-- how often an id is answered
abbrev pub times_answered : ℕ → List Answered → ℕ
times_answered id [] = 0
times_answered id (a ∷ answers) = (if a.id == id then 1 else 0) + times_answered id answers
