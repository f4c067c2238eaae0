-- BEHIND SOME INPUTS of a script: what is cached, what the packs hold, and what was said; and what a line makes of it.
use Rattle.std.specs.Prelude.{◌≡◌, ◌⊎◌, ℕ, ◌≤◌, Bool, IsTrue, List, [], ◌∷◌, ◌++◌, length, Option}
use Rattle.outside_traits.specs.Causes.{Rose}
use Rattle.outside_traits.specs.Puts.{TakesFront}
use Rattle.pack_geometry.specs.declared.DriveKind.{DriveKind}
use Rattle.trace_replay.specs.Script.{Numbered, Drain, Script, inputs_of}
use Rattle.driver_laws.specs.rules.Machine.{Blocks}
use Rattle.driver_laws.specs.declared.answers.outcome.Stop.{Stop}
use Rattle.driver_laws.specs.declared.answers.outcome.Stop.TheVariants.{Sink}
use Rattle.driver_laws.specs.rules.Rest.{HasTables}
use Rattle.driver_laws.specs.rules.Waited.{with_packs}
use Rattle.buffer_cache.specs.Passes.{OthersStay, Stage, left_map, map_at, setup_at}
use Rattle.driver_laws.specs.rules.Entries.{State}
use Rattle.driver_laws.specs.rules.Contents.{cached, AllFit}
use Rattle.cached_run.specs.Answers.{answers_of, map_of_inputs, text_of, replacements_of}
use Rattle.cached_run.specs.Sessions.{calls_for}
use Rattle.cached_run.specs.Leaving.{IsCalled, IsCutIn}
use Rattle.cached_run.specs.Theorem.{IsAfter, AreParted}

-- WHAT IS PLAYED ON: the driver's world, the packs and the trace, and the sink for the answers
pub record Scene : Type 0 where
  pub site : Stage
  pub out_tells : Bool
  pub said : List ℕ
  pub out_faults : ℕ
  pub trace_faults : ℕ

-- the drives that are set up, and what the packs hold
abbrev pub drives_at : Scene → ℕ → Option DriveKind
drives_at s = (setup_at s.site).drives

abbrev pub blocks_at : Scene → ℕ → Blocks
blocks_at s = map_at s.site

-- EACH BLOCK HOLDS what some of the replacements of these inputs left, from a first scene on; those before the last sync of others among them.
pub record HoldsSome (first : Scene) (ended all : List Numbered) (now : ℕ → Blocks) : Type 0 where
  pub synced : List Numbered
  pub since : List Numbered
  pub parted : AreParted ended synced since
  pub each : (u b : ℕ) → IsAfter (replacements_of (drives_at first) (blocks_at first) all) (length (replacements_of (drives_at first) (blocks_at first) synced)) (blocks_at first) u b (now u b)

-- SO FAR these inputs came to their end, from a first scene and a cache on. What is cached is the map behind them, their answers were said,
-- and the cache was called for each of them.
pub record IsFar (first : Scene) (begun : State) (inputs : List Numbered) (s : State) (now : Scene) : Type 0 where
  pub setup : setup_at now.site ≡ with_packs (setup_at first.site) now.site.held
  pub tables : HasTables (setup_at now.site)
  pub contents : (u b : ℕ) → cached s.entries (map_at now.site) u b ≡ map_of_inputs (drives_at first) (blocks_at first) inputs u b
  pub fit : AllFit (map_at now.site) s.entries
  pub holds : HoldsSome first inputs inputs (map_at now.site)
  pub others : OthersStay (setup_at first.site) now.site.held
  pub said : IsTrue now.out_tells → now.said ≡ first.said ++ text_of (answers_of (drives_at first) (blocks_at first) inputs)
  pub later : first.out_faults ≤ now.out_faults
  pub later_trace : first.trace_faults ≤ now.trace_faults
  pub calls : IsCalled (calls_for (drives_at first) (blocks_at first) inputs) begun s first.site now.site

-- WHERE IT STOPPED the cache was called for all of these,
pub record AskedAll (first : Scene) (begun : State) (inputs : List Numbered) (now : Scene) : Type 0 where
  pub cache : State
  pub calls : IsCalled (calls_for (drives_at first) (blocks_at first) inputs) begun cache first.site now.site

-- or it stopped in a call for the last one; and where the trace failed its count rose.
pub record AskedTill (first : Scene) (begun : State) (inputs : List Numbered) (n : Numbered) (now : Scene) : Type 0 where
  pub stop : Stop
  pub rose : stop ≡ Sink → Rose first.trace_faults now.trace_faults
  pub cut : IsCutIn stop (calls_for (drives_at first) (blocks_at first) inputs) (calls_for (drives_at first) (map_of_inputs (drives_at first) (blocks_at first) inputs) (n ∷ []))
      begun first.site now.site

-- IT STOPPED at an input behind these.
pub record HasHalted (first : Scene) (begun : State) (inputs : List Numbered) (n : Numbered) (now : Scene) : Type 0 where
  pub holds : HoldsSome first inputs (inputs ++ n ∷ []) (left_map first.site now.site)
  pub others : OthersStay (setup_at first.site) now.site.held
  pub front : IsTrue now.out_tells → TakesFront (first.said ++ text_of (answers_of (drives_at first) (blocks_at first) inputs)) now.said
      (text_of (answers_of (drives_at first) (map_of_inputs (drives_at first) (blocks_at first) inputs) (n ∷ [])))
  pub asked : AskedAll first begun (inputs ++ n ∷ []) now ⊎ AskedTill first begun inputs n now
  pub whole : (Rose first.out_faults now.out_faults → ⊥) → IsTrue now.out_tells → now.said ≡ first.said ++ text_of (answers_of (drives_at first) (blocks_at first) inputs)

-- WHAT A LINE COMES TO, with no input or one, behind any inputs
abbrev pub GoesOn : List Numbered → (s s' : State) → (old new : Scene) → Type 0
GoesOn more s s' old new = (first : Scene) (begun : State) (inputs : List Numbered) → IsFar first begun inputs s old → IsFar first begun (inputs ++ more) s' new

abbrev pub Halts : List Numbered → State → (old new : Scene) → Type 0
Halts [] s old new = ⊥
Halts (n ∷ more) s old new = (first : Scene) (begun : State) (inputs : List Numbered) → IsFar first begun inputs s old → HasHalted first begun inputs n new

-- a sync says nothing
abbrev pub syncs_at : (line : ℕ) → List Numbered
syncs_at line = record { line = line; input = Drain } ∷ []

-- A SCRIPT that stopped at one of its inputs
pub record HaltsScript (script : Script) (begun : State) (old new : Scene) : Type 0 where
  pub before : List Numbered
  pub at : Numbered
  pub later : List Numbered
  pub inputs : inputs_of script ≡ before ++ at ∷ later
  pub halted : HasHalted old begun before at new
