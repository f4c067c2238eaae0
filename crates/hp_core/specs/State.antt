-- What the acts of the driver work on.
use Rattle.std.specs.Prelude.{ℕ, ◌≤◌, ◌+◌, ◌++◌, List, [], ◌∷◌, length, Option, None, Some}
use Rattle.pack_geometry.specs.Pack.{Pack}
use Rattle.driver_machine.specs.declared.Made.{Made}
use Rattle.driver_machine.specs.World.{World, UnitView, Held}
use Rattle.hp_units.specs.Row.{IsRow}
use Rattle.request_slots.specs.Queues.{AnswerQueue}
use Rattle.driver_laws.specs.answers.Outcome.{Site}

-- the world, and the text of the trace that is still kept
pub record State : Type 0 where
  pub world : World
  pub kept : List ℕ

-- The site of a call, with what the packs hold and what the trace took: the text that was told is what was taken, which is sent, and
-- what is still kept.
abbrev pub site : State → (ℕ → Pack) → List ℕ → Site
site state packs taken = record { world = state.world; held = packs; text = taken ++ state.kept; sent = taken }

-- how many of the answers that wait are of requests that were refused
abbrev pub one_refused : Option ℕ → ℕ
one_refused None = 1
one_refused (Some p) = 0

abbrev pub refused_in : List Made → ℕ
refused_in [] = 0
refused_in (made ∷ rest) = one_refused made.slot + refused_in rest

-- There is room for the answers: at most one is of a request that was refused, and there is room for one more than there are slots.
pub record HasRoom (slots : List (Option Held)) (answers : List Made) (most : ℕ) : Type 0 where
  pub few : length slots ≤ 16384
  pub refused : refused_in answers ≤ 1
  pub spare : length slots + 1 ≤ most

-- What the driver keeps: the row of bits says which units position, and there is room for the answers.
pub record IsKept (row : ℕ) (units : List UnitView) (slots : List (Option Held)) (answers : AnswerQueue) : Type 0 where
  pub positions : IsRow row units
  pub room : HasRoom slots answers.made answers.most
