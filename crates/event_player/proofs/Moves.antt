-- Which events move a sector, and what such a move says.
use Rattle.std.proofs.Common.{◌≡◌, ℕ, Bool, true, false, List, [], ◌∷◌, refl, sym, arith}
use Rattle.std.proofs.lemmas.Bool.{false≢true}
use Rattle.disksort.specs.declared.Waiter.{Waiter}
use Rattle.hardware_table.specs.Adapter.{next_block}
use Rattle.pack_geometry.specs.Pack.{Pack}
use Rattle.trace_replay.specs.Moments.{Idle}
use Rattle.trace_replay.specs.Script as says
use Rattle.trace_replay.specs.Script.{Input}
use Rattle.driver_machine.specs.World.{World, unit_at, adapter_at, unit_of}
use Rattle.driver_machine.specs.Acts.{Tried, Sector}
use Rattle.driver_machine.specs.Lines.{lines_of_all}
use Rattle.driver_machine.specs.Events.{event_acts, in_hand, in_hand_by, or_nothing, can_move}
use Rattle.driver_machine.specs.Sound.{Sound}
use Rattle.driver_machine.specs.Runs.{Run, MayCome}
use Rattle.driver_laws.specs.answers.Packs.{ReadAll}
use Rattle.script_runs.specs.StopsPasses.{IsReadOf, AllFlip}
use Rattle.hp_driver.specs.Subsystem.{IsThere, is_move, writes_by}
use Rattle.hp_driver.proofs.Moves.{tried_by_rules, read_from}
use Rattle.script_runs.specs.Ahead.{SaysOneSector}
use Rattle.event_player.proofs.OneAct.{IsShort, short_or}

-- A MOVE says one line at most.
pub says_none : SaysOneSector []
says_none = record { few = omega arith; silent = refl }

says_idle : (line : ℕ) → SaysOneSector (Idle line ∷ [])
says_idle line = record { few = omega arith; silent = refl }

one_in_hand : (queue : List Waiter) (line u block : ℕ) (t : Tried) (w : World) → SaysOneSector (lines_of_all w (in_hand_by queue line u (Sector block t) w))
one_in_hand [] line u block t w = says_none
one_in_hand (x ∷ rest) line u block t w = record { few = omega arith; silent = refl }

one_or : (b : Bool) (line u block : ℕ) (t : Tried) (w : World) → SaysOneSector (lines_of_all w (or_nothing b line (in_hand line u (Sector block t)) w))
one_or true line u block t w = one_in_hand (unit_at w u).queue line u block t w
one_or false line u block t w = says_idle line

pub one_of : (line : ℕ) (input : Input) (tried : Tried) (w : World) → is_move input ≡ true → SaysOneSector (lines_of_all w (event_acts line input tried w))
one_of line (says.MoveAt a) tried w is = one_or (can_move (adapter_at w a)) line (unit_of w a) (next_block (adapter_at w a).state) tried w
one_of line other tried w is = absurd (false≢true is)

pub record IsMoveOf (line : ℕ) (input : Input) (tried : Tried) (w : World) (held : ℕ → Pack) : Type 0 where
  pub short : IsShort (event_acts line input tried w)
  pub may : Run w (event_acts line input tried w) → MayCome w input tried
  pub reads : ReadAll w held (event_acts line input tried w) → IsReadOf w held input tried

pub move_of : (line : ℕ) (input : Input) (tried : Tried) (w : World) (held : ℕ → Pack) → is_move input ≡ true → Sound w → AllFlip w.book.live → IsMoveOf line input tried w held
move_of line (says.MoveAt a) tried w held is sound noise = record {
  short = short_or (can_move (adapter_at w a)) line (unit_of w a) (Sector (next_block (adapter_at w a).state) tried) w;
  may = λ run can. tried_by_rules w line a tried sound can run;
  reads = λ reads can. read_from w line a tried sound can held noise reads;
}
move_of line other tried w held is sound noise = absurd (false≢true is)

-- Any other event may come wherever it speaks of what is there.
pub still_may : (input : Input) (tried : Tried) (w : World) (held : ℕ → Pack) → is_move input ≡ false → IsThere w input → MayCome w input tried × IsReadOf w held input tried
still_may (says.MoveAt a) tried w held is there = absurd (false≢true (sym is))
still_may (says.Submit r) tried w held is there = absurd there
still_may (says.ArriveAt u) tried w held is there = (tt, tt)
still_may (says.AttendTo a) tried w held is there = (tt, tt)
still_may says.Drain tried w held is there = absurd there
still_may other tried w held is there = (there, tt)

pub move_is : (input : Input) → is_move input ≡ true → (a : ℕ) × (input ≡ says.MoveAt a)
move_is (says.MoveAt a) is = (a, refl)
move_is other is = absurd (false≢true is)

-- only a move may write
pub writes_move : (w : World) (input : Input) → writes_by w input ≡ true → is_move input ≡ true
writes_move w (says.MoveAt a) is = refl
writes_move w other is = absurd (false≢true is)
