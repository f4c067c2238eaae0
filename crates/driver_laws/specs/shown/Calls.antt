-- A call of the driver in the replay: its lines follow, and after them the replay shows the world after its acts, with the packs as
-- they are left.
use Rattle.std.specs.Prelude.{◌≡◌, ℕ, Bool, false, filter, ◌&&◌, nat_lt, IsTrue}
use Rattle.pack_geometry.specs.Pack.{Pack, block_at, is_marked}
use Rattle.hardware_table.specs.Adapter.{next_block}
use Rattle.trace_replay.specs.Script as script
use Rattle.trace_replay.specs.Script.{Input}
use Rattle.trace_replay.specs.Events.{Act, NoLine}
use Rattle.trace_replay.specs.Replay.{Replay, all_units, next_wish, drained}
use Rattle.driver_machine.specs.World.{World, unit_at, adapter_at, unit_of}
use Rattle.driver_machine.specs.Acts.{Tried}
use Rattle.driver_machine.specs.Events.{can_move}
use Rattle.request_slots.specs.Move.{struck_at}
use Rattle.trace_replay.specs.Bytes.{ArePlaces}
use Rattle.driver_laws.specs.answers.Packs.{IsOfPack}
use Rattle.driver_machine.specs.Sound.{Sound, AtWork}
use Rattle.trace_replay.specs.Conversation.{goes_on}
use Rattle.driver_laws.specs.shown.Within.{ShowsAll, Rests}

-- THE PACKS hold what the surface has.
pub record IsSurfaceOf (held : ℕ → Pack) (s : Replay) : Type 0 where
  pub sectors : (unit block : ℕ) → s.surface.sector unit block ≡ block_at (held unit).image block
  pub marks : (unit block : ℕ) → s.surface.is_marked unit block ≡ is_marked (held unit) block

-- BETWEEN TWO CALLS the driver is sound and at work, the replay shows it, and no line comes next.
pub record Stands (held : ℕ → Pack) (w : World) (s : Replay) : Type 0 where
  pub sound : Sound w
  pub work : AtWork w
  pub shows : ShowsAll w s
  pub quiet : (x : ℕ) → goes_on (s.units x).stage ≡ false
  pub over : next_wish s ≡ NoLine
  pub packs : IsSurfaceOf held s

-- AN EVENT IS OVER: no unit speaks, and no line comes next in it.
pub record IsOverWithin (line : ℕ) (drains : Bool) (w : World) (s : Replay) : Type 0 where
  pub act : Act
  pub rests : Rests line drains act w s
  pub over : next_wish s ≡ NoLine

-- and a drain goes on to its next one.
pub record Ends (line : ℕ) (drains : Bool) (held : ℕ → Pack) (w : World) (s : Replay) : Type 0 where
  pub last : Replay
  pub is : s ≡ drained last
  pub over : IsOverWithin line drains w last
  pub packs : IsSurfaceOf held last

-- THE UNITS that are there are those that are set up.
abbrev pub AreThere : World → Replay → Type 0
AreThere w s = s.there ≡ filter (λ u. (unit_at w u).declared) all_units

-- A sector that a move tries is that of the packs, as live noise leaves it, which flips places of a sector.
pub record IsReadFrom (w : World) (held : ℕ → Pack) (u block : ℕ) (tried : Tried) : Type 0 where
  pub flips : ArePlaces (struck_at u block (unit_at w u).drive w.book)
  pub read : IsOfPack w u block tried held

abbrev pub IsReadOf : World → (ℕ → Pack) → Input → Tried → Type 0
IsReadOf w held (script.MoveAt a) tried = IsTrue (can_move (adapter_at w a)) → IsReadFrom w held (unit_of w a) (next_block (adapter_at w a).state) tried
IsReadOf w held input tried = Unit {0}

-- WHERE A LINE OF THE SCRIPT MAY COME NEXT: behind the last one, and of a drain where no request is outstanding.
pub record IsLeft (line : ℕ) (held : ℕ → Pack) (w : World) (s : Replay) : Type 0 where
  pub stands : Stands held w s
  pub line_is : s.event.line ≡ line
  pub finished : s.event.drains && nat_lt 0 s.outstanding ≡ false
