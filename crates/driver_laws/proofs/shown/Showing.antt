use Rattle.std.specs.Prelude.{◌≡◌, ◌≢◌, ℕ, ◌<◌, Bool, true, false, IsTrue, List, [], ◌∷◌, ◌++◌, take}
use Rattle.hardware_table.specs.Adapter.{next_window}
use Rattle.hardware_table.specs.Moves.{was_read}
use Rattle.main_memory.specs.Blocks.{size_at}
use Rattle.trace_replay.specs.Moments as moment
use Rattle.trace_replay.specs.Drives.{DriveMay}
use Rattle.trace_replay.specs.Adapters.{AdapterMay}
use Rattle.trace_replay.specs.Packs.{VerdictMay, flips_at, read_as}
use Rattle.trace_replay.specs.Service.{ServiceMay, in_hand, target_of}
use Rattle.trace_replay.specs.Conversation.{Stage, TalkMay, waits}
use Rattle.trace_replay.specs.Replay.{Replay, hand_of, at_unit, unit_after, replay_told, Refused, submission, replay_played}
use Rattle.driver_machine.specs.declared.Phase.{Phase}
use Rattle.driver_machine.specs.declared.Phase.TheVariants.{Queued}
use Rattle.driver_machine.specs.World.{World, adapter_of, unit_at, adapter_at, held_in, slot_in_hand}
use Rattle.driver_machine.specs.Acts as deed
use Rattle.driver_machine.specs.Acts.{Deed, Scene, Of, after, Refuse}
use Rattle.driver_machine.specs.Guards.{IsSetUp}
use Rattle.driver_laws.specs.shown.Shows.{IsAdapterSeen, outstanding_in, IsUnitSeen}
use Rattle.driver_machine.specs.Lines.{deed_told, answer_told}
use Rattle.trace_replay.specs.requests.Requests.{Request, Rejection, rejection_answer}
use Rattle.trace_replay.specs.Script as script
use Rattle.trace_replay.specs.Script.{Input}
use Rattle.trace_replay.specs.declared.requests.answers.AnswerKind.{AnswerKind}
use Rattle.driver_machine.specs.Sound.{WorkOf}

-- For which state of the replay a world of the machine stands, line by line.

-- A unit that has just become ready is seen as such before it joins its adapter's queue, which is silent.
abbrev pub is_coming : Phase → Stage → Bool
is_coming Queued stage = false
is_coming phase stage = waits stage

abbrev pub with_coming : Bool → ℕ → List ℕ → List ℕ
with_coming true u queue = queue ++ u ∷ []
with_coming false u queue = queue

-- THE REPLAY shows a world in which a unit speaks: all units that are set up, all adapters, the noise, the frames, and how many
-- requests are outstanding.
pub record Shows (u : ℕ) (w : World) (s : Replay) : Type 0 where
  pub units : (x : ℕ) → IsSetUp w x → IsUnitSeen (held_in w) (unit_at w x) (adapter_at w (adapter_of x)).state (s.units x)
  pub adapters : (a : ℕ) → a < 4 → IsAdapterSeen (adapter_at w a).state (s.adapters a).state
  pub own_ready : (at_unit s u).ready
      ≡ with_coming (is_coming (unit_at w u).phase (s.units u).stage) u (adapter_at w (adapter_of u)).queue
  pub other_ready : (a : ℕ) → a < 4 → a ≢ adapter_of u → (s.adapters a).ready ≡ (adapter_at w a).queue
  pub noise : s.surface.live ≡ w.book.live
  pub frames : s.frames ≡ w.frames
  pub outstanding : s.outstanding ≡ outstanding_in w.slots

-- WHAT MAY BE SAID: a line of a unit keeps the rules of service, of conversation, of drives, of adapters, and of packs.
pub record MaySay (s : Replay) (unit id : ℕ) (deed : moment.Deed) : Type 0 where
  pub service : ServiceMay (s.units unit).service id
  pub talk : TalkMay (s.units unit).drive (hand_of (s.units unit)) (s.units unit).stage deed
  pub drive : DriveMay (s.units unit).drive (target_of (s.units unit).drive.kind (in_hand (s.units unit).service)) deed
  pub adapter : AdapterMay (at_unit s unit).state unit deed
  pub verdict : VerdictMay s.surface unit (s.units unit).drive deed

-- A sector that is tried is that of the surface: marked or not, and a read gives its bytes as noise leaves them.
abbrev pub IsOnSurface : Replay → (u : ℕ) → Deed → Scene → Type 0
IsOnSurface s u (deed.Sector block t) scene =
    (t.marked ≡ s.surface.is_marked u block)
    × (IsTrue (was_read scene.unit.drive t.verdict)
    → t.bytes ≡ take (size_at scene.held.loan (next_window scene.adapter.state))
    (read_as (flips_at s.surface u scene.unit.drive block) (s.surface.sector u block)))
IsOnSurface s u other scene = Unit {0}

-- A deed's line may be said, and the replay behind it shows the world behind the deed.
pub record IsSaid (line u id : ℕ) (w : World) (s : Replay) (deed : Deed) (told : moment.Deed) : Type 0 where
  pub may : MaySay s u id told
  pub shows : Shows u (after w (Of line u id deed)) (replay_told s u told (unit_after s u told))

-- what a deed at a unit tells
abbrev pub told_by : World → ℕ → Deed → List moment.Deed
told_by w u deed = deed_told (held_in w (slot_in_hand (unit_at w u))) deed

-- A refusal is the replay's, and it changes nothing.
pub record IsRefused (u line : ℕ) (r : Request) (kind : AnswerKind) (w : World) (s : Replay) : Type 0 where
  pub why : Rejection
  pub met : submission s r ≡ Refused why
  pub answer : answer_told kind [] ≡ rejection_answer why
  pub shows : Shows u (after w (Refuse line r kind)) (replay_played s (script.Submit r))

-- the unit of which a line of the script changes a condition is at work: it has no request, or waits for an event
abbrev pub IsAtWorkFor : World → Input → Type 0
IsAtWorkFor w (script.Turn u sector) = WorkOf (unit_at w u).phase (unit_at w u).queue
IsAtWorkFor w (script.Arm u kind times) = WorkOf (unit_at w u).phase (unit_at w u).queue
IsAtWorkFor w (script.SetOnline u on) = WorkOf (unit_at w u).phase (unit_at w u).queue
IsAtWorkFor w (script.SetLocked u on) = WorkOf (unit_at w u).phase (unit_at w u).queue
IsAtWorkFor w input = Unit {0}
