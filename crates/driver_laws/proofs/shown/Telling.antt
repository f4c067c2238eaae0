-- What the acts of one event tell, in the replay: within an event a drain does not go on to its next one.
use Rattle.std.specs.Prelude.{◌≡◌, ◌≢◌, ℕ, Bool, false, List, [], ◌∷◌}
use Rattle.pack_geometry.specs.Pack as model
use Rattle.trace_replay.specs.Moments.{Deed, Moment, Told}
use Rattle.trace_replay.specs.Conversation.{goes_on}
use Rattle.trace_replay.specs.Events.{Act}
use Rattle.trace_replay.specs.Replay.{Replay, LineMay, Follows, after_moments, unit_after, replay_told}
use Rattle.driver_machine.specs.World.{World, UnitView, adapter_of, unit_at, adapter_at}
use Rattle.driver_machine.specs.Acts as machine
use Rattle.driver_machine.specs.Acts.{after_all}
use Rattle.driver_machine.specs.Lines.{lines_of_all}
use Rattle.driver_machine.specs.Guards.{IsSetUp}
use Rattle.driver_machine.specs.Sound.{Sound}
use Rattle.driver_laws.specs.answers.Packs.{packs_after_all}
use Rattle.driver_laws.specs.shown.Within.{IsEvent}
use Rattle.driver_laws.specs.shown.Calls.{Ends}
use Rattle.driver_laws.proofs.shown.Showing.{Shows}

-- THE LINES of one event, each after those before it
abbrev pub told_within : Replay → (unit : ℕ) → Deed → Replay
told_within s unit deed = replay_told s unit deed (unit_after s unit deed)

abbrev pub within : Replay → Moment → Replay
within s (Told line unit id deed) = told_within s unit deed
within s m = s

abbrev pub within_all : Replay → List Moment → Replay
within_all s [] = s
within_all s (m ∷ ms) = within_all (within s m) ms

-- each of them is a line of a unit that may come
abbrev pub LineFollows : Replay → Moment → Type 0
LineFollows s (Told line unit id deed) = LineMay s line unit id deed
LineFollows s m = ⊥

abbrev pub LinesFollow : Replay → List Moment → Type 0
LinesFollow s [] = Unit {0}
LinesFollow s (m ∷ ms) = LineFollows s m × LinesFollow (within s m) ms

-- A UNIT SPEAKS. The others stand as they did, and so do the attentions of its adapter.
pub record Speaks (line : ℕ) (drains : Bool) (act : Act) (others : ℕ → UnitView) (raised u : ℕ) (w : World) (s : Replay) : Type 0 where
  pub sound : Sound w
  pub unit : IsSetUp w u
  pub shows : Shows u w s
  pub event : IsEvent line drains act s
  pub speaker : s.event.speaker ≡ u
  pub quiet : (x : ℕ) → x ≢ u → goes_on (s.units x).stage ≡ false
  pub others_are : (x : ℕ) → x ≢ u → unit_at w x ≡ others x
  pub raised_is : (adapter_at w (adapter_of u)).state.attentions ≡ raised

-- ACTS TELL lines that may come, and leave world and replay so; no sector is tried.
pub record Tells (P : World → Replay → Type 0) (w : World) (s : Replay) (acts : List machine.Act) : Type 0 where
  pub follow : LinesFollow s (lines_of_all w acts)
  pub holds : P (after_all w acts) (within_all s (lines_of_all w acts))
  pub surface : (within_all s (lines_of_all w acts)).surface ≡ s.surface
  pub there : (within_all s (lines_of_all w acts)).there ≡ s.there
  pub packs : (held : ℕ → model.Pack) → packs_after_all w held acts ≡ held

-- THE LINES of acts follow, and behind them their event is over.
pub record IsTold (line : ℕ) (drains : Bool) (held : ℕ → model.Pack) (w : World) (s : Replay) (acts : List machine.Act) : Type 0 where
  pub follows : Follows s (lines_of_all w acts)
  pub ends : Ends line drains (packs_after_all w held acts) (after_all w acts) (after_moments s (lines_of_all w acts))
  pub there : (after_moments s (lines_of_all w acts)).there ≡ s.there
