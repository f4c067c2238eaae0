-- What the parts of a call come to, over the core.
use Rattle.std.specs.Prelude.{◌≡◌, ℕ, ◌+◌, ◌-◌, ◌*◌, ◌<◌, ◌≤◌, Bool, false, if◌then◌else◌, IsTrue, min, List, [], length, None, Result, IfErr, OnOk}
use Rattle.pack_geometry.specs.Geometry.{limit_of}
use Rattle.pack_geometry.specs.Pack.{Pack}
use Rattle.main_memory.specs.Frames.{frames_needed}
use Rattle.outside_traits.specs.Causes.{HasCause}
use Rattle.trace_replay.specs.requests.Requests as told
use Rattle.trace_replay.specs.requests.Requests.{IsRequest, first_block}
use Rattle.trace_replay.specs.Script.{Input}
use Rattle.driver_machine.specs.World.{World, unit_at}
use Rattle.driver_machine.specs.Events.{refusal_of}
use Rattle.driver_machine.specs.Guards.{IsSetUp, IsFresh}
use Rattle.driver_machine.specs.Sound.{Sound, AtWork}
use Rattle.driver_laws.specs.declared.answers.outcome.Stop.{Stop}
use Rattle.driver_laws.specs.declared.answers.outcome.Stop.TheVariants.{Sink}
use Rattle.driver_laws.specs.shown.QuietPasses.{stop_in, in_use, AllFlip}
use Rattle.hp_driver.specs.Asked.{Asked}
use Rattle.hp_driver.specs.Passes.{State, HasCauses}
use Rattle.trace_replay.specs.declared.requests.request.Request.{Request}
use Rattle.hp_driver.specs.Subsystem.{asked, is_move, Submits, Comes}
use Rattle.hp_driver.specs.Bytes.{KeepsMaps, KeepsMapsIn}

-- BETWEEN TWO CALLS, none of which failed
pub record Stands (s : State) : Type 0 where
  pub sound : Sound s.world
  pub work : AtWork s.world
  pub noise : AllFlip s.world.book.live

-- WHAT A CALL LEAVES of that: where it failed, work may be undone.
pub record Leaves (old new : State) (result : Result (Unit {0}) Stop) : Type 0 where
  pub sound : Sound new.world
  pub noise : AllFlip new.world.book.live
  pub slots : length new.world.slots ≡ length old.world.slots
  pub work : OnOk result (AtWork new.world)

-- A SUBMISSION
pub record Asks {O : Type 0} (tells : O → Bool) (taken : O → List ℕ) (faults : O → ℕ) (trace trace' : O) (old new : State) (result : Result (Unit {0}) Stop) (line : ℕ) (r : told.Request) : Type 0 where
  pub does : Submits tells taken trace trace' line r old.world new.world old.kept new.kept (stop_in result)
  pub bytes : KeepsMaps old.world new.world
  pub leaves : Leaves old new result
  pub stop : IfErr result (λ stop. stop ≡ Sink)
  pub never_again : IsTrue (tells trace') → IsTrue (tells trace)
  pub cause : HasCause (faults trace) (faults trace') result

-- what a request asks, with its first block on its pack
abbrev pub asked_at : Request → ℕ → Asked
asked_at r first = record {
  id = r.id;
  unit = r.unit;
  first = first;
  count = r.count;
  last = r.last;
  write = r.write;
  offset = r.offset;
}

-- where it may come: the unit is set up, the id is fresh, the bytes are just those of a write, and there is room for one more
pub record MayAsk (w : World) (r : Request) (bytes : List ℕ) : Type 0 where
  pub unit : IsSetUp w r.unit
  pub request : IsRequest (asked r bytes)
  pub fresh : IsFresh w r.id
  pub size : length bytes ≡ (if r.write then 512 * (r.count - 1) + r.last else 0)
  pub most : ℕ
  pub slots : length w.slots ≡ min most 16384
  pub room : in_use w.slots < most

-- IT JOINS from this block of its pack on: it is not refused.
pub record IsAdmitted (w : World) (r : Request) (block : ℕ) : Type 0 where
  pub joins : refusal_of (asked r []) w ≡ None
  pub first : block ≡ first_block (unit_at w r.unit).drive.kind (asked r [])
  pub inside : block + r.count ≤ limit_of (unit_at w r.unit).drive.kind
  pub room : w.frames + frames_needed r.count r.offset r.last ≤ 16384

-- AN EVENT
pub record Happens {O Q : Type 0} (holds : Q → Bool) (held : Q → ℕ → Pack) (packs_faults : Q → ℕ) (tells : O → Bool) (taken : O → List ℕ) (faults : O → ℕ) (packs packs' : Q) (trace trace' : O) (old new : State) (result : Result (Unit {0}) Stop) (line : ℕ) (input : Input) : Type 0 where
  pub comes : Comes holds held tells taken packs packs' trace trace' line input old.world new.world old.kept new.kept (stop_in result)
  pub bytes : KeepsMapsIn (holds packs') (held packs) (held packs') input old.world new.world (stop_in result)
  pub leaves : Leaves old new result
  pub still : is_move input ≡ false → packs' ≡ packs
  pub never_again_packs : IsTrue (holds packs') → IsTrue (holds packs)
  pub never_again : IsTrue (tells trace') → IsTrue (tells trace)
  pub causes : HasCauses (packs_faults packs) (packs_faults packs') (faults trace) (faults trace') (stop_in result)
