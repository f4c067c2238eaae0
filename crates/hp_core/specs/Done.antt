-- What the method of an act does.
use Rattle.std.specs.Prelude.{◌≡◌, ℕ, ◌<◌, ◌≤◌, Bool, false, List, [], ◌∷◌, length, slice_set, Result, Option, Some, IsSome, IsTrue, IfErr}
use Rattle.pack_geometry.specs.Pack.{Pack}
use Rattle.outside_traits.specs.Causes.{HasCause, Rose}
use Rattle.hardware_table.specs.declared.Moved.{Moved}
use Rattle.outside_traits.specs.Gathers.{Gathers}
use Rattle.driver_machine.specs.World.{World, Held, unit_at, adapter_at, slot_at, slot_in_hand, adapter_of}
use Rattle.driver_machine.specs.Acts.{Act, Tried, with_drive, with_state, after}
use Rattle.driver_machine.specs.Events.{move_acts}
use Rattle.driver_machine.specs.Writes.{writes_next}
use Rattle.request_slots.specs.Steps.{Bench, StepsSlot}
use Rattle.driver_laws.specs.answers.Outcome.{Does, Outcome, StopsBefore, stop_in}
use Rattle.driver_laws.specs.declared.answers.outcome.Stop.{Stop}
use Rattle.driver_laws.specs.declared.answers.outcome.Stop.TheVariants.{Store, Sink}
use Rattle.hp_core.specs.State.{State, site}

-- A line is told: its text is put behind what is kept, and the world stays as it was.
pub record Tells {O : Type 0} (tells : O → Bool) (taken : O → List ℕ) (faults : O → ℕ) (trace trace' : O) (old new : State) (result : Result (Unit {0}) Stop) (line : List ℕ) : Type 0 where
  pub world : new.world ≡ old.world
  pub gathers : Gathers tells taken faults trace trace' old.kept new.kept result line
  pub stop : IfErr result (λ stop. stop ≡ Sink)

-- AN ACT AND ITS LINE, whatever the packs hold: the call comes to what the act comes to. The act is done where the trace failed,
-- too. A failure has its cause.
pub record DoesAct {O : Type 0} (tells : O → Bool) (taken : O → List ℕ) (faults : O → ℕ) (trace trace' : O) (old new : State) (result : Result (Unit {0}) Stop) (act : Act) : Type 0 where
  pub outcome : (told : Bool) (packs : ℕ → Pack)
      → Outcome (record { packs = told; trace = tells trace' }) (act ∷ []) (site old packs (taken trace)) (site new packs (taken trace')) (stop_in result)
  pub world : new.world ≡ after old.world act
  pub stop : IfErr result (λ stop. stop ≡ Sink)
  pub never_again : IsTrue (tells trace') → IsTrue (tells trace)
  pub cause : HasCause (faults trace) (faults trace') result

-- AN ACT WITHOUT A LINE, whatever the packs hold and the trace took.
pub record DoesSilently (old new : State) (act : Act) : Type 0 where
  pub does : (packs told : Bool) (held : ℕ → Pack) (taken : List ℕ)
      → Does (record { packs = packs; trace = told }) (act ∷ []) (site old held taken) (site new held taken)
  pub world : new.world ≡ after old.world act

-- No count of faults has fallen, and what a call stopped at failed in it: its count rose.
pub record HasCauses (packs packs' trace trace' : ℕ) (stop : Option Stop) : Type 0 where
  pub later_packs : packs ≤ packs'
  pub later : trace ≤ trace'
  pub store : stop ≡ Some Store → Rose packs packs'
  pub sink : stop ≡ Some Sink → Rose trace trace'

-- a unit is there with a request in hand, which has its slot, and its adapter is there
pub record HasHand (w : World) (u : ℕ) : Type 0 where
  pub unit : u < length w.units
  pub adapter : adapter_of u < length w.adapters
  pub some : 0 < length (unit_at w u).queue
  pub there : IsSome (slot_at w (slot_in_hand (unit_at w u)))

-- a unit is there, and its adapter
pub record HasUnit (w : World) (u : ℕ) : Type 0 where
  pub small : u < 32
  pub unit : u < length w.units
  pub adapter : adapter_of u < length w.adapters

-- what the next sector of a unit's transfer is tried on, and the world with that behind the try
abbrev pub bench_at : World → ℕ → Bench (List (Option Held))
bench_at w u = record { adapter = (adapter_at w (adapter_of u)).state; drive = (unit_at w u).drive; book = w.book; store = w.slots }

abbrev pub with_bench : World → ℕ → Bench (List (Option Held)) → World
with_bench w u bench = record w {
  units = slice_set w.units u (with_drive (λ drive. bench.drive) (unit_at w u));
  adapters = slice_set w.adapters (adapter_of u) (with_state (λ adapter. bench.adapter) (adapter_at w (adapter_of u)));
  slots = bench.store;
  book = bench.book;
}

-- THE NEXT SECTOR IS TRIED, for the request in hand of a unit. All else stays as it was.
pub record TriesNext {Q E : Type 0} (holds : Q → Bool) (held : Q → ℕ → Pack) (faults : Q → ℕ) (packs packs' : Q) (u : ℕ) (old new : State) (result : Result Moved E) : Type 0 where
  pub bench : Bench (List (Option Held))
  pub steps : StepsSlot holds held faults packs packs' u (slot_in_hand (unit_at old.world u)) (bench_at old.world u) bench result
  pub state : new ≡ record old { world = with_bench old.world u bench }

-- ONE SECTOR IS MOVED, where there is one to move, and its line told: for some sector the call comes to what moving it comes to. Each
-- failure has its cause, and where the packs failed nothing was done, and no more text is kept. What writes nothing leaves the packs,
-- also where they fail.
pub record DoesMove {O Q : Type 0} (holds : Q → Bool) (held : Q → ℕ → Pack) (packs_faults : Q → ℕ) (tells : O → Bool) (taken : O → List ℕ) (faults : O → ℕ) (packs packs' : Q) (trace trace' : O) (old new : State) (result : Result (Unit {0}) Stop) (line a : ℕ) : Type 0 where
  pub tried : Tried
  pub outcome : Outcome (record { packs = holds packs'; trace = tells trace' }) (move_acts line a tried old.world)
      (site old (held packs) (taken trace)) (site new (held packs') (taken trace')) (stop_in result)
  pub never_again_packs : IsTrue (holds packs') → IsTrue (holds packs)
  pub never_again : IsTrue (tells trace') → IsTrue (tells trace)
  pub causes : HasCauses (packs_faults packs) (packs_faults packs') (faults trace) (faults trace') (stop_in result)
  pub kept : stop_in result ≡ Some Store → new.kept ≡ old.kept
  pub leaves : writes_next old.world a ≡ false → IsTrue (holds packs') → held packs' ≡ held packs
  pub before : stop_in result ≡ Some Store
      → StopsBefore (record { packs = holds packs'; trace = tells trace' }) (site old (held packs) (taken trace)) (site new (held packs') (taken trace'))
