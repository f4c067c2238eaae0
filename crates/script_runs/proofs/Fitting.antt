-- What the next line asks of the world: more room than enough, and each unit that it names is there.
use Rattle.std.proofs.Common.{◌≡◌, ℕ, suc, ◌+◌, ◌*◌, ◌^◌, ◌<◌, ◌≤◌, List, [], ◌∷◌, length, Option, Some, None, refl, sym, subst, arith, ◌∙◌}
use Rattle.pack_geometry.specs.declared.DriveKind.{DriveKind}
use Rattle.pack_geometry.specs.Geometry.{block_count, sectors_of}
use Rattle.fire_code.specs.Noise.{IsNoise}
use Rattle.hardware_table.specs.declared.FaultKind.{FaultKind}
use Rattle.hardware_table.specs.Events.{times_armed}
use Rattle.hardware_table.specs.Noise.{LiveNoise}
use Rattle.trace_replay.specs.Script as script
use Rattle.trace_replay.specs.Script.{Script, Line, AreNumbered, drives_of}
use Rattle.driver_machine.specs.World.{World, unit_at}
use Rattle.driver_machine.specs.Acts.{Act, after_all}
use Rattle.driver_machine.specs.Guards.{IsSetUp, MayChange}
use Rattle.driver_laws.specs.answers.Counts.{IsWithin}
use Rattle.driver_laws.proofs.answers.Units.{setups_stay}
use Rattle.script_runs.specs.Steps.{AreUnits}

-- MORE ROOM is enough.
pub within_more : (r r' n n' f f' : ℕ) (w : World) → r ≤ r' → n ≤ n' → f ≤ f' → IsWithin r n f w → IsWithin r' n' f' w
within_more r r' n n' f f' w requests noises faults within = record {
  requests = omega (arith, requests, within.requests);
  noises = omega (arith, noises, within.noises);
  faults = λ u kind. times (times_armed kind (unit_at w u).drive.armed) f f' (within.faults u kind) faults;
}
  where
    times : (n f f' : ℕ) → n ≤ 1000 * f → f ≤ f' → n ≤ 1000 * f'
    times n f f' le more = omega (arith, le, more)

-- THE UNITS that are set up stay so.
pub units_stay : (s : Script) (w : World) (acts : List Act) → AreUnits s w → AreUnits s (after_all w acts)
units_stay s w acts units u kind is =
    let at = units u kind is in
    (record { unit = at.0.unit; declared = (setups_stay w acts u).declared ∙ at.0.declared }, (setups_stay w acts u).kind ∙ at.1)

-- THE LINES of a script are no more than its count.
pub few_lines : (before count : ℕ) (lines : List Line) → AreNumbered before count lines → before + length lines ≤ count
few_lines before count [] are = omega (arith, are)
few_lines before count (line ∷ lines) are = more before line.number (length lines) count are.0 (few_lines line.number count lines are.1)
  where
    more : (a b n c : ℕ) → a < b → b + n ≤ c → a + suc n ≤ c
    more a b n c less le = omega (arith, less, le)

-- WHAT IS SAID OF A UNIT that is there
pub record Found (drive : Option DriveKind) (P : DriveKind → Type 0) : Type 0 where
  pub kind : DriveKind
  pub is : drive ≡ Some kind
  pub holds : P kind

pub found : (drive : Option DriveKind) (P : DriveKind → Type 0) → script.IsThere drive P → Found drive P
found None P there = absurd there
found (Some kind) P there = record { kind = kind; is = refl; holds = there }

-- ROOM FOR FAULTS: few lines arm them, each at most a thousand times.
pub faults_fit : (used lines count times : ℕ) → used ≤ 1000 * lines → lines ≤ count → count < 2 ^ 32 → times ≤ 1000 → used + times < 2 ^ 63
faults_fit used lines count times few less small some = omega (arith, few, less, small, some)

-- A LINE that changes a unit may be played, where there is room for what it arms.
module _ (s : Script) (w : World) (units : AreUnits s w) where
  pub set_up : (u : ℕ) → script.IsThere (drives_of s u) (λ kind. Unit {0}) → IsSetUp w u
  set_up u there =
      let unit : Found (drives_of s u) (λ kind. Unit {0}) = found (drives_of s u) (λ kind. Unit {0}) there in
      (units u unit.kind unit.is).0

  pub may_turn : (u sector : ℕ) → script.IsThere (drives_of s u) (λ kind. sector < sectors_of kind) → MayChange w (script.Turn u sector)
  may_turn u sector there =
      let unit : Found (drives_of s u) (λ kind. sector < sectors_of kind) = found (drives_of s u) (λ kind. sector < sectors_of kind) there in
      let at = units u unit.kind unit.is in
      (at.0, subst (λ (k : DriveKind). sector < sectors_of k) (sym at.1) unit.holds)

  pub may_strike : (noise : LiveNoise) → w.book.armed < w.book.capacity
      → script.IsThere (drives_of s noise.unit) (λ kind. (noise.block < block_count kind) × IsNoise noise.places × script.IsSpan noise.span) → MayChange w (script.Noise noise)
  may_strike noise room there =
      let unit : Found (drives_of s noise.unit) (λ kind. (noise.block < block_count kind) × IsNoise noise.places × script.IsSpan noise.span) =
      found (drives_of s noise.unit) (λ kind. (noise.block < block_count kind) × IsNoise noise.places × script.IsSpan noise.span) there in
      let set = units noise.unit unit.kind unit.is in
      (set.0, subst (λ (k : DriveKind). noise.block < block_count k) (sym set.1) unit.holds.0, unit.holds.1, unit.holds.2, room)

  pub may_arm : (u : ℕ) (kind : FaultKind) (times lines count : ℕ) → times_armed kind (unit_at w u).drive.armed ≤ 1000 * lines → lines ≤ count → count < 2 ^ 32
      → script.IsThere (drives_of s u) (λ drive. (1 ≤ times) × (times ≤ 1000)) → MayChange w (script.Arm u kind times)
  may_arm u kind times lines count few less small there =
      let unit : Found (drives_of s u) (λ drive. (1 ≤ times) × (times ≤ 1000)) = found (drives_of s u) (λ drive. (1 ≤ times) × (times ≤ 1000)) there in (
        (units u unit.kind unit.is).0,
        unit.holds.0,
        unit.holds.1,
        faults_fit (times_armed kind (unit_at w u).drive.armed) lines count times few less small unit.holds.1,
      )
