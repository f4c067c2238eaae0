-- What a line of a unit leaves of the sectors and of the noise.
use Rattle.std.proofs.Common.{◌≡◌, ◌≢◌, ℕ, ◌==◌, ◌&&◌, Bool, true, false, List, length, refl, All, rules}
use Rattle.hardware_table.specs.declared.Moved.{Moved}
use Rattle.hardware_table.specs.Drive.{DriveState}
use Rattle.hardware_table.specs.Moves.{has_bytes, was_read, was_written}
use Rattle.hardware_table.specs.Noise.{LiveNoise}
use Rattle.trace_replay.specs.requests.Requests.{Request}
use Rattle.trace_replay.specs.Moments.{Deed, Sector}
use Rattle.trace_replay.specs.Packs.{Surface, surface_read, surface_written, surface_tried, sector_of_block, this_sector_or}
use Rattle.trace_replay.specs.Service.{in_hand}
use Rattle.trace_replay.specs.Replay.{Replay, surface_after}
use Rattle.driver_laws.specs.rules.Stands.{IsLive}
use Rattle.driver_laws.proofs.rules.Blocks.{sector_full}
use Rattle.driver_laws.proofs.rules.Noises.{struck_live}

tried_not : (s : Surface) (unit : ℕ) (d : DriveState) (block : ℕ) (v : Moved) (r : Request) (k u x : ℕ) → (has_bytes v ≡ true → u ≡ unit → x ≡ block → ⊥) → (surface_tried s unit d block v r k).sector u x ≡ s.sector u x
tried_not s unit d block v r k u x apart = search rules

-- what a deed may write: the sector that was tried
abbrev pub IsUntouched : ℕ → Deed → ℕ → ℕ → Type 0
IsUntouched unit (Sector block v) u x = has_bytes v ≡ true → u ≡ unit → x ≡ block → ⊥
IsUntouched unit deed u x = Unit {0}

pub untouched : (s : Replay) (unit : ℕ) (deed : Deed) (u x : ℕ) → IsUntouched unit deed u x → (surface_after s unit deed).sector u x ≡ s.surface.sector u x
untouched s unit (Sector b v) u x apart = tried_not s.surface unit (s.units unit).drive b v (in_hand (s.units unit).service) (s.units unit).progress.done u x apart
untouched s unit other u x apart = refl

pub untouched_other : (unit : ℕ) (deed : Deed) (u x : ℕ) → u ≢ unit → IsUntouched unit deed u x
untouched_other unit (Sector b v) u x apart = λ bytes same here. apart same
untouched_other unit other u x apart = tt

-- sectors have 512 bytes
AreFull : Surface → Type 0
AreFull s = (u x : ℕ) → length (s.sector u x) ≡ 512

this_full : (b : Bool) (bytes : List ℕ) (sectors : ℕ → ℕ → List ℕ) (u x : ℕ) → length bytes ≡ 512 → length (sectors u x) ≡ 512 → length (this_sector_or b bytes sectors u x) ≡ 512
this_full true bytes sectors u x here there = here
this_full false bytes sectors u x here there = there

written_full : (w : Bool) (s : Surface) (unit block : ℕ) (r : Request) (k : ℕ) → AreFull s → AreFull (surface_written w s unit block r k)
unfolding AreFull
written_full true s unit block r k full u x = this_full ((u == unit) && (x == block)) (sector_of_block r k) s.sector u x (sector_full r k) (full u x)
written_full false s unit block r k full u x = full u x

read_full : (b : Bool) (s : Surface) (unit : ℕ) (d : DriveState) (block : ℕ) → AreFull s → AreFull (surface_read b s unit d block)
unfolding AreFull
read_full true s unit d block full u x = full u x
read_full false s unit d block full u x = full u x

pub full_after : (s : Replay) (unit : ℕ) (deed : Deed) → ((u x : ℕ) → length (s.surface.sector u x) ≡ 512) → (u x : ℕ) → length ((surface_after s unit deed).sector u x) ≡ 512
unfolding AreFull
full_after s unit (Sector b v) full u x =
    written_full (was_written (s.units unit).drive v) (surface_read (was_read (s.units unit).drive v) s.surface unit (s.units unit).drive b) unit b (in_hand (s.units unit).service) (s.units unit).progress.done
    (read_full (was_read (s.units unit).drive v) s.surface unit (s.units unit).drive b full) u x
full_after s unit other full u x = full u x

-- and live noise is noise that was armed
written_live : (armed : List LiveNoise) (w : Bool) (s : Surface) (unit block : ℕ) (r : Request) (k : ℕ) → All (IsLive armed) s.live → All (IsLive armed) (surface_written w s unit block r k).live
written_live armed true s unit block r k all = all
written_live armed false s unit block r k all = all

read_live : (armed : List LiveNoise) (b : Bool) (s : Surface) (unit : ℕ) (d : DriveState) (block : ℕ) → All (IsLive armed) s.live → All (IsLive armed) (surface_read b s unit d block).live
read_live armed true s unit d block all = struck_live armed s.live unit block d.offset all
read_live armed false s unit d block all = all

pub live_after : (armed : List LiveNoise) (s : Replay) (unit : ℕ) (deed : Deed) → All (IsLive armed) s.surface.live → All (IsLive armed) (surface_after s unit deed).live
live_after armed s unit (Sector b v) all =
    written_live armed (was_written (s.units unit).drive v) (surface_read (was_read (s.units unit).drive v) s.surface unit (s.units unit).drive b) unit b (in_hand (s.units unit).service) (s.units unit).progress.done
    (read_live armed (was_read (s.units unit).drive v) s.surface unit (s.units unit).drive b all)
live_after armed s unit other all = all
