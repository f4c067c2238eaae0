-- Moments that write nothing leave the packs, and how long images are.
use Rattle.std.proofs.Common.{◌≡◌, ℕ, Bool, true, false, ◌==◌, ◌&&◌, List, [], ◌∷◌, ◌++◌, refl, sym, ap, ◌∙◌}
use Rattle.std.specs.Prelude.{if◌then◌else◌, length, Option}
use Rattle.hardware_table.specs.Drive.{DriveState}
use Rattle.hardware_table.specs.Moves.{was_read, was_written}
use Rattle.trace_replay.specs.requests.Requests.{Request}
use Rattle.trace_replay.specs.Moments.{Deed, Sector, Moment, Played, Told, Idle}
use Rattle.trace_replay.specs.Service.{in_hand}
use Rattle.trace_replay.specs.Packs.{Surface, surface_read, surface_written}
use Rattle.trace_replay.specs.Replay.{Replay, surface_after, next_wish, after_moment, after_moments, AreLeft}
use Rattle.trace_replay.proofs.Unchanged.{told_keeps}
use Rattle.driver_laws.specs.shown.Lengths.{length_told, length_behind, reaching, AreAsLong}
use Rattle.driver_laws.proofs.shown.Lengths.{long_append}
use Rattle.driver_laws.specs.rules.Beginnings.{IsNoSector, AreNoSectors}
use Rattle.driver_laws.proofs.rules.Quiet.{Same, played_same, after_parts, same_left}
use Rattle.script_runs.specs.Writing.{was_written_at, WriteNothing}
use Rattle.pack_geometry.specs.declared.DriveKind.{DriveKind}
use Rattle.pack_geometry.specs.Pack.{Pack as UnitPack}

-- WITHOUT A SECTOR nothing is written.
quiet_told : (s : Replay) (line unit id : ℕ) (deed : Deed) → IsNoSector (Told line unit id deed) → was_written_at s (Told line unit id deed) ≡ false
quiet_told s line unit id (Sector b v) none = absurd none
quiet_told s line unit id other none = refl

pub quiet_write_nothing : (s : Replay) (moments : List Moment) → AreNoSectors moments → WriteNothing s moments
quiet_write_nothing s [] none = tt
quiet_write_nothing s (Played line input ∷ ms) none = (refl, quiet_write_nothing (after_moment s (Played line input)) ms none.1)
quiet_write_nothing s (Told line unit id deed ∷ ms) none = (quiet_told s line unit id deed none.0, quiet_write_nothing (after_moment s (Told line unit id deed)) ms none.1)
quiet_write_nothing s (Idle line ∷ ms) none = (refl, quiet_write_nothing (after_moment s (Idle line)) ms none.1)

-- SECTORS stay,
unwritten : (written read : Bool) (s : Surface) (unit block : ℕ) (d : DriveState) (r : Request) (k : ℕ) → written ≡ false
    → (surface_written written (surface_read read s unit d block) unit block r k).sector ≡ s.sector
unwritten true read s unit block d r k off = absurd (let e : true ≡ false = off in cc)
unwritten false true s unit block d r k off = refl
unwritten false false s unit block d r k off = refl

deed_same : (s : Replay) (line unit id : ℕ) (deed : Deed) → was_written_at s (Told line unit id deed) ≡ false → (surface_after s unit deed).sector ≡ s.surface.sector
deed_same s line unit id (Sector b v) off =
    unwritten (was_written (s.units unit).drive v) (was_read (s.units unit).drive v) s.surface unit b (s.units unit).drive (in_hand (s.units unit).service) (s.units unit).progress.done off
deed_same s line unit id other off = refl

moment_same : (s : Replay) (m : Moment) → was_written_at s m ≡ false → Same s (after_moment s m)
moment_same s (Played line input) off = played_same s line input
moment_same s (Told line unit id deed) off = told_keeps (Same s) (next_wish s) s unit deed (λ event. refl) (λ event. deed_same s line unit id deed off)
moment_same s (Idle line) off = refl

moments_same : (s : Replay) (ms : List Moment) → WriteNothing s ms → Same s (after_moments s ms)
moments_same s [] none = refl
moments_same s (m ∷ ms) none = moments_same (after_moment s m) ms none.1 ∙ moment_same s m none.0

pub nothing_leaves_packs : (drives : ℕ → Option DriveKind) (old left : ℕ → UnitPack) (start : Replay) (moments more : List Moment)
    → WriteNothing (after_moments start moments) more → AreLeft drives old left (after_moments start moments).surface
    → AreLeft drives old left (after_moments start (moments ++ more)).surface
nothing_leaves_packs drives old left start moments more none is =
    same_left drives old left (after_moments start moments).surface (after_moments start (moments ++ more)).surface
    (ap (λ (s : Replay). s.surface.sector) (after_parts start moments more) ∙ moments_same (after_moments start moments) more none) is

-- and so do lengths.
never : (unit u block long : ℕ) (written : Bool) → written ≡ false → (if (unit == u) && written then reaching long block else long) ≡ long
never unit u block long true off = absurd (let e : true ≡ false = off in cc)
never unit u block long false off = at (unit == u)
  where
    at : (b : Bool) → (if b && false then reaching long block else long) ≡ long
    at true = refl
    at false = refl

told_long : (s : Replay) (line u id : ℕ) (d : Deed) (unit long : ℕ) → was_written_at s (Told line u id d) ≡ false → length_told s (Told line u id d) unit long ≡ long
told_long s line u id (Sector b v) unit long off = never unit u b long (was_written (s.units u).drive v) off
told_long s line u id other unit long off = refl

nothing_long : (s : Replay) (ms : List Moment) (unit long : ℕ) → WriteNothing s ms → length_behind s ms unit long ≡ long
nothing_long s [] unit long none = refl
nothing_long s (Played line input ∷ ms) unit long none = nothing_long (after_moment s (Played line input)) ms unit long none.1
nothing_long s (Idle line ∷ ms) unit long none = nothing_long (after_moment s (Idle line)) ms unit long none.1
nothing_long s (Told line u id d ∷ ms) unit long none =
    ap (λ (n : ℕ). length_behind (after_moment s (Told line u id d)) ms unit n) (told_long s line u id d unit long none.0)
    ∙ nothing_long (after_moment s (Told line u id d)) ms unit long none.1

pub nothing_leaves_lengths : (start : Replay) (old left : ℕ → UnitPack) (moments more : List Moment) → WriteNothing (after_moments start moments) more
    → AreAsLong start moments old left → AreAsLong start (moments ++ more) old left
nothing_leaves_lengths start old left moments more none are unit =
    are unit
    ∙ sym (nothing_long (after_moments start moments) more unit (length_behind start moments unit (length (old unit).image)) none)
    ∙ sym (long_append start moments more unit (length (old unit).image))

-- PARTS of such moments
pub nothing_joined : (s : Replay) (ms more : List Moment) → WriteNothing s ms → WriteNothing (after_moments s ms) more → WriteNothing s (ms ++ more)
nothing_joined s [] more none next = next
nothing_joined s (m ∷ ms) more none next = (none.0, nothing_joined (after_moment s m) ms more none.1 next)

pub nothing_front : (s : Replay) (ms more : List Moment) → WriteNothing s (ms ++ more) → WriteNothing s ms
nothing_front s [] more none = tt
nothing_front s (m ∷ ms) more none = (none.0, nothing_front (after_moment s m) ms more none.1)
