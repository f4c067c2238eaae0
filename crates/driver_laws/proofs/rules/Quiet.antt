-- Moments without a sector leave the packs alone.
use Rattle.std.proofs.Common.{◌≡◌, ℕ, List, [], ◌∷◌, ◌++◌, Option, refl, sym, ap, ◌∙◌, rules}
use Rattle.pack_geometry.specs.declared.DriveKind.{DriveKind}
use Rattle.pack_geometry.specs.Pack as model
use Rattle.trace_replay.specs.Moments.{Deed, Sector, Moment, Played, Told, Idle}
use Rattle.trace_replay.specs.Script.{Input}
use Rattle.trace_replay.specs.Packs.{Surface}
use Rattle.trace_replay.specs.Replay.{Replay, AreLeft, surface_after, next_wish, after_moment, after_moments}
use Rattle.trace_replay.proofs.Unchanged.{told_keeps}
use Rattle.driver_laws.specs.rules.Beginnings.{IsNoSector, AreNoSectors, QuietMomentsKeep}

abbrev pub Same : Replay → Replay → Type 0
Same s t = t.surface.sector ≡ s.surface.sector

deed_same : (s : Replay) (line unit id : ℕ) (deed : Deed) → IsNoSector (Told line unit id deed) → (surface_after s unit deed).sector ≡ s.surface.sector
deed_same s line unit id (Sector b v) none = absurd none
deed_same s line unit id other none = refl

pub played_same : (s : Replay) (line : ℕ) (input : Input) → Same s (after_moment s (Played line input))
played_same s line input = search rules

moment_same : (s : Replay) (m : Moment) → IsNoSector m → Same s (after_moment s m)
moment_same s (Played line input) none = played_same s line input
moment_same s (Told line unit id deed) none = told_keeps (Same s) (next_wish s) s unit deed (λ event. refl) (λ event. deed_same s line unit id deed none)
moment_same s (Idle line) none = refl

moments_same : (s : Replay) (ms : List Moment) → AreNoSectors ms → Same s (after_moments s ms)
moments_same s [] none = refl
moments_same s (m ∷ ms) none = moments_same (after_moment s m) ms none.1 ∙ moment_same s m none.0

pub after_parts : (s : Replay) (ms ns : List Moment) → after_moments s (ms ++ ns) ≡ after_moments (after_moments s ms) ns
after_parts s [] ns = refl
after_parts s (m ∷ ms) ns = after_parts (after_moment s m) ms ns

pub same_left : (drives : ℕ → Option DriveKind) (old new : ℕ → model.Pack) (one other : Surface) → other.sector ≡ one.sector → AreLeft drives old new one → AreLeft drives old new other
same_left drives old new one other same is = record {
  sectors = λ unit kind block declared below. is.sectors unit kind block declared below ∙ sym (ap (λ f. f unit block) same);
  beyond = is.beyond;
  marks = is.marks;
  others = is.others;
}

pub quiet_moments_keep : QuietMomentsKeep
quiet_moments_keep drives old new start moments more none is =
    same_left drives old new (after_moments start moments).surface (after_moments start (moments ++ more)).surface
    (ap (λ (s : Replay). s.surface.sector) (after_parts start moments more) ∙ moments_same (after_moments start moments) more none) is
