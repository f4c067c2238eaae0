-- The drives of a list, and what the ends of events leave of them.
use Rattle.std.proofs.Common.{◌≡◌, ◌≢◌, ℕ, zero, suc, ◌<◌, ◌==◌, Bool, true, false, cond, List, [], ◌∷◌, length, map, set, Option, Some, None, refl, ap, ◌∙◌, arith}
use Rattle.std.proofs.lemmas.Bool.Decides.{nat_tests}
use Rattle.drive_pictures.specs.declared.drives.Drive.{Drive}
use Rattle.drive_pictures.specs.declared.moments.Moment.{Moment}
use Rattle.drive_pictures.specs.Drives.{event_counted, unseen, cleared}
use Rattle.drive_pictures.specs.Events.{line_of, is_idle}
use Rattle.run_picture.specs.declared.columns.Head.{Head}
use Rattle.run_picture.specs.Columns.{headed, is_before, is_inside, is_full}
use Rattle.run_picture.specs.Fold.{Known, drive_at, event_counted_in, event_ended, shown_by, column_closed, turned_behind}

-- LISTS OF DRIVES
pub set_length : (ds : List Drive) (v : ℕ) (d : Drive) → length (set ds v d) ≡ length ds
set_length [] v d = refl
set_length (x ∷ ds) zero d = refl
set_length (x ∷ ds) (suc v) d = ap (λ (n : ℕ). suc n) (set_length ds v d)

pub set_here : (ds : List Drive) (u : ℕ) (d : Drive) → u < length ds → drive_at (set ds u d) u ≡ d
set_here [] u d inside = absurd (omega (arith, inside))
set_here (x ∷ ds) zero d inside = refl
set_here (x ∷ ds) (suc u) d inside = set_here ds u d (omega (arith, inside))

pub set_other : (ds : List Drive) (v : ℕ) (d : Drive) (u : ℕ) → v ≢ u → drive_at (set ds v d) u ≡ drive_at ds u
set_other [] v d u e = refl
set_other (x ∷ ds) zero d zero e = absurd (e refl)
set_other (x ∷ ds) zero d (suc u) e = refl
set_other (x ∷ ds) (suc v) d zero e = refl
set_other (x ∷ ds) (suc v) d (suc u) e = set_other ds v d u (λ same. e (ap (λ (n : ℕ). suc n) same))

pub map_length : (h : Drive → Drive) (ds : List Drive) → length (map h ds) ≡ length ds
map_length h [] = refl
map_length h (d ∷ ds) = ap (λ (n : ℕ). suc n) (map_length h ds)

pub is_same : (v u : ℕ) → (v == u) ≡ true → v ≡ u
is_same v u e = grind (arith, nat_tests)

pub is_other : (v u : ℕ) → (v == u) ≡ false → v ≢ u
is_other v u e is = grind (arith, nat_tests)

-- LISTS OF DRIVES
pub keeps_set : {A : Type 0} (p : Drive → A) (ds : List Drive) (v : ℕ) (d : Drive) (u : ℕ) → p d ≡ p (drive_at ds v) → p (drive_at (set ds v d) u) ≡ p (drive_at ds u)
keeps_set p [] v d u e = refl
keeps_set p (x ∷ ds) zero d zero e = e
keeps_set p (x ∷ ds) zero d (suc u) e = refl
keeps_set p (x ∷ ds) (suc v) d zero e = refl
keeps_set p (x ∷ ds) (suc v) d (suc u) e = keeps_set p ds v d u e

pub keeps_map : {A : Type 0} (p : Drive → A) (h : Drive → Drive) (ds : List Drive) (u : ℕ) → ((d : Drive) → p (h d) ≡ p d) → p (drive_at (map h ds) u) ≡ p (drive_at ds u)
keeps_map p h [] u e = refl
keeps_map p h (d ∷ ds) zero e = e d
keeps_map p h (d ∷ ds) (suc u) e = keeps_map p h ds u e

-- WHERE AN EVENT ENDS it stays, but for what the end itself counts
pub record Keeps {A : Type 0} (p : Drive → A) : Type 0 where
  pub unseen : (d : Drive) → p (unseen d) ≡ p d
  pub cleared : (d : Drive) → p (cleared d) ≡ p d

closed_keeps : {A : Type 0} (p : Drive → A) → Keeps p → (full : Bool) (head : Head) (k : Known) (u : ℕ) → p (drive_at (column_closed full head k).drives u) ≡ p (drive_at k.drives u)
closed_keeps p s true head k u = keeps_map p cleared k.drives u s.cleared
closed_keeps p s false head k u = refl

shown_keeps : {A : Type 0} (p : Drive → A) → Keeps p → (before inside : Bool) (last : Moment) (k : Known) (u : ℕ) → p (drive_at (shown_by before inside last k).drives u) ≡ p (drive_at k.drives u)
shown_keeps p s true inside last k u = keeps_map p cleared k.drives u s.cleared
shown_keeps p s false true last k u =
    closed_keeps p s (is_full (headed (line_of last) (is_idle last) k.drives k.head) k.window k.event) (headed (line_of last) (is_idle last) k.drives k.head) k u
shown_keeps p s false false last k u = refl

pub ended_keeps : {A : Type 0} (p : Drive → A) → Keeps p → (last : Moment) (k : Known) (u : ℕ) → p (drive_at (turned_behind (Some last) k).drives u) ≡ p (drive_at (event_counted_in last k).drives u)
ended_keeps p s last k u =
    keeps_map p unseen (event_ended last k).drives u s.unseen ∙ shown_keeps p s (is_before k.window k.event) (is_inside k.window k.event) last (event_counted_in last k) u

-- and stays whole where the end counts nothing of it
pub turned_keeps : {A : Type 0} (p : Drive → A) → Keeps p → ((d : Drive) → p (event_counted d) ≡ p d) → (b : Bool) (o : Option Moment) (k : Known) (u : ℕ)
    → p (drive_at (cond b (turned_behind o k) k).drives u) ≡ p (drive_at k.drives u)
turned_keeps p s counted false o k u = refl
turned_keeps p s counted true None k u = refl
turned_keeps p s counted true (Some last) k u = ended_keeps p s last k u ∙ keeps_map p event_counted k.drives u counted
