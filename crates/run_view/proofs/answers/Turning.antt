-- What stays where an event ends.
use Rattle.std.proofs.Common.{◌≡◌, ℕ, Bool, true, false, cond, List, length, map, Option, Some, None, refl, ap, ◌∙◌}
use Rattle.drive_pictures.specs.declared.drives.Drive.{Drive}
use Rattle.drive_pictures.specs.declared.moments.Moment.{Moment}
use Rattle.drive_pictures.specs.declared.requests.Request.{Request}
use Rattle.drive_pictures.specs.declared.trials.Trial.{Trial}
use Rattle.drive_pictures.specs.Drives.{event_counted, unseen, cleared}
use Rattle.drive_pictures.specs.Events.{begins, line_of, is_idle}
use Rattle.pack_geometry.specs.declared.DriveKind.{DriveKind}
use Rattle.run_view.proofs.answers.Drives.{map_length, turned_keeps}
use Rattle.run_view.proofs.answers.Hears.{at_moment}
use Rattle.run_picture.specs.declared.columns.Head.{Head}
use Rattle.run_picture.specs.Columns.{headed, is_before, is_inside, is_full}
use Rattle.run_picture.specs.Fold.{Known, drive_at, event_counted_in, event_ended, shown_by, column_closed, turned_behind}

-- of a drive
pub record Core : Type 0 where
  pub kind : Option DriveKind
  pub trial : Trial
  pub offline : Bool
  pub locked : Bool

abbrev pub core_of : Drive → Core
core_of d = record { kind = d.kind; trial = d.trial; offline = d.offline; locked = d.locked }

-- and besides the drives
pub record Rest : Type 0 where
  pub ids : List ℕ
  pub requests : List Request
  pub lent : ℕ
  pub many : ℕ

abbrev pub rest_of : Known → Rest
rest_of k = record { ids = k.ids; requests = k.requests; lent = k.lent; many = length k.drives }

rest_with : (k : Known) (n : ℕ) → n ≡ length k.drives → record { ids = k.ids; requests = k.requests; lent = k.lent; many = n } ≡ rest_of k
rest_with k n e = ap (λ (m : ℕ). record { ids = k.ids; requests = k.requests; lent = k.lent; many = m }) e

closed_rest : (full : Bool) (head : Head) (k : Known) → rest_of (column_closed full head k) ≡ rest_of k
closed_rest true head k = rest_with k (length (map cleared k.drives)) (map_length cleared k.drives)
closed_rest false head k = refl

shown_rest : (before inside : Bool) (last : Moment) (k : Known) → rest_of (shown_by before inside last k) ≡ rest_of k
shown_rest true inside last k = rest_with k (length (map cleared k.drives)) (map_length cleared k.drives)
shown_rest false true last k =
    closed_rest (is_full (headed (line_of last) (is_idle last) k.drives k.head) k.window k.event) (headed (line_of last) (is_idle last) k.drives k.head) k
shown_rest false false last k = refl

pub ended_rest : (last : Moment) (k : Known) → rest_of (event_ended last k) ≡ rest_of k
ended_rest last k =
    shown_rest (is_before k.window k.event) (is_inside k.window k.event) last (event_counted_in last k)
    ∙ rest_with k (length (map event_counted k.drives)) (map_length event_counted k.drives)

turned_rest : (b : Bool) (o : Option Moment) (k : Known) → rest_of (cond b (turned_behind o k) k) ≡ rest_of k
turned_rest false o k = refl
turned_rest true None k = refl
turned_rest true (Some last) k =
    rest_with (event_ended last k) (length (map unseen (event_ended last k).drives)) (map_length unseen (event_ended last k).drives) ∙ ended_rest last k

pub moment_rest : (m : Moment) (k : Known) → rest_of (at_moment k m) ≡ rest_of k
moment_rest m k = turned_rest (begins k.before m) k.before k

pub moment_core : (m : Moment) (k : Known) (u : ℕ) → core_of (drive_at (at_moment k m).drives u) ≡ core_of (drive_at k.drives u)
moment_core m k u = turned_keeps core_of (record { unseen = λ d. refl; cleared = λ d. refl }) (λ d. refl) (begins k.before m) k.before k u
