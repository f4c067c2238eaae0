-- What is told of a request, moment by moment.
use Rattle.std.proofs.Common.{◌≡◌, ℕ, suc, ◌+◌, ◌<◌, ◌==◌, Bool, true, false, cond, List, [], ◌∷◌, ◌++◌, length, Option, Some, refl, sym, ap, subst, arith}
use Rattle.std.proofs.lemmas.Option.{same_Some, none-some}
use Rattle.std.proofs.lemmas.Bool.Decides.{nat_tests}
use Rattle.drive_pictures.specs.declared.drives.Drive.{Drive}
use Rattle.drive_pictures.specs.declared.requests.Request.{Request}
use Rattle.drive_pictures.specs.declared.trials.Trial.{Trial}
use Rattle.drive_pictures.specs.Drives as drives
use Rattle.drive_pictures.specs.Requests as requests
use Rattle.drive_pictures.specs.Requests.{done_after}
use Rattle.drive_pictures.specs.Trials.{in_hand, wanted, verdict_trial}
use Rattle.run_picture.specs.Fold.{Known, met_at, told_at, place_in}
use Rattle.run_picture.specs.Places.{place_from}
use Rattle.trace_lines.specs.declared.telling.Told.{Told as Line}
use Rattle.trace_lines.specs.declared.telling.Told.TheVariants as deed
use Rattle.run_view.proofs.answers.OwnLines.{Hearing}

-- THE SAME TO A REQUEST: what its lines alone change
pub record Same (d : Drive) (r : Request) (h : Hearing) : Type 0 where
  pub trial : d.trial ≡ h.drive.trial
  pub done : r.done ≡ h.request.done
  pub verdict : r.verdict ≡ h.request.verdict
  pub write : r.write ≡ h.request.write

abbrev pub tell : ℕ → Line → Hearing → Hearing
tell place t h = record { drive = drives.tells place t h.drive; request = requests.tells place h.drive t h.request }

pub told_same : (place : ℕ) (t : Line) (d : Drive) (r : Request) (h : Hearing) → Same d r h → Same (drives.tells place t d) (requests.tells place d t r) (tell place t h)
told_same place (deed.Transfer w b n) d r h s = record { trial = ap (λ (t : Trial). wanted n (in_hand place t)) s.trial; done = s.done; verdict = s.verdict; write = refl }
told_same place (deed.Sector k x) d r h s = record { trial = ap (λ (t : Trial). verdict_trial x (in_hand place t)) s.trial; done = ap (done_after x) s.done; verdict = refl; write = s.write }
told_same place (deed.Try b n) d r h s = record { trial = ap (λ (t : Trial). record (in_hand place t) { fails = n }) s.trial; done = s.done; verdict = s.verdict; write = s.write }
told_same place t d r h s = record { trial = ap (in_hand place) s.trial; done = s.done; verdict = s.verdict; write = s.write }

-- A PLACE stays, and is of one id
found_step : (b : Bool) (n place : ℕ) (rest more : Option ℕ) → (rest ≡ Some place → more ≡ Some place) → cond b (Some n) rest ≡ Some place → cond b (Some n) more ≡ Some place
found_step true n place rest more f e = e
found_step false n place rest more f e = f e

pub found_more : (n : ℕ) (ids : List ℕ) (i id place : ℕ) → place_from n ids id ≡ Some place → place_from n (ids ++ i ∷ []) id ≡ Some place
found_more n [] i id place e = absurd (none-some place e)
found_more n (x ∷ ids) i id place e = found_step (x == id) n place (place_from (n + 1) ids id) (place_from (n + 1) (ids ++ i ∷ []) id) (found_more (n + 1) ids i id place) e

from_step : (b : Bool) (n place l : ℕ) (rest : Option ℕ) → (rest ≡ Some place → (n + 1 < suc place) × (place < n + 1 + l)) → cond b (Some n) rest ≡ Some place → (n < suc place) × (place < n + suc l)
from_step true n place l rest f e = let is : n ≡ place = same_Some n place e in (omega (arith, is), omega (arith, is))
from_step false n place l rest f e = let more : (n + 1 < suc place) × (place < n + 1 + l) = f e in (omega (arith, more.0), omega (arith, more.1))

pub found_from : (n : ℕ) (ids : List ℕ) (id place : ℕ) → place_from n ids id ≡ Some place → (n < suc place) × (place < n + length ids)
found_from n [] id place e = absurd (none-some place e)
found_from n (x ∷ ids) id place e = from_step (x == id) n place (length ids) (place_from (n + 1) ids id) (found_from (n + 1) ids id place) e

same_ids : (x i id : ℕ) → (x == i) ≡ true → (x == id) ≡ true → (i == id) ≡ true
same_ids x i id e f = grind (arith, nat_tests)

id_step : (b c : Bool) (x i id n place : ℕ) (one other : Option ℕ) → (x == i) ≡ b → (x == id) ≡ c → (one ≡ Some place → n + 1 < suc place) → (other ≡ Some place → n + 1 < suc place)
    → (one ≡ Some place → other ≡ Some place → (i == id) ≡ true) → cond b (Some n) one ≡ Some place → cond c (Some n) other ≡ Some place → (i == id) ≡ true
id_step true true x i id n place one other is so f g h e t = same_ids x i id is so
id_step true false x i id n place one other is so f g h e t = absurd (omega (arith, same_Some n place e, g t))
id_step false true x i id n place one other is so f g h e t = absurd (omega (arith, same_Some n place t, f e))
id_step false false x i id n place one other is so f g h e t = h e t

pub one_id : (n : ℕ) (ids : List ℕ) (i id place : ℕ) → place_from n ids i ≡ Some place → place_from n ids id ≡ Some place → (i == id) ≡ true
one_id n [] i id place e f = absurd (none-some place e)
one_id n (x ∷ ids) i id place e f =
    id_step (x == i) (x == id) x i id n place (place_from (n + 1) ids i) (place_from (n + 1) ids id) refl refl (λ g. (found_from (n + 1) ids i place g).0) (λ g. (found_from (n + 1) ids id place g).0)
    (one_id (n + 1) ids i id place) e f

-- ITS OWN LINE
pub own_at : (o : Option ℕ) (line v i : ℕ) (k : Known) (t : Line) (place : ℕ) → o ≡ Some place
    → told_at (place_in o k.ids) line v t (met_at o line v i k) ≡ told_at place line v t k
own_at o line v i k t place e = subst (λ z. told_at (place_in z k.ids) line v t (met_at z line v i k) ≡ told_at place line v t k) (sym e) refl
