-- WHAT REQUESTS COME TO.
use Rattle.std.specs.Prelude.{◌≡◌, ℕ, ◌-◌, ◌*◌, ◌/◌, ◌%◌, ◌^◌, ◌==◌, min, max, Bool, List, [], ◌∷◌, length, map, filter, fold, count_by, slice_index_or, codes, decimal}
use Rattle.std.specs.List.Sorted.{IsPermutation, IsSorted}
use Rattle.std.specs.Ordering.{nat_cmp}
use Rattle.drive_pictures.specs.declared.requests.Request.{Request}
use Rattle.drive_pictures.specs.Counts.{plus}
use Rattle.drive_pictures.specs.Requests.{queued, is_ok, is_out_of_order}
use Rattle.run_plan.specs.declared.figures.Figures.{Figures}
use Rattle.run_plan.specs.declared.lanes.Lane.{Lane}
use Rattle.run_plan.specs.declared.plan.Plan.{Plan}
use Rattle.run_plan.specs.Fields.{hundredths, with_line}

abbrev pub is_of : ℕ → Request → Bool
is_of unit r = r.unit == unit

abbrev pub was_ok : Request → Bool
was_ok r = is_ok r.outcome

-- THE WAITS IN ORDER: the median stands in the middle, or half way between the two in the middle, and the greatest is the last
pub record HasFigures (rows : List Request) (figures : Figures) : Type 0 where
  pub requests : figures.requests ≡ length rows
  pub ok : figures.ok ≡ count_by was_ok rows
  pub turned : figures.turned ≡ count_by is_out_of_order rows
  pub sum : figures.sum ≡ fold plus 0 (map queued rows)
  pub order : List ℕ
  pub same : IsPermutation (map queued rows) order
  pub rises : IsSorted nat_cmp order
  pub median : figures.two_medians ≡ plus (slice_index_or order ((length rows - 1) / 2) 0) (slice_index_or order (length rows / 2) 0)
  pub greatest : figures.greatest ≡ slice_index_or order (length rows - 1) 0

-- the mean, rounded down to hundredths; and the median
abbrev pub mean_text : ℕ → ℕ → List ℕ
mean_text sum count = hundredths (sum / max count 1) (min (sum % max count 1 * 100) (2 ^ 64 - 1) / max count 1)

abbrev pub median_text : ℕ → List ℕ
median_text two = hundredths (two / 2) (two % 2 * 50)

-- THE LINES: the names of the fields; of each drive, and of all
unfoldable pub names : List ℕ
names = codes "unit\trequests\tok\tout of order\tmean wait\tmedian wait\tgreatest wait\tcylinders moved\tin the order asked\n"

unfoldable pub with_figures : List ℕ → Figures → ℕ → ℕ → List ℕ → List ℕ
with_figures first f travel as_asked text =
    with_line first
    (decimal f.requests ∷ decimal f.ok ∷ decimal f.turned ∷ mean_text f.sum f.requests ∷ median_text f.two_medians ∷ decimal f.greatest
    ∷ decimal travel ∷ decimal as_asked ∷ [])
    text

-- of drives, one after another, behind a text
pub record Sums (rows : List Request) (lane : Lane) (before after : List ℕ) : Type 0 where
  pub figures : Figures
  pub has : HasFigures (filter (is_of lane.unit) rows) figures
  pub line : after ≡ with_figures (decimal lane.unit) figures lane.travel lane.as_asked before

abbrev pub SumsUp : List Request → List Lane → List ℕ → List ℕ → Type 0
SumsUp rows [] before after = after ≡ before
SumsUp rows (lane ∷ lanes) before after = (here : List ℕ) × Sums rows lane before here × SumsUp rows lanes here after

abbrev pub travel_of : ℕ → Lane → ℕ
travel_of sum lane = plus sum lane.travel

abbrev pub asked_of : ℕ → Lane → ℕ
asked_of sum lane = plus sum lane.as_asked

pub record IsSummary (plan : Plan) (text : List ℕ) : Type 0 where
  pub drives : List ℕ
  pub each : SumsUp plan.rows.items plan.lanes.items names drives
  pub figures : Figures
  pub all : HasFigures plan.rows.items figures
  pub line : text ≡ with_figures (codes "all") figures (fold travel_of 0 plan.lanes.items) (fold asked_of 0 plan.lanes.items) drives
