-- What requests come to, drive by drive.
use Rattle.std.proofs.Common.{◌≡◌, ℕ, suc, ◌+◌, ◌<◌, ◌≤◌, List, [], ◌∷◌, ◌++◌, take, take-suc, get_or, length, fold, refl, sym, ap, ◌∙◌, subst, arith}
use Rattle.std.proofs.lemmas.List.{take_all}
use Rattle.std.proofs.lemmas.List.Sums.{fold-append}
use Rattle.drive_pictures.specs.declared.requests.Request.{Request}
use Rattle.run_plan.specs.declared.lanes.Lane.{Lane}
use Rattle.run_plan.specs.declared.figures.Figures.{Figures}
use Rattle.run_plan.specs.declared.plan.Plan.{Plan}
use Rattle.run_plan.specs.Figures.{Sums, SumsUp, HasFigures, IsSummary, with_figures, names, travel_of, asked_of}

-- a drive more, behind others
sums_more : (rows : List Request) (lanes : List Lane) (lane : Lane) (first before after : List ℕ) → SumsUp rows lanes first before
    → Sums rows lane before after → SumsUp rows (lanes ++ lane ∷ []) first after
sums_more rows [] lane first before after same sums = (after, subst (λ (text : List ℕ). Sums rows lane text after) same sums, refl)
sums_more rows (other ∷ lanes) lane first before after so_far more = (so_far.0, so_far.1, sums_more rows lanes lane so_far.0 before after so_far.2 more)

taken : (lanes : List Lane) (lane : Lane) (i : ℕ) → i < length lanes → lane ≡ get_or lanes i lane → take (i + 1) lanes ≡ take i lanes ++ lane ∷ []
taken lanes lane i inside is =
    let e : suc i ≡ i + 1 = omega arith in
    ap (λ n. take n lanes) (sym e) ∙ take-suc lanes i lane inside ∙ ap (λ (l : Lane). take i lanes ++ l ∷ []) (sym is)

-- the drives so far, and one more
pub sums_step : (rows told : List Request) (lanes items : List Lane) (lane : Lane) (i : ℕ) (first before after : List ℕ) → items ≡ lanes → told ≡ rows
    → i < length items → lane ≡ get_or items i lane → SumsUp rows (take i lanes) first before → Sums told lane before after
    → SumsUp rows (take (i + 1) lanes) first after
sums_step rows told lanes items lane i first before after same those inside is so_far more =
    let here : i < length lanes = subst (λ (xs : List Lane). i < length xs) same inside in
    let it : lane ≡ get_or lanes i lane = subst (λ (xs : List Lane). lane ≡ get_or xs i lane) same is in
    subst (λ (xs : List Lane). SumsUp rows xs first after) (sym (taken lanes lane i here it))
    (sums_more rows (take i lanes) lane first before after so_far (subst (λ (xs : List Request). Sums xs lane before after) those more))

pub sum_step : (f : ℕ → Lane → ℕ) (lanes items : List Lane) (lane : Lane) (i sum more : ℕ) → items ≡ lanes → i < length items → lane ≡ get_or items i lane
    → sum ≡ fold f 0 (take i lanes) → more ≡ f sum lane → more ≡ fold f 0 (take (i + 1) lanes)
sum_step f lanes items lane i sum more same inside is so_far one =
    let here : i < length lanes = subst (λ (xs : List Lane). i < length xs) same inside in
    let it : lane ≡ get_or lanes i lane = subst (λ (xs : List Lane). lane ≡ get_or xs i lane) same is in
    one ∙ ap (λ n. f n lane) so_far ∙ sym (fold-append f 0 (take i lanes) (lane ∷ [])) ∙ ap (fold f 0) (sym (taken lanes lane i here it))

-- ALL OF THEM, and the line of all
pub summary_is : (plan : Plan) (items : List Lane) (rows : List Request) (i travel as_asked : ℕ) (figures : Figures) (drives text : List ℕ) → items ≡ plan.lanes.items
    → rows ≡ plan.rows.items → length items ≤ i → SumsUp plan.rows.items (take i plan.lanes.items) names drives
    → travel ≡ fold travel_of 0 (take i plan.lanes.items) → as_asked ≡ fold asked_of 0 (take i plan.lanes.items) → HasFigures rows figures
    → text ≡ with_figures (97 ∷ 108 ∷ 108 ∷ []) figures travel as_asked drives → IsSummary plan text
summary_is plan items rows i travel as_asked figures drives text same those end each moved asked all is =
    let whole : take i plan.lanes.items ≡ plan.lanes.items = take_all i plan.lanes.items (subst (λ (xs : List Lane). length xs ≤ i) same end) in
    record {
      drives = drives;
      each = subst (λ (xs : List Lane). SumsUp plan.rows.items xs names drives) whole each;
      figures = figures;
      all = subst (λ (xs : List Request). HasFigures xs figures) those all;
      line = is ∙ ap (λ n. with_figures (97 ∷ 108 ∷ 108 ∷ []) figures n as_asked drives) (moved ∙ ap (fold travel_of 0) whole)
          ∙ ap (λ n. with_figures (97 ∷ 108 ∷ 108 ∷ []) figures (fold travel_of 0 plan.lanes.items) n drives) (asked ∙ ap (fold asked_of 0) whole);
    }
