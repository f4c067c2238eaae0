-- A page, and some lines more.
use Rattle.std.proofs.Common.{◌≡◌, ℕ, suc, ◌+◌, ◌-◌, ◌*◌, ◌<◌, List, [], ◌∷◌, ◌++◌, length, take, get_or, refl, sym, ◌∙◌, ap, subst, arith}
use Rattle.std.specs.Prelude.{Result, Ok, Err, IfOk, slice_range}
use Rattle.std.proofs.lemmas.List.{append-nil, append_assoc}
use Rattle.std.proofs.Math.Seq.{take-suc}
use Rattle.drive_pictures.specs.declared.requests.Request.{Request}
use Rattle.picture_chart.specs.Charts.{text_of, IsChart}
use Rattle.picture_chart.specs.Pages.{head_of, Grows, HasLane, Lanes, HasPanel, Panels, panel_columns, panels_of, IsRow, AreRows, HasRows, left_out, legend, IsChartOf}
use Rattle.run_plan.specs.declared.sheet.Sheet.{Sheet}
use Rattle.run_plan.specs.declared.summary.Sentence.{Sentence}
use Rattle.run_plan.specs.Requests.{is_few, listed, shown_count}
use Rattle.run_plan.specs.Sentences.{SumUp}
use Rattle.run_picture.specs.declared.columns.Column.{Column}

pub grows_none : (page : List (List ℕ)) → Grows page page
grows_none page = record { lines = []; is = sym (append-nil page) }

pub grows_one : (old new : List (List ℕ)) (line : List ℕ) → new ≡ old ++ line ∷ [] → Grows old new
grows_one old new line e = record { lines = line ∷ []; is = e }

pub grows_more : (old page new : List (List ℕ)) → Grows old page → Grows page new → Grows old new
grows_more old page new a b = record {
  lines = a.lines ++ b.lines;
  is = b.is ∙ ap (λ t. t ++ b.lines) a.is ∙ append_assoc old a.lines b.lines;
}

-- four lines more, each of which is another
pub four_more : (old a b d new : List (List ℕ)) (k k' l l' m m' n n' : List ℕ) → k ≡ k' → l ≡ l' → m ≡ m' → n ≡ n'
    → a ≡ old ++ k ∷ [] → b ≡ a ++ l ∷ [] → d ≡ b ++ m ∷ [] → new ≡ d ++ n ∷ [] → new ≡ old ++ k' ∷ l' ∷ m' ∷ n' ∷ []
four_more old a b d new k k' l l' m m' n n' e f g h p q r s =
    subst (λ t. new ≡ old ++ t ∷ l' ∷ m' ∷ n' ∷ []) e (subst (λ t. new ≡ old ++ k ∷ t ∷ m' ∷ n' ∷ []) f
    (subst (λ t. new ≡ old ++ k ∷ l ∷ t ∷ n' ∷ []) g (subst (λ t. new ≡ old ++ k ∷ l ∷ m ∷ t ∷ []) h
    (s ∙ ap (λ t. t ++ n ∷ []) r ∙ append_assoc b (m ∷ []) (n ∷ []) ∙ ap (λ t. t ++ m ∷ n ∷ []) q
    ∙ append_assoc a (l ∷ []) (m ∷ n ∷ []) ∙ ap (λ t. t ++ l ∷ m ∷ n ∷ []) p ∙ append_assoc old (k ∷ []) (l ∷ m ∷ n ∷ [])))))

pub lanes_more : (sheet : Sheet) (columns : List Column) (units : List ℕ) (i : ℕ) (old page new : List (List ℕ)) → Lanes sheet columns units i old page
    → HasLane sheet columns (get_or units i 0) page new → Lanes sheet columns units (i + 1) old new
lanes_more sheet columns units i old page new so_far more =
    let e : suc i ≡ i + 1 = omega arith in
    subst (λ n. Lanes sheet columns units n old new) e (page, so_far, more)

pub panels_more : (sheet : Sheet) (i : ℕ) (columns some : List Column) (old page new : List (List ℕ)) → columns ≡ sheet.run.now.columns
    → some ≡ slice_range columns (72 * i) (72 * i + 72) → Panels sheet i old page → HasPanel sheet some page new → Panels sheet (i + 1) old new
panels_more sheet i columns some old page new those these so_far more =
    let e : suc i ≡ i + 1 = omega arith in
    let here : some ≡ panel_columns sheet.run.now.columns i = these ∙ ap (λ cs. panel_columns cs i) those in
    subst (λ n. Panels sheet n old new) e (page, so_far, subst (λ cs. HasPanel sheet cs page new) here more)

rows_and : (rs : List Request) (rows : List (List ℕ)) (r : Request) (row : List ℕ) → AreRows rs rows → IsRow r row → AreRows (rs ++ r ∷ []) (rows ++ row ∷ [])
rows_and [] [] r row are is = (is, tt)
rows_and [] (x ∷ xs) r row are is = absurd are
rows_and (y ∷ ys) [] r row are is = absurd are
rows_and (y ∷ ys) (x ∷ xs) r row are is = (are.0, rows_and ys xs r row are.1 is)

pub rows_none : (page : List (List ℕ)) → HasRows [] page page
rows_none page = record { rows = []; each = tt; is = sym (append-nil page) }

pub rows_more : (rs : List Request) (i : ℕ) (d : Request) (old page new : List (List ℕ)) (row : List ℕ) → i < length rs
    → HasRows (take i rs) old page → IsRow (get_or rs i d) row → new ≡ page ++ row ∷ [] → HasRows (take (i + 1) rs) old new
rows_more rs i d old page new row bound so_far it e = record {
  rows = so_far.rows ++ row ∷ [];
  each =
      let n : suc i ≡ i + 1 = omega arith in
      let last : take i rs ++ get_or rs i d ∷ [] ≡ take (i + 1) rs = sym (take-suc rs i d bound) ∙ ap (λ n. take n rs) n in
      subst (λ taken. AreRows taken (so_far.rows ++ row ∷ [])) last (rows_and (take i rs) so_far.rows (get_or rs i d) row so_far.each it);
  is = e ∙ ap (λ t. t ++ row ∷ []) so_far.is ∙ append_assoc old so_far.rows (row ∷ []);
}

pub both_ok : {A E : Type 0} (r : Result A E) (P Q R : A → Type 0) → ((a : A) → P a → Q a → R a) → IfOk r P → IfOk r Q → IfOk r R
both_ok (Ok a) P Q R f p q = f a p q
both_ok (Err e) P Q R f p q = tt

-- the chart, page by page
pub chart_of : (sheet : Sheet) (sentences : List Sentence) (requests those : List Request) (head panelled named listing counted lettered page lines : List (List ℕ)) (count left : ℕ) (text : List ℕ)
    → SumUp sheet sentences → head ≡ head_of sheet sentences ++ [] ∷ [] → Panels sheet (panels_of sheet.run.now.columns) head panelled
    → Grows panelled named → requests ≡ those → those ≡ listed sheet (is_few (shown_count sheet)) → HasRows requests named listing
    → count ≡ shown_count sheet → left ≡ count - length those → counted ≡ listing ++ left_out left
    → lettered ≡ counted ++ legend → Grows lettered page → lines ≡ page → text ≡ text_of lines → IsChart text → IsChartOf sheet text
chart_of sheet sentences requests those head panelled named listing counted lettered page lines count left text sums first panels names same listed_are rows all rest told letters marks lines_are is chart = record {
  sentences = sentences;
  sums_up = sums;
  panelled = panelled;
  panels = subst (λ p. Panels sheet (panels_of sheet.run.now.columns) p panelled) first panels;
  named = named;
  names = names;
  listing = listing;
  rows = subst (λ rs. HasRows rs named listing) (same ∙ listed_are) rows;
  page = page;
  marks =
      let so_many : left ≡ shown_count sheet - length (listed sheet (is_few (shown_count sheet))) =
      rest ∙ ap (λ n. n - length those) all ∙ ap (λ (rs : List Request). shown_count sheet - length rs) listed_are in
      subst (λ p. Grows p page) (letters ∙ ap (λ p. p ++ legend) (told ∙ ap (λ n. listing ++ left_out n) so_many)) marks;
  lines = is ∙ ap text_of lines_are;
  chart = chart;
}
