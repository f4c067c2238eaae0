-- A bucket's numbers, linked one behind another: what a chain that is walked gives, and what a new last number changes.
use Rattle.std.proofs.Common.{◌≡◌, ◌≢◌, ℕ, ◌<◌, ◌≤◌, true, false, List, [], ◌∷◌, ◌++◌, length, set, zero, suc, refl, sym, ◌∙◌, ap, subst, arith, get_or-set_same, get_or-set_other}
use Rattle.std.specs.Prelude.{if◌then◌else◌, slice_index}
use Rattle.std.specs.List.{AllByRecursion}
use Rattle.std.proofs.lemmas.Bool.{cond-true, cond-false, eq-eqb, ne_eqb}
use Rattle.disksort.specs.Buckets.{chain, bucket, Leads, IsLinked, RunView}

-- no number twice
abbrev pub Distinct : List ℕ → Type 0
Distinct [] = Unit {0}
Distinct (x ∷ xs) = AllByRecursion (λ y. x ≢ y) xs × Distinct xs

-- what holds of each holds of the last one
pub of_last : (P : ℕ → Type 0) (behind : List ℕ) (x : ℕ) (ys : List ℕ) (last : ℕ) → AllByRecursion P (x ∷ ys) → Leads behind x ys last → P last
of_last P behind x [] last all leads = subst P leads all.0
of_last P behind x (y ∷ ys) last all leads = of_last P behind y ys last all.1 leads.1

-- a chain that is walked
pub chain-is : (behind : List ℕ) (x : ℕ) (ys : List ℕ) (last fuel : ℕ) → Leads behind x ys last → Distinct (x ∷ ys) → length (x ∷ ys) ≤ fuel
    → chain behind fuel x last ≡ x ∷ ys
unfolding chain
chain-is behind x ys last zero leads once le = absurd (omega arith)
chain-is behind x [] last (suc fuel) leads once le = ap (λ l. x ∷ l) (cond-true _ _ _ (eq-eqb x last leads))
chain-is behind x (y ∷ ys) last (suc fuel) leads once le =
    ap (λ l. x ∷ l)
    (cond-false _ _ _ (ne_eqb x last (of_last (λ z. x ≢ z) behind y ys last once.0 leads.1)) ∙
    ap (λ z. chain behind fuel z last) (sym leads.0) ∙ chain-is behind y ys last fuel leads.1 once.1 (omega arith))

-- a number behind one that is not in the chain
pub leads-frame : (behind : List ℕ) (l n x : ℕ) (ys : List ℕ) (last : ℕ) → AllByRecursion (λ z. l ≢ z) (x ∷ ys) → Leads behind x ys last
    → Leads (set behind l n) x ys last
leads-frame behind l n x [] last all leads = leads
leads-frame behind l n x (y ∷ ys) last all leads =
    (leads.0 ∙ sym (get_or-set_other behind l x n 0 (λ e. all.0 (sym e))), leads-frame behind l n y ys last all.1 leads.1)

-- a number behind the last one
pub leads-more : (behind : List ℕ) (n x : ℕ) (ys : List ℕ) (last : ℕ) → Distinct (x ∷ ys) → last < length behind → Leads behind x ys last
    → Leads (set behind last n) x (ys ++ n ∷ []) n
leads-more behind n x [] last once lt leads =
    (sym (ap (λ z. slice_index (set behind last n) z) leads ∙ get_or-set_same behind last n 0 lt), refl)
leads-more behind n x (y ∷ ys) last once lt leads =
    (leads.0 ∙ sym (get_or-set_other behind last x n 0 (of_last (λ z. x ≢ z) behind y ys last once.0 leads.1)), leads-more behind n y ys last once.1 lt leads.1)

-- a bucket, where one waits and where none does
pub bucket-marked : (capacity : ℕ) (run : RunView) (behind : List ℕ) (c : ℕ) → run.marked c ≡ true
    → bucket capacity run behind c ≡ chain behind capacity (slice_index run.firsts c) (slice_index run.lasts c)
unfolding bucket
bucket-marked capacity run behind c e = cond-true _ _ _ e

pub bucket-none : (capacity : ℕ) (run : RunView) (behind : List ℕ) (c : ℕ) → run.marked c ≡ false → bucket capacity run behind c ≡ []
unfolding bucket
bucket-none capacity run behind c e = cond-false _ _ _ e

pub bucket-same : (capacity : ℕ) (run new : RunView) (behind : List ℕ) (i : ℕ) → new.marked i ≡ run.marked i
    → slice_index new.firsts i ≡ slice_index run.firsts i → slice_index new.lasts i ≡ slice_index run.lasts i
    → bucket capacity new behind i ≡ bucket capacity run behind i
unfolding bucket
bucket-same capacity run new behind i m f l =
    ap (λ b. if b then chain behind capacity (slice_index new.firsts i) (slice_index new.lasts i) else []) m ∙
    ap (λ n. if run.marked i then chain behind capacity n (slice_index new.lasts i) else []) f ∙
    ap (λ n. if run.marked i then chain behind capacity (slice_index run.firsts i) n else []) l

-- a bucket whose numbers are known to be linked
pub bucket-is : (capacity : ℕ) (run : RunView) (behind : List ℕ) (i x : ℕ) (xs : List ℕ) → run.marked i ≡ true → x ≡ slice_index run.firsts i
    → Leads behind x xs (slice_index run.lasts i) → Distinct (x ∷ xs) → length (x ∷ xs) ≤ capacity → bucket capacity run behind i ≡ x ∷ xs
bucket-is capacity run behind i x xs on first leads once le =
    bucket-marked capacity run behind i on ∙ ap (λ n. chain behind capacity n (slice_index run.lasts i)) (sym first) ∙
    chain-is behind x xs (slice_index run.lasts i) capacity leads once le

pub linked-last : (P : ℕ → Type 0) (behind numbers : List ℕ) (first last : ℕ) → IsLinked behind numbers first last → AllByRecursion P numbers → P last
linked-last P behind [] first last linked all = absurd linked
linked-last P behind (x ∷ xs) first last linked all = of_last P behind x xs last all linked.1

pub linked-first : (P : ℕ → Type 0) (behind numbers : List ℕ) (first last : ℕ) → IsLinked behind numbers first last → AllByRecursion P numbers → P first
linked-first P behind [] first last linked all = absurd linked
linked-first P behind (x ∷ xs) first last linked all = subst P linked.0 all.0
