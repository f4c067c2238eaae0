-- The queue by buckets of cylinders.
use Rattle.std.specs.Prelude.{◌≡◌, ◌≢◌, ℕ, ◌==◌, ◌/◌, ◌%◌, ◌<◌, Bool, true, false, if◌then◌else◌, List, [], ◌∷◌, ◌++◌, length, slice_index, slice_set, zero, suc}
use Rattle.std.specs.List.{AllByRecursion}
use Rattle.std.specs.Int.{bit_at}
use Rattle.disksort.specs.declared.Waiter.{Waiter}

-- a run: for each cylinder the first and the last number that waits there, and whether one does
pub record RunView : Type 0 where
  pub firsts : List ℕ
  pub lasts : List ℕ
  pub marked : ℕ → Bool

-- the bit of a cylinder in a row of words of 64 bits
abbrev pub has_bit : List ℕ → ℕ → Bool
has_bit words = λ cylinder. bit_at (slice_index words (cylinder / 64)) (cylinder % 64) == 1

-- the marks, with one that is on or off
abbrev pub with_bit : (ℕ → Bool) → ℕ → Bool → ℕ → Bool
with_bit marked cylinder on = λ c. if c == cylinder then on else marked c

-- the lowest mark
pub record IsLowest (marked : ℕ → Bool) (cylinder : ℕ) : Type 0 where
  pub on : marked cylinder ≡ true
  pub below : (k : ℕ) → k < cylinder → marked k ≡ false

-- a run, and the numbers behind, where a number joins behind the last of its cylinder
abbrev pub appended : RunView → ℕ → ℕ → RunView
appended run number cylinder =
    if run.marked cylinder
    then record run { lasts = slice_set run.lasts cylinder number }
    else record {
      firsts = slice_set run.firsts cylinder number;
      lasts = slice_set run.lasts cylinder number;
      marked = with_bit run.marked cylinder true;
    }

abbrev pub behind_appended : RunView → List ℕ → ℕ → ℕ → List ℕ
behind_appended run behind number cylinder = if run.marked cylinder then slice_set behind (slice_index run.lasts cylinder) number else behind

-- a run without the first number of a cylinder
abbrev pub without_first : RunView → List ℕ → ℕ → RunView
without_first run behind cylinder =
    if slice_index run.firsts cylinder == slice_index run.lasts cylinder
    then record run { marked = with_bit run.marked cylinder false }
    else record run { firsts = slice_set run.firsts cylinder (slice_index behind (slice_index run.firsts cylinder)) }

-- from a number on, each next one by the number behind it, up to the last one, and at most so many
unfoldable pub chain : List ℕ → ℕ → ℕ → ℕ → List ℕ
chain behind zero from last = []
chain behind (suc more) from last = from ∷ (if from == last then [] else chain behind more (slice_index behind from) last)

-- the numbers that wait at a cylinder, in order of joining
unfoldable pub bucket : ℕ → RunView → List ℕ → ℕ → List ℕ
bucket capacity run behind cylinder =
    if run.marked cylinder then chain behind capacity (slice_index run.firsts cylinder) (slice_index run.lasts cylinder) else []

-- the waiters that have these numbers at a cylinder
abbrev pub at_cylinder : ℕ → List ℕ → List Waiter
at_cylinder cylinder [] = []
at_cylinder cylinder (n ∷ ns) = record { number = n; cylinder = cylinder } ∷ at_cylinder cylinder ns

-- the waiters of all cylinders below a bound, by ascending cylinder
unfoldable pub spell : (ℕ → List ℕ) → ℕ → List Waiter
spell buckets zero = []
spell buckets (suc cylinder) = spell buckets cylinder ++ at_cylinder cylinder (buckets cylinder)

abbrev pub spelled : ℕ → RunView → List ℕ → ℕ → List Waiter
spelled capacity run behind cylinders = spell (bucket capacity run behind) cylinders

-- behind a number these follow, and the last of them is the last one
abbrev pub Leads : List ℕ → ℕ → List ℕ → ℕ → Type 0
Leads behind x [] last = x ≡ last
Leads behind x (y ∷ ys) last = (y ≡ slice_index behind x) × Leads behind y ys last

-- these are linked from the first one to the last one
abbrev pub IsLinked : List ℕ → List ℕ → ℕ → ℕ → Type 0
IsLinked behind [] first last = ⊥
IsLinked behind (x ∷ xs) first last = (x ≡ first) × Leads behind x xs last

-- no number waits twice
abbrev pub Once : List Waiter → Type 0
Once [] = Unit {0}
Once (w ∷ ws) = AllByRecursion (λ v. w.number ≢ v.number) ws × Once ws

-- a run's marks are at cylinders of the pack, and each marked cylinder has a linked bucket
pub record IsRun (capacity : ℕ) (run : RunView) (behind : List ℕ) (cylinders : ℕ) : Type 0 where
  pub firsts : length run.firsts ≡ cylinders
  pub lasts : length run.lasts ≡ cylinders
  pub inside : (c : ℕ) → run.marked c ≡ true → c < cylinders
  pub linked : (c : ℕ) → run.marked c ≡ true
      → IsLinked behind (bucket capacity run behind c) (slice_index run.firsts c) (slice_index run.lasts c)
