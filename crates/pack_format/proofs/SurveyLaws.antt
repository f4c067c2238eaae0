-- What the first reading has found, block by block, and what it comes to.
use Rattle.std.proofs.Common.{◌≡◌, ◌⊎◌, inl, inr, ℕ, zero, suc, ◌+◌, ◌<◌, ◌≤◌, ◌&&◌, not, Bool, true, false, List, [], ◌∷◌, ◌++◌, map, length, length-append, get_or, Option, None, Some, refl, sym, ap, ◌∙◌, subst, arith}
use Rattle.std.specs.Prelude.{insert, nat_lt, slice_get, if◌then◌else◌}
use Rattle.std.proofs.lemmas.Bool.Decides.{nat_tests}
use Rattle.std.proofs.lemmas.Bool.{cases_lt}
use Rattle.std.proofs.lemmas.List.{append-nil, length-map, map-append}
use Rattle.std.proofs.lemmas.List.Edits.{get_or-insert_above, get_or-insert_at, insert_end, length-insert}
use Rattle.std.proofs.lemmas.Option.{get_or_from_slice_get, slice_get-get_or, slice_get_within}
use Rattle.pack_geometry.specs.declared.DriveKind.{DriveKind}
use Rattle.pack_geometry.specs.declared.DriveKind.TheVariants.{Rp06}
use Rattle.pack_geometry.specs.declared.Place.{Place}
use Rattle.pack_geometry.specs.Geometry.{block_number, copy_at, limit_of, place_at, replacement_at}
use Rattle.pack_geometry.specs.Pack.{Pack, is_marked}
use Rattle.pack_geometry.specs.TableEdit.{with_place}
use Rattle.pack_geometry.specs.TableSpelling.{Table, IsTable}
use Rattle.bad144_table.specs.Inserts.{Inserts, IsRefused}
use Rattle.bad144_table.specs.declared.table.InsertFault.{InsertFault}
use Rattle.bad144_table.specs.declared.table.InsertFault.TheVariants as refused
use Rattle.pack_format.specs.Faults.{IsWhy}
use Rattle.pack_format.specs.Formatted.{CanBeFormatted, IsSpare, IsTooMany, if_on, marked_below}
use Rattle.pack_format.specs.Surveys.{IsFirst, IsJudged, IsSurvey, all_marked, used_of}
use Rattle.pack_format.specs.declared.fault.FormatFault.TheVariants.{NoCopy}
use Rattle.pack_format.specs.testing.Polls.{answer_for}
use Rattle.pack_format.specs.declared.testing.station.Polled.{Polled}
use Rattle.pack_format.specs.declared.testing.station.Polled.TheVariants.{Clean, Marked}
use Rattle.pack_format.proofs.testing.StageLaws.{at, false_true}

pub not_off : (b : Bool) → not b ≡ true → b ≡ false
not_off true e = absurd (false_true e)
not_off false e = refl

-- ---- the marked blocks below a number

pub none_below : (pack : Pack) → marked_below pack 0 ≡ []
unfolding marked_below
none_below pack = refl

pub one_more : (pack : Pack) (block : ℕ) → marked_below pack (block + 1) ≡ marked_below pack block ++ if_on (is_marked pack block) block
unfolding marked_below
one_more pack block = let e : block + 1 ≡ suc block = omega arith in ap (marked_below pack) e

pub unmarked_more : (pack : Pack) (block : ℕ) → is_marked pack block ≡ false → marked_below pack (block + 1) ≡ marked_below pack block
unmarked_more pack block unmarked =
    one_more pack block ∙ ap (λ (b : Bool). marked_below pack block ++ if_on b block) unmarked ∙ append-nil (marked_below pack block)

pub marked_more : (pack : Pack) (block : ℕ) → is_marked pack block ≡ true → marked_below pack (block + 1) ≡ marked_below pack block ++ block ∷ []
marked_more pack block marked = one_more pack block ∙ ap (λ (b : Bool). marked_below pack block ++ if_on b block) marked

pub count_more : (pack : Pack) (block : ℕ) → is_marked pack block ≡ true → length (marked_below pack (block + 1)) ≡ length (marked_below pack block) + 1
count_more pack block marked = ap (λ (xs : List ℕ). length xs) (marked_more pack block marked) ∙ length-append (marked_below pack block) (block ∷ [])

-- each lies below the number
at_end : (xs : List ℕ) (x y d : ℕ) (i : ℕ) → i < length (xs ++ x ∷ []) → (i < length xs) × (get_or (xs ++ x ∷ []) i d ≡ get_or xs i d) ⊎ ((i ≡ length xs) × (get_or (xs ++ x ∷ []) i d ≡ x))
at_end [] x y d zero lt = inr (refl, refl)
at_end [] x y d (suc i) lt = absurd (omega (arith, lt))
at_end (z ∷ xs) x y d zero lt = inl (omega arith, refl)
at_end (z ∷ xs) x y d (suc i) lt =
    elim (at_end xs x y d i (omega (arith, lt))) [
      | inl (less, e) ↦ inl (omega (arith, less), e)
      | inr (same, e) ↦ inr (omega (arith, same), e)
    ]

pub below_it : (pack : Pack) (block i d : ℕ) → i < length (marked_below pack block) → get_or (marked_below pack block) i d < block
below_it pack zero i d lt = absurd (let e = ap (λ (xs : List ℕ). length xs) (none_below pack) in omega (arith, lt, e))
below_it pack (suc block) i d lt =
    let next : suc block ≡ block + 1 = omega arith in
    subst (λ (n : ℕ). i < length (marked_below pack n) → get_or (marked_below pack n) i d < n) (sym next)
    (at (is_marked pack block)
    (λ marked h.
    let e = marked_more pack block marked in
    elim (at_end (marked_below pack block) block block d i (subst (λ (xs : List ℕ). i < length xs) e h)) [
      | inl (less, same) ↦ let rest = below_it pack block i d less in omega (arith, rest, ap (λ (xs : List ℕ). get_or xs i d) e, same)
      | inr (last, same) ↦ omega (arith, ap (λ (xs : List ℕ). get_or xs i d) e, same)
    ])
    (λ unmarked h.
    let e = unmarked_more pack block unmarked in
    let rest = below_it pack block i d (subst (λ (xs : List ℕ). i < length xs) e h) in
    omega (arith, rest, ap (λ (xs : List ℕ). get_or xs i d) e)))
    lt

-- a marked block is among those below a greater number
pub among : (pack : Pack) (n block : ℕ) → block < n → is_marked pack block ≡ true → (i : ℕ) × (slice_get (marked_below pack n) i ≡ Some block)
among pack zero block lt marked = absurd (omega (arith, lt))
among pack (suc n) block lt marked =
    let next : suc n ≡ n + 1 = omega arith in
    subst (λ (k : ℕ). (i : ℕ) × (slice_get (marked_below pack k) i ≡ Some block)) (sym next)
    (elim (cases_lt block n) [
      | inl less ↦
          let before = among pack n block less marked in
          at (is_marked pack n)
          (λ m. (before.0, ap (λ (xs : List ℕ). slice_get xs before.0) (marked_more pack n m) ∙ kept (marked_below pack n) n before.0 block before.1))
          (λ u. (before.0, ap (λ (xs : List ℕ). slice_get xs before.0) (unmarked_more pack n u) ∙ before.1))
      | inr same ↦
          let equal : n ≡ block = omega (arith, lt, same) in (
            length (marked_below pack n),
            ap (λ (xs : List ℕ). slice_get xs (length (marked_below pack n))) (marked_more pack n (ap (is_marked pack) equal ∙ marked))
                ∙ last (marked_below pack n) n ∙ ap Some equal,
          )
    ])
  where
    kept : (xs : List ℕ) (x i y : ℕ) → slice_get xs i ≡ Some y → slice_get (xs ++ x ∷ []) i ≡ Some y
    kept [] x i y e = absurd (omega (arith, slice_get_within [] i y e))
    kept (z ∷ xs) x zero y e = e
    kept (z ∷ xs) x (suc i) y e = kept xs x i y e

    last : (xs : List ℕ) (x : ℕ) → slice_get (xs ++ x ∷ []) (length xs) ≡ Some x
    last [] x = refl
    last (z ∷ xs) x = last xs x

-- ---- the survey

same_table : (kind : DriveKind) (serial : ℕ) (xs ys : List Place) → xs ≡ ys
    → ◌≡◌ {A = Table} (record { kind = kind; serial = serial; places = xs }) (record { kind = kind; serial = serial; places = ys })
same_table kind serial xs ys e = rw e refl

pub survey_none : (kind : DriveKind) (serial : ℕ) (pack : Pack) (table : Table) → table ≡ record { kind = kind; serial = serial; places = [] } → IsSurvey kind serial pack 0 0 table
survey_none kind serial pack table is = record {
  counted = sym (ap (λ (xs : List ℕ). length xs) (none_below pack));
  listed = λ few. is ∙ same_table kind serial [] (map (place_at kind) (marked_below pack 0)) (sym (ap (λ (xs : List ℕ). map (place_at kind) xs) (none_below pack)));
}

pub survey_same : (kind : DriveKind) (serial : ℕ) (pack : Pack) (block number : ℕ) (table : Table) → IsSurvey kind serial pack block number table → is_marked pack block ≡ false
    → IsSurvey kind serial pack (block + 1) number table
survey_same kind serial pack block number table survey unmarked =
    let e = unmarked_more pack block unmarked in
    record {
      counted = survey.counted ∙ sym (ap (λ (xs : List ℕ). length xs) e);
      listed = λ few. survey.listed few
          ∙ same_table kind serial (map (place_at kind) (marked_below pack block)) (map (place_at kind) (marked_below pack (block + 1))) (sym (ap (λ (xs : List ℕ). map (place_at kind) xs) e));
    }

-- more than a table lists
pub survey_over : (kind : DriveKind) (serial : ℕ) (pack : Pack) (block number : ℕ) (table other : Table) → IsSurvey kind serial pack block number table → is_marked pack block ≡ true
    → 126 ≤ number → IsSurvey kind serial pack (block + 1) (number + 1) other
survey_over kind serial pack block number table other survey marked over = record {
  counted = ap (λ (n : ℕ). n + 1) survey.counted ∙ sym (count_more pack block marked);
  listed = λ few. absurd (omega (arith, few, over));
}

number_back : (kind : DriveKind) (block : ℕ) → block_number kind (place_at kind block) ≡ block
number_back Rp06 block = omega arith
number_back other block = omega arith

-- the places of the blocks below one lie below it
places_below : (kind : DriveKind) (pack : Pack) (block : ℕ) (place : Place) (i : ℕ) → slice_get (map (place_at kind) (marked_below pack block)) i ≡ Some place → block_number kind place < block
places_below kind pack block place i is = by (marked_below pack block) (λ j d lt. below_it pack block j d lt) i is
  where
    by : (xs : List ℕ) → ((j d : ℕ) → j < length xs → get_or xs j d < block) → (i : ℕ) → slice_get (map (place_at kind) xs) i ≡ Some place → block_number kind place < block
    by [] low i e = absurd (omega (arith, slice_get_within [] i place e))
    by (x ∷ xs) low zero e =
        let same : place_at kind x ≡ place = get_or_from_slice_get (place_at kind x ∷ []) 0 place place e in
        let less = low 0 0 (omega arith) in
        omega (arith, less, ap (block_number kind) same, number_back kind x)
    by (x ∷ xs) low (suc i) e = by xs (λ j d lt. low (suc j) d (omega (arith, lt))) i e

-- a place above all that are listed goes behind them
inserted_last : (t : Table) (place : Place) (i : ℕ) → IsTable (with_place t i place) → i ≤ length t.places
    → ((k : ℕ) (p : Place) → slice_get t.places k ≡ Some p → block_number t.kind p < block_number t.kind place) → i ≡ length t.places
inserted_last t place i valid bound low =
    elim (cases_lt i (length t.places)) [
      | inl less ↦
          let here = ap (block_number t.kind) (get_or-insert_at t.places i place place bound) in
          let next = ap (block_number t.kind) (get_or-insert_above t.places i place place i (omega arith) bound) in
          let long = length-insert t.places i place bound in
          let rising = valid.ascending i (i + 1) place (omega arith) (omega (arith, long)) in
          let below = low i (get_or t.places i place) (slice_get-get_or t.places i place less) in
          absurd (omega (arith, here, next, rising, below))
      | inr same ↦ omega (arith, same, bound)
    ]

made : (k l : DriveKind) (s t : ℕ) (xs ys : List Place) → k ≡ l → s ≡ t → xs ≡ ys
    → ◌≡◌ {A = Table} (record { kind = k; serial = s; places = xs }) (record { kind = l; serial = t; places = ys })
made k l s t xs ys one two three = rw (one, two, three) refl

number_by : (k kind : DriveKind) (p : Place) → k ≡ kind → block_number k p ≡ block_number kind p
number_by k kind p e = ap (λ (x : DriveKind). block_number x p) e

module _ (kind : DriveKind) (serial : ℕ) (pack : Pack) (block : ℕ) (table : Table)
    (is : table ≡ record { kind = kind; serial = serial; places = map (place_at kind) (marked_below pack block) }) where
  places_is : table.places ≡ map (place_at kind) (marked_below pack block)
  places_is = ap (λ (t : Table). t.places) is

  kind_is : table.kind ≡ kind
  kind_is = ap (λ (t : Table). t.kind) is

  pub listed_low : (k : ℕ) (p : Place) → slice_get table.places k ≡ Some p → block_number table.kind p < block_number table.kind (place_at kind block)
  listed_low k p e =
      let less = places_below kind pack block p k (ap (λ (xs : List Place). slice_get xs k) (sym places_is) ∙ e) in
      omega (arith, less, number_by table.kind kind p kind_is, number_by table.kind kind (place_at kind block) kind_is, number_back kind block)

  pub pushed : (new : Table) (i : ℕ) → Inserts table new (place_at kind block) i → is_marked pack block ≡ true
      → new ≡ record { kind = kind; serial = serial; places = map (place_at kind) (marked_below pack (block + 1)) }
  pushed new i inserts marked =
      let last = inserted_last table (place_at kind block) i (subst IsTable inserts.changed inserts.valid) inserts.position listed_low in
      inserts.changed
      ∙ made table.kind kind table.serial serial (insert table.places i (place_at kind block)) (map (place_at kind) (marked_below pack (block + 1))) kind_is (ap (λ (t : Table). t.serial) is)
      (ap (λ (n : ℕ). insert table.places n (place_at kind block)) last ∙ insert_end table.places (place_at kind block)
      ∙ ap (λ (xs : List Place). xs ++ place_at kind block ∷ []) places_is
      ∙ sym (ap (λ (xs : List ℕ). map (place_at kind) xs) (marked_more pack block marked) ∙ map-append (place_at kind) (marked_below pack block) (block ∷ [])))

  pub not_refused : (fault : InsertFault) → block < limit_of kind → length (marked_below pack block) < 126 → IsRefused table (place_at kind block) fault → ⊥
  not_refused refused.Reserved lt few why =
      omega (arith, why, lt, ap limit_of kind_is, number_by table.kind kind (place_at kind block) kind_is, number_back kind block)
  not_refused (refused.Listed j) lt few why = let less = listed_low j (place_at kind block) why.1 in omega (arith, less)
  not_refused refused.Full lt few why =
      omega (arith, why.1, few, ap (λ (xs : List Place). length xs) places_is, length-map (marked_below pack block) (place_at kind))

pub survey_more : (kind : DriveKind) (serial : ℕ) (pack : Pack) (block number : ℕ) (table new : Table) (i : ℕ) → IsSurvey kind serial pack block number table
    → is_marked pack block ≡ true → number < 126 → Inserts table new (place_at kind block) i → IsSurvey kind serial pack (block + 1) (number + 1) new
survey_more kind serial pack block number table new i survey marked few inserts = record {
  counted = ap (λ (n : ℕ). n + 1) survey.counted ∙ sym (count_more pack block marked);
  listed = λ _. pushed kind serial pack block table (survey.listed (omega (arith, few))) new i inserts marked;
}

pub survey_refused : (kind : DriveKind) (serial : ℕ) (pack : Pack) (block number : ℕ) (table : Table) (fault : InsertFault) → IsSurvey kind serial pack block number table
    → block < limit_of kind → number < 126 → IsRefused table (place_at kind block) fault → ⊥
survey_refused kind serial pack block number table fault survey lt few why =
    not_refused kind serial pack block table (survey.listed (omega (arith, few))) fault lt (omega (arith, few, survey.counted)) why

-- ---- the first marked replacement

-- ---- the copies

pub all_none : (kind : DriveKind) (pack : Pack) → all_marked kind pack 0 ≡ true
unfolding all_marked
all_none kind pack = refl

pub all_more : (kind : DriveKind) (pack : Pack) (k : ℕ) → all_marked kind pack (k + 1) ≡ (all_marked kind pack k && is_marked pack (copy_at kind k))
unfolding all_marked
all_more kind pack k = let e : k + 1 ≡ suc k = omega arith in ap (all_marked kind pack) e

pub and_both : (a b : Bool) → (a && b) ≡ true → (a ≡ true) × (b ≡ true)
and_both true b e = (refl, e)
and_both false b e = absurd (false_true e)

pub all_told : (kind : DriveKind) (pack : Pack) (n : ℕ) → all_marked kind pack n ≡ true → (k : ℕ) → k < n → is_marked pack (copy_at kind k) ≡ true
all_told kind pack zero e k lt = absurd (omega (arith, lt))
all_told kind pack (suc n) e k lt =
    let next : suc n ≡ n + 1 = omega arith in
    let parts = and_both (all_marked kind pack n) (is_marked pack (copy_at kind n)) (sym (all_more kind pack n) ∙ ap (all_marked kind pack) (sym next) ∙ e) in
    elim (cases_lt k n) [
      | inl less ↦ all_told kind pack n parts.0 k less
      | inr same ↦ let equal : k ≡ n = omega (arith, lt, same) in ap (λ (i : ℕ). is_marked pack (copy_at kind i)) equal ∙ parts.1
    ]

pub all_by : (kind : DriveKind) (pack : Pack) (n : ℕ) → ((k : ℕ) → k < n → is_marked pack (copy_at kind k) ≡ true) → all_marked kind pack n ≡ true
all_by kind pack zero each = all_none kind pack
all_by kind pack (suc n) each =
    let next : suc n ≡ n + 1 = omega arith in
    ap (all_marked kind pack) next ∙ all_more kind pack n
    ∙ ap (λ (b : Bool). b && is_marked pack (copy_at kind n)) (all_by kind pack n (λ k lt. each k (omega (arith, lt)))) ∙ each n (omega arith)

-- ---- the judgement

no_used : (kind : DriveKind) (pack : Pack) (number index : ℕ) (spare : Option ℕ) → number ≤ 126 → IsFirst kind pack 126 spare → used_of number spare ≡ None → index < number
    → is_marked pack (replacement_at kind index) ≡ false
no_used kind pack number index None few first none lt = first index (omega (arith, few, lt))
no_used kind pack number index (Some i) few first none lt = first.1 index (by (nat_lt i number) refl none)
  where
    by : (b : Bool) → nat_lt i number ≡ b → (if b then Some i else None) ≡ None → index < i
    by true is e = absurd (clash e)
      where
        clash : ◌≡◌ {A = Option ℕ} (Some i) None → ⊥
        clash h = cc
    by false is e = let no : number ≤ i = grind (arith, nat_tests) in omega (arith, no, lt)

module _ (kind : DriveKind) (pack : Pack) (number : ℕ) (spare : Option ℕ) (no_copy : Bool) (judged : IsJudged kind pack number spare no_copy) where
  few_found : number ≤ 126 → IsTooMany kind pack → ⊥
  few_found few many = omega (arith, few, many, judged.counted)

  none_spare : number ≤ 126 → used_of number spare ≡ None → (index : ℕ) → IsSpare kind pack index → ⊥
  none_spare few none index is =
      false_true (sym (no_used kind pack number index spare few judged.first none (omega (arith, is.used, judged.counted))) ∙ is.marked)

  pub is_no_copy : number ≤ 126 → used_of number spare ≡ None → no_copy ≡ true → IsWhy kind pack NoCopy
  is_no_copy few none all = (judged.fits, few_found few, none_spare few none, λ k lt. all_told kind pack 5 (sym judged.copies ∙ all) k lt)

  pub can_be : number ≤ 126 → used_of number spare ≡ None → no_copy ≡ false → CanBeFormatted kind pack
  can_be few none some = record {
    fits = judged.fits;
    few = few_found few;
    spares = none_spare few none;
    copy = λ all. false_true (sym some ∙ judged.copies ∙ all_by kind pack 5 all);
  }

-- a poll's answer tells whether the block is marked
pub answer_once : (a b : Bool) (p : Polled) → p ≡ answer_for a → p ≡ answer_for b → a ≡ b
answer_once true true p one other = refl
answer_once false false p one other = refl
answer_once true false p one other = absurd (clash (sym one ∙ other))
  where
    clash : Marked ≡ Clean → ⊥
    clash e = cc
answer_once false true p one other = absurd (clash (sym other ∙ one))
  where
    clash : Marked ≡ Clean → ⊥
    clash e = cc
