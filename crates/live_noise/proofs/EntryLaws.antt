-- Entries in the order of their sectors, and what a binary search finds among them.
use Rattle.std.proofs.Common.{◌≡◌, ℕ, ◌^◌, ◌<◌, ◌≤◌, nat_lt, not, Bool, true, false, List, [], ◌∷◌, take, drop, length, slice_set, refl, ap, sym, ◌∙◌, arith, zero, suc, get_or}
use Rattle.std.specs.List.{filter, insert}
use Rattle.std.proofs.Common.{◌⊎◌, inl, inr, add-one, Some, Result, Ok, Err, is_ok, IsOk, if◌then◌else◌}
use Rattle.std.proofs.Math.Seq.{take-nil, drop-nil}
use Rattle.std.proofs.lemmas.List.{set_split}
use Rattle.std.proofs.lemmas.List.Elements.{All-get_or, All-append, All-take, All-drop}
use Rattle.std.proofs.lemmas.List.Sorted.{IsNonDecreasingBy-insert}
use Rattle.hardware_table.specs.declared.NoiseSpan.{NoiseSpan}
use Rattle.std.specs.List.Sorted.{IsPartitionPoint, IsPartitionedBy}
use Rattle.std.proofs.lemmas.Bool.Decides.{nat_tests}
use Rattle.hardware_table.specs.Noise.{sector_number, span_left}
use Rattle.live_noise.specs.declared.entries.Entry.{Entry}
use Rattle.live_noise.specs.Book.{number_of, is_entry_at, is_entry_behind, AreInOrder, IsNowhere, with_entry, with_used}

-- what does not stand behind a number stands in front
pub parted_behind : (entries : List Entry) → (number : ℕ) → AreInOrder entries
    → IsPartitionedBy (λ (e : Entry). not (is_entry_behind number e)) entries
parted_behind entries number order i j d le lt passes =
    not_behind (number_of (get_or entries i d)) (number_of (get_or entries j d)) number (order.sorted i j d le lt) passes
  where
    not_behind : (a b n : ℕ) → a ≤ b → not (nat_lt n b) ≡ true → not (nat_lt n a) ≡ true
    not_behind a b n le passes = grind (arith, nat_tests)

-- entries of lower number, and entries of one sector
below_is_not_at : (unit block : ℕ) → (e : Entry) → nat_lt (number_of e) (sector_number unit block) ≡ true → is_entry_at unit block e ≡ false
below_is_not_at unit block e low = grind (arith, nat_tests)

at_is_number : (unit block : ℕ) → (e : Entry) → is_entry_at unit block e ≡ true → number_of e ≡ sector_number unit block
at_is_number unit block e here = grind (arith, nat_tests)

number_is_at : (unit block : ℕ) → (e : Entry) → block < 2 ^ 32 → e.block < 2 ^ 32 → number_of e ≡ sector_number unit block → is_entry_at unit block e ≡ true
number_is_at unit block e small its same = grind (arith, nat_tests)

-- an element inside a list is the same whatever the default
same_at : (entries : List Entry) → (i : ℕ) → (d e : Entry) → i < length entries → get_or entries i d ≡ get_or entries i e
same_at [] i d e inside = absurd (omega arith)
same_at (x ∷ xs) zero d e inside = refl
same_at (x ∷ xs) (suc i) d e inside = same_at xs i d e (omega arith)

not_below_or_above : (a b n : ℕ) → nat_lt a n ≡ false → a ≤ b → b ≡ n → a ≡ n
not_below_or_above a b n high le is = grind (arith, nat_tests)

-- where the first entry that is not below a sector's number is not of the sector, none is
pub none_found : (unit block : ℕ) → (entries : List Entry) → (i : ℕ) → block < 2 ^ 32 → AreInOrder entries → i < length entries
    → IsPartitionPoint (λ (e : Entry). nat_lt (number_of e) (sector_number unit block) ≡ true)
    (λ e. nat_lt (number_of e) (sector_number unit block) ≡ false) entries i
    → (e : Entry) → is_entry_at unit block (get_or entries i e) ≡ false
    → IsNowhere (is_entry_at unit block) entries
none_found unit block entries i small order inside point e other =
    record { nowhere = λ k d lt. at_index k d lt (is_entry_at unit block (get_or entries k d)) refl }
  where
    not_first : (k : ℕ) → (d : Entry) → k < length entries → is_entry_at unit block (get_or entries k d) ≡ true → i ≤ k → ⊥
    not_first k d lt here le =
        let first_high : nat_lt (number_of (get_or entries i d)) (sector_number unit block) ≡ false = point.1 i d (omega arith) inside in
        let rises : number_of (get_or entries i d) ≤ number_of (get_or entries k d) = order.sorted i k d le lt in
        let its : number_of (get_or entries k d) ≡ sector_number unit block = at_is_number unit block (get_or entries k d) here in
        let kept : (get_or entries i d).block < 2 ^ 32 = All-get_or (λ (e : Entry). e.block < 2 ^ 32) entries i d inside order.blocks in
        let same : number_of (get_or entries i d) ≡ sector_number unit block = not_below_or_above _ _ _ first_high rises its in
        let found : is_entry_at unit block (get_or entries i d) ≡ true = number_is_at unit block (get_or entries i d) small kept same in
        let not_it : is_entry_at unit block (get_or entries i d) ≡ false = rw (same_at entries i d e inside) other in
        let no_case : true ≡ false = sym found ∙ not_it in cc

    at_index : (k : ℕ) → (d : Entry) → k < length entries → (b : Bool) → is_entry_at unit block (get_or entries k d) ≡ b → is_entry_at unit block (get_or entries k d) ≡ false
    at_index k d lt false e = e
    at_index k d lt true e = by_side (side i k)
      where
        side : (a b : ℕ) → (a ≤ b) ⊎ (b < a)
        side a b = grind (arith, nat_tests)

        by_side : (i ≤ k) ⊎ (k < i) → is_entry_at unit block (get_or entries k d) ≡ false
        by_side (inl le) = absurd (not_first k d lt e le)
        by_side (inr gt) = below_is_not_at unit block (get_or entries k d) (point.0 k d (omega arith) gt)

-- a filter takes the front of a list that is parted, and its opposite the rest
pub filter_front : {X : Type 0} → (p q : X → Bool) → ((x : X) → q x ≡ not (p x)) → (xs : List X) → (i : ℕ)
    → IsPartitionPoint (λ (x : X). p x ≡ true) (λ x. p x ≡ false) xs i
    → (filter p xs ≡ take i xs) × (filter q xs ≡ drop i xs)
filter_front p q opposite [] i point = (sym (take-nil i), sym (drop-nil i))
filter_front p q opposite (x ∷ xs) zero point =
    let here : p x ≡ false = point.1 0 x (omega arith) (omega arith) in
    let rest = filter_front p q opposite xs zero (λ k d le lt. absurd (omega arith), λ k d le lt. point.1 (suc k) d (omega arith) (omega arith)) in
    (rw here rest.0, rw (opposite x, here) (ap (λ l. x ∷ l) rest.1))
filter_front p q opposite (x ∷ xs) (suc i) point =
    let here : p x ≡ true = point.0 0 x (omega arith) (omega arith) in
    let rest = filter_front p q opposite xs i (λ k d le lt. point.0 (suc k) d (omega arith) (omega arith), λ k d le lt. point.1 (suc k) d (omega arith) (omega arith)) in
    (rw here (ap (λ l. x ∷ l) rest.0), rw (opposite x, here) rest.1)

-- an entry put in where those behind it begin stands behind all of its sector
pub put_behind : (entry : Entry) → (entries : List Entry) → (i : ℕ)
    → IsPartitionPoint (λ (e : Entry). not (is_entry_behind (number_of entry) e) ≡ true) (λ e. not (is_entry_behind (number_of entry) e) ≡ false) entries i
    → insert entries i entry ≡ with_entry entry entries
put_behind entry entries i point =
    let parts = filter_front (λ (e : Entry). not (is_entry_behind (number_of entry) e)) (is_entry_behind (number_of entry)) (λ e. twice (is_entry_behind (number_of entry) e)) entries i point in
    rw (parts.0, parts.1) refl
  where
    twice : (b : Bool) → b ≡ not (not b)
    twice true = refl
    twice false = refl

pub put_in_order : (entry : Entry) → (entries : List Entry) → (i : ℕ) → AreInOrder entries → entry.block < 2 ^ 32 → i ≤ length entries
    → IsPartitionPoint (λ (e : Entry). not (is_entry_behind (number_of entry) e) ≡ true) (λ e. not (is_entry_behind (number_of entry) e) ≡ false) entries i
    → AreInOrder (insert entries i entry)
put_in_order entry entries i order small bound point = record {
  sorted = IsNonDecreasingBy-insert number_of entries i entry order.sorted bound
      (λ k d lt. front (number_of (get_or entries k d)) (number_of entry) (point.0 k d (omega arith) lt))
      (λ k d le lt. back (number_of (get_or entries k d)) (number_of entry) (point.1 k d le lt));
  blocks = All-append (λ (e : Entry). e.block < 2 ^ 32) (take i entries) (entry ∷ drop i entries) (All-take (λ (e : Entry). e.block < 2 ^ 32) i entries order.blocks) (All-append (λ (e : Entry). e.block < 2 ^ 32) (entry ∷ []) (drop i entries) (λ k d lt. only k d lt) (All-drop (λ (e : Entry). e.block < 2 ^ 32) i entries order.blocks));
}
  where
    only : (k : ℕ) → (d : Entry) → k < 1 → (get_or (entry ∷ []) k d).block < 2 ^ 32
    only zero d lt = small
    only (suc k) d lt = absurd (omega arith)

    front : (a n : ℕ) → not (nat_lt n a) ≡ true → a ≤ n
    front a n h = grind (arith, nat_tests)

    back : (a n : ℕ) → not (nat_lt n a) ≡ false → n ≤ a
    back a n h = grind (arith, nat_tests)

-- an entry that lives on
pub used_in_place : (word : ℕ) → (i : ℕ) → (entry : Entry) → (span : NoiseSpan) → (entries : List Entry) → i < length entries
    → span_left word entry.span ≡ Some span
    → slice_set entries i (record entry { span = span }) ≡ with_used word i entry entries
used_in_place word i entry span entries inside left =
    rw left (set_split entries i (record entry { span = span }) inside ∙ rw add-one refl)

-- an insert that is done
pub when_ok : {T E : Type 0} → (result : Result T E) → (xs ys zs : List Entry) → IsOk result → zs ≡ (if is_ok result then xs else ys) → zs ≡ xs
when_ok (Ok x) xs ys zs ok is = is
when_ok (Err e) xs ys zs ok is = let no_case : false ≡ true = ok in cc
