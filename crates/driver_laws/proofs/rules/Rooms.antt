-- The last entry of a full cache is written back and dropped.
use Rattle.std.proofs.Common.{◌≡◌, ◌≢◌, inl, inr, ℕ, zero, suc, ◌+◌, ◌-◌, ◌≤◌, ◌==◌, Bool, true, false, List, [], ◌∷◌, ◌++◌, length, take, drop, Option, None, Some, refl, sym, ap, ◌∙◌, subst, arith, length-append, rules}
use Rattle.std.specs.Prelude.{map, if◌then◌else◌, slice_get, IsSome}
use Rattle.std.specs.List.{AllByRecursion}
use Rattle.std.proofs.lemmas.Bool.Decides.{eqb_tells}
use Rattle.driver_laws.specs.rules.Requests.{Map, writes, written_over, behind_one, behind}
use Rattle.driver_laws.specs.declared.rules.cached.Entry.{Entry}
use Rattle.driver_laws.specs.rules.Entries.{State, is_of, entry_of, AreApart, IsCache, if_changed, to_write_back, unchanged, last_unchanged, written_last, write_backs}
use Rattle.driver_laws.specs.rules.Contents.{cached, Fits, AllFit}
use Rattle.driver_laws.proofs.rules.Lookups.{IsKey, tells, own_key, at_own, at_other, look_front, look_behind, none_misses, misses_none, all_parts, all_join, last_apart}

abbrev map_unchanged : List Entry → List Entry
map_unchanged entries = map unchanged entries

-- ---- a list by its last
pub take_front : {A : Type 0} (xs ys : List A) → take (length xs) (xs ++ ys) ≡ xs
take_front [] ys = refl
take_front (x ∷ xs) ys = ap (λ zs. x ∷ zs) (take_front xs ys)

pub drop_front : {A : Type 0} (xs ys : List A) → drop (length xs) (xs ++ ys) ≡ ys
drop_front [] ys = refl
drop_front (x ∷ xs) ys = drop_front xs ys

pub get_behind : {A : Type 0} (xs : List A) (y : A) → slice_get (xs ++ y ∷ []) (length xs) ≡ Some y
get_behind [] y = refl
get_behind (x ∷ xs) y = get_behind xs y

pub one_less : {A : Type 0} (xs : List A) (y : A) → length (xs ++ y ∷ []) - 1 ≡ length xs
one_less xs y = let e = length-append xs (y ∷ []) in less (length xs) (length (xs ++ y ∷ [])) e
  where
    less : (n m : ℕ) → m ≡ n + 1 → m - 1 ≡ n
    less n m e = omega (arith, e)

pub record Snoc {A : Type 0} (xs : List A) : Type 0 where
  pub front : List A
  pub last : A
  pub is : xs ≡ front ++ last ∷ []

pub snoc : {A : Type 0} (x : A) (xs : List A) → Snoc (x ∷ xs)
snoc x [] = record { front = []; last = x; is = refl }
snoc x (y ∷ xs) = let rest = snoc y xs in record { front = x ∷ rest.front; last = rest.last; is = ap (λ zs. x ∷ zs) rest.is }

pub snoc_some : {A : Type 0} (xs : List A) → 1 ≤ length xs → Snoc xs
snoc_some [] some = absurd (omega (arith, some))
snoc_some (x ∷ xs) some = snoc x xs

pub take_all : {A : Type 0} (n : ℕ) (xs : List A) → length xs ≤ n → take n xs ≡ xs
take_all zero [] few = refl
take_all (suc n) [] few = refl
take_all zero (x ∷ xs) few = absurd (omega (arith, few))
take_all (suc n) (x ∷ xs) few = ap (λ zs. x ∷ zs) (take_all n xs (omega (arith, few)))

-- ---- what a write leaves in a map
pub write_own : (map : Map) (e : Entry) (u b : ℕ) → is_of u b e ≡ true → IsSome (map u b) → behind_one map (writes e.unit e.block e.bytes) u b ≡ Some e.bytes
write_own map e u b key some = search rules

pub write_other : (map : Map) (e : Entry) (u b : ℕ) → is_of u b e ≡ false → behind_one map (writes e.unit e.block e.bytes) u b ≡ map u b
write_other map e u b not = ap (λ t. if t then written_over (Some e.bytes) (map u b) else map u b) not

pub keeps_fit : (map : Map) (e : Entry) (xs : List Entry) → AllByRecursion (λ x. is_of x.unit x.block e ≡ false) xs → AllFit map xs → AllFit (behind_one map (writes e.unit e.block e.bytes)) xs
keeps_fit map e [] away all = tt
keeps_fit map e (x ∷ xs) away all = (
  record {
    usable = subst IsSome (sym (write_other map e x.unit x.block away.0)) all.0.usable;
    same = λ c. write_other map e x.unit x.block away.0 ∙ all.0.same c;
  },
  keeps_fit map e xs away.1 all.1,
)

-- ---- the last entry is as the packs have it: nothing is lost with it
pub at_key : (map : Map) (u b : ℕ) (e : Entry) → IsKey u b e → map u b ≡ map e.unit e.block
at_key map u b e key = ap (λ n. map n b) key.unit_is ∙ ap (λ n. map e.unit n) key.block_is

drop_last : (map : Map) (front : List Entry) (last : Entry) → map last.unit last.block ≡ Some last.bytes → (u b : ℕ) → cached front map u b ≡ cached (front ++ last ∷ []) map u b
drop_last map front last same u b = search (rules, look_front, tells, at_key, look_behind, at_own, at_other)

-- ---- it is written back
module _ (map : Map) (front : List Entry) (last : Entry) (apart : AreApart (front ++ last ∷ [])) (fit : AllFit map (front ++ last ∷ [])) where
  abbrev Behind : Map
  Behind = behind_one map (writes last.unit last.block last.bytes)

  back_contents : (u b : ℕ) → cached (front ++ unchanged last ∷ []) Behind u b ≡ cached (front ++ last ∷ []) map u b
  back_contents u b = search (rules, look_front, tells, look_behind, at_own, at_other, write_other)

  last_fits : Fits map last
  last_fits = (all_parts (Fits map) front (last ∷ []) fit).1.0

  back_own : Behind last.unit last.block ≡ Some last.bytes
  back_own = write_own map last last.unit last.block (own_key last) last_fits.usable

  front_kept : AllFit Behind front
  front_kept = keeps_fit map last front (last_apart front last apart) (all_parts (Fits map) front (last ∷ []) fit).0

  back_fit : AllFit Behind (front ++ unchanged last ∷ [])
  back_fit = all_join (Fits Behind) front (unchanged last ∷ []) front_kept (record { usable = ap_some back_own; same = λ e. back_own }, tt)
    where
      ap_some : {o : Option (List ℕ)} → o ≡ Some last.bytes → IsSome o
      ap_some e = subst IsSome (sym e) refl

  none_behind : (u b : ℕ) (z : Entry) → is_of u b z ≡ is_of u b last → entry_of u b (front ++ last ∷ []) ≡ None → (entry_of u b front ≡ None) × (entry_of u b (front ++ z ∷ []) ≡ None)
  none_behind u b z same none =
      let away = all_parts (λ x. is_of u b x ≡ false) front (last ∷ []) (none_misses u b (front ++ last ∷ []) none) in
      (misses_none u b front away.0, misses_none u b (front ++ z ∷ []) (all_join (λ x. is_of u b x ≡ false) front (z ∷ []) away.0 (same ∙ away.1.0, tt)))

  same_behind : (u b : ℕ) → entry_of u b (front ++ last ∷ []) ≡ None → Behind u b ≡ map u b
  same_behind u b none = write_other map last u b (all_parts (λ x. is_of u b x ≡ false) front (last ∷ []) (none_misses u b (front ++ last ∷ []) none)).1.0

-- ---- ROOM FOR ONE MORE ENTRY: what is cached stays, with the last entry of a full cache dropped too.
pub record Room (map next : Map) (capacity : ℕ) (entries left : List Entry) : Type 0 where
  pub kept : (u b : ℕ) → cached left next u b ≡ cached entries map u b
  pub kept_fit : AllFit next left
  pub dropped : (u b : ℕ) → cached (take (capacity - 1) left) next u b ≡ cached entries map u b
  pub dropped_fit : AllFit next (take (capacity - 1) left)
  pub none : (u b : ℕ) → entry_of u b entries ≡ None → entry_of u b left ≡ None
  pub none_dropped : (u b : ℕ) → entry_of u b entries ≡ None → entry_of u b (take (capacity - 1) left) ≡ None
  pub same : (u b : ℕ) → entry_of u b entries ≡ None → next u b ≡ map u b

-- where some are free
free_room : (map : Map) (capacity : ℕ) (entries : List Entry) → length entries ≤ capacity - 1 → AllFit map entries → Room map map capacity entries entries
free_room map capacity entries few fit = search (rules, take_all)

-- where the last entry is not changed, or was written back
module _ (map : Map) (capacity : ℕ) (front : List Entry) (last : Entry) (full : length (front ++ last ∷ []) ≡ capacity) (apart : AreApart (front ++ last ∷ [])) (fit : AllFit map (front ++ last ∷ [])) where
  but_last : (z : Entry) → take (capacity - 1) (front ++ z ∷ []) ≡ front
  but_last z = ap (λ n. take n (front ++ z ∷ [])) (ap (λ n. n - 1) (sym full) ∙ one_less front last) ∙ take_front front (z ∷ [])

  same_room : last.changed ≡ false → Room map map capacity (front ++ last ∷ []) (front ++ last ∷ [])
  same_room not = record {
    kept = λ u b. refl;
    kept_fit = fit;
    dropped = λ u b. ap (λ z. cached z map u b) (but_last last) ∙ drop_last map front last ((last_fits map front last apart fit).same not) u b;
    dropped_fit = subst (AllFit map) (sym (but_last last)) (all_parts (Fits map) front (last ∷ []) fit).0;
    none = λ u b is. is;
    none_dropped = λ u b is. ap (entry_of u b) (but_last last) ∙ (none_behind map front last apart fit u b last refl is).0;
    same = λ u b is. refl;
  }

  back_room : Room map (behind_one map (writes last.unit last.block last.bytes)) capacity (front ++ last ∷ []) (front ++ unchanged last ∷ [])
  back_room = record {
    kept = back_contents map front last apart fit;
    kept_fit = back_fit map front last apart fit;
    dropped = λ u b. ap (λ z. cached z (behind_one map (writes last.unit last.block last.bytes)) u b) (but_last (unchanged last))
        ∙ drop_last (behind_one map (writes last.unit last.block last.bytes)) front (unchanged last) (back_own map front last apart fit) u b ∙ back_contents map front last apart fit u b;
    dropped_fit = subst (AllFit (behind_one map (writes last.unit last.block last.bytes))) (sym (but_last (unchanged last))) (front_kept map front last apart fit);
    none = λ u b is. (none_behind map front last apart fit u b (unchanged last) refl is).1;
    none_dropped = λ u b is. ap (entry_of u b) (but_last (unchanged last)) ∙ (none_behind map front last apart fit u b last refl is).0;
    same = same_behind map front last apart fit;
  }

  unchanged_last : last_unchanged (front ++ last ∷ []) ≡ front ++ unchanged last ∷ []
  unchanged_last = ap (λ n. take n (front ++ last ∷ []) ++ map_unchanged (drop n (front ++ last ∷ []))) (one_less front last)
      ∙ ap (λ z. z ++ map_unchanged (drop (length front) (front ++ last ∷ []))) (take_front front (last ∷ [])) ∙ ap (λ z. front ++ map_unchanged z) (drop_front front (last ∷ []))

  last_got : slice_get (front ++ last ∷ []) (length (front ++ last ∷ []) - 1) ≡ Some last
  last_got = ap (slice_get (front ++ last ∷ [])) (one_less front last) ∙ get_behind front last

abbrev RoomBy : Map → State → Option Entry → Type 0
RoomBy map s w = Room map (behind map (write_backs w)) s.capacity s.entries (written_last w s.entries)

pub room_of : (map : Map) (s : State) → IsCache s → AllFit map s.entries → RoomBy map s (to_write_back s)
room_of map s is fit = elim (eqb_tells (length s.entries) s.capacity) [
  | inl full ↦
      let parts : Snoc s.entries = snoc_some s.entries (least full.1 is.some) in
      let at : length (parts.front ++ parts.last ∷ []) ≡ s.capacity = ap length (sym parts.is) ∙ full.1 in
      let apart : AreApart (parts.front ++ parts.last ∷ []) = subst AreApart parts.is is.apart in
      let fits : AllFit map (parts.front ++ parts.last ∷ []) = subst (AllFit map) parts.is fit in
      by parts.front parts.last parts.is at apart fits full.0 (parts.last.changed) refl
  | inr other ↦ subst (RoomBy map s) (sym (test_none s (other.0))) (free_room map s.capacity s.entries (below is.few other.1) fit)
]
  where
    least : {n m : ℕ} → n ≡ m → 1 ≤ m → 1 ≤ n
    least {n} {m} e some = omega (arith, e, some)

    below : {n m : ℕ} → n ≤ m → n ≢ m → n ≤ m - 1
    below {n} {m} le ne = grind (arith, le, ne)

    test_none : (s : State) → (length s.entries == s.capacity) ≡ false → to_write_back s ≡ None
    test_none s test = ap (λ t. if t then if_changed (slice_get s.entries (length s.entries - 1)) else None) test

    by : (front : List Entry) (last : Entry) → s.entries ≡ front ++ last ∷ [] → length (front ++ last ∷ []) ≡ s.capacity → AreApart (front ++ last ∷ []) → AllFit map (front ++ last ∷ [])
        → (length s.entries == s.capacity) ≡ true → (changed : Bool) → last.changed ≡ changed → RoomBy map s (to_write_back s)
    by front last split at apart fits test false not = subst (RoomBy map s) (sym none)
        (subst (λ z. Room map map s.capacity z z) (sym split) (same_room map s.capacity front last at apart fits not))
      where
        none : to_write_back s ≡ None
        none = ap (λ t. if t then if_changed (slice_get s.entries (length s.entries - 1)) else None) test
            ∙ ap if_changed (ap (λ z. slice_get z (length z - 1)) split ∙ last_got map s.capacity front last at apart fits) ∙ ap (λ t. if t then Some last else None) not
    by front last split at apart fits test true changed = subst (RoomBy map s) (sym some)
        (subst (λ z. Room map (behind_one map (writes last.unit last.block last.bytes)) s.capacity z (last_unchanged z)) (sym split)
        (subst (λ z. Room map (behind_one map (writes last.unit last.block last.bytes)) s.capacity (front ++ last ∷ []) z) (sym (unchanged_last map s.capacity front last at apart fits))
        (back_room map s.capacity front last at apart fits)))
      where
        some : to_write_back s ≡ Some last
        some = ap (λ t. if t then if_changed (slice_get s.entries (length s.entries - 1)) else None) test
            ∙ ap if_changed (ap (λ z. slice_get z (length z - 1)) split ∙ last_got map s.capacity front last at apart fits) ∙ ap (λ t. if t then Some last else None) changed
