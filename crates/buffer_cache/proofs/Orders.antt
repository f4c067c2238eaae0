-- The order of the blocks and their slots, and the entries that they are.
use Rattle.std.proofs.Common.{◌≡◌, ◌≢◌, ℕ, zero, suc, ◌+◌, ◌-◌, ◌<◌, ◌≤◌, ◌==◌, Bool, true, false, cond, List, [], ◌∷◌, ◌++◌, length, take, drop, Option, None, Some, refl, sym, ap, ◌∙◌, subst, arith, length-append}
use Rattle.std.specs.Prelude.{map, nat_lt, is_some, is_err, Result, Ok, Err, OnOk, slice_index_or, slice_set, slice_get, if◌then◌else◌}
use Rattle.std.specs.Option.{option_map, option_map_or}
use Rattle.std.specs.Map.{lookup, lookup_entry, remove_entry, keys_of}
use Rattle.std.proofs.lemmas.List.{get_or-set_same, get_or-set_other, length-map, length-set, map-append, take-map}
use Rattle.std.specs.List.{AllByRecursion, IsDistinct}
use Rattle.std.proofs.lemmas.Bool.Decides.{nat_tests}
use Rattle.std.proofs.lemmas.Option.{none-some, same_Some}
use Rattle.lru.specs.LruCache.{LruCache, lru_cache, last_entry, promoted, put_entries}
use Rattle.driver_laws.specs.declared.rules.cached.Entry.{Entry}
use Rattle.driver_laws.specs.rules.Entries.{entry_of, others, AreApart, in_front, rewritten, fronted, changed_in_front, if_changed, to_write_back, unchanged, last_unchanged}
use Rattle.driver_laws.proofs.rules.Lookups.{IsKey, is_key}
use Rattle.driver_laws.proofs.rules.Rooms.{snoc, snoc_some, one_less, take_front, drop_front, get_behind, take_all}
use Rattle.buffer_cache.specs.declared.entry.Key.{Key}
use Rattle.buffer_cache.specs.declared.entry.Held.{Held}
use Rattle.buffer_cache.specs.Views.{nothing, is_at, entry_with, entry_at, entries_of, Misses, AreSlots, IsKept, state_of, slot_or, free_slot, bytes_over}

-- one key is another, as the kit's `lru` asks it
abbrev is_same : Key → Key → Bool
is_same key other = is_at key other

-- ---- which entry a block has
pub looks : (key : Key) (es : List (Key × ℕ)) (slots : List Held) → entry_of key.unit key.block (entries_of es slots) ≡ option_map (entry_at slots) (lookup_entry (is_at key) es)
looks key [] slots = refl
looks key (p ∷ es) slots = by (is_at key p.0) (looks key es slots)
  where
    by : (b : Bool) → entry_of key.unit key.block (entries_of es slots) ≡ option_map (entry_at slots) (lookup_entry (is_at key) es)
        → (if b then Some (entry_at slots p) else entry_of key.unit key.block (entries_of es slots)) ≡ option_map (entry_at slots) (cond b (Some p) (lookup_entry (is_at key) es))
    by true ih = refl
    by false ih = ih

removes : (key : Key) (es : List (Key × ℕ)) (slots : List Held) → entries_of (remove_entry (is_at key) es) slots ≡ others key.unit key.block (entries_of es slots)
removes key [] slots = refl
removes key (p ∷ es) slots = by (is_at key p.0) (removes key es slots)
  where
    by : (b : Bool) → entries_of (remove_entry (is_at key) es) slots ≡ others key.unit key.block (entries_of es slots)
        → entries_of (cond b es (p ∷ remove_entry (is_at key) es)) slots ≡ (if b then entries_of es slots else entry_at slots p ∷ others key.unit key.block (entries_of es slots))
    by true ih = refl
    by false ih = ap (λ z. entry_at slots p ∷ z) ih

-- what a look-up finds
pub record Found (key : Key) (es : List (Key × ℕ)) (slot : ℕ) : Type 0 where
  pub pair : Key × ℕ
  pub is : lookup_entry (is_at key) es ≡ Some pair
  pub slot_is : pair.1 ≡ slot
  pub key_is : is_at key pair.0 ≡ true

pub found_of : (key : Key) (es : List (Key × ℕ)) (slot : ℕ) → lookup (is_at key) es ≡ Some slot → Found key es slot
found_of key [] slot is = absurd (none-some slot is)
found_of key (p ∷ es) slot is = by (is_at key p.0) refl is (found_of key es slot)
  where
    by : (b : Bool) → is_at key p.0 ≡ b → cond b (Some p.1) (lookup (is_at key) es) ≡ Some slot → (lookup (is_at key) es ≡ Some slot → Found key es slot) → Found key (p ∷ es) slot
    by true at e go = record { pair = p; is = ap (λ b. cond b (Some p) (lookup_entry (is_at key) es)) at; slot_is = same_Some p.1 slot e; key_is = at }
    by false at e go = let rest = go e in record { pair = rest.pair; is = ap (λ b. cond b (Some p) (lookup_entry (is_at key) es)) at ∙ rest.is; slot_is = rest.slot_is; key_is = rest.key_is }

pub none_of : (key : Key) (es : List (Key × ℕ)) → lookup (is_at key) es ≡ None → lookup_entry (is_at key) es ≡ None
none_of key [] is = refl
none_of key (p ∷ es) is = by (is_at key p.0) is (none_of key es)
  where
    by : (b : Bool) → cond b (Some p.1) (lookup (is_at key) es) ≡ None → (lookup (is_at key) es ≡ None → lookup_entry (is_at key) es ≡ None) → cond b (Some p) (lookup_entry (is_at key) es) ≡ None
    by true is go = absurd (none-some p.1 (sym is))
    by false is go = go is

pub new_key : (key : Key) (es : List (Key × ℕ)) (slots : List Held) → entry_of key.unit key.block (entries_of es slots) ≡ None → lookup_entry (is_at key) es ≡ None
new_key key es slots none = by (lookup_entry (is_at key) es) (sym (looks key es slots) ∙ none)
  where
    by : (o : Option (Key × ℕ)) → option_map (entry_at slots) o ≡ None → o ≡ None
    by None is = refl
    by (Some p) is = absurd (none-some (entry_at slots p) (sym is))

-- ---- the front
promoted_some : (key : Key) (es : List (Key × ℕ)) (p : Key × ℕ) → lookup_entry (is_at key) es ≡ Some p → promoted (is_at key) es ≡ p ∷ remove_entry (is_at key) es
promoted_some key es p is = ap (λ o. option_map_or (λ e. e ∷ remove_entry (is_at key) es) o es) is

pub promoted_none : (key : Key) (es : List (Key × ℕ)) → lookup_entry (is_at key) es ≡ None → promoted (is_at key) es ≡ es
promoted_none key es is = ap (λ o. option_map_or (λ e. e ∷ remove_entry (is_at key) es) o es) is

rest_is : (key : Key) (p : Key × ℕ) (es : List (Key × ℕ)) (slots : List Held) → is_at key p.0 ≡ true → entries_of (remove_entry (is_at key) es) slots ≡ others p.0.unit p.0.block (entries_of es slots)
rest_is key p es slots at =
    let same : IsKey key.unit key.block (entry_at slots p) = is_key key.unit key.block (entry_at slots p) at in
    removes key es slots ∙ ap (λ z. others z key.block (entries_of es slots)) same.unit_is ∙ ap (λ z. others p.0.unit z (entries_of es slots)) same.block_is

pub fronts_some : (key : Key) (es : List (Key × ℕ)) (slots : List Held) (slot : ℕ) → Found key es slot
    → entries_of (promoted (is_at key) es) slots ≡ in_front (entry_of key.unit key.block (entries_of es slots)) (entries_of es slots)
fronts_some key es slots slot f = ap (λ z. entries_of z slots) (promoted_some key es f.pair f.is) ∙ ap (λ z. entry_at slots f.pair ∷ z) (rest_is key f.pair es slots f.key_is)
    ∙ sym (ap (λ z. in_front z (entries_of es slots)) (looks key es slots ∙ ap (option_map (entry_at slots)) f.is))

pub fronts_none : (key : Key) (es : List (Key × ℕ)) (slots : List Held) → lookup_entry (is_at key) es ≡ None
    → entries_of (promoted (is_at key) es) slots ≡ in_front (entry_of key.unit key.block (entries_of es slots)) (entries_of es slots)
fronts_none key es slots none = ap (λ z. entries_of z slots) (promoted_none key es none) ∙ sym (ap (λ z. in_front z (entries_of es slots)) (looks key es slots ∙ ap (option_map (entry_at slots)) none))

-- ---- slots
misses_removed : (s : ℕ) (key : Key) (es : List (Key × ℕ)) → Misses s es → Misses s (remove_entry (is_at key) es)
misses_removed s key [] m = tt
misses_removed s key (p ∷ es) m = by (is_at key p.0) (misses_removed s key es m.1)
  where
    by : (b : Bool) → Misses s (remove_entry (is_at key) es) → Misses s (cond b es (p ∷ remove_entry (is_at key) es))
    by true rest = m.1
    by false rest = (m.0, rest)

misses_found : (s : ℕ) (key : Key) (es : List (Key × ℕ)) (p : Key × ℕ) → Misses s es → lookup_entry (is_at key) es ≡ Some p → p.1 ≢ s
misses_found s key [] p m is = absurd (none-some p is)
misses_found s key (q ∷ es) p m is = by (is_at key q.0) is (misses_found s key es p m.1)
  where
    by : (b : Bool) → cond b (Some q) (lookup_entry (is_at key) es) ≡ Some p → (lookup_entry (is_at key) es ≡ Some p → p.1 ≢ s) → p.1 ≢ s
    by true e go = subst (λ (z : Key × ℕ). z.1 ≢ s) (same_Some q p e) m.0
    by false e go = go e

slots_removed : (room : ℕ) (key : Key) (es : List (Key × ℕ)) → AreSlots room es → AreSlots room (remove_entry (is_at key) es)
slots_removed room key [] a = tt
slots_removed room key (p ∷ es) a = by (is_at key p.0) (slots_removed room key es a.1.1)
  where
    by : (b : Bool) → AreSlots room (remove_entry (is_at key) es) → AreSlots room (cond b es (p ∷ remove_entry (is_at key) es))
    by true rest = a.1.1
    by false rest = (a.0, (misses_removed p.1 key es a.1.0, rest))

pub slot_found : (room : ℕ) (key : Key) (es : List (Key × ℕ)) (p : Key × ℕ) → AreSlots room es → lookup_entry (is_at key) es ≡ Some p → (p.1 < room) × Misses p.1 (remove_entry (is_at key) es)
slot_found room key [] p a is = absurd (none-some p is)
slot_found room key (q ∷ es) p a is = by (is_at key q.0) is (slot_found room key es p a.1.1)
  where
    by : (b : Bool) → cond b (Some q) (lookup_entry (is_at key) es) ≡ Some p → (lookup_entry (is_at key) es ≡ Some p → (p.1 < room) × Misses p.1 (remove_entry (is_at key) es))
        → (p.1 < room) × Misses p.1 (cond b es (q ∷ remove_entry (is_at key) es))
    by true e go = subst (λ (z : Key × ℕ). (z.1 < room) × Misses z.1 es) (same_Some q p e) (a.0, a.1.0)
    by false e go = let rest = go e in (rest.0, (λ same. misses_found q.1 key es p a.1.0 e (sym same), rest.1))

length_removed : (key : Key) (es : List (Key × ℕ)) (p : Key × ℕ) → lookup_entry (is_at key) es ≡ Some p → length (remove_entry (is_at key) es) + 1 ≡ length es
length_removed key [] p is = absurd (none-some p is)
length_removed key (q ∷ es) p is = by (is_at key q.0) is (length_removed key es p)
  where
    by : (b : Bool) → cond b (Some q) (lookup_entry (is_at key) es) ≡ Some p → (lookup_entry (is_at key) es ≡ Some p → length (remove_entry (is_at key) es) + 1 ≡ length es)
        → length (cond b es (q ∷ remove_entry (is_at key) es)) + 1 ≡ length (q ∷ es)
    by true e go = omega arith
    by false e go = let rest = go e in omega (arith, rest)

-- a promotion keeps them
pub kept_promoted : (key : Key) (order : LruCache Key ℕ) (slots slots' : List Held) (slot : ℕ) → IsKept order slots → length slots' ≡ length slots → Found key order.entries slot
    → IsKept (lru_cache (promoted (is_at key) order.entries) order.cap) slots'
kept_promoted key order slots slots' slot k same f =
    let at = slot_found (length order.entries) key order.entries f.pair k.slots_are f.is in
    let less = length_removed key order.entries f.pair f.is in
    record {
      slots_are = subst (λ z. AreSlots (length z) z) (sym (promoted_some key order.entries f.pair f.is))
          (subst (λ n. AreSlots n (f.pair ∷ remove_entry (is_at key) order.entries)) (more less)
          (at.0, (at.1, slots_removed (length order.entries) key order.entries k.slots_are)));
      room = same ∙ k.room;
    }
  where
    more : {a b : ℕ} → a + 1 ≡ b → b ≡ suc a
    more {a} {b} e = omega (arith, e)

pub kept_as_it_is : (key : Key) (order : LruCache Key ℕ) (slots : List Held) → IsKept order slots → lookup_entry (is_at key) order.entries ≡ None
    → IsKept (lru_cache (promoted (is_at key) order.entries) order.cap) slots
kept_as_it_is key order slots k none = record {
  slots_are = subst (λ z. AreSlots (length z) z) (sym (promoted_none key order.entries none)) k.slots_are;
  room = k.room;
}

pub slot_in : (key : Key) (order : LruCache Key ℕ) (slots : List Held) (slot : ℕ) → IsKept order slots → length order.entries ≤ order.cap → Found key order.entries slot → slot < length slots
slot_in key order slots slot k few f =
    let at = (slot_found (length order.entries) key order.entries f.pair k.slots_are f.is).0 in
    let is = f.slot_is in let room = k.room in
    omega (arith, at, is, few, room)

-- ---- a slot is written
pub entries_set : (es : List (Key × ℕ)) (slots : List Held) (s : ℕ) (held : Held) → Misses s es → entries_of es (slice_set slots s held) ≡ entries_of es slots
entries_set [] slots s held m = refl
entries_set (p ∷ es) slots s held m =
    ap (λ z. entry_with p.0 z ∷ entries_of es (slice_set slots s held)) (get_or-set_other slots s p.1 held nothing m.0) ∙ ap (λ z. entry_at slots p ∷ z) (entries_set es slots s held m.1)

pub entry_set : (p : Key × ℕ) (slots : List Held) (s : ℕ) (held : Held) → p.1 ≡ s → s < length slots → entry_at (slice_set slots s held) p ≡ entry_with p.0 held
entry_set p slots s held same lt = ap (entry_with p.0) (ap (λ n. slice_index_or (slice_set slots s held) n nothing) same ∙ get_or-set_same slots s held nothing lt)

-- a block that is an entry comes to the front, changed
pub changes_some : (key : Key) (order : LruCache Key ℕ) (slots : List Held) (slot : ℕ) (from : List ℕ) → IsKept order slots → slot < length slots → (f : Found key order.entries slot)
    → entries_of (promoted (is_at key) order.entries) (slice_set slots slot (record { bytes = from; changed = true }))
    ≡ in_front (rewritten from (entry_of key.unit key.block (entries_of order.entries slots))) (entries_of order.entries slots)
changes_some key order slots slot from k lt f =
    let at = (slot_found (length order.entries) key order.entries f.pair k.slots_are f.is).1 in
    ap (λ z. entries_of z (slice_set slots slot (record { bytes = from; changed = true }))) (promoted_some key order.entries f.pair f.is)
    ∙ ap (λ z. z ∷ entries_of (remove_entry (is_at key) order.entries) (slice_set slots slot (record { bytes = from; changed = true }))) (entry_set f.pair slots slot (record { bytes = from; changed = true }) f.slot_is lt)
    ∙ ap (λ z. entry_with f.pair.0 (record { bytes = from; changed = true }) ∷ z)
    (entries_set (remove_entry (is_at key) order.entries) slots slot (record { bytes = from; changed = true }) (subst (λ n. Misses n (remove_entry (is_at key) order.entries)) f.slot_is at)
    ∙ rest_is key f.pair order.entries slots f.key_is)
    ∙ sym (ap (λ z. in_front (rewritten from z) (entries_of order.entries slots)) (looks key order.entries slots ∙ ap (option_map (entry_at slots)) f.is))

-- ---- the bytes that are given
pub gives_some : (key : Key) (es : List (Key × ℕ)) (slots : List Held) (slot : ℕ) (into : List ℕ) → Found key es slot
    → (slice_index_or slots slot nothing).bytes ≡ bytes_over (entry_of key.unit key.block (entries_of es slots)) into
gives_some key es slots slot into f = ap (λ n. (slice_index_or slots n nothing).bytes) (sym f.slot_is) ∙ sym (ap (λ z. bytes_over z into) (looks key es slots ∙ ap (option_map (entry_at slots)) f.is))

pub gives_none : (key : Key) (es : List (Key × ℕ)) (slots : List Held) (into : List ℕ) → lookup_entry (is_at key) es ≡ None → into ≡ bytes_over (entry_of key.unit key.block (entries_of es slots)) into
gives_none key es slots into none = sym (ap (λ z. bytes_over z into) (looks key es slots ∙ ap (option_map (entry_at slots)) none))

-- ---- the last one
pub misses_last : (front : List (Key × ℕ)) (last : Key × ℕ) (room : ℕ) → AreSlots room (front ++ last ∷ []) → (last.1 < room) × Misses last.1 front
misses_last [] last room a = (a.0, tt)
misses_last (p ∷ front) last room a = let rest = misses_last front last room a.1.1 in (rest.0, (away p.1 front a.1.0, rest.1))
  where
    away : (s : ℕ) (xs : List (Key × ℕ)) → Misses s (xs ++ last ∷ []) → s ≢ last.1
    away s [] m = λ e. m.0 (sym e)
    away s (x ∷ xs) m = away s xs m.1

slots_front : (front : List (Key × ℕ)) (last : Key × ℕ) (room : ℕ) → AreSlots room (front ++ last ∷ []) → AreSlots room front
slots_front [] last room a = tt
slots_front (p ∷ front) last room a = (a.0, (before p.1 front a.1.0, slots_front front last room a.1.1))
  where
    before : (s : ℕ) (xs : List (Key × ℕ)) → Misses s (xs ++ last ∷ []) → Misses s xs
    before s [] m = tt
    before s (x ∷ xs) m = (m.0, before s xs m.1)

slots_wider : (room more : ℕ) (es : List (Key × ℕ)) → room ≤ more → AreSlots room es → AreSlots more es
slots_wider room more [] le a = tt
slots_wider room more (p ∷ es) le a = (let lt = a.0 in below p.1 lt, (a.1.0, slots_wider room more es le a.1.1))
  where
    below : (n : ℕ) → n < room → n < more
    below n lt = omega (arith, lt, le)

misses_beyond : (room : ℕ) (es : List (Key × ℕ)) → AreSlots room es → Misses room es
misses_beyond room [] a = tt
misses_beyond room (p ∷ es) a = (let lt = a.0 in apart p.1 lt, misses_beyond room es a.1.1)
  where
    apart : (n : ℕ) → n < room → n ≢ room
    apart n lt e = omega (arith, lt, e)

pub last_is : (front : List (Key × ℕ)) (last : Key × ℕ) → last_entry (front ++ last ∷ []) ≡ Some last
last_is front last = ap (slice_get (front ++ last ∷ [])) (one_less front last) ∙ get_behind front last

-- ---- THE CACHE behind each
pub fronted_some : (key : Key) (order : LruCache Key ℕ) (slots : List Held) (refused slot : ℕ) → Found key order.entries slot
    → state_of (lru_cache (promoted (is_at key) order.entries) order.cap) slots refused ≡ fronted key.unit key.block (state_of order slots refused)
fronted_some key order slots refused slot f = ap (λ z. record { entries = z; capacity = order.cap; refused = refused }) (fronts_some key order.entries slots slot f)

pub fronted_none : (key : Key) (order : LruCache Key ℕ) (slots : List Held) (refused : ℕ) → lookup_entry (is_at key) order.entries ≡ None
    → state_of (lru_cache (promoted (is_at key) order.entries) order.cap) slots refused ≡ fronted key.unit key.block (state_of order slots refused)
fronted_none key order slots refused none = ap (λ z. record { entries = z; capacity = order.cap; refused = refused }) (fronts_none key order.entries slots none)

pub changed_some : (key : Key) (order : LruCache Key ℕ) (slots : List Held) (refused slot : ℕ) (from : List ℕ) → IsKept order slots → slot < length slots → Found key order.entries slot
    → state_of (lru_cache (promoted (is_at key) order.entries) order.cap) (slice_set slots slot (record { bytes = from; changed = true })) refused
    ≡ changed_in_front key.unit key.block from (state_of order slots refused)
changed_some key order slots refused slot from k lt f = ap (λ z. record { entries = z; capacity = order.cap; refused = refused }) (changes_some key order slots slot from k lt f)

pub changed_none : (key : Key) (order : LruCache Key ℕ) (slots : List Held) (refused : ℕ) (from : List ℕ) → lookup_entry (is_at key) order.entries ≡ None
    → state_of (lru_cache (promoted (is_at key) order.entries) order.cap) slots refused ≡ changed_in_front key.unit key.block from (state_of order slots refused)
changed_none key order slots refused from none = ap (λ z. record { entries = z; capacity = order.cap; refused = refused })
    (ap (λ z. entries_of z slots) (promoted_none key order.entries none) ∙ sym (ap (λ z. in_front (rewritten from z) (entries_of order.entries slots)) (looks key order.entries slots ∙ ap (option_map (entry_at slots)) none)))

pub is_entry : (key : Key) (es : List (Key × ℕ)) (slots : List Held) (slot : ℕ) → Found key es slot → true ≡ is_some (entry_of key.unit key.block (entries_of es slots))
is_entry key es slots slot f = sym (ap is_some (looks key es slots ∙ ap (option_map (entry_at slots)) f.is))

pub no_entry : (key : Key) (es : List (Key × ℕ)) (slots : List Held) → lookup_entry (is_at key) es ≡ None → false ≡ is_some (entry_of key.unit key.block (entries_of es slots))
no_entry key es slots none = sym (ap is_some (looks key es slots ∙ ap (option_map (entry_at slots)) none))

-- ---- ONE MORE
-- where some are free
module _ (key : Key) (order : LruCache Key ℕ) (slots : List Held) (held : Held) (k : IsKept order slots) where
  free_take : length order.entries < order.cap → take (order.cap - 1) order.entries ≡ order.entries
  free_take lt = take_all (order.cap - 1) order.entries (less (length order.entries) order.cap lt)
    where
      less : (n m : ℕ) → n < m → n ≤ m - 1
      less n m lt = omega (arith, lt)

  free_entries : length order.entries < order.cap → entries_of ((key, length order.entries) ∷ take (order.cap - 1) order.entries) (slice_set slots (length order.entries) held)
      ≡ entry_with key held ∷ take (order.cap - 1) (entries_of order.entries slots)
  free_entries lt =
      let room = k.room in
      ap (λ z. z ∷ entries_of (take (order.cap - 1) order.entries) (slice_set slots (length order.entries) held))
      (entry_set (key, length order.entries) slots (length order.entries) held refl (omega (arith, lt, room)))
      ∙ ap (λ z. entry_with key held ∷ z)
      (ap (λ z. entries_of z (slice_set slots (length order.entries) held)) (free_take lt)
      ∙ entries_set order.entries slots (length order.entries) held (misses_beyond (length order.entries) order.entries k.slots_are)
      ∙ ap (λ z. entries_of z slots) (sym (free_take lt)) ∙ sym (take-map (entry_at slots) (order.cap - 1) order.entries))

  free_kept : length order.entries < order.cap → IsKept (lru_cache ((key, length order.entries) ∷ take (order.cap - 1) order.entries) order.cap) (slice_set slots (length order.entries) held)
  free_kept lt = record {
    slots_are = subst (λ z. AreSlots (suc (length z)) ((key, length order.entries) ∷ z)) (sym (free_take lt))
        (here (length order.entries), (misses_beyond (length order.entries) order.entries k.slots_are, slots_wider (length order.entries) (suc (length order.entries)) order.entries (omega arith) k.slots_are));
    room = length-set slots (length order.entries) held ∙ k.room;
  }
    where
      here : (n : ℕ) → n < suc n
      here n = omega arith

  -- in the last one's slot
  module _ (front : List (Key × ℕ)) (last : Key × ℕ) (is : order.entries ≡ front ++ last ∷ []) (full : length order.entries ≡ order.cap) where
    full_take : take (order.cap - 1) order.entries ≡ front
    full_take = ap (λ z. take (order.cap - 1) z) is ∙ ap (λ n. take n (front ++ last ∷ [])) (ap (λ n. n - 1) (sym full ∙ ap length is) ∙ one_less front last) ∙ take_front front (last ∷ [])

    split : AreSlots (length order.entries) (front ++ last ∷ [])
    split = subst (AreSlots (length order.entries)) is k.slots_are

    last_below : last.1 < length order.entries
    last_below = (misses_last front last (length order.entries) split).0

    full_entries : entries_of ((key, last.1) ∷ take (order.cap - 1) order.entries) (slice_set slots last.1 held) ≡ entry_with key held ∷ take (order.cap - 1) (entries_of order.entries slots)
    full_entries =
        let lt = last_below in let room = k.room in
        ap (λ z. z ∷ entries_of (take (order.cap - 1) order.entries) (slice_set slots last.1 held)) (entry_set (key, last.1) slots last.1 held refl (omega (arith, lt, room, full)))
        ∙ ap (λ z. entry_with key held ∷ z)
        (ap (λ z. entries_of z (slice_set slots last.1 held)) full_take
        ∙ entries_set front slots last.1 held (misses_last front last (length order.entries) split).1
        ∙ ap (λ z. entries_of z slots) (sym full_take) ∙ sym (take-map (entry_at slots) (order.cap - 1) order.entries))

    full_kept : IsKept (lru_cache ((key, last.1) ∷ take (order.cap - 1) order.entries) order.cap) (slice_set slots last.1 held)
    full_kept = record {
      slots_are = subst (λ z. AreSlots (suc (length z)) ((key, last.1) ∷ z)) (sym full_take)
          (subst (λ n. AreSlots n ((key, last.1) ∷ front)) (sizes (ap length is) (length-append front (last ∷ [])))
          (last_below, ((misses_last front last (length order.entries) split).1, slots_front front last (length order.entries) split)));
      room = length-set slots last.1 held ∙ k.room;
    }
      where
        sizes : {a b c : ℕ} → a ≡ b → b ≡ c + 1 → a ≡ suc c
        sizes {a} {b} {c} e f = omega (arith, e, f)

-- the slot that is taken
pub record Takes (key : Key) (order : LruCache Key ℕ) (slots : List Held) (held : Held) (slot : ℕ) : Type 0 where
  pub entries : entries_of ((key, slot) ∷ take (order.cap - 1) order.entries) (slice_set slots slot held) ≡ entry_with key held ∷ take (order.cap - 1) (entries_of order.entries slots)
  pub kept : IsKept (lru_cache ((key, slot) ∷ take (order.cap - 1) order.entries) order.cap) (slice_set slots slot held)
  pub inside : slot < length slots

pub takes_slot : (key : Key) (order : LruCache Key ℕ) (slots : List Held) (held : Held) → IsKept order slots → length order.entries ≤ order.cap → 0 < order.cap → Takes key order slots held (free_slot order)
takes_slot key order slots held k few some = by (nat_lt (length order.entries) order.cap) refl
  where
    below : (n m : ℕ) → nat_lt n m ≡ true → n < m
    below n m e = grind (arith, nat_tests)

    at_end : (n m : ℕ) → nat_lt n m ≡ false → n ≤ m → n ≡ m
    at_end n m e le = grind (arith, nat_tests)

    least : (n m : ℕ) → n ≡ m → 0 < m → 1 ≤ n
    least n m e lt = omega (arith, e, lt)

    by : (b : Bool) → nat_lt (length order.entries) order.cap ≡ b → Takes key order slots held (if b then length order.entries else slot_or (last_entry order.entries) 0)
    by true e =
        let lt = below (length order.entries) order.cap e in
        let room = k.room in
        record { entries = free_entries key order slots held k lt; kept = free_kept key order slots held k lt; inside = omega (arith, lt, room) }
    by false e =
        let full = at_end (length order.entries) order.cap e few in
        let parts = snoc_some order.entries (least (length order.entries) order.cap full some) in
        let room = k.room in
        let lt = last_below key order slots held k parts.front parts.last parts.is full in
        subst (Takes key order slots held) (sym (ap (λ o. slot_or o 0) (ap last_entry parts.is ∙ last_is parts.front parts.last)))
        (record {
          entries = full_entries key order slots held k parts.front parts.last parts.is full;
          kept = full_kept key order slots held k parts.front parts.last parts.is full;
          inside = omega (arith, lt, room, few);
        })

-- a new key goes in front
pub new_entries : (key : Key) (order : LruCache Key ℕ) (slot : ℕ) → lookup_entry (is_at key) order.entries ≡ None → put_entries is_same order key slot ≡ (key, slot) ∷ take (order.cap - 1) order.entries
new_entries key order slot none = ap (λ o. option_map_or (λ e. (e.0, slot) ∷ remove_entry (is_at key) order.entries) o ((key, slot) ∷ take (order.cap - 1) order.entries)) none

pub last_in : (order : LruCache Key ℕ) (slots : List Held) (p : Key × ℕ) → IsKept order slots → length order.entries ≤ order.cap → last_entry order.entries ≡ Some p → p.1 < length slots
last_in order slots p k few is = by order.entries refl
  where
    by : (es : List (Key × ℕ)) → order.entries ≡ es → p.1 < length slots
    by [] none = absurd (none-some p (sym (ap last_entry none) ∙ is))
    by (e ∷ es) split =
        let parts = snoc e es in
        let lt = (misses_last parts.front parts.last (length order.entries) (subst (AreSlots (length order.entries)) (split ∙ parts.is) k.slots_are)).0 in
        let same : parts.last ≡ p = same_Some parts.last p (sym (last_is parts.front parts.last) ∙ sym (ap last_entry (split ∙ parts.is)) ∙ is) in
        let room = k.room in
        subst (λ (z : Key × ℕ). z.1 < length slots) same (omega (arith, lt, room, few))

unchanged_last : (front : List Entry) (last : Entry) → last_unchanged (front ++ last ∷ []) ≡ front ++ unchanged last ∷ []
unchanged_last front last = ap (λ n. take n (front ++ last ∷ []) ++ map unchanged (drop n (front ++ last ∷ []))) (one_less front last)
    ∙ ap (λ z. z ++ map unchanged (drop (length front) (front ++ last ∷ []))) (take_front front (last ∷ [])) ∙ ap (λ z. front ++ map unchanged z) (drop_front front (last ∷ []))

pub last_unchanged_of : (order : LruCache Key ℕ) (slots : List Held) (p : Key × ℕ) (held : Held) → IsKept order slots → length order.entries ≤ order.cap → last_entry order.entries ≡ Some p
    → held ≡ record { bytes = (slice_index_or slots p.1 nothing).bytes; changed = false }
    → entries_of order.entries (slice_set slots p.1 held) ≡ last_unchanged (entries_of order.entries slots)
last_unchanged_of order slots p held k few is now = by order.entries refl
  where
    back : (front : List (Key × ℕ)) (last : Key × ℕ) → AreSlots (length order.entries) (front ++ last ∷ []) → last ≡ p
        → entries_of (front ++ last ∷ []) (slice_set slots p.1 held) ≡ last_unchanged (entries_of (front ++ last ∷ []) slots)
    back front last a same =
        map-append (entry_at (slice_set slots p.1 held)) front (last ∷ [])
        ∙ ap (λ z. z ++ entry_at (slice_set slots p.1 held) last ∷ []) (entries_set front slots p.1 held (subst (λ (z : Key × ℕ). Misses z.1 front) same (misses_last front last (length order.entries) a).1))
        ∙ ap (λ z. entries_of front slots ++ z ∷ []) (entry_set last slots p.1 held (ap (λ (z : Key × ℕ). z.1) same) (last_in order slots p k few is) ∙ ap (entry_with last.0) now
        ∙ ap (λ (z : Key × ℕ). entry_with last.0 (record { bytes = (slice_index_or slots z.1 nothing).bytes; changed = false })) (sym same))
        ∙ sym (unchanged_last (entries_of front slots) (entry_at slots last))
        ∙ ap last_unchanged (sym (map-append (entry_at slots) front (last ∷ [])))

    by : (es : List (Key × ℕ)) → order.entries ≡ es → entries_of order.entries (slice_set slots p.1 held) ≡ last_unchanged (entries_of order.entries slots)
    by [] none = absurd (none-some p (sym (ap last_entry none) ∙ is))
    by (e ∷ es) split =
        let parts = snoc e es in
        subst (λ z. entries_of z (slice_set slots p.1 held) ≡ last_unchanged (entries_of z slots)) (sym (split ∙ parts.is))
        (back parts.front parts.last (subst (AreSlots (length order.entries)) (split ∙ parts.is) k.slots_are)
        (same_Some parts.last p (sym (last_is parts.front parts.last) ∙ sym (ap last_entry (split ∙ parts.is)) ∙ is)))

-- ---- no block stands twice
apart_one : (key : Key) (es : List (Key × ℕ)) (slots : List Held) → AllByRecursion (λ other. is_same key other ≡ false) (keys_of es) → entry_of key.unit key.block (entries_of es slots) ≡ None
apart_one key [] slots all = refl
apart_one key (p ∷ es) slots all = ap (λ b. if b then Some (entry_at slots p) else entry_of key.unit key.block (entries_of es slots)) all.0 ∙ apart_one key es slots all.1

pub apart_of : (es : List (Key × ℕ)) (slots : List Held) → IsDistinct is_same (keys_of es) → AreApart (entries_of es slots)
unfolding IsDistinct
apart_of [] slots d = tt
apart_of (p ∷ es) slots d = (apart_one p.0 es slots d.0, apart_of es slots d.1)

-- ---- what the code's tests say
pub ok_of : {A E : Type 0} (r : Result A E) (P : Type 0) → is_err r ≡ false → OnOk r P → P
ok_of (Ok x) P not holds = holds
ok_of (Err e) P not holds = absurd (true_false not)
  where
    true_false : true ≡ false → ⊥
    true_false e = cc

pub none_last : (es : List (Key × ℕ)) → last_entry es ≡ None → es ≡ []
none_last [] is = refl
none_last (e ∷ es) is = let parts = snoc e es in absurd (none-some parts.last (sym is ∙ ap last_entry parts.is ∙ last_is parts.front parts.last))

-- ---- the last entry of a full cache
get_map : {A B : Type 0} (f : A → B) (xs : List A) (k : ℕ) → slice_get (map f xs) k ≡ option_map f (slice_get xs k)
get_map f [] k = refl
get_map f (x ∷ xs) zero = refl
get_map f (x ∷ xs) (suc k) = get_map f xs k

pub back_free : (order : LruCache Key ℕ) (slots : List Held) (refused : ℕ) → length order.entries < order.cap → None ≡ to_write_back (state_of order slots refused)
back_free order slots refused lt = sym (ap (λ t. if t then if_changed (slice_get (entries_of order.entries slots) (length (entries_of order.entries slots) - 1)) else None) (test (length (entries_of order.entries slots)) (length order.entries) order.cap (length-map order.entries (entry_at slots)) lt))
  where
    test : (n m c : ℕ) → n ≡ m → m < c → n == c ≡ false
    test n m c e lt = grind (arith, nat_tests)

pub back_full : (order : LruCache Key ℕ) (slots : List Held) (refused : ℕ) → length order.entries ≤ order.cap → order.cap ≤ length order.entries
    → if_changed (option_map (entry_at slots) (last_entry order.entries)) ≡ to_write_back (state_of order slots refused)
back_full order slots refused few full =
    ap if_changed (sym (ap (λ n. slice_get (entries_of order.entries slots) (n - 1)) (length-map order.entries (entry_at slots)) ∙ get_map (entry_at slots) order.entries (length order.entries - 1)))
    ∙ sym (ap (λ t. if t then if_changed (slice_get (entries_of order.entries slots) (length (entries_of order.entries slots) - 1)) else None) (test (length (entries_of order.entries slots)) (length order.entries) order.cap (length-map order.entries (entry_at slots)) few full))
  where
    test : (n m c : ℕ) → n ≡ m → m ≤ c → c ≤ m → n == c ≡ true
    test n m c e le ge = grind (arith, nat_tests)
