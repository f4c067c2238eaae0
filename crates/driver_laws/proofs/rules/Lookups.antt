-- Which entry a block has.
use Rattle.std.proofs.Common.{◌≡◌, ◌⊎◌, inl, inr, ℕ, ◌==◌, ◌&&◌, Bool, true, false, List, [], ◌∷◌, ◌++◌, None, Some, refl, sym, ap, ◌∙◌, subst, rules}
use Rattle.std.specs.Prelude.{if◌then◌else◌}
use Rattle.std.specs.List.{AllByRecursion}
use Rattle.std.proofs.lemmas.Option.{none-some, same_Some}
use Rattle.driver_laws.specs.declared.rules.cached.Entry.{Entry}
use Rattle.driver_laws.specs.rules.Entries.{is_of, entry_of, others, AreApart}

-- ---- a block is that of an entry, or not
pub record IsKey (unit block : ℕ) (e : Entry) : Type 0 where
  pub unit_is : unit ≡ e.unit
  pub block_is : block ≡ e.block
  pub is : is_of unit block e ≡ true

pub tells : (unit block : ℕ) (e : Entry) → IsKey unit block e ⊎ (is_of unit block e ≡ false)
tells unit block e = search rules

pub true_false : {b : Bool} → b ≡ true → b ≡ false → ⊥
true_false one other = cc

pub is_key : (unit block : ℕ) (e : Entry) → is_of unit block e ≡ true → IsKey unit block e
is_key unit block e is = search rules

pub own_key : (e : Entry) → is_of e.unit e.block e ≡ true
own_key e = search rules

-- ---- the first of some entries
pub at_own : (unit block : ℕ) (e : Entry) (entries : List Entry) → is_of unit block e ≡ true → entry_of unit block (e ∷ entries) ≡ Some e
at_own unit block e entries is = rw is refl

pub at_other : (unit block : ℕ) (e : Entry) (entries : List Entry) → is_of unit block e ≡ false → entry_of unit block (e ∷ entries) ≡ entry_of unit block entries
at_other unit block e entries is = rw is refl

-- what is found has the block, and what holds of all entries
pub found_key : (unit block : ℕ) (entries : List Entry) (e : Entry) → entry_of unit block entries ≡ Some e → is_of unit block e ≡ true
found_key unit block [] e is = absurd (none-some e is)
found_key unit block (x ∷ entries) e is = elim (tells unit block x) [
  | inl key ↦ subst (λ z. is_of unit block z ≡ true) (same_Some x e (sym (at_own unit block x entries key.is) ∙ is)) key.is
  | inr not ↦ found_key unit block entries e (sym (at_other unit block x entries not) ∙ is)
]

pub found_all : (P : Entry → Type 0) (unit block : ℕ) (entries : List Entry) (e : Entry) → AllByRecursion P entries → entry_of unit block entries ≡ Some e → P e
found_all P unit block [] e all is = absurd (none-some e is)
found_all P unit block (x ∷ entries) e all is = elim (tells unit block x) [
  | inl key ↦ subst P (same_Some x e (sym (at_own unit block x entries key.is) ∙ is)) all.0
  | inr not ↦ found_all P unit block entries e all.1 (sym (at_other unit block x entries not) ∙ is)
]

pub none_misses : (unit block : ℕ) (entries : List Entry) → entry_of unit block entries ≡ None → AllByRecursion (λ x. is_of unit block x ≡ false) entries
none_misses unit block [] none = tt
none_misses unit block (x ∷ entries) none = elim (tells unit block x) [
  | inl key ↦ absurd (none-some x (sym none ∙ at_own unit block x entries key.is))
  | inr not ↦ (not, none_misses unit block entries (sym (at_other unit block x entries not) ∙ none))
]

pub misses_none : (unit block : ℕ) (entries : List Entry) → AllByRecursion (λ x. is_of unit block x ≡ false) entries → entry_of unit block entries ≡ None
misses_none unit block [] all = refl
misses_none unit block (x ∷ entries) all = at_other unit block x entries all.0 ∙ misses_none unit block entries all.1

-- ---- the other entries
pub others_all : (P : Entry → Type 0) (unit block : ℕ) (entries : List Entry) → AllByRecursion P entries → AllByRecursion P (others unit block entries)
others_all P unit block [] all = tt
others_all P unit block (x ∷ entries) all = by (is_of unit block x) (others_all P unit block entries all.1)
  where
    by : (own : Bool) → AllByRecursion P (others unit block entries) → AllByRecursion P (if own then entries else x ∷ others unit block entries)
    by true rest = all.1
    by false rest = (all.0, rest)

pub others_look : (u b unit block : ℕ) (entries : List Entry) → ((x : Entry) → is_of unit block x ≡ true → is_of u b x ≡ false) → entry_of u b (others unit block entries) ≡ entry_of u b entries
others_look u b unit block [] differs = refl
others_look u b unit block (e ∷ entries) differs = by (is_of unit block e) refl (others_look u b unit block entries differs)
  where
    by : (own : Bool) → is_of unit block e ≡ own → entry_of u b (others unit block entries) ≡ entry_of u b entries
        → entry_of u b (if own then entries else e ∷ others unit block entries) ≡ entry_of u b (e ∷ entries)
    by true is ih = sym (at_other u b e entries (differs e is))
    by false is ih = ap (λ z. if is_of u b e then Some e else z) ih

-- in front of the other ones an entry leaves what is found of another block
pub front_look : (u b : ℕ) (e : Entry) (entries : List Entry) → is_of u b e ≡ false → entry_of u b (others e.unit e.block entries) ≡ entry_of u b entries
front_look u b e entries not = others_look u b e.unit e.block entries (λ x is. let key = is_key e.unit e.block x is in away x key)
  where
    away : (x : Entry) → IsKey e.unit e.block x → is_of u b x ≡ false
    away x key = subst (λ n. (u == n) && (b == x.block) ≡ false) key.unit_is (subst (λ n. (u == e.unit) && (b == n) ≡ false) key.block_is not)

-- ---- two parts of the entries
pub look_front : (u b : ℕ) (xs ys : List Entry) (e : Entry) → entry_of u b xs ≡ Some e → entry_of u b (xs ++ ys) ≡ Some e
look_front u b [] ys e is = absurd (none-some e is)
look_front u b (x ∷ xs) ys e is = elim (tells u b x) [
  | inl key ↦ at_own u b x (xs ++ ys) key.is ∙ sym (at_own u b x xs key.is) ∙ is
  | inr not ↦ at_other u b x (xs ++ ys) not ∙ look_front u b xs ys e (sym (at_other u b x xs not) ∙ is)
]

pub look_behind : (u b : ℕ) (xs ys : List Entry) → entry_of u b xs ≡ None → entry_of u b (xs ++ ys) ≡ entry_of u b ys
look_behind u b [] ys none = refl
look_behind u b (x ∷ xs) ys none = elim (tells u b x) [
  | inl key ↦ absurd (none-some x (sym none ∙ at_own u b x xs key.is))
  | inr not ↦ at_other u b x (xs ++ ys) not ∙ look_behind u b xs ys (sym (at_other u b x xs not) ∙ none)
]

pub all_parts : (P : Entry → Type 0) (xs ys : List Entry) → AllByRecursion P (xs ++ ys) → AllByRecursion P xs × AllByRecursion P ys
all_parts P [] ys all = (tt, all)
all_parts P (x ∷ xs) ys all = let rest = all_parts P xs ys all.1 in ((all.0, rest.0), rest.1)

pub all_join : (P : Entry → Type 0) (xs ys : List Entry) → AllByRecursion P xs → AllByRecursion P ys → AllByRecursion P (xs ++ ys)
all_join P [] ys all more = more
all_join P (x ∷ xs) ys all more = (all.0, all_join P xs ys all.1 more)

-- the last of entries that are apart has a block of its own
pub last_apart : (front : List Entry) (last : Entry) → AreApart (front ++ last ∷ []) → AllByRecursion (λ x. is_of x.unit x.block last ≡ false) front
last_apart [] last apart = tt
last_apart (x ∷ front) last apart = (last_of x front (none_misses x.unit x.block (front ++ last ∷ []) apart.0), last_apart front last apart.1)
  where
    last_of : (x : Entry) (xs : List Entry) → AllByRecursion (λ z. is_of x.unit x.block z ≡ false) (xs ++ last ∷ []) → is_of x.unit x.block last ≡ false
    last_of x [] all = all.0
    last_of x (y ∷ xs) all = last_of x xs all.1

-- two entries of one block are not told apart by which asks
pub other_way : (x y : Entry) → is_of x.unit x.block y ≡ false → is_of y.unit y.block x ≡ false
other_way x y not = search rules
