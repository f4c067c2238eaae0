-- Each pack has a table, or has none.
use Rattle.std.proofs.Common.{◌≡◌, ◌⊎◌, inl, inr, ℕ, zero, suc, ◌+◌, ◌*◌, ◌^◌, ◌<◌, ◌≤◌, ◌==◌, ◌&&◌, Bool, true, false, if◌then◌else◌, List, [], ◌∷◌, length, get_or, Option, None, Some, refl, sym, ap, ◌∙◌, subst, arith}
use Rattle.std.specs.Prelude.{All, AllPairs}
use Rattle.std.proofs.lemmas.Bool.{and_parts, cases_lt, true≢false, and_from}
use Rattle.std.proofs.lemmas.Bool.Decides.{Decides-eqb}
use Rattle.std.proofs.lemmas.Slice.Eq.{bytes_eq-Decides}
use Rattle.pack_geometry.specs.declared.DriveKind.{DriveKind}
use Rattle.pack_geometry.specs.declared.Place.{Place}
use Rattle.pack_geometry.specs.Geometry.{cylinders_of, tracks_of, sectors_of, IsInside, block_number, copy_at}
use Rattle.pack_geometry.specs.Pack.{Pack, block_at, is_marked}
use Rattle.pack_geometry.specs.TableFields.{word_at, long_at, place_in, IsEnd}
use Rattle.pack_geometry.specs.TableSpelling.{Table, IsTable, table_text, Spells}
use Rattle.pack_geometry.specs.PackTable.{Tells, IsFirstTold, IsTableOf}
use Rattle.pack_geometry.proofs.TableLaws.{spelled_end, spelled_no_end, spelled_place, spelled_serial, same_table}

-- a proof by the two values of a test
at : {P : Type 0} → (b : Bool) → (b ≡ true → P) → (b ≡ false → P) → P
at {P} b one other = (elim b as (λ v. (v ≡ true → P) → (v ≡ false → P) → P) [ true ↦ λ t f. t refl | false ↦ λ t f. f refl ]) one other

both : {P Q : Type 0} → P ⊎ (P → ⊥) → Q ⊎ (Q → ⊥) → (P × Q) ⊎ (P × Q → ⊥)
both p q = elim p [
  | inl one ↦ elim q [ inl also ↦ inl (one, also) | inr not_also ↦ inr (λ pair. not_also pair.1) ]
  | inr not_one ↦ inr (λ pair. not_one pair.0)
]

below_or_not : (a b : ℕ) → (a < b) ⊎ (a < b → ⊥)
below_or_not a b = elim (cases_lt a b) [ inl less ↦ inl less | inr more ↦ inr (λ less. omega (arith, less, more)) ]

-- ---- the places that bytes name up to the first pair of all ones

is_end : List ℕ → ℕ → Bool
is_end bytes i = (word_at bytes (8 + 4 * i) == 65535) && (word_at bytes (10 + 4 * i) == 65535)

places_from : List ℕ → ℕ → ℕ → List Place
places_from bytes i zero = []
places_from bytes i (suc n) = if is_end bytes i then [] else place_in bytes i ∷ places_from bytes (i + 1) n

end_is : (bytes : List ℕ) (i : ℕ) → is_end bytes i ≡ true → IsEnd bytes i
unfolding is_end
end_is bytes i e =
    let parts = and_parts (word_at bytes (8 + 4 * i) == 65535) (word_at bytes (10 + 4 * i) == 65535) e in
    ((Decides-eqb _ _).0 parts.0, (Decides-eqb _ _).0 parts.1)

end_shown : (bytes : List ℕ) (i : ℕ) → IsEnd bytes i → is_end bytes i ≡ true
unfolding is_end
end_shown bytes i e = and_from _ _ ((Decides-eqb (word_at bytes (8 + 4 * i)) 65535).1 e.0) ((Decides-eqb (word_at bytes (10 + 4 * i)) 65535).1 e.1)

-- the pairs from number i on name these places, and then there are all ones
pub record AreNamed (bytes : List ℕ) (i n : ℕ) (places : List Place) : Type 0 where
  pub room : length places ≤ n
  pub named : (k : ℕ) (d : Place) → k < length places → place_in bytes (i + k) ≡ get_or places k d
  pub no_end : (k : ℕ) → k < length places → IsEnd bytes (i + k) → ⊥
  pub ended : (k : ℕ) → length places ≤ k → k < n → IsEnd bytes (i + k)

places_are : (bytes : List ℕ) (i n : ℕ) (places : List Place) → AreNamed bytes i n places → places_from bytes i n ≡ places
unfolding places_from
places_are bytes i zero [] are = refl
places_are bytes i zero (p ∷ ps) are = absurd (omega (arith, are.room))
places_are bytes i (suc n) [] are =
    let here : i + 0 ≡ i = omega arith in
    let ones : IsEnd bytes i = subst (IsEnd bytes) here (are.ended 0 (omega arith) (omega arith)) in
    rw (end_shown bytes i ones) refl
places_are bytes i (suc n) (p ∷ ps) are =
    let here : i + 0 ≡ i = omega arith in
    let first : place_in bytes i ≡ p = ap (place_in bytes) (sym here) ∙ are.named 0 p (omega arith) in
    let no_ones : is_end bytes i ≡ false = at (is_end bytes i) (λ t. absurd (are.no_end 0 (omega arith) (subst (IsEnd bytes) (sym here) (end_is bytes i t)))) (λ f. f) in
    let rest : places_from bytes (i + 1) n ≡ ps = places_are bytes (i + 1) n ps (tail bytes i n p ps are) in
    rw (no_ones, first, rest) refl
  where
    tail : (bytes : List ℕ) (i n : ℕ) (p : Place) (ps : List Place) → AreNamed bytes i (suc n) (p ∷ ps) → AreNamed bytes (i + 1) n ps
    tail bytes i n p ps are = record {
      room = omega (arith, are.room);
      named = λ k d lt. let same : i + 1 + k ≡ i + suc k = omega arith in ap (place_in bytes) same ∙ are.named (suc k) d (omega (arith, lt));
      no_end = λ k lt ones. let same : i + 1 + k ≡ i + suc k = omega arith in are.no_end (suc k) (omega (arith, lt)) (subst (IsEnd bytes) same ones);
      ended = λ k le lt. let same : i + suc k ≡ i + 1 + k = omega arith in subst (IsEnd bytes) same (are.ended (suc k) (omega (arith, le)) (omega (arith, lt)));
    }

-- ---- whether a table is one

inside_or_not : (kind : DriveKind) (p : Place) → IsInside kind p ⊎ (IsInside kind p → ⊥)
inside_or_not kind p =
    elim (both (below_or_not p.cylinder (cylinders_of kind)) (both (below_or_not p.track (tracks_of kind)) (below_or_not p.sector (sectors_of kind)))) [
      | inl all ↦ inl (record { cylinder = all.0; track = all.1.0; sector = all.1.1 })
      | inr none ↦ inr (λ is. none (is.cylinder, (is.track, is.sector)))
    ]

all_or_not : (P : Place → Type 0) → ((p : Place) → P p ⊎ (P p → ⊥)) → (xs : List Place) → All P xs ⊎ (All P xs → ⊥)
all_or_not P test [] = inl (λ k d lt. absurd (omega (arith, lt)))
all_or_not P test (x ∷ xs) =
    elim (both (test x) (all_or_not P test xs)) [
      | inl all ↦ inl (with_head P x xs all.0 all.1)
      | inr none ↦ inr (λ all. none (all 0 x (omega arith), λ k d lt. all (suc k) d (omega (arith, lt))))
    ]
  where
    with_head : (P : Place → Type 0) (x : Place) (xs : List Place) → P x → All P xs → (k : ℕ) (d : Place) → k < length (x ∷ xs) → P (get_or (x ∷ xs) k d)
    with_head P x xs first rest zero d lt = first
    with_head P x xs first rest (suc k) d lt = rest k d (omega (arith, lt))

pairs_or_not : (f : Place → ℕ) (xs : List Place) → AllPairs (λ p q. f p < f q) xs ⊎ (AllPairs (λ p q. f p < f q) xs → ⊥)
pairs_or_not f [] = inl (λ i j d lt small. absurd (omega (arith, small)))
pairs_or_not f (x ∷ xs) =
    elim (both (all_or_not (λ q. f x < f q) (λ q. below_or_not (f x) (f q)) xs) (pairs_or_not f xs)) [
      | inl all ↦ inl (with_head f x xs all.0 all.1)
      | inr none ↦ inr (λ all. none (λ k d lt. all 0 (suc k) d (omega arith) (omega (arith, lt)), λ i j d lt small. all (suc i) (suc j) d (omega (arith, lt)) (omega (arith, small))))
    ]
  where
    with_head : (f : Place → ℕ) (x : Place) (xs : List Place) → All (λ q. f x < f q) xs → AllPairs (λ p q. f p < f q) xs
        → (i j : ℕ) (d : Place) → i < j → j < length (x ∷ xs) → f (get_or (x ∷ xs) i d) < f (get_or (x ∷ xs) j d)
    with_head f x xs first rest i zero d lt small = absurd (omega (arith, lt))
    with_head f x xs first rest zero (suc j) d lt small = first j d (omega (arith, small))
    with_head f x xs first rest (suc i) (suc j) d lt small = rest i j d (omega (arith, lt)) (omega (arith, small))

table_or_not : (t : Table) → IsTable t ⊎ (IsTable t → ⊥)
table_or_not t =
    elim (both (both (below_or_not t.serial (2 ^ 32)) (below_or_not (length t.places) 127))
    (both (all_or_not (IsInside t.kind) (inside_or_not t.kind) t.places) (pairs_or_not (block_number t.kind) t.places))) [
      | inl all ↦ inl (record { serial = all.0.0; room = omega (arith, all.0.1); inside = all.1.0; ascending = all.1.1 })
      | inr none ↦ inr (λ is. none ((is.serial, omega (arith, is.room)), (is.inside, is.ascending)))
    ]

-- ---- whether bytes spell a table

candidate : DriveKind → List ℕ → Table
candidate kind bytes = record { kind = kind; serial = long_at bytes 0; places = places_from bytes 0 126 }

from_zero : (i : ℕ) → 0 + i ≡ i
from_zero i = omega arith

spelled_is : (kind : DriveKind) (bytes : List ℕ) (t : Table) → t.kind ≡ kind → Spells bytes t → t ≡ candidate kind bytes
unfolding candidate
spelled_is kind bytes t k spelled = same_table t (candidate kind bytes) k (sym (spelled_serial bytes t spelled)) (sym (places_are bytes 0 126 t.places (record {
  room = spelled.valid.room;
  named = λ i d lt. ap (place_in bytes) (from_zero i) ∙ spelled_place bytes t i d spelled lt;
  no_end = λ i lt ones. spelled_no_end bytes t i spelled lt (subst (IsEnd bytes) (from_zero i) ones);
  ended = λ i le lt. subst (IsEnd bytes) (sym (from_zero i)) (spelled_end bytes t i spelled le lt);
})))

text_or_not : (xs ys : List ℕ) → (xs ≡ ys) ⊎ (xs ≡ ys → ⊥)
text_or_not xs ys = at _ (λ t. inl ((bytes_eq-Decides xs ys).0 t)) (λ f. inr (λ e. true≢false (sym ((bytes_eq-Decides xs ys).1 e) ∙ f)))

-- what a copy tells, if anything
told_or_not : (kind : DriveKind) (pack : Pack) (k : ℕ) → Tells kind pack k (candidate kind (block_at pack.image (copy_at kind k))) ⊎ ((t : Table) → Tells kind pack k t → ⊥)
unfolding candidate
told_or_not kind pack k =
    at (is_marked pack (copy_at kind k))
    (λ m. inr (λ t told. true≢false (sym m ∙ told.unmarked)))
    (λ u. elim (both (text_or_not bytes (table_text (long_at bytes 0) (places_from bytes 0 126))) (table_or_not (candidate kind bytes))) [
      | inl all ↦ inl (record { for_drive = refl; unmarked = u; spelled = record { text = all.0; valid = all.1 } })
      | inr none ↦ inr (λ t told. none (spells_candidate t told))
    ])
  where
    bytes : List ℕ
    bytes = block_at pack.image (copy_at kind k)

    spells_candidate : (t : Table) → Tells kind pack k t → (bytes ≡ table_text (long_at bytes 0) (places_from bytes 0 126)) × IsTable (candidate kind bytes)
    spells_candidate t told =
        let is = spelled_is kind bytes t told.for_drive told.spelled in
        let whole : Spells bytes (candidate kind bytes) = subst (λ c. Spells bytes c) is told.spelled in
        (whole.text, whole.valid)

-- ---- the first copy that tells one

first_told : (kind : DriveKind) (pack : Pack) (n : ℕ) → n ≤ 5 → ((t : Table) × IsFirstTold kind pack t) ⊎ ((k : ℕ) (t : Table) → k < n → Tells kind pack k t → ⊥)
first_told kind pack zero le = inr (λ k t lt told. omega (arith, lt))
first_told kind pack (suc n) le =
    elim (first_told kind pack n (omega (arith, le))) [
      | inl found ↦ inl found
      | inr none ↦
          elim (told_or_not kind pack n) [
            | inl told ↦ inl (candidate kind (block_at pack.image (copy_at kind n)), record { copy = n; is_copy = omega (arith, le); told = told; first = λ k t lt. none k t lt })
            | inr nothing ↦ inr (λ k t lt told. elim (cases_lt k n) [
              | inl before ↦ none k t before told
              | inr top ↦ let last : k ≡ n = omega (arith, lt, top) in nothing t (subst (λ m. Tells kind pack m t) last told)
            ])
          ]
    ]

pub table_exists : (kind : DriveKind) (pack : Pack) → (table : Option Table) × IsTableOf kind pack table
table_exists kind pack =
    elim (first_told kind pack 5 (omega arith)) [
      | inl found ↦ (Some found.0, found.1)
      | inr none ↦ (None, λ k t lt told. none k t lt told)
    ]
