-- What the entries of a book say of the noise that is live.
use Rattle.std.proofs.Common.{◌≡◌, ℕ, ◌+◌, ◌<◌, Bool, true, false, not, List, [], ◌∷◌, ◌++◌, take, drop, length, slice_get, Option, Some, None, refl, ap, ◌∙◌, arith, zero, suc, get_or, add-one, length-append}
use Rattle.std.specs.List.{filter, All}
use Rattle.std.proofs.Math.Seq.{get_or-append_seam}
use Rattle.std.proofs.lemmas.List.{get_or_append_left}
use Rattle.std.proofs.lemmas.List.Elements.{All-append, All-take, All-drop, All-filter}
use Rattle.hardware_table.specs.declared.NoiseSpan.{NoiseSpan}
use Rattle.hardware_table.specs.Noise.{LiveNoise, Book, is_behind, is_spent, sector_number, with_noise, span_left, noise_left, oldest, after_strike}
use Rattle.live_noise.specs.declared.entries.Entry.{Entry}
use Rattle.live_noise.specs.Book.{noise_of, live_of, number_of, is_entry_at, is_entry_behind, IsFirst, IsNowhere, with_entry, with_used, entry_left}

at : {P : Type 0} → (b : Bool) → (b ≡ true → P) → (b ≡ false → P) → P
at {P} b one other = (elim b as (λ v. (v ≡ true → P) → (v ≡ false → P) → P) [ true ↦ λ t f. t refl | false ↦ λ t f. f refl ]) one other

-- the tail of what holds at each place
next_nowhere : {test : Entry → Bool} → {x : Entry} → {xs : List Entry} → IsNowhere test (x ∷ xs) → IsNowhere test xs
next_nowhere h = record { nowhere = λ k d lt. h.nowhere (suc k) d (omega arith) }

next_first : {test : Entry → Bool} → {x : Entry} → {xs : List Entry} → {i : ℕ} → IsFirst test (x ∷ xs) (suc i) → IsFirst test xs i
next_first h = record {
  inside = omega (arith, h.inside);
  here = h.here;
  before = λ k d lt. h.before (suc k) d (omega arith);
}

-- where no entry is of a sector, no noise strikes it
pub nowhere_oldest : (noises : List (List ℕ)) → (unit block : ℕ) → (entries : List Entry) → IsNowhere (is_entry_at unit block) entries
    → oldest unit block (live_of noises entries) ≡ None
nowhere_oldest noises unit block [] h = refl
nowhere_oldest noises unit block (x ∷ xs) h =
    let not_here : is_entry_at unit block x ≡ false = h.nowhere 0 x (omega arith) in
    rw not_here (nowhere_oldest noises unit block xs (next_nowhere h))

pub nowhere_after : (noises : List (List ℕ)) → (unit block word : ℕ) → (entries : List Entry) → IsNowhere (is_entry_at unit block) entries
    → after_strike unit block word (live_of noises entries) ≡ live_of noises entries
nowhere_after noises unit block word [] h = refl
nowhere_after noises unit block word (x ∷ xs) h =
    let not_here : is_entry_at unit block x ≡ false = h.nowhere 0 x (omega arith) in
    rw not_here (ap (λ l. noise_of noises x ∷ l) (nowhere_after noises unit block word xs (next_nowhere h)))

-- the first entry of a sector is the oldest noise there, and a strike uses it
pub first_oldest : (noises : List (List ℕ)) → (unit block : ℕ) → (entries : List Entry) → (i : ℕ) → (e : Entry)
    → IsFirst (is_entry_at unit block) entries i → slice_get entries i ≡ Some e
    → oldest unit block (live_of noises entries) ≡ Some (noise_of noises e)
first_oldest noises unit block [] i e h is = absurd (omega (arith, h.inside))
first_oldest noises unit block (x ∷ xs) zero e h is =
    let here : is_entry_at unit block x ≡ true = h.here x in
    rw here (ap (λ (o : Option Entry). elim o as (λ v. Option LiveNoise) [ Some y ↦ Some (noise_of noises y) | None ↦ None ]) is)
first_oldest noises unit block (x ∷ xs) (suc i) e h is =
    let not_here : is_entry_at unit block x ≡ false = h.before 0 x (omega arith) in
    rw not_here (first_oldest noises unit block xs i e (next_first h) is)

left_map : (noises : List (List ℕ)) → (e : Entry) → (left : Option NoiseSpan) → (rest : List Entry)
    → noise_left (noise_of noises e) left ++ live_of noises rest ≡ live_of noises (entry_left e left ++ rest)
left_map noises e None rest = refl
left_map noises e (Some s) rest = refl

pub first_after : (noises : List (List ℕ)) → (unit block word : ℕ) → (entries : List Entry) → (i : ℕ) → (e : Entry)
    → IsFirst (is_entry_at unit block) entries i → slice_get entries i ≡ Some e
    → after_strike unit block word (live_of noises entries) ≡ live_of noises (with_used word i e entries)
first_after noises unit block word [] i e h is = absurd (omega (arith, h.inside))
first_after noises unit block word (x ∷ xs) zero e h is =
    let here : is_entry_at unit block x ≡ true = h.here x in
    let same : x ≡ e = cc in
    rw (here, same) (left_map noises e (span_left word e.span) xs)
first_after noises unit block word (x ∷ xs) (suc i) e h is =
    let not_here : is_entry_at unit block x ≡ false = h.before 0 x (omega arith) in
    rw (not_here, add-one) (ap (λ l. noise_of noises x ∷ l) (first_after noises unit block word xs i e (next_first h) is ∙ rw add-one refl))

-- an entry of a book, and what is left of it, name noise that the book has
pub slot_inside : (n : ℕ) → (entries : List Entry) → (i : ℕ) → (e : Entry) → i < length entries → slice_get entries i ≡ Some e
    → All (λ (x : Entry). x.slot < n) entries → e.slot < n
slot_inside n [] i e lt is all = absurd (omega arith)
slot_inside n (x ∷ xs) zero e lt is all =
    let same : x ≡ e = cc in
    let small : x.slot < n = all 0 x (omega arith) in rw same at small
slot_inside n (x ∷ xs) (suc i) e lt is all = slot_inside n xs i e (omega arith) is (λ k d lt. all (suc k) d (omega arith))

pub slots_used : (n word i : ℕ) → (e : Entry) → (entries : List Entry) → e.slot < n
    → All (λ (x : Entry). x.slot < n) entries → All (λ (x : Entry). x.slot < n) (with_used word i e entries)
slots_used n word i e entries lt all =
    All-append (λ (x : Entry). x.slot < n) (take i entries) (entry_left e (span_left word e.span) ++ drop (i + 1) entries)
    (All-take (λ (x : Entry). x.slot < n) i entries all)
    (All-append (λ (x : Entry). x.slot < n) (entry_left e (span_left word e.span)) (drop (i + 1) entries) (left_small (span_left word e.span))
    (All-drop (λ (x : Entry). x.slot < n) (i + 1) entries all))
  where
    one_small : (x : Entry) → x.slot < n → All (λ (x : Entry). x.slot < n) (x ∷ [])
    one_small x small k d le = first k d le
      where
        first : (k : ℕ) → (d : Entry) → k < 1 → (get_or (x ∷ []) k d).slot < n
        first zero d le = small
        first (suc k) d le = absurd (omega arith)

    left_small : (left : Option NoiseSpan) → All (λ (x : Entry). x.slot < n) (entry_left e left)
    left_small None = λ k d le. absurd (omega arith)
    left_small (Some s) = one_small (record e { span = s }) lt

-- ARMING. Noise that the book gets later changes none that it has.
live_of-append : (noises : List (List ℕ)) → (places : List ℕ) → (entries : List Entry) → All (λ (x : Entry). x.slot < length noises) entries
    → live_of (noises ++ places ∷ []) entries ≡ live_of noises entries
live_of-append noises places [] all = refl
live_of-append noises places (x ∷ xs) all =
    let small : x.slot < length noises = all 0 x (omega arith) in
    let same : get_or (noises ++ places ∷ []) x.slot [] ≡ get_or noises x.slot [] = get_or_append_left noises (places ∷ []) [] x.slot small in
    rw same (ap (λ l. noise_of noises x ∷ l) (live_of-append noises places xs (λ k d lt. all (suc k) d (omega arith))))

filter-live_of : (noises : List (List ℕ)) → (p : LiveNoise → Bool) → (entries : List Entry)
    → live_of noises (filter (λ (x : Entry). p (noise_of noises x)) entries) ≡ filter p (live_of noises entries)
filter-live_of noises p [] = refl
filter-live_of noises p (x ∷ xs) =
    at (p (noise_of noises x)) (λ e. rw e (ap (λ l. noise_of noises x ∷ l) (filter-live_of noises p xs))) (λ e. rw e (filter-live_of noises p xs))

live_of-joined : (noises : List (List ℕ)) → (xs ys : List Entry) → live_of noises (xs ++ ys) ≡ live_of noises xs ++ live_of noises ys
live_of-joined noises [] ys = refl
live_of-joined noises (x ∷ xs) ys = ap (λ l. noise_of noises x ∷ l) (live_of-joined noises xs ys)

pub live_of-with_entry : (noises : List (List ℕ)) → (places : List ℕ) → (e : Entry) → (entries : List Entry)
    → e.slot ≡ length noises → is_spent e.span ≡ false → All (λ (x : Entry). x.slot < length noises) entries
    → live_of (noises ++ places ∷ []) (with_entry e entries)
    ≡ with_noise (record { unit = e.unit; block = e.block; span = e.span; places = places }) (live_of noises entries)
live_of-with_entry noises places e entries slot lives all =
    rw lives (live_of-joined more front (e ∷ back) ∙ rw (front_is, back_is, slot, get_or-append_seam noises places [] []) refl)
  where
    more : List (List ℕ)
    more = noises ++ places ∷ []

    front : List Entry
    front = filter (λ (x : Entry). not (is_entry_behind (number_of e) x)) entries

    back : List Entry
    back = filter (is_entry_behind (number_of e)) entries

    front_is : live_of more front ≡ filter (λ (x : LiveNoise). not (is_behind (sector_number e.unit e.block) x)) (live_of noises entries)
    front_is =
        live_of-append noises places front (All-filter (λ (x : Entry). not (is_entry_behind (number_of e) x)) (λ (x : Entry). x.slot < length noises) entries all)
        ∙ filter-live_of noises (λ (x : LiveNoise). not (is_behind (sector_number e.unit e.block) x)) entries

    back_is : live_of more back ≡ filter (is_behind (sector_number e.unit e.block)) (live_of noises entries)
    back_is =
        live_of-append noises places back (All-filter (is_entry_behind (number_of e)) (λ (x : Entry). x.slot < length noises) entries all)
        ∙ filter-live_of noises (is_behind (sector_number e.unit e.block)) entries

pub slots_put : (noises : List (List ℕ)) → (places : List ℕ) → (e : Entry) → (entries : List Entry)
    → e.slot ≡ length noises → All (λ (x : Entry). x.slot < length noises) entries
    → All (λ (x : Entry). x.slot < length (noises ++ places ∷ [])) (with_entry e entries)
slots_put noises places e entries slot all =
    All-append (λ (x : Entry). x.slot < length (noises ++ places ∷ [])) front (e ∷ back) (wider front (All-filter (λ (x : Entry). not (is_entry_behind (number_of e) x)) (λ (x : Entry). x.slot < length noises) entries all))
    (All-append (λ (x : Entry). x.slot < length (noises ++ places ∷ [])) (e ∷ []) back one (wider back (All-filter (is_entry_behind (number_of e)) (λ (x : Entry). x.slot < length noises) entries all)))
  where
    front : List Entry
    front = filter (λ (x : Entry). not (is_entry_behind (number_of e) x)) entries

    back : List Entry
    back = filter (is_entry_behind (number_of e)) entries

    wider : (xs : List Entry) → All (λ (x : Entry). x.slot < length noises) xs → All (λ (x : Entry). x.slot < length (noises ++ places ∷ [])) xs
    wider xs h k d lt = omega (arith, h k d lt, length-append noises (places ∷ []))

    one : All (λ (x : Entry). x.slot < length (noises ++ places ∷ [])) (e ∷ [])
    one k d lt = first k d lt
      where
        first : (k : ℕ) → (d : Entry) → k < 1 → (get_or (e ∷ []) k d).slot < length (noises ++ places ∷ [])
        first zero d lt = omega (arith, length-append noises (places ∷ []))
        first (suc k) d lt = absurd (omega arith)

-- books of the same noise
pub same_book : (live other : List LiveNoise) → (armed capacity : ℕ) → live ≡ other
    → ◌≡◌ {A = Book} (record { live = live; armed = armed; capacity = capacity }) (record { live = other; armed = armed; capacity = capacity })
same_book live other armed capacity same = cc
