-- Laws of windows.
use Rattle.std.proofs.Common.{◌≡◌, ◌⊎◌, inl, inr, ℕ, ◌+◌, ◌-◌, ◌<◌, ◌≤◌, List, [], ◌∷◌, ◌++◌, take, drop, length, get_or, set, refl, Bool, true, false, IsTrue, length-set, get_or-set_same, get_or-set_other, sym, ap, ◌∙◌, subst, arith}
use Rattle.std.proofs.lemmas.Grind.{common_steps, same_number_lists}
use Rattle.std.proofs.lemmas.Bool.{cases_lt}
use Rattle.std.proofs.lemmas.List.{get_or-take, get_or-drop, get_or_default, get_or_push, length_push, length-take}
use Rattle.std.specs.Prelude.{Some, if◌then◌else◌, ◌==◌, slice_get}
use Rattle.std.proofs.lemmas.Bool.Decides.{nat_tests}
use Rattle.std.proofs.lemmas.Option.{slice_get_within, get_or_from_slice_get, slice_get-get_or, slice_get_past}
use Rattle.pack_geometry.specs.Pack.{Pack, window, with_window, with_block, with_written, with_mark}
use Rattle.pack_geometry.proofs.PackLaws.{length-window, get_or-window, get_or-with_window_here, get_or-with_window_before, get_or-with_window_after, window-with_window_other}
use Rattle.pack_windows.specs.Parts.{Part, IsPart, AreParts, AreCurrent, images_of, marks_of}

-- nothing is a part of any whole
pub empty_part : (part : Part) (whole : List ℕ) → length part.bytes ≡ 0 → IsPart part whole
empty_part part whole e = record {
  bytes =
      same_number_lists _ _ (sym (length-window (length part.bytes) part.at whole)) (λ k h. absurd (omega (arith, e, h)));
}

-- a byte of a part
pub byte_of_part : (part : Part) (whole : List ℕ) (i : ℕ) → i < length part.bytes → IsPart part whole → get_or part.bytes i 0 ≡ get_or whole (part.at + i) 0
byte_of_part part whole i h is =
    ap (λ (xs : List ℕ). get_or xs i 0) is.bytes ∙ get_or-window (length part.bytes) part.at whole i h

length-piece : (xs : List ℕ) (i n : ℕ) → i + n ≤ length xs → length (take n (drop i xs)) ≡ n
length-piece xs i n h = grind (arith, common_steps)

-- a write apart from a part leaves it
pub apart_part : (part : Part) (whole from : List ℕ) (at : ℕ) → (at + length from ≤ part.at) ⊎ (part.at + length part.bytes ≤ at)
    → IsPart part whole → IsPart part (with_window at from whole)
apart_part part whole from at apart is = record {
  bytes =
      is.bytes
      ∙ sym (window-with_window_other whole from at (length part.bytes) part.at (elim apart [ inl before ↦ inr before | inr after ↦ inl after ]));
}

length-put : (xs ys : List ℕ) (i : ℕ) → i + length ys ≤ length xs → length (take i xs ++ ys ++ drop (i + length ys) xs) ≡ length xs
length-put xs ys i h = grind (arith, common_steps)

put_before : (xs ys : List ℕ) (i k : ℕ) → i + length ys ≤ length xs → k < i → get_or (take i xs ++ ys ++ drop (i + length ys) xs) k 0 ≡ get_or xs k 0
put_before xs ys i k h l = grind (arith, common_steps)

put_here : (xs ys : List ℕ) (i k : ℕ) → i + length ys ≤ length xs → k < length ys → get_or (take i xs ++ ys ++ drop (i + length ys) xs) (i + k) 0 ≡ get_or ys k 0
put_here xs ys i k h l = grind (arith, common_steps)

put_after : (xs ys : List ℕ) (i k : ℕ) → i + length ys ≤ length xs → i + length ys ≤ k → get_or (take i xs ++ ys ++ drop (i + length ys) xs) k 0 ≡ get_or xs k 0
put_after xs ys i k h l = grind (arith, common_steps)

-- a byte of a part that follows a write, before, among and behind the bytes that were written
put_byte : (part : Part) (whole from : List ℕ) (i k : ℕ) → i + length from ≤ length part.bytes → IsPart part whole → k < length part.bytes
    → get_or (take i part.bytes ++ from ++ drop (i + length from) part.bytes) k 0 ≡ get_or (with_window (part.at + i) from whole) (part.at + k) 0
put_byte part whole from i k h is small =
    elim (cases_lt k i) [
      | inl before ↦
          put_before part.bytes from i k h before ∙ byte_of_part part whole k small is
          ∙ sym (get_or-with_window_before whole from (part.at + i) (part.at + k) (omega (arith, before)))
      | inr behind ↦
          elim (cases_lt k (i + length from)) [
            | inl among ↦
                let few : k - i < length from = omega (arith, behind, among) in
                let there : i + (k - i) ≡ k = omega (arith, behind) in
                let place : part.at + i + (k - i) ≡ part.at + k = omega (arith, behind) in
                ap (λ j. get_or (take i part.bytes ++ from ++ drop (i + length from) part.bytes) j 0) (sym there)
                ∙ put_here part.bytes from i (k - i) h few
                ∙ sym (get_or-with_window_here whole from (part.at + i) (k - i) few)
                ∙ ap (λ j. get_or (with_window (part.at + i) from whole) j 0) place
            | inr after ↦
                put_after part.bytes from i k h after ∙ byte_of_part part whole k small is
                ∙ sym (get_or-with_window_after whole from (part.at + i) (part.at + k) (omega (arith, after)))
          ]
    ]

-- a part with the bytes that were written
pub put_part : (part : Part) (whole from new : List ℕ) (i at : ℕ) → part.at + i ≡ at → i + length from ≤ length part.bytes
    → new ≡ take i part.bytes ++ from ++ drop (i + length from) part.bytes → IsPart part whole
    → IsPart (record { at = part.at; bytes = new }) (with_window at from whole)
put_part part whole from new i at place h e is =
    let len : length new ≡ length part.bytes = ap length e ∙ length-put part.bytes from i h in
    record {
      bytes =
          same_number_lists _ _ (sym (length-window (length new) part.at (with_window at from whole))) (λ k l.
          let small : k < length part.bytes = omega (arith, len, l) in
          ap (λ (xs : List ℕ). get_or xs k 0) e
          ∙ put_byte part whole from i k h is small
          ∙ ap (λ j. get_or (with_window j from whole) (part.at + k) 0) place
          ∙ sym (get_or-window (length new) part.at (with_window at from whole) k l));
    }

-- ---- parts at the front of a room

front_inside : (room : List ℕ) (size k : ℕ) → k < length (take size room) → k < length room
front_inside room size k h = omega (arith, h, length-take size room)

front_byte : (room : List ℕ) (size k : ℕ) → k < length (take size room) → get_or room k 0 ≡ get_or (take size room) k 0
front_byte room size k h = sym (get_or-take size room k 0 (omega (arith, h, length-take size room)))

-- a byte of a room, of which a part is the front
pub byte_in_room : (part : Part) (whole room : List ℕ) (size i at byte : ℕ) → take size room ≡ part.bytes → part.at + i ≡ at
    → i + 1 ≤ length part.bytes → byte ≡ get_or room i byte → IsPart part whole → byte ≡ get_or whole at 0
byte_in_room part whole room size i at byte e place h b is =
    let inside : i < length part.bytes = omega arith in
    let front : i < length (take size room) = omega (arith, inside, ap length e) in
    b ∙ get_or_default room i byte 0 (front_inside room size i front)
    ∙ front_byte room size i front
    ∙ ap (λ (xs : List ℕ). get_or xs i 0) e
    ∙ byte_of_part part whole i inside is
    ∙ ap (λ j. get_or whole j 0) place

-- some bytes of a room, of which a part is the front
pub piece_of_room : (part : Part) (whole room : List ℕ) (size i n at : ℕ) → take size room ≡ part.bytes → part.at + i ≡ at
    → i + n ≤ length part.bytes → IsPart part whole → take (i + n - i) (drop i room) ≡ window n at whole
piece_of_room part whole room size i n at e place h is =
    let all : length (take size room) ≡ length part.bytes = ap length e in
    let fits : i + n ≤ length room = omega (arith, all, h, length-take size room) in
    let less : i + n - i ≡ n = omega arith in
    let len : length (take n (drop i room)) ≡ n = length-piece room i n fits in
    ap (λ k. take k (drop i room)) less
    ∙ same_number_lists _ _ (len ∙ sym (length-window n at whole)) (λ k l.
    let small : k < n = omega (arith, len, l) in
    let inside : i + k < length part.bytes = omega (arith, small, h) in
    let place_k : part.at + (i + k) ≡ at + k = omega (arith, place) in
    get_or-take n (drop i room) k 0 small ∙ get_or-drop i room k 0
    ∙ front_byte room size (i + k) (omega (arith, all, inside))
    ∙ ap (λ (xs : List ℕ). get_or xs (i + k) 0) e
    ∙ byte_of_part part whole (i + k) inside is
    ∙ ap (λ j. get_or whole j 0) place_k
    ∙ sym (get_or-window n at whole k small))

-- the front of a room with some bytes written
put_front : (room ys : List ℕ) (size i : ℕ) → i + length ys ≤ length (take size room)
    → take size (take i room ++ ys ++ drop (i + length ys) room) ≡ take i (take size room) ++ ys ++ drop (i + length ys) (take size room)
put_front room ys size i h =
    let fits : i + length ys ≤ length room = omega (arith, h, length-take size room) in
    let new : List ℕ = take i room ++ ys ++ drop (i + length ys) room in
    let whole : length new ≡ length room = length-put room ys i fits in
    let front : length (take i (take size room) ++ ys ++ drop (i + length ys) (take size room)) ≡ length (take size room) = length-put (take size room) ys i h in
    let len : length (take size new) ≡ length (take size room) = omega (arith, whole, length-take size new, length-take size room) in
    same_number_lists _ _ (len ∙ sym front) (λ k l.
    let inside : k < length (take size room) = omega (arith, len, l) in
    sym (front_byte new size k l)
    ∙ elim (cases_lt k i) [
      | inl before ↦ put_before room ys i k fits before ∙ front_byte room size k inside ∙ sym (put_before (take size room) ys i k h before)
      | inr behind ↦
          elim (cases_lt k (i + length ys)) [
            | inl among ↦
                let few : k - i < length ys = omega (arith, behind, among) in
                let there : i + (k - i) ≡ k = omega (arith, behind) in
                subst (λ j. get_or new j 0 ≡ get_or (take i (take size room) ++ ys ++ drop (i + length ys) (take size room)) j 0) there
                (put_here room ys i (k - i) fits few ∙ sym (put_here (take size room) ys i (k - i) h few))
            | inr after ↦ put_after room ys i k fits after ∙ front_byte room size k inside ∙ sym (put_after (take size room) ys i k h after)
          ]
    ])

-- a part at the front of a room with the bytes that were written
pub put_in_room : (part : Part) (whole room from new : List ℕ) (seen size i at : ℕ) → seen ≡ part.at → take size room ≡ part.bytes → part.at + i ≡ at
    → i + length from ≤ length part.bytes → new ≡ take i room ++ from ++ drop (i + length from) room → IsPart part whole
    → IsPart (record { at = seen; bytes = take size new }) (with_window at from whole)
put_in_room part whole room from new seen size i at s e place h n is =
    let fits : i + length from ≤ length (take size room) = omega (arith, h, ap length e) in
    let P : ℕ → Type 0 = λ a. IsPart (record { at = a; bytes = take size new }) (with_window at from whole) in
    subst P (sym s) (put_part part whole from (take size new) i at place h
    (ap (take size) n ∙ put_front room from size i fits ∙ ap (λ (xs : List ℕ). take i xs ++ from ++ drop (i + length from) xs) e) is)

front_taken : (xs rest : List ℕ) (size len : ℕ) → size ≤ len → size ≤ length xs → take size (take len (xs ++ rest)) ≡ take size xs
front_taken xs rest size len a b = grind (arith, common_steps)

-- the front of a room that was read from a whole
pub filled_part : (at size len place : ℕ) (xs rest whole : List ℕ) → size ≤ len → size ≤ length xs → at ≡ place → take size xs ≡ window size place whole
    → IsPart (record { at = at; bytes = take size (take len (xs ++ rest)) }) whole
filled_part at size len place xs rest whole fits inside here e =
    let bytes : List ℕ = take size (take len (xs ++ rest)) in
    let read : bytes ≡ window size place whole = front_taken xs rest size len fits inside ∙ e in
    let long : length bytes ≡ size = ap length read ∙ length-window size place whole in
    record { bytes = read ∙ ap (λ (n : ℕ). window n place whole) (sym long) ∙ ap (λ (a : ℕ). window (length bytes) a whole) (sym here) }

-- ---- parts of all units

-- one part more
pub part_more : (parts : List Part) (part : Part) (whole : ℕ → List ℕ) → ((unit : ℕ) → IsPart part (whole unit)) → AreParts parts whole
    → AreParts (parts ++ part ∷ []) whole
part_more parts part whole is are = record {
  each = λ unit other e.
      let inside : unit < length (parts ++ part ∷ []) = slice_get_within _ unit other e in
      let got : get_or (parts ++ part ∷ []) unit other ≡ other = get_or_from_slice_get _ unit other other e in
      elim (cases_lt unit (length parts)) [
        | inl before ↦
            let there : get_or (parts ++ part ∷ []) unit other ≡ get_or parts unit other = grind (arith, common_steps) in
            are.each unit other (slice_get-get_or parts unit other before ∙ ap Some (sym there ∙ got))
        | inr behind ↦
            let last : length parts ≡ unit = omega (arith, inside, length_push parts part, behind) in
            let same : part ≡ other = sym (get_or_push parts part other unit last) ∙ got in
            subst (λ p. IsPart p (whole unit)) same (is unit)
      ];
}

slice_get-set : (xs : List Part) (i k : ℕ) (y : Part) → i < length xs → slice_get (set xs i y) k ≡ (if k == i then Some y else slice_get xs k)
slice_get-set xs i k y l = grind (arith, nat_tests, common_steps, slice_get-get_or (set xs i y) k y, slice_get-get_or xs k y, slice_get_past (set xs i y) k, slice_get_past xs k, get_or-set_same xs i y y l, get_or-set_other, length-set)

-- another part of one unit, where that unit's whole is another
pub parts_set : (parts : List Part) (unit : ℕ) (old new : Part) (whole other : ℕ → List ℕ) (changed : List ℕ) → AreParts parts whole → unit < length parts → old ≡ get_or parts unit old
    → (IsPart old (whole unit) → IsPart new changed) → ((u : ℕ) → other u ≡ (if u == unit then changed else whole u)) → AreParts (set parts unit new) other
parts_set parts unit old new whole other changed are inside e step is = record {
  each = λ u part got.
      subst (λ (xs : List ℕ). IsPart part xs) (sym (is u)) (at u part (u == unit) (sym (slice_get-set parts unit u new inside) ∙ got));
}
  where
    at : (u : ℕ) (part : Part) (b : Bool) → (if b then Some new else slice_get parts u) ≡ Some part → IsPart part (if b then changed else whole u)
    at u part true got = let same : new ≡ part = cc in subst (λ (p : Part). IsPart p changed) same (step (are.each unit old (slice_get-get_or parts unit old inside ∙ ap Some (sym e))))
    at u part false got = are.each u part got

-- the same parts, where the wholes are the same
pub parts_same : (parts : List Part) (whole other : ℕ → List ℕ) → AreParts parts whole → ((u : ℕ) → other u ≡ whole u) → AreParts parts other
parts_same parts whole other are is = record { each = λ u part got. subst (λ (xs : List ℕ). IsPart part xs) (sym (is u)) (are.each u part got) }

pick_marks : (b : Bool) (p q : Pack) → (if b then p else q).marks ≡ (if b then p.marks else q.marks)
pick_marks true p q = refl
pick_marks false p q = refl

pick_image : (b : Bool) (p q : Pack) → (if b then p else q).image ≡ (if b then p.image else q.image)
pick_image true p q = refl
pick_image false p q = refl

-- what is chosen at one unit is that unit's own
own : (f : ℕ → List ℕ) (unit u : ℕ) → (if u == unit then f unit else f u) ≡ f u
own f unit u = at (u == unit) refl
  where
    at : (b : Bool) → (u == unit) ≡ b → (if b then f unit else f u) ≡ f u
    at true e = let same : unit ≡ u = grind (arith, nat_tests) in ap f same
    at false e = refl

-- windows stay current where a mark of the packs is written and the unit's window follows
pub current_marked : (told tells : Bool) (held now : ℕ → Pack) (images marks : List Part) (unit block : ℕ) (on : Bool) (old new : Part) → AreCurrent told held images marks → unit < 32
    → old ≡ get_or marks unit old → ((whole : List ℕ) → IsPart old whole → IsPart new (with_window block ((if on then 1 else 0) ∷ []) whole))
    → (IsTrue tells → IsTrue told) → (IsTrue tells → now ≡ with_mark held unit block on) → AreCurrent tells now images (set marks unit new)
current_marked told tells held now images marks unit block on old new are h e follows never is = record {
  image_count = are.image_count;
  marks_count = length-set marks unit new ∙ are.marks_count;
  image_parts = λ t. parts_same images (images_of held) (images_of now) (are.image_parts (never t)) (λ u.
      ap (λ (packs : ℕ → Pack). (packs u).image) (is t) ∙ pick_image (u == unit) (record { image = (held unit).image; marks = with_window block ((if on then 1 else 0) ∷ []) (held unit).marks }) (held u)
      ∙ own (images_of held) unit u);
  mark_parts = λ t. parts_set marks unit old new (marks_of held) (marks_of now) (with_window block ((if on then 1 else 0) ∷ []) (held unit).marks) (are.mark_parts (never t))
      (omega (arith, are.marks_count, h)) e (follows (held unit).marks) (λ u.
      ap (λ (packs : ℕ → Pack). (packs u).marks) (is t) ∙ pick_marks (u == unit) (record { image = (held unit).image; marks = with_window block ((if on then 1 else 0) ∷ []) (held unit).marks }) (held u));
}

-- they stay so where a block is written
pub current_written : (told tells : Bool) (held now : ℕ → Pack) (images marks : List Part) (unit block : ℕ) (bytes : List ℕ) (old new : Part) → AreCurrent told held images marks → unit < 32
    → old ≡ get_or images unit old → ((image : List ℕ) → IsPart old image → IsPart new (with_block image block bytes))
    → (IsTrue tells → IsTrue told) → (IsTrue tells → now ≡ with_written held unit block bytes) → AreCurrent tells now (set images unit new) marks
current_written told tells held now images marks unit block bytes old new are h e follows never is = record {
  image_count = length-set images unit new ∙ are.image_count;
  marks_count = are.marks_count;
  image_parts = λ t. parts_set images unit old new (images_of held) (images_of now) (with_block (held unit).image block bytes) (are.image_parts (never t))
      (omega (arith, are.image_count, h)) e (follows (held unit).image) (λ u.
      ap (λ (packs : ℕ → Pack). (packs u).image) (is t) ∙ pick_image (u == unit) (record { image = with_block (held unit).image block bytes; marks = (held unit).marks }) (held u));
  mark_parts = λ t. parts_same marks (marks_of held) (marks_of now) (are.mark_parts (never t)) (λ u.
      ap (λ (packs : ℕ → Pack). (packs u).marks) (is t) ∙ pick_marks (u == unit) (record { image = with_block (held unit).image block bytes; marks = (held unit).marks }) (held u)
      ∙ own (marks_of held) unit u);
}

-- a window of one unit that is a part of any whole
parts_cleared : (parts : List Part) (unit : ℕ) (old new : Part) (whole : ℕ → List ℕ) → AreParts parts whole → unit < length parts → old ≡ get_or parts unit old → ((any : List ℕ) → IsPart new any)
    → AreParts (set parts unit new) whole
parts_cleared parts unit old new whole are inside e empty = parts_set parts unit old new whole whole (whole unit) are inside e (λ is. empty (whole unit)) (λ u. sym (own whole unit u))

-- they stay so where it is not known whether the mark was written, and the unit's window has nothing
pub current_unmarked : (told tells : Bool) (held now : ℕ → Pack) (images marks : List Part) (unit block : ℕ) (on : Bool) (old new : Part) → AreCurrent told held images marks → unit < 32
    → old ≡ get_or marks unit old → ((any : List ℕ) → IsPart new any)
    → (IsTrue tells → IsTrue told) → (IsTrue tells → (now ≡ held) ⊎ (now ≡ with_mark held unit block on)) → AreCurrent tells now images (set marks unit new)
current_unmarked told tells held now images marks unit block on old new are h e empty never is =
    let written : now ≡ with_mark held unit block on → AreCurrent tells now images (set marks unit new) = λ w. current_marked told tells held now images marks unit block on old new are h e (λ whole part. empty _) never (λ t. w) in record {
      image_count = are.image_count;
      marks_count = length-set marks unit new ∙ are.marks_count;
      image_parts = λ t. elim (is t) [
        | inl same ↦ subst (λ (packs : ℕ → Pack). AreParts images (images_of packs)) (sym same) (are.image_parts (never t))
        | inr w ↦ (written w).image_parts t
      ];
      mark_parts = λ t. elim (is t) [
        | inl same ↦
            subst (λ (packs : ℕ → Pack). AreParts (set marks unit new) (marks_of packs)) (sym same)
            (parts_cleared marks unit old new (marks_of held) (are.mark_parts (never t)) (omega (arith, are.marks_count, h)) e empty)
        | inr w ↦ (written w).mark_parts t
      ];
    }

pub current_unwritten : (told tells : Bool) (held now : ℕ → Pack) (images marks : List Part) (unit block : ℕ) (bytes : List ℕ) (old new : Part) → AreCurrent told held images marks → unit < 32
    → old ≡ get_or images unit old → ((any : List ℕ) → IsPart new any)
    → (IsTrue tells → IsTrue told) → (IsTrue tells → (now ≡ held) ⊎ (now ≡ with_written held unit block bytes)) → AreCurrent tells now (set images unit new) marks
current_unwritten told tells held now images marks unit block bytes old new are h e empty never is =
    let written : now ≡ with_written held unit block bytes → AreCurrent tells now (set images unit new) marks = λ w. current_written told tells held now images marks unit block bytes old new are h e (λ image part. empty _) never (λ t. w) in record {
      image_count = length-set images unit new ∙ are.image_count;
      marks_count = are.marks_count;
      image_parts = λ t. elim (is t) [
        | inl same ↦
            subst (λ (packs : ℕ → Pack). AreParts (set images unit new) (images_of packs)) (sym same)
            (parts_cleared images unit old new (images_of held) (are.image_parts (never t)) (omega (arith, are.image_count, h)) e empty)
        | inr w ↦ (written w).image_parts t
      ];
      mark_parts = λ t. elim (is t) [
        | inl same ↦ subst (λ (packs : ℕ → Pack). AreParts marks (marks_of packs)) (sym same) (are.mark_parts (never t))
        | inr w ↦ (written w).mark_parts t
      ];
    }
