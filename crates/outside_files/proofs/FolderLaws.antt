-- Pieces of a file that are read, and written, by several calls.
use Rattle.std.proofs.Common.{◌≡◌, ℕ, ◌+◌, ◌-◌, ◌<◌, ◌≤◌, Bool, true, false, List, [], ◌∷◌, ◌++◌, take, drop, length, get_or, refl, sym, ap, ◌∙◌, arith, append-nil, length-append, length-drop, inl, inr, subst}
use Rattle.std.specs.Prelude.{if◌then◌else◌, ◌==◌, ◌*◌, ◌&&◌, IsTrue, slice_index, Result, Ok, Err, OnOk, OnErr, is_err}
use Rattle.outside_traits.specs.Causes.{HandsOn}
use Rattle.std.proofs.lemmas.Grind.{common_steps, same_number_lists}
use Rattle.std.proofs.lemmas.Bool.{cases_lt, eq-eqb}
use Rattle.std.proofs.Math.ListN.{replicate}
use Rattle.std.proofs.lemmas.List.{take_all, take-replicate, drop_at, take-append-le, length-take, get_or-append-add, get_or_append_left}
use Rattle.std.proofs.lemmas.Slice.{take-put_mid_below}
use Rattle.std.proofs.Math.Path.{fun_ext}
use Rattle.std.proofs.Math.Seq.{take-add, take-append-add}
use Rattle.outside_traits.proofs.TakenLaws.{rest_whole}
use Rattle.pack_geometry.specs.Pack.{Pack, grown, window, with_window, with_pack, with_block, with_written}
use Rattle.pack_geometry.proofs.PackLaws.{length-grown, get_or-window, get_or-with_window_here, get_or-with_window_before, get_or-with_window_after}
use Rattle.outside_traits.specs.Files.{file_of}
use Rattle.outside_files.specs.Folder.{file_number, with_file, put_at, with_put, IsFilled, IsTorn}
use Rattle.outside_traits.specs.declared.wide_packs.Part.{Part}
use Rattle.outside_traits.specs.declared.wide_packs.Part.TheVariants.{Image, Marks}
use borrow.Rule.Slice.PartMut.{put_mid, post_of}

-- a part behind a front, written anew, and a front of the part
front_more : (a k n : ℕ) (xs ys : List ℕ) → a ≤ length xs → n ≤ length ys → take (a + n) (put_mid a k xs ys) ≡ take a xs ++ take n ys
front_more a k n xs ys h l =
    let front : length (take a xs) ≡ a = omega (arith, length-take a xs) in
    take-add a n (put_mid a k xs ys) ∙ ap (λ (f : List ℕ). f ++ take n (drop a (put_mid a k xs ys))) (take-put_mid_below a k xs ys a (omega arith) h)
    ∙ ap (λ (f : List ℕ). take a xs ++ take n f) (drop_at (take a xs) (ys ++ post_of a k xs) a front)
    ∙ ap (λ (f : List ℕ). take a xs ++ f) (take-append-le n ys (post_of a k xs) l)

drop_drop : (a b : ℕ) (xs : List ℕ) → drop (a + b) xs ≡ drop b (drop a xs)
drop_drop a b xs = grind (arith, common_steps)

-- one more read into the part behind what was read
pub read_more : (file into part : List ℕ) (at done k count : ℕ) → done ≤ length into → count ≤ length part
    → take done into ≡ take done (drop at file) → take count part ≡ take count (drop (at + done) file)
    → take (done + count) (put_mid done k into part) ≡ take (done + count) (drop at file)
read_more file into part at done k count h l before now =
    front_more done k count into part h l ∙ ap (λ (xs : List ℕ). xs ++ take count part) before ∙ ap (λ (xs : List ℕ). take done (drop at file) ++ xs) now
    ∙ ap (λ (xs : List ℕ). take done (drop at file) ++ take count xs) (drop_drop at done file) ∙ sym (take-add done count (drop at file))

length-with_window : (at : ℕ) (bytes file : List ℕ) → length (with_window at bytes file) ≡ length (grown file (at + length bytes))
unfolding with_window
length-with_window at bytes file = grind (arith, common_steps, length-grown)

length-put_twice : (at : ℕ) (xs ys file : List ℕ) → length (with_window (at + length xs) ys (with_window at xs file)) ≡ length (with_window at (xs ++ ys) file)
unfolding grown
length-put_twice at xs ys file =
    grind (arith, common_steps, length-with_window (at + length xs) ys (with_window at xs file), length-with_window at xs file, length-with_window at (xs ++ ys) file)

-- the same of a unit's file, of packs that a read leaves as they were
pub read_step : (packs mid : ℕ → Pack) (unit : ℕ) (part : Part) (into piece : List ℕ) (at place done k count now : ℕ) → mid ≡ packs → place ≡ at + done
    → now ≡ done + count → done ≤ length into → count ≤ length piece → take done into ≡ take done (drop at (file_of (packs unit) part))
    → take count piece ≡ take count (drop place (file_of (mid unit) part))
    → take now (put_mid done k into piece) ≡ take now (drop at (file_of (packs unit) part))
read_step packs mid unit part into piece at place done k count now same there is h l before gives =
    let file : List ℕ = file_of (packs unit) part in
    let here : take count piece ≡ take count (drop (at + done) file) =
    gives ∙ ap (λ (f : ℕ → Pack). take count (drop place (file_of (f unit) part))) same ∙ ap (λ n. take count (drop n file)) there in
    ap (λ n. take n (put_mid done k into piece)) is ∙ read_more file into piece at done k count h l before here ∙ ap (λ n. take n (drop at file)) (sym is)

-- the bytes of a file that several reads gave, where no byte was read
pub read_none : (file into part : List ℕ) (at done k now : ℕ) → now ≡ done → done ≤ length into → take done into ≡ take done (drop at file)
    → take now (put_mid done k into part) ≡ take now (drop at file)
read_none file into part at done k now is h before =
    ap (λ n. take n (put_mid done k into part)) is ∙ take-put_mid_below done k into part done (omega arith) h ∙ before ∙ ap (λ n. take n (drop at file)) (sym is)

-- what two writes put into a file, one behind the other, is what one write of both puts there
twice_before : (at : ℕ) (xs ys file : List ℕ) (k : ℕ) → k < at
    → get_or (with_window (at + length xs) ys (with_window at xs file)) k 0 ≡ get_or (with_window at (xs ++ ys) file) k 0
twice_before at xs ys file k h =
    get_or-with_window_before (with_window at xs file) ys (at + length xs) k (omega (arith, h))
    ∙ get_or-with_window_before file xs at k h ∙ sym (get_or-with_window_before file (xs ++ ys) at k h)

twice_first : (at : ℕ) (xs ys file : List ℕ) (i : ℕ) → i < length xs
    → get_or (with_window (at + length xs) ys (with_window at xs file)) (at + i) 0 ≡ get_or (with_window at (xs ++ ys) file) (at + i) 0
twice_first at xs ys file i h =
    get_or-with_window_before (with_window at xs file) ys (at + length xs) (at + i) (omega (arith, h))
    ∙ get_or-with_window_here file xs at i h ∙ sym (get_or_append_left xs ys 0 i h)
    ∙ sym (get_or-with_window_here file (xs ++ ys) at i (omega (arith, h, length-append xs ys)))

twice_second : (at : ℕ) (xs ys file : List ℕ) (i : ℕ) → i < length ys
    → get_or (with_window (at + length xs) ys (with_window at xs file)) (at + length xs + i) 0
    ≡ get_or (with_window at (xs ++ ys) file) (at + (length xs + i)) 0
twice_second at xs ys file i h =
    get_or-with_window_here (with_window at xs file) ys (at + length xs) i h ∙ sym (get_or-append-add xs ys i 0)
    ∙ sym (get_or-with_window_here file (xs ++ ys) at (length xs + i) (omega (arith, h, length-append xs ys)))

twice_behind : (at : ℕ) (xs ys file : List ℕ) (k : ℕ) → at + length xs + length ys ≤ k
    → get_or (with_window (at + length xs) ys (with_window at xs file)) k 0 ≡ get_or (with_window at (xs ++ ys) file) k 0
twice_behind at xs ys file k h =
    get_or-with_window_after (with_window at xs file) ys (at + length xs) k h
    ∙ get_or-with_window_after file xs at k (omega (arith, h))
    ∙ sym (get_or-with_window_after file (xs ++ ys) at k (omega (arith, h, length-append xs ys)))

twice_at : (at : ℕ) (xs ys file : List ℕ) (k : ℕ)
    → get_or (with_window (at + length xs) ys (with_window at xs file)) k 0 ≡ get_or (with_window at (xs ++ ys) file) k 0
twice_at at xs ys file k =
    elim (cases_lt k at) [
      | inl before ↦ twice_before at xs ys file k before
      | inr past ↦
          elim (cases_lt k (at + length xs)) [
            | inl first ↦
                let few : k - at < length xs = omega (arith, past, first) in
                let here : at + (k - at) ≡ k = omega (arith, past) in
                subst (λ n. get_or (with_window (at + length xs) ys (with_window at xs file)) n 0 ≡ get_or (with_window at (xs ++ ys) file) n 0) here
                (twice_first at xs ys file (k - at) few)
            | inr rest ↦
                elim (cases_lt k (at + length xs + length ys)) [
                  | inl second ↦
                      let few : k - (at + length xs) < length ys = omega (arith, rest, second) in
                      let here : at + length xs + (k - (at + length xs)) ≡ k = omega (arith, rest) in
                      let there : at + (length xs + (k - (at + length xs))) ≡ k = omega (arith, rest) in
                      sym (ap (λ n. get_or (with_window (at + length xs) ys (with_window at xs file)) n 0) here)
                      ∙ twice_second at xs ys file (k - (at + length xs)) few ∙ ap (λ n. get_or (with_window at (xs ++ ys) file) n 0) there
                  | inr behind ↦ twice_behind at xs ys file k behind
                ]
          ]
    ]

window_twice : (at : ℕ) (xs ys file : List ℕ) → with_window (at + length xs) ys (with_window at xs file) ≡ with_window at (xs ++ ys) file
window_twice at xs ys file = same_number_lists _ _ (length-put_twice at xs ys file) (λ k h. twice_at at xs ys file k)

put_twice : (at n : ℕ) (xs ys file : List ℕ) → length xs ≡ n → put_at (at + n) ys (put_at at xs file) ≡ put_at at (xs ++ ys) file
put_twice at n [] [] file e = refl
put_twice at n [] (y ∷ ys) file e = let none : at + n ≡ at = omega (arith, e) in ap (λ k. with_window k (y ∷ ys) file) none
put_twice at n (x ∷ xs) [] file e = ap (λ (l : List ℕ). with_window at l file) (sym (append-nil (x ∷ xs)))
put_twice at n (x ∷ xs) (y ∷ ys) file e =
    ap (λ k. with_window (at + k) (y ∷ ys) (with_window at (x ∷ xs) file)) (sym e) ∙ window_twice at (x ∷ xs) (y ∷ ys) file

-- a unit's pack is the one that was put there last
own_pack : (packs : ℕ → Pack) (unit : ℕ) (pack : Pack) → with_pack packs unit pack unit ≡ pack
own_pack packs unit pack = ap (λ (b : Bool). if b then pack else packs unit) (eq-eqb unit unit refl)

pack_twice : (packs : ℕ → Pack) (unit : ℕ) (a b : Pack) → with_pack (with_pack packs unit a) unit b ≡ with_pack packs unit b
pack_twice packs unit a b = fun_ext (λ other. at_other (other == unit) (packs other))
  where
    at_other : (is : Bool) (pack : Pack) → (if is then b else if is then a else pack) ≡ (if is then b else pack)
    at_other true pack = refl
    at_other false pack = refl

file_twice : (pack : Pack) (part : Part) (a b : List ℕ) → with_file (with_file pack part a) part b ≡ with_file pack part b
file_twice pack Image a b = refl
file_twice pack Marks a b = refl

file_put : (pack : Pack) (part : Part) (a : List ℕ) → file_of (with_file pack part a) part ≡ a
file_put pack Image a = refl
file_put pack Marks a = refl

put_more_here : (packs : ℕ → Pack) (unit : ℕ) (part : Part) (at n : ℕ) (xs ys : List ℕ) (mid : Pack) → length xs ≡ n
    → mid ≡ with_file (packs unit) part (put_at at xs (file_of (packs unit) part))
    → with_file mid part (put_at (at + n) ys (file_of mid part)) ≡ with_file (packs unit) part (put_at at (xs ++ ys) (file_of (packs unit) part))
put_more_here packs unit part at n xs ys mid l is =
    let file : List ℕ = file_of (packs unit) part in
    ap (λ (pack : Pack). with_file pack part (put_at (at + n) ys (file_of pack part))) is
    ∙ ap (λ (old : List ℕ). with_file (with_file (packs unit) part (put_at at xs file)) part (put_at (at + n) ys old)) (file_put (packs unit) part (put_at at xs file))
    ∙ file_twice (packs unit) part (put_at at xs file) (put_at (at + n) ys (put_at at xs file))
    ∙ ap (λ (new : List ℕ). with_file (packs unit) part new) (put_twice at n xs ys file l)

-- one more write behind what was put
pub put_more : (packs mid new : ℕ → Pack) (unit : ℕ) (part : Part) (at done count : ℕ) (from rest : List ℕ) → done ≤ length from
    → mid ≡ with_put packs unit part at (take done from) → new ≡ with_put mid unit part (at + done) (take count rest)
    → rest ≡ take (length from - done) (drop done from) → new ≡ with_put packs unit part at (take (done + count) from)
put_more packs mid new unit part at done count from rest h before now is =
    let front : length (take done from) ≡ done = omega (arith, h, length-take done from) in
    let all : take done from ++ take count rest ≡ take (done + count) from =
    ap (λ (l : List ℕ). take done from ++ take count l) (is ∙ rest_whole from done) ∙ sym (take-add done count from) in
    now ∙ ap (λ (packs : ℕ → Pack). with_put packs unit part (at + done) (take count rest)) before
    ∙ pack_twice packs unit _ _
    ∙ ap (λ (pack : Pack). with_pack packs unit pack)
    (put_more_here packs unit part at done (take done from) (take count rest) _ front (own_pack packs unit _))
    ∙ ap (λ (l : List ℕ). with_put packs unit part at l) all

-- one more call of a folder
pub put_step : (packs mid new : ℕ → Pack) (unit : ℕ) (part : Part) (at place done count now : ℕ) (from : List ℕ) → place ≡ at + done → now ≡ done + count
    → done ≤ length from → mid ≡ with_put packs unit part at (take done from)
    → new ≡ with_put mid unit part place (take count (take (length from - done) (drop done from)))
    → new ≡ with_put packs unit part at (take now from)
put_step packs mid new unit part at place done count now from there is h before gives =
    put_more packs mid new unit part at done count from _ h before
    (gives ∙ ap (λ n. with_put mid unit part n (take count (take (length from - done) (drop done from)))) there) refl
    ∙ ap (λ n. with_put packs unit part at (take n from)) (sym is)

-- a call of a folder that failed
pub put_same : (packs mid new : ℕ → Pack) (unit : ℕ) (part : Part) (at done now : ℕ) (from : List ℕ) → now ≡ done
    → mid ≡ with_put packs unit part at (take done from) → new ≡ mid → new ≡ with_put packs unit part at (take now from)
put_same packs mid new unit part at done now from is before same = same ∙ before ∙ ap (λ n. with_put packs unit part at (take n from)) (sym is)

window_full : (file : List ℕ) (at size : ℕ) → size ≤ length (drop at file) → window size at file ≡ take size (drop at file)
unfolding window
window_full file at size h = grind (arith, common_steps)

window_short : (file : List ℕ) (at size : ℕ) → length (drop at file) ≤ size → window size at file ≡ drop at file ++ replicate (size - length (drop at file)) 0
unfolding window
window_short file at size h =
    let rest : ℕ = size - length (drop at file) in
    let all : size ≡ length (drop at file) + rest = omega (arith, h) in
    let few : rest ≤ size = omega arith in
    ap (λ n. take n (drop at file ++ replicate size 0)) all ∙ take-append-add (drop at file) (replicate size 0) rest
    ∙ ap (λ (xs : List ℕ). drop at file ++ xs) (take-replicate rest size 0 few)

-- a piece that is filled from a file, and with zeros behind, is the file's window
pub filled_window : (file piece filled : List ℕ) (at size count : ℕ) → length piece ≡ size → count ≤ length piece
    → filled ≡ take count piece ++ replicate (length piece - count) 0 → IsFilled file at piece count → filled ≡ window size at file
filled_window file piece filled at size count l h is fills =
    is ∙ ap (λ n. take count piece ++ replicate (n - count) 0) l
    ∙ elim (cases_lt count size) [
      | inl short ↦
          let ends : length file ≤ at + count = fills.end (omega (arith, short, l)) in
          let some : length (drop at file) ≤ count = omega (arith, ends, length-drop at file) in
          let front : length (take count piece) ≡ count = omega (arith, h, length-take count piece) in
          let same : length (take count piece) ≡ length (take count (drop at file)) = ap length fills.bytes in
          let few : length (drop at file) ≡ count = omega (arith, some, front, same, length-take count (drop at file)) in
          let fits : length (drop at file) ≤ size = omega (arith, few, short) in
          let here : take count (drop at file) ≡ drop at file = take_all count (drop at file) some in
          ap (λ (xs : List ℕ). xs ++ replicate (size - count) 0) (fills.bytes ∙ here) ∙ ap (λ n. drop at file ++ replicate (size - n) 0) (sym few)
          ∙ sym (window_short file at size fits)
      | inr whole ↦
          let all : count ≡ size = omega (arith, whole, h, l) in
          let front : length (take count piece) ≡ count = omega (arith, h, length-take count piece) in
          let same : length (take count piece) ≡ length (take count (drop at file)) = ap length fills.bytes in
          let fits : size ≤ length (drop at file) = omega (arith, all, front, same, length-take count (drop at file)) in
          let none : size - count ≡ 0 = omega (arith, all) in
          ap (λ n. take count piece ++ replicate n 0) none ∙ append-nil (take count piece) ∙ fills.bytes ∙ ap (λ n. take n (drop at file)) all
          ∙ sym (window_full file at size fits)
    ]

-- a block that was put is written
pub block_put : (packs : ℕ → Pack) (unit block : ℕ) (bytes : List ℕ) → length bytes ≡ 512
    → with_put packs unit Image (512 * block) bytes ≡ with_written packs unit block bytes
unfolding with_block
block_put packs unit block [] e = absurd (omega (arith, e))
block_put packs unit block (byte ∷ bytes) e = refl

-- the one mark byte that was read is the block's
pub mark_read : (marks into : List ℕ) (block : ℕ) → into ≡ window 1 block marks → slice_index into 0 ≡ slice_index marks block
mark_read marks into block is =
    let none : block + 0 ≡ block = omega arith in
    let one : 0 < 1 = omega arith in
    ap (λ (xs : List ℕ). get_or xs 0 0) is ∙ get_or-window 1 block marks 0 one ∙ ap (λ n. get_or marks n 0) none

-- what an answer tells where it is handed on
pub handed_ok : {T D E A B : Type 0} (answer : Result T D) (failed : E) (result : Result T E) (before now : ℕ) → HandsOn answer failed result before now → OnOk answer A
    → (A → B) → OnOk result B
handed_ok {B = B} (Ok x) failed result before now hands holds gives = subst (λ r. OnOk r B) (sym hands.0) (gives holds)
handed_ok {B = B} (Err e) failed result before now hands holds gives = subst (λ r. OnOk r B) (sym hands.0) tt

pub both_left : (a b : Bool) → IsTrue (a && b) → IsTrue a
both_left true b h = refl
both_left false b h = h

-- a write of a block through a folder
pub block_written : (packs new : ℕ → Pack) (unit block place : ℕ) (bytes : List ℕ) → length bytes ≡ 512 → place ≡ 512 * block
    → new ≡ with_put packs unit Image place bytes → new ≡ with_written packs unit block bytes
block_written packs new unit block place bytes size is put = put ∙ ap (λ n. with_put packs unit Image n bytes) is ∙ block_put packs unit block bytes size

-- an answer that is an error tells what it says of one
pub on_err : {T E A : Type 0} (r : Result T E) → is_err r ≡ true → OnErr r A → A
on_err (Ok x) e h = absurd (cc e)
on_err (Err x) e h = h

-- one byte is never torn
pub one_whole : (tells : Bool) (old new : ℕ → Pack) (unit : ℕ) (part : Part) (at : ℕ) (byte : ℕ) (before now : Bool) → (now ≡ false → before ≡ false)
    → (before ≡ false → now ≡ true → IsTorn tells old new unit part at (byte ∷ [])) → now ≡ before
one_whole tells old new unit part at byte true true back torn = refl
one_whole tells old new unit part at byte false false back torn = refl
one_whole tells old new unit part at byte true false back torn = sym (back refl)
one_whole tells old new unit part at byte false true back torn = let h : IsTorn tells old new unit part at (byte ∷ []) = torn refl refl in absurd (omega (arith, h.some, h.few))

-- each file of the 32 units has a place among 64
pub has_place : (unit : ℕ) (part : Part) (number count : ℕ) → unit < 32 → number ≡ file_number unit part → 64 ≤ count → number < count
has_place unit Image number count h is room = omega (arith, h, is, room)
has_place unit Marks number count h is room = omega (arith, h, is, room)
