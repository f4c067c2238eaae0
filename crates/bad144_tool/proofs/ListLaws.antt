-- The lines of a table's entries, one after another.
use Rattle.std.proofs.Common.{◌≡◌, ℕ, suc, Bool, true, false, IsTrue, Result, Ok, Err, IsErr, ◌+◌, ◌<◌, ◌≤◌, List, [], ◌∷◌, ◌++◌, take, drop, length, get_or, Option, None, Some, refl, sym, ap, ◌∙◌, subst, arith, append_assoc}
use Rattle.std.proofs.Math.Seq.{take-append-add, take-suc}
use Rattle.std.proofs.lemmas.List.{take-append-le, take_min, length-take-le, take-append-drop}
use Rattle.std.proofs.lemmas.Option.{get_or_from_slice_get, slice_get_within}
use Rattle.std.specs.Prelude.{IfSome, min, slice_get}
use Rattle.pack_geometry.specs.declared.DriveKind.{DriveKind}
use Rattle.pack_geometry.specs.declared.Place.{Place}
use Rattle.pack_geometry.specs.Pack.{Pack}
use Rattle.pack_geometry.specs.PackTable.{IsTableOf}
use Rattle.pack_geometry.specs.TableSpelling.{IsTable, Table}
use Rattle.outside_traits.specs.Puts.{Puts, TakesFront}
use Rattle.outside_traits.specs.Causes.{Rose}
use Rattle.bad144_tool.specs.Adding.{Fits}
use Rattle.bad144_tool.specs.Texts.{IsListed, entry_line, entry_lines}

entry_lines-append : (kind : DriveKind) (j : ℕ) (xs ys : List Place) → entry_lines kind j (xs ++ ys) ≡ entry_lines kind j xs ++ entry_lines kind (j + length xs) ys
entry_lines-append kind j [] ys = let same : j ≡ j + 0 = omega arith in ap (λ (n : ℕ). entry_lines kind n ys) same
entry_lines-append kind j (x ∷ xs) ys =
    let same : j + 1 + length xs ≡ j + suc (length xs) = omega arith in
    ap (λ (text : List ℕ). entry_line kind j x ++ text)
    (entry_lines-append kind (j + 1) xs ys ∙ ap (λ (n : ℕ). entry_lines kind (j + 1) xs ++ entry_lines kind n ys) same)
    ∙ sym (append_assoc (entry_line kind j x) (entry_lines kind (j + 1) xs) (entry_lines kind (j + suc (length xs)) ys))

append_nothing : (xs : List ℕ) → xs ++ [] ≡ xs
append_nothing [] = refl
append_nothing (x ∷ xs) = ap (λ (ys : List ℕ). x ∷ ys) (append_nothing xs)

-- the entries up to one, and that one
pub one_more : (kind : DriveKind) (places : List Place) (i : ℕ) (place : Place) → slice_get places i ≡ Some place
    → entry_lines kind 0 (take (i + 1) places) ≡ entry_lines kind 0 (take i places) ++ entry_line kind i place
one_more kind places i place at =
    let inside : i < length places = slice_get_within places i place at in
    let next : i + 1 ≡ suc i = omega arith in
    let size : length (take i places) ≡ i = length-take-le i places (omega (arith, inside)) in
    let number : 0 + length (take i places) ≡ i = omega (arith, size) in
    ap (λ (n : ℕ). entry_lines kind 0 (take n places)) next
    ∙ ap (λ (xs : List Place). entry_lines kind 0 xs) (take-suc places i place inside)
    ∙ entry_lines-append kind 0 (take i places) (get_or places i place ∷ [])
    ∙ ap (λ (n : ℕ). entry_lines kind 0 (take i places) ++ entry_lines kind n (get_or places i place ∷ [])) number
    ∙ ap (λ (p : Place). entry_lines kind 0 (take i places) ++ entry_lines kind i (p ∷ [])) (get_or_from_slice_get places i place place at)
    ∙ ap (λ (text : List ℕ). entry_lines kind 0 (take i places) ++ text) (append_nothing (entry_line kind i place))

pub entries_more : (kind : DriveKind) (places : List Place) (i : ℕ) (place : Place) (before middle after : List ℕ) → slice_get places i ≡ Some place
    → middle ≡ before ++ entry_lines kind 0 (take i places) → after ≡ middle ++ entry_line kind i place → after ≡ before ++ entry_lines kind 0 (take (i + 1) places)
entries_more kind places i place before middle after at so_far line =
    line ∙ ap (λ (text : List ℕ). text ++ entry_line kind i place) so_far
    ∙ append_assoc before (entry_lines kind 0 (take i places)) (entry_line kind i place)
    ∙ ap (λ (text : List ℕ). before ++ text) (sym (one_more kind places i place at))

-- a front of what comes next is a front of all
pub front_within : (before middle after done next rest : List ℕ) → middle ≡ before ++ done → TakesFront middle after next → TakesFront before after ((done ++ next) ++ rest)
front_within before middle after done next rest so_far front = (
  length done + min front.0 (length next),
  front.1 ∙ ap (λ (text : List ℕ). text ++ take front.0 next) so_far
      ∙ append_assoc before done (take front.0 next)
      ∙ ap (λ (text : List ℕ). before ++ text) (sym (
      ap (λ (text : List ℕ). take (length done + min front.0 (length next)) text) (append_assoc done next rest)
      ∙ take-append-add done (next ++ rest) (min front.0 (length next))
      ∙ ap (λ (text : List ℕ). done ++ text) (take-append-le (min front.0 (length next)) next rest (omega arith) ∙ take_min front.0 next))),
)

pub entries_front : (kind : DriveKind) (places : List Place) (i : ℕ) (place : Place) (before middle after : List ℕ) → slice_get places i ≡ Some place
    → middle ≡ before ++ entry_lines kind 0 (take i places) → TakesFront middle after (entry_line kind i place) → TakesFront before after (entry_lines kind 0 places)
entries_front kind places i place before middle after at so_far front =
    let rest : List ℕ = entry_lines kind (0 + length (take (i + 1) places)) (drop (i + 1) places) in
    let whole : (entry_lines kind 0 (take i places) ++ entry_line kind i place) ++ rest ≡ entry_lines kind 0 places =
    ap (λ (text : List ℕ). text ++ rest) (sym (one_more kind places i place at))
    ∙ sym (entry_lines-append kind 0 (take (i + 1) places) (drop (i + 1) places))
    ∙ ap (λ (xs : List Place). entry_lines kind 0 xs) (take-append-drop (i + 1) places) in
    subst (λ (text : List ℕ). TakesFront before after text) whole
    (front_within before middle after (entry_lines kind 0 (take i places)) (entry_line kind i place) rest so_far front)

-- a call that failed, having taken a front
pub puts_front : {O T E : Type 0} {tells : O → Bool} {taken : O → List ℕ} {faults : O → ℕ} {old new : O} {result : Result T E} {text : List ℕ}
    → IsErr result → (IsTrue (tells new) → IsTrue (tells old)) → (IsTrue (tells new) → TakesFront (taken old) (taken new) text)
    → faults old ≤ faults new → Rose (faults old) (faults new) → Puts {O = O} {T = T} {E = E} tells taken faults old new result text
puts_front {result = Ok v} is again front later rose = absurd (no_true is)
  where
    no_true : false ≡ true → ⊥
    no_true f = cc
puts_front {result = Err e} is again front later rose =
    record { never_again = again; bytes = tt; front = front; cause = record { later = later; failed = rose } }

-- one text was put, and then another to some result
pub puts_then : {O T U E : Type 0} {tells : O → Bool} {taken : O → List ℕ} {faults : O → ℕ} {old mid new : O} {value : U} {result : Result T E} {xs ys : List ℕ}
    → Puts {O = O} {T = U} {E = E} tells taken faults old mid (Ok value) xs → Puts {O = O} {T = T} {E = E} tells taken faults mid new result ys
    → Puts {O = O} {T = T} {E = E} tells taken faults old new result (xs ++ ys)
puts_then {taken = taken} {old = old} {result = Ok v} {xs = xs} {ys = ys} first second = record {
  never_again = λ t. first.never_again (second.never_again t);
  bytes = λ t. second.bytes t ∙ ap (λ (text : List ℕ). text ++ ys) (first.bytes (second.never_again t)) ∙ append_assoc (taken old) xs ys;
  front = tt;
  cause = record { later = omega (arith, first.cause.later, second.cause.later); failed = tt };
}
puts_then {taken = taken} {old = old} {mid = mid} {new = new} {result = Err e} {xs = xs} {ys = ys} first second = record {
  never_again = λ t. first.never_again (second.never_again t);
  bytes = tt;
  front = λ t. let front = second.front t in (
    length xs + front.0,
    front.1 ∙ ap (λ (text : List ℕ). text ++ take front.0 ys) (first.bytes (second.never_again t))
        ∙ append_assoc (taken old) xs (take front.0 ys) ∙ ap (λ (text : List ℕ). taken old ++ text) (sym (take-append-add xs ys front.0)),
  );
  cause = record { later = omega (arith, first.cause.later, second.cause.later); failed = omega (arith, first.cause.later, second.cause.failed) };
}

-- the first text was not put whole
pub puts_cut : {O T U E F : Type 0} {tells : O → Bool} {taken : O → List ℕ} {faults : O → ℕ} {old new : O} {e : F} {result : Result T E} {xs : List ℕ} (ys : List ℕ)
    → IsErr result → Puts {O = O} {T = U} {E = F} tells taken faults old new (Err e) xs → Puts {O = O} {T = T} {E = E} tells taken faults old new result (xs ++ ys)
puts_cut {taken = taken} {old = old} {new = new} {xs = xs} ys is first =
    puts_front is first.never_again
    (λ t. let front = first.front t in (
      min front.0 (length xs),
      front.1 ∙ ap (λ (text : List ℕ). taken old ++ text)
          (sym (take-append-le (min front.0 (length xs)) xs ys (omega arith) ∙ take_min front.0 xs)),
    ))
    first.cause.later first.cause.failed

-- a table that was read is one of the drive's kind, and the pack's where the packs tell
pub listed : (kind : DriveKind) (unit : ℕ) (tells : Bool) (old mid : ℕ → Pack) (table : Option Table) → IfSome table (λ t. t.kind ≡ kind) → IfSome table IsTable
    → (IsTrue tells → Fits kind (old unit)) → (IsTrue tells → mid ≡ old) → (IsTrue tells → IsTableOf kind (mid unit) table) → IsListed kind tells (old unit) table
listed kind unit tells old mid table drive valid fits same is = record {
  valid = both table drive valid;
  fits = fits;
  table_is = λ t. subst (λ (packs : ℕ → Pack). IsTableOf kind (packs unit) table) (same t) (is t);
}
  where
    both : (table : Option Table) → IfSome table (λ t. t.kind ≡ kind) → IfSome table IsTable → IfSome table (λ t. (t.kind ≡ kind) × IsTable t)
    both None drive valid = tt
    both (Some t) drive valid = (drive, valid)
