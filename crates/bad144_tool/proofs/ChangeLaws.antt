-- Laws of writes that are done one after another.
use Rattle.std.proofs.Common.{◌≡◌, inl, inr, ℕ, ◌+◌, Bool, true, false, IsTrue, List, [], ◌∷◌, ◌++◌, take, length, Result, Ok, Err, IsErr, refl, sym, ap, ◌∙◌, arith}
use Rattle.std.proofs.Math.Seq.{take-append-add}
use Rattle.std.proofs.lemmas.List.{take-append-le, take_min}
use Rattle.std.specs.Prelude.{◌⊎◌, min, OnErr, OnOk}
use Rattle.outside_traits.specs.Causes.{HasCause}
use Rattle.pack_geometry.specs.Pack.{Pack}
use Rattle.bad144_tool.specs.Changes.{Change, with_change, with_changes, IsCutShort, DoesAll}

pub with_changes-append : (packs : ℕ → Pack) (unit : ℕ) (xs ys : List Change)
    → with_changes packs unit (xs ++ ys) ≡ with_changes (with_changes packs unit xs) unit ys
with_changes-append packs unit [] ys = refl
with_changes-append packs unit (x ∷ xs) ys = with_changes-append (with_change packs unit x) unit xs ys

-- a front of the first writes is a front of all
front_of : (n : ℕ) (xs ys : List Change) → take (min n (length xs)) (xs ++ ys) ≡ take n xs
front_of n xs ys = take-append-le (min n (length xs)) xs ys (omega arith) ∙ take_min n xs

pub cut_in_first : (old new : ℕ → Pack) (unit : ℕ) (xs ys : List Change) → IsCutShort old new unit xs → IsCutShort old new unit (xs ++ ys)
cut_in_first old new unit xs ys cut =
    (min cut.0 (length xs), cut.1 ∙ ap (λ (cs : List Change). with_changes old unit cs) (sym (front_of cut.0 xs ys)))

pub cut_in_second : (old mid new : ℕ → Pack) (unit : ℕ) (xs ys : List Change) → mid ≡ with_changes old unit xs → IsCutShort mid new unit ys
    → IsCutShort old new unit (xs ++ ys)
cut_in_second old mid new unit xs ys done cut = (
  length xs + cut.0,
  cut.1 ∙ ap (λ (p : ℕ → Pack). with_changes p unit (take cut.0 ys)) done
      ∙ sym (with_changes-append old unit xs (take cut.0 ys))
      ∙ ap (λ (cs : List Change). with_changes old unit cs) (sym (take-append-add xs ys cut.0)),
)

module _ {P : Type 0} {tells : P → Bool} {held : P → ℕ → Pack} {faults : P → ℕ} {unit : ℕ} where
  -- the first writes were done, and then the others to some result
  pub does_then : {T U E : Type 0} {old mid new : P} {value : U} {result : Result T E} {xs ys : List Change}
      → DoesAll {P = P} {T = U} {E = E} tells held faults unit old mid (Ok value) xs → DoesAll {P = P} {T = T} {E = E} tells held faults unit mid new result ys
      → DoesAll {P = P} {T = T} {E = E} tells held faults unit old new result (xs ++ ys)
  does_then {result = Ok v} {xs = xs} {ys = ys} first second = record {
    never_again = λ t. first.never_again (second.never_again t);
    done = λ t. second.done t ∙ ap (λ (p : ℕ → Pack). with_changes p unit ys) (first.done (second.never_again t)) ∙ sym (with_changes-append _ unit xs ys);
    cut_short = tt;
    cause = record { later = omega (arith, first.cause.later, second.cause.later); failed = tt };
  }
  does_then {result = Err e} {xs = xs} {ys = ys} first second = record {
    never_again = λ t. first.never_again (second.never_again t);
    done = tt;
    cut_short = λ t. cut_in_second _ _ _ unit xs ys (first.done (second.never_again t)) (second.cut_short t);
    cause = record { later = omega (arith, first.cause.later, second.cause.later); failed = omega (arith, first.cause.later, second.cause.failed) };
  }

  -- the first writes failed, and nothing more was done
  pub does_fail : {T U E F : Type 0} {old new : P} {e : F} {result : Result T E} {xs : List Change} (ys : List Change)
      → IsErr result → DoesAll {P = P} {T = U} {E = F} tells held faults unit old new (Err e) xs
      → DoesAll {P = P} {T = T} {E = E} tells held faults unit old new result (xs ++ ys)
  does_fail {result = Ok v} ys is first = absurd (no_true is)
    where
      no_true : false ≡ true → ⊥
      no_true f = cc
  does_fail {result = Err e'} {xs = xs} ys is first = record {
    never_again = first.never_again;
    done = tt;
    cut_short = λ t. cut_in_first _ _ unit xs ys (first.cut_short t);
    cause = record { later = first.cause.later; failed = first.cause.failed };
  }

  pub does_cut : {T E : Type 0} {old new : P} {e : E} {xs : List Change} (ys : List Change)
      → DoesAll {P = P} {T = T} {E = E} tells held faults unit old new (Err e) xs
      → DoesAll {P = P} {T = T} {E = E} tells held faults unit old new (Err e) (xs ++ ys)
  does_cut {xs = xs} ys first = record {
    never_again = first.never_again;
    done = tt;
    cut_short = λ t. cut_in_first _ _ unit xs ys (first.cut_short t);
    cause = record { later = first.cause.later; failed = first.cause.failed };
  }

  -- the lists of writes need to be the same only where the packs tell
  pub does_same : {T E : Type 0} {old new : P} {result : Result T E} {xs ys : List Change} → (IsTrue (tells new) → xs ≡ ys)
      → DoesAll {P = P} {T = T} {E = E} tells held faults unit old new result xs
      → DoesAll {P = P} {T = T} {E = E} tells held faults unit old new result ys
  does_same {old = old} {new = new} {result = Ok v} same does = record {
    never_again = does.never_again;
    done = λ t. does.done t ∙ ap (λ (cs : List Change). with_changes (held old) unit cs) (same t);
    cut_short = tt;
    cause = record { later = does.cause.later; failed = tt };
  }
  does_same {old = old} {new = new} {result = Err e} same does = record {
    never_again = does.never_again;
    done = tt;
    cut_short = λ t. let cut = does.cut_short t in (cut.0, cut.1 ∙ ap (λ (cs : List Change). with_changes (held old) unit (take cut.0 cs)) (same t));
    cause = record { later = does.cause.later; failed = does.cause.failed };
  }

  -- one write: at a failure it was done or not
  pub does_one : {T E : Type 0} {old new : P} (result : Result T E) (change : Change) → (IsTrue (tells new) → IsTrue (tells old))
      → OnOk result (IsTrue (tells new) → held new ≡ with_change (held old) unit change)
      → OnErr result (IsTrue (tells new) → (held new ≡ held old) ⊎ (held new ≡ with_change (held old) unit change))
      → HasCause (faults old) (faults new) result
      → DoesAll {P = P} {T = T} {E = E} tells held faults unit old new result (change ∷ [])
  does_one (Ok v) change again done cut cause = record { never_again = again; done = done; cut_short = tt; cause = cause }
  does_one {old = old} {new = new} (Err e) change again done cut cause = record { never_again = again; done = tt; cut_short = λ t. by (cut t); cause = cause }
    where
      by : ((held new ≡ held old) ⊎ (held new ≡ with_change (held old) unit change)) → IsCutShort (held old) (held new) unit (change ∷ [])
      by (inl same) = (0, same)
      by (inr did) = (1, did)

-- where nothing changed, no write was done
pub cut_at_once : (old new : ℕ → Pack) (unit : ℕ) (changes : List Change) → new ≡ old → IsCutShort old new unit changes
cut_at_once old new unit changes same = (0, same)
