-- Laws of gathering.
use Rattle.std.proofs.Common.{◌≡◌, ℕ, ◌+◌, ◌≤◌, ◌<◌, ◌⊎◌, inl, inr, List, [], ◌++◌, take, drop, length, Bool, sym, ap, ◌∙◌, subst, arith, refl, append_assoc, append-nil, length-take}
use Rattle.std.specs.Prelude.{Result, Ok, Err, IsOk, IsErr}
use Rattle.std.proofs.lemmas.List.{take_all, take-append-le}
use Rattle.std.proofs.lemmas.Grind.{common_steps}
use Rattle.std.proofs.lemmas.Bool.{cases_lt}
use Rattle.std.proofs.Math.Seq.{take-add, take-append_seam, drop-append_seam}
use Rattle.outside_traits.specs.Causes.{Rose}
use Rattle.outside_traits.specs.Puts.{TakesFront, Puts}
use Rattle.outside_traits.specs.Gathers.{Gathers}

-- a front of a text is a front of a longer one
front_by : (before after x y : List ℕ) (n : ℕ) → after ≡ before ++ take n x → (n < length x) ⊎ (length x ≤ n) → TakesFront before after (x ++ y)
front_by before after x y n e (inl small) = (n, e ∙ ap (λ (l : List ℕ). before ++ l) (sym (take-append-le n x y (omega (arith, small)))))
front_by before after x y n e (inr large) = (length x, e ∙ ap (λ (l : List ℕ). before ++ l) (take_all n x large ∙ sym (take-append_seam x y)))

pub front_more : (before after x y : List ℕ) → TakesFront before after x → TakesFront before after (x ++ y)
front_more before after x y f = front_by before after x y f.0 f.1 (cases_lt f.0 (length x))

-- what stands behind the same text is the same
behind_same : (xs ys zs : List ℕ) → xs ++ ys ≡ xs ++ zs → ys ≡ zs
behind_same xs ys zs e = sym (drop-append_seam xs ys) ∙ ap (λ (l : List ℕ). drop (length xs) l) e ∙ drop-append_seam xs zs

-- a front of what stands behind a text, with that text, is a front of the whole
front_whole : (xs ys : List ℕ) (k : ℕ) → take (length xs + k) (xs ++ ys) ≡ xs ++ take k ys
front_whole xs ys k =
    take-add (length xs) k (xs ++ ys) ∙ ap (λ (l : List ℕ). l ++ take k (drop (length xs) (xs ++ ys))) (take-append_seam xs ys)
    ∙ ap (λ (l : List ℕ). xs ++ take k l) (drop-append_seam xs ys)

shorter : (size n : ℕ) (xs : List ℕ) → n ≤ size → take n (take size xs) ≡ take n xs
shorter size n xs h = grind (arith, common_steps)

-- a front of a text that was put into a room at a place, with what stands before it there
pub short_front : (items seen new rest behind from : List ℕ) (at len size : ℕ) → seen ≡ items → new ≡ from → at + len ≤ size → at ≤ length items → len ≤ length from
    → take (at + len) (take size ((take at seen ++ (new ++ rest)) ++ behind)) ≡ take at items ++ take len from
short_front items seen new rest behind from at len size s n inside there short =
    let front : List ℕ = take at items in
    let long : length front ≡ at = omega (arith, there, length-take at items) in
    shorter size (at + len) ((take at seen ++ (new ++ rest)) ++ behind) inside
    ∙ ap (λ (xs : List ℕ). take (at + len) ((take at xs ++ (new ++ rest)) ++ behind)) s
    ∙ ap (λ (xs : List ℕ). take (at + len) ((front ++ (xs ++ rest)) ++ behind)) n
    ∙ ap (λ (xs : List ℕ). take (at + len) xs) (append_assoc front (from ++ rest) behind ∙ ap (λ (xs : List ℕ). front ++ xs) (append_assoc from rest behind))
    ∙ ap (λ (k : ℕ). take (k + len) (front ++ (from ++ (rest ++ behind)))) (sym long)
    ∙ front_whole front (from ++ (rest ++ behind)) len
    ∙ ap (λ (xs : List ℕ). front ++ xs) (take-append-le len from (rest ++ behind) short)

-- a front of a text, and then a front of its rest with more behind it
fronts_join : (before middle after text held more : List ℕ) → middle ++ held ≡ before ++ text → TakesFront before middle text → TakesFront middle after (held ++ more) → TakesFront before after (text ++ more)
fronts_join before middle after text held more e f g =
    let front : List ℕ = take f.0 text in
    let whole : front ++ held ≡ text = behind_same before (front ++ held) text (sym (append_assoc before front held) ∙ ap (λ (l : List ℕ). l ++ held) (sym f.1) ∙ e) in
    let all : text ++ more ≡ front ++ (held ++ more) = ap (λ (l : List ℕ). l ++ more) (sym whole) ∙ append_assoc front held more in (
      length front + g.0,
      g.1 ∙ ap (λ (l : List ℕ). l ++ take g.0 (held ++ more)) f.1 ∙ append_assoc before front (take g.0 (held ++ more))
          ∙ ap (λ (l : List ℕ). before ++ l) (sym (front_whole front (held ++ more) g.0) ∙ ap (λ (l : List ℕ). take (length front + g.0) l) (sym all)),
    )

pub rose_more : (old middle new : ℕ) → old ≤ middle → Rose middle new → Rose old new
rose_more old middle new l r = omega (arith, l, r)

-- two texts one after another
pub gathers_join : {O T E U F : Type 0} (tells : O → Bool) (taken : O → List ℕ) (faults : O → ℕ) (old middle new : O) (kept held left : List ℕ) (first : Result T E) (second : Result U F) (x y : List ℕ)
    → IsOk first → Gathers tells taken faults old middle kept held first x → Gathers tells taken faults middle new held left second y
    → Gathers tells taken faults old new kept left second (x ++ y)
gathers_join tells taken faults old middle new kept held left (Err e) second x y ok a b = let no_way : ⊥ = cc in absurd no_way
gathers_join tells taken faults old middle new kept held left (Ok v) (Ok w) x y ok a b = record {
  never_again = λ t. a.never_again (b.never_again t);
  front = λ t. subst (TakesFront (taken old) (taken new)) (append_assoc kept x y) (fronts_join (taken old) (taken middle) (taken new) (kept ++ x) held y (a.bytes (b.never_again t)) (a.front (b.never_again t)) (b.front t));
  bytes = λ t. b.bytes t ∙ sym (append_assoc (taken middle) held y) ∙ ap (λ (l : List ℕ). l ++ y) (a.bytes (b.never_again t)) ∙ append_assoc (taken old) (kept ++ x) y ∙ ap (λ (l : List ℕ). taken old ++ l) (append_assoc kept x y);
  none_kept = tt;
  cause = record { later = omega (arith, a.cause.later, b.cause.later); failed = tt };
}
gathers_join tells taken faults old middle new kept held left (Ok v) (Err f) x y ok a b = record {
  never_again = λ t. a.never_again (b.never_again t);
  front = λ t. subst (TakesFront (taken old) (taken new)) (append_assoc kept x y) (fronts_join (taken old) (taken middle) (taken new) (kept ++ x) held y (a.bytes (b.never_again t)) (a.front (b.never_again t)) (b.front t));
  bytes = tt;
  none_kept = b.none_kept;
  cause = record { later = omega (arith, a.cause.later, b.cause.later); failed = rose_more (faults old) (faults middle) (faults new) a.cause.later b.cause.failed };
}

-- a text that was not put, with more behind it; the failure may be told by another answer
pub gathers_stop : {O T E U F : Type 0} (tells : O → Bool) (taken : O → List ℕ) (faults : O → ℕ) (old new : O) (kept left : List ℕ) (first : Result T E) (second : Result U F) (x y : List ℕ)
    → IsErr first → IsErr second → Gathers tells taken faults old new kept left first x → Gathers tells taken faults old new kept left second (x ++ y)
gathers_stop tells taken faults old new kept left (Ok v) second x y e f a = let no_way : ⊥ = cc in absurd no_way
gathers_stop tells taken faults old new kept left (Err v) (Ok w) x y e f a = let no_way : ⊥ = cc in absurd no_way
gathers_stop tells taken faults old new kept left (Err v) (Err w) x y e f a = record {
  never_again = a.never_again;
  front = λ t. subst (TakesFront (taken old) (taken new)) (append_assoc kept x y) (front_more (taken old) (taken new) (kept ++ x) y (a.front t));
  bytes = tt;
  none_kept = a.none_kept;
  cause = record { later = a.cause.later; failed = a.cause.failed };
}

-- nothing kept before and after
pub gathers_whole : {O T E : Type 0} (tells : O → Bool) (taken : O → List ℕ) (faults : O → ℕ) (old new : O) (result : Result T E) (text : List ℕ)
    → Gathers tells taken faults old new [] [] result text → Puts tells taken faults old new result text
gathers_whole tells taken faults old new (Ok v) text a = record {
  never_again = a.never_again;
  bytes = λ t. sym (append-nil (taken new)) ∙ a.bytes t;
  front = tt;
  cause = a.cause;
}
gathers_whole tells taken faults old new (Err v) text a = record {
  never_again = a.never_again;
  bytes = tt;
  front = a.front;
  cause = a.cause;
}

-- what was kept was passed on, and nothing is kept
pub flushed : {O T E : Type 0} (tells : O → Bool) (taken : O → List ℕ) (faults : O → ℕ) (old new : O) (kept left : List ℕ) (result : Result T E)
    → left ≡ [] → Puts tells taken faults old new result kept → Gathers tells taken faults old new kept left result []
flushed tells taken faults old new kept left (Ok v) e p = record {
  never_again = p.never_again;
  front = λ t. (length kept, p.bytes t ∙ ap (λ (l : List ℕ). taken old ++ l) (sym (take-append_seam kept [])));
  bytes = λ t. ap (λ (l : List ℕ). taken new ++ l) e ∙ append-nil (taken new) ∙ p.bytes t ∙ ap (λ (l : List ℕ). taken old ++ l) (sym (append-nil kept));
  none_kept = tt;
  cause = p.cause;
}
flushed tells taken faults old new kept left (Err v) e p = record {
  never_again = p.never_again;
  front = λ t. front_more (taken old) (taken new) kept [] (p.front t);
  bytes = tt;
  none_kept = e;
  cause = p.cause;
}

-- a text was passed on at once
pub passed_on : {O T E : Type 0} (tells : O → Bool) (taken : O → List ℕ) (faults : O → ℕ) (old new : O) (left : List ℕ) (result : Result T E) (text : List ℕ)
    → left ≡ [] → Puts tells taken faults old new result text → Gathers tells taken faults old new [] left result text
passed_on tells taken faults old new left (Ok v) text e p = record {
  never_again = p.never_again;
  front = λ t. (length text, p.bytes t ∙ ap (λ (l : List ℕ). taken old ++ l) (sym (take_all (length text) text (omega arith))));
  bytes = λ t. ap (λ (l : List ℕ). taken new ++ l) e ∙ append-nil (taken new) ∙ p.bytes t;
  none_kept = tt;
  cause = p.cause;
}
passed_on tells taken faults old new left (Err v) text e p = record {
  never_again = p.never_again;
  front = p.front;
  bytes = tt;
  none_kept = e;
  cause = p.cause;
}

-- a text was put behind what was passed on
pub put_behind : {O T E U F : Type 0} (tells : O → Bool) (taken : O → List ℕ) (faults : O → ℕ) (old middle new : O) (kept held left : List ℕ) (first : Result T E) (value : T) (second : Result U F) (text : List ℕ)
    → first ≡ Ok value → held ≡ [] → Gathers tells taken faults old middle kept held first [] → Gathers tells taken faults middle new [] left second text
    → Gathers tells taken faults old new kept left second text
put_behind tells taken faults old middle new kept held left first value second text ok none a b =
    gathers_join tells taken faults old middle new kept [] left (Ok value) second [] text refl
    (subst (λ (r : Result _ _). Gathers tells taken faults old middle kept [] r []) ok (subst (λ (l : List ℕ). Gathers tells taken faults old middle kept l first []) none a)) b
