-- Texts that are said one behind the other.
use Rattle.std.proofs.Common.{◌≡◌, ◌⊎◌, inl, inr, ℕ, ◌≤◌, IsTrue, List, [], ◌∷◌, ◌++◌, arith, refl, sym, ap, subst, ◌∙◌, append-nil, append_assoc}
use Rattle.std.specs.Prelude.{Result, Ok, Err, OnOk, OnErr, IsErr}
use Rattle.std.proofs.lemmas.List.{append_cancel_left}
use Rattle.outside_traits.specs.Causes.{Rose}
use Rattle.outside_traits.specs.declared.traits.SinkFailed.{SinkFailed}
use Rattle.outside_traits.proofs.GatherLaws.{rose_more}
use Rattle.driver_laws.specs.answers.Outcome.{IsFront}
use Rattle.driver_laws.proofs.answers.Joined.{front_same, front_more, front_of_front}
use Rattle.script_runs.specs.Ahead.{IsBetween}
use Rattle.std.proofs.lemmas.Result.{IfOk-from_err, on_ok_weaker}
use Rattle.trace_replay.specs.Moments.{Answered}
use Rattle.trace_lines.specs.answers.Counting.{Counts}
use Rattle.trace_lines.specs.declared.answers.tally.Tally.{Tally}
use Rattle.trace_lines.proofs.answers.CountLaws.{counts_none, counts_both, counts_same}
use Rattle.event_player.specs.Saying.{Side, Says}
use Rattle.event_player.specs.Spots.{Spot, SaysText}

-- NOTHING is said, where nothing waits,
pub says_nothing : {E : Type 0} (out lines : Side) → Says {T = Unit {0}} {E = E} out out lines lines (Ok tt) []
says_nothing out lines = record {
  again = λ t. t;
  again_lines = λ t. t;
  front = λ t. record { least = front_same out.took; most = front_more out.took (out.kept ++ []) };
  front_lines = λ t. record { least = front_same lines.took; most = front_more lines.took lines.kept };
  whole = λ t. ap (λ (text : List ℕ). out.took ++ text) (sym (append-nil out.kept));
  whole_lines = λ t. refl;
  lines_first = inl (λ t. refl);
  later = least out.faults;
  later_lines = least lines.faults;
  failed = tt;
}
  where
    least : (n : ℕ) → n ≤ n
    least n = omega arith

-- the same text by another name
pub says_same : {T E : Type 0} {out out' lines lines' : Side} {result : Result T E} {text : List ℕ} (other : List ℕ) → Says out out' lines lines' result text → text ≡ other
    → Says out out' lines lines' result other
says_same {T} {E} {out} {out'} {lines} {lines'} {result} other says e = subst (λ (t : List ℕ). Says out out' lines lines' result t) e says

-- two texts, each a front of the other
front_both : (xs ys : List ℕ) → IsFront xs ys → IsFront ys xs → ys ≡ xs
front_both xs ys up down =
    up.whole ∙ ap (λ (l : List ℕ). xs ++ l) (empty up.rest down.rest (append_cancel_left xs (up.rest ++ down.rest) []
    (sym (append_assoc xs up.rest down.rest) ∙ ap (λ (l : List ℕ). l ++ down.rest) (sym up.whole) ∙ sym down.whole ∙ sym (append-nil xs)))) ∙ append-nil xs
  where
    empty : (a b : List ℕ) → a ++ b ≡ [] → a ≡ []
    empty [] b is = refl
    empty (x ∷ a) b is = absurd (cc is)

most : (a b c : ℕ) → a ≤ b → b ≤ c → a ≤ c
most a b c first next = omega (arith, first, next)

module _ {A E : Type 0} (out mid out' lines mid_lines lines' : Side) (x y : List ℕ) (result : Result A E) (a : Says {T = Unit {0}} {E = SinkFailed} out mid lines mid_lines (Ok tt) x) (b : Says mid out' mid_lines lines' result y) where
  said_both : IsTrue mid.tells → mid.took ++ (mid.kept ++ y) ≡ out.took ++ (out.kept ++ (x ++ y))
  said_both t =
      sym (append_assoc mid.took mid.kept y) ∙ ap (λ (l : List ℕ). l ++ y) (a.whole t) ∙ append_assoc out.took (out.kept ++ x) y
      ∙ ap (λ (l : List ℕ). out.took ++ l) (append_assoc out.kept x y)

  lines_both : IsTrue lines'.tells → IsBetween lines.took (lines.took ++ lines.kept) lines'.took
  lines_both t = record {
    least = front_of_front lines.took mid_lines.took lines'.took (a.front_lines (b.again_lines t)).least (b.front_lines t).least;
    most = subst (IsFront lines'.took) (a.whole_lines (b.again_lines t)) (b.front_lines t).most;
  }

  first_both : (IsTrue mid.tells → mid.took ≡ out.took) ⊎ (IsTrue mid_lines.tells → mid_lines.took ≡ lines.took ++ lines.kept)
      → (IsTrue out'.tells → out'.took ≡ mid.took) ⊎ (IsTrue lines'.tells → lines'.took ≡ mid_lines.took ++ mid_lines.kept)
      → (IsTrue out'.tells → out'.took ≡ out.took) ⊎ (IsTrue lines'.tells → lines'.took ≡ lines.took ++ lines.kept)
  first_both first (inr whole) = inr (λ t. whole t ∙ a.whole_lines (b.again_lines t))
  first_both (inl none) (inl same) = inl (λ t. same t ∙ none (b.again t))
  first_both (inr whole) (inl same) = inr (λ t.
      front_both (lines.took ++ lines.kept) lines'.took (subst (λ (l : List ℕ). IsFront l lines'.took) (whole (b.again_lines t)) (b.front_lines t).least) (lines_both t).most)

  rose_both : OnErr result (Rose mid.faults out'.faults ⊎ Rose mid_lines.faults lines'.faults) → OnErr result (Rose out.faults out'.faults ⊎ Rose lines.faults lines'.faults)
  rose_both rose = at result rose
    where
      by : Rose mid.faults out'.faults ⊎ Rose mid_lines.faults lines'.faults → Rose out.faults out'.faults ⊎ Rose lines.faults lines'.faults
      by (inl r) = inl (rose_more out.faults mid.faults out'.faults a.later r)
      by (inr r) = inr (rose_more lines.faults mid_lines.faults lines'.faults a.later_lines r)

      at : (r : Result A E) → OnErr r (Rose mid.faults out'.faults ⊎ Rose mid_lines.faults lines'.faults) → OnErr r (Rose out.faults out'.faults ⊎ Rose lines.faults lines'.faults)
      at (Ok v) rose = tt
      at (Err e) rose = by rose

  whole_both : OnOk result (IsTrue out'.tells → out'.took ++ out'.kept ≡ mid.took ++ (mid.kept ++ y)) → OnOk result (IsTrue out'.tells → out'.took ++ out'.kept ≡ out.took ++ (out.kept ++ (x ++ y)))
  whole_both whole = at result whole
    where
      at : (r : Result A E) → OnOk r (IsTrue out'.tells → out'.took ++ out'.kept ≡ mid.took ++ (mid.kept ++ y)) → OnOk r (IsTrue out'.tells → out'.took ++ out'.kept ≡ out.took ++ (out.kept ++ (x ++ y)))
      at (Ok v) whole = λ t. whole t ∙ said_both (b.again t)
      at (Err e) whole = tt

  whole_lines_both : OnOk result (IsTrue lines'.tells → lines'.took ++ lines'.kept ≡ mid_lines.took ++ mid_lines.kept) → OnOk result (IsTrue lines'.tells → lines'.took ++ lines'.kept ≡ lines.took ++ lines.kept)
  whole_lines_both whole = at result whole
    where
      at : (r : Result A E) → OnOk r (IsTrue lines'.tells → lines'.took ++ lines'.kept ≡ mid_lines.took ++ mid_lines.kept) → OnOk r (IsTrue lines'.tells → lines'.took ++ lines'.kept ≡ lines.took ++ lines.kept)
      at (Ok v) whole = λ t. whole t ∙ a.whole_lines (b.again_lines t)
      at (Err e) whole = tt

  -- TWO TEXTS, the first of which was said
  pub says_both : Says out out' lines lines' result (x ++ y)
  says_both = record {
    again = λ t. a.again (b.again t);
    again_lines = λ t. a.again_lines (b.again_lines t);
    front = λ t. record {
      least = front_of_front out.took mid.took out'.took (a.front (b.again t)).least (b.front t).least;
      most = subst (IsFront out'.took) (said_both (b.again t)) (b.front t).most;
    };
    front_lines = lines_both;
    whole = whole_both b.whole;
    whole_lines = whole_lines_both b.whole_lines;
    lines_first = first_both a.lines_first b.lines_first;
    later = most out.faults mid.faults out'.faults a.later b.later;
    later_lines = most lines.faults mid_lines.faults lines'.faults a.later_lines b.later_lines;
    failed = rose_both b.failed;
  }

-- WHERE A TEXT WAS NOT SAID, what is to come behind it makes no difference.
pub says_stop : {A B E F : Type 0} {out out' lines lines' : Side} {failed : F} {x : List ℕ} (y : List ℕ) (result : Result A E) → IsErr result
    → Says {T = B} out out' lines lines' (Err failed) x → Says out out' lines lines' result (x ++ y)
says_stop {out = out} {out' = out'} {x = x} y (Ok v) e says = let no_way : ⊥ = cc in absurd no_way
says_stop {out = out} {out' = out'} {x = x} y (Err other) e says = record {
  again = says.again;
  again_lines = says.again_lines;
  front = λ t. record {
    least = (says.front t).least;
    most = front_of_front out'.took (out.took ++ (out.kept ++ x)) (out.took ++ (out.kept ++ (x ++ y))) (says.front t).most
        (record { rest = y; whole = ap (λ (l : List ℕ). out.took ++ l) (sym (append_assoc out.kept x y)) ∙ sym (append_assoc out.took (out.kept ++ x) y) });
  };
  front_lines = says.front_lines;
  whole = tt;
  whole_lines = tt;
  lines_first = says.lines_first;
  later = says.later;
  later_lines = says.later_lines;
  failed = says.failed;
}

-- ---- TEXTS THAT ARE COUNTED, where they are said
pub text_nothing : {E : Type 0} (s : Spot) → SaysText {T = Unit {0}} {E = E} [] [] (Ok tt) s s
text_nothing s = record { says = says_nothing s.out s.lines; counts = counts_none s.tally s.tally refl; requests = refl; same = refl }

pub text_same : {T E : Type 0} {a : List Answered} {x : List ℕ} {result : Result T E} {old new : Spot} (y : List ℕ) → SaysText a x result old new → x ≡ y → SaysText a y result old new
text_same {T} {E} {a} {x} {result} {old} {new} y said is = subst (λ z. SaysText a z result old new) is said

pub text_both : {T E : Type 0} {a b : List Answered} {x y : List ℕ} {old mid new : Spot} (result : Result T E) → SaysText {T = Unit {0}} {E = SinkFailed} a x (Ok tt) old mid → SaysText b y result mid new
    → SaysText (a ++ b) (x ++ y) result old new
text_both {T} {E} {a} {b} {x} {y} {old} {mid} {new} result first next = record {
  says = says_both old.out mid.out new.out old.lines mid.lines new.lines x y result first.says next.says;
  counts = on_ok_weaker result (λ counts. counts_both old.tally mid.tally new.tally a b x y first.counts counts) next.counts;
  requests = next.requests ∙ first.requests;
  same = next.same ∙ ap (λ (s : Spot). record s { driver = new.driver; out = new.out; lines = new.lines; tally = new.tally }) first.same;
}

-- where one was not said, what is to come behind it makes no difference
pub text_stop : {A B E F : Type 0} {a : List Answered} {x : List ℕ} {old new : Spot} {failed : F} (b : List Answered) (y : List ℕ) (result : Result A E) → IsErr result → SaysText {T = B} a x (Err failed) old new
    → SaysText b (x ++ y) result old new
text_stop {a = a} {x = x} {old = old} {new = new} b y result err said = record {
  says = says_stop y result err said.says;
  counts = IfOk-from_err result (λ _. Counts b (x ++ y) old.tally new.tally) err;
  requests = said.requests;
  same = said.same;
}

-- ---- WHAT THE DESK COUNTS AND SAYS
pub on_ok : {T E : Type 0} (P : Type 0) (result : Result T E) → P → OnOk result P
on_ok P (Ok x) p = p
on_ok P (Err e) p = tt

pub on_err : {T E : Type 0} (P : Type 0) (result : Result T E) → P → OnErr result P
on_err P (Ok x) p = tt
on_err P (Err e) p = p

pub text_at : {T E : Type 0} {x : List ℕ} {old new : Spot} (y : List ℕ) (result : Result T E) → Says old.out new.out old.lines new.lines result x → Counts [] x old.tally new.tally
    → new.tally.requests ≡ old.tally.requests → new ≡ record old { driver = new.driver; out = new.out; lines = new.lines; tally = new.tally } → x ≡ y → SaysText [] y result old new
text_at {x = x} {old = old} {new = new} y result says counts requests same is = record {
  says = says_same y says is;
  counts = on_ok (Counts [] y old.tally new.tally) result (counts_same old.tally new.tally [] [] x y counts refl is);
  requests = requests;
  same = same;
}

-- and of an answer that was counted before its line is said
pub text_counted : {T E : Type 0} {answer : Answered} {x : List ℕ} {result : Result T E} {old new : Spot} {tally : Tally} → Counts (answer ∷ []) [] old.tally tally → tally.requests ≡ old.tally.requests
    → SaysText [] x result (record old { tally = tally }) new → SaysText (answer ∷ []) x result old new
text_counted {answer = answer} {x = x} {result = result} {old = old} {new = new} {tally = tally} itself same said = record {
  says = said.says;
  counts = on_ok_weaker result (λ counts. counts_both old.tally tally new.tally (answer ∷ []) [] [] x itself counts) said.counts;
  requests = said.requests ∙ same;
  same = said.same;
}
