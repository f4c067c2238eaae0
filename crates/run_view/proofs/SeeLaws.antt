-- What is played is seen place by place, and a trace line by line.
use Rattle.std.proofs.Common.{◌≡◌, ℕ, suc, ◌+◌, ◌<◌, ◌≤◌, Bool, true, false, cond, List, [], ◌∷◌, ◌++◌, length, map, drop, get_or, fold, arith, refl, sym, ap, ◌∙◌, append_assoc, append-nil, subst, drop-cons}
use Rattle.std.specs.List.{All}
use Rattle.std.proofs.lemmas.List.{get_or-map, length-map}
use Rattle.std.proofs.lemmas.List.Sums.{fold-append}
use Rattle.std.proofs.Math.ListN.{drop_of_length-le}
use Rattle.trace_reader.specs.declared.line.TraceLine.{TraceLine}
use Rattle.trace_reader.specs.Lines.{line_number}
use Rattle.run_view.specs.declared.seen.Seen.{Seen}
use Rattle.run_view.specs.Saids.{Said, said_of, IsHeardAt}
use Rattle.run_view.specs.Runs.{is_up_to, up_to, beyond, told_of, run_of}

-- FROM A PLACE ON
pub front : {A : Type 0} (xs : List A) (i : ℕ) (d : A) → i < length xs → drop i xs ≡ get_or xs i d ∷ drop (i + 1) xs
front xs i d inside =
    let same : suc i ≡ i + 1 = omega arith in
    subst (λ (k : ℕ). drop i xs ≡ get_or xs i d ∷ drop k xs) same (drop-cons xs i d inside)

pub none_left : {A : Type 0} (xs : List A) (i : ℕ) → length xs ≤ i → drop i xs ≡ []
none_left xs i beyond_all = drop_of_length-le xs beyond_all

-- one more is played up to a number
up_to_cons : (n : ℕ) (x : Said) (xs : List Said) (b : Bool) → is_up_to n x ≡ b → up_to n (x ∷ xs) ≡ cond b (x ∷ up_to n xs) []
up_to_cons n x xs b e = ap (λ (b : Bool). cond b (x ∷ up_to n xs) []) e

beyond_cons : (n : ℕ) (x : Said) (xs : List Said) (b : Bool) → is_up_to n x ≡ b → beyond n (x ∷ xs) ≡ cond b (beyond n xs) (x ∷ xs)
beyond_cons n x xs b e = ap (λ (b : Bool). cond b (beyond n xs) (x ∷ xs)) e

pub up_to_more : (n : ℕ) (plays : List Said) (i : ℕ) (x : Said) → i < length plays → get_or plays i x ≡ x → is_up_to n x ≡ true
    → up_to n (drop i plays) ≡ x ∷ up_to n (drop (i + 1) plays)
up_to_more n plays i x inside here e =
    ap (up_to n) (front plays i x inside) ∙ ap (λ (y : Said). up_to n (y ∷ drop (i + 1) plays)) here ∙ up_to_cons n x (drop (i + 1) plays) true e

pub beyond_more : (n : ℕ) (plays : List Said) (i : ℕ) (x : Said) → i < length plays → get_or plays i x ≡ x → is_up_to n x ≡ true
    → beyond n (drop i plays) ≡ beyond n (drop (i + 1) plays)
beyond_more n plays i x inside here e =
    ap (beyond n) (front plays i x inside) ∙ ap (λ (y : Said). beyond n (y ∷ drop (i + 1) plays)) here ∙ beyond_cons n x (drop (i + 1) plays) true e

pub up_to_stops : (n : ℕ) (plays : List Said) (i : ℕ) (x : Said) → i < length plays → get_or plays i x ≡ x → is_up_to n x ≡ false → up_to n (drop i plays) ≡ []
up_to_stops n plays i x inside here e =
    ap (up_to n) (front plays i x inside) ∙ ap (λ (y : Said). up_to n (y ∷ drop (i + 1) plays)) here ∙ up_to_cons n x (drop (i + 1) plays) false e

pub beyond_stops : (n : ℕ) (plays : List Said) (i : ℕ) (x : Said) → i < length plays → get_or plays i x ≡ x → is_up_to n x ≡ false → beyond n (drop i plays) ≡ drop i plays
beyond_stops n plays i x inside here e =
    let split : drop i plays ≡ x ∷ drop (i + 1) plays = front plays i x inside ∙ ap (λ (y : Said). y ∷ drop (i + 1) plays) here in
    ap (beyond n) split ∙ beyond_cons n x (drop (i + 1) plays) false e ∙ sym split

-- WHOEVER WATCHES has seen what is played up to a place
pub saw_more : {W : Type 0} (step : W → Said → W) (n : ℕ) (plays : List Said) (i : ℕ) (x : Said) (w w' whole : W) → i < length plays → get_or plays i x ≡ x → is_up_to n x ≡ true → w' ≡ step w x
    → fold step w (up_to n (drop i plays)) ≡ whole → fold step w' (up_to n (drop (i + 1) plays)) ≡ whole
saw_more step n plays i x w w' whole inside here e is so_far =
    ap (λ (v : _). fold step v (up_to n (drop (i + 1) plays))) is ∙ sym (ap (fold step w) (up_to_more n plays i x inside here e)) ∙ so_far

pub saw_rest_more : {W : Type 0} (step : W → Said → W) (plays : List Said) (i : ℕ) (x : Said) (w w' whole : W) → i < length plays → get_or plays i x ≡ x → w' ≡ step w x
    → fold step w (drop i plays) ≡ whole → fold step w' (drop (i + 1) plays) ≡ whole
saw_rest_more step plays i x w w' whole inside here is so_far =
    ap (λ (v : _). fold step v (drop (i + 1) plays)) is
    ∙ sym (ap (fold step w) (front plays i x inside ∙ ap (λ (y : Said). y ∷ drop (i + 1) plays) here)) ∙ so_far

-- A LINE OF THE TRACE MORE. So far these lines were read, and with whatever lines are to come the run is seen from here on.
pub record SawSo {W : Type 0} (step : W → Said → W) (old new : W) (plays left : List Said) (lines : List TraceLine) : Type 0 where
  pub goes : (more : List TraceLine) → fold step old (run_of plays (lines ++ more)) ≡ fold step new (run_of left more)

pub saw_none : {W : Type 0} (step : W → Said → W) (old : W) (plays : List Said) → SawSo step old old plays plays []
saw_none step old plays = record { goes = λ more. refl }

pub saw_line : {W : Type 0} (step : W → Said → W) (old w w' : W) (plays left left' : List Said) (lines : List TraceLine) (line : TraceLine) → SawSo step old w plays left lines
    → w' ≡ step (fold step w (up_to (line_number line) left)) (told_of line) → left' ≡ beyond (line_number line) left → SawSo step old w' plays left' (lines ++ line ∷ [])
saw_line step old w w' plays left left' lines line so is beyond_is = record {
  goes = λ more.
      ap (λ (ls : List TraceLine). fold step old (run_of plays ls)) (append_assoc lines (line ∷ []) more)
      ∙ so.goes (line ∷ more)
      ∙ fold-append step w (up_to (line_number line) left) (told_of line ∷ run_of (beyond (line_number line) left) more)
      ∙ ap (λ (v : _). fold step v (run_of (beyond (line_number line) left) more)) (sym is)
      ∙ ap (λ (ps : List Said). fold step w' (run_of ps more)) (sym beyond_is);
}

pub saw_all : {W : Type 0} (step : W → Said → W) (old w w' : W) (plays left : List Said) (lines : List TraceLine) → SawSo step old w plays left lines → w' ≡ fold step w left
    → w' ≡ fold step old (run_of plays lines)
saw_all step old w w' plays left lines so is =
    is ∙ sym (so.goes []) ∙ ap (λ (ls : List TraceLine). fold step old (run_of plays ls)) (append-nil lines)

-- WHAT IS PLAYED AT A PLACE
pub inside_all : (plays : List Seen) (i : ℕ) → i < length plays → i < length (map said_of plays)
inside_all plays i inside = subst (λ (n : ℕ). i < n) (sym (length-map plays said_of)) inside

pub said_here : (plays : List Seen) (i : ℕ) (d : Seen) → i < length plays → get_or (map said_of plays) i (said_of (get_or plays i d)) ≡ said_of (get_or plays i d)
said_here plays i d inside = get_or-map said_of plays i d (said_of (get_or plays i d)) inside

pub heard_here : (plays : List Seen) (i : ℕ) (d : Seen) → All IsHeardAt (map said_of plays) → i < length plays → IsHeardAt (said_of (get_or plays i d))
heard_here plays i d heard inside =
    subst IsHeardAt (said_here plays i d inside) (heard i (said_of (get_or plays i d)) (inside_all plays i inside))
