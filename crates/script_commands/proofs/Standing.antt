-- Which answers of an event stand in the text that was taken.
use Rattle.std.proofs.Common.{◌≡◌, ◌⊎◌, inl, inr, ℕ, Bool, true, false, List, [], ◌∷◌, ◌++◌, arith, refl, sym, ap, subst, ◌∙◌, append-nil, append_assoc}
use Rattle.std.proofs.lemmas.Bool.{false≢true}
use Rattle.std.proofs.lemmas.Bool.Decides.{eqb_tells}
use Rattle.std.proofs.lemmas.Grind.{flat_map-append}
use Rattle.trace_replay.specs.requests.Requests.{Answer}
use Rattle.trace_replay.specs.Moments.{Moment, Told, End, answers_in}
use Rattle.driver_laws.specs.answers.Outcome.{IsFront}
use Rattle.driver_laws.proofs.answers.Joined.{front_of_front}
use Rattle.trace_lines.specs.answers.AnswerText.{said_text, out_text, answer_line, blocks_text}
use Rattle.script_commands.specs.SoFar.{Stands, StandIn}

-- A text is a front of another one or not.
tail_of : (x : ℕ) (xs ys : List ℕ) → x ∷ xs ≡ x ∷ ys → xs ≡ ys
tail_of x xs ys e = grind (arith, e)

no_longer : (x : ℕ) (xs : List ℕ) → [] ≡ x ∷ xs → ⊥
no_longer x xs e = grind (arith, e)

head_of : (x y : ℕ) (xs ys : List ℕ) → y ∷ ys ≡ x ∷ xs → x ≡ y
head_of x y xs ys e = grind (arith, e)

is_front : (xs ys : List ℕ) → IsFront xs ys ⊎ (IsFront xs ys → ⊥)
is_front [] ys = inl (record { rest = ys; whole = refl })
is_front (x ∷ xs) [] = inr (λ is. no_longer x (xs ++ is.rest) is.whole)
is_front (x ∷ xs) (y ∷ ys) = elim (eqb_tells x y) [
  | inl same ↦ by_rest same.1 (is_front xs ys)
  | inr other ↦ inr (λ is. other.1 (head_of x y (xs ++ is.rest) ys is.whole))
]
  where
    by_rest : x ≡ y → IsFront xs ys ⊎ (IsFront xs ys → ⊥) → IsFront (x ∷ xs) (y ∷ ys) ⊎ (IsFront (x ∷ xs) (y ∷ ys) → ⊥)
    by_rest same (inl is) = inl (record { rest = is.rest; whole = ap (λ (zs : List ℕ). y ∷ zs) is.whole ∙ ap (λ (z : ℕ). z ∷ (xs ++ is.rest)) (sym same) })
    by_rest same (inr none) = inr (λ is. none (record { rest = is.rest; whole = tail_of x ys (xs ++ is.rest) (ap (λ (z : ℕ). z ∷ ys) same ∙ is.whole) }))

-- A moment is an answer's or none.
abbrev is_end : Moment → Bool
is_end (Told line unit id (End answer)) = true
is_end moment = false

pub record IsEnd (m : Moment) : Type 0 where
  pub line : ℕ
  pub unit : ℕ
  pub id : ℕ
  pub answer : Answer
  pub is : m ≡ Told line unit id (End answer)

abbrev IsNoEnd : Moment → Type 0
IsNoEnd m = (line unit id : ℕ) (answer : Answer) → m ≡ Told line unit id (End answer) → ⊥

end_or_none : (m : Moment) → IsEnd m ⊎ IsNoEnd m
end_or_none (Told line unit id (End answer)) = inl (record { line = line; unit = unit; id = id; answer = answer; is = refl })
end_or_none other = inr (λ line unit id answer e. false≢true (ap is_end e))

-- LISTS that are cut at an answer
abbrev pub head_or : Moment → List Moment → Moment
head_or m [] = m
head_or m (n ∷ ns) = n

abbrev tail_or : List Moment → List Moment
tail_or [] = []
tail_or (m ∷ ms) = ms

-- the line of a moment, where it is an answer's, stands
abbrev StandsAs : (said said' : List ℕ) (done : List Moment) → Moment → Type 0
StandsAs said said' done (Told line unit id (End answer)) = Stands said said' done line id answer
StandsAs said said' done other = Unit {0}

-- a line that stands, stands in a longer text
stands_on : (said said' : List ℕ) (done more : List Moment) (line unit id other_line other_id : ℕ) (answer other : Answer)
    → Stands said said' (done ++ Told line unit id (End answer) ∷ more) other_line other_id other → Stands said said' done line id answer
stands_on said said' done more line unit id other_line other_id answer other stands =
    front_of_front (said ++ (out_text done ++ answer_line line id answer))
    (said ++ (out_text (done ++ Told line unit id (End answer) ∷ more) ++ answer_line other_line other_id other)) said'
    (record { rest = blocks_text answer ++ (out_text more ++ last); whole = whole }) stands
  where
    last : List ℕ
    last = answer_line other_line other_id other

    its : List ℕ
    its = answer_line line id answer

    whole : said ++ (out_text (done ++ Told line unit id (End answer) ∷ more) ++ last) ≡ (said ++ (out_text done ++ its)) ++ (blocks_text answer ++ (out_text more ++ last))
    whole =
        ap (λ (text : List ℕ). said ++ (text ++ last)) (flat_map-append said_text done (Told line unit id (End answer) ∷ more))
        ∙ parts said (out_text done) its (blocks_text answer) (out_text more) last
      where
        parts : (a b c d e f : List ℕ) → a ++ ((b ++ ((c ++ d) ++ e)) ++ f) ≡ (a ++ (b ++ c)) ++ (d ++ (e ++ f))
        parts a b c d e f = grind (arith, append_assoc)

-- where no answer is, none is found
nowhere : (before after : List Moment) (line unit id : ℕ) (answer : Answer) → [] ≡ before ++ Told line unit id (End answer) ∷ after → ⊥
nowhere [] after line unit id answer is = absurd (cc is)
nowhere (n ∷ ns) after line unit id answer is = absurd (cc is)

skipped : (m : Moment) (ms : List Moment) → IsNoEnd m → answers_in (m ∷ ms) ≡ answers_in ms
skipped (Told line unit id (End answer)) ms none = absurd (none line unit id answer refl)
skipped other ms none = refl

some_more : (m : Moment) (ms : List Moment) → IsEnd m ⊎ IsNoEnd m → (answers_in ms ≡ [] → ⊥) → answers_in (m ∷ ms) ≡ [] → ⊥
some_more m ms (inr none) some is = some (sym (skipped m ms none) ∙ is)
some_more m ms (inl end) some is = ended (ap (λ (z : Moment). answers_in (z ∷ ms)) (sym end.is) ∙ is)
  where
    ended : answers_in (Told end.line end.unit end.id (End end.answer) ∷ ms) ≡ [] → ⊥
    ended e = absurd (cc e)

some_answer : (before after : List Moment) (line unit id : ℕ) (answer : Answer) → answers_in (before ++ Told line unit id (End answer) ∷ after) ≡ [] → ⊥
some_answer [] after line unit id answer is = absurd (cc is)
some_answer (n ∷ before) after line unit id answer is =
    some_more n (before ++ Told line unit id (End answer) ∷ after) (end_or_none n) (some_answer before after line unit id answer) is

-- THE ANSWERS THAT STAND
pub record Found (said said' : List ℕ) (done under : List Moment) : Type 0 where
  pub front : List Moment
  pub rest : List Moment
  pub cut : under ≡ front ++ rest
  pub stand : StandIn said said' done front rest

module _ (said said' : List ℕ) where
  found_none : (done : List Moment) → Found said said' done []
  found_none done = record {
    front = [];
    rest = [];
    cut = refl;
    stand = record {
      each = λ line unit id answer before after is. absurd (nowhere before after line unit id answer is);
      no_more = λ line unit id answer before after is stands. absurd (nowhere before after line unit id answer is);
    };
  }

  module _ (done : List Moment) (m : Moment) (ms : List Moment) (f : Found said said' (done ++ m ∷ []) ms) where
    later : (before : List Moment) → (done ++ m ∷ []) ++ before ≡ done ++ m ∷ before
    later before = append_assoc done (m ∷ []) before

    -- with one more moment before them
    more_stand : ((line unit id : ℕ) (answer : Answer) → m ≡ Told line unit id (End answer) → Stands said said' done line id answer) → StandIn said said' done (m ∷ f.front) f.rest
    more_stand stands = record {
      each = λ line unit id answer before after is. each line unit id answer before after is;
      no_more = λ line unit id answer before after is stands. f.stand.no_more line unit id answer before after is
          (subst (λ (ns : List Moment). Stands said said' ns line id answer) (sym (later (f.front ++ before))) stands);
    }
      where
        each : (line unit id : ℕ) (answer : Answer) (before after : List Moment) → m ∷ f.front ≡ before ++ Told line unit id (End answer) ∷ after
            → Stands said said' (done ++ before) line id answer
        each line unit id answer [] after is =
            subst (λ (ns : List Moment). Stands said said' ns line id answer) (sym (append-nil done)) (stands line unit id answer (ap (head_or m) is))
        each line unit id answer (n ∷ before) after is =
            subst (λ (z : Moment). Stands said said' (done ++ z ∷ before) line id answer) (ap (head_or m) is)
            (subst (λ (ns : List Moment). Stands said said' ns line id answer) (later before) (f.stand.each line unit id answer before after (ap tail_or is)))

    found_more : ((line unit id : ℕ) (answer : Answer) → m ≡ Told line unit id (End answer) → Stands said said' done line id answer) → Found said said' done (m ∷ ms)
    found_more stands = record { front = m ∷ f.front; rest = f.rest; cut = ap (λ (ns : List Moment). m ∷ ns) f.cut; stand = more_stand stands }

    -- or none of them
    found_stop : (end : IsEnd m) → (Stands said said' done end.line end.id end.answer → ⊥) → Found said said' done (m ∷ ms)
    found_stop end none = record {
      front = [];
      rest = m ∷ ms;
      cut = refl;
      stand = record {
        each = λ line unit id answer before after is. absurd (nowhere before after line unit id answer is);
        no_more = λ line unit id answer before after is stands. no_more line unit id answer before after is stands;
      };
    }
      where
        at_once : (line unit id : ℕ) (answer : Answer) → m ≡ Told line unit id (End answer) → Stands said said' done line id answer → ⊥
        at_once line unit id answer is stands = none (same (sym end.is ∙ is) stands)
          where
            same : Told end.line end.unit end.id (End end.answer) ≡ Told line unit id (End answer) → Stands said said' done line id answer → Stands said said' done end.line end.id end.answer
            same e at = subst (StandsAs said said' done) (sym e) at

        no_more : (line unit id : ℕ) (answer : Answer) (before after : List Moment) → m ∷ ms ≡ before ++ Told line unit id (End answer) ∷ after
            → Stands said said' (done ++ before) line id answer → ⊥
        no_more line unit id answer [] after is stands =
            at_once line unit id answer (ap (head_or m) is) (subst (λ (ns : List Moment). Stands said said' ns line id answer) (append-nil done) stands)
        no_more line unit id answer (n ∷ before) after is stands =
            none (stands_on said said' done before end.line end.unit end.id line id end.answer answer
            (subst (λ (z : Moment). Stands said said' (done ++ z ∷ before) line id answer) (sym (ap (head_or m) is) ∙ end.is) stands))

    pub found_by : IsEnd m ⊎ IsNoEnd m → Found said said' done (m ∷ ms)
    found_by (inr none) = found_more (λ line unit id answer is. absurd (none line unit id answer is))
    found_by (inl end) = by (is_front (said ++ (out_text done ++ answer_line end.line end.id end.answer)) said')
      where
        by : Stands said said' done end.line end.id end.answer ⊎ (Stands said said' done end.line end.id end.answer → ⊥) → Found said said' done (m ∷ ms)
        by (inr none) = found_stop end none
        by (inl stands) = found_more (λ line unit id answer is. same (sym is ∙ end.is) stands)
          where
            same : {line unit id : ℕ} {answer : Answer} → Told line unit id (End answer) ≡ Told end.line end.unit end.id (End end.answer)
                → Stands said said' done end.line end.id end.answer → Stands said said' done line id answer
            same e at = subst (StandsAs said said' done) (sym e) at

  pub found : (done under : List Moment) → Found said said' done under
  found done [] = found_none done
  found done (m ∷ ms) = found_by done m ms (found (done ++ m ∷ []) ms) (end_or_none m)

  -- and behind moments of which none is an answer
  pub record FoundBehind (done move under : List Moment) : Type 0 where
    pub front : List Moment
    pub rest : List Moment
    pub cut : under ≡ front ++ rest
    pub stand : StandIn said said' done (move ++ front) rest

  pub found_behind : (done move under : List Moment) → answers_in move ≡ [] → FoundBehind done move under
  found_behind done [] under silent =
      let f : Found said said' done under = found done under in
      record { front = f.front; rest = f.rest; cut = f.cut; stand = f.stand }
  found_behind done (m ∷ ms) under silent =
      let f : FoundBehind (done ++ m ∷ []) ms under = found_behind (done ++ m ∷ []) ms under (silent_rest (end_or_none m)) in
      record {
        front = f.front;
        rest = f.rest;
        cut = f.cut;
        stand = more_stand done m (ms ++ under)
            (record { front = ms ++ f.front; rest = f.rest; cut = ap (λ (ns : List Moment). ms ++ ns) f.cut ∙ sym (append_assoc ms f.front f.rest); stand = f.stand })
            (λ line unit id answer is. absurd (some_answer [] ms line unit id answer (ap (λ (z : Moment). answers_in (z ∷ ms)) (sym is) ∙ silent)));
      }
    where
      silent_rest : IsEnd m ⊎ IsNoEnd m → answers_in ms ≡ []
      silent_rest (inr none) = sym (skipped m ms none) ∙ silent
      silent_rest (inl end) = absurd (some_answer [] ms end.line end.unit end.id end.answer (ap (λ (z : Moment). answers_in (z ∷ ms)) (sym end.is) ∙ silent))
