-- No id is asked for twice, so the line that submits a request is the only one with its id.
use Rattle.std.proofs.Common.{◌≡◌, inl, inr, ◌⊎◌, ℕ, ◌≤◌, ◌+◌, ◌==◌, false, List, [], ◌∷◌, ◌++◌, refl, sym, ap, ◌∙◌, subst, arith, rules}
use Rattle.std.specs.Prelude.{if◌then◌else◌}
use Rattle.std.specs.List.{list_any}
use Rattle.std.proofs.lemmas.Bool.Decides.{eqb_tells}
use Rattle.std.proofs.lemmas.Bool.{eq-eqb, or_parts}
use Rattle.trace_replay.specs.requests.Requests.{Request}
use Rattle.trace_replay.specs.Script.{Input, Submit, AreApart}
use Rattle.trace_replay.specs.Moments.{Moment, Played, Told, Idle, played}
use Rattle.driver_laws.specs.rules.Grounds.{WasPlayed, Submits}
use Rattle.driver_laws.proofs.rules.IdsAsked.{ids_asked, with_asked}

-- ---- how often moments ask for an id
pub asks : ℕ → Input → ℕ
asks id (Submit r) = if r.id == id then 1 else 0
asks id input = 0

pub times : ℕ → List Moment → ℕ
times id [] = 0
times id (Played line input ∷ ms) = asks id input + times id ms
times id (m ∷ ms) = times id ms

-- an input asks for an id, or for none
record AsksNone (input : Input) : Type 0 where
  none : (id : ℕ) → asks id input ≡ 0
  same : (ids : List ℕ) → with_asked input ids ≡ ids

record IsSubmit (input : Input) : Type 0 where
  request : Request
  is : input ≡ Submit request

sort : (input : Input) → IsSubmit input ⊎ AsksNone input
unfolding asks
sort (Submit r) = inl (record { request = r; is = refl })
sort other = inr (record { none = λ id. refl; same = λ ids. refl })

-- ---- ids that stand apart are asked for once at most

nothing : (n : ℕ) → n ≡ 0 → 0 + n ≡ 0
nothing n e = omega (arith, e)

not_in : (id : ℕ) (ms : List Moment) → list_any (λ other. other == id) (ids_asked (played ms)) ≡ false → times id ms ≡ 0
unfolding asks times
not_in id [] none = refl
not_in id (Told line unit i deed ∷ ms) none = not_in id ms none
not_in id (Idle line ∷ ms) none = not_in id ms none
not_in id (Played line input ∷ ms) none = at (not_in id ms) (sort input)
  where
    at : (list_any (λ other. other == id) (ids_asked (played ms)) ≡ false → times id ms ≡ 0) → IsSubmit input ⊎ AsksNone input → asks id input + times id ms ≡ 0
    at before (inl s) = subst (λ z. asks id z + times id ms ≡ 0) (sym s.is) (rw both.0 (nothing (times id ms) (before both.1)))
      where
        both : (s.request.id == id ≡ false) × (list_any (λ other. other == id) (ids_asked (played ms)) ≡ false)
        both = or_parts (s.request.id == id) (list_any (λ other. other == id) (ids_asked (played ms))) (subst (λ z. list_any (λ other. other == id) (with_asked z (ids_asked (played ms))) ≡ false) s.is none)
    at before (inr quiet) = ap (λ z. z + times id ms) (quiet.none id) ∙ nothing (times id ms) (before (subst (λ z. list_any (λ other. other == id) z ≡ false) (quiet.same (ids_asked (played ms))) none))

zero_more : (n : ℕ) → n ≤ 1 → 0 + n ≤ 1
zero_more n e = omega (arith, e)

pub once_at_most : (id : ℕ) (ms : List Moment) → AreApart (ids_asked (played ms)) → times id ms ≤ 1
unfolding asks times
once_at_most id [] apart = omega arith
once_at_most id (Told line unit i deed ∷ ms) apart = once_at_most id ms apart
once_at_most id (Idle line ∷ ms) apart = once_at_most id ms apart
once_at_most id (Played line input ∷ ms) apart = at (once_at_most id ms) (sort input)
  where
    at : (AreApart (ids_asked (played ms)) → times id ms ≤ 1) → IsSubmit input ⊎ AsksNone input → asks id input + times id ms ≤ 1
    at before (inl s) = subst (λ z. asks id z + times id ms ≤ 1) (sym s.is) (elim (eqb_tells s.request.id id) [
      | inl same ↦ rw same.0 (small (times id ms) (not_in id ms (subst (λ z. list_any (λ other. other == z) (ids_asked (played ms)) ≡ false) same.1 both.0)))
      | inr other ↦ rw other.0 (zero_more (times id ms) (before both.1))
    ])
      where
        both : (list_any (λ other. other == s.request.id) (ids_asked (played ms)) ≡ false) × AreApart (ids_asked (played ms))
        both = subst (λ z. AreApart (with_asked z (ids_asked (played ms)))) s.is apart

        small : (n : ℕ) → n ≡ 0 → 1 + n ≤ 1
        small n none = omega (arith, none)
    at before (inr quiet) = subst (λ z. z + times id ms ≤ 1) (sym (quiet.none id)) (zero_more (times id ms) (before (subst AreApart (quiet.same (ids_asked (played ms))) apart)))

-- ---- in two parts
pub times_join : (id : ℕ) (ms ns : List Moment) → times id (ms ++ ns) ≡ times id ms + times id ns
unfolding times
times_join id [] ns = search rules
times_join id (Told line unit i deed ∷ ms) ns = times_join id ms ns
times_join id (Idle line ∷ ms) ns = times_join id ms ns
times_join id (Played line input ∷ ms) ns = sums (asks id input) (times id (ms ++ ns)) (times id ms) (times id ns) (times_join id ms ns)
  where
    sums : (a b c d : ℕ) → b ≡ c + d → a + b ≡ a + c + d
    sums a b c d e = omega (arith, e)

asks_own : (r : Request) → asks r.id (Submit r) ≡ 1
unfolding asks
asks_own r = rw (eq-eqb r.id r.id refl) refl

asks_of : (r : Request) (input : Input) → input ≡ Submit r → asks r.id input ≡ 1
asks_of r input is = ap (asks r.id) is ∙ asks_own r

-- ---- a request that was submitted is asked for
pub asked_once : (r : Request) (ms : List Moment) → WasPlayed (Submits r) ms → 1 ≤ times r.id ms
unfolding times
asked_once r [] was = absurd was
asked_once r (Told line unit i deed ∷ ms) was = asked_once r ms was
asked_once r (Idle line ∷ ms) was = asked_once r ms was
asked_once r (Played line input ∷ ms) (inl is) = one (asks r.id input) (times r.id ms) (asks_of r input is)
  where
    one : (a b : ℕ) → a ≡ 1 → 1 ≤ a + b
    one a b e = omega (arith, e)
asked_once r (Played line input ∷ ms) (inr was) = more (asks r.id input) (times r.id ms) (asked_once r ms was)
  where
    more : (a b : ℕ) → 1 ≤ b → 1 ≤ a + b
    more a b e = omega (arith, e)

-- and only one has its id
pub one_request : (r q : Request) (ms : List Moment) → WasPlayed (Submits r) ms → WasPlayed (Submits q) ms → r.id ≡ q.id → times r.id ms ≤ 1 → r ≡ q
unfolding times
one_request r q [] was wasq same few = absurd was
one_request r q (Told line unit i deed ∷ ms) was wasq same few = one_request r q ms was wasq same few
one_request r q (Idle line ∷ ms) was wasq same few = one_request r q ms was wasq same few
one_request r q (Played line input ∷ ms) (inl is) (inl isq) same few = cc
one_request r q (Played line input ∷ ms) (inl is) (inr wasq) same few = absurd (two (asks r.id input) (times r.id ms) (asks_of r input is) (subst (λ z. 1 ≤ times z ms) (sym same) (asked_once q ms wasq)) few)
  where
    two : (a b : ℕ) → a ≡ 1 → 1 ≤ b → a + b ≤ 1 → ⊥
    two a b e f g = omega (arith, e, f, g)
one_request r q (Played line input ∷ ms) (inr was) (inl isq) same few =
    absurd (two (asks r.id input) (times r.id ms) (ap (λ z. asks z input) same ∙ asks_of q input isq) (asked_once r ms was) few)
  where
    two : (a b : ℕ) → a ≡ 1 → 1 ≤ b → a + b ≤ 1 → ⊥
    two a b e f g = omega (arith, e, f, g)
one_request r q (Played line input ∷ ms) (inr was) (inr wasq) same few = one_request r q ms was wasq same (less (asks r.id input) (times r.id ms) few)
  where
    less : (a b : ℕ) → a + b ≤ 1 → b ≤ 1
    less a b g = omega (arith, g)

pub played_here : (r : Request) (line : ℕ) (ahead more : List Moment) → WasPlayed (Submits r) (ahead ++ Played line (Submit r) ∷ more)
played_here r line [] more = inl refl
played_here r line (Played l input ∷ ahead) more = inr (played_here r line ahead more)
played_here r line (Told l unit i deed ∷ ahead) more = played_here r line ahead more
played_here r line (Idle l ∷ ahead) more = played_here r line ahead more
