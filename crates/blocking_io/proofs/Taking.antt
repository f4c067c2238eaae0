-- Each answer that waits is given and taken.
use Rattle.std.proofs.Common.{◌≡◌, ℕ, ◌<◌, List, [], ◌∷◌, length, map, drop, sym, ap, subst, arith, ◌∙◌, refl, Option, None, Some}
use Rattle.std.specs.Prelude.{IfSome}
use Rattle.trace_replay.specs.Moments.{Answered}
use Rattle.trace_replay.specs.declared.requests.answers.Answer.{Answer}
use Rattle.trace_replay.specs.declared.requests.answers.AnswerKind.{AnswerKind}
use Rattle.driver_machine.specs.declared.Made.{Made}
use Rattle.driver_machine.specs.World.{World}
use Rattle.driver_machine.specs.Acts.{Taken, after, after_all}
use Rattle.driver_machine.specs.Lines.{answer_told}
use Rattle.driver_machine.specs.Sound.{Sound}
use Rattle.driver_laws.specs.answers.Waiting.{told_by, waiting, takings, all_taken, TakingDrops}
use Rattle.driver_laws.proofs.answers.Taking.{some_first, nothing_taken}
use Rattle.hp_driver.specs.Subsystem.{State, IsOldest}
use Rattle.blocking_io.specs.declared.reached.Reached.{Reached}
use Rattle.blocking_io.specs.Given.{Given, gives_all, reached_by, bytes_by}
use Rattle.blocking_io.specs.Taking.{blocks_of, oldest_blocks, IsOldestKind}

pub one_taken : (w : World) (made : Made) → IsOldest w made → all_taken w ≡ all_taken (after w Taken)
one_taken w made oldest = ap (λ (xs : List Made). after_all w (takings xs)) oldest.first

-- THE OLDEST ANSWER is the first of those that wait.
waiting_is : (w : World) (made : Made) → IsOldest w made → waiting w ≡ told_by w made ∷ map (told_by w) (drop 1 w.answers)
waiting_is w made oldest = ap (λ (xs : List Made). map (told_by w) xs) oldest.first

first_of : (xs ys : List Answered) (a : Answered) (rest : List Answered) → xs ≡ a ∷ rest → ys ≡ drop 1 xs → ys ≡ rest
first_of xs ys a rest is same = same ∙ ap (λ (zs : List Answered). drop 1 zs) is

told_is : (w : World) (made : Made) → IsOldest w made → (told_by w made).answer ≡ answer_told made.answer.kind (oldest_blocks w)
told_is w made oldest = ap (answer_told made.answer.kind) (sym (ap (blocks_of w) oldest.first))

-- and it is given before the others.
pub gives_first : (w : World) (made : Made) (g : Given) → TakingDrops → Sound w → IsOldest w made
    → gives_all (waiting w) g ≡ gives_all (waiting (after w Taken))
    (record { reached = reached_by (answer_told made.answer.kind (oldest_blocks w)); bytes = bytes_by (answer_told made.answer.kind (oldest_blocks w)) g.bytes })
gives_first w made g drops sound oldest =
    let rest : List Answered = map (told_by w) (drop 1 w.answers) in
    let later : waiting (after w Taken) ≡ rest =
    first_of (waiting w) (waiting (after w Taken)) (told_by w made) rest (waiting_is w made oldest) (drops w sound (some_first w.answers made (drop 1 w.answers) oldest.first)) in
    ap (λ (xs : List Answered). gives_all xs g) (waiting_is w made oldest)
    ∙ ap (λ (a : _). gives_all rest (record { reached = reached_by a; bytes = bytes_by a g.bytes })) (told_is w made oldest)
    ∙ ap (λ (xs : List Answered). gives_all xs
    (record { reached = reached_by (answer_told made.answer.kind (oldest_blocks w)); bytes = bytes_by (answer_told made.answer.kind (oldest_blocks w)) g.bytes })) (sym later)

-- ---- SO FAR: what is still to be given and taken comes to what was to be.
pub record SoTaken (old now : State) (first given : Given) : Type 0 where
  pub state : now ≡ record old { world = now.world }
  pub taken : all_taken now.world ≡ all_taken old.world
  pub given_all : gives_all (waiting now.world) given ≡ gives_all (waiting old.world) first

pub so_far : (old : State) (g : Given) → SoTaken old old g g
so_far old g = record { state = refl; taken = refl; given_all = refl }

-- the oldest answer, as the driver names it
abbrev pub Found : World → Answer → Type 0
Found w answer = (made : Made) × IsOldest w made × (made.answer ≡ answer)

pub oldest_kind : (w : World) (answer : Answer) → Found w answer → IsOldestKind w answer.kind
oldest_kind w answer found = record { made = found.0; oldest = found.1; is = ap (λ (a : Answer). a.kind) found.2 }

pub is_taken : (now new : State) (answer : Answer) (result : Option Answer) → Found now.world answer
    → IfSome result (λ _. new ≡ record now { world = after now.world Taken }) → (result ≡ None → now.world.answers ≡ [])
    → new ≡ record now { world = after now.world Taken }
is_taken now new answer None found taken none = absurd (differ (sym found.1.first ∙ none refl))
  where
    differ : found.0 ∷ drop 1 now.world.answers ≡ [] → ⊥
    differ e = cc
is_taken now new answer (Some other) found taken none = taken

-- what is given of an answer of this kind
abbrev given_of : AnswerKind → List (List ℕ) → List ℕ → Given
given_of kind blocks bytes = record { reached = reached_by (answer_told kind blocks); bytes = bytes_by (answer_told kind blocks) bytes }

same_given : (kind other : AnswerKind) (blocks : List (List ℕ)) (bytes : List ℕ) → kind ≡ other → given_of kind blocks bytes ≡ given_of other blocks bytes
same_given kind other blocks bytes is = ap (λ (k : AnswerKind). given_of k blocks bytes) is

given_now : (kind : AnswerKind) (blocks : List (List ℕ)) (reached : Reached) (bytes into : List ℕ) → ((b : List (List ℕ)) → reached ≡ reached_by (answer_told kind b))
    → bytes ≡ bytes_by (answer_told kind blocks) into → ◌≡◌ {A = Given} (record { reached = reached; bytes = bytes }) (given_of kind blocks into)
given_now kind blocks reached bytes into how is =
    ap {B = Given} (λ (r : Reached). record { reached = r; bytes = bytes }) (how blocks)
    ∙ ap {B = Given} (λ (b : List ℕ). record { reached = reached_by (answer_told kind blocks); bytes = b }) is

pub one_more : (old now new : State) (first : Given) (was_reached reached : Reached) (was bytes : List ℕ) → TakingDrops → Sound now.world → (answer : Answer) → Found now.world answer
    → ((b : List (List ℕ)) → reached ≡ reached_by (answer_told answer.kind b)) → bytes ≡ bytes_by (answer_told answer.kind (oldest_blocks now.world)) was
    → (result : Option Answer) → IfSome result (λ _. new ≡ record now { world = after now.world Taken }) → (result ≡ None → now.world.answers ≡ [])
    → SoTaken old now first (record { reached = was_reached; bytes = was }) → SoTaken old new first (record { reached = reached; bytes = bytes })
one_more old now new first was_reached reached was bytes drops sound answer found how is result taken none so =
    let at : new ≡ record now { world = after now.world Taken } = is_taken now new answer result found taken none in
    subst (λ (s : State). SoTaken old s first (record { reached = reached; bytes = bytes })) (sym at)
    (record {
      state = ap (λ (s : State). record s { world = after now.world Taken }) so.state;
      taken = sym (one_taken now.world found.0 found.1) ∙ so.taken;
      given_all =
          ap (λ (g : Given). gives_all (waiting (after now.world Taken)) g)
          (given_now answer.kind (oldest_blocks now.world) reached bytes was how is
          ∙ same_given answer.kind found.0.answer.kind (oldest_blocks now.world) was (sym (ap (λ (a : Answer). a.kind) found.2)))
          ∙ sym (gives_first now.world found.0 (record { reached = was_reached; bytes = was }) drops sound found.1)
          ∙ so.given_all;
    })

pub fewer_wait : (now new : State) (answer : Answer) → Found now.world answer → (result : Option Answer)
    → IfSome result (λ _. new ≡ record now { world = after now.world Taken }) → (result ≡ None → now.world.answers ≡ [])
    → length new.world.answers < length now.world.answers
fewer_wait now new answer found result taken none =
    let at : new ≡ record now { world = after now.world Taken } = is_taken now new answer result found taken none in
    subst (λ (s : State). length s.world.answers < length now.world.answers) (sym at)
    (subst (λ (xs : List Made). length (drop 1 xs) < length xs) (sym found.1.first) (less (drop 1 now.world.answers)))
  where
    less : (xs : List Made) → length xs < length (found.0 ∷ xs)
    less xs = omega arith

-- AT THE END none waits.
pub all_given : (old now : State) (first given : Given) → SoTaken old now first given → now.world.answers ≡ [] → given ≡ gives_all (waiting old.world) first
all_given old now first given so none = sym (ap (λ (xs : List Made). gives_all (map (told_by now.world) xs) given) none) ∙ so.given_all

pub all_are_taken : (old now : State) (first given : Given) → SoTaken old now first given → now.world.answers ≡ [] → now ≡ record old { world = all_taken old.world }
all_are_taken old now first given so none =
    so.state ∙ ap (λ (w : World). record old { world = w }) (sym (nothing_taken now.world none) ∙ so.taken)
