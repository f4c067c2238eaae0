-- The units that wait for an adapter, as the replay and the machine keep them.
use Rattle.std.proofs.Common.{◌≡◌, ◌≢◌, inl, inr, ℕ, List, [], ◌∷◌, ◌++◌, ◌==◌, Bool, true, false, refl, sym, ap, arith, ◌∙◌, rules}
use Rattle.std.specs.List.{list_any}
use Rattle.trace_replay.specs.Conversation.{Stage, waits}
use Rattle.trace_replay.specs.Adapters as told
use Rattle.driver_machine.specs.declared.Phase.{Phase}
use Rattle.driver_machine.specs.declared.Phase.TheVariants as phases
use Rattle.driver_machine.specs.Acts.{kept_by, without}
use Rattle.driver_machine.specs.Sound.{Among}
use Rattle.driver_laws.proofs.shown.Showing.{is_coming, with_coming}

pub either : {P : Type 0} (m n : ℕ) → ((m == n) ≡ true → m ≡ n → P) → ((m == n) ≡ false → m ≢ n → P) → P
either m n same other = search rules

not_in : (u : ℕ) (queue : List ℕ) → (Among u queue → ⊥) → list_any (λ other. other == u) queue ≡ false
not_in u [] none = refl
not_in u (x ∷ xs) none =
    either x u (λ e same. absurd (none (inl (sym same))))
    (λ e other. (rw e refl) ∙ not_in u xs (λ later. none (inr later)))

is_there : (u : ℕ) (queue : List ℕ) → Among u queue → list_any (λ other. other == u) queue ≡ true
is_there u [] among = absurd among
is_there u (x ∷ xs) (inl here) = either x u (λ e same. rw e refl) (λ e other. absurd (other (sym here)))
is_there u (x ∷ xs) (inr later) = either x u (λ e same. rw e refl) (λ e other. (rw e refl) ∙ is_there u xs later)

behind_there : (u : ℕ) (queue : List ℕ) → list_any (λ other. other == u) (queue ++ u ∷ []) ≡ true
behind_there u [] = either u u (λ e same. rw e refl) (λ e other. absurd (other refl))
behind_there u (x ∷ xs) = either x u (λ e same. rw e refl) (λ e other. (rw e refl) ∙ behind_there u xs)

-- A LINE that is no transfer and no end: a unit that is coming goes on coming, and one that waits now joins.
pub ready_goes : (now next : Bool) (u : ℕ) (queue : List ℕ) → (Among u queue → ⊥) → (now ≡ true → next ≡ true)
    → told.with_ready next u (with_coming now u queue) ≡ with_coming next u queue
ready_goes true true u queue none goes = rw (behind_there u queue) refl
ready_goes true false u queue none goes = absurd (grind (arith, goes refl))
ready_goes false true u queue none goes = rw (not_in u queue none) refl
ready_goes false false u queue none goes = refl

-- one that stands in the queue stays there
pub ready_stays : (next : Bool) (u : ℕ) (queue : List ℕ) → Among u queue → told.with_ready next u queue ≡ queue
ready_stays true u queue among = rw (is_there u queue among) refl
ready_stays false u queue among = refl

-- A TRANSFER AND AN END take the unit out.
without_same : (u : ℕ) (queue : List ℕ) → told.without u queue ≡ without u queue
without_same u [] = refl
without_same u (x ∷ xs) =
    either x u (λ e same. (rw e refl) ∙ without_same u xs ∙ rw e refl)
    (λ e other. (rw e refl) ∙ ap (λ ys. x ∷ ys) (without_same u xs) ∙ rw e refl)

without_last : (u : ℕ) (queue : List ℕ) → told.without u (queue ++ u ∷ []) ≡ told.without u queue
without_last u [] = either u u (λ e same. rw e refl) (λ e other. absurd (other refl))
without_last u (x ∷ xs) =
    either x u (λ e same. (rw e refl) ∙ without_last u xs ∙ rw e refl)
    (λ e other. (rw e refl) ∙ ap (λ ys. x ∷ ys) (without_last u xs) ∙ rw e refl)

pub without_coming : (now : Bool) (u : ℕ) (queue : List ℕ) → told.without u (with_coming now u queue) ≡ without u queue
without_coming true u queue = without_last u queue ∙ without_same u queue
without_coming false u queue = without_same u queue

not_without_by : (u x : ℕ) (same : Bool) (rest : List ℕ) → same ≡ (x == u) → (Among u rest → ⊥) → Among u (kept_by same x rest) → ⊥
not_without_by u x same rest is none among = search rules

pub not_without : (u : ℕ) (queue : List ℕ) → Among u (without u queue) → ⊥
not_without u [] among = among
not_without u (x ∷ xs) among = not_without_by u x (x == u) (without u xs) refl (not_without u xs) among

pub coming_is : (phase : Phase) (stage : Stage) → phase ≢ phases.Queued → is_coming phase stage ≡ waits stage
coming_is phases.Queued stage other = absurd (other refl)
coming_is it stage other = refl
