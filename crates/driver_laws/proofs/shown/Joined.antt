-- One part of an event behind another; and the lines of an event follow, in a drain too.
use Rattle.std.proofs.Common.{◌≡◌, ℕ, List, [], ◌∷◌, ◌++◌, refl, sym, ap, subst, ◌∙◌, rules}
use Rattle.pack_geometry.specs.Pack as model
use Rattle.trace_replay.specs.Moments.{Moment}
use Rattle.trace_replay.specs.Replay.{Replay, MayCome, after_moment, after_moments, drained, Follows}
use Rattle.driver_machine.specs.World.{World}
use Rattle.driver_machine.specs.Acts.{Act, after, after_all}
use Rattle.driver_machine.specs.Lines.{lines_of_all}
use Rattle.driver_machine.specs.Events.{Part, followed}
use Rattle.driver_laws.specs.answers.Packs.{packs_after, packs_after_all}
use Rattle.driver_laws.proofs.invariant.Leads.{after_append}
use Rattle.driver_laws.proofs.shown.Telling.{within, within_all, LineFollows, LinesFollow, Tells}
pub use Rattle.driver_laws.proofs.answers.Joined.{lines_append}

-- behind the last of some moments a drain goes on
abbrev pub drained_by : List Moment → Replay → Replay
drained_by [] s = s
drained_by (m ∷ ms) s = drained s

-- ONE BEHIND ANOTHER
pub packs_append : (w : World) (held : ℕ → model.Pack) (xs ys : List Act)
    → packs_after_all w held (xs ++ ys) ≡ packs_after_all (after_all w xs) (packs_after_all w held xs) ys
packs_append w held [] ys = refl
packs_append w held (x ∷ xs) ys = packs_append (after w x) (packs_after w held x) xs ys

pub within_append : (s : Replay) (ms ns : List Moment) → within_all s (ms ++ ns) ≡ within_all (within_all s ms) ns
within_append s [] ns = refl
within_append s (m ∷ ms) ns = within_append (within s m) ms ns

pub follow_append : (s : Replay) (ms ns : List Moment) → LinesFollow s ms → LinesFollow (within_all s ms) ns → LinesFollow s (ms ++ ns)
follow_append s [] ns first later = later
follow_append s (m ∷ ms) ns first later = (first.0, follow_append (within s m) ms ns first.1 later)

pub nothing_told : (P : World → Replay → Type 0) (w : World) (s : Replay) → P w s → Tells P w s []
nothing_told P w s holds = record { follow = tt; holds = holds; surface = refl; there = refl; packs = λ held. refl }

pub tells_append : (P Q : World → Replay → Type 0) (w : World) (s : Replay) (xs ys : List Act) → Tells P w s xs
    → Tells Q (after_all w xs) (within_all s (lines_of_all w xs)) ys → Tells Q w s (xs ++ ys)
tells_append P Q w s xs ys first later =
    let lines : lines_of_all w (xs ++ ys) ≡ lines_of_all w xs ++ lines_of_all (after_all w xs) ys = lines_append w xs ys in
    let replay : within_all s (lines_of_all w (xs ++ ys)) ≡ within_all (within_all s (lines_of_all w xs)) (lines_of_all (after_all w xs) ys) =
    ap (λ (ms : List Moment). within_all s ms) lines ∙ within_append s (lines_of_all w xs) (lines_of_all (after_all w xs) ys) in
    record {
      follow = subst (LinesFollow s) (sym lines)
          (follow_append s (lines_of_all w xs) (lines_of_all (after_all w xs) ys) first.follow later.follow);
      holds = subst (λ (r : Replay). Q (after_all w (xs ++ ys)) r) (sym replay)
          (subst (λ (x : World). Q x (within_all (within_all s (lines_of_all w xs)) (lines_of_all (after_all w xs) ys)))
          (sym (after_append w xs ys)) later.holds);
      surface = ap (λ (r : Replay). r.surface) replay ∙ later.surface ∙ first.surface;
      there = ap (λ (r : Replay). r.there) replay ∙ later.there ∙ first.there;
      packs = λ held. packs_append w held xs ys ∙ later.packs (packs_after_all w held xs) ∙ first.packs held;
    }

pub then_tells : (P Q : World → Replay → Type 0) (w : World) (s : Replay) (acts : List Act) (part : Part) → Tells P w s acts
    → (P (after_all w acts) (within_all s (lines_of_all w acts)) → Tells Q (after_all w acts) (within_all s (lines_of_all w acts)) (part (after_all w acts)))
    → Tells Q w s (followed acts part w)
then_tells P Q w s acts part first next = tells_append P Q w s acts (part (after_all w acts)) first (next first.holds)

pub tells_too : (P Q : World → Replay → Type 0) (w : World) (s : Replay) (acts : List Act) → Tells P w s acts
    → (P (after_all w acts) (within_all s (lines_of_all w acts)) → Q (after_all w acts) (within_all s (lines_of_all w acts))) → Tells Q w s acts
tells_too P Q w s acts tells so = search rules

drained_not : (m : Moment) (s : Replay) → LineFollows s m → drained s ≡ s
drained_not m s may = search rules

-- THE LINES FOLLOW, and behind the last one a drain goes on.
pub record Followed (s : Replay) (ms : List Moment) : Type 0 where
  pub follows : Follows s ms
  pub after : after_moments s ms ≡ drained_by ms (within_all s ms)

one_line : (m : Moment) (s : Replay) → LineFollows s m → MayCome s m × (after_moment s m ≡ drained (within s m))
one_line m s may = search rules

pub lines_follow : (ms : List Moment) (s : Replay) → LinesFollow s ms → Followed s ms
lines_follow [] s follow = record { follows = tt; after = refl }
lines_follow (m ∷ ms) s follow = by_rest ms follow.1 (lines_follow ms (within s m) follow.1)
  where
    by_rest : (ms : List Moment) → LinesFollow (within s m) ms → Followed (within s m) ms → Followed s (m ∷ ms)
    by_rest [] later rest = record { follows = ((one_line m s follow.0).0, tt); after = (one_line m s follow.0).1 }
    by_rest (n ∷ ns) later rest =
        let at : after_moment s m ≡ within s m = (one_line m s follow.0).1 ∙ drained_not n (within s m) later.0 in
        record {
          follows = ((one_line m s follow.0).0, subst (λ (r : Replay). Follows r (n ∷ ns)) (sym at) rest.follows);
          after = ap (λ (r : Replay). after_moments r (n ∷ ns)) at ∙ rest.after;
        }
