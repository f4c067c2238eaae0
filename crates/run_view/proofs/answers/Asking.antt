-- A request is submitted.
use Rattle.std.proofs.Common.{◌≡◌, ◌≢◌, inl, inr, ℕ, suc, ◌+◌, ◌/◌, ◌<◌, ◌==◌, Bool, true, false, not, cond, List, [], ◌∷◌, ◌++◌, length, Option, Some, None, Result, Ok, Err, refl, sym, ap, ◌∙◌, subst, arith}
use Rattle.std.specs.Prelude.{nat_lt, nat_le}
use Rattle.std.specs.List.{AllByRecursion}
use Rattle.std.proofs.lemmas.Bool.Decides.{nat_tests, eqb_tells}
use Rattle.std.proofs.lemmas.List.{get_or_append_left, length-append}
use Rattle.std.proofs.lemmas.Option.{none-some}
use Rattle.drive_pictures.specs.declared.drives.Drive.{Drive}
use Rattle.drive_pictures.specs.declared.requests.Outcome.{Outcome}
use Rattle.drive_pictures.specs.declared.requests.Outcome.TheVariants as outcome
use Rattle.drive_pictures.specs.declared.requests.Request.{Request}
use Rattle.drive_pictures.specs.declared.trials.Trial.{Trial}
use Rattle.drive_pictures.specs.Counts.{plus}
use Rattle.drive_pictures.specs.Drives.{cylinder_blocks}
use Rattle.drive_pictures.specs.Requests.{new_request}
use Rattle.pack_geometry.specs.declared.DriveKind.{DriveKind}
use Rattle.partitions.specs.declared.Admission.{Admission}
use Rattle.partitions.specs.declared.Admission.TheVariants as meets
use Rattle.drive_pictures.specs.Words.{outcome_word}
use Rattle.run_view.proofs.answers.Drives.{set_length, is_same, keeps_set}
use Rattle.run_view.proofs.answers.Listening.{found_more}
use Rattle.run_view.specs.Answers.{answer_word}
use Rattle.run_picture.specs.Fold.{Known, drive_at, request_at, asked_with, admitted_by, drive_asked, request_asked, frames_of}
use Rattle.run_picture.specs.Places.{place_of, place_from}
use Rattle.trace_replay.specs.requests.Requests.{Request as Wish, Rejection, AtEnd, Beyond, FramesShort, rejection_answer}
use Rattle.trace_replay.specs.requests.ServiceOrder.{Waiting, is_before, put}
use Rattle.trace_replay.proofs.requests.ServiceOrderRuns.{ArePlaced, IsPlaced, newcomer, each-put, after_join-waiting}
use Rattle.trace_replay.specs.Moments.{Deed}
use Rattle.trace_replay.specs.Replay.{Replay, Submission, submission_by, submitted, joined_by, unit_joined, act_submitted, has_frames}
use Rattle.trace_replay.specs.Service.{frames_needed, cylinder_of}
use Rattle.trace_replay.proofs.Kept.{UnitFits}
use Rattle.run_view.proofs.answers.Hears.{asked_of}
use Rattle.run_view.proofs.answers.Tying.{IsAsked, Waits, WaitsAt, IsHead, IsOther, IsTied, Tied, IsToRefuse, ActTied, Grows, Apart, all_stay, all_apart, queue_stays, head_stays, first_stays, swapped, once_more, comes_in_hand}

-- THE NEXT PLACE
new_step : (b : Bool) (n m : ℕ) (rest more : Option ℕ) → (rest ≡ None → more ≡ Some m) → cond b (Some n) rest ≡ None → cond b (Some n) more ≡ Some m
new_step true n m rest more f e = absurd (none-some n (sym e))
new_step false n m rest more f e = f e

same_number : (n : ℕ) → (n == n) ≡ true
same_number n = grind (arith, nat_tests)

no_more : (n : ℕ) → n ≡ n + 0
no_more n = omega arith

one_more : (n l : ℕ) → n + 1 + l ≡ n + suc l
one_more n l = omega arith

new_from : (n : ℕ) (names : List ℕ) (id : ℕ) → place_from n names id ≡ None → place_from n (names ++ id ∷ []) id ≡ Some (n + length names)
new_from n [] id e = ap (λ (b : Bool). cond b (Some n) None) (same_number id) ∙ ap (λ (m : ℕ). Some m) (no_more n)
new_from n (x ∷ names) id e =
    new_step (x == id) n (n + length (x ∷ names)) (place_from (n + 1) names id) (place_from (n + 1) (names ++ id ∷ []) id)
    (λ f. new_from (n + 1) names id f ∙ ap (λ (m : ℕ). Some m) (one_more n (length names))) e

from_none : (n m : ℕ) → n ≡ m → 0 + n ≡ m
from_none n m e = omega (arith, e)

pub new_place : (names : List ℕ) (l : List Request) (id : ℕ) → length names ≡ length l → place_of names id ≡ None → place_of (names ++ id ∷ []) id ≡ Some (length l)
new_place names l id e none = new_from 0 names id none ∙ ap (λ (m : ℕ). Some m) (from_none (length names) (length l) e)

pub last_at : (l : List Request) (x : Request) → request_at (l ++ x ∷ []) (length l) ≡ x
last_at [] x = refl
last_at (y ∷ l) x = last_at l x

longer : (n p : ℕ) (m : ℕ) → p < n → m ≡ n + 1 → p < m
longer n p m inside e = omega (arith, inside, e)

last_inside : (n m : ℕ) → m ≡ n + 1 → n < m
last_inside n m e = omega (arith, e)

pub append_grows : (names : List ℕ) (l : List Request) (id : ℕ) (x : Request) → Grows names (names ++ id ∷ []) l (l ++ x ∷ []) (length l)
append_grows names l id x = record {
  found = λ i p e. found_more 0 names id i p e;
  others = λ p inside apart. (longer (length l) p (length (l ++ x ∷ [])) inside (length-append l (x ∷ [])), get_or_append_left l (x ∷ []) (new_request 0 0 0 0 false) p inside);
}

pub below_end : (n p : ℕ) → p < n → p ≢ n
below_end n p inside e = omega (arith, inside, e)

one_longer : (n m a b : ℕ) → n ≡ m → a ≡ n + 1 → b ≡ m + 1 → a ≡ b
one_longer n m a b e f g = omega (arith, e, f, g)

pub new_level : (names : List ℕ) (l : List Request) (id : ℕ) (x : Request) → length names ≡ length l → length (names ++ id ∷ []) ≡ length (l ++ x ∷ [])
new_level names l id x e = one_longer (length names) (length l) (length (names ++ id ∷ [])) (length (l ++ x ∷ [])) e (length-append names (id ∷ [])) (length-append l (x ∷ []))

-- NO OTHER has its id
other_by : (names : List ℕ) (i id p : ℕ) (b : Bool) → (i == id) ≡ b → place_of names id ≡ None → place_of names i ≡ Some p → b ≡ false
other_by names i id p false e none found = refl
other_by names i id p true e none found = absurd (none-some p (sym none ∙ ap (λ (z : ℕ). place_of names z) (sym (is_same i id e)) ∙ found))

all_other : (names : List ℕ) (l : List Request) (u : ℕ) (r : Wish) (ws : List (Waiting Wish)) → place_of names r.id ≡ None → AllByRecursion (WaitsAt names l u) ws → AllByRecursion (IsOther r) ws
all_other names l u r [] none all = tt
all_other names l u r (w ∷ ws) none all = (other_by names w.request.id r.id all.0.place (w.request.id == r.id) refl none all.0.asked.found, all_other names l u r ws none all.1)

-- IT JOINS A QUEUE
placed_first : (c : Wish → ℕ) (r : Wish) (t : ℕ) (y : Waiting Wish) (ys : List (Waiting Wish)) → IsPlaced c y.cylinder y.sweep t y → is_before y (newcomer c r t (y ∷ ys)) ≡ true
placed_first c r t y ys p = grind (arith, nat_tests)

put_tied : (names names' : List ℕ) (l l' : List Request) (place u : ℕ) (d d' : Drive) (lines : List Deed) (ws : List (Waiting Wish)) (c : Wish → ℕ) (r : Wish) (t : ℕ) → ArePlaced c t ws
    → Grows names names' l l' place → d'.trial ≡ d.trial → u < 32 → Waits names' l' u r → AllByRecursion (Apart names l u place) ws → place_of names r.id ≡ None
    → IsTied names l d u lines ws → IsTied names' l' d' u lines (put (newcomer c r t ws) ws)
put_tied names names' l l' place u d d' lines [] c r t placed g e there new apart none q = record {
  there = there;
  head = subst (λ (z : List Deed). IsHead names' l' d' u z r) (sym q.1)
      (comes_in_hand names' l' d' u r (record { hand = ap (λ (z : Trial). z.hand) e ∙ q.0.hand; want = ap (λ (z : Trial). z.want) e ∙ q.0.want; fails = ap (λ (z : Trial). z.fails) e ∙ q.0.fails; marks = ap (λ (z : Trial). z.marks) e ∙ q.0.marks }) new);
  behind = tt;
  once = (tt, tt);
}
put_tied names names' l l' place u d d' lines (y ∷ ys) c r t placed g e there new apart none q =
    let n : Waiting Wish = newcomer c r t (y ∷ ys) in
    let others : AllByRecursion (IsOther r) ys = all_other names l u r ys none q.behind in
    subst (λ (z : List (Waiting Wish)). IsTied names' l' d' u lines z) (sym (first_stays n y ys (placed_first c r t y ys placed.0))) (record {
      there = there;
      head = head_stays names names' l l' place u d d' lines y g e apart.0 q.head;
      behind = each-put (WaitsAt names' l' u) n ys new (all_stay names names' l l' place u ys g apart.1 q.behind);
      once = (
        each-put (IsOther y.request) n ys (swapped y.request.id r.id (other_by names y.request.id r.id q.head.place (y.request.id == r.id) refl none q.head.asked.found)) q.once.0,
        once_more n ys others q.once.1,
      );
    })

-- IN THE PICTURE
asked_kind : (a : Result ℕ Outcome) (d : Drive) → (drive_asked a d).kind ≡ d.kind
asked_kind (Ok cylinder) d = refl
asked_kind (Err why) d = refl

asked_trial : (a : Result ℕ Outcome) (d : Drive) → (drive_asked a d).trial ≡ d.trial
asked_trial (Ok cylinder) d = refl
asked_trial (Err why) d = refl

abbrev with_asked : Result ℕ Outcome → ℕ → Wish → Bool → Known → Known
with_asked a line r write k = asked_with a line (asked_of r) write k

abbrev request_new : Result ℕ Outcome → ℕ → Wish → Bool → Known → Request
request_new a line r write k = request_asked a (frames_of (asked_of r)) (drive_at k.drives r.unit).queue.joined (new_request k.event line r.unit r.id write)

end_apart : (names : List ℕ) (l : List Request) (x : ℕ) (r : Wish) (p : ℕ) → IsAsked names l x r p → p ≢ length l
end_apart names l x r p a = below_end (length l) p a.inside

asked_queue : (a : Result ℕ Outcome) (line : ℕ) (r : Wish) (write : Bool) (drives : ℕ → Option DriveKind) (s : Replay) (k : Known) (lines : ℕ → List Deed) → Tied drives s k lines → (x : ℕ)
    → IsTied (with_asked a line r write k).ids (with_asked a line r write k).requests (drive_at (with_asked a line r write k).drives x) x (lines x) (s.units x).service.waiting
asked_queue a line r write drives s k lines t x =
    queue_stays k.ids (k.ids ++ r.id ∷ []) k.requests (with_asked a line r write k).requests (length k.requests) x (drive_at k.drives x) (drive_at (with_asked a line r write k).drives x) (lines x)
    (s.units x).service.waiting (append_grows k.ids k.requests r.id (request_new a line r write k))
    (keeps_set (λ z. z.trial) k.drives r.unit (drive_asked a (drive_at k.drives r.unit)) x (asked_trial a (drive_at k.drives r.unit)))
    (all_apart k.ids k.requests x (length k.requests) (s.units x).service.waiting (end_apart k.ids k.requests x)) (t.queues x)

refused_tied : (why : Outcome) (line : ℕ) (r : Wish) (write : Bool) (drives : ℕ → Option DriveKind) (s : Replay) (k : Known) (lines : ℕ → List Deed) → Tied drives s k lines
    → Tied drives s (with_asked (Err why) line r write k) lines
refused_tied why line r write drives s k lines t = record {
  many = set_length k.drives r.unit (drive_asked (Err why) (drive_at k.drives r.unit)) ∙ t.many;
  level = new_level k.ids k.requests r.id (request_new (Err why) line r write k) t.level;
  kinds = λ x. keeps_set (λ z. z.kind) k.drives r.unit (drive_asked (Err why) (drive_at k.drives r.unit)) x (asked_kind (Err why) (drive_at k.drives r.unit)) ∙ t.kinds x;
  same = t.same;
  lent = t.lent;
  queues = asked_queue (Err why) line r write drives s k lines t;
}

refused_act : (o : Outcome) (why : Rejection) (line : ℕ) (r : Wish) (write : Bool) (drives : ℕ → Option DriveKind) (s : Replay) (k : Known) (lines : ℕ → List Deed) → Tied drives s k lines
    → place_of k.ids r.id ≡ None → outcome_word o ≡ answer_word (rejection_answer why)
    → IsToRefuse (with_asked (Err o) line r write k).ids (with_asked (Err o) line r write k).requests r.unit r.id why
refused_act o why line r write drives s k lines t none word = record {
  place = length k.requests;
  found = new_place k.ids k.requests r.id t.level none;
  inside = last_inside (length k.requests) (length (with_asked (Err o) line r write k).requests) (length-append k.requests (request_new (Err o) line r write k ∷ []));
  own = ap (λ (z : Request). z.unit) (last_at k.requests (request_new (Err o) line r write k));
  outcome = o;
  refused = ap (λ (z : Request). z.why) (last_at k.requests (request_new (Err o) line r write k));
  still = ap (λ (z : Request). z.ended) (last_at k.requests (request_new (Err o) line r write k));
  word = word;
}

more_lent : (lent frames needed : ℕ) → lent ≡ frames → nat_le (frames + needed) 16384 ≡ true → plus lent needed ≡ frames + needed
more_lent lent frames needed e room = small lent frames needed e (under (frames + needed) room)
  where
    under : (n : ℕ) → nat_le n 16384 ≡ true → n < 16385
    under n e = grind (arith, nat_tests, e)

    small : (a b c : ℕ) → a ≡ b → b + c < 16385 → plus a c ≡ b + c
    small a b c e f = omega (arith, e, f)

joined_waits : (cylinder line : ℕ) (r : Wish) (write : Bool) (k : Known) → length k.ids ≡ length k.requests → place_of k.ids r.id ≡ None
    → Waits (with_asked (Ok cylinder) line r write k).ids (with_asked (Ok cylinder) line r write k).requests r.unit r
joined_waits cylinder line r write k level none =
    let new : Request = request_new (Ok cylinder) line r write k in
    let is : request_at (k.requests ++ new ∷ []) (length k.requests) ≡ new = last_at k.requests new in record {
      place = length k.requests;
      asked = record {
        found = new_place k.ids k.requests r.id level none;
        inside = last_inside (length k.requests) (length (k.requests ++ new ∷ [])) (length-append k.requests (new ∷ []));
        own = ap (λ (z : Request). z.unit) is;
        joined = ap (λ (z : Request). z.why) is;
        still = ap (λ (z : Request). z.ended) is;
        needed = ap (λ (z : Request). z.needed) is;
      };
      done = ap (λ (z : Request). z.done) is;
      verdict = ap (λ (z : Request). z.verdict) is;
    }

joined_tied : (cylinder line : ℕ) (r : Wish) (write : Bool) (drives : ℕ → Option DriveKind) (s : Replay) (k : Known) (lines : ℕ → List Deed) → Tied drives s k lines → UnitFits (s.units r.unit) (lines r.unit)
    → place_of k.ids r.id ≡ None → r.unit < 32 → has_frames s r ≡ true → Tied drives (joined_by s r (unit_joined (s.units r.unit) r)) (with_asked (Ok cylinder) line r write k) lines
joined_tied cylinder line r write drives s k lines t fit none there room = record {
  many = set_length k.drives r.unit (drive_asked (Ok cylinder) (drive_at k.drives r.unit)) ∙ t.many;
  level = new_level k.ids k.requests r.id (request_new (Ok cylinder) line r write k) t.level;
  kinds = λ x. keeps_set (λ z. z.kind) k.drives r.unit (drive_asked (Ok cylinder) (drive_at k.drives r.unit)) x (asked_kind (Ok cylinder) (drive_at k.drives r.unit)) ∙ t.kinds x;
  same = λ x kind e. elim (eqb_tells x r.unit) [
    | inl same ↦ rw same.0 (t.same r.unit kind (ap drives (sym same.1) ∙ e))
    | inr other ↦ rw other.0 (t.same x kind e)
  ];
  lent = more_lent k.lent s.frames (frames_needed r) t.lent room;
  queues = λ x. elim (eqb_tells x r.unit) [
    | inl same ↦ rw same.0 (subst (λ z. IsTied k'.ids k'.requests (drive_at k'.drives z) z (lines z) (unit_joined (s.units r.unit) r).service.waiting) (sym same.1) own)
    | inr other ↦ rw other.0 (asked_queue (Ok cylinder) line r write drives s k lines t x)
  ];
}
  where
    k' : Known
    k' = with_asked (Ok cylinder) line r write k

    own : IsTied k'.ids k'.requests (drive_at k'.drives r.unit) r.unit (lines r.unit) (unit_joined (s.units r.unit) r).service.waiting
    own =
        subst (λ (z : List (Waiting Wish)). IsTied k'.ids k'.requests (drive_at k'.drives r.unit) r.unit (lines r.unit) z)
        (sym (after_join-waiting (cylinder_of (s.units r.unit).drive.kind) r (s.units r.unit).service fit.order))
        (put_tied k.ids k'.ids k.requests k'.requests (length k.requests) r.unit (drive_at k.drives r.unit) (drive_at k'.drives r.unit) (lines r.unit) (s.units r.unit).service.waiting
        (cylinder_of (s.units r.unit).drive.kind) r (s.units r.unit).service.joined fit.order.placed (append_grows k.ids k.requests r.id (request_new (Ok cylinder) line r write k))
        (keeps_set (λ z. z.trial) k.drives r.unit (drive_asked (Ok cylinder) (drive_at k.drives r.unit)) r.unit (asked_trial (Ok cylinder) (drive_at k.drives r.unit)))
        there (joined_waits cylinder line r write k t.level none)
        (all_apart k.ids k.requests r.unit (length k.requests) (s.units r.unit).service.waiting (end_apart k.ids k.requests r.unit)) none (t.queues r.unit))

-- AS IT IS ADMITTED
pub record Taken (drives : ℕ → Option DriveKind) (s : Replay) (k : Known) (lines : ℕ → List Deed) (r : Wish) (met : Submission) : Type 0 where
  pub tied : Tied drives (submitted s r met) k lines
  pub act : ActTied k.ids k.requests (act_submitted r met)

pub same_room : (lent frames needed : ℕ) (room : Bool) → lent ≡ frames → nat_le (frames + needed) 16384 ≡ room → nat_lt 16384 (plus lent needed) ≡ not room
same_room lent frames needed room e f = ap (λ (n : ℕ). nat_lt 16384 (plus n needed)) e ∙ at frames needed ∙ ap not f
  where
    at : (a b : ℕ) → nat_lt 16384 (plus a b) ≡ not (nat_le (a + b) 16384)
    at a b = grind (arith, nat_tests)

pub taken_by : (a : Admission) (room : Bool) (kind : DriveKind) (line : ℕ) (r : Wish) (write : Bool) (drives : ℕ → Option DriveKind) (s : Replay) (k : Known) (lines : ℕ → List Deed)
    → Tied drives s k lines → UnitFits (s.units r.unit) (lines r.unit) → place_of k.ids r.id ≡ None → r.unit < 32 → has_frames s r ≡ room
    → Taken drives s (with_asked (admitted_by a kind (asked_of r) k.lent) line r write k) lines r (submission_by a room)
taken_by meets.Eof room kind line r write drives s k lines t fit none there is =
    record { tied = refused_tied outcome.Eof line r write drives s k lines t; act = refused_act outcome.Eof AtEnd line r write drives s k lines t none refl }
taken_by meets.Outside room kind line r write drives s k lines t fit none there is =
    record { tied = refused_tied outcome.Partition line r write drives s k lines t; act = refused_act outcome.Partition Beyond line r write drives s k lines t none refl }
taken_by (meets.Inside first) true kind line r write drives s k lines t fit none there is =
    rw (same_room k.lent s.frames (frames_needed r) true t.lent is)
    (record { tied = joined_tied (first / cylinder_blocks kind) line r write drives s k lines t fit none there is; act = tt })
taken_by (meets.Inside first) false kind line r write drives s k lines t fit none there is =
    rw (same_room k.lent s.frames (frames_needed r) false t.lent is)
    (record { tied = refused_tied outcome.Frames line r write drives s k lines t; act = refused_act outcome.Frames FramesShort line r write drives s k lines t none refl })
