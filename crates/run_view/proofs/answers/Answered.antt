-- The answers of a legal run, as they are drawn.
use Rattle.std.proofs.Common.{◌≡◌, ℕ, ◌==◌, Bool, false, [], ◌∷◌, fold, Option, None, refl, sym, ap, ◌∙◌, subst, arith, suc, ◌+◌, ◌<◌, ◌≤◌, ◌^◌, true, List, ◌++◌, length, map, Some}
use Rattle.std.specs.Prelude.{if◌then◌else◌, unwrap_or}
use Rattle.std.proofs.lemmas.List.{get_or-set_same, map-append, append-nil}
use Rattle.std.proofs.lemmas.List.Sums.{fold-append}
use Rattle.std.proofs.lemmas.Option.{same_Some, none-some}
use Rattle.drive_pictures.specs.declared.drives.Drive.{Drive}
use Rattle.drive_pictures.specs.declared.moments.Moment.TheVariants.{Told}
use Rattle.drive_pictures.specs.declared.requests.Outcome.{Outcome}
use Rattle.drive_pictures.specs.declared.requests.Request.{Request}
use Rattle.drive_pictures.specs.Requests.{new_request, answer, is_refused}
use Rattle.run_view.proofs.answers.Hears.{at_moment, seen_of, known_of}
use Rattle.run_picture.specs.Fold.{Known, heard, drive_at, request_at, request_after, request_end, step, run_from, told_at, finished}
use Rattle.run_picture.specs.Places.{place_of}
use Rattle.trace_lines.specs.declared.telling.Told.TheVariants as deed
use Rattle.trace_replay.specs.History.{lines_of, is_refusal, with_deed, lines_after, lines_behind}
use Rattle.run_view.proofs.answers.OwnLines.{HasHeard, IsInCondition}
use Rattle.run_view.specs.Answers.{IsWordOf, answer_word, IsAnswered}
use Rattle.run_view.proofs.answers.Hearing.{Holds, no_refusal}
use Rattle.run_view.proofs.answers.Listening.{own_at}
use Rattle.run_view.proofs.answers.OfRuns.{are_answered}
use Rattle.pack_geometry.specs.Pack as model
use Rattle.pack_geometry.specs.TableSpelling.{Table}
use Rattle.run_picture.specs.declared.columns.Window.{Window}
use Rattle.trace_replay.specs.requests.Requests.{Answer, Request as Wished, ReadOk, WriteOk, OutsidePartition, EndOfPartition, NoFrames, Failed, Offline, Locked, Unforwarded, Fault}
use Rattle.trace_replay.specs.Moments.{Moment, Told, End, Deed}
use Rattle.trace_replay.specs.Replay.{after_moments, Replay, LineMay, ToldMay, Follows, after_moment, next_wish, hand_of}
use Rattle.trace_replay.specs.Runs.{IsLegalRun, start_of}
use Rattle.trace_replay.specs.Script.{Script, drives_of}
use Rattle.drive_pictures.specs.declared.moments.Moment.TheVariants as seen
use Rattle.drive_pictures.specs.declared.requests.Outcome.TheVariants as outcome
use Rattle.pack_geometry.specs.declared.DriveKind.{DriveKind}
use Rattle.drive_pictures.specs.Words.{outcome_word}
use Rattle.trace_replay.specs.requests.ServiceOrder.{Waiting}
use Rattle.trace_replay.specs.Causes.{AskSome}
use Rattle.trace_replay.specs.Events.{Wish, Refusal}
use Rattle.trace_replay.specs.Packs.{surface_of}
use Rattle.trace_replay.specs.Service.{first_waiting, ids}
use Rattle.trace_replay.proofs.Following.{follow_on}
use Rattle.trace_replay.proofs.Kept.{AllFit, moments_all, starts, end_kept}
use Rattle.trace_replay.proofs.Asking.{run_asks}
use Rattle.run_view.proofs.answers.Declaring.{IsDeclared, script_declared}
use Rattle.run_view.proofs.answers.Conditions.{conditions_of}
use Rattle.run_view.proofs.answers.Ended.{HasEnded, IsEnded, IsSo, all_ended, finished_ended}
use Rattle.run_view.proofs.answers.Named.{IsNamed, all_named, none_named}
use Rattle.run_view.proofs.answers.Running.{refused_is_so, Both, AreGood, WishTied, next_tied, turned_both, moment_both, moment_fits}
use Rattle.run_view.proofs.answers.Starting.{run_good, names_behind, good_parts, some_parts, all_both, start_both}
use Rattle.run_view.proofs.answers.Telling.{request_many}
use Rattle.run_view.proofs.answers.Turning.{Core, moment_core}
use Rattle.run_view.proofs.answers.Tying.{IsTied, Tied}

-- Behind a legal run of fewer than 2^64 moments each request that was answered is drawn so.
abbrev pub AreAnswersDrawn : Type 0
AreAnswersDrawn = (script : Script) (tables : ℕ → Option Table) (old new : ℕ → model.Pack) (ms ns : List Moment) (line u id : ℕ) (a : Answer) (window : Window)
    → IsLegalRun script tables old new (ms ++ Told line u id (End a) ∷ ns) → length ms < 2 ^ 64
    → IsAnswered (run_from (known_of script window) (map seen_of (ms ++ Told line u id (End a) ∷ ns))).requests id a line

-- THE HEAD, and what it has heard
pub record FullHead (names : List ℕ) (l : List Request) (x : Drive) (u : ℕ) (lines : List Deed) (id : ℕ) : Type 0 where
  pub there : u < 32
  pub place : ℕ
  pub found : place_of names id ≡ Some place
  pub inside : place < length l
  pub joined : (request_at l place).why ≡ None
  pub heard : HasHeard place lines x (request_at l place)
  pub holds : Holds place x.trial

pub full_head : (names : List ℕ) (l : List Request) (x : Drive) (u : ℕ) (lines : List Deed) (id : ℕ) (ws : List (Waiting Wished)) → IsTied names l x u lines ws → ids (first_waiting ws) ≡ Some id
    → FullHead names l x u lines id
full_head names l x u lines id [] q is = absurd (none-some id is)
full_head names l x u lines id (w ∷ rest) q is = record {
  there = q.there;
  place = q.head.place;
  found = subst (λ z. place_of names z ≡ Some q.head.place) (same_Some w.request.id id is) q.head.asked.found;
  inside = q.head.asked.inside;
  joined = q.head.asked.joined;
  heard = q.head.heard;
  holds = q.head.holds;
}

-- ITS END
pub end_is : (P : Request → Type 0) (k : Known) (line u id place : ℕ) (b : Bool) → place_of k.ids id ≡ Some place → place < length k.requests → is_refused place (drive_at k.drives u) (request_at k.requests place) ≡ b
    → P (request_end b k.event line (drive_at k.drives u) (request_at k.requests place))
    → HasEnded P (heard (seen.Told line u id deed.End) k).ids (heard (seen.Told line u id deed.End) k).requests id
end_is P k line u id place b found inside refused holds =
    subst (λ (z : Known). HasEnded P z.ids z.requests id) (sym (own_at (place_of k.ids id) line u id k deed.End place found)) (record {
      place = place;
      found = found;
      inside = subst (λ n. place < n) (sym (request_many k.requests place (request_after k.event line place deed.End (drive_at k.drives u) (request_at k.requests place)))) inside;
      event = k.event;
      ended = ap (λ (r : Request). r.ended) is ∙ at b;
      holds = subst P (sym is) holds;
    })
  where
    is : request_at (told_at place line u deed.End k).requests place ≡ request_end b k.event line (drive_at k.drives u) (request_at k.requests place)
    is = get_or-set_same k.requests place (request_after k.event line place deed.End (drive_at k.drives u) (request_at k.requests place)) (new_request 0 0 0 0 false) inside
        ∙ ap (λ (x : Bool). request_end x k.event line (drive_at k.drives u) (request_at k.requests place)) refused

    at : (b : Bool) → (request_end b k.event line (drive_at k.drives u) (request_at k.requests place)).ended ≡ Some k.event
    at true = refl
    at false = refl

abbrev many : List ℕ → ℕ
many letters = length letters

no_seven : (n : ℕ) → 7 ≡ n → (7 ≡ n → ⊥) → ⊥
no_seven n is never = never is

word_is : (o : Outcome) (a : Answer) → outcome_word o ≡ answer_word a → IsWordOf o a
word_is outcome.Stopped (Failed Unforwarded done) e = tt
word_is outcome.Stopped (Failed Offline done) e = tt
word_is outcome.Stopped (Failed Locked done) e = tt
word_is outcome.Stopped (ReadOk bytes) e = no_seven 2 (ap many e) (λ is. omega (arith, is))
word_is outcome.Stopped WriteOk e = no_seven 2 (ap many e) (λ is. omega (arith, is))
word_is outcome.Stopped EndOfPartition e = no_seven 3 (ap many e) (λ is. omega (arith, is))
word_is outcome.Stopped OutsidePartition e = no_seven 9 (ap many e) (λ is. omega (arith, is))
word_is outcome.Stopped NoFrames e = no_seven 6 (ap many e) (λ is. omega (arith, is))
word_is outcome.Stopped (Failed Fault done) e = no_seven 5 (ap many e) (λ is. omega (arith, is))
word_is o a e = e

answer_in : Deed → Answer
answer_in (End a) = a
answer_in d = WriteOk

-- where a line of its unit ends it; its answer is no refusal
line_end : (drives : ℕ → Option DriveKind) (s : Replay) (k : Known) (lines : ℕ → List Deed) (line u id : ℕ) (a : Answer) → LineMay s line u id (End a) → AllFit s lines → Tied drives s k lines
    → (is_refusal a ≡ false → u < 32 → (place : ℕ) → HasHeard place (lines u) (drive_at k.drives u) (request_at k.requests place) → IsWordOf (answer (drive_at k.drives u) (request_at k.requests place)) a)
    → IsEnded (heard (seen.Told line u id deed.End) k).ids (heard (seen.Told line u id deed.End) k).requests id a line
line_end drives s k lines line u id a may fit t word =
    let h : FullHead k.ids k.requests (drive_at k.drives u) u (lines u) id = full_head k.ids k.requests (drive_at k.drives u) u (lines u) id (s.units u).service.waiting (t.queues u) may.service in
    end_is (IsSo a line) k line u id h.place false h.found h.inside (no_refusal h.place (drive_at k.drives u) (request_at k.requests h.place) h.joined h.holds)
    (refl, word (end_kept (s.units u).drive (hand_of (s.units u)) (s.units u).stage (End a) (lines u) may.talk (fit u).fits) h.there h.place h.heard)

wish_end : (wish : Wish) (drives : ℕ → Option DriveKind) (s : Replay) (k : Known) (lines : ℕ → List Deed) (line u id : ℕ) (a : Answer) → WishTied k.ids k.requests wish → ToldMay wish s line u id (End a) → AllFit s lines
    → Tied drives s k lines
    → (is_refusal a ≡ false → u < 32 → (place : ℕ) → HasHeard place (lines u) (drive_at k.drives u) (request_at k.requests place) → IsWordOf (answer (drive_at k.drives u) (request_at k.requests place)) a)
    → IsEnded (heard (seen.Told line u id deed.End) k).ids (heard (seen.Told line u id deed.End) k).requests id a line
unfolding answer_in
wish_end (Refusal v i why) drives s k lines line u id a w may fit t word =
    let refused : is_refused w.place (drive_at k.drives u) (request_at k.requests w.place) ≡ true = refused_is_so k u w.place w.outcome w.refused in
    end_is (IsSo a line) k line u id w.place true (ap (λ (z : ℕ). place_of k.ids z) may.same_id ∙ w.found) w.inside refused
    (refl, subst (λ (o : Option Outcome). IsWordOf (unwrap_or o outcome.Refused) a) (sym w.refused) (word_is w.outcome a (w.word ∙ ap answer_word (ap answer_in (sym may.answered)))))
wish_end other drives s k lines line u id a w may fit t word = line_end drives s k lines line u id a may fit t word

-- NO MORE LINES than moments
self_short : (n : ℕ) → suc n ≤ suc n
self_short n = omega arith

less_short : (n : ℕ) → n ≤ suc n
less_short n = omega arith

none_short : (n : ℕ) → 0 ≤ suc n
none_short n = omega arith

end_short : (b : Bool) (l : List Deed) → length (if b then l else []) ≤ suc (length l)
end_short true l = less_short (length l)
end_short false l = none_short (length l)

with_short : (d : Deed) (l : List Deed) → length (with_deed d l) ≤ suc (length l)
with_short (End a) l = end_short (is_refusal a) l
with_short d l = self_short (length l)

own_short : (b : Bool) (d : Deed) (l : List Deed) → length (if b then with_deed d l else l) ≤ suc (length l)
own_short true d l = with_short d l
own_short false d l = less_short (length l)

after_short : (u : ℕ) (m : Moment) (l : List Deed) → length (lines_after u m l) ≤ suc (length l)
after_short u (Told line v id d) l = own_short (u == v) d l
after_short u other l = less_short (length l)

none_behind : (n : ℕ) → n ≤ n + 0
none_behind n = omega arith

one_behind : (n a b c : ℕ) → n ≤ a + c → a ≤ suc b → n ≤ b + suc c
one_behind n a b c e f = omega (arith, e, f)

behind_short : (u : ℕ) (ms : List Moment) (l : List Deed) → length (lines_behind u l ms) ≤ length l + length ms
behind_short u [] l = none_behind (length l)
behind_short u (m ∷ ms) l =
    one_behind (length (lines_behind u (lines_after u m l) ms)) (length (lines_after u m l)) (length l) (length ms) (behind_short u ms (lines_after u m l)) (after_short u m l)

few : (n m : ℕ) → n ≤ 0 + m → m < 2 ^ 64 → n < 2 ^ 64
few n m e f = omega (arith, e, f)

some_tail : (ms ns : List Moment) → AskSome (ms ++ ns) → AskSome ns
some_tail [] ns some = some
some_tail (m ∷ ms) ns some = some_tail ms ns (some_parts m (ms ++ ns) some).1

-- THE LAWS
record Reached (script : Script) (tables : ℕ → Option Table) (old : ℕ → model.Pack) (known : Known) (ms ns : List Moment) : Type 0 where
  follows : Follows (after_moments (start_of script tables old) ms) ns
  some : AskSome ns
  good : AreGood (drives_of script) (names_behind [] ms) ns
  fit : AllFit (after_moments (start_of script tables old) ms) (λ x. lines_behind x [] ms)
  both : Both (drives_of script) (names_behind [] ms) (after_moments (start_of script tables old) ms) (fold step known (map seen_of ms)) (λ x. lines_behind x [] ms)

reached : (script : Script) (tables : ℕ → Option Table) (old new : ℕ → model.Pack) (known : Known) (ms ns : List Moment) → IsLegalRun script tables old new (ms ++ ns) → IsDeclared (drives_of script) known
    → Reached script tables old known ms ns
reached script tables old new known ms ns run is =
    let good = good_parts (drives_of script) [] ms ns (run_good script tables old new (ms ++ ns) run) in
    let parts = (follow_on (start_of script tables old) ms ns).0 run.trace.follows in
    let some : AskSome ms = run_asks script tables old new ms ns run in
    let whole : AskSome (ms ++ ns) = run_asks script tables old new (ms ++ ns) [] (subst (IsLegalRun script tables old new) (sym (append-nil (ms ++ ns))) run) in record {
      follows = parts.1;
      some = some_tail ms ns whole;
      good = good.1;
      fit = moments_all (start_of script tables old) ms (λ x. []) some parts.0 (starts (drives_of script) tables (surface_of old));
      both = all_both (drives_of script) [] (start_of script tables old) known ms (λ x. []) some parts.0 good.0 (starts (drives_of script) tables (surface_of old))
          (start_both (drives_of script) tables (surface_of old) known is);
    }

pub are_answers_drawn : AreAnswersDrawn
are_answers_drawn script tables old new ms ns line u id a window run short =
    subst (λ (z : Known). IsAnswered (finished z).requests id a line) (sym whole)
    (finished_ended (fold step (step k (seen_of m)) (map seen_of ns)) id a line
    (all_named (step k (seen_of m)) (map seen_of ns) (all_named k (seen_of m ∷ []) (all_named known (map seen_of ms) start)))
    (all_ended (IsSo a line) (drives_of script) (names_behind [] ms) (after_moment s m) (step k (seen_of m)) ns (λ x. lines_after x m (lines_behind x [] ms)) id (some_parts m ns r.some).1 r.follows.1 r.good.1
    (moment_fits s (λ x. lines_behind x [] ms) m (some_parts m ns r.some).0 r.follows.0 r.fit) (moment_both (drives_of script) (names_behind [] ms) s k (λ x. lines_behind x [] ms) m r.follows.0 r.fit r.good.0 r.both) ended))
  where
    known : Known
    known = known_of script window

    is : IsDeclared (drives_of script) known
    is = script_declared script window run.good

    start : IsNamed known.ids known.requests
    start = subst (λ (names : List ℕ). IsNamed names known.requests) (sym is.ids) (subst (λ (l : List Request). IsNamed [] l) (sym is.requests) none_named)

    m : Moment
    m = Told line u id (End a)

    s : Replay
    s = after_moments (start_of script tables old) ms

    k : Known
    k = fold step known (map seen_of ms)

    k' : Known
    k' = at_moment k (seen_of m)

    r : Reached script tables old known ms (m ∷ ns)
    r = reached script tables old new known ms (m ∷ ns) run is

    whole : fold step known (map seen_of (ms ++ m ∷ ns)) ≡ fold step (step k (seen_of m)) (map seen_of ns)
    whole = ap (fold step known) (map-append seen_of ms (m ∷ ns)) ∙ fold-append step known (map seen_of ms) (map seen_of (m ∷ ns))

    now : Both (drives_of script) (names_behind [] ms) s k' (λ x. lines_behind x [] ms)
    now = turned_both (seen_of m) (drives_of script) (names_behind [] ms) s k (λ x. lines_behind x [] ms) r.both

    condition : u < 32 → IsInCondition u ms (drive_at k'.drives u)
    condition there =
        let c : IsInCondition u ms (drive_at k.drives u) = conditions_of (drives_of script) known ms u is there in record {
          offline = ap (λ (z : Core). z.offline) (moment_core (seen_of m) k u) ∙ c.offline;
          locked = ap (λ (z : Core). z.locked) (moment_core (seen_of m) k u) ∙ c.locked;
        }

    ended : IsEnded (step k (seen_of m)).ids (step k (seen_of m)).requests id a line
    ended = wish_end (next_wish s) (drives_of script) s k' (λ x. lines_behind x [] ms) line u id a (next_tied k'.ids k'.requests s now.act) r.follows.0 r.fit now.tied
        (λ kept there place heard. are_answered script tables old new ms ns line u id a run kept (few (length (lines_of u ms)) (length ms) (behind_short u ms []) short) place (drive_at k'.drives u)
        (request_at k'.requests place) heard (condition there))
