-- A request that was answered stays as it is drawn.
use Rattle.std.proofs.Common.{◌≡◌, ◌≢◌, ℕ, zero, suc, ◌<◌, Bool, true, false, List, [], ◌∷◌, ◌++◌, length, map, fold, Option, Some, None, refl, sym, ap, ◌∙◌, subst, arith}
use Rattle.std.specs.Prelude.{is_some}
use Rattle.std.proofs.lemmas.Option.{none-some, same_Some}
use Rattle.drive_pictures.specs.declared.moments.Moment.{Moment as Seen}
use Rattle.drive_pictures.specs.declared.moments.Moment.TheVariants as seen
use Rattle.drive_pictures.specs.declared.requests.Request.{Request}
use Rattle.drive_pictures.specs.Requests.{new_request, left}
use Rattle.pack_geometry.specs.declared.DriveKind.{DriveKind}
use Rattle.run_view.proofs.answers.Hears.{at_moment, seen_of, play_of, asked_of}
use Rattle.run_view.proofs.answers.Listening.{own_at, one_id}
use Rattle.run_view.specs.Answers.{IsWordOf, IsAnswered}
use Rattle.run_picture.specs.Fold.{Known, heard, asked_at, admitted, drive_at, request_at, request_asked, frames_of, request_after, events_in, finished, step}
use Rattle.run_picture.specs.Places.{place_of}
use Rattle.trace_replay.specs.requests.Requests.{Answer, Request as Wished}
use Rattle.trace_lines.specs.declared.telling.Told.{Told as Line}
use Rattle.trace_reader.specs.RoundTrip.{told_of}
use Rattle.trace_replay.specs.Causes.{AskSome}
use Rattle.trace_replay.specs.History.{lines_after}
use Rattle.trace_replay.specs.Moments.{Deed, Moment, Played, Told, Idle}
use Rattle.trace_replay.specs.Replay.{Replay, MayCome, Follows, after_moment, next_wish}
use Rattle.trace_replay.specs.Script.{Input, Submit, SetOnline, SetLocked}
use Rattle.trace_replay.proofs.Kept.{AllFit}
use Rattle.run_view.proofs.answers.Asking.{append_grows, below_end}
use Rattle.run_view.proofs.answers.Drives.{is_same}
use Rattle.run_view.proofs.answers.Named.{IsNamed}
use Rattle.run_view.proofs.answers.Running.{Both, AreGood, names_after, AsksSomeAt, IsNamedBy, named_by, next_tied, turned_both, moment_both, moment_fits}
use Rattle.run_view.proofs.answers.Starting.{some_parts}
use Rattle.run_view.proofs.answers.Telling.{set_grows}
use Rattle.run_view.proofs.answers.Tying.{Grows, Stays, moment_stays}

-- IT HAS ENDED, and what is said of it
pub record HasEnded (P : Request → Type 0) (names : List ℕ) (l : List Request) (id : ℕ) : Type 0 where
  pub place : ℕ
  pub found : place_of names id ≡ Some place
  pub inside : place < length l
  pub event : ℕ
  pub ended : (request_at l place).ended ≡ Some event
  pub holds : P (request_at l place)

-- with its answer's word or stopped
abbrev pub IsSo : Answer → ℕ → Request → Type 0
IsSo a number r = (r.ended_line ≡ number) × IsWordOf r.outcome a

abbrev pub IsEnded : List ℕ → List Request → ℕ → Answer → ℕ → Type 0
IsEnded names l id a number = HasEnded (IsSo a number) names l id

ended_stays : (P : Request → Type 0) (names names' : List ℕ) (l l' : List Request) (id place : ℕ) → Grows names names' l l' place → (e : HasEnded P names l id) → e.place ≢ place → HasEnded P names' l' id
ended_stays P names names' l l' id place g e apart =
    let is : request_at l' e.place ≡ request_at l e.place = (g.others e.place e.inside apart).1 in record {
      place = e.place;
      found = g.found id e.place e.found;
      inside = (g.others e.place e.inside apart).0;
      event = e.event;
      ended = ap (λ (r : Request). r.ended) is ∙ e.ended;
      holds = subst P (sym is) e.holds;
    }

pub still_apart : (P : Request → Type 0) (names : List ℕ) (l : List Request) (id place : ℕ) → (request_at l place).ended ≡ None → (e : HasEnded P names l id) → e.place ≢ place
still_apart P names l id place none e is = none-some e.event (sym none ∙ ap (λ (n : ℕ). (request_at l n).ended) (sym is) ∙ e.ended)

told_ended : (P : Request → Type 0) (k : Known) (line u id : ℕ) (t : Line) (other : ℕ) → IsNamedBy k.ids k.requests u id → HasEnded P k.ids k.requests other
    → HasEnded P (heard (seen.Told line u id t) k).ids (heard (seen.Told line u id t) k).requests other
told_ended P k line u id t other here e =
    subst (λ (z : Known). HasEnded P z.ids z.requests other) (sym (own_at (place_of k.ids id) line u id k t here.place here.found))
    (ended_stays P k.ids k.ids k.requests _ other here.place (set_grows k.ids k.requests here.place (request_after k.event line here.place t (drive_at k.drives u) (request_at k.requests here.place))) e
    (still_apart P k.ids k.requests other here.place here.still e))

asked_ended : (P : Request → Type 0) (o : Option ℕ) (line : ℕ) (r : Wished) (write : Bool) (k : Known) (other : ℕ) → HasEnded P k.ids k.requests other
    → HasEnded P (asked_at o line (asked_of r) write k).ids (asked_at o line (asked_of r) write k).requests other
asked_ended P (Some place) line r write k other e = e
asked_ended P None line r write k other e =
    ended_stays P k.ids (k.ids ++ r.id ∷ []) k.requests _ other (length k.requests)
    (append_grows k.ids k.requests r.id
    (request_asked (admitted (drive_at k.drives r.unit).kind (asked_of r) k.lent) (frames_of (asked_of r)) (drive_at k.drives r.unit).queue.joined (new_request k.event line r.unit r.id write))) e
    (below_end (length k.requests) e.place e.inside)

played_ended : (P : Request → Type 0) (input : Input) (line : ℕ) (k : Known) (other : ℕ) → HasEnded P k.ids k.requests other
    → HasEnded P (heard (seen.Played line (play_of input)) k).ids (heard (seen.Played line (play_of input)) k).requests other
played_ended P (Submit r) line k other e = asked_ended P (place_of k.ids r.id) line r (is_some r.written) k other e
played_ended P (SetOnline u true) line k other e = e
played_ended P (SetOnline u false) line k other e = e
played_ended P (SetLocked u true) line k other e = e
played_ended P (SetLocked u false) line k other e = e
played_ended P input line k other e = e

pub turned_ended : (P : Request → Type 0) (m : Seen) (k : Known) (other : ℕ) → HasEnded P k.ids k.requests other → HasEnded P (at_moment k m).ids (at_moment k m).requests other
turned_ended P m k other e =
    let st : Stays k (at_moment k m) = moment_stays m k in
    subst (λ (l : List ℕ). HasEnded P l (at_moment k m).requests other) (sym st.ids) (subst (λ (l : List Request). HasEnded P k.ids l other) (sym st.requests) e)

pub moment_ended : (P : Request → Type 0) (drives : ℕ → Option DriveKind) (names : List ℕ) (s : Replay) (k : Known) (lines : ℕ → List Deed) (m : Moment) (other : ℕ) → MayCome s m → Both drives names s k lines
    → HasEnded P k.ids k.requests other → HasEnded P (step k (seen_of m)).ids (step k (seen_of m)).requests other
moment_ended P drives names s k lines (Played line input) other may b e =
    played_ended P input line (at_moment k (seen_of (Played line input))) other (turned_ended P (seen_of (Played line input)) k other e)
moment_ended P drives names s k lines (Told line u id d) other may b e =
    let k' : Known = at_moment k (seen_of (Told line u id d)) in
    let now : Both drives names s k' lines = turned_both (seen_of (Told line u id d)) drives names s k lines b in
    told_ended P k' line u id (told_of d) other (named_by (next_wish s) drives s k' lines line u id d (next_tied k'.ids k'.requests s now.act) may now.tied) (turned_ended P (seen_of (Told line u id d)) k other e)
moment_ended P drives names s k lines (Idle line) other may b e = turned_ended P (seen_of (Idle line)) k other e

pub all_ended : (P : Request → Type 0) (drives : ℕ → Option DriveKind) (names : List ℕ) (s : Replay) (k : Known) (ms : List Moment) (lines : ℕ → List Deed) (other : ℕ) → AskSome ms → Follows s ms → AreGood drives names ms
    → AllFit s lines → Both drives names s k lines → HasEnded P k.ids k.requests other → HasEnded P (fold step k (map seen_of ms)).ids (fold step k (map seen_of ms)).requests other
all_ended P drives names s k [] lines other some follows good fit b e = e
all_ended P drives names s k (m ∷ ms) lines other some follows good fit b e =
    let parts : AsksSomeAt m × AskSome ms = some_parts m ms some in
    all_ended P drives (names_after names m) (after_moment s m) (step k (seen_of m)) ms (λ x. lines_after x m (lines x)) other parts.1 follows.1 good.1 (moment_fits s lines m parts.0 follows.0 fit)
    (moment_both drives names s k lines m follows.0 fit good.0 b) (moment_ended P drives names s k lines m other follows.0 b e)

-- BEHIND THE LAST MOMENT
left_at : (events : ℕ) (l : List Request) (p : ℕ) → p < length l → request_at (map (left events) l) p ≡ left events (request_at l p)
left_at events [] p inside = absurd (omega (arith, inside))
left_at events (r ∷ l) zero inside = refl
left_at events (r ∷ l) (suc p) inside = left_at events l p (omega (arith, inside))

left_many : (events : ℕ) (l : List Request) → length (map (left events) l) ≡ length l
left_many events [] = refl
left_many events (r ∷ l) = ap (λ (n : ℕ). suc n) (left_many events l)

-- it is the one of its id
pub one_own : (names : List ℕ) (l : List Request) (id place : ℕ) → IsNamed names l → place_of names id ≡ Some place → place < length l → (request_at l place).id ≡ id
one_own names l id place named found inside = is_same (request_at l place).id id (one_id 0 names (request_at l place).id id place (named.own place inside) found)

one_alone : (names : List ℕ) (l : List Request) (id place : ℕ) → IsNamed names l → place_of names id ≡ Some place → (other : ℕ) → other < length l → (request_at l other).id ≡ id → other ≡ place
one_alone names l id place named found other inside is = same_Some other place (sym (named.own other inside) ∙ ap (place_of names) is ∙ found)

pub finished_ended : (k : Known) (id : ℕ) (a : Answer) (number : ℕ) → IsNamed k.ids k.requests → IsEnded k.ids k.requests id a number → IsAnswered (finished k).requests id a number
finished_ended k id a number named e =
    let events : ℕ = events_in k.before k.event in
    let is : request_at (map (left events) k.requests) e.place ≡ left events (request_at k.requests e.place) = left_at events k.requests e.place e.inside in
    let many : length (map (left events) k.requests) ≡ length k.requests = left_many events k.requests in record {
      place = e.place;
      inside = subst (λ n. e.place < n) (sym many) e.inside;
      own = ap (λ (r : Request). r.id) is ∙ one_own k.ids k.requests id e.place named e.found e.inside;
      alone = λ other inside own.
          let before : other < length k.requests = subst (λ n. other < n) many inside in
          one_alone k.ids k.requests id e.place named e.found other before (sym (ap (λ (r : Request). r.id) (left_at events k.requests other before)) ∙ own);
      line = ap (λ (r : Request). r.ended_line) is ∙ e.holds.0;
      outcome = subst (λ (r : Request). IsWordOf r.outcome a) (sym is) e.holds.1;
    }
