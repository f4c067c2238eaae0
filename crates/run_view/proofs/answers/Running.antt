-- What a picture has, moment by moment.
use Rattle.std.proofs.Common.{◌≡◌, ◌≢◌, ℕ, zero, suc, ◌-◌, ◌<◌, ◌==◌, Bool, true, false, not, List, [], ◌∷◌, ◌++◌, length, find, Option, Some, None, refl, sym, ap, ◌∙◌, subst, arith}
use Rattle.std.specs.Prelude.{if◌then◌else◌, slice_set, is_some, nat_lt, ◌&&◌, ◌||◌}
use Rattle.std.proofs.lemmas.Option.{none-some}
use Rattle.drive_pictures.specs.declared.drives.Drive.{Drive}
use Rattle.drive_pictures.specs.declared.drives.Change.{Change}
use Rattle.drive_pictures.specs.declared.drives.Change.TheVariants as change
use Rattle.drive_pictures.specs.declared.moments.Moment.TheVariants as seen
use Rattle.drive_pictures.specs.declared.requests.Outcome.{Outcome}
use Rattle.drive_pictures.specs.declared.requests.Request.{Request}
use Rattle.drive_pictures.specs.Drives.{changed}
use Rattle.drive_pictures.specs.Requests.{is_refused}
use Rattle.drive_pictures.specs.Trials.{is_at}
use Rattle.drive_pictures.specs.declared.moments.Moment.{Moment as Seen}
use Rattle.hardware_table.specs.Adapter.{AdapterState}
use Rattle.pack_geometry.specs.declared.DriveKind.{DriveKind}
use Rattle.partitions.specs.Partitions.{admission}
use Rattle.run_view.proofs.answers.Drives.{set_length, keeps_set}
use Rattle.run_view.proofs.answers.Hears.{at_moment, seen_of, play_of, asked_of}
use Rattle.run_view.proofs.answers.Listening.{own_at}
use Rattle.run_picture.specs.Fold.{Known, heard, asked_at, asked_with, admitted, admitted_by, drive_at, request_at, told_at, drive_after, drive_end, request_after, frames_back, step}
use Rattle.run_picture.specs.Places.{place_of}
use Rattle.trace_replay.specs.requests.Requests.{Request as Wished, Rejection, rejection_answer}
use Rattle.trace_lines.specs.declared.telling.Told.TheVariants as deed
use Rattle.trace_reader.specs.RoundTrip.{told_of}
use Rattle.trace_replay.specs.Adapters.{AdapterSeen, can_move}
use Rattle.hardware_table.specs.Drive.{is_positioning}
use Rattle.trace_replay.specs.Conversation.{goes_on}
use Rattle.trace_replay.specs.requests.ServiceOrder.{Waiting as Waiter}
use Rattle.trace_replay.specs.Service.{first_waiting, ids}
use Rattle.trace_replay.specs.Causes.{AsksSome}
use Rattle.trace_replay.specs.Events.{Act, Done, Refusing, Arriving, Trying, Serving, NothingToDo, Event, Wish, NoLine, DueLine, Refusal, is_no_line, act_after, can_attend, act_of_attend, act_of_move, act_of_arrival, adapters_there, interrupt_taken, attention_taken, serving, first_ready, wish_in_serving, wish_in}
use Rattle.trace_replay.specs.History.{with_deed, lines_after}
use Rattle.trace_replay.specs.Moments.{Deed, Arrive, Sector, Intr, Attn, End, Moment, Played, Told, Idle}
use Rattle.trace_replay.specs.Replay.{Replay, LineMay, ToldMay, MayCome, submission, submission_by, submitted, has_frames, act_submitted, conditions_after, act_of, event_of, act_drained, drained, replay_played, replay_told, unit_after, told_after, after_moment, next_wish, act_done}
use Rattle.trace_replay.specs.Script.{Input, Submit, ArriveAt, MoveAt, AttendTo, Drain, Turn, Noise, Arm, SetOnline, SetLocked}
use Rattle.trace_replay.proofs.Kept.{AllFit, played_kind, refused_is, told_all, played_all}
use Rattle.trace_replay.proofs.Unchanged.{drained_keeps, either}
use Rattle.run_view.proofs.answers.Tying.{IsAsked, IsTied, Tied, IsToRefuse, ActTied, Grows, Stays, stays_tied, moment_stays, act_stays, all_apart, queue_stays}
use Rattle.run_view.proofs.answers.Telling.{HeadAt, head_at, line_tied, line_ids, set_grows, request_many}
use Rattle.run_view.proofs.answers.Asking.{taken_by}

-- WHAT IS KNOWN behind any moments
pub record Both (drives : ℕ → Option DriveKind) (names : List ℕ) (s : Replay) (k : Known) (lines : ℕ → List Deed) : Type 0 where
  pub ids : k.ids ≡ names
  pub tied : Tied drives s k lines
  pub act : ActTied k.ids k.requests s.event.act

-- the ids that are asked for
abbrev pub names_after : List ℕ → Moment → List ℕ
names_after names (Played line (Submit r)) = names ++ r.id ∷ []
names_after names m = names

-- each of them is new, and of a drive that is declared
pub record IsGood (drives : ℕ → Option DriveKind) (names : List ℕ) (r : Wished) : Type 0 where
  pub fresh : place_of names r.id ≡ None
  pub kind : DriveKind
  pub there : drives r.unit ≡ Some kind
  pub some : AsksSome (Submit r)

abbrev pub AsksSomeAt : Moment → Type 0
AsksSomeAt (Played line input) = AsksSome input
AsksSomeAt m = Unit {0}

abbrev pub IsGoodMoment : (ℕ → Option DriveKind) → List ℕ → Moment → Type 0
IsGoodMoment drives names (Played line (Submit r)) = IsGood drives names r
IsGoodMoment drives names m = Unit {0}

-- NOTHING ELSE refuses
drain_attends : (names : List ℕ) (l : List Request) (adapters : ℕ → AdapterState) (o : Option ℕ) → ActTied names l (act_of_attend adapters o)
drain_attends names l adapters None = tt
drain_attends names l adapters (Some a) = tt

drain_moves : (names : List ℕ) (l : List Request) (adapters : ℕ → AdapterState) (o : Option ℕ) → ActTied names l (act_of_move adapters o)
drain_moves names l adapters None = drain_attends names l adapters (find (λ adapter. can_attend (adapters adapter)) adapters_there)
drain_moves names l adapters (Some a) = tt

drain_arrives : (names : List ℕ) (l : List Request) (adapters : ℕ → AdapterState) (o : Option ℕ) → ActTied names l (act_of_arrival adapters o)
drain_arrives names l adapters None = drain_moves names l adapters (find (λ adapter. can_move (adapters adapter)) adapters_there)
drain_arrives names l adapters (Some u) = tt

drained_act : (names : List ℕ) (l : List Request) (s : Replay) → ActTied names l (act_drained s)
drained_act names l s =
    drain_arrives names l (λ adapter. (s.adapters adapter).state) (find (λ u. is_positioning (s.units u).drive.work) s.there)

either_act : (names : List ℕ) (l : List Request) (b : Bool) (x y : Act) → ActTied names l x → ActTied names l y → ActTied names l (if b then x else y)
either_act names l true x y p q = p
either_act names l false x y p q = q

taken_interrupt : (names : List ℕ) (l : List Request) (a : Act) → ActTied names l a → ActTied names l (interrupt_taken a)
taken_interrupt names l (Refusing u i why) t = t
taken_interrupt names l a t = tt

taken_attention : (names : List ℕ) (l : List Request) (a : Act) → ActTied names l a → ActTied names l (attention_taken a)
taken_attention names l (Refusing u i why) t = t
taken_attention names l a t = tt

after_act : (names : List ℕ) (l : List Request) (d : Deed) (a : Act) → ActTied names l a → ActTied names l (act_after d a)
after_act names l Arrive a t = tt
after_act names l (Sector b v) a t = tt
after_act names l Intr a t = taken_interrupt names l a t
after_act names l Attn a t = taken_attention names l a t
after_act names l d a t = t

-- A LINE OF THE SCRIPT
event_tied : (drives : ℕ → Option DriveKind) (s : Replay) (event : Event) (k : Known) (lines : ℕ → List Deed) → Tied drives s k lines → Tied drives (record s { event = event }) k lines
event_tied drives s event k lines t = record { many = t.many; level = t.level; kinds = t.kinds; same = t.same; lent = t.lent; queues = t.queues }

change_stays : (v : ℕ) (c : Change) (k : Known) → Stays k (record k { drives = slice_set k.drives v (changed c (drive_at k.drives v)) })
change_stays v c k = record {
  many = set_length k.drives v (changed c (drive_at k.drives v));
  ids = refl;
  requests = refl;
  lent = refl;
  kind = λ u. keeps_set (λ z. z.kind) k.drives v (changed c (drive_at k.drives v)) u refl;
  trial = λ u. keeps_set (λ z. z.trial) k.drives v (changed c (drive_at k.drives v)) u refl;
}

conditions_tied : (input : Input) (drives : ℕ → Option DriveKind) (s : Replay) (k : Known) (lines : ℕ → List Deed) → Tied drives s k lines → Tied drives (conditions_after s input) k lines
conditions_tied input drives s k lines t = record {
  many = t.many;
  level = t.level;
  kinds = t.kinds;
  same = λ u kind e. played_kind u (s.units u).drive input ∙ t.same u kind e;
  lent = t.lent;
  queues = t.queues;
}

pub in_range : (ds : List Drive) (u : ℕ) (kind : DriveKind) → (drive_at ds u).kind ≡ Some kind → u < length ds
in_range [] u kind e = absurd (none-some kind e)
in_range (d ∷ ds) zero kind e = omega arith
in_range (d ∷ ds) (suc u) kind e = omega (arith, in_range ds u kind e)

pub asked_is : (line : ℕ) (r : Wished) (write : Bool) (kind : DriveKind) (k : Known) → place_of k.ids r.id ≡ None → (drive_at k.drives r.unit).kind ≡ Some kind
    → asked_at (place_of k.ids r.id) line (asked_of r) write k ≡ asked_with (admitted_by (admission kind r.part r.block r.count) kind (asked_of r) k.lent) line (asked_of r) write k
asked_is line r write kind k none e =
    ap (λ (o : Option ℕ). asked_at o line (asked_of r) write k) none
    ∙ ap (λ (o : Option DriveKind). asked_with (admitted o (asked_of r) k.lent) line (asked_of r) write k) e

-- a line of the script as it is played, its event apart
record Plays (drives : ℕ → Option DriveKind) (names : List ℕ) (s : Replay) (act : Act) (k : Known) (lines : ℕ → List Deed) : Type 0 where
  ids : k.ids ≡ names
  tied : Tied drives s k lines
  next : ActTied k.ids k.requests act

submit_plays : (drives : ℕ → Option DriveKind) (names : List ℕ) (s : Replay) (k : Known) (lines : ℕ → List Deed) (line : ℕ) (r : Wished) → k.ids ≡ names → Tied drives s k lines → AllFit s lines → IsGood drives names r
    → Plays drives (names ++ r.id ∷ []) (submitted s r (submission s r)) (act_submitted r (submission s r)) (heard (seen.Played line (play_of (Submit r))) k) lines
submit_plays drives names s k lines line r is t fit good =
    let none : place_of k.ids r.id ≡ None = ap (λ (l : List ℕ). place_of l r.id) is ∙ good.fresh in
    let kind_is : (drive_at k.drives r.unit).kind ≡ Some good.kind = t.kinds r.unit ∙ good.there in
    let same : (s.units r.unit).drive.kind ≡ good.kind = t.same r.unit good.kind good.there in
    let taken = taken_by (admission good.kind r.part r.block r.count) (has_frames s r) good.kind line r (is_some r.written) drives s k lines t (fit r.unit) none
    (subst (λ n. r.unit < n) t.many (in_range k.drives r.unit good.kind kind_is)) refl in
    subst (λ z. Plays drives (names ++ r.id ∷ []) (submitted s r z) (act_submitted r z) (heard (seen.Played line (play_of (Submit r))) k) lines)
    (ap (λ (z : DriveKind). submission_by (admission z r.part r.block r.count) (has_frames s r)) (sym same))
    (subst (λ z. Plays drives (names ++ r.id ∷ []) (submitted s r (submission_by (admission good.kind r.part r.block r.count) (has_frames s r)))
    (act_submitted r (submission_by (admission good.kind r.part r.block r.count) (has_frames s r))) z lines) (sym (asked_is line r (is_some r.written) good.kind k none kind_is))
    (record { ids = ap (λ (l : List ℕ). l ++ r.id ∷ []) is; tied = taken.tied; next = taken.act }))

online_stays : (v : ℕ) (b : Bool) (line : ℕ) (k : Known) → Stays k (heard (seen.Played line (play_of (SetOnline v b))) k)
online_stays v true line k = change_stays v change.Online k
online_stays v false line k = change_stays v change.Offline k

locked_stays : (v : ℕ) (b : Bool) (line : ℕ) (k : Known) → Stays k (heard (seen.Played line (play_of (SetLocked v b))) k)
locked_stays v true line k = change_stays v change.Lock k
locked_stays v false line k = change_stays v change.Unlock k

plays_change : (drives : ℕ → Option DriveKind) (names : List ℕ) (s : Replay) (k k' : Known) (lines : ℕ → List Deed) (input : Input) → k.ids ≡ names → Tied drives s k lines → Stays k k'
    → Plays drives names (conditions_after s input) Done k' lines
plays_change drives names s k k' lines input is t st =
    record { ids = st.ids ∙ is; tied = stays_tied drives (conditions_after s input) k k' lines st (conditions_tied input drives s k lines t); next = tt }

input_plays : (drives : ℕ → Option DriveKind) (names : List ℕ) (s : Replay) (k : Known) (lines : ℕ → List Deed) (line : ℕ) (input : Input) → k.ids ≡ names → Tied drives s k lines → AllFit s lines
    → IsGoodMoment drives names (Played line input) → Plays drives (names_after names (Played line input)) (replay_played s input) (act_of s input) (heard (seen.Played line (play_of input)) k) lines
input_plays drives names s k lines line (Submit r) is t fit good = submit_plays drives names s k lines line r is t fit good
input_plays drives names s k lines line (ArriveAt u) is t fit good =
    record { ids = is; tied = t; next = either_act k.ids k.requests (is_positioning (s.units u).drive.work) (Arriving u) NothingToDo tt tt }
input_plays drives names s k lines line (MoveAt a) is t fit good =
    record { ids = is; tied = t; next = either_act k.ids k.requests (can_move (s.adapters a).state) (Trying a) NothingToDo tt tt }
input_plays drives names s k lines line (AttendTo a) is t fit good =
    record { ids = is; tied = t; next = either_act k.ids k.requests (can_attend (s.adapters a).state) (serving a (s.adapters a).state) NothingToDo tt tt }
input_plays drives names s k lines line Drain is t fit good =
    record { ids = is; tied = t; next = either_act k.ids k.requests (s.outstanding == 0) NothingToDo (act_drained s) tt (drained_act k.ids k.requests s) }
input_plays drives names s k lines line (Turn v y) is t fit good = plays_change drives names s k (heard (seen.Played line (play_of (Turn v y))) k) lines (Turn v y) is t (change_stays v change.Turn k)
input_plays drives names s k lines line (Noise n) is t fit good = plays_change drives names s k (heard (seen.Played line (play_of (Noise n))) k) lines (Noise n) is t (change_stays n.unit change.Noise k)
input_plays drives names s k lines line (Arm v what n) is t fit good =
    plays_change drives names s k (heard (seen.Played line (play_of (Arm v what n))) k) lines (Arm v what n) is t (change_stays v change.Fault k)
input_plays drives names s k lines line (SetOnline v b) is t fit good =
    plays_change drives names s k (heard (seen.Played line (play_of (SetOnline v b))) k) lines (SetOnline v b) is t (online_stays v b line k)
input_plays drives names s k lines line (SetLocked v b) is t fit good =
    plays_change drives names s k (heard (seen.Played line (play_of (SetLocked v b))) k) lines (SetLocked v b) is t (locked_stays v b line k)

-- A LINE OF THE TRACE leaves one that is to be refused
refuse_stays : (names : List ℕ) (l l' : List Request) (u id : ℕ) (why : Rejection) (place : ℕ) → Grows names names l l' place → (request_at l place).why ≡ None → IsToRefuse names l u id why → IsToRefuse names l' u id why
refuse_stays names l l' u id why place g none t =
    let apart : t.place ≢ place = λ is. none-some t.outcome (sym none ∙ ap (λ (n : ℕ). (request_at l n).why) (sym is) ∙ t.refused) in
    let e : request_at l' t.place ≡ request_at l t.place = (g.others t.place t.inside apart).1 in record {
      place = t.place;
      found = t.found;
      inside = (g.others t.place t.inside apart).0;
      own = ap (λ (x : Request). x.unit) e ∙ t.own;
      outcome = t.outcome;
      refused = ap (λ (x : Request). x.why) e ∙ t.refused;
      still = ap (λ (x : Request). x.ended) e ∙ t.still;
      word = t.word;
    }

any_stays : (names : List ℕ) (l l' : List Request) (place : ℕ) (a : Act) → Grows names names l l' place → (request_at l place).why ≡ None → ActTied names l a → ActTied names l' a
any_stays names l l' place (Refusing u i why) g none t = refuse_stays names l l' u i why place g none t
any_stays names l l' place a g none t = tt

line_act : (drives : ℕ → Option DriveKind) (s : Replay) (k : Known) (lines : ℕ → List Deed) (line u id : ℕ) (d : Deed) (a : Act) → LineMay s line u id d → Tied drives s k lines → ActTied k.ids k.requests a
    → ActTied (heard (seen.Told line u id (told_of d)) k).ids (heard (seen.Told line u id (told_of d)) k).requests a
line_act drives s k lines line u id d a may t tied =
    let h : HeadAt k.ids k.requests u id = head_at k.ids k.requests (drive_at k.drives u) u (lines u) id (s.units u).service.waiting (t.queues u) may.service in
    subst (λ (z : Known). ActTied z.ids z.requests a) (sym (own_at (place_of k.ids id) line u id k (told_of d) h.place h.found))
    (any_stays k.ids k.requests (told_at h.place line u (told_of d) k).requests h.place a
    (set_grows k.ids k.requests h.place (request_after k.event line h.place (told_of d) (drive_at k.drives u) (request_at k.requests h.place))) h.asked.joined tied)

line_both : (drives : ℕ → Option DriveKind) (names : List ℕ) (s : Replay) (k : Known) (lines : ℕ → List Deed) (line u id : ℕ) (d : Deed) → LineMay s line u id d → AllFit s lines → Both drives names s k lines
    → Both drives names (drained (replay_told s u d (unit_after s u d))) (heard (seen.Told line u id (told_of d)) k) (λ x. lines_after x (Told line u id d) (lines x))
line_both drives names s k lines line u id d may fit b =
    let k' : Known = heard (seen.Told line u id (told_of d)) k in
    let s' : Replay = replay_told s u d (unit_after s u d) in record {
      ids = line_ids drives s k lines line u id d may b.tied ∙ b.ids;
      tied = drained_keeps (λ t. Tied drives t k' (λ x. lines_after x (Told line u id d) (lines x))) s'
          (λ event. event_tied drives s' event k' (λ x. lines_after x (Told line u id d) (lines x)) (line_tied drives s k lines line u id d may fit b.tied));
      act = either (λ t. ActTied k'.ids k'.requests t.event.act) (s'.event.drains && (is_no_line (next_wish s') && nat_lt 0 s'.outstanding)) s'
          (record s' { event = record s'.event { between = true; act = act_drained s' } })
          (after_act k'.ids k'.requests d s.event.act (line_act drives s k lines line u id d s.event.act may b.tied b.act)) (drained_act k'.ids k'.requests s');
    }

-- A REFUSAL
none_back : (n : ℕ) → n - 0 ≡ n
none_back n = omega arith

pub refused_is_so : (k : Known) (u place : ℕ) (o : Outcome) → (request_at k.requests place).why ≡ Some o → is_refused place (drive_at k.drives u) (request_at k.requests place) ≡ true
refused_is_so k u place o e = ap (λ (w : Option Outcome). is_some w || (is_some (drive_at k.drives u).trial.hand && not (is_at (drive_at k.drives u).trial.hand place))) e

refusal_tied : (drives : ℕ → Option DriveKind) (s : Replay) (k : Known) (lines : ℕ → List Deed) (line u id : ℕ) (why : Rejection) → Tied drives s k lines → (r : IsToRefuse k.ids k.requests u id why)
    → Tied drives (act_done s) (told_at r.place line u deed.End k) (λ x. lines_after x (Told line u id (End (rejection_answer why))) (lines x))
refusal_tied drives s k lines line u id why t r = record {
  many = set_length k.drives u (drive_after k.event r.place deed.End (drive_at k.drives u) (request_at k.requests r.place)) ∙ t.many;
  level = t.level ∙ sym (request_many k.requests r.place (request_after k.event line r.place deed.End (drive_at k.drives u) (request_at k.requests r.place)));
  kinds = λ x. keeps_set (λ z. z.kind) k.drives u (drive_after k.event r.place deed.End (drive_at k.drives u) (request_at k.requests r.place)) x
      (ap (λ (b : Bool). (drive_end b k.event (drive_at k.drives u) (request_at k.requests r.place)).kind) refused) ∙ t.kinds x;
  same = t.same;
  lent = ap (λ (b : Bool). k.lent - frames_back b (request_at k.requests r.place)) refused ∙ none_back k.lent ∙ t.lent;
  queues = λ x. unchanged x (x == u);
}
  where
    refused : is_refused r.place (drive_at k.drives u) (request_at k.requests r.place) ≡ true
    refused = refused_is_so k u r.place r.outcome r.refused

    k' : Known
    k' = told_at r.place line u deed.End k

    apart : (x : ℕ) (w : Wished) (p : ℕ) → IsAsked k.ids k.requests x w p → p ≢ r.place
    apart x w p a is = none-some r.outcome (sym a.joined ∙ ap (λ (n : ℕ). (request_at k.requests n).why) is ∙ r.refused)

    queue : (x : ℕ) → IsTied k.ids k'.requests (drive_at k'.drives x) x (lines x) (s.units x).service.waiting
    queue x = queue_stays k.ids k.ids k.requests k'.requests r.place x (drive_at k.drives x) (drive_at k'.drives x) (lines x) (s.units x).service.waiting
        (set_grows k.ids k.requests r.place (request_after k.event line r.place deed.End (drive_at k.drives u) (request_at k.requests r.place)))
        (keeps_set (λ z. z.trial) k.drives u (drive_after k.event r.place deed.End (drive_at k.drives u) (request_at k.requests r.place)) x
        (ap (λ (b : Bool). (drive_end b k.event (drive_at k.drives u) (request_at k.requests r.place)).trial) refused))
        (all_apart k.ids k.requests x r.place (s.units x).service.waiting (apart x)) (t.queues x)

    unchanged : (x : ℕ) (b : Bool) → IsTied k.ids k'.requests (drive_at k'.drives x) x (if b then with_deed (End (rejection_answer why)) (lines x) else lines x) (s.units x).service.waiting
    unchanged x true = subst (λ (b : Bool). IsTied k.ids k'.requests (drive_at k'.drives x) x (if b then lines x else []) (s.units x).service.waiting) (sym (refused_is why)) (queue x)
    unchanged x false = queue x

refusal_both : (drives : ℕ → Option DriveKind) (names : List ℕ) (s : Replay) (k : Known) (lines : ℕ → List Deed) (line u id : ℕ) (why : Rejection) → Both drives names s k lines
    → IsToRefuse k.ids k.requests u id why
    → Both drives names (act_done s) (heard (seen.Told line u id deed.End) k) (λ x. lines_after x (Told line u id (End (rejection_answer why))) (lines x))
refusal_both drives names s k lines line u id why b r =
    subst (λ (z : Known). Both drives names (act_done s) z (λ x. lines_after x (Told line u id (End (rejection_answer why))) (lines x))) (sym (own_at (place_of k.ids id) line u id k deed.End r.place r.found))
    (record { ids = b.ids; tied = refusal_tied drives s k lines line u id why b.tied r; act = tt })

-- WHAT COMES NEXT
abbrev pub WishTied : List ℕ → List Request → Wish → Type 0
WishTied names l (Refusal u id why) = IsToRefuse names l u id why
WishTied names l wish = Unit {0}

ready_wish : (names : List ℕ) (l : List Request) (ready : List ℕ) → WishTied names l (first_ready ready)
ready_wish names l [] = tt
ready_wish names l (u ∷ rest) = tt

start_wish : (names : List ℕ) (l : List Request) (busy : Bool) (ready : List ℕ) → WishTied names l (if busy then NoLine else first_ready ready)
start_wish names l true ready = tt
start_wish names l false ready = ready_wish names l ready

serving_wish : (names : List ℕ) (l : List Request) (adapter : ℕ) (a : AdapterSeen) (interrupt : Bool) (ds : List ℕ) → WishTied names l (wish_in_serving adapter a interrupt ds)
serving_wish names l adapter a true ds = tt
serving_wish names l adapter a false [] = start_wish names l a.state.busy a.ready
serving_wish names l adapter a false (d ∷ ds) = tt

act_wish : (names : List ℕ) (l : List Request) (adapters : ℕ → AdapterSeen) (a : Act) → ActTied names l a → WishTied names l (wish_in adapters a)
act_wish names l adapters (Refusing u i why) t = t
act_wish names l adapters (Serving x i ds) t = serving_wish names l x (adapters x) i ds
act_wish names l adapters a t = tt

wanted_wish : (names : List ℕ) (l : List Request) (goes_on : Bool) (speaker : ℕ) (wish : Wish) → WishTied names l wish → WishTied names l (if goes_on then DueLine speaker else wish)
wanted_wish names l true speaker wish t = tt
wanted_wish names l false speaker wish t = t

pub next_tied : (names : List ℕ) (l : List Request) (s : Replay) → ActTied names l s.event.act → WishTied names l (next_wish s)
next_tied names l s t = wanted_wish names l (goes_on (s.units s.event.speaker).stage) s.event.speaker (wish_in s.adapters s.event.act) (act_wish names l s.adapters s.event.act t)

to_refuse : (names : List ℕ) (l : List Request) (v i u id : ℕ) (why : Rejection) → u ≡ v → id ≡ i → IsToRefuse names l v i why → IsToRefuse names l u id why
to_refuse names l v i u id why same own t = subst (λ z. IsToRefuse names l z id why) (sym same) (subst (λ z. IsToRefuse names l v z why) (sym own) t)

told_both : (wish : Wish) (drives : ℕ → Option DriveKind) (names : List ℕ) (s : Replay) (k : Known) (lines : ℕ → List Deed) (line u id : ℕ) (d : Deed) → WishTied k.ids k.requests wish
    → ToldMay wish s line u id d → AllFit s lines → Both drives names s k lines
    → Both drives names (told_after wish s u d) (heard (seen.Told line u id (told_of d)) k) (λ x. lines_after x (Told line u id d) (lines x))
told_both (Refusal v i why) drives names s k lines line u id d w may fit b =
    subst (λ z. Both drives names (act_done s) (heard (seen.Told line u id (told_of z)) k) (λ x. lines_after x (Told line u id z) (lines x))) (sym may.answered)
    (refusal_both drives names s k lines line u id why b (to_refuse k.ids k.requests v i u id why may.same_unit may.same_id w))
told_both other drives names s k lines line u id d w may fit b = line_both drives names s k lines line u id d may fit b

-- THE REQUEST THAT A LINE NAMES has its place, and has not ended
pub record IsNamedBy (names : List ℕ) (l : List Request) (u id : ℕ) : Type 0 where
  pub place : ℕ
  pub found : place_of names id ≡ Some place
  pub inside : place < length l
  pub own : (request_at l place).unit ≡ u
  pub still : (request_at l place).ended ≡ None

head_named : (k : Known) (lines : List Deed) (u id : ℕ) (ws : List (Waiter Wished)) → IsTied k.ids k.requests (drive_at k.drives u) u lines ws → ids (first_waiting ws) ≡ Some id → IsNamedBy k.ids k.requests u id
head_named k lines u id ws q is =
    let h : HeadAt k.ids k.requests u id = head_at k.ids k.requests (drive_at k.drives u) u lines id ws q is in
    record { place = h.place; found = h.found; inside = h.asked.inside; own = h.asked.own; still = h.asked.still }

pub named_by : (wish : Wish) (drives : ℕ → Option DriveKind) (s : Replay) (k : Known) (lines : ℕ → List Deed) (line u id : ℕ) (d : Deed) → WishTied k.ids k.requests wish → ToldMay wish s line u id d → Tied drives s k lines
    → IsNamedBy k.ids k.requests u id
named_by (Refusal v i why) drives s k lines line u id d w may t =
    let r : IsToRefuse k.ids k.requests u id why = to_refuse k.ids k.requests v i u id why may.same_unit may.same_id w in
    record { place = r.place; found = r.found; inside = r.inside; own = r.own; still = r.still }
named_by wish drives s k lines line u id d w may t = head_named k (lines u) u id (s.units u).service.waiting (t.queues u) may.service

-- A MOMENT MORE
pub turned_both : (m : Seen) (drives : ℕ → Option DriveKind) (names : List ℕ) (s : Replay) (k : Known) (lines : ℕ → List Deed) → Both drives names s k lines → Both drives names s (at_moment k m) lines
turned_both m drives names s k lines b =
    let st : Stays k (at_moment k m) = moment_stays m k in record {
      ids = st.ids ∙ b.ids;
      tied = stays_tied drives s k (at_moment k m) lines st b.tied;
      act = act_stays k (at_moment k m) s.event.act st b.act;
    }

played_both : (drives : ℕ → Option DriveKind) (names : List ℕ) (s : Replay) (k : Known) (lines : ℕ → List Deed) (line : ℕ) (input : Input) → AllFit s lines → IsGoodMoment drives names (Played line input)
    → Both drives names s k lines → Both drives (names_after names (Played line input)) (after_moment s (Played line input)) (heard (seen.Played line (play_of input)) k) lines
played_both drives names s k lines line input fit good b =
    let p : Plays drives (names_after names (Played line input)) (replay_played s input) (act_of s input) (heard (seen.Played line (play_of input)) k) lines =
    input_plays drives names s k lines line input b.ids b.tied fit good in record {
      ids = p.ids;
      tied = event_tied drives (replay_played s input) (event_of s line input) (heard (seen.Played line (play_of input)) k) lines p.tied;
      act = p.next;
    }

pub moment_both : (drives : ℕ → Option DriveKind) (names : List ℕ) (s : Replay) (k : Known) (lines : ℕ → List Deed) (m : Moment) → MayCome s m → AllFit s lines → IsGoodMoment drives names m → Both drives names s k lines
    → Both drives (names_after names m) (after_moment s m) (step k (seen_of m)) (λ x. lines_after x m (lines x))
moment_both drives names s k lines (Played line input) may fit good b =
    played_both drives names s (at_moment k (seen_of (Played line input))) lines line input fit good (turned_both (seen_of (Played line input)) drives names s k lines b)
moment_both drives names s k lines (Told line u id d) may fit good b =
    let k' : Known = at_moment k (seen_of (Told line u id d)) in
    let now : Both drives names s k' lines = turned_both (seen_of (Told line u id d)) drives names s k lines b in
    told_both (next_wish s) drives names s k' lines line u id d (next_tied k'.ids k'.requests s now.act) may fit now
moment_both drives names s k lines (Idle line) may fit good b =
    let now : Both drives names s (at_moment k (seen_of (Idle line))) lines = turned_both (seen_of (Idle line)) drives names s k lines b in
    record { ids = now.ids; tied = event_tied drives s (act_done s).event (at_moment k (seen_of (Idle line))) lines now.tied; act = tt }

-- A MOMENT keeps that the lines fit
pub moment_fits : (s : Replay) (lines : ℕ → List Deed) (m : Moment) → AsksSomeAt m → MayCome s m → AllFit s lines → AllFit (after_moment s m) (λ x. lines_after x m (lines x))
moment_fits s lines (Played line input) some may fit = played_all s input lines some fit
moment_fits s lines (Told line u id d) some may fit = told_all (next_wish s) s line u id d lines may fit
moment_fits s lines (Idle line) some may fit = fit

abbrev pub AreGood : (ℕ → Option DriveKind) → List ℕ → List Moment → Type 0
AreGood drives names [] = Unit {0}
AreGood drives names (m ∷ ms) = IsGoodMoment drives names m × AreGood drives (names_after names m) ms
