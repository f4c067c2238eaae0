-- What a picture has of the requests that wait at the units of a replay.
use Rattle.std.proofs.Common.{◌≡◌, ◌≢◌, inl, ℕ, ◌<◌, ◌==◌, Bool, true, false, List, [], ◌∷◌, length, Option, Some, None, refl, sym, ap, ◌∙◌, subst, arith}
use Rattle.std.specs.List.{AllByRecursion}
use Rattle.std.proofs.lemmas.Bool.{cond_both, cond-true}
use Rattle.std.proofs.lemmas.Bool.Decides.{nat_tests}
use Rattle.drive_pictures.specs.declared.drives.Drive.{Drive}
use Rattle.drive_pictures.specs.declared.moments.Moment.{Moment as Seen}
use Rattle.drive_pictures.specs.declared.requests.Outcome.{Outcome}
use Rattle.drive_pictures.specs.declared.requests.Request.{Request}
use Rattle.drive_pictures.specs.declared.trials.Trial.{Trial}
use Rattle.pack_geometry.specs.declared.DriveKind.{DriveKind}
use Rattle.drive_pictures.specs.Words.{outcome_word}
use Rattle.run_view.proofs.answers.Hears.{at_moment}
use Rattle.run_view.proofs.answers.Listening.{one_id}
use Rattle.run_view.proofs.answers.OwnLines.{HasHeard}
use Rattle.run_view.specs.Answers.{answer_word}
use Rattle.run_view.proofs.answers.Hearing.{Holds}
use Rattle.run_picture.specs.Fold.{Known, drive_at, request_at}
use Rattle.run_picture.specs.Places.{place_of}
use Rattle.trace_replay.specs.requests.Requests.{Request as Wish, Rejection, rejection_answer}
use Rattle.trace_replay.specs.requests.ServiceOrder.{Waiting, is_before, put}
use Rattle.trace_replay.proofs.requests.ServiceOrderRuns.{each-put}
use Rattle.trace_replay.specs.Events.{Act, Refusing}
use Rattle.trace_replay.specs.Moments.{Deed}
use Rattle.trace_replay.specs.Replay.{Replay}
use Rattle.trace_replay.specs.Service.{frames_needed}
use Rattle.run_view.proofs.answers.Declaring.{IsIdle}
use Rattle.run_view.proofs.answers.Turning.{Core, Rest, moment_rest, moment_core}

-- A REQUEST THAT WAITS is at a place of the picture's list
pub record IsAsked (ids : List ℕ) (requests : List Request) (u : ℕ) (r : Wish) (place : ℕ) : Type 0 where
  pub found : place_of ids r.id ≡ Some place
  pub inside : place < length requests
  pub own : (request_at requests place).unit ≡ u
  pub joined : (request_at requests place).why ≡ None
  pub still : (request_at requests place).ended ≡ None
  pub needed : (request_at requests place).needed ≡ frames_needed r

pub record Waits (ids : List ℕ) (requests : List Request) (u : ℕ) (r : Wish) : Type 0 where
  pub place : ℕ
  pub asked : IsAsked ids requests u r place
  pub done : (request_at requests place).done ≡ 0
  pub verdict : (request_at requests place).verdict ≡ None

-- and one in hand has heard its lines
pub record IsHead (ids : List ℕ) (requests : List Request) (d : Drive) (u : ℕ) (lines : List Deed) (r : Wish) : Type 0 where
  pub place : ℕ
  pub asked : IsAsked ids requests u r place
  pub heard : HasHeard place lines d (request_at requests place)
  pub holds : Holds place d.trial

-- each id once
abbrev pub IsOther : Wish → Waiting Wish → Type 0
IsOther r x = (x.request.id == r.id) ≡ false

abbrev pub AreOnce : List (Waiting Wish) → Type 0
AreOnce [] = Unit {0}
AreOnce (w ∷ rest) = AllByRecursion (IsOther w.request) rest × AreOnce rest

abbrev pub WaitsAt : List ℕ → List Request → ℕ → Waiting Wish → Type 0
WaitsAt ids requests u w = Waits ids requests u w.request

-- A QUEUE
pub record IsQueue (ids : List ℕ) (requests : List Request) (d : Drive) (u : ℕ) (lines : List Deed) (w : Waiting Wish) (rest : List (Waiting Wish)) : Type 0 where
  pub there : u < 32
  pub head : IsHead ids requests d u lines w.request
  pub behind : AllByRecursion (WaitsAt ids requests u) rest
  pub once : AreOnce (w ∷ rest)

abbrev pub IsTied : List ℕ → List Request → Drive → ℕ → List Deed → List (Waiting Wish) → Type 0
IsTied ids requests d u lines [] = IsIdle d.trial × (lines ≡ [])
IsTied ids requests d u lines (w ∷ rest) = IsQueue ids requests d u lines w rest

-- ALL UNITS
pub record Tied (drives : ℕ → Option DriveKind) (s : Replay) (k : Known) (lines : ℕ → List Deed) : Type 0 where
  pub many : length k.drives ≡ 32
  pub level : length k.ids ≡ length k.requests
  pub kinds : (u : ℕ) → (drive_at k.drives u).kind ≡ drives u
  pub same : (u : ℕ) (kind : DriveKind) → drives u ≡ Some kind → (s.units u).drive.kind ≡ kind
  pub lent : k.lent ≡ s.frames
  pub queues : (u : ℕ) → IsTied k.ids k.requests (drive_at k.drives u) u (lines u) (s.units u).service.waiting

-- ONE THAT IS TO BE REFUSED
pub record IsToRefuse (ids : List ℕ) (requests : List Request) (u id : ℕ) (why : Rejection) : Type 0 where
  pub place : ℕ
  pub found : place_of ids id ≡ Some place
  pub inside : place < length requests
  pub own : (request_at requests place).unit ≡ u
  pub outcome : Outcome
  pub refused : (request_at requests place).why ≡ Some outcome
  pub still : (request_at requests place).ended ≡ None
  pub word : outcome_word outcome ≡ answer_word (rejection_answer why)

abbrev pub ActTied : List ℕ → List Request → Act → Type 0
ActTied ids requests (Refusing u id why) = IsToRefuse ids requests u id why
ActTied ids requests act = Unit {0}

-- WHERE ONE PLACE CHANGES
pub record Grows (ids ids' : List ℕ) (requests requests' : List Request) (place : ℕ) : Type 0 where
  pub found : (id p : ℕ) → place_of ids id ≡ Some p → place_of ids' id ≡ Some p
  pub others : (p : ℕ) → p < length requests → p ≢ place → (p < length requests') × (request_at requests' p ≡ request_at requests p)

abbrev pub Apart : List ℕ → List Request → ℕ → ℕ → Waiting Wish → Type 0
Apart ids requests u place w = (p : ℕ) → IsAsked ids requests u w.request p → p ≢ place

pub asked_stays : (ids ids' : List ℕ) (requests requests' : List Request) (place u : ℕ) (r : Wish) (p : ℕ) → Grows ids ids' requests requests' place → p ≢ place
    → IsAsked ids requests u r p → IsAsked ids' requests' u r p
asked_stays ids ids' requests requests' place u r p g apart a =
    let e : request_at requests' p ≡ request_at requests p = (g.others p a.inside apart).1 in record {
      found = g.found r.id p a.found;
      inside = (g.others p a.inside apart).0;
      own = ap (λ (x : Request). x.unit) e ∙ a.own;
      joined = ap (λ (x : Request). x.why) e ∙ a.joined;
      still = ap (λ (x : Request). x.ended) e ∙ a.still;
      needed = ap (λ (x : Request). x.needed) e ∙ a.needed;
    }

waits_stays : (ids ids' : List ℕ) (requests requests' : List Request) (place u : ℕ) (w : Waiting Wish) → Grows ids ids' requests requests' place → Apart ids requests u place w
    → WaitsAt ids requests u w → WaitsAt ids' requests' u w
waits_stays ids ids' requests requests' place u w g apart a =
    let e : request_at requests' a.place ≡ request_at requests a.place = (g.others a.place a.asked.inside (apart a.place a.asked)).1 in record {
      place = a.place;
      asked = asked_stays ids ids' requests requests' place u w.request a.place g (apart a.place a.asked) a.asked;
      done = ap (λ (x : Request). x.done) e ∙ a.done;
      verdict = ap (λ (x : Request). x.verdict) e ∙ a.verdict;
    }

pub all_stay : (ids ids' : List ℕ) (requests requests' : List Request) (place u : ℕ) (ws : List (Waiting Wish)) → Grows ids ids' requests requests' place
    → AllByRecursion (Apart ids requests u place) ws → AllByRecursion (WaitsAt ids requests u) ws → AllByRecursion (WaitsAt ids' requests' u) ws
all_stay ids ids' requests requests' place u [] g apart all = tt
all_stay ids ids' requests requests' place u (w ∷ ws) g apart all =
    (waits_stays ids ids' requests requests' place u w g apart.0 all.0, all_stay ids ids' requests requests' place u ws g apart.1 all.1)

pub all_apart : (ids : List ℕ) (requests : List Request) (u place : ℕ) (ws : List (Waiting Wish)) → ((r : Wish) (p : ℕ) → IsAsked ids requests u r p → p ≢ place)
    → AllByRecursion (Apart ids requests u place) ws
all_apart ids requests u place [] f = tt
all_apart ids requests u place (w ∷ ws) f = (f w.request, all_apart ids requests u place ws f)

-- those of other ids are elsewhere
pub never : {b : Bool} → b ≡ true → b ≡ false → ⊥
never e f = grind (arith, e, f)

pub own_apart : (ids : List ℕ) (requests : List Request) (u place : ℕ) (r : Wish) (ws : List (Waiting Wish)) → place_of ids r.id ≡ Some place → AllByRecursion (IsOther r) ws
    → AllByRecursion (Apart ids requests u place) ws
own_apart ids requests u place r [] found others = tt
own_apart ids requests u place r (w ∷ ws) found others =
    (λ p a is. never (one_id 0 ids w.request.id r.id place (a.found ∙ ap (λ (n : ℕ). Some n) is) found) others.0, own_apart ids requests u place r ws found others.1)

pub head_stays : (ids ids' : List ℕ) (requests requests' : List Request) (place u : ℕ) (d d' : Drive) (lines : List Deed) (w : Waiting Wish) → Grows ids ids' requests requests' place
    → d'.trial ≡ d.trial → Apart ids requests u place w → IsHead ids requests d u lines w.request → IsHead ids' requests' d' u lines w.request
head_stays ids ids' requests requests' place u d d' lines w g t apart h =
    let e : request_at requests' h.place ≡ request_at requests h.place = (g.others h.place h.asked.inside (apart h.place h.asked)).1 in record {
      place = h.place;
      asked = asked_stays ids ids' requests requests' place u w.request h.place g (apart h.place h.asked) h.asked;
      heard = record {
        start = h.heard.start;
        fresh = h.heard.fresh;
        trial = t ∙ h.heard.trial;
        done = ap (λ (x : Request). x.done) e ∙ h.heard.done;
        verdict = ap (λ (x : Request). x.verdict) e ∙ h.heard.verdict;
        write = ap (λ (x : Request). x.write) e ∙ h.heard.write;
      };
      holds = subst (λ (x : Trial). Holds h.place x) (sym t) h.holds;
    }

pub idle_stays : (t t' : Trial) → t' ≡ t → IsIdle t → IsIdle t'
idle_stays t t' e i = subst (λ (x : Trial). IsIdle x) (sym e) i

pub queue_stays : (ids ids' : List ℕ) (requests requests' : List Request) (place u : ℕ) (d d' : Drive) (lines : List Deed) (ws : List (Waiting Wish)) → Grows ids ids' requests requests' place
    → d'.trial ≡ d.trial → AllByRecursion (Apart ids requests u place) ws → IsTied ids requests d u lines ws → IsTied ids' requests' d' u lines ws
queue_stays ids ids' requests requests' place u d d' lines [] g t apart q = (idle_stays d.trial d'.trial t q.0, q.1)
queue_stays ids ids' requests requests' place u d d' lines (w ∷ ws) g t apart q = record {
  there = q.there;
  head = head_stays ids ids' requests requests' place u d d' lines w g t apart.0 q.head;
  behind = all_stay ids ids' requests requests' place u ws g apart.1 q.behind;
  once = q.once;
}

-- only the drive changes
drive_stays : (ids : List ℕ) (requests : List Request) (u : ℕ) (d d' : Drive) (lines : List Deed) (ws : List (Waiting Wish)) → d'.trial ≡ d.trial → IsTied ids requests d u lines ws
    → IsTied ids requests d' u lines ws
drive_stays ids requests u d d' lines [] t q = (idle_stays d.trial d'.trial t q.0, q.1)
drive_stays ids requests u d d' lines (w ∷ ws) t q = record {
  there = q.there;
  head = record {
    place = q.head.place;
    asked = q.head.asked;
    heard = record {
      start = q.head.heard.start;
      fresh = q.head.heard.fresh;
      trial = t ∙ q.head.heard.trial;
      done = q.head.heard.done;
      verdict = q.head.heard.verdict;
      write = q.head.heard.write;
    };
    holds = subst (λ (x : Trial). Holds q.head.place x) (sym t) q.head.holds;
  };
  behind = q.behind;
  once = q.once;
}

-- WHAT LEAVES ALL BUT THE DRIVES' CORES
pub record Stays (old new : Known) : Type 0 where
  pub many : length new.drives ≡ length old.drives
  pub ids : new.ids ≡ old.ids
  pub requests : new.requests ≡ old.requests
  pub lent : new.lent ≡ old.lent
  pub kind : (u : ℕ) → (drive_at new.drives u).kind ≡ (drive_at old.drives u).kind
  pub trial : (u : ℕ) → (drive_at new.drives u).trial ≡ (drive_at old.drives u).trial

pub stays_tied : (drives : ℕ → Option DriveKind) (s : Replay) (old new : Known) (lines : ℕ → List Deed) → Stays old new → Tied drives s old lines → Tied drives s new lines
stays_tied drives s old new lines st t = record {
  many = st.many ∙ t.many;
  level = ap (λ (l : List ℕ). length l) st.ids ∙ t.level ∙ ap (λ (l : List Request). length l) (sym st.requests);
  kinds = λ u. st.kind u ∙ t.kinds u;
  same = t.same;
  lent = st.lent ∙ t.lent;
  queues = λ u. subst (λ (l : List ℕ). IsTied l new.requests (drive_at new.drives u) u (lines u) (s.units u).service.waiting) (sym st.ids)
      (subst (λ (l : List Request). IsTied old.ids l (drive_at new.drives u) u (lines u) (s.units u).service.waiting) (sym st.requests)
      (drive_stays old.ids old.requests u (drive_at old.drives u) (drive_at new.drives u) (lines u) (s.units u).service.waiting (st.trial u) (t.queues u)));
}

pub moment_stays : (m : Seen) (k : Known) → Stays k (at_moment k m)
moment_stays m k = record {
  many = ap (λ (r : Rest). r.many) (moment_rest m k);
  ids = ap (λ (r : Rest). r.ids) (moment_rest m k);
  requests = ap (λ (r : Rest). r.requests) (moment_rest m k);
  lent = ap (λ (r : Rest). r.lent) (moment_rest m k);
  kind = λ u. ap (λ (c : Core). c.kind) (moment_core m k u);
  trial = λ u. ap (λ (c : Core). c.trial) (moment_core m k u);
}

pub act_stays : (old new : Known) (act : Act) → Stays old new → ActTied old.ids old.requests act → ActTied new.ids new.requests act
act_stays old new act st a =
    subst (λ (l : List ℕ). ActTied l new.requests act) (sym st.ids) (subst (λ (l : List Request). ActTied old.ids l act) (sym st.requests) a)

-- ONE MORE waits
pub first_stays : (n y : Waiting Wish) (ys : List (Waiting Wish)) → is_before y n ≡ true → put n (y ∷ ys) ≡ y ∷ put n ys
first_stays n y ys e = cond-true (is_before y n) (y ∷ put n ys) (n ∷ y ∷ ys) e

pub swapped : (n m : ℕ) → (n == m) ≡ false → (m == n) ≡ false
swapped n m e = grind (arith, nat_tests, e)

pub once_more : (n : Waiting Wish) (ys : List (Waiting Wish)) → AllByRecursion (IsOther n.request) ys → AreOnce ys → AreOnce (put n ys)
once_more n [] others once = (tt, tt)
once_more n (y ∷ ys) others once =
    cond_both (is_before y n) (y ∷ put n ys) (n ∷ y ∷ ys) AreOnce
    (λ _. (each-put (IsOther y.request) n ys (swapped y.request.id n.request.id others.0) once.0, once_more n ys others.1 once.1)) (λ _. (others, once))

-- one that waits comes in hand at an idle drive
pub comes_in_hand : (ids : List ℕ) (requests : List Request) (d : Drive) (u : ℕ) (r : Wish) → IsIdle d.trial → Waits ids requests u r → IsHead ids requests d u [] r
comes_in_hand ids requests d u r idle w = record {
  place = w.place;
  asked = w.asked;
  heard = record {
    start = record { drive = d; request = request_at requests w.place };
    fresh = record { hand = idle.hand; want = idle.want; fails = idle.fails; marks = idle.marks; done = w.done; verdict = w.verdict };
    trial = refl;
    done = refl;
    verdict = refl;
    write = refl;
  };
  holds = inl (idle.hand, idle.want);
}

pub next_in_hand : (ids : List ℕ) (requests : List Request) (d : Drive) (u : ℕ) (ws : List (Waiting Wish)) → u < 32 → IsIdle d.trial → AllByRecursion (WaitsAt ids requests u) ws → AreOnce ws
    → IsTied ids requests d u [] ws
next_in_hand ids requests d u [] there idle all once = (idle, refl)
next_in_hand ids requests d u (w ∷ ws) there idle all once = record { there = there; head = comes_in_hand ids requests d u w.request idle all.0; behind = all.1; once = once }
