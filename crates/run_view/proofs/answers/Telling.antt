-- A line of the trace, for the request in hand at its unit.
use Rattle.std.proofs.Common.{◌≡◌, ◌≢◌, ◌⊎◌, inl, inr, ℕ, zero, suc, ◌-◌, ◌<◌, Bool, false, List, [], ◌∷◌, length, set, drop, Option, Some, refl, sym, ap, ◌∙◌, subst, arith}
use Rattle.std.specs.Prelude.{if◌then◌else◌}
use Rattle.std.proofs.lemmas.Bool.Decides.{eqb_tells}
use Rattle.std.proofs.lemmas.List.{get_or-set_same, get_or-set_other}
use Rattle.std.proofs.lemmas.Option.{same_Some, none-some}
use Rattle.drive_pictures.specs.declared.drives.Drive.{Drive}
use Rattle.drive_pictures.specs.declared.moments.Moment.TheVariants as seen
use Rattle.drive_pictures.specs.declared.requests.Outcome.{Outcome}
use Rattle.drive_pictures.specs.declared.requests.Request.{Request}
use Rattle.drive_pictures.specs.declared.trials.Trial.{Trial}
use Rattle.drive_pictures.specs.Drives as drives
use Rattle.drive_pictures.specs.Requests as requests
use Rattle.drive_pictures.specs.Requests.{new_request, is_refused}
use Rattle.drive_pictures.specs.Trials.{verdict_trial, in_hand}
use Rattle.hardware_table.specs.declared.Moved.{Moved}
use Rattle.hardware_table.specs.declared.Moved.TheVariants as verdict
use Rattle.pack_geometry.specs.declared.DriveKind.{DriveKind}
use Rattle.run_view.proofs.answers.Drives.{set_here, set_other, set_length, keeps_set}
use Rattle.run_view.proofs.answers.Hearing.{no_refusal}
use Rattle.run_view.proofs.answers.Listening.{Same, told_same, own_at}
use Rattle.run_view.proofs.answers.OwnLines.{told_all}
use Rattle.run_picture.specs.Fold.{Known, heard, drive_at, request_at, told_at, drive_after, drive_end, request_after, back_after, frames_back}
use Rattle.run_picture.specs.Places.{place_of}
use Rattle.trace_replay.specs.requests.Requests.{Request as Wish, Answer}
use Rattle.trace_replay.specs.requests.ServiceOrder.{Waiting, Service}
use Rattle.trace_lines.specs.declared.telling.Told.TheVariants as deed
use Rattle.trace_reader.specs.RoundTrip.{told_of}
use Rattle.trace_replay.specs.History.{is_refusal, with_deed, lines_after}
use Rattle.trace_replay.specs.Moments.{Deed, Sector, End, Told}
use Rattle.trace_replay.specs.Replay.{Replay, LineMay, replay_told, unit_after, frames_after, at_unit, hand_of}
use Rattle.trace_replay.specs.Service.{service_after, first_waiting, ids, frames_needed, request_or_none, target_of}
use Rattle.trace_replay.specs.Service as service
use Rattle.trace_replay.proofs.Kept.{AllFit, after_kind, end_kept}
use Rattle.run_view.proofs.answers.Declaring.{IsIdle}
use Rattle.run_view.proofs.answers.Tying.{IsAsked, IsQueue, IsTied, Tied, Grows, all_stay, all_apart, own_apart, queue_stays, next_in_hand}

-- what is written of a request
record Paper : Type 0 where
  unit_number : ℕ
  why : Option Outcome
  ended : Option ℕ
  needed : ℕ

abbrev paper_of : Request → Paper
paper_of r = record { unit_number = r.unit; why = r.why; ended = r.ended; needed = r.needed }

-- A DEED THAT IS NO END
record Goes (d : Deed) : Type 0 where
  drive : (event place : ℕ) (x : Drive) (r : Request) → drive_after event place (told_of d) x r ≡ drives.tells place (told_of d) x
  request : (event line place : ℕ) (x : Drive) (r : Request) → request_after event line place (told_of d) x r ≡ requests.tells place x (told_of d) r
  back : (place : ℕ) (x : Drive) (r : Request) → back_after place (told_of d) x r ≡ 0
  kind : (place : ℕ) (x : Drive) → (drives.tells place (told_of d) x).kind ≡ x.kind
  hand : (place : ℕ) (x : Drive) → (drives.tells place (told_of d) x).trial.hand ≡ Some place
  paper : (place : ℕ) (x : Drive) (r : Request) → paper_of (requests.tells place x (told_of d) r) ≡ paper_of r
  service : (sv : Service Wish) → service_after sv d ≡ sv
  frames : (s : Replay) (u : ℕ) → frames_after s u d ≡ s.frames
  lines : (l : List Deed) → with_deed d l ≡ d ∷ l

verdict_hand : (v : Moved) (t : Trial) → (verdict_trial v t).hand ≡ t.hand
verdict_hand verdict.Clean t = refl
verdict_hand v t = refl

sort : (d : Deed) → Goes d ⊎ ((a : Answer) × (d ≡ End a))
sort (Sector b v) =
    inl (record { drive = λ e p x r. refl; request = λ e l p x r. refl; back = λ p x r. refl; kind = λ p x. refl; hand = λ p x. verdict_hand v (in_hand p x.trial); paper = λ p x r. refl; service = λ s. refl; frames = λ s u. refl; lines = λ l. refl })
sort (End a) = inr (a, refl)
sort d =
    inl (record { drive = λ e p x r. refl; request = λ e l p x r. refl; back = λ p x r. refl; kind = λ p x. refl; hand = λ p x. refl; paper = λ p x r. refl; service = λ s. refl; frames = λ s u. refl; lines = λ l. refl })

-- ITS PLACE ALONE CHANGES
pub request_many : (l : List Request) (n : ℕ) (r : Request) → length (set l n r) ≡ length l
request_many [] n r = refl
request_many (x ∷ l) zero r = refl
request_many (x ∷ l) (suc n) r = ap (λ (m : ℕ). suc m) (request_many l n r)

pub set_grows : (names : List ℕ) (l : List Request) (place : ℕ) (r : Request) → Grows names names l (set l place r) place
set_grows names l place r = record {
  found = λ id p e. e;
  others = λ p inside apart. (subst (λ n. p < n) (sym (request_many l place r)) inside, get_or-set_other l place p r (new_request 0 0 0 0 false) apart);
}

-- WHAT THE LINE LEAVES AT ITS UNIT
record Own (s : Replay) (k : Known) (l : List Deed) (line u : ℕ) (d : Deed) (place : ℕ) : Type 0 where
  kind : (drive_after k.event place (told_of d) (drive_at k.drives u) (request_at k.requests place)).kind ≡ (drive_at k.drives u).kind
  lent : k.lent - back_after place (told_of d) (drive_at k.drives u) (request_at k.requests place) ≡ frames_after s u d
  queue : IsTied k.ids (told_at place line u (told_of d) k).requests (drive_at (told_at place line u (told_of d) k).drives u) u (with_deed d l) (service_after (s.units u).service d).waiting

none_back : (n : ℕ) → n - 0 ≡ n
none_back n = omega arith

goes_own : (s : Replay) (k : Known) (l : List Deed) (line u : ℕ) (d : Deed) (w : Waiting Wish) (rest : List (Waiting Wish)) → Goes d → length k.drives ≡ 32 → k.lent ≡ s.frames
    → (s.units u).service.waiting ≡ w ∷ rest → (q : IsQueue k.ids k.requests (drive_at k.drives u) u l w rest) → Own s k l line u d q.head.place
goes_own s k l line u d w rest g many lent e q = record {
  kind = ap (λ (z : Drive). z.kind) (g.drive k.event place x r) ∙ g.kind place x;
  lent = ap (λ (n : ℕ). k.lent - n) (g.back place x r) ∙ none_back k.lent ∙ lent ∙ sym (g.frames s u);
  queue = subst (λ (z : List Deed). IsTied k.ids k'.requests (drive_at k'.drives u) u z (service_after (s.units u).service d).waiting) (sym (g.lines l))
      (subst (λ (z : Service Wish). IsTied k.ids k'.requests (drive_at k'.drives u) u (d ∷ l) z.waiting) (sym (g.service (s.units u).service))
      (subst (λ (z : List (Waiting Wish)). IsTied k.ids k'.requests (drive_at k'.drives u) u (d ∷ l) z) (sym e) (record {
        there = q.there;
        head = record {
          place = place;
          asked = record {
            found = q.head.asked.found;
            inside = subst (λ n. place < n) (sym (request_many k.requests place (request_after k.event line place (told_of d) x r))) q.head.asked.inside;
            own = ap (λ (z : Paper). z.unit_number) paper ∙ q.head.asked.own;
            joined = ap (λ (z : Paper). z.why) paper ∙ q.head.asked.joined;
            still = ap (λ (z : Paper). z.ended) paper ∙ q.head.asked.still;
            needed = ap (λ (z : Paper). z.needed) paper ∙ q.head.asked.needed;
          };
          heard = record {
            start = q.head.heard.start;
            fresh = q.head.heard.fresh;
            trial = ap (λ (z : Drive). z.trial) drive_is ∙ same.trial;
            done = ap (λ (z : Request). z.done) request_is ∙ same.done;
            verdict = ap (λ (z : Request). z.verdict) request_is ∙ same.verdict;
            write = ap (λ (z : Request). z.write) request_is ∙ same.write;
          };
          holds = inr (ap (λ (z : Drive). z.trial.hand) drive_is ∙ g.hand place x);
        };
        behind = all_stay k.ids k.ids k.requests k'.requests place u rest (set_grows k.ids k.requests place (request_after k.event line place (told_of d) x r))
            (own_apart k.ids k.requests u place w.request rest q.head.asked.found q.once.0) q.behind;
        once = q.once;
      })));
}
  where
    place : ℕ
    place = q.head.place

    x : Drive
    x = drive_at k.drives u

    r : Request
    r = request_at k.requests place

    k' : Known
    k' = told_at place line u (told_of d) k

    drive_is : drive_at k'.drives u ≡ drives.tells place (told_of d) x
    drive_is = set_here k.drives u (drive_after k.event place (told_of d) x r) (subst (λ n. u < n) (sym many) q.there) ∙ g.drive k.event place x r

    request_is : request_at k'.requests place ≡ requests.tells place x (told_of d) r
    request_is = get_or-set_same k.requests place (request_after k.event line place (told_of d) x r) (new_request 0 0 0 0 false) q.head.asked.inside ∙ g.request k.event line place x r

    paper : paper_of (request_at k'.requests place) ≡ paper_of r
    paper = ap paper_of request_is ∙ g.paper place x r

    same : Same (drives.tells place (told_of d) x) (requests.tells place x (told_of d) r) (told_all place q.head.heard.start (d ∷ l))
    same = told_same place (told_of d) x r (told_all place q.head.heard.start l)
        (record { trial = q.head.heard.trial; done = q.head.heard.done; verdict = q.head.heard.verdict; write = q.head.heard.write })

ended_idle : (event : ℕ) (x : Drive) (r : Request) → IsIdle (drive_end false event x r).trial
ended_idle event x r = record { hand = refl; want = refl; fails = refl; marks = refl }

end_own : (s : Replay) (k : Known) (l : List Deed) (line u : ℕ) (a : Answer) (w : Waiting Wish) (rest : List (Waiting Wish)) → is_refusal a ≡ false → length k.drives ≡ 32 → k.lent ≡ s.frames
    → (s.units u).service.waiting ≡ w ∷ rest → (q : IsQueue k.ids k.requests (drive_at k.drives u) u l w rest) → Own s k l line u (End a) q.head.place
end_own s k l line u a w rest kept many lent e q = record {
  kind = ap (λ (b : Bool). (drive_end b k.event x r).kind) refused;
  lent = ap (λ (b : Bool). k.lent - frames_back b r) refused ∙ ap (λ (n : ℕ). k.lent - n) q.head.asked.needed ∙ ap (λ (n : ℕ). n - frames_needed w.request) lent
      ∙ ap (λ (ws : List (Waiting Wish)). s.frames - frames_needed (request_or_none (first_waiting ws))) (sym e);
  queue = subst (λ (b : Bool). IsTied k.ids k'.requests (drive_at k'.drives u) u (if b then l else []) (drop 1 (s.units u).service.waiting)) (sym kept)
      (subst (λ (z : List (Waiting Wish)). IsTied k.ids k'.requests (drive_at k'.drives u) u [] (drop 1 z)) (sym e)
      (next_in_hand k.ids k'.requests (drive_at k'.drives u) u rest q.there idle
      (all_stay k.ids k.ids k.requests k'.requests place u rest (set_grows k.ids k.requests place (request_after k.event line place deed.End x r))
      (own_apart k.ids k.requests u place w.request rest q.head.asked.found q.once.0) q.behind)
      q.once.1));
}
  where
    place : ℕ
    place = q.head.place

    x : Drive
    x = drive_at k.drives u

    r : Request
    r = request_at k.requests place

    k' : Known
    k' = told_at place line u deed.End k

    refused : is_refused place x r ≡ false
    refused = no_refusal place x r q.head.asked.joined q.head.holds

    drive_is : drive_at k'.drives u ≡ drive_end false k.event x r
    drive_is = set_here k.drives u (drive_after k.event place deed.End x r) (subst (λ n. u < n) (sym many) q.there) ∙ ap (λ (b : Bool). drive_end b k.event x r) refused

    idle : IsIdle (drive_at k'.drives u).trial
    idle = subst (λ (z : Drive). IsIdle z.trial) (sym drive_is) (ended_idle k.event x r)

own : (s : Replay) (k : Known) (lines : ℕ → List Deed) (line u id : ℕ) (d : Deed) (w : Waiting Wish) (rest : List (Waiting Wish)) → LineMay s line u id d → AllFit s lines → length k.drives ≡ 32 → k.lent ≡ s.frames
    → (s.units u).service.waiting ≡ w ∷ rest → (q : IsQueue k.ids k.requests (drive_at k.drives u) u (lines u) w rest) → Goes d ⊎ ((a : Answer) × (d ≡ End a)) → Own s k (lines u) line u d q.head.place
own s k lines line u id d w rest may fit many lent e q (inl g) = goes_own s k (lines u) line u d w rest g many lent e q
own s k lines line u id d w rest may fit many lent e q (inr (a, is)) =
    subst (λ (z : Deed). Own s k (lines u) line u z q.head.place) (sym is)
    (end_own s k (lines u) line u a w rest (end_kept (s.units u).drive (hand_of (s.units u)) (s.units u).stage (End a) (lines u) (subst (λ (z : Deed). LineMay s line u id z) is may).talk (fit u).fits) many lent e q)

-- ALL UNITS
apart_units : (names : List ℕ) (l : List Request) (u x place : ℕ) (w : Wish) → IsAsked names l u w place → x ≢ u → (r : Wish) (p : ℕ) → IsAsked names l x r p → p ≢ place
apart_units names l u x place w own other r p a is = other (sym a.own ∙ ap (λ (n : ℕ). (request_at l n).unit) is ∙ own.own)

line_at : (drives : ℕ → Option DriveKind) (s : Replay) (k : Known) (lines : ℕ → List Deed) (line u id : ℕ) (d : Deed) (w : Waiting Wish) (place : ℕ) → Tied drives s k lines
    → IsAsked k.ids k.requests u w.request place → Own s k (lines u) line u d place
    → Tied drives (replay_told s u d (unit_after s u d)) (told_at place line u (told_of d) k) (λ x. lines_after x (Told line u id d) (lines x))
line_at drives s k lines line u id d w place t asked o = record {
  many = set_length k.drives u (drive_after k.event place (told_of d) (drive_at k.drives u) (request_at k.requests place)) ∙ t.many;
  level = t.level ∙ sym (request_many k.requests place (request_after k.event line place (told_of d) (drive_at k.drives u) (request_at k.requests place)));
  kinds = λ x. keeps_set (λ z. z.kind) k.drives u (drive_after k.event place (told_of d) (drive_at k.drives u) (request_at k.requests place)) x o.kind ∙ t.kinds x;
  same = λ x kind e. elim (eqb_tells x u) [
    | inl same ↦ rw same.0 (after_kind (s.units u).drive (at_unit s u).state (target_of (s.units u).drive.kind (service.in_hand (s.units u).service)) d ∙ t.same u kind (ap drives (sym same.1) ∙ e))
    | inr other ↦ rw other.0 (t.same x kind e)
  ];
  lent = o.lent;
  queues = λ x. elim (eqb_tells x u) [
    | inl same ↦ rw same.0 (subst (λ z. IsTied k.ids k'.requests (drive_at k'.drives z) z (with_deed d (lines z)) (service_after (s.units u).service d).waiting) (sym same.1) o.queue)
    | inr other ↦ rw other.0
        (queue_stays k.ids k.ids k.requests k'.requests place x (drive_at k.drives x) (drive_at k'.drives x) (lines x) (s.units x).service.waiting
        (set_grows k.ids k.requests place (request_after k.event line place (told_of d) (drive_at k.drives u) (request_at k.requests place)))
        (ap (λ (z : Drive). z.trial) (set_other k.drives u (drive_after k.event place (told_of d) (drive_at k.drives u) (request_at k.requests place)) x (λ is. other.1 (sym is))))
        (all_apart k.ids k.requests x place (s.units x).service.waiting (apart_units k.ids k.requests u x place w.request asked other.1))
        (t.queues x))
  ];
}
  where
    k' : Known
    k' = told_at place line u (told_of d) k

line_in : (drives : ℕ → Option DriveKind) (s : Replay) (k : Known) (lines : ℕ → List Deed) (line u id : ℕ) (d : Deed) (ws : List (Waiting Wish)) → LineMay s line u id d → AllFit s lines → Tied drives s k lines
    → (s.units u).service.waiting ≡ ws → IsTied k.ids k.requests (drive_at k.drives u) u (lines u) ws → ids (first_waiting ws) ≡ Some id
    → Tied drives (replay_told s u d (unit_after s u d)) (heard (seen.Told line u id (told_of d)) k) (λ x. lines_after x (Told line u id d) (lines x))
line_in drives s k lines line u id d [] may fit t e q is = absurd (none-some id is)
line_in drives s k lines line u id d (w ∷ rest) may fit t e q is =
    let found : place_of k.ids id ≡ Some q.head.place = subst (λ z. place_of k.ids z ≡ Some q.head.place) (same_Some w.request.id id is) q.head.asked.found in
    subst (λ z. Tied drives (replay_told s u d (unit_after s u d)) z (λ x. lines_after x (Told line u id d) (lines x))) (sym (own_at (place_of k.ids id) line u id k (told_of d) q.head.place found))
    (line_at drives s k lines line u id d w q.head.place t q.head.asked (own s k lines line u id d w rest may fit t.many t.lent e q (sort d)))

pub line_tied : (drives : ℕ → Option DriveKind) (s : Replay) (k : Known) (lines : ℕ → List Deed) (line u id : ℕ) (d : Deed) → LineMay s line u id d → AllFit s lines → Tied drives s k lines
    → Tied drives (replay_told s u d (unit_after s u d)) (heard (seen.Told line u id (told_of d)) k) (λ x. lines_after x (Told line u id d) (lines x))
line_tied drives s k lines line u id d may fit t = line_in drives s k lines line u id d (s.units u).service.waiting may fit t refl (t.queues u) may.service

-- THE HEAD, by its id
pub record HeadAt (names : List ℕ) (l : List Request) (u id : ℕ) : Type 0 where
  pub wish : Wish
  pub place : ℕ
  pub asked : IsAsked names l u wish place
  pub found : place_of names id ≡ Some place

pub head_at : (names : List ℕ) (l : List Request) (x : Drive) (u : ℕ) (lines : List Deed) (id : ℕ) (ws : List (Waiting Wish)) → IsTied names l x u lines ws → ids (first_waiting ws) ≡ Some id
    → HeadAt names l u id
head_at names l x u lines id [] q is = absurd (none-some id is)
head_at names l x u lines id (w ∷ rest) q is =
    record { wish = w.request; place = q.head.place; asked = q.head.asked; found = subst (λ z. place_of names z ≡ Some q.head.place) (same_Some w.request.id id is) q.head.asked.found }

-- and no id comes
pub line_ids : (drives : ℕ → Option DriveKind) (s : Replay) (k : Known) (lines : ℕ → List Deed) (line u id : ℕ) (d : Deed) → LineMay s line u id d → Tied drives s k lines
    → (heard (seen.Told line u id (told_of d)) k).ids ≡ k.ids
line_ids drives s k lines line u id d may t =
    let h : HeadAt k.ids k.requests u id = head_at k.ids k.requests (drive_at k.drives u) u (lines u) id (s.units u).service.waiting (t.queues u) may.service in
    ap (λ (z : Known). z.ids) (own_at (place_of k.ids id) line u id k (told_of d) h.place h.found)
