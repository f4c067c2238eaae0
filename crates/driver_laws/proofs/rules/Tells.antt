-- Each event of a drain tells at least one event line.
use Rattle.std.proofs.Common.{◌≡◌, inl, inr, ℕ, ◌+◌, ◌≤◌, ◌==◌, ◌&&◌, nat_lt, Bool, true, false, List, [], ◌∷◌, find, Option, None, Some, refl, sym, ap, ◌∙◌, subst, rules}
use Rattle.std.specs.Prelude.{if◌then◌else◌}
use Rattle.std.proofs.lemmas.Bool.Decides.{eqb_tells}
use Rattle.std.proofs.lemmas.Bool.{false_from_ne_true}
use Rattle.hardware_table.specs.Drive.{is_positioning}
use Rattle.trace_replay.specs.requests.Requests.{Request}
use Rattle.trace_replay.specs.Script.{Input, Submit, Drain}
use Rattle.trace_replay.specs.Moments.{Deed, Moment, Played, Told, Idle}
use Rattle.trace_replay.specs.Adapters.{AdapterSeen, can_move}
use Rattle.trace_replay.specs.Conversation.{goes_on}
use Rattle.trace_replay.specs.Events.{Event, Wish, NoLine, DueLine, Arrival, SectorLine, Interrupt, Attention, Refusal, wish_of, wish_in, wanted, is_no_line, can_attend, adapters_there, act_of_attend, act_of_move, act_of_arrival}
use Rattle.trace_replay.specs.Replay.{Replay, with_state, next_wish, act_drained, drained, LineMay, ToldMay, MayCome, Follows, after_moment, after_moments, unit_after, told_after, replay_told, Submission, Refused, Joined, submission, submitted, replay_played, speaker_of}
use Rattle.trace_replay.proofs.Kept.{no}
use Rattle.driver_laws.specs.rules.Drains.{event_by, events_in, IsIdle}
use Rattle.driver_laws.proofs.rules.Packs.{its_own}
use Rattle.driver_laws.proofs.rules.Working.{found as found_holds}

-- ---- the wish of an event of a drain that has just begun
abbrev BringsEvent : Wish → Type 0
BringsEvent NoLine = Unit {0}
BringsEvent (Arrival u) = Unit {0}
BringsEvent (SectorLine u) = Unit {0}
BringsEvent (Interrupt u) = Unit {0}
BringsEvent (Attention u) = Unit {0}
BringsEvent wish = ⊥

attend_brings : (adapters : ℕ → AdapterSeen) (found : Option ℕ) → ((adapter : ℕ) → found ≡ Some adapter → can_attend (adapters adapter).state ≡ true)
    → BringsEvent (wish_in adapters (act_of_attend (λ adapter. (adapters adapter).state) found))
attend_brings adapters found holds = search rules

move_brings : (adapters : ℕ → AdapterSeen) (found : Option ℕ) → BringsEvent (wish_in adapters (act_of_move (λ adapter. (adapters adapter).state) found))
move_brings adapters None =
    attend_brings adapters (find (λ adapter. can_attend (adapters adapter).state) adapters_there)
    (λ adapter is. found_holds (λ a. can_attend (adapters a).state) adapters_there adapter is)
move_brings adapters (Some adapter) = tt

arrival_brings : (adapters : ℕ → AdapterSeen) (found : Option ℕ) → BringsEvent (wish_in adapters (act_of_arrival (λ adapter. (adapters adapter).state) found))
arrival_brings adapters None = move_brings adapters (find (λ adapter. can_move (adapters adapter).state) adapters_there)
arrival_brings adapters (Some unit) = tt

drain_brings : (s : Replay) → BringsEvent (wish_in s.adapters (act_drained s))
drain_brings s = arrival_brings s.adapters (find (λ unit. is_positioning (s.units unit).drive.work) s.there)

-- a drain's event has just begun, and requests are outstanding
pub record HasBegun (s : Replay) : Type 0 where
  pub quiet : goes_on (s.units s.event.speaker).stage ≡ false
  pub act : s.event.act ≡ act_drained s
  pub drains : s.event.drains && nat_lt 0 s.outstanding ≡ true

begun_brings : (s : Replay) → HasBegun s → BringsEvent (next_wish s)
begun_brings s h = subst (λ z. BringsEvent (wanted s.adapters s.event z)) (sym h.quiet) (subst (λ z. BringsEvent (wish_in s.adapters z)) (sym h.act) (drain_brings s))

event_told : (unit : ℕ) (deed : Deed) → BringsEvent (wish_of unit deed) → event_by deed + 0 ≡ 1
event_told unit deed b = search rules

told_tells : (wish : Wish) (s : Replay) (line unit id : ℕ) (deed : Deed) → ToldMay wish s line unit id deed → next_wish s ≡ wish → BringsEvent (next_wish s) → event_by deed + 0 ≡ 1
told_tells (Refusal u i why) s line unit id deed may is b = absurd (subst BringsEvent is b)
told_tells other s line unit id deed may is b = event_told unit deed (subst BringsEvent may.wished b)

pub begun_tells : (s : Replay) (m : Moment) → HasBegun s → MayCome s m → events_in (m ∷ []) ≡ 1
begun_tells s (Played line input) h may = absurd (no (sym may.finished ∙ h.drains))
begun_tells s (Told line unit id deed) h may = told_tells (next_wish s) s line unit id deed may refl (begun_brings s h)
begun_tells s (Idle line) h may = absurd (subst BringsEvent may.nothing (begun_brings s h))

-- ---- between two events one has just begun
quiet_then : (adapters : ℕ → AdapterSeen) (e : Event) (b : Bool) → is_no_line (wanted adapters e b) ≡ true → b ≡ false
quiet_then adapters e true is = absurd (no is)
quiet_then adapters e false is = refl

parts_of : (a b c : Bool) → a && (b && c) ≡ true → (a && c ≡ true) × (b ≡ true)
parts_of a b c is = search rules

drained_begun : (t : Replay) → t.event.between ≡ false → (drained t).event.between ≡ true → HasBegun (drained t)
drained_begun t off on = at (t.event.drains && (is_no_line (next_wish t) && nat_lt 0 t.outstanding)) refl on
  where
    at : (b : Bool) → t.event.drains && (is_no_line (next_wish t) && nat_lt 0 t.outstanding) ≡ b
        → (if b then record t { event = record t.event { between = true; act = act_drained t } } else t).event.between ≡ true
        → HasBegun (if b then record t { event = record t.event { between = true; act = act_drained t } } else t)
    at true is was = record {
      quiet = quiet_then t.adapters t.event (goes_on (t.units t.event.speaker).stage) (parts_of t.event.drains (is_no_line (next_wish t)) (nat_lt 0 t.outstanding) is).1;
      act = refl;
      drains = (parts_of t.event.drains (is_no_line (next_wish t)) (nat_lt 0 t.outstanding) is).0;
    }
    at false is was = absurd (no (sym off ∙ was))

abbrev pub Between : Replay → Type 0
Between s = s.event.between ≡ true → HasBegun s

told_between : (wish : Wish) (s : Replay) (line unit id : ℕ) (deed : Deed) → next_wish s ≡ wish → Between s → Between (told_after wish s unit deed)
told_between (Refusal u i why) s line unit id deed is b = λ on. absurd (subst BringsEvent is (begun_brings s (b on)))
told_between other s line unit id deed is b = λ on. drained_begun (replay_told s unit deed (unit_after s unit deed)) refl on

pub moments_between : (s : Replay) (ms : List Moment) → Follows s ms → Between s → Between (after_moments s ms)
moments_between s [] follows b = b
moments_between s (Played line input ∷ ms) follows b = moments_between (after_moment s (Played line input)) ms follows.1 (λ on. absurd (no on))
moments_between s (Told line unit id deed ∷ ms) follows b =
    moments_between (after_moment s (Told line unit id deed)) ms follows.1 (told_between (next_wish s) s line unit id deed refl b)
moments_between s (Idle line ∷ ms) follows b =
    moments_between (after_moment s (Idle line)) ms follows.1 (λ on. absurd (subst BringsEvent follows.0.nothing (begun_brings s (b on))))

-- EACH EVENT OF A DRAIN has at least one of them: where one event is over and the next has begun, nothing else may come
pub events_tell : (start : Replay) (ms : List Moment) (m : Moment) → IsIdle start → Follows start ms → (after_moments start ms).event.between ≡ true
    → MayCome (after_moments start ms) m → events_in (m ∷ []) ≡ 1
events_tell start ms m idle follows on may =
    begun_tells (after_moments start ms) m (moments_between start ms follows (λ off. absurd (no (sym idle.between ∙ off))) on) may

-- ---- only the unit that spoke last goes on
abbrev GoesOn : Replay → Type 0
GoesOn s = (x : ℕ) → goes_on (s.units x).stage ≡ true → x ≡ s.event.speaker

going_wish : (adapters : ℕ → AdapterSeen) (e : Event) (b : Bool) → b ≡ true → wanted adapters e b ≡ DueLine e.speaker
going_wish adapters e true is = refl
going_wish adapters e false is = absurd (no is)

speaker_wish : (s : Replay) (x : ℕ) → GoesOn s → goes_on (s.units x).stage ≡ true → next_wish s ≡ DueLine x
speaker_wish s x g is =
    going_wish s.adapters s.event (goes_on (s.units s.event.speaker).stage) (subst (λ z. goes_on (s.units z).stage ≡ true) (g x is) is) ∙ sym (ap DueLine (g x is))

line_going : (s : Replay) (line unit id : ℕ) (deed : Deed) → LineMay s line unit id deed → GoesOn s → (x : ℕ) → goes_on (with_state s.units unit (unit_after s unit deed) x).stage ≡ true → x ≡ unit
line_going s line unit id deed may g x is = elim (eqb_tells x unit) [
  | inl same ↦ same.1
  | inr other ↦ its_own x unit deed (sym (speaker_wish s x g (rw other.0 at is)) ∙ may.wished)
]

drained_going : (t : Replay) → GoesOn t → GoesOn (drained t)
drained_going t g = at (t.event.drains && (is_no_line (next_wish t) && nat_lt 0 t.outstanding))
  where
    at : (b : Bool) → GoesOn (if b then record t { event = record t.event { between = true; act = act_drained t } } else t)
    at true = g
    at false = g

told_going : (wish : Wish) (s : Replay) (line unit id : ℕ) (deed : Deed) → ToldMay wish s line unit id deed → GoesOn s → GoesOn (told_after wish s unit deed)
told_going (Refusal u i why) s line unit id deed may g = g
told_going other s line unit id deed may g = drained_going (replay_told s unit deed (unit_after s unit deed)) (line_going s line unit id deed may g)

none_goes_on : (s : Replay) → next_wish s ≡ NoLine → GoesOn s → (x : ℕ) → goes_on (s.units x).stage ≡ true → ⊥
none_goes_on s over g x is = search rules

submitted_going : (s : Replay) (r : Request) (met : Submission) → ((x : ℕ) → goes_on (s.units x).stage ≡ true → ⊥) → (x : ℕ) → goes_on ((submitted s r met).units x).stage ≡ true → x ≡ r.unit
submitted_going s r (Refused why) none x is = absurd (none x is)
submitted_going s r Joined none x is = elim (eqb_tells x r.unit) [
  | inl same ↦ same.1
  | inr other ↦ absurd (none x (rw other.0 at is))
]

played_going : (s : Replay) (input : Input) → ((x : ℕ) → goes_on (s.units x).stage ≡ true → ⊥) → (x : ℕ) → goes_on ((replay_played s input).units x).stage ≡ true → x ≡ speaker_of input
played_going s (Submit r) none x is = submitted_going s r (submission s r) none x is
played_going s input none x is = absurd (none x is)

moments_going : (s : Replay) (ms : List Moment) → Follows s ms → GoesOn s → GoesOn (after_moments s ms)
moments_going s [] follows g = g
moments_going s (Played line input ∷ ms) follows g =
    moments_going (after_moment s (Played line input)) ms follows.1 (played_going s input (none_goes_on s follows.0.over g))
moments_going s (Told line unit id deed ∷ ms) follows g =
    moments_going (after_moment s (Told line unit id deed)) ms follows.1 (told_going (next_wish s) s line unit id deed follows.0 g)
moments_going s (Idle line ∷ ms) follows g = moments_going (after_moment s (Idle line)) ms follows.1 g

pub some_counted : (n : ℕ) → 1 ≤ n → (n == 0 ≡ false) × (nat_lt 0 n ≡ true)
some_counted n some = search rules

-- and so it is behind the line of the script that drains, where requests are outstanding
pub drains_tell : (start : Replay) (ms : List Moment) (number : ℕ) (m : Moment) → IsIdle start → Follows start ms
    → MayCome (after_moments start ms) (Played number Drain) → 1 ≤ (after_moments start ms).outstanding
    → MayCome (after_moment (after_moments start ms) (Played number Drain)) m → events_in (m ∷ []) ≡ 1
drains_tell start ms number m idle follows may some = begun_tells (after_moment s (Played number Drain)) m begun
  where
    s : Replay
    s = after_moments start ms

    begun : HasBegun (after_moment s (Played number Drain))
    begun = record {
      quiet = false_from_ne_true (goes_on (s.units 0).stage)
          (none_goes_on s may.over (moments_going start ms follows (λ x off. absurd (no (sym (ap goes_on (idle.stages x)) ∙ off)))) 0);
      act = rw (some_counted s.outstanding some).0 refl;
      drains = (some_counted s.outstanding some).1;
    }
