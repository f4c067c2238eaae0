-- Where no line comes, each adapter is started that has units ready at it; and so all units are at work.
use Rattle.std.proofs.lemmas.Bool.{or_parts, false≢true, true≢false, eqb-true}
use Rattle.std.proofs.lemmas.Option.{same_Some, none-some}
use Rattle.trace_replay.specs.Script.{AreApart}
use Rattle.std.proofs.Common.{◌≡◌, inl, ℕ, ◌==◌, ◌&&◌, ◌||◌, Bool, true, false, List, [], ◌∷◌, refl, sym, ap, ◌∙◌, subst, arith, rules}
use Rattle.std.specs.Prelude.{if◌then◌else◌, filter, find, Option, None, Some}
use Rattle.std.specs.Int.{bit_at}
use Rattle.std.specs.List.{list_all}
use Rattle.hardware_table.specs.Drive.{is_positioning}
use Rattle.hardware_table.specs.Adapter.{AdapterState}
use Rattle.trace_replay.specs.Adapters.{AdapterSeen, attentive, drives_of_adapter, can_move}
use Rattle.trace_replay.specs.Conversation.{goes_on}
use Rattle.trace_replay.specs.Events.{Act, NothingToDo, Wish, DueLine, wish_in, is_no_line, can_attend, serving, act_of_attend, act_of_move, act_of_arrival, adapters_there}
use Rattle.trace_replay.specs.Replay.{Replay, next_wish, is_at_work, are_at_work, act_drained, attend_act, UnitSeen}
use Rattle.driver_laws.specs.rules.Consistent.{is_listed, AreDrives, IsAct, IsConsistent, AreUp, IsDue}

no_due : (b : Bool) (w : Wish) (u : ℕ) → is_no_line (if b then DueLine u else w) ≡ true → (b ≡ false) × (is_no_line w ≡ true)
no_due true w u e = absurd (false≢true e)
no_due false w u e = (refl, e)

-- nobody goes on, and the event brings nothing
pub silent : (s : Replay) → is_no_line (next_wish s) ≡ true → (goes_on (s.units s.event.speaker).stage ≡ false) × (is_no_line (wish_in s.adapters s.event.act) ≡ true)
silent s e = no_due (goes_on (s.units s.event.speaker).stage) (wish_in s.adapters s.event.act) s.event.speaker e

pub nobody : (s : Replay) → IsConsistent s → is_no_line (next_wish s) ≡ true → (unit : ℕ) → goes_on (s.units unit).stage ≡ false
nobody s c e unit = search rules

pub all_started : (s : Replay) → IsConsistent s → is_no_line (next_wish s) ≡ true → (k : ℕ) → (s.adapters k).state.busy ≡ false → (s.adapters k).ready ≡ []
all_started s c e k free = search rules

-- ---- at work
pub yes_second : (x y : Bool) → y ≡ true → x || y ≡ true
yes_second true y e = refl
yes_second false y e = e

pub one_at_work : (s : Replay) → IsConsistent s → is_no_line (next_wish s) ≡ true → (unit : ℕ) → is_at_work s unit ≡ true
one_at_work s c e unit = search (rules, true≢false, nobody, all_started, yes_second, false≢true)

pub all_pass : (p : ℕ → Bool) (xs : List ℕ) → ((x : ℕ) → p x ≡ true) → list_all p xs ≡ true
all_pass p [] all = refl
all_pass p (x ∷ xs) all = ap (λ z. z && list_all p xs) (all x) ∙ all_pass p xs all

pub all_at_work : (s : Replay) → IsConsistent s → is_no_line (next_wish s) ≡ true → are_at_work s ≡ true
all_at_work s c e = all_pass (is_at_work s) s.there (one_at_work s c e)

-- ---- what is served are drives
drives_kept : (p : ℕ → Bool) (xs : List ℕ) → AreDrives xs → AreDrives (filter p xs)
drives_kept p [] are = tt
drives_kept p (x ∷ xs) are = at (p x) (drives_kept p xs are.1)
  where
    at : (b : Bool) → AreDrives (filter p xs) → AreDrives (if b then x ∷ filter p xs else filter p xs)
    at true rest = (are.0, rest)
    at false rest = rest

pub attentive_drives : (a : AdapterState) → AreDrives (attentive a)
attentive_drives a =
    drives_kept (λ drive. bit_at a.attentions drive == 1) drives_of_adapter (omega arith, (omega arith, (omega arith, (omega arith, (omega arith, (omega arith, (omega arith, (omega arith, tt))))))))

act_attend : (adapters : ℕ → AdapterState) (k : Option ℕ) → IsAct (act_of_attend adapters k)
act_attend adapters None = tt
act_attend adapters (Some k) = attentive_drives (adapters k)

act_move : (adapters : ℕ → AdapterState) (k : Option ℕ) → IsAct (act_of_move adapters k)
act_move adapters None = act_attend adapters (find (λ adapter. can_attend (adapters adapter)) adapters_there)
act_move adapters (Some k) = tt

act_arrival : (adapters : ℕ → AdapterState) (u : Option ℕ) → IsAct (act_of_arrival adapters u)
act_arrival adapters None = act_move adapters (find (λ adapter. can_move (adapters adapter)) adapters_there)
act_arrival adapters (Some u) = tt

pub drained_act : (s : Replay) → IsAct (act_drained s)
drained_act s = act_arrival (λ adapter. (s.adapters adapter).state) (find (λ unit. is_positioning (s.units unit).drive.work) s.there)

pub attended_act : (k : ℕ) (a : AdapterSeen) → IsAct (attend_act k a)
attended_act k a = at (can_attend a.state)
  where
    at : (b : Bool) → IsAct (if b then serving k a.state else NothingToDo)
    at true = attentive_drives a.state
    at false = tt

-- what is served is up
absent_kept : (p : ℕ → Bool) (x : ℕ) (xs : List ℕ) → is_listed x xs ≡ false → is_listed x (filter p xs) ≡ false
absent_kept p x [] absent = refl
absent_kept p x (y ∷ ys) absent = at (p y) (absent_kept p x ys (or_parts (y == x) (is_listed x ys) absent).1)
  where
    at : (b : Bool) → is_listed x (filter p ys) ≡ false → is_listed x (if b then y ∷ filter p ys else filter p ys) ≡ false
    at true rest = ap (λ z. z || is_listed x (filter p ys)) (or_parts (y == x) (is_listed x ys) absent).0 ∙ rest
    at false rest = rest

up_kept : (bits : ℕ) (xs : List ℕ) → AreApart xs → AreUp bits (filter (λ drive. bit_at bits drive == 1) xs)
up_kept bits [] once = tt
up_kept bits (x ∷ xs) once = at (bit_at bits x == 1) refl (up_kept bits xs once.1)
  where
    at : (b : Bool) → (bit_at bits x == 1) ≡ b → AreUp bits (filter (λ drive. bit_at bits drive == 1) xs)
        → AreUp bits (if b then x ∷ filter (λ drive. bit_at bits drive == 1) xs else filter (λ drive. bit_at bits drive == 1) xs)
    at true e rest = (eqb-true (bit_at bits x) 1 e, absent_kept (λ drive. bit_at bits drive == 1) x xs once.0, rest)
    at false e rest = rest

attentive_up : (a : AdapterState) → AreUp a.attentions (attentive a)
attentive_up a = up_kept a.attentions drives_of_adapter (refl, (refl, (refl, (refl, (refl, (refl, (refl, (refl, tt))))))))

serving_due : (units : ℕ → UnitSeen) (adapters : ℕ → AdapterSeen) (k : ℕ) → IsDue units adapters (serving k (adapters k).state)
serving_due units adapters k = record { completed = λ e. e; up = attentive_up (adapters k).state }

pub found : (p : ℕ → Bool) (xs : List ℕ) (x : ℕ) → find p xs ≡ Some x → p x ≡ true
found p [] x is = absurd (none-some x is)
found p (y ∷ ys) x is = at (p y) refl (found p ys x) is
  where
    at : (b : Bool) → p y ≡ b → (find p ys ≡ Some x → p x ≡ true) → (if b then Some y else find p ys) ≡ Some x → p x ≡ true
    at true e rest is = subst (λ z. p z ≡ true) (same_Some y x is) e
    at false e rest is = rest is

due_attend : (units : ℕ → UnitSeen) (adapters : ℕ → AdapterSeen) (k : Option ℕ) → IsDue units adapters (act_of_attend (λ adapter. (adapters adapter).state) k)
due_attend units adapters None = tt
due_attend units adapters (Some k) = serving_due units adapters k

due_move : (units : ℕ → UnitSeen) (adapters : ℕ → AdapterSeen) (k : Option ℕ) → find (λ adapter. can_move (adapters adapter).state) adapters_there ≡ k
    → IsDue units adapters (act_of_move (λ adapter. (adapters adapter).state) k)
due_move units adapters None is = due_attend units adapters (find (λ adapter. can_attend (adapters adapter).state) adapters_there)
due_move units adapters (Some k) is = found (λ adapter. can_move (adapters adapter).state) adapters_there k is

due_arrival : (there : List ℕ) (units : ℕ → UnitSeen) (adapters : ℕ → AdapterSeen) (u : Option ℕ) → find (λ unit. is_positioning (units unit).drive.work) there ≡ u
    → IsDue units adapters (act_of_arrival (λ adapter. (adapters adapter).state) u)
due_arrival there units adapters None is = due_move units adapters (find (λ adapter. can_move (adapters adapter).state) adapters_there) refl
due_arrival there units adapters (Some u) is = found (λ unit. is_positioning (units unit).drive.work) there u is

pub drained_due : (s : Replay) → IsDue s.units s.adapters (act_drained s)
drained_due s = due_arrival s.there s.units s.adapters (find (λ unit. is_positioning (s.units unit).drive.work) s.there) refl

pub attended_due : (units : ℕ → UnitSeen) (adapters : ℕ → AdapterSeen) (k : ℕ) → IsDue units adapters (attend_act k (adapters k))
attended_due units adapters k = at (can_attend (adapters k).state)
  where
    at : (b : Bool) → IsDue units adapters (if b then serving k (adapters k).state else NothingToDo)
    at true = serving_due units adapters k
    at false = tt

-- THE NEXT EVENT of a drain begins where one is over
pub resumed : (s : Replay) → IsConsistent s → is_no_line (next_wish s) ≡ true → (act : Act) → IsAct act → IsDue s.units s.adapters act
    → IsConsistent (record s { event = record s.event { between = true; act = act } })
resumed s c e act is due = record {
  units = c.units;
  adapters = c.adapters;
  event = record {
    speaker = c.event.speaker;
    served = λ on. absurd (true≢false (sym on ∙ (silent s e).0));
    started = λ k free. inl (all_started s c e k free);
    act = is;
    due = due;
    first = λ on. (silent s e).0;
    at_work = all_at_work s c e;
  };
}
