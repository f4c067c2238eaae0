-- The blocks that are outstanding are few: at most 127 for each slot of the driver, at each of 32 units.
use Rattle.std.proofs.Common.{◌≡◌, ℕ, zero, suc, ◌+◌, ◌-◌, ◌*◌, ◌^◌, ◌<◌, ◌≤◌, Bool, true, false, List, [], ◌∷◌, length, filter, Option, Some, refl, sym, ap, subst, arith}
use Rattle.std.specs.Prelude.{if◌then◌else◌, unwrap_or, Contains}
use Rattle.std.proofs.lemmas.List.{length-map}
use Rattle.pack_geometry.specs.declared.DriveKind.{DriveKind}
use Rattle.pack_geometry.specs.Pack.{Pack}
use Rattle.disksort.specs.declared.Waiter.{Waiter}
use Rattle.trace_replay.specs.requests.ServiceOrder.{Waiting}
use Rattle.trace_replay.specs.requests.Requests.{Request}
use Rattle.trace_replay.specs.Moments.{Moment}
use Rattle.trace_replay.specs.Replay.{Replay, UnitSeen, all_units, after_moments}
use Rattle.driver_laws.specs.rules.Measure.{blocks_waiting, blocks_of_units, blocks_outstanding}
use Rattle.driver_machine.specs.World.{World, Held, no_held, unit_at, slot_at, held_in, adapter_at, adapter_of}
use Rattle.driver_machine.specs.Guards.{IsSetUp}
use Rattle.driver_machine.specs.Sound.{Sound, slots_of, IsOutstanding, UnitOk}
use Rattle.driver_laws.proofs.invariant.Frame.{slot_there}
use Rattle.driver_laws.proofs.invariant.SlotsLists.{Contains-first, Contains-later, contained_among}
use Rattle.driver_laws.specs.shown.Shows.{Match, IsUnitSeen}
use Rattle.script_runs.specs.StopsPasses.{ShowsAll, IsSoFar}
use Rattle.hp_driver.proofs.Passes.{pigeons}
use Rattle.driver_laws.proofs.shown.QuietStarting.{short}

-- A QUEUE has at most 127 blocks for each of its requests.
sum_few : (a b n m : ℕ) → a ≤ n → b ≤ n * m → a + b ≤ n * suc m
sum_few a b n m first rest = subst (λ (k : ℕ). a + b ≤ k) (sym (times n m)) (both a b n (n * m) first rest)
  where
    times : (n m : ℕ) → n * suc m ≡ n + n * m
    times n m = omega arith

    both : (a b c d : ℕ) → a ≤ c → b ≤ d → a + b ≤ c + d
    both a b c d le also = omega (arith, le, also)

few_waiting : (held : ℕ → Held) (kind : DriveKind) (xs : List Waiter) (ys : List (Waiting Request)) → Match held kind xs ys
    → ((x : Waiter) → Contains xs x → (held x.number).loan.count ≤ 127) → blocks_waiting ys ≤ 127 * length xs
few_waiting held kind [] [] match few = omega arith
few_waiting held kind (x ∷ xs) (y ∷ ys) match few =
    sum_few y.request.count (blocks_waiting ys) 127 (length xs)
    (subst (λ (n : ℕ). n ≤ 127) (match.0.request.count) (few x (Contains-first x xs)))
    (few_waiting held kind xs ys match.1 (λ z in_rest. few z (Contains-later z x xs in_rest)))
few_waiting held kind [] (y ∷ ys) match few = absurd match
few_waiting held kind (x ∷ xs) [] match few = absurd match

held_is : (slots : Option Held) (h : Held) → slots ≡ Some h → unwrap_or slots no_held ≡ h
held_is slots h is = ap (λ (o : Option Held). unwrap_or o no_held) is

held_few : (w : World) (u : ℕ) (x : Waiter) → Sound w → IsOutstanding w u x → (held_in w x.number).loan.count ≤ 127
held_few w u x sound out =
    subst (λ (h : Held). h.loan.count ≤ 127) (sym (held_is (slot_at w x.number) out.held out.slot)) (sound.each_slot x.number out.held out.slot).loan.shape.few

short_queue : (w : World) (u : ℕ) → Sound w → UnitOk w u (unit_at w u) → length (unit_at w u).queue ≤ length w.slots
short_queue w u sound ok =
    subst (λ (n : ℕ). n ≤ length w.slots) (length-map (unit_at w u).queue (λ (x : Waiter). x.number))
    (pigeons (length w.slots) (slots_of (unit_at w u).queue) ok.once
    (λ n among.
    let found = contained_among (unit_at w u).queue n among in
    let out : IsOutstanding w u found.0 = ok.queue found.0 found.1 in
    subst (λ (k : ℕ). k < length w.slots) found.2 (slot_there w.slots found.0.number out.held out.slot)))

unit_few : (w : World) (s : Replay) (u bound : ℕ) → Sound w → ShowsAll w s → IsSetUp w u → length w.slots ≤ bound
    → blocks_waiting (s.units u).service.waiting ≤ 127 * bound
unit_few w s u bound sound shows unit few =
    let ok : UnitOk w u (unit_at w u) = sound.each_unit u unit.unit in
    let seen : IsUnitSeen (held_in w) (unit_at w u) (adapter_at w (adapter_of u)).state (s.units u) = shows.units u unit in
    let own : blocks_waiting (s.units u).service.waiting ≤ 127 * length (unit_at w u).queue =
    few_waiting (held_in w) (unit_at w u).drive.kind (unit_at w u).queue (s.units u).service.waiting seen.queue
    (λ x in_queue. held_few w u x sound (ok.queue x in_queue)) in
    more (blocks_waiting (s.units u).service.waiting) (length (unit_at w u).queue) (length w.slots) bound own (short_queue w u sound ok) few
  where
    more : (n a b c : ℕ) → n ≤ 127 * a → a ≤ b → b ≤ c → n ≤ 127 * c
    more n a b c le short short_too = omega (arith, le, short, short_too)

-- ALL UNITS that are there
abbrev from : ℕ → ℕ → List ℕ
from at zero = []
from at (suc n) = at ∷ from (at + 1) n

all_from : all_units ≡ from 0 32
all_from = refl

abbrev AllOf : (ℕ → Type 0) → List ℕ → Type 0
AllOf P [] = Unit {0}
AllOf P (x ∷ xs) = P x × AllOf P xs

units_few : (units : ℕ → UnitSeen) (bound : ℕ) (xs : List ℕ) → AllOf (λ x. blocks_waiting (units x).service.waiting ≤ bound) xs
    → blocks_of_units units xs ≤ bound * length xs
units_few units bound [] all = omega arith
units_few units bound (x ∷ xs) all =
    sum_few (blocks_waiting (units x).service.waiting) (blocks_of_units units xs) bound (length xs) all.0 (units_few units bound xs all.1)

filter_all : (P : ℕ → Type 0) (test : ℕ → Bool) (xs : List ℕ) → AllOf (λ x. test x ≡ true → P x) xs → AllOf P (filter test xs)
filter_all P test [] all = tt
filter_all P test (x ∷ xs) all = by (test x) all.0 (filter_all P test xs all.1)
  where
    by : (b : Bool) → (b ≡ true → P x) → AllOf P (filter test xs) → AllOf P (if b then x ∷ filter test xs else filter test xs)
    by true here rest = (here refl, rest)
    by false here rest = rest

-- the units that there can be
below_from : (P : ℕ → Type 0) (n at : ℕ) → ((x : ℕ) → x < at + n → P x) → AllOf P (from at n)
below_from P zero at each = tt
below_from P (suc n) at each = (each at (omega arith), below_from P n (at + 1) (λ x less. each x (within x at n less)))
  where
    within : (x at n : ℕ) → x < (at + 1) + n → x < at + suc n
    within x at n less = omega (arith, less)

below_all : (P : ℕ → Type 0) → ((x : ℕ) → x < 32 → P x) → AllOf P all_units
below_all P each = subst (AllOf P) (sym all_from) (below_from P 32 0 each)

-- THE BLOCKS OUTSTANDING at all of them
pub blocks_few : (start : Replay) (line : ℕ) (moments : List Moment) (held : ℕ → Pack) (w : World) → IsSoFar start line moments held w → length w.slots ≤ 65536
    → 200 * blocks_outstanding (after_moments start moments) < 2 ^ 64 - 1
blocks_few start line moments held w far few =
    let s : Replay = after_moments start moments in
    let there : List ℕ = filter (λ u. (unit_at w u).declared) all_units in
    let each : AllOf (λ x. (unit_at w x).declared ≡ true → blocks_waiting (s.units x).service.waiting ≤ 127 * 65536) all_units =
    below_all (λ x. (unit_at w x).declared ≡ true → blocks_waiting (s.units x).service.waiting ≤ 127 * 65536)
    (λ x less on. unit_few w s x 65536 far.left.stands.sound far.left.stands.shows (record { unit = less; declared = on }) few) in
    let all : blocks_of_units s.units there ≤ (127 * 65536) * length there =
    units_few s.units (127 * 65536) there
    (filter_all (λ x. blocks_waiting (s.units x).service.waiting ≤ 127 * 65536) (λ u. (unit_at w u).declared) all_units each) in
    enough (blocks_of_units s.units s.there) (length there)
    (subst (λ (us : List ℕ). blocks_of_units s.units us ≤ (127 * 65536) * length there) (sym far.there) all)
    (short (λ u. (unit_at w u).declared) all_units)
  where
    enough : (n k : ℕ) → n ≤ (127 * 65536) * k → k ≤ 32 → 200 * n < 2 ^ 64 - 1
    enough n k le short = omega (arith, le, short)
