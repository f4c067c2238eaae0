-- A quiet driver stands for a replay at rest.
use Rattle.std.proofs.Common.{◌≡◌, inl, inr, ℕ, suc, ◌+◌, ◌≤◌, ◌<◌, Bool, true, false, List, [], ◌∷◌, length, Option, Some, None, refl, sym, ap, subst, arith, ◌∙◌, rules}
use Rattle.std.specs.Prelude.{if◌then◌else◌, Contains, slice_index_or, unwrap_or}
use Rattle.std.specs.Int.{bit_at}
use Rattle.std.proofs.lemmas.List.{get_or_past}
use Rattle.std.proofs.lemmas.Nat.Bits.{bit_at-zero}
use Rattle.std.proofs.lemmas.Bool.{false≢true, false_from_ne_true, cases_lt}
use Rattle.pack_geometry.specs.Pack.{Pack}
use Rattle.pack_geometry.specs.declared.DriveKind.TheVariants.{Rp06}
use Rattle.hardware_table.specs.Drive.{DriveState, has_error}
use Rattle.hardware_table.specs.declared.Work.TheVariants as work
use Rattle.disksort.specs.declared.Waiter.{Waiter}
use Rattle.driver_laws.specs.rules.Consistent.{Agrees, IsConsistent}
use Rattle.driver_laws.specs.rules.Calm.{IsGood, IsCalm}
use Rattle.driver_laws.specs.rules.Rest.{IsAtRest}
use Rattle.driver_machine.specs.declared.Phase.{Phase}
use Rattle.driver_machine.specs.declared.Phase.TheVariants.{Waiting}
use Rattle.driver_machine.specs.World.{World, UnitView, AdapterView, Held, unit_at, adapter_at, held_in, slot_in_hand, adapter_of, drive_of, no_unit, new_adapter_view}
use Rattle.driver_machine.specs.Guards.{IsSetUp}
use Rattle.driver_machine.specs.Sound.{Sound, AtWork, WorkOf, IsStill, IsPhase, is_waiting, frames_by, frames_used}
use Rattle.driver_laws.proofs.invariant.SlotsLists.{Contains-first}
use Rattle.driver_laws.specs.shown.Shows.{IsUnitSeen, counted_by, outstanding_in}
use Rattle.driver_laws.specs.shown.Within.{ShowsAll}
use Rattle.driver_laws.specs.shown.Calls.{Stands}
use Rattle.driver_laws.specs.shown.Quiet.{IsQuiet, kind_if, drive_if, setup_of, unit_rested, rested, StandsQuiet, QuietRests}
use Rattle.driver_laws.proofs.rules.Own.{drive_below}
use Rattle.driver_laws.proofs.invariant.Frame.{adapter_of-small, unit_on-own, unit_on-small}

-- ---- lists without requests
no_waiter : (xs : List Waiter) → ((x : Waiter) → Contains xs x → ⊥) → xs ≡ []
no_waiter [] none = refl
no_waiter (x ∷ xs) none = absurd (none x (Contains-first x xs))

waits_only : (p : Phase) (queue : List Waiter) → queue ≡ [] → WorkOf p queue → (is_waiting p ≡ false → 0 < length queue) → p ≡ Waiting
waits_only p queue none works head = search rules

pub none_counted : (slots : List (Option Held)) → ((p : ℕ) (h : Held) → slice_index_or slots p None ≡ Some h → h.ended ≡ true) → outstanding_in slots ≡ 0
none_counted [] ended = refl
none_counted (None ∷ slots) ended = none_counted slots (λ p h is. ended (suc p) h is)
none_counted (Some h ∷ slots) ended = ap (λ b. counted_by b (outstanding_in slots)) (ended 0 h refl) ∙ none_counted slots (λ p g is. ended (suc p) g is)

none_more : (n : ℕ) → n ≡ 0 → 0 + n ≡ 0
none_more n none = omega (arith, none)

used_by : (b : Bool) (h : Held) (others : ℕ) → b ≡ true → others ≡ 0 → frames_by b h + others ≡ 0
used_by true h others ended none = none_more others none
used_by false h others ended none = absurd (false≢true ended)

none_used : (slots : List (Option Held)) → ((p : ℕ) (h : Held) → slice_index_or slots p None ≡ Some h → h.ended ≡ true) → frames_used slots ≡ 0
none_used [] ended = refl
none_used (None ∷ slots) ended = none_used slots (λ p h is. ended (suc p) h is)
none_used (Some h ∷ slots) ended = used_by h.ended h (frames_used slots) (ended 0 h refl) (none_used slots (λ p g is. ended (suc p) g is))

-- ---- a drive that stands still
abbrev pub StillSeen : DriveState → Type 0
StillSeen d = (d.work ≡ work.Ready) × (d.attention ≡ false) × (has_error d ≡ false)

still_seen : (d : DriveState) → IsStill d → StillSeen d
still_seen d s = search rules

still_if : (b : Bool) (d : DriveState) (u : ℕ) → StillSeen d → StillSeen (drive_if b d u)
still_if true d u s = s
still_if false d u s = (refl, refl, refl)

kind_seen : (b : Bool) (d : DriveState) (u : ℕ) → (drive_if b d u).kind ≡ unwrap_or (kind_if b d.kind) Rp06
kind_seen true d u = refl
kind_seen false d u = refl

-- ---- numbers

large_adapter : (x : ℕ) → 32 ≤ x → 4 ≤ adapter_of x
large_adapter x le = omega (arith, le)

module _ (w : World) (held : ℕ → Pack) (sound : Sound w) (works : AtWork w) (q : IsQuiet w) where
  queue_none : (u : ℕ) → u < 32 → (unit_at w u).queue ≡ []
  queue_none u lt = no_waiter (unit_at w u).queue (λ x is. never x is)
    where
      never : (x : Waiter) → Contains (unit_at w u).queue x → ⊥
      never x is =
          false≢true (sym ((sound.each_unit u lt).queue x is).going_on
          ∙ q.none x.number ((sound.each_unit u lt).queue x is).held ((sound.each_unit u lt).queue x is).slot)

  phase_waiting : (u : ℕ) → u < 32 → (unit_at w u).phase ≡ Waiting
  phase_waiting u lt = waits_only (unit_at w u).phase (unit_at w u).queue (queue_none u lt) (works.units u lt) (sound.each_unit u lt).head

  drive_still : (u : ℕ) → StillSeen (unit_at w u).drive
  drive_still u = elim (cases_lt u 32) [
    | inl lt ↦ still_seen (unit_at w u).drive
        (subst (IsPhase u (unit_at w u) (adapter_at w (adapter_of u)) (held_in w (slot_in_hand (unit_at w u)))) (phase_waiting u lt) (sound.each_unit u lt).phase).0
    | inr le ↦ subst (λ (v : UnitView). StillSeen v.drive) (sym (get_or_past w.units u no_unit (subst (λ n. n ≤ u) (sym sound.units) le))) (refl, refl, refl)
  ]

  not_declared : (u : ℕ) → 32 ≤ u → (unit_at w u).declared ≡ false
  not_declared u le = ap (λ (v : UnitView). v.declared) (get_or_past w.units u no_unit (subst (λ n. n ≤ u) (sym sound.units) le))

  free : (a : ℕ) → a < 4 → (adapter_at w a).state.busy ≡ false
  free a lt = search (rules, false_from_ne_true, false≢true, phase_waiting, unit_on-small)

  past_adapter : (a : ℕ) → 4 ≤ a → adapter_at w a ≡ new_adapter_view
  past_adapter a le = get_or_past w.adapters a new_adapter_view (subst (λ n. n ≤ a) (sym sound.adapters) le)

  all_free : (a : ℕ) → (adapter_at w a).state.busy ≡ false
  all_free a = elim (cases_lt a 4) [
    | inl lt ↦ free a lt
    | inr le ↦ ap (λ (v : AdapterView). v.state.busy) (past_adapter a le)
  ]

  all_down : (a : ℕ) → (adapter_at w a).state.completion ≡ false
  all_down a = elim (cases_lt a 4) [
    | inl lt ↦ (sound.each_adapter a lt).rest (free a lt)
    | inr le ↦ ap (λ (v : AdapterView). v.state.completion) (past_adapter a le)
  ]

  all_named : (a : ℕ) → (adapter_at w a).state.drive < 8
  all_named a = elim (cases_lt a 4) [
    | inl lt ↦ (sound.each_adapter a lt).drive
    | inr le ↦ subst (λ (v : AdapterView). v.state.drive < 8) (sym (past_adapter a le)) (omega arith)
  ]

  calls : (x : ℕ) → bit_at (adapter_at w (adapter_of x)).state.attentions (drive_of x) ≡ 0
  calls x = elim (cases_lt x 32) [
    | inl lt ↦ (sound.each_adapter (adapter_of x) (adapter_of-small x lt)).raised (drive_of x) (drive_below x)
        ∙ ap (λ (b : Bool). if b then 1 else 0) (ap (λ u. (unit_at w u).drive.attention) (unit_on-own x) ∙ (drive_still x).1)
    | inr le ↦ ap (λ (v : AdapterView). bit_at v.state.attentions (drive_of x)) (past_adapter (adapter_of x) (large_adapter x le)) ∙ bit_at-zero (drive_of x)
  ]

  good_by : (b : Bool) (u : ℕ) → (unit_at w u).declared ≡ b → IsGood (drive_if b (unit_at w u).drive u)
  good_by true u is = elim (cases_lt u 32) [
    | inl lt ↦ q.good u (record { unit = lt; declared = is })
    | inr le ↦ absurd (false≢true (sym (not_declared u le) ∙ is))
  ]
  good_by false u is = (refl, refl, refl)

  calm : IsCalm (rested w held)
  calm = record { drives = λ u. good_by (unit_at w u).declared u refl; stages = λ u. refl; live = refl }

  rest : IsAtRest (setup_of w held) (rested w held)
  rest = search (rules, kind_seen, calm)

  -- ---- it shows the world
  unit_shown : (x : ℕ) → IsSetUp w x → IsUnitSeen (held_in w) (unit_at w x) (adapter_at w (adapter_of x)).state (unit_rested (unit_at w x) x)
  unit_shown x set = search (rules, queue_none, phase_waiting)

  shows : ShowsAll w (rested w held)
  shows = record {
    units = unit_shown;
    adapters = λ a lt. record {
      busy = refl;
      completion = refl;
      drive = refl;
      block = refl;
      count = refl;
      write = refl;
      moved = refl;
      verdict = refl;
      late = refl;
      attentions = refl;
      counted = λ busy. absurd (false≢true (sym (free a lt) ∙ busy));
    };
    ready = λ a lt. sym (works.adapters a lt (free a lt));
    noise = sym q.live;
    frames = sym (sound.frames ∙ none_used w.slots q.none);
    outstanding = sym (none_counted w.slots q.none);
  }

  stands : Stands held w (rested w held)
  stands = search (rules, shows)

  -- ---- it is consistent
  seen : (x : ℕ) → StillSeen (unit_rested (unit_at w x) x).drive
  seen x = still_if (unit_at w x).declared (unit_at w x).drive x (drive_still x)

  agrees : (x : ℕ) → Agrees (unit_rested (unit_at w x) x) (record { state = (adapter_at w (adapter_of x)).state; ready = [] }) x
  agrees x = search (rules, seen, all_free, calls, false≢true)

  consistent : IsConsistent (rested w held)
  consistent = record {
    units = agrees;
    adapters = λ a. record { drive = all_named a; completion = λ _. all_down a; own = λ u is. absurd (false≢true is); once = tt };
    event = record {
      speaker = λ u is. absurd (false≢true is);
      served = λ is. absurd (false≢true is);
      started = λ a _. inl refl;
      act = tt;
      due = tt;
      first = λ is. absurd (false≢true is);
      at_work = tt;
    };
  }

  pub stands_quiet : StandsQuiet held w (rested w held)
  stands_quiet = record { rest = rest; stands = stands; consistent = consistent; there = refl; finished = refl }

pub quiet_rests : QuietRests
quiet_rests w held sound works q = stands_quiet w held sound works q
