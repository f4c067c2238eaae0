-- The world at the start is sound, and every unit and adapter is at rest.
use Rattle.std.proofs.Common.{◌≡◌, inl, inr, ℕ, zero, suc, ◌<◌, List, [], ◌∷◌, length, set, get_or, get_or-set_same, get_or-set_other, length-set, replicate, Option, Some, None, refl, sym, ap, ◌∙◌, subst, arith, rules}
use Rattle.std.specs.Prelude.{Contains}
use Rattle.std.proofs.lemmas.List.{length-replicate}
use Rattle.std.proofs.lemmas.Option.{none-some}
use Rattle.std.proofs.lemmas.Bool.{true≢false}
use Rattle.pack_geometry.specs.TableSpelling.{Table}
use Rattle.hardware_table.specs.Noise.{Book, empty_book}
use Rattle.trace_replay.specs.requests.ServiceOrder.{IsInOrder}
use Rattle.trace_replay.proofs.requests.ServiceOrderRuns.{empty-in_order}
use Rattle.disksort.specs.declared.Waiter.{Waiter}
use Rattle.driver_machine.specs.declared.Phase.TheVariants.{Waiting}
use Rattle.driver_machine.specs.World.{World, UnitView, AdapterView, Held, Setup, no_unit, new_unit, new_adapter_view, set_up, new_world, unit_at, adapter_at, adapter_of, held_in, slot_in_hand}
use Rattle.driver_machine.specs.Sound.{Among, Once, slots_of, is_waiting, IsDrive, IsStill, IsPhase, IsTableFor, UnitOk, AdapterOk, frames_used, Sound, AtWork}
use Rattle.driver_laws.specs.invariant.Setups.{units_of, AreSetups}
use Rattle.driver_laws.proofs.invariant.SlotsLists.{Contains-none, Contains-first, Contains-later}

-- an element of a list of one value is that value, which is the default too
replicate_at : {A : Type 0} (n i : ℕ) (x : A) → get_or (replicate n x) i x ≡ x
replicate_at zero i x = refl
replicate_at (suc n) zero x = refl
replicate_at (suc n) (suc i) x = replicate_at n i x

-- A UNIT AT THE START has no request, and its drive stands still.
record IsIdle (v : UnitView) : Type 0 where
  pub queue : v.queue ≡ []
  pub phase : v.phase ≡ Waiting
  pub transfer : v.transfer ≡ None
  pub still : IsStill v.drive
  pub drive : IsDrive v.drive
  pub table : (table : Table) → v.table ≡ Some table → IsTableFor v.drive.kind table

abbrev HasTable : Setup → Type 0
HasTable s = (table : Table) → s.table ≡ Some table → IsTableFor s.kind table

idle_new : (s : Setup) → HasTable s → IsIdle (new_unit s)
idle_new s has = first_of (search rules, grind arith)

idle_none : IsIdle no_unit
idle_none = first_of (search rules, grind arith)

abbrev AreIdle : List UnitView → Type 0
AreIdle units = (u : ℕ) → IsIdle (get_or units u no_unit)

idle_at : (units : List UnitView) (i u : ℕ) (v : UnitView) → IsIdle v → IsIdle (get_or units u no_unit) → IsIdle (get_or (set units i v) u no_unit)
idle_at [] i u v idle e = e
idle_at (x ∷ units) zero zero v idle e = idle
idle_at (x ∷ units) zero (suc u) v idle e = e
idle_at (x ∷ units) (suc i) zero v idle e = e
idle_at (x ∷ units) (suc i) (suc u) v idle e = idle_at units i u v idle e

idle_set_up : (setups : List Setup) (units : List UnitView) → ((s : Setup) → Contains setups s → HasTable s) → AreIdle units → AreIdle (set_up setups units)
idle_set_up [] units has all = all
idle_set_up (s ∷ setups) units has all =
    idle_set_up setups (set units s.unit (new_unit s)) (λ t c. has t (Contains-later t s setups c))
    (λ u. idle_at units s.unit u (new_unit s) (idle_new s (has s (Contains-first s setups))) (all u))

length-set_up : (setups : List Setup) (units : List UnitView) → length (set_up setups units) ≡ length units
length-set_up [] units = refl
length-set_up (s ∷ setups) units = length-set_up setups (set units s.unit (new_unit s)) ∙ length-set units s.unit (new_unit s)

-- a unit that is set up is as its setup says
set_up_other : (setups : List Setup) (units : List UnitView) (u : ℕ) → (Among u (units_of setups) → ⊥) → get_or (set_up setups units) u no_unit ≡ get_or units u no_unit
set_up_other [] units u none = refl
set_up_other (s ∷ setups) units u none =
    set_up_other setups (set units s.unit (new_unit s)) u (λ m. none (inr m))
    ∙ get_or-set_other units s.unit u (new_unit s) no_unit (λ same. none (inl same))

stands_at : (setups : List Setup) (units : List UnitView) (t : Setup) (k : ℕ) → Once (units_of setups) → t.unit < length units → k < length setups
    → get_or setups k t ≡ t → get_or (set_up setups units) t.unit no_unit ≡ new_unit t
stands_at [] units t k once small lt e = absurd (omega (arith, lt))
stands_at (s ∷ setups) units t zero once small lt e =
    subst (λ (x : Setup). get_or (set_up setups (set units x.unit (new_unit x))) t.unit no_unit ≡ new_unit t) (sym e)
    (set_up_other setups (set units t.unit (new_unit t)) t.unit (subst (λ (x : Setup). Among x.unit (units_of setups) → ⊥) e once.0)
    ∙ get_or-set_same units t.unit (new_unit t) no_unit small)
stands_at (s ∷ setups) units t (suc k) once small lt e =
    stands_at setups (set units s.unit (new_unit s)) t k once.1 (subst (λ (n : ℕ). t.unit < n) (sym (length-set units s.unit (new_unit s))) small)
    (omega (arith, lt)) e

no_frames : (n : ℕ) → frames_used (replicate n None) ≡ 0
no_frames zero = refl
no_frames (suc n) = no_frames n

module _ (units : List UnitView) (adapters : List AdapterView) (slots : List (Option Held)) (book : Book) (idle : AreIdle units)
    (free : (a : ℕ) → get_or adapters a new_adapter_view ≡ new_adapter_view) (empty : (p : ℕ) → get_or slots p None ≡ None) where
  abbrev start : World
  start = record { units = units; adapters = adapters; slots = slots; frames = 0; book = book; answers = [] }

  start_unit : (u : ℕ) → UnitOk start u (unit_at start u)
  start_unit u =
      let is = idle u in
      record {
        queue = λ x c. absurd (Contains-none x (subst (λ (queue : List Waiter). Contains queue x) is.queue c));
        once = subst (λ (queue : List Waiter). Once (slots_of queue)) (sym is.queue) tt;
        order = subst (λ (queue : List Waiter). IsInOrder (λ (x : Waiter). x.cylinder) queue) (sym is.queue)
            (empty-in_order (λ (x : Waiter). x.cylinder));
        drive = is.drive;
        head = λ e. absurd (true≢false (ap is_waiting (sym is.phase) ∙ e));
        phase = subst (IsPhase u (unit_at start u) (adapter_at start (adapter_of u)) (held_in start (slot_in_hand (unit_at start u)))) (sym is.phase) (is.still, is.transfer);
        table = is.table;
        undeclared = λ e. is.queue;
      }

  start_adapter : (a : ℕ) → AdapterOk start a (adapter_at start a)
  start_adapter a = first_of (search rules, grind arith)

  start_sound : length units ≡ 32 → length adapters ≡ 4 → frames_used slots ≡ 0 → Sound start
  start_sound many four none = record {
    units = many;
    adapters = four;
    each_unit = λ u lt. start_unit u;
    each_adapter = λ a lt. start_adapter a;
    each_slot = λ p h e. absurd (none-some h (sym (empty p) ∙ e));
    differ = λ p q g h e f a b id. absurd (none-some g (sym (empty p) ∙ e));
    apart = λ p q g h e f ne. absurd (none-some g (sym (empty p) ∙ e));
    frames = sym none;
    room = omega arith;
    answers = λ made p c e. absurd (Contains-none made c);
    refused = λ made c e. absurd (Contains-none made c);
    once = tt;
  }

  start_rests : AtWork start
  start_rests = first_of (search rules, grind arith)

module _ (setups : List Setup) (outstanding noises : ℕ) (are : AreSetups setups) where
  units_idle : AreIdle (set_up setups (replicate 32 no_unit))
  units_idle = idle_set_up setups (replicate 32 no_unit) (λ s c table e. are.tables s table c e) (λ u. subst IsIdle (sym (replicate_at 32 u no_unit)) idle_none)

  pub sound_new : Sound (new_world setups outstanding noises)
  sound_new =
      start_sound (set_up setups (replicate 32 no_unit)) (replicate 4 new_adapter_view) (replicate outstanding None) (empty_book noises) units_idle
      (λ a. replicate_at 4 a new_adapter_view) (λ p. replicate_at outstanding p None)
      (length-set_up setups (replicate 32 no_unit) ∙ length-replicate 32 no_unit) (length-replicate 4 new_adapter_view) (no_frames outstanding)

  pub rests_new : AtWork (new_world setups outstanding noises)
  rests_new =
      start_rests (set_up setups (replicate 32 no_unit)) (replicate 4 new_adapter_view) (replicate outstanding None) (empty_book noises) units_idle
      (λ a. replicate_at 4 a new_adapter_view) (λ p. replicate_at outstanding p None)

  pub stands_new : (s : Setup) → Contains setups s → unit_at (new_world setups outstanding noises) s.unit ≡ new_unit s
  stands_new s c =
      stands_at setups (replicate 32 no_unit) s c.0 are.differ (subst (λ (n : ℕ). s.unit < n) (sym (length-replicate 32 no_unit)) (are.small s c)) c.1 c.2

  pub others_new : (u : ℕ) → (Among u (units_of setups) → ⊥) → unit_at (new_world setups outstanding noises) u ≡ no_unit
  others_new u none = set_up_other setups (replicate 32 no_unit) u none ∙ replicate_at 32 u no_unit
