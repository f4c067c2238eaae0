-- Which event a drain does next, and that it ends just where nothing is outstanding.
use Rattle.std.proofs.Common.{◌≡◌, ◌≢◌, inl, inr, ℕ, zero, suc, ◌+◌, ◌-◌, ◌*◌, ◌/◌, ◌<◌, ◌≤◌, Bool, true, false, List, [], ◌∷◌, length, get_or, refl, sym, ap, ◌∙◌, subst, arith, Option, Some, None, rules}
use Rattle.std.specs.Prelude.{if◌then◌else◌, ◌==◌, ◌%◌, not, ◌&&◌, ◌||◌}
use Rattle.std.specs.Int.{bit_at}
use Rattle.std.proofs.lemmas.Nat.Bits.{bit_at-zero, same_from_bits_below}
use Rattle.std.proofs.lemmas.Bool.Decides.{nat_tests}
use Rattle.pack_geometry.specs.declared.DriveKind.{DriveKind}
use Rattle.hardware_table.specs.declared.Work.{Work}
use Rattle.hardware_table.specs.declared.Work.TheVariants as doing
use Rattle.hardware_table.specs.Drive.{is_positioning}
use Rattle.disksort.specs.declared.Waiter.{Waiter}
use Rattle.trace_replay.specs.Script as script
use Rattle.trace_replay.specs.Script.{Input}
use Rattle.driver_machine.specs.declared.Phase.{Phase}
use Rattle.driver_machine.specs.declared.Phase.TheVariants.{Waiting, Positioning, Queued, Transferring, Due}
use Rattle.driver_machine.specs.World.{World, no_unit, new_adapter_view, adapter_of, drive_of, unit_on, unit_of, unit_at, adapter_at, held_in, slot_in_hand}
use Rattle.driver_machine.specs.Events.{can_arrive, can_move, can_attend, lowest, drain_by, next_event}
use Rattle.driver_machine.specs.Sound.{Among, IsStill, IsGoal, IsMoving, IsPhase, Sound, WorkOf, AtWork, slots_of}
use Rattle.driver_machine.proofs.DueFacts.{false_true}
use Rattle.driver_machine.specs.Runs.{CanCome, NoneOutstanding}
use Rattle.driver_laws.proofs.invariant.Deeds.{head_of}
use Rattle.driver_laws.proofs.invariant.Calls.{IsServing, serving, eighth}

-- The lowest element that can.
pub lowest_is : {A : Type 0} (can : A → Bool) (xs : List A) (n u : ℕ) (d : A) → lowest can xs n ≡ Some u
    → (n ≤ u) × (u - n < length xs) × (can (get_or xs (u - n) d) ≡ true)
lowest_is can [] n u d e = absurd (cc (e))
lowest_is can (y ∷ ys) n u d e = by_test (can y) refl e (lowest_is can ys (n + 1) u d)
  where
    later : (n + 1 ≤ u) → (u - (n + 1) < length ys) → (can (get_or ys (u - (n + 1)) d) ≡ true) → (n ≤ u) × (u - n < length (y ∷ ys)) × (can (get_or (y ∷ ys) (u - n) d) ≡ true)
    later le lt some =
        let k : u - n ≡ suc (u - (n + 1)) = omega arith in
        (omega arith, omega arith, subst (λ (j : ℕ). can (get_or (y ∷ ys) j d) ≡ true) (sym k) some)

    by_test : (b : Bool) → can y ≡ b → (if b then Some n else lowest can ys (n + 1)) ≡ Some u
        → (lowest can ys (n + 1) ≡ Some u → (n + 1 ≤ u) × (u - (n + 1) < length ys) × (can (get_or ys (u - (n + 1)) d) ≡ true))
        → (n ≤ u) × (u - n < length (y ∷ ys)) × (can (get_or (y ∷ ys) (u - n) d) ≡ true)
    by_test true s f rest =
        let same : n ≡ u = cc (f) in
        let k : u - n ≡ 0 = omega arith in
        (omega arith, omega arith, subst (λ (j : ℕ). can (get_or (y ∷ ys) j d) ≡ true) (sym k) s)
    by_test false s f rest = let more = rest f in later more.0 more.1 more.2

pub lowest_at : {A : Type 0} (can : A → Bool) (xs : List A) (u : ℕ) (d : A) → lowest can xs 0 ≡ Some u → (u < length xs) × (can (get_or xs u d) ≡ true)
lowest_at can xs u d e =
    let found = lowest_is can xs 0 u d e in
    let same : u - 0 ≡ u = omega arith in
    (omega (arith, found.1), subst (λ (k : ℕ). can (get_or xs k d) ≡ true) same found.2)

-- where there is none, each one can not, and the other way round
pub lowest_none : {A : Type 0} (can : A → Bool) (xs : List A) (n : ℕ) (d : A) → lowest can xs n ≡ None → (x : ℕ) → x < length xs → can (get_or xs x d) ≡ false
lowest_none can [] n d e x lt = absurd (omega arith)
lowest_none can (y ∷ ys) n d e zero lt = by_test (can y) refl e
  where
    by_test : (b : Bool) → can y ≡ b → (if b then Some n else lowest can ys (n + 1)) ≡ None → can y ≡ false
    by_test true s f = absurd (cc (f))
    by_test false s f = s
lowest_none can (y ∷ ys) n d e (suc x) lt = by_test (can y) e (λ f. lowest_none can ys (n + 1) d f x (omega arith))
  where
    by_test : (b : Bool) → (if b then Some n else lowest can ys (n + 1)) ≡ None → (lowest can ys (n + 1) ≡ None → can (get_or ys x d) ≡ false) → can (get_or ys x d) ≡ false
    by_test true f rest = absurd (cc (f))
    by_test false f rest = rest f

pub none_lowest : {A : Type 0} (can : A → Bool) (xs : List A) (n : ℕ) (d : A) → ((x : ℕ) → x < length xs → can (get_or xs x d) ≡ false) → lowest can xs n ≡ None
none_lowest can [] n d none = refl
none_lowest can (y ∷ ys) n d none =
    ap (λ b. if b then Some n else lowest can ys (n + 1)) (none 0 (omega arith))
    ∙ none_lowest can ys (n + 1) d (λ x lt. none (suc x) (omega arith))

-- a unit and an adapter that are there
pub unit_there : (w : World) (u : ℕ) → Sound w → u < 32 → u < length w.units
unit_there w u sound lt = subst (λ (k : ℕ). u < k) (sym sound.units) lt

adapter_there : (w : World) (a : ℕ) → Sound w → a < 4 → a < length w.adapters
adapter_there w a sound lt = subst (λ (k : ℕ). a < k) (sym sound.adapters) lt

drive_of-small : (u : ℕ) → u % 8 < 8
drive_of-small u = omega arith

unit_on-own : (u : ℕ) → 8 * (u / 8) + u % 8 ≡ u
unit_on-own u = omega arith

-- THE ATTENTIONS. One that is up shows in its adapter.
pub shows : (w : World) (u : ℕ) → Sound w → u < 32 → (unit_at w u).drive.attention ≡ true → (adapter_at w (adapter_of u)).state.attentions ≢ 0
shows w u sound lt up none =
    let at : bit_at (adapter_at w (adapter_of u)).state.attentions (drive_of u) ≡ (if (unit_at w (unit_on (adapter_of u) (drive_of u))).drive.attention then 1 else 0) =
    (sound.each_adapter (adapter_of u) (eighth u lt)).raised (drive_of u) (drive_of-small u) in
    let here : (if (unit_at w (unit_on (adapter_of u) (drive_of u))).drive.attention then 1 else 0) ≡ 1 =
    ap (λ k. if (unit_at w k).drive.attention then 1 else 0) (unit_on-own u) ∙ ap (λ b. if b then 1 else 0) up in
    let zero : bit_at (adapter_at w (adapter_of u)).state.attentions (drive_of u) ≡ 0 = ap (λ n. bit_at n (drive_of u)) none ∙ bit_at-zero (drive_of u) in
    absurd (clash (bit_at (adapter_at w (adapter_of u)).state.attentions (drive_of u)) _ zero at here)
  where
    clash : (x y : ℕ) → x ≡ 0 → x ≡ y → y ≡ 1 → ⊥
    clash x y e f g = omega (arith, e, f, g)

-- THE NEXT EVENT is one that can come.
set_up : (w : World) (u : ℕ) → Sound w → u < 32 → is_positioning (unit_at w u).drive.work ≡ true → (unit_at w u).declared ≡ true
set_up w u sound lt can = first_of (search rules, grind arith)

pub next_can : (w : World) (input : Input) → Sound w → next_event w ≡ Some input → CanCome w input
next_can w input sound is = by_each (lowest can_arrive w.units 0) (lowest can_move w.adapters 0) (lowest can_attend w.adapters 0) refl refl refl is
  where
    by_each : (x y z : Option ℕ) → lowest can_arrive w.units 0 ≡ x → lowest can_move w.adapters 0 ≡ y → lowest can_attend w.adapters 0 ≡ z
        → drain_by x y z ≡ Some input → CanCome w input
    by_each (Some u) y z a b c f =
        let found = lowest_at can_arrive w.units u no_unit a in
        let lt : u < 32 = subst (λ (n : ℕ). u < n) sound.units found.0 in
        let same : script.ArriveAt u ≡ input = cc (f) in
        subst (CanCome w) same (record { unit = lt; declared = set_up w u sound lt found.1 }, found.1)
    by_each None (Some a) z p b c f =
        let found = lowest_at can_move w.adapters a new_adapter_view b in
        let lt : a < 4 = subst (λ (n : ℕ). a < n) sound.adapters found.0 in
        let same : script.MoveAt a ≡ input = cc (f) in
        subst (CanCome w) same (lt, found.1)
    by_each None None (Some a) p b c f =
        let found = lowest_at can_attend w.adapters a new_adapter_view c in
        let lt : a < 4 = subst (λ (n : ℕ). a < n) sound.adapters found.0 in
        let same : script.AttendTo a ≡ input = cc (f) in
        subst (CanCome w) same (lt, found.1)
    by_each None None None p b c f = absurd (cc (f))

-- WHERE THERE IS NONE nothing is outstanding,
module _ (w : World) (sound : Sound w) (work : AtWork w) (idle : next_event w ≡ None) where
  all_none : (lowest can_arrive w.units 0 ≡ None) × (lowest can_move w.adapters 0 ≡ None) × (lowest can_attend w.adapters 0 ≡ None)
  all_none = first_of (search rules, grind arith)

  no_arrive : (u : ℕ) → u < 32 → is_positioning (unit_at w u).drive.work ≡ true → ⊥
  no_arrive u lt e =
      let can : can_arrive (unit_at w u) ≡ false = lowest_none can_arrive w.units 0 no_unit all_none.0 u (unit_there w u sound lt) in
      false_true (sym can ∙ e)

  no_busy : (a : ℕ) → a < 4 → (adapter_at w a).state.busy ≡ true → ⊥
  no_busy a lt busy =
      by_completion (adapter_at w a).state.busy (adapter_at w a).state.completion (not ((adapter_at w a).state.attentions == 0)) busy
      (lowest_none can_move w.adapters 0 new_adapter_view all_none.1 a (adapter_there w a sound lt))
      (lowest_none can_attend w.adapters 0 new_adapter_view all_none.2 a (adapter_there w a sound lt))
    where
      by_completion : (b c n : Bool) → b ≡ true → b && not c ≡ false → c || n ≡ false → ⊥
      by_completion true true n is move attend = false_true (sym attend)
      by_completion true false n is move attend = false_true (sym move)
      by_completion false c n is move attend = false_true is

  no_attention : (a : ℕ) → a < 4 → (adapter_at w a).state.attentions ≢ 0 → ⊥
  no_attention a lt some =
      by_test (adapter_at w a).state.completion ((adapter_at w a).state.attentions == 0) refl
      (lowest_none can_attend w.adapters 0 new_adapter_view all_none.2 a (adapter_there w a sound lt))
    where
      no_zero : (n : ℕ) → n == 0 ≡ true → n ≢ 0 → ⊥
      no_zero n e ne = ne (grind (arith, nat_tests))

      by_test : (c none : Bool) → (adapter_at w a).state.attentions == 0 ≡ none → c || not none ≡ false → ⊥
      by_test true none is f = false_true (sym f)
      by_test false true is f = no_zero (adapter_at w a).state.attentions is some
      by_test false false is f = false_true (sym f)

  no_moving : (u : ℕ) → u < 32 → IsMoving (unit_at w u).drive → ⊥
  no_moving u lt moving = elim moving.either [
    | inl goal ↦ no_arrive u lt (goal_positions (unit_at w u).drive.kind (unit_at w u).drive.work goal.0)
    | inr up ↦ no_attention (adapter_of u) (eighth u lt) (shows w u sound lt up.1)
  ]
    where
      goal_positions : (kind : DriveKind) (x : Work) → IsGoal kind x → is_positioning x ≡ true
      goal_positions kind doing.Ready goal = absurd goal
      goal_positions kind (doing.Positioning cylinder sector) goal = refl
      goal_positions kind (doing.Transfer write) goal = absurd goal

  phase_of : (u : ℕ) (x : Phase) → u < 32 → (unit_at w u).phase ≡ x
      → IsPhase u (unit_at w u) (adapter_at w (adapter_of u)) (held_in w (slot_in_hand (unit_at w u))) x
  phase_of u x lt e =
      subst (IsPhase u (unit_at w u) (adapter_at w (adapter_of u)) (held_in w (slot_in_hand (unit_at w u)))) e (sound.each_unit u lt).phase

  none_asked : (u : ℕ) (x : Phase) → u < 32 → (unit_at w u).phase ≡ x → (unit_at w u).queue ≡ []
  none_asked u Waiting lt e = subst (λ (y : Phase). WorkOf y (unit_at w u).queue) e (work.units u lt)
  none_asked u (Positioning taken) lt e = absurd (no_moving u lt (phase_of u (Positioning taken) lt e).1)
  none_asked u Queued lt e = absurd (by_busy (adapter_at w (adapter_of u)).state.busy refl)
    where
      by_busy : (b : Bool) → (adapter_at w (adapter_of u)).state.busy ≡ b → ⊥
      by_busy true f = no_busy (adapter_of u) (eighth u lt) f
      by_busy false f = subst (Among u) (work.adapters (adapter_of u) (eighth u lt) f) (phase_of u Queued lt e).2
  none_asked u Transferring lt e = absurd (no_busy (adapter_of u) (eighth u lt) (phase_of u Transferring lt e).2)
  none_asked u (Due task) lt e = absurd (subst (λ (y : Phase). WorkOf y (unit_at w u).queue) e (work.units u lt))

  pub none_left : NoneOutstanding w
  none_left p h slot = by_end h.ended refl
    where
      by_end : (b : Bool) → h.ended ≡ b → h.ended ≡ true
      by_end true e = e
      by_end false e =
          absurd (subst (λ (q : List Waiter). Among p (slots_of q)) (none_asked h.unit (unit_at w h.unit).phase (sound.each_slot p h slot).unit refl)
          ((sound.each_slot p h slot).queued e))

-- and the other way round.
module _ (w : World) (sound : Sound w) (over : NoneOutstanding w) where
  no_head : (u : ℕ) → u < 32 → 0 < length (unit_at w u).queue → ⊥
  no_head u lt some =
      let head = head_of w u sound lt some in
      false_true (sym head.going_on ∙ over _ head.held head.slot)

  stands_still : (u : ℕ) → u < 32 → IsStill (unit_at w u).drive
  stands_still u lt = search (rules, no_head)

  is_free : (a : ℕ) → a < 4 → (adapter_at w a).state.busy ≡ false
  is_free a lt = by_busy (adapter_at w a).state.busy refl
    where
      by_busy : (b : Bool) → (adapter_at w a).state.busy ≡ b → (adapter_at w a).state.busy ≡ false
      by_busy true e =
          let serves : IsServing w a = serving w a sound e in
          absurd (no_head (unit_of w a) serves.unit serves.some)
      by_busy false e = e

  none_raised : (a : ℕ) → a < 4 → (adapter_at w a).state.attentions ≡ 0
  none_raised a lt =
      same_from_bits_below 8 (adapter_at w a).state.attentions 0 (sound.each_adapter a lt).small (omega arith)
      (λ k below. (sound.each_adapter a lt).raised k below
      ∙ ap (λ b. if b then 1 else 0) (stands_still (unit_on a k) (unit_less a k lt below)).attention ∙ sym (bit_at-zero k))
    where
      unit_less : (a d : ℕ) → a < 4 → d < 8 → 8 * a + d < 32
      unit_less a d four eight = omega (arith, four, eight)

  pub next_idle : next_event w ≡ None
  next_idle =
      let arrives = none_lowest can_arrive w.units 0 no_unit (λ u lt. ap is_positioning (stands_still u (subst (λ (n : ℕ). u < n) sound.units lt)).work) in
      let moves = none_lowest can_move w.adapters 0 new_adapter_view (λ a lt.
      ap (λ b. b && not (adapter_at w a).state.completion) (is_free a (subst (λ (n : ℕ). a < n) sound.adapters lt))) in
      let attends = none_lowest can_attend w.adapters 0 new_adapter_view (λ a lt.
      let small = subst (λ (n : ℕ). a < n) sound.adapters lt in
      ap (λ c. c || not ((adapter_at w a).state.attentions == 0)) ((sound.each_adapter a small).rest (is_free a small))
      ∙ ap (λ n. not (n == 0)) (none_raised a small)) in
      ap (λ x. drain_by x (lowest can_move w.adapters 0) (lowest can_attend w.adapters 0)) arrives
      ∙ ap (λ y. drain_by None y (lowest can_attend w.adapters 0)) moves
      ∙ ap (λ z. drain_by None None z) attends

-- THE DRAIN ENDS just where nothing is outstanding.
pub next_none : (w : World) → Sound w → AtWork w → (next_event w ≡ None → NoneOutstanding w) × (NoneOutstanding w → next_event w ≡ None)
next_none w sound work = ((λ idle. none_left w sound work idle), (λ over. next_idle w sound over))
