-- The event that a drain goes on with is the same in the replay and in the machine.
use Rattle.std.proofs.Common.{◌≡◌, ℕ, zero, suc, ◌+◌, ◌<◌, ◌≤◌, Bool, true, false, not, ◌&&◌, filter, List, [], ◌∷◌, length, get_or, Option, Some, None, refl, sym, ap, arith, ◌∙◌, rules}
use Rattle.std.specs.Prelude.{if◌then◌else◌, find}
use Rattle.hardware_table.specs.Drive.{DriveState, is_positioning}
use Rattle.trace_replay.specs.Script.{Input}
use Rattle.trace_replay.specs.Adapters as told
use Rattle.trace_replay.specs.Events as event
use Rattle.trace_replay.specs.Events.{adapters_there, act_of_attend, act_of_move, act_of_arrival}
use Rattle.trace_replay.specs.Replay.{Replay, all_units, act_drained}
use Rattle.driver_machine.specs.World.{World, AdapterView, unit_at, adapter_at, no_unit, new_adapter_view}
use Rattle.driver_machine.specs.Events.{can_arrive, can_move, can_attend, lowest, drain_by, next_event}
use Rattle.driver_machine.specs.Sound.{Sound}
use Rattle.driver_laws.specs.shown.Within.{ShowsAll}
use Rattle.driver_laws.specs.shown.Calls.{AreThere}
use Rattle.driver_laws.proofs.shown.Named.{act_named}
use Rattle.driver_laws.proofs.shown.Events.{can_attend_is}

-- so many numbers from n on
range : ℕ → ℕ → List ℕ
range n zero = []
range n (suc k) = n ∷ range (n + 1) k

units_range : all_units ≡ range 0 32
unfolding range
units_range = refl

adapters_range : adapters_there ≡ range 0 4
unfolding range
adapters_range = refl

-- THE FIRST of them for which a test holds
first_same : (p q : ℕ → Bool) (n k : ℕ) → ((x : ℕ) → n ≤ x → x < n + k → p x ≡ q x) → find p (range n k) ≡ find q (range n k)
unfolding range
first_same p q n zero same = refl
first_same p q n (suc k) same =
    ap (λ (b : Bool). if b then Some n else find p (range (n + 1) k)) (same n (omega arith) (omega arith))
    ∙ ap (λ (rest : Option ℕ). if q n then Some n else rest) (first_same p q (n + 1) k (λ x le less. same x (omega (arith, le)) (omega (arith, less))))

filtered : (b : Bool) (p there q : ℕ → Bool) (n : ℕ) (rest : List ℕ) → there n ≡ b → (b ≡ true → p n ≡ q n) → (b ≡ false → q n ≡ false)
    → find p (filter there rest) ≡ find q rest → find p (filter there (n ∷ rest)) ≡ find q (n ∷ rest)
filtered b p there q n rest is same none later = search rules

first_there : (p there q : ℕ → Bool) (n k : ℕ) → ((x : ℕ) → n ≤ x → x < n + k → there x ≡ true → p x ≡ q x)
    → ((x : ℕ) → n ≤ x → x < n + k → there x ≡ false → q x ≡ false) → find p (filter there (range n k)) ≡ find q (range n k)
unfolding range
first_there p there q n zero same none = refl
first_there p there q n (suc k) same none =
    filtered (there n) p there q n (range (n + 1) k) refl (same n (omega arith) (omega arith)) (none n (omega arith) (omega arith))
    (first_there p there q (n + 1) k (λ x le less. same x (omega (arith, le)) (omega (arith, less))) (λ x le less. none x (omega (arith, le)) (omega (arith, less))))

-- is the lowest of a list
lowest_first : {A : Type 0} (can : A → Bool) (d : A) (xs : List A) (n : ℕ) (q : ℕ → Bool)
    → ((k : ℕ) → k < length xs → q (n + k) ≡ can (get_or xs k d)) → find q (range n (length xs)) ≡ lowest can xs n
unfolding range
lowest_first can d [] n q same = refl
lowest_first can d (x ∷ xs) n q same =
    let here : n + 0 ≡ n = omega arith in
    ap (λ (b : Bool). if b then Some n else find q (range (n + 1) (length xs))) (ap q (sym here) ∙ same 0 (omega arith))
    ∙ ap (λ (rest : Option ℕ). if can x then Some n else rest)
    (lowest_first can d xs (n + 1) q (λ k less.
    let next : n + 1 + k ≡ n + suc k = omega arith in
    ap q next ∙ same (suc k) (omega (arith, less))))

-- THE UNITS that position
arrive_set_up : (w : World) (u : ℕ) → Sound w → u < 32 → can_arrive (unit_at w u) ≡ true → (unit_at w u).declared ≡ true
arrive_set_up w u sound lt can = search rules

not_there : (b c : Bool) → (b ≡ true → c ≡ true) → c ≡ false → b ≡ false
not_there true c holds off = sym (holds refl) ∙ off
not_there false c holds off = refl

first_unit : (w : World) (s : Replay) → Sound w → ShowsAll w s → AreThere w s
    → find (λ unit. is_positioning (s.units unit).drive.work) s.there ≡ lowest can_arrive w.units 0
first_unit w s sound shows there =
    ap (λ (l : List ℕ). find (λ unit. is_positioning (s.units unit).drive.work) l) (there ∙ ap (filter (λ u. (unit_at w u).declared)) units_range)
    ∙ first_there (λ unit. is_positioning (s.units unit).drive.work) (λ u. (unit_at w u).declared) (λ u. can_arrive (unit_at w u)) 0 32
    (λ x le less on. ap (λ (d : DriveState). is_positioning d.work) (shows.units x (record { unit = less; declared = on })).drive)
    (λ x le less off. not_there (can_arrive (unit_at w x)) (unit_at w x).declared (arrive_set_up w x sound less) off)
    ∙ ap (λ (n : ℕ). find (λ u. can_arrive (unit_at w u)) (range 0 n)) (sym sound.units)
    ∙ lowest_first can_arrive no_unit w.units 0 (λ u. can_arrive (unit_at w u))
    (λ k less. ap (λ (n : ℕ). can_arrive (unit_at w n)) (from_zero k))
  where
    from_zero : (k : ℕ) → 0 + k ≡ k
    from_zero k = omega arith

-- THE ADAPTERS that can move, and those that can attend
first_adapter : (can : AdapterView → Bool) (p : ℕ → Bool) (w : World) → Sound w → ((a : ℕ) → a < 4 → p a ≡ can (adapter_at w a))
    → find p adapters_there ≡ lowest can w.adapters 0
first_adapter can p w sound same =
    ap (find p) adapters_range
    ∙ first_same p (λ a. can (adapter_at w a)) 0 4 (λ x le less. same x less)
    ∙ ap (λ (n : ℕ). find (λ a. can (adapter_at w a)) (range 0 n)) (sym sound.adapters)
    ∙ lowest_first can new_adapter_view w.adapters 0 (λ a. can (adapter_at w a))
    (λ k less. ap (λ (n : ℕ). can (adapter_at w n)) (from_zero k))
  where
    from_zero : (k : ℕ) → 0 + k ≡ k
    from_zero k = omega arith

-- SO THE EVENT that comes next is the machine's.
pub drain_is : (w : World) (s : Replay) (input : Input) → Sound w → ShowsAll w s → AreThere w s → next_event w ≡ Some input
    → act_drained s ≡ act_named s input
drain_is w s input sound shows there is =
    ap (act_of_arrival (λ adapter. (s.adapters adapter).state)) (first_unit w s sound shows there)
    ∙ by_unit (lowest can_arrive w.units 0) (lowest can_move w.adapters 0) (lowest can_attend w.adapters 0) is
    (first_adapter can_move (λ a. told.can_move (s.adapters a).state) w sound (λ a four.
    ap (λ (b : Bool). b && not (s.adapters a).state.completion) (shows.adapters a four).busy
    ∙ ap (λ (c : Bool). (adapter_at w a).state.busy && not c) (shows.adapters a four).completion))
    (first_adapter can_attend (λ a. event.can_attend (s.adapters a).state) w sound (λ a four. can_attend_is w s a sound shows four))
  where
    states : ℕ → Rattle.hardware_table.specs.Adapter.AdapterState
    states a = (s.adapters a).state

    some_same : {x y : Input} → Some x ≡ Some y → x ≡ y
    some_same e = grind (arith, e)

    by_unit : (u m a : Option ℕ) → drain_by u m a ≡ Some input
        → find (λ a. told.can_move (s.adapters a).state) adapters_there ≡ m
        → find (λ a. event.can_attend (s.adapters a).state) adapters_there ≡ a
        → act_of_arrival (λ adapter. (s.adapters adapter).state) u ≡ act_named s input
    by_unit (Some u) m a is moves attends = ap (act_named s) (some_same is)
    by_unit None (Some m) a is moves attends = ap (act_of_move (λ adapter. (s.adapters adapter).state)) moves ∙ ap (act_named s) (some_same is)
    by_unit None None (Some a) is moves attends =
        ap (act_of_move (λ adapter. (s.adapters adapter).state)) moves
        ∙ ap (act_of_attend (λ adapter. (s.adapters adapter).state)) attends ∙ ap (act_named s) (some_same is)
    by_unit None None None is moves attends = absurd (grind (arith, is))
