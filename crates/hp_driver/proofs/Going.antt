-- Acts of which some are done and others left: one part behind another, and a part that is done again and again.
use Rattle.std.proofs.Common.{◌≡◌, ℕ, zero, suc, ◌+◌, ◌-◌, ◌<◌, Bool, true, List, [], ◌∷◌, ◌++◌, drop, refl, sym, ap, ◌∙◌, subst, arith, get_or}
use Rattle.std.specs.Prelude.{Result, Ok, Err, eqb}
use Rattle.std.proofs.lemmas.List.{append_assoc}
use Rattle.std.proofs.lemmas.Bool.{agree_below_at, eqb-true}
use Rattle.std.proofs.Math.Seq.{drop-cons}
use Rattle.driver_machine.specs.World.{World}
use Rattle.driver_machine.specs.Acts.{Act, after_all}
use Rattle.driver_machine.specs.Events.{Part, followed, each, go_on, until, drives}
use Rattle.driver_machine.specs.Sound.{Sound}
use Rattle.hp_core.specs.Passes.{Stop}
use Rattle.hp_core.specs.State.{State}
use Rattle.hp_driver.specs.Done.{DoesActs}
use Rattle.hp_driver.proofs.Joined.{said, done_nothing, then_acts, stopped, all_done, AllDone}

-- some acts are done; with those that are left they are all
pub record Going {O : Type 0} (tells : O → Bool) (taken : O → List ℕ) (faults : O → ℕ) (trace trace' : O) (old new : State) (all left : List Act) : Type 0 where
  pub done : List Act
  pub does : DoesActs {A = Unit {0}} tells taken faults trace trace' old new (Ok tt) done
  pub whole : done ++ left ≡ all
  pub sound : Sound new.world

module _ {O : Type 0} (tells : O → Bool) (taken : O → List ℕ) (faults : O → ℕ) where
  pub none_yet : (trace : O) (s : State) (all : List Act) → Sound s.world → Going tells taken faults trace trace s s all all
  none_yet trace s all sound = record { done = []; does = done_nothing tells taken faults trace s tt; whole = refl; sound = sound }

  -- a part is done
  pub one_part : {A : Type 0} (trace mid_trace trace' : O) (old mid new : State) (x : A) (all first : List Act) (part : Part)
      → Going tells taken faults trace mid_trace old mid all (followed first part mid.world)
      → DoesActs tells taken faults mid_trace trace' mid new (Ok x) first → Going tells taken faults trace trace' old new all (part new.world)
  one_part trace mid_trace trace' old mid new x all first part going does =
      let over : AllDone mid.world new.world first = all_done tells taken faults mid_trace trace' mid new x first going.sound does in
      record {
        done = going.done ++ first;
        does = then_acts tells taken faults trace mid_trace trace' old mid new tt (Ok tt) going.done first going.does (said tells taken faults mid_trace trace' mid new x tt first does);
        whole = ap (λ (w : World). (going.done ++ first) ++ part w) over.world ∙ append_assoc going.done first (part (after_all mid.world first)) ∙ going.whole;
        sound = over.sound;
      }

  -- what is left is done, or a part of it stopped
  pub the_rest : {A : Type 0} (trace mid_trace trace' : O) (old mid new : State) (result : Result A Stop) (all left : List Act)
      → Going tells taken faults trace mid_trace old mid all left → DoesActs tells taken faults mid_trace trace' mid new result left
      → DoesActs tells taken faults trace trace' old new result all
  the_rest trace mid_trace trace' old mid new result all left going does =
      subst (λ (acts : List Act). DoesActs tells taken faults trace trace' old new result acts) going.whole
      (then_acts tells taken faults trace mid_trace trace' old mid new tt result going.done left going.does does)

  pub cut_short : {A B : Type 0} (trace mid_trace trace' : O) (old mid new : State) (stop : Stop) (all first : List Act) (part : Part)
      → Going tells taken faults trace mid_trace old mid all (followed first part mid.world)
      → DoesActs {A = A} tells taken faults mid_trace trace' mid new (Err stop) first → DoesActs {A = B} tells taken faults trace trace' old new (Err stop) all
  cut_short trace mid_trace trace' old mid new stop all first part going does =
      the_rest trace mid_trace trace' old mid new (Err stop) all (followed first part mid.world) going
      (stopped tells taken faults mid_trace trace' mid new stop first (part (after_all mid.world first)) does)

  pub none_left : {A : Type 0} (trace trace' : O) (old new : State) (x : A) (all : List Act) → Going tells taken faults trace trace' old new all []
      → DoesActs tells taken faults trace trace' old new (Ok x) all
  none_left trace trace' old new x all going =
      the_rest trace trace' trace' old new new (Ok x) all [] going (done_nothing tells taken faults trace' new x)

-- A PART THAT IS DONE AGAIN: one turn of it, and then the others
pub one_turn : (part : Part) (n : ℕ) (w : World) → until (suc n) part w ≡ followed (part w) (until n part) w
one_turn part n w = by (part w) refl
  where
    none : (n : ℕ) → part w ≡ [] → until n part w ≡ []
    none zero is = refl
    none (suc n) is = ap (λ (acts : List Act). go_on acts (until n part) w) is

    by : (acts : List Act) → part w ≡ acts → go_on acts (until n part) w ≡ followed acts (until n part) w
    by [] is = sym (none n is)
    by (act ∷ acts) is = refl

-- nothing more is done where a turn finds nothing to do
pub no_turn : (part : Part) (n : ℕ) (w : World) → part w ≡ [] → until n part w ≡ []
no_turn part zero w none = refl
no_turn part (suc n) w none = ap (λ (acts : List Act). go_on acts (until n part) w) none

left_over : (n i : ℕ) → i < n → n - i ≡ suc (n - (i + 1))
left_over n i less = omega (arith, less)

module _ {O : Type 0} (tells : O → Bool) (taken : O → List ℕ) (faults : O → ℕ) (trace mid_trace trace' : O) (old mid new : State) (all : List Act) (part : Part) (n i : ℕ) where
  next_turn : i < n → Going tells taken faults trace mid_trace old mid all (until (n - i) part mid.world)
      → Going tells taken faults trace mid_trace old mid all (followed (part mid.world) (until (n - (i + 1)) part) mid.world)
  next_turn less going =
      subst (λ (acts : List Act). Going tells taken faults trace mid_trace old mid all acts)
      (ap (λ (k : ℕ). until k part mid.world) (left_over n i less) ∙ one_turn part (n - (i + 1)) mid.world) going

  pub turned : {A : Type 0} (x : A) → i < n → Going tells taken faults trace mid_trace old mid all (until (n - i) part mid.world)
      → DoesActs tells taken faults mid_trace trace' mid new (Ok x) (part mid.world)
      → Going tells taken faults trace trace' old new all (until (n - (i + 1)) part new.world)
  turned x less going does =
      one_part tells taken faults trace mid_trace trace' old mid new x all (part mid.world) (until (n - (i + 1)) part) (next_turn less going) does

  pub turn_stopped : {A B : Type 0} (stop : Stop) → i < n → Going tells taken faults trace mid_trace old mid all (until (n - i) part mid.world)
      → DoesActs {A = A} tells taken faults mid_trace trace' mid new (Err stop) (part mid.world)
      → DoesActs {A = B} tells taken faults trace trace' old new (Err stop) all
  turn_stopped stop less going does =
      cut_short tells taken faults trace mid_trace trace' old mid new stop all (part mid.world) (until (n - (i + 1)) part) (next_turn less going) does

  pub turn_empty : {A B : Type 0} (x : A) (y : B) → Going tells taken faults trace mid_trace old mid all (until (n - i) part mid.world)
      → DoesActs tells taken faults mid_trace trace' mid new (Ok x) (part mid.world) → part mid.world ≡ []
      → DoesActs tells taken faults trace trace' old new (Ok y) all
  turn_empty x y going does none =
      the_rest tells taken faults trace mid_trace trace' old mid new (Ok y) all (until (n - i) part mid.world) going
      (subst (λ (acts : List Act). DoesActs tells taken faults mid_trace trace' mid new (Ok y) acts)
      (none ∙ sym (no_turn part (n - i) mid.world none)) (said tells taken faults mid_trace trace' mid new x y (part mid.world) does))

-- THE EIGHT DRIVES one after another
pub drives_from : (i : ℕ) → i < 8 → drop i drives ≡ i ∷ drop (i + 1) drives
drives_from i less = at i less (i + 1) (next i)
  where
    next : (i : ℕ) → i + 1 ≡ suc i
    next i = omega arith

    at : (i : ℕ) → i < 8 → (j : ℕ) → j ≡ suc i → drop i drives ≡ i ∷ drop j drives
    at i less j e = drop-cons drives i 0 less ∙ ap (λ (d : ℕ). d ∷ drop (suc i) drives) (is i less) ∙ ap (λ (k : ℕ). i ∷ drop k drives) (sym e)
      where
        is : (i : ℕ) → i < 8 → get_or drives i 0 ≡ i
        is i less = eqb-true (get_or drives i 0) i (agree_below_at (λ k. eqb (get_or drives k 0) k) (λ _. true) 8 i refl less)

-- THE TURNS at their start and their end
module _ {O : Type 0} (tells : O → Bool) (taken : O → List ℕ) (faults : O → ℕ) where
  pub at_first : (trace : O) (s : State) (part : Part) (n : ℕ) → Sound s.world → Going tells taken faults trace trace s s (until n part s.world) (until (n - 0) part s.world)
  at_first trace s part n sound =
      subst (λ (k : ℕ). Going tells taken faults trace trace s s (until n part s.world) (until k part s.world)) (whole n)
      (none_yet tells taken faults trace s (until n part s.world) sound)
    where
      whole : (n : ℕ) → n ≡ n - 0
      whole n = omega arith

  pub at_last : {A : Type 0} (trace trace' : O) (old new : State) (y : A) (all : List Act) (part : Part) (n i : ℕ) → i ≡ n
      → Going tells taken faults trace trace' old new all (until (n - i) part new.world) → DoesActs tells taken faults trace trace' old new (Ok y) all
  at_last trace trace' old new y all part n i end going =
      none_left tells taken faults trace trace' old new y all
      (subst (λ (k : ℕ). Going tells taken faults trace trace' old new all (until k part new.world)) (none n i end) going)
    where
      none : (n i : ℕ) → i ≡ n → n - i ≡ 0
      none n i end = omega (arith, end)

-- EACH DRIVE
module _ {O : Type 0} (tells : O → Bool) (taken : O → List ℕ) (faults : O → ℕ) (trace mid_trace trace' : O) (old mid new : State) (all : List Act) (part : ℕ → Part) (i : ℕ) where
  next_drive : i < 8 → Going tells taken faults trace mid_trace old mid all (each part (drop i drives) mid.world)
      → Going tells taken faults trace mid_trace old mid all (followed (part i mid.world) (each part (drop (i + 1) drives)) mid.world)
  next_drive less going =
      subst (λ (ds : List ℕ). Going tells taken faults trace mid_trace old mid all (each part ds mid.world)) (drives_from i less) going

  pub drive_done : {A : Type 0} (x : A) → i < 8 → Going tells taken faults trace mid_trace old mid all (each part (drop i drives) mid.world)
      → DoesActs tells taken faults mid_trace trace' mid new (Ok x) (part i mid.world)
      → Going tells taken faults trace trace' old new all (each part (drop (i + 1) drives) new.world)
  drive_done x less going does =
      one_part tells taken faults trace mid_trace trace' old mid new x all (part i mid.world) (each part (drop (i + 1) drives)) (next_drive less going) does

  pub drive_stopped : {A B : Type 0} (stop : Stop) → i < 8 → Going tells taken faults trace mid_trace old mid all (each part (drop i drives) mid.world)
      → DoesActs {A = A} tells taken faults mid_trace trace' mid new (Err stop) (part i mid.world)
      → DoesActs {A = B} tells taken faults trace trace' old new (Err stop) all
  drive_stopped stop less going does =
      cut_short tells taken faults trace mid_trace trace' old mid new stop all (part i mid.world) (each part (drop (i + 1) drives)) (next_drive less going) does

pub drives_over : {O A : Type 0} (tells : O → Bool) (taken : O → List ℕ) (faults : O → ℕ) (trace trace' : O) (old new : State) (y : A) (all : List Act) (part : ℕ → Part) (i : ℕ) → i ≡ 8
    → Going tells taken faults trace trace' old new all (each part (drop i drives) new.world) → DoesActs tells taken faults trace trace' old new (Ok y) all
drives_over tells taken faults trace trace' old new y all part i end going =
    none_left tells taken faults trace trace' old new y all
    (subst (λ (k : ℕ). Going tells taken faults trace trace' old new all (each part (drop k drives) new.world)) end going)
