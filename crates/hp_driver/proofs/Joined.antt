-- Calls one behind the other, each of which does acts.
use Rattle.std.proofs.Common.{◌≡◌, ℕ, ◌≤◌, Bool, false, IsTrue, List, [], ◌∷◌, ◌++◌, sym, subst, arith}
use Rattle.std.specs.Prelude.{Result, Ok, Err}
use Rattle.pack_geometry.specs.Pack.{empty_pack}
use Rattle.outside_traits.specs.Causes.{HasCause, Rose}
use Rattle.driver_machine.specs.World.{World}
use Rattle.driver_machine.specs.Acts.{Act, after_all}
use Rattle.driver_machine.specs.Events.{Part, followed}
use Rattle.driver_machine.specs.Sound.{Sound}
use Rattle.driver_laws.proofs.invariant.Leads.{sound_along}
use Rattle.driver_laws.proofs.invariant.Sound.{sound_after}
use Rattle.hp_core.specs.Passes.{Site, Acts, Does, stop_in, Stop}
use Rattle.hp_core.proofs.Passes.{does_then, stopped_before, nothing_done}
use Rattle.hp_core.specs.State.{State, site}
use Rattle.hp_core.specs.Done.{DoesAct, DoesSilently}
use Rattle.hp_driver.specs.Done.{DoesActs}
use Rattle.driver_machine.specs.Runs.{Run}

-- A call that ends says what it likes of another type, and so does one that fails.
pub said : {O A B : Type 0} (tells : O → Bool) (taken : O → List ℕ) (faults : O → ℕ) (trace trace' : O) (old new : State) (x : A) (y : B) (acts : List Act)
    → DoesActs tells taken faults trace trace' old new (Ok x) acts → DoesActs tells taken faults trace trace' old new (Ok y) acts
said tells taken faults trace trace' old new x y acts is = record {
  outcome = is.outcome;
  stop = tt;
  never_again = is.never_again;
  cause = record { later = is.cause.later; failed = tt };
}

pub failed : {O A B : Type 0} (tells : O → Bool) (taken : O → List ℕ) (faults : O → ℕ) (trace trace' : O) (old new : State) (stop : Stop) (acts : List Act)
    → DoesActs {A = A} tells taken faults trace trace' old new (Err stop) acts → DoesActs {A = B} tells taken faults trace trace' old new (Err stop) acts
failed tells taken faults trace trace' old new stop acts is = record {
  outcome = is.outcome;
  stop = is.stop;
  never_again = is.never_again;
  cause = record { later = is.cause.later; failed = is.cause.failed };
}

-- NOTHING IS DONE
pub done_nothing : {O A : Type 0} (tells : O → Bool) (taken : O → List ℕ) (faults : O → ℕ) (trace : O) (s : State) (x : A)
    → DoesActs tells taken faults trace trace s s (Ok x) []
done_nothing tells taken faults trace s x = record {
  outcome = λ told packs. nothing_done _ (site s packs (taken trace));
  stop = tt;
  never_again = λ t. t;
  cause = record { later = omega arith; failed = tt };
}

-- ONE ACT, with a line or without
pub of_act : {O : Type 0} (tells : O → Bool) (taken : O → List ℕ) (faults : O → ℕ) (trace trace' : O) (old new : State) (result : Result (Unit {0}) Stop) (act : Act)
    → DoesAct tells taken faults trace trace' old new result act → DoesActs tells taken faults trace trace' old new result (act ∷ [])
of_act tells taken faults trace trace' old new result act is =
    record { outcome = is.outcome; stop = is.stop; never_again = is.never_again; cause = is.cause }

pub of_silent : {O A : Type 0} (tells : O → Bool) (taken : O → List ℕ) (faults : O → ℕ) (trace : O) (old new : State) (x : A) (act : Act)
    → DoesSilently old new act → DoesActs tells taken faults trace trace old new (Ok x) (act ∷ [])
of_silent tells taken faults trace old new x act is = record {
  outcome = λ told packs. is.does told (tells trace) packs (taken trace);
  stop = tt;
  never_again = λ t. t;
  cause = record { later = omega arith; failed = tt };
}

-- ONE CALL, AND THEN ANOTHER
heard : (packs before now : Bool) (acts : List Act) (old new : Site) → (IsTrue now → IsTrue before)
    → Does (record { packs = packs; trace = before }) acts old new → Does (record { packs = packs; trace = now }) acts old new
heard packs before now acts old new too is = record {
  does = record { run = is.does.run; world = is.does.world; reads = is.does.reads; packs = is.does.packs };
  text = λ t. is.text (too t);
  sent = λ t. is.sent (too t);
}

most : (a b c : ℕ) → a ≤ b → b ≤ c → a ≤ c
most a b c first next = omega (arith, first, next)

caused_later : {A : Type 0} (first before now : ℕ) (result : Result A Stop) → first ≤ before → HasCause before now result → HasCause first now result
caused_later first before now (Ok x) less c = record { later = most first before now less c.later; failed = tt }
caused_later first before now (Err stop) less c = record { later = most first before now less c.later; failed = rose first before now less c.failed }
  where
    rose : (first before now : ℕ) → first ≤ before → Rose before now → Rose first now
    rose first before now less r = omega (arith, less, r)

pub then_acts : {O A B : Type 0} (tells : O → Bool) (taken : O → List ℕ) (faults : O → ℕ) (trace trace' trace'' : O) (old mid new : State) (x : A) (result : Result B Stop) (first next : List Act)
    → DoesActs tells taken faults trace trace' old mid (Ok x) first → DoesActs tells taken faults trace' trace'' mid new result next
    → DoesActs tells taken faults trace trace'' old new result (first ++ next)
then_acts tells taken faults trace trace' trace'' old mid new x result first next is later = record {
  outcome = λ told packs. does_then _ first next _ _ _ (stop_in result)
      (heard told (tells trace') (tells trace'') first _ _ later.never_again (is.outcome told packs)) (later.outcome told packs);
  stop = later.stop;
  never_again = λ t. is.never_again (later.never_again t);
  cause = caused_later (faults trace) (faults trace') (faults trace'') result is.cause.later later.cause;
}

-- A CALL THAT STOPPED, of which more was to follow
pub stopped : {O A B : Type 0} (tells : O → Bool) (taken : O → List ℕ) (faults : O → ℕ) (trace trace' : O) (old new : State) (stop : Stop) (first next : List Act)
    → DoesActs {A = A} tells taken faults trace trace' old new (Err stop) first → DoesActs {A = B} tells taken faults trace trace' old new (Err stop) (first ++ next)
stopped tells taken faults trace trace' old new stop first next is = record {
  outcome = λ told packs. stopped_before _ first next _ _ stop (is.outcome told packs);
  stop = is.stop;
  never_again = is.never_again;
  cause = record { later = is.cause.later; failed = is.cause.failed };
}

-- WHERE NOTHING FAILED all acts ran: the world is as they leave it, and sound.
pub record AllDone (old new : World) (acts : List Act) : Type 0 where
  pub run : Run old acts
  pub world : new ≡ after_all old acts
  pub sound : Sound new

pub all_done : {O A : Type 0} (tells : O → Bool) (taken : O → List ℕ) (faults : O → ℕ) (trace trace' : O) (old new : State) (x : A) (acts : List Act)
    → Sound old.world → DoesActs tells taken faults trace trace' old new (Ok x) acts → AllDone old.world new.world acts
all_done tells taken faults trace trace' old new x acts sound is =
    let does : Acts (record { packs = false; trace = tells trace' }) acts (site old (λ u. empty_pack) (taken trace)) (site new (λ u. empty_pack) (taken trace')) =
    (is.outcome false (λ u. empty_pack)).does in
    record {
      run = does.run;
      world = does.world;
      sound = subst Sound (sym does.world) (sound_along sound_after old.world acts sound does.run);
    }

-- A PART BEHIND ACTS: what it does in the world behind them
pub then_part : {O A B : Type 0} (tells : O → Bool) (taken : O → List ℕ) (faults : O → ℕ) (trace trace' trace'' : O) (old mid new : State) (x : A) (result : Result B Stop) (first : List Act) (part : Part)
    → DoesActs tells taken faults trace trace' old mid (Ok x) first → DoesActs tells taken faults trace' trace'' mid new result (part mid.world)
    → DoesActs tells taken faults trace trace'' old new result (followed first part old.world)
then_part tells taken faults trace trace' trace'' old mid new x result first part is later =
    let does : Acts (record { packs = false; trace = tells trace' }) first (site old (λ u. empty_pack) (taken trace)) (site mid (λ u. empty_pack) (taken trace')) =
    (is.outcome false (λ u. empty_pack)).does in
    subst (λ (w : World). DoesActs tells taken faults trace trace'' old new result (first ++ part w)) does.world
    (then_acts tells taken faults trace trace' trace'' old mid new x result first (part mid.world) is later)

pub stopped_part : {O A B : Type 0} (tells : O → Bool) (taken : O → List ℕ) (faults : O → ℕ) (trace trace' : O) (old new : State) (stop : Stop) (first : List Act) (part : Part)
    → DoesActs {A = A} tells taken faults trace trace' old new (Err stop) first → DoesActs {A = B} tells taken faults trace trace' old new (Err stop) (followed first part old.world)
stopped_part tells taken faults trace trace' old new stop first part is =
    stopped tells taken faults trace trace' old new stop first (part (after_all old.world first)) is
