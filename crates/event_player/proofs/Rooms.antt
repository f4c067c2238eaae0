-- There is room for what the next line brings: each line brings what it says, and so the next one may be played.
use Rattle.std.proofs.Common.{◌≡◌, inl, inr, ℕ, suc, ◌+◌, ◌^◌, ◌<◌, ◌≤◌, ◌==◌, ◌||◌, Bool, true, false, List, [], ◌∷◌, ◌++◌, length, Option, Some, None, refl, sym, ap, subst, arith, ◌∙◌}
use Rattle.std.specs.Prelude.{Contains}
use Rattle.std.specs.List.{list_any}
use Rattle.std.proofs.lemmas.Bool.Decides.{nat_tests}
use Rattle.std.proofs.lemmas.List.Elements.{Contains-append_left, Contains-push}
use Rattle.std.proofs.lemmas.Option.{none-some}
use Rattle.hardware_table.specs.Noise.{LiveNoise}
use Rattle.trace_replay.specs.requests.Requests.{Request, IsRequest}
use Rattle.trace_replay.specs.Script as script
use Rattle.trace_replay.specs.Script.{Script, Input, Statement, Declares, Plays, Line, IsScript, IsStatement, IsInput, drives_of, ids_of, with_id, AreApart}
use Rattle.driver_machine.specs.World.{World, Held}
use Rattle.driver_machine.specs.Acts.{Act, after_all}
use Rattle.trace_replay.specs.declared.requests.answers.AnswerKind.{AnswerKind}
use Rattle.driver_machine.specs.Events.{submit_by, submit_acts, event_acts, refusal_of, next_event}
use Rattle.driver_laws.proofs.invariant.Sizes.{sizes_all}
use Rattle.driver_laws.proofs.invariant.SlotsLists.{Contains-later, Contains-cases}
use Rattle.driver_machine.specs.Runs.{CanCome}
use Rattle.driver_laws.proofs.invariant.Next.{next_can}
use Rattle.driver_laws.specs.answers.Counts.{IsWithin, in_use, noises_of, faults_of}
use Rattle.driver_laws.proofs.answers.Acts.{takings_add, capacity_stays}
use Rattle.driver_laws.proofs.answers.Events.{events_add, submissions_add}
use Rattle.driver_laws.specs.answers.Ids.{AreOf}
use Rattle.driver_laws.proofs.answers.Ids.{events_add_none, taking_adds_none, no_others}
use Rattle.driver_laws.proofs.answers.Ids as ids
use Rattle.hp_driver.specs.Subsystem.{State}
use Rattle.driver_laws.specs.answers.Waiting.{takings, all_taken}
use Rattle.script_runs.specs.Steps.{AreUnits}
use Rattle.event_player.specs.Playing.{counted, one_request, one_noise, one_fault}
use Rattle.event_player.specs.Spots.{Spot}
use Rattle.event_player.specs.Steps.{PlaysEvent, PlaysSubmission, Ready, Brings, MayAsk, MayPlay}
use Rattle.driver_laws.proofs.answers.Taking.{taken_by, none_waits}
use Rattle.script_runs.proofs.Fitting.{within_more, units_stay, few_lines, Found, found, set_up, may_turn, may_strike, may_arm}
use Rattle.script_runs.proofs.Rooms.{nothing_armed}

-- MORE ROOM is enough.
pub ready_more : (s : Script) (r r' n n' f f' : ℕ) (xs ys : List ℕ) (w : World) → r ≤ r' → n ≤ n' → f ≤ f' → ((id : ℕ) → Contains xs id → Contains ys id)
    → Ready s r n f xs w → Ready s r' n' f' ys w
ready_more s r r' n n' f f' xs ys w requests noises faults more ready = record {
  units = ready.units;
  within = within_more r r' n n' f f' w requests noises faults ready.within;
  ids = λ p h slot. more h.id (ready.ids p h slot);
  room = ready.room;
  slots = ready.slots;
  none_waits = ready.none_waits;
}

-- WHAT IS LEFT behind acts and the taking of their answers
within_taken : (r n f : ℕ) (w : World) → IsWithin r n f w → IsWithin r n f (all_taken w)
within_taken r n f w within = taken_by (IsWithin r n f) (λ x some holds. takings_add r n f x holds) w.answers w refl within

ids_taken : (xs : List ℕ) (w : World) → AreOf xs w → AreOf xs (all_taken w)
ids_taken xs w are = taken_by (AreOf xs) (λ x some holds. taking_adds_none xs x holds) w.answers w refl are

ready_behind : (s : Script) (r n f : ℕ) (xs : List ℕ) (w : World) (acts : List Act) → AreUnits s w → w.book.capacity ≡ counted one_noise s.lines → length w.slots ≤ 65536
    → IsWithin r n f (after_all w acts) → AreOf xs (after_all w acts) → Ready s r n f xs (all_taken (after_all w acts))
ready_behind s r n f xs w acts units room slots within are =
    let mid : World = after_all w acts in record {
      units = units_stay s mid (takings mid.answers) (units_stay s w acts units);
      within = within_taken r n f mid within;
      ids = ids_taken xs mid are;
      room = capacity_stays mid (takings mid.answers) ∙ capacity_stays w acts ∙ room;
      slots = same_few (length w.slots) (length mid.slots) (length (all_taken mid).slots) slots (sizes_all w acts).slots (sizes_all mid (takings mid.answers)).slots;
      none_waits = none_waits mid;
    }
  where
    same_few : (a b c : ℕ) → a ≤ 65536 → b ≡ a → c ≡ b → c ≤ 65536
    same_few a b c few is also = omega (arith, few, is, also)

-- AN EVENT brings what its input says,
same_noises : (input : Input) → noises_of input ≡ one_noise (Plays input)
same_noises (script.Submit r) = refl
same_noises other = refl

same_faults : (input : Input) → faults_of input ≡ one_fault (Plays input)
same_faults (script.Submit r) = refl
same_faults other = refl

with_more : (input : Input) (xs : List ℕ) (id : ℕ) → Contains xs id → Contains (with_id (Plays input) xs) id
with_more (script.Submit r) xs id has = Contains-later id r.id xs has
with_more other xs id has = has

event_ready : (line : ℕ) (input : Input) (old new : Spot) → PlaysEvent line input old new → (s : Script) (r n f : ℕ) (xs : List ℕ) → Ready s r n f xs old.driver.world
    → Ready s r (n + noises_of input) (f + faults_of input) xs new.driver.world
event_ready line input old new plays s r n f xs ready =
    subst (Ready s r (n + noises_of input) (f + faults_of input) xs) (sym plays.plays.world)
    (ready_behind s r (n + noises_of input) (f + faults_of input) xs old.driver.world (event_acts line input plays.tried old.driver.world) ready.units ready.room ready.slots
    (events_add r n f old.driver.world line input plays.tried plays.plays.run ready.within)
    (events_add_none xs old.driver.world line input plays.tried plays.plays.sound plays.plays.work plays.may ready.ids))

more_noises : (n a b : ℕ) → a ≡ b → n + a ≤ n + b
more_noises n a b is = omega (arith, is)

pub event_brings : (line : ℕ) (input : Input) (old new : Spot) → PlaysEvent line input old new → Brings (Plays input) old.driver.world new.driver.world
event_brings line input old new plays s r n f xs ready =
    ready_more s r (r + one_request (Plays input)) (n + noises_of input) (n + one_noise (Plays input)) (f + faults_of input) (f + one_fault (Plays input)) xs (with_id (Plays input) xs) new.driver.world
    (omega arith) (more_noises n (noises_of input) (one_noise (Plays input)) (same_noises input)) (more_noises f (faults_of input) (one_fault (Plays input)) (same_faults input))
    (with_more input xs) (event_ready line input old new plays s r n f xs ready)

-- and one of a drain nothing;
pub drain_brings : (line : ℕ) (input : Input) (old new : Spot) → next_event old.driver.world ≡ Some input → PlaysEvent line input old new → Brings (Plays script.Drain) old.driver.world new.driver.world
drain_brings line input old new is plays s r n f xs ready =
    let can : CanCome old.driver.world input = next_can old.driver.world input plays.plays.sound is in
    ready_more s r (r + 0) (n + noises_of input) (n + 0) (f + faults_of input) (f + 0) xs xs new.driver.world (omega arith)
    (nothing_more n (noises_of input) (nothing_armed old.driver.world input can).0) (nothing_more f (faults_of input) (nothing_armed old.driver.world input can).1)
    (λ id has. has) (event_ready line input old new plays s r n f xs ready)
  where
    nothing_more : (n a : ℕ) → a ≡ 0 → n + a ≤ n + 0
    nothing_more n a is = omega (arith, is)

pub still_brings : (w : World) → Brings (Plays script.Drain) w w
still_brings w s r n f xs ready = ready_more s r (r + 0) n (n + 0) f (f + 0) xs xs w (omega arith) (omega arith) (omega arith) (λ id has. has) ready

pub brings_both : (old mid new : World) → Brings (Plays script.Drain) old mid → Brings (Plays script.Drain) mid new → Brings (Plays script.Drain) old new
brings_both old mid new one other s r n f xs ready =
    ready_more s ((r + 0) + 0) (r + 0) ((n + 0) + 0) (n + 0) ((f + 0) + 0) (f + 0) xs xs new (omega arith) (omega arith) (omega arith) (λ id has. has)
    (other s (r + 0) (n + 0) (f + 0) xs (one s r n f xs ready))

-- a submission brings one request.
pub submission_brings : (line : ℕ) (r : Request) (old new : Spot) → PlaysSubmission line r old new → Brings (Plays (script.Submit r)) old.driver.world new.driver.world
submission_brings line r old new plays s k n f xs ready =
    let acts : List Act = submit_acts r line plays.slot plays.held old.driver.world in
    subst (Ready s (k + 1) (n + 0) (f + 0) (r.id ∷ xs)) (sym plays.plays.world)
    (ready_behind s (k + 1) (n + 0) (f + 0) (r.id ∷ xs) old.driver.world acts ready.units ready.room ready.slots
    (within_more (k + 1) (k + 1) n (n + 0) f (f + 0) (after_all old.driver.world acts) (omega arith) (omega arith) (omega arith)
    (submissions_add k n f old.driver.world line plays.slot r plays.held plays.plays.run ready.within))
    (behind (refusal_of r old.driver.world) refl))
  where
    behind : (refused : Option AnswerKind) → refusal_of r old.driver.world ≡ refused
        → AreOf (r.id ∷ xs) (after_all old.driver.world (submit_acts r line plays.slot plays.held old.driver.world))
    behind None is = ids.submissions_add xs old.driver.world line plays.slot r plays.held plays.plays.sound plays.plays.work plays.may (plays.is is).id ready.ids
    behind (Some kind) is =
        let other : Held = record plays.held { id = r.id } in
        let same : submit_acts r line plays.slot other old.driver.world ≡ submit_acts r line plays.slot plays.held old.driver.world =
        ap (λ (o : Option AnswerKind). submit_by o r line plays.slot other old.driver.world) is ∙ sym (ap (λ (o : Option AnswerKind). submit_by o r line plays.slot plays.held old.driver.world) is) in
        subst (λ (acts : List Act). AreOf (r.id ∷ xs) (after_all old.driver.world acts)) same
        (ids.submissions_add xs old.driver.world line plays.slot r other plays.plays.sound plays.plays.work
        (record { unit = plays.may.unit; fresh = plays.may.fresh; new = λ none. absurd (none-some kind (sym none ∙ is)) }) refl ready.ids)

-- COUNTS AND IDS of lines, one list behind the other
counted_append : (one : Statement → ℕ) (xs ys : List Line) → counted one (xs ++ ys) ≡ counted one xs + counted one ys
counted_append one [] ys = omega arith
counted_append one (x ∷ xs) ys =
    ap (λ (n : ℕ). one x.statement + n) (counted_append one xs ys) ∙ sums (one x.statement) (counted one xs) (counted one ys)
  where
    sums : (a b c : ℕ) → a + (b + c) ≡ (a + b) + c
    sums a b c = omega arith

counted_next : (one : Statement → ℕ) (xs : List Line) (line : Line) → counted one xs + one line.statement ≤ counted one (xs ++ line ∷ [])
counted_next one xs line = last (counted one xs) (one line.statement) (counted one (xs ++ line ∷ [])) (counted_append one xs (line ∷ []))
  where
    last : (a b c : ℕ) → c ≡ a + (b + 0) → a + b ≤ c
    last a b c is = omega (arith, is)

with_append : (statement : Statement) (xs ys : List ℕ) → with_id statement (xs ++ ys) ≡ with_id statement xs ++ ys
with_append (Declares u kind) xs ys = refl
with_append (Plays (script.Submit r)) xs ys = refl
with_append (Plays (script.ArriveAt u)) xs ys = refl
with_append (Plays (script.MoveAt a)) xs ys = refl
with_append (Plays (script.AttendTo a)) xs ys = refl
with_append (Plays script.Drain) xs ys = refl
with_append (Plays (script.Turn u sector)) xs ys = refl
with_append (Plays (script.Noise noise)) xs ys = refl
with_append (Plays (script.Arm u kind times)) xs ys = refl
with_append (Plays (script.SetOnline u on)) xs ys = refl
with_append (Plays (script.SetLocked u on)) xs ys = refl

ids_append : (xs ys : List Line) → ids_of (xs ++ ys) ≡ ids_of xs ++ ids_of ys
ids_append [] ys = refl
ids_append (x ∷ xs) ys = ap (with_id x.statement) (ids_append xs ys) ∙ with_append x.statement (ids_of xs) (ids_of ys)

moved : (statement : Statement) (xs : List ℕ) (id : ℕ) → Contains (with_id statement xs) id → Contains (xs ++ with_id statement []) id
moved (Declares u kind) xs id has = Contains-append_left xs [] id has
moved (Plays (script.Submit r)) xs id has = elim (Contains-cases id r.id xs has) [
  | inl same ↦ subst (λ (n : ℕ). Contains (xs ++ r.id ∷ []) n) same (Contains-push xs r.id)
  | inr later ↦ Contains-append_left xs (r.id ∷ []) id later
]
moved (Plays (script.ArriveAt u)) xs id has = Contains-append_left xs [] id has
moved (Plays (script.MoveAt a)) xs id has = Contains-append_left xs [] id has
moved (Plays (script.AttendTo a)) xs id has = Contains-append_left xs [] id has
moved (Plays script.Drain) xs id has = Contains-append_left xs [] id has
moved (Plays (script.Turn u sector)) xs id has = Contains-append_left xs [] id has
moved (Plays (script.Noise noise)) xs id has = Contains-append_left xs [] id has
moved (Plays (script.Arm u kind times)) xs id has = Contains-append_left xs [] id has
moved (Plays (script.SetOnline u on)) xs id has = Contains-append_left xs [] id has
moved (Plays (script.SetLocked u on)) xs id has = Contains-append_left xs [] id has

-- BEHIND SOME LINES of a script there is room for the rest.
abbrev pub ReadyBehind : Script → List Line → World → Type 0
ReadyBehind s front w = Ready s (counted one_request front) (counted one_noise front) (counted one_fault front) (ids_of front) w

pub ready_next : (s : Script) (front : List Line) (line : Line) (old new : World) → Brings line.statement old new → ReadyBehind s front old → ReadyBehind s (front ++ line ∷ []) new
ready_next s front line old new brings ready =
    ready_more s (counted one_request front + one_request line.statement) (counted one_request (front ++ line ∷ []))
    (counted one_noise front + one_noise line.statement) (counted one_noise (front ++ line ∷ []))
    (counted one_fault front + one_fault line.statement) (counted one_fault (front ++ line ∷ []))
    (with_id line.statement (ids_of front)) (ids_of (front ++ line ∷ [])) new
    (counted_next one_request front line) (counted_next one_noise front line) (counted_next one_fault front line)
    (λ id has. subst (λ (xs : List ℕ). Contains xs id) (sym (ids_append front (line ∷ []))) (moved line.statement (ids_of front) id has))
    (brings s (counted one_request front) (counted one_noise front) (counted one_fault front) (ids_of front) ready)

-- AN ID of a line is none of those before it.
one_of : (b c : Bool) → b ≡ true → b || c ≡ false → ⊥
one_of true c on none = absurd (cc none)
one_of false c on none = absurd (cc on)

later_none : (b c : Bool) → b || c ≡ false → c ≡ false
later_none true c none = absurd (cc none)
later_none false c none = none

listed : (x id : ℕ) (xs ys : List ℕ) → x ≡ id → list_any (λ other. other == x) (xs ++ id ∷ ys) ≡ false → ⊥
listed x id [] ys same none = one_of (id == x) (list_any (λ other. other == x) ys) (is_same id x same) none
  where
    is_same : (a b : ℕ) → b ≡ a → (a == b) ≡ true
    is_same a b e = grind (arith, nat_tests)
listed x id (y ∷ xs) ys same none = listed x id xs ys same (later_none (y == x) (list_any (λ other. other == x) (xs ++ id ∷ ys)) none)

not_listed : (id : ℕ) (xs ys : List ℕ) → AreApart (xs ++ id ∷ ys) → Contains xs id → ⊥
not_listed id [] ys apart has = absurd (omega (arith, has.1))
not_listed id (x ∷ xs) ys apart has = elim (Contains-cases id x xs has) [
  | inl same ↦ listed x id xs ys same apart.0
  | inr later ↦ not_listed id xs ys apart.1 later
]

-- FEW LINES arm faults.
one_at_most : (statement : Statement) → one_fault statement ≤ 1
one_at_most (Declares u kind) = omega arith
one_at_most (Plays (script.Submit r)) = omega arith
one_at_most (Plays (script.ArriveAt u)) = omega arith
one_at_most (Plays (script.MoveAt a)) = omega arith
one_at_most (Plays (script.AttendTo a)) = omega arith
one_at_most (Plays script.Drain) = omega arith
one_at_most (Plays (script.Turn u sector)) = omega arith
one_at_most (Plays (script.Noise noise)) = omega arith
one_at_most (Plays (script.Arm u kind times)) = omega arith
one_at_most (Plays (script.SetOnline u on)) = omega arith
one_at_most (Plays (script.SetLocked u on)) = omega arith

few_faults : (lines : List Line) → counted one_fault lines ≤ length lines
few_faults [] = omega arith
few_faults (line ∷ lines) = more (one_fault line.statement) (counted one_fault lines) (length lines) (one_at_most line.statement) (few_faults lines)
  where
    more : (a b c : ℕ) → a ≤ 1 → b ≤ c → a + b ≤ suc c
    more a b c one le = omega (arith, one, le)

below_by : (front one behind all used : ℕ) → all ≡ front + (one + behind) → one ≡ 1 → used ≤ front → used < all
below_by front one behind all used whole is le = omega (arith, whole, is, le)

module _ (s : Script) (state : State) (front : List Line) (line : Line) (behind : List Line) (whole : s.lines ≡ front ++ line ∷ behind) (is : IsScript s)
    (small : s.count < 2 ^ 32) (most : state.outstanding ≡ counted one_request s.lines) (ready : ReadyBehind s front state.world) where
  counted_whole : (one : Statement → ℕ) → counted one s.lines ≡ counted one front + (one line.statement + counted one behind)
  counted_whole one = ap (counted one) whole ∙ counted_append one front (line ∷ behind)

  fresh_id : (r : Request) → line.statement ≡ Plays (script.Submit r) → Contains (ids_of front) r.id → ⊥
  fresh_id r at has =
      let whole_ids : ids_of s.lines ≡ ids_of front ++ r.id ∷ ids_of behind =
      ap ids_of whole ∙ ids_append front (line ∷ behind) ∙ ap (λ (st : Statement). ids_of front ++ with_id st (ids_of behind)) at in
      not_listed r.id (ids_of front) (ids_of behind) (subst AreApart whole_ids is.ids) has

  may_ask : (r : Request) → line.statement ≡ Plays (script.Submit r) → script.IsThere (drives_of s r.unit) (λ kind. IsRequest r) → MayAsk state r
  may_ask r at there =
      let unit : Found (drives_of s r.unit) (λ kind. IsRequest r) = found (drives_of s r.unit) (λ kind. IsRequest r) there in
      record {
        unit = (ready.units r.unit unit.kind unit.is).0;
        request = unit.holds;
        fresh = no_others (ids_of front) state.world r.id ready.ids (fresh_id r at);
        room = subst (λ (n : ℕ). in_use state.world.slots < n) (sym most)
            (below_by (counted one_request front) (one_request line.statement) (counted one_request behind) (counted one_request s.lines) (in_use state.world.slots)
            (counted_whole one_request) (ap one_request at) ready.within.requests);
      }

  noise_fits : (noise : LiveNoise) → line.statement ≡ Plays (script.Noise noise) → state.world.book.armed < state.world.book.capacity
  noise_fits noise at =
      subst (λ (n : ℕ). state.world.book.armed < n) (sym ready.room)
      (below_by (counted one_noise front) (one_noise line.statement) (counted one_noise behind) (counted one_noise s.lines) state.world.book.armed
      (counted_whole one_noise) (ap one_noise at) ready.within.noises)

  few_so_far : counted one_fault front ≤ s.count
  few_so_far =
      fewer (counted one_fault front) (one_fault line.statement + counted one_fault behind) (counted one_fault s.lines) (length s.lines) s.count
      (counted_whole one_fault) (few_faults s.lines) (few_lines 0 s.count s.lines is.numbers)
    where
      fewer : (a b c n k : ℕ) → c ≡ a + b → c ≤ n → 0 + n ≤ k → a ≤ k
      fewer a b c n k is le few = omega (arith, is, le, few)

  -- THE NEXT LINE may be played.
  may_input : (input : Input) → line.statement ≡ Plays input → IsInput (drives_of s) input → MayPlay state (Plays input)
  may_input (script.Submit r) at there = may_ask r at there
  may_input (script.ArriveAt u) at there = set_up s state.world ready.units u there
  may_input script.Drain at there = ready.slots
  may_input (script.Turn u sector) at there = may_turn s state.world ready.units u sector there
  may_input (script.Noise noise) at there = may_strike s state.world ready.units noise (noise_fits noise at) there
  may_input (script.Arm u kind times) at there = may_arm s state.world ready.units u kind times (counted one_fault front) s.count (ready.within.faults u kind) few_so_far small there
  may_input (script.SetOnline u on) at there = set_up s state.world ready.units u there
  may_input (script.SetLocked u on) at there = set_up s state.world ready.units u there
  may_input other at there = there

  may_state : (statement : Statement) → line.statement ≡ statement → IsStatement (drives_of s) statement → MayPlay state statement
  may_state (Declares u kind) at there = tt
  may_state (Plays input) at there = may_input input at there

  pub may_play : IsStatement (drives_of s) line.statement → MayPlay state line.statement
  may_play there = may_state line.statement refl there
