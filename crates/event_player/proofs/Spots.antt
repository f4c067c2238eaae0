-- What each call keeps where it stands, and how an error is handed on.
use Rattle.std.proofs.Common.{◌≡◌, inl, inr, ℕ, ◌≤◌, Bool, IsTrue, List, refl, sym, ap, subst, ◌∙◌, arith}
use Rattle.std.specs.Prelude.{Result, Ok, Err, IsErrAnd}
use Rattle.outside_traits.specs.declared.traits.SinkFailed.{SinkFailed}
use Rattle.outside_traits.proofs.GatherLaws.{rose_more}
use Rattle.driver_laws.specs.declared.answers.outcome.Stop.{Stop}
use Rattle.driver_laws.specs.declared.answers.outcome.Stop.TheVariants as stop
use Rattle.trace_replay.specs.Moments.{Answered}
use Rattle.trace_replay.specs.requests.Requests.{Request}
use Rattle.trace_replay.specs.Script.{Input}
use Rattle.driver_machine.specs.World.{World}
use Rattle.hp_driver.specs.Subsystem.{State}
use Rattle.script_runs.specs.declared.fault.PlayFault.{PlayFault}
use Rattle.script_runs.specs.declared.fault.PlayFault.TheVariants as faults
use Rattle.script_runs.specs.Faults.{from_stop}
use Rattle.event_player.specs.Calls.{KeepsGoing}
use Rattle.event_player.specs.Spots.{Spot, SaysText, Sends, SubmitsAt, ComesAt, IdlesAt, Keeps, Caused}
use Rattle.event_player.specs.Turns.{TurnsOut}

stays : (n : ℕ) → n ≤ n
stays n = omega arith

on : (a b c : ℕ) → a ≤ b → b ≤ c → a ≤ c
on a b c first next = omega (arith, first, next)

-- nothing was called
pub keeps_none : (s : Spot) → Keeps s s
keeps_none s = record {
  told = record { never_again = λ t. t; never_again_out = λ t. t; never_again_trace = λ t. t };
  later = stays s.packs.faults;
  later_out = stays s.out.faults;
  later_lines = stays s.lines.faults;
  requests = refl;
  loans = refl;
}

-- one call behind the other
pub keeps_join : {old mid new : Spot} → Keeps old mid → Keeps mid new → Keeps old new
keeps_join {old} {mid} {new} first next = record {
  told = record {
    never_again = λ t. first.told.never_again (next.told.never_again t);
    never_again_out = λ t. first.told.never_again_out (next.told.never_again_out t);
    never_again_trace = λ t. first.told.never_again_trace (next.told.never_again_trace t);
  };
  later = on old.packs.faults mid.packs.faults new.packs.faults first.later next.later;
  later_out = on old.out.faults mid.out.faults new.out.faults first.later_out next.later_out;
  later_lines = on old.lines.faults mid.lines.faults new.lines.faults first.later_lines next.later_lines;
  requests = next.requests ∙ first.requests;
  loans = next.loans ∙ first.loans;
}

pub caused_behind : {old mid : Spot} (new : Spot) (fault : PlayFault) → Keeps old mid → Caused fault mid new → Caused fault old new
caused_behind {old} {mid} new faults.Store first rose = rose_more old.packs.faults mid.packs.faults new.packs.faults first.later rose
caused_behind {old} {mid} new faults.Sink first (inl rose) = inl (rose_more old.out.faults mid.out.faults new.out.faults first.later_out rose)
caused_behind {old} {mid} new faults.Sink first (inr rose) = inr (rose_more old.lines.faults mid.lines.faults new.lines.faults first.later_lines rose)
caused_behind {old} {mid} new faults.Memory first rose = rose
caused_behind {old} {mid} new (faults.TooLong unit n) first rose = rose

-- ---- each call
pub said_keeps : {T E : Type 0} {answers : List Answered} {text : List ℕ} {result : Result T E} {old new : Spot} → SaysText answers text result old new → Keeps old new
said_keeps {old = old} {new = new} said = record {
  told = record { never_again = subst (λ (s : Spot). IsTrue s.packs.tells → IsTrue old.packs.tells) (sym said.same) (λ t. t); never_again_out = said.says.again; never_again_trace = said.says.again_lines };
  later = subst (λ (s : Spot). old.packs.faults ≤ s.packs.faults) (sym said.same) (stays old.packs.faults);
  later_out = said.says.later;
  later_lines = said.says.later_lines;
  requests = said.requests;
  loans = ap (λ (s : Spot). s.loans) said.same;
}

pub sent_keeps : {T E : Type 0} {writes : Bool} {result : Result T E} {old new : Spot} → Sends writes result old new → Keeps old new
sent_keeps {old = old} {new = new} sends = record {
  told = record { never_again = subst (λ (s : Spot). IsTrue s.packs.tells → IsTrue old.packs.tells) (sym sends.same) (λ t. t); never_again_out = sends.says.again; never_again_trace = sends.says.again_lines };
  later = subst (λ (s : Spot). old.packs.faults ≤ s.packs.faults) (sym sends.same) (stays old.packs.faults);
  later_out = sends.says.later;
  later_lines = sends.says.later_lines;
  requests = ap (λ (s : Spot). s.tally.requests) sends.same;
  loans = ap (λ (s : Spot). s.loans) sends.same;
}

pub submitted_keeps : {T : Type 0} {line : ℕ} {r : Request} {result : Result T SinkFailed} {old new : Spot} → SubmitsAt line r result old new → Keeps old new
submitted_keeps {old = old} {new = new} submits = record {
  told = record {
    never_again = subst (λ (s : Spot). IsTrue s.packs.tells → IsTrue old.packs.tells) (sym submits.same) (λ t. t);
    never_again_out = subst (λ (s : Spot). IsTrue s.out.tells → IsTrue old.out.tells) (sym submits.same) (λ t. t);
    never_again_trace = submits.again;
  };
  later = subst (λ (s : Spot). old.packs.faults ≤ s.packs.faults) (sym submits.same) (stays old.packs.faults);
  later_out = subst (λ (s : Spot). old.out.faults ≤ s.out.faults) (sym submits.same) (stays old.out.faults);
  later_lines = submits.cause.later;
  requests = ap (λ (s : Spot). s.tally.requests) submits.same;
  loans = ap (λ (s : Spot). s.loans) submits.same;
}

pub come_keeps : {line : ℕ} {input : Input} {result : Result (Unit {0}) Stop} {old new : Spot} → ComesAt line input result old new → Keeps old new
come_keeps {old = old} {new = new} comes = record {
  told = record { never_again = comes.again; never_again_out = subst (λ (s : Spot). IsTrue s.out.tells → IsTrue old.out.tells) (sym comes.same) (λ t. t); never_again_trace = comes.again_lines };
  later = comes.causes.later_packs;
  later_out = subst (λ (s : Spot). old.out.faults ≤ s.out.faults) (sym comes.same) (stays old.out.faults);
  later_lines = comes.causes.later;
  requests = ap (λ (s : Spot). s.tally.requests) comes.same;
  loans = ap (λ (s : Spot). s.loans) comes.same;
}

pub come_caused : {line : ℕ} {input : Input} {old new : Spot} (why : Stop) → ComesAt line input (Err why) old new → Caused (from_stop why) old new
come_caused stop.Store comes = comes.causes.store refl
come_caused stop.Sink comes = inr (comes.causes.sink refl)

pub idle_keeps : {T E : Type 0} {line : ℕ} {result : Result T E} {old new : Spot} → IdlesAt line result old new → Keeps old new
idle_keeps {old = old} {new = new} idles = record {
  told = record {
    never_again = subst (λ (s : Spot). IsTrue s.packs.tells → IsTrue old.packs.tells) (sym idles.same) (λ t. t);
    never_again_out = subst (λ (s : Spot). IsTrue s.out.tells → IsTrue old.out.tells) (sym idles.same) (λ t. t);
    never_again_trace = idles.gathers.never_again;
  };
  later = subst (λ (s : Spot). old.packs.faults ≤ s.packs.faults) (sym idles.same) (stays old.packs.faults);
  later_out = subst (λ (s : Spot). old.out.faults ≤ s.out.faults) (sym idles.same) (stays old.out.faults);
  later_lines = idles.gathers.cause.later;
  requests = ap (λ (s : Spot). s.tally.requests) idles.same;
  loans = ap (λ (s : Spot). s.loans) idles.same;
}

-- behind a call of the driver its answers are taken
pub goes_taken : {old mid new : State} {w : World} → KeepsGoing old mid → new ≡ record mid { world = w } → KeepsGoing old new
goes_taken goes taken = record { going = ap (λ (s : State). s.failed) taken ∙ goes.going; outstanding = ap (λ (s : State). s.outstanding) taken ∙ goes.outstanding }

pub goes_on : {old mid new : State} → new ≡ mid → KeepsGoing old mid → KeepsGoing old new
goes_on {old} same goes = subst (KeepsGoing old) (sym same) goes

pub goes_behind : {old mid new : State} → mid ≡ old → KeepsGoing mid new → KeepsGoing old new
goes_behind {new = new} same goes = subst (λ (s : State). KeepsGoing s new) same goes

-- ---- an error that is handed on, behind a call that was done
module _ {V : Type 0} {Plays : Spot → Spot → Type 0} {Stops : PlayFault → Spot → Spot → Type 0} {old new : Spot} where
  pub stopped : (result : Result V PlayFault) (fault : PlayFault) → IsErrAnd result (λ x. x ≡ fault) → Keeps old new → Caused fault old new → Stops fault old new → TurnsOut Plays Stops result old new
  stopped (Ok value) fault is keeps caused stops = absurd is
  stopped (Err other) fault is keeps caused stops = record {
    plays = tt;
    goes = tt;
    stops = subst (λ z. Stops z old new) (sym is) stops;
    caused = subst (λ z. Caused z old new) (sym is) caused;
    keeps = keeps;
  }

  pub stopped_behind : {W : Type 0} {Plays' : Spot → Spot → Type 0} {Stops' : PlayFault → Spot → Spot → Type 0} {mid : Spot} (result : Result V PlayFault) (fault : PlayFault)
      → IsErrAnd result (λ x. x ≡ fault) → Keeps old mid → TurnsOut {V = W} Plays' Stops' (Err fault) mid new → (Stops' fault mid new → Stops fault old new) → TurnsOut Plays Stops result old new
  stopped_behind result fault is first turns stops = stopped result fault is (keeps_join first turns.keeps) (caused_behind new fault first turns.caused) (stops turns.stops)

  pub turns_behind : {Plays' : Spot → Spot → Type 0} {Stops' : PlayFault → Spot → Spot → Type 0} {mid : Spot} (result : Result V PlayFault) → Keeps old mid → mid.driver.outstanding ≡ old.driver.outstanding
      → TurnsOut Plays' Stops' result mid new → (Plays' mid new → Plays old new) → ((fault : PlayFault) → Stops' fault mid new → Stops fault old new) → TurnsOut Plays Stops result old new
  turns_behind (Ok value) first same turns plays stops = record {
    plays = plays turns.plays;
    goes = record { going = turns.goes.going; outstanding = turns.goes.outstanding ∙ same };
    stops = tt;
    caused = tt;
    keeps = keeps_join first turns.keeps;
  }
  turns_behind (Err fault) first same turns plays stops = record {
    plays = tt;
    goes = tt;
    stops = stops fault turns.stops;
    caused = caused_behind new fault first turns.caused;
    keeps = keeps_join first turns.keeps;
  }
