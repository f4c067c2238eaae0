-- How a call turns out for a block that is no entry.
use Rattle.std.proofs.Common.{◌≡◌, inl, inr, ℕ, ◌+◌, ◌-◌, ◌^◌, min, Bool, true, false, List, Option, None, Some, refl, sym, ap, ◌∙◌, subst}
use Rattle.std.specs.Prelude.{Result, Ok, Err, IsErrAnd}
use Rattle.trace_replay.specs.requests.Requests.{Request}
use Rattle.driver_laws.specs.declared.answers.outcome.Stop.{Stop}
use Rattle.driver_laws.specs.declared.rules.cached.Entry.{Entry}
use Rattle.driver_laws.specs.rules.Entries.{State, put, written_back}
use Rattle.buffer_cache.specs.Passes.{Keeps, Spot, Stage, seen, setup_at}
use Rattle.buffer_cache.specs.Asks.{AsksTill}
use Rattle.buffer_cache.specs.Calls.{Holds, IfTold, MayUse, RefusesOnce, Serves, SyncsOrStops, stop_of}
use Rattle.buffer_cache.specs.declared.fault.CacheFault.{CacheFault}
use Rattle.buffer_cache.specs.declared.fault.CacheFault.TheVariants as fault
use Rattle.buffer_cache.proofs.Passes.{keeps_none, others_none}
use Rattle.buffer_cache.proofs.Tills.{no_stop, on_stopped}
use Rattle.buffer_cache.proofs.Wholes.{never_stopped, stop_is}

-- it stopped
pub served_stopped : {A : Type 0} {does : Stage → Stage → Type 0} {line unit block : ℕ} {from : Option (List ℕ)} {asks : Stage → List Request} {s s' : State} {old new : Spot} (result : Result A CacheFault) (stop : Stop)
    → IsErrAnd result (λ x. x ≡ fault.Stop stop) → IfTold s (seen old) (seen new) (Holds unit block from s (seen old) (seen new)) → RefusesOnce s s'
    → IfTold s (seen old) (seen new) (AsksTill stop line (asks (seen old)) (seen old) (seen new)) → Keeps old new (Some stop) → Serves does line unit block from asks result s s' old new
served_stopped {line = line} {asks = asks} {s = s} {old = old} {new = new} result stop is holds refused till keeps = record {
  done = λ e. never_stopped result stop is e;
  holds = holds;
  may = λ e. never_stopped result stop is e;
  refused = refused;
  till = on_stopped (λ z. IfTold s (seen old) (seen new) (AsksTill z line (asks (seen old)) (seen old) (seen new))) result stop is till;
  keeps = subst (Keeps old new) (sym (stop_is result stop is)) keeps;
}

-- it was an entry, and nothing was called
pub served_here : {A : Type 0} {does : Stage → Stage → Type 0} {line unit block : ℕ} {from : Option (List ℕ)} {asks : Stage → List Request} {result : Result A CacheFault} {s s' : State} {here : Spot}
    → stop_of result ≡ None → does (seen here) (seen here) → MayUse s' here.driver → s'.refused ≡ s.refused → Serves does line unit block from asks result s s' here here
served_here {here = here} none does may refused = record {
  done = λ e. does;
  holds = λ t tables fit. record { each = λ u b. inl refl; others = others_none (setup_at (seen here)) };
  may = λ e. may;
  refused = inl refused;
  till = λ stop e. no_stop stop (sym none ∙ e);
  keeps = subst (Keeps here here) (sym none) (keeps_none here may.ready);
}

-- it was none, and is served as it is where what was lent is left
module _ {A : Type 0} (does : State → Stage → Stage → Type 0) (line unit block : ℕ) (from : Option (List ℕ)) (found asks : State → Stage → List Request) (result : Result A CacheFault) where
  pub served_as : {s mid s' : State} {old new back : Spot} → mid ≡ s → new ≡ back → found s (seen old) ≡ asks s (seen old)
      → Serves (does mid) line unit block from (found mid) result mid s' old new → Serves (does s) line unit block from (asks s) result s s' old back
  served_as {s} {mid} {s'} {old} {new} {back} is same asked served =
      let at : Serves (does s) line unit block from (found s) result s s' old back = subst (λ (z : Spot). Serves (does s) line unit block from (found s) result s s' old z) same
      (subst (λ (z : State). Serves (does z) line unit block from (found z) result z s' old new) is served) in
      record {
        done = at.done;
        holds = at.holds;
        may = at.may;
        refused = at.refused;
        till = λ stop e t tables fit. subst (λ rs. AsksTill stop line rs (seen old) (seen back)) asked (at.till stop e t tables fit);
        keeps = at.keeps;
      }

-- ---- a sync that stopped
pub sync_stopped : {line : ℕ} {s s' : State} {old new : Spot} (result : Result (Unit {0}) Stop) (stop : Stop) → IsErrAnd result (λ x. x ≡ stop) → IfTold s (seen old) (seen new) (Holds 0 0 None s (seen old) (seen new))
    → s'.refused ≡ s.refused → AsksTill stop line (written_back s.entries) (seen old) (seen new) → Keeps old new (Some stop) → SyncsOrStops line result s s' old new
sync_stopped (Ok value) stop is holds refused till keeps = absurd is
sync_stopped {line = line} {s = s} {old = old} {new = new} (Err other) stop is holds refused till keeps = record {
  done = tt;
  holds = holds;
  may = tt;
  refused = refused;
  till = subst (λ z. AsksTill z line (written_back s.entries) (seen old) (seen new)) (sym is) till;
  keeps = subst (λ z. Keeps old new (Some z)) (sym is) keeps;
}

-- ---- memory refuses once at the most
pub refused_behind : (s s' s'' : State) → s'.refused ≡ s.refused → RefusesOnce s' s'' → RefusesOnce s s''
refused_behind s s' s'' same (inl none) = inl (none ∙ same)
refused_behind s s' s'' same (inr once) = inr (once ∙ ap (λ (n : ℕ). min (n + 1) (2 ^ 64 - 1)) same)

pub put_refused : (refuses : Bool) (e : Entry) (s s' s'' : State) → s'.refused ≡ s.refused → s'' ≡ put refuses e s' → RefusesOnce s s''
put_refused true e s s' s'' same is = inr (ap (λ (z : State). z.refused) is ∙ ap (λ (n : ℕ). min (n + 1) (2 ^ 64 - 1)) same)
put_refused false e s s' s'' same is = inl (ap (λ (z : State). z.refused) is ∙ same)
