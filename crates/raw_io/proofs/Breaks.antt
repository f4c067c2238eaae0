-- A transfer that stopped: at its first request, or behind others.
use Rattle.std.proofs.Common.{◌≡◌, ℕ, Bool, true, false, List, [], ◌∷◌, ◌++◌, Option, None, Some, refl, sym, subst, ◌∙◌}
use Rattle.std.specs.Prelude.{Result, IsErrAnd}
use Rattle.std.proofs.lemmas.Bool.{false≢true}
use Rattle.std.proofs.lemmas.Option.{same_Some}
use Rattle.partitions.specs.declared.Part.{Part}
use Rattle.trace_replay.specs.requests.Requests.{Request}
use Rattle.trace_replay.specs.Moments.{Moment}
use Rattle.driver_laws.specs.declared.answers.outcome.Stop.{Stop}
use Rattle.driver_laws.specs.rules.Sessions.{Part as SessionPart}
use Rattle.blocking_io.specs.FrontsPasses.{Stage, Stops, StillTell}
use Rattle.blocking_io.specs.Sessions.{StopsJoin}
use Rattle.blocking_io.specs.Stopping.{begun}
use Rattle.blocking_io.proofs.FrontsBlocks.{plain}
use Rattle.raw_io.specs.declared.fault.RawFault.{RawFault}
use Rattle.raw_io.specs.Calls.{fault_of, stop_of}
use Rattle.raw_io.specs.Transfers.{AreBegun, AreWaited, Breaks, IsAsk, Transfers}
use Rattle.raw_io.proofs.Answered.{stop_is}
use Rattle.raw_io.proofs.Joins.{ask_wider}

-- one request that stopped,
pub breaks_of : (reads : Bool) (stop : Stop) (r : Request) (old new : Stage) → IsAsk reads r.unit r.part r → Stops stop 1 r old new → Breaks reads r.unit r.part stop (plain old) (plain new)
breaks_of reads stop r old new ask s = record {
  parts = begun 1 r s.asked s.drained;
  begun = of s.drained;
  stops = record { trace = s.stops.trace; cut = λ t tables replay q. let cut = s.stops.cut t tables replay q in record { session = cut.session; packs = cut.packs; long = cut.long } };
  images = λ t only. s.images t (ask.only only);
}
  where
    of : (drained : Option (List Moment)) → AreBegun reads r.unit r.part (begun 1 r s.asked drained)
    of None = record { request = r; ask = ask; is = refl }
    of (Some drained) = (record { request = r; ask = ask; submitted_is = refl; drained_is = refl }, tt)

-- and one behind others
begun_more : (reads : Bool) (unit : ℕ) (part : Part) (xs ys : List SessionPart) → AreWaited reads unit part xs → AreBegun reads unit part ys → AreBegun reads unit part (xs ++ ys)
begun_more reads unit part [] ys first next = next
begun_more reads unit part (one ∷ []) ys first next = absurd first
begun_more reads unit part (one ∷ two ∷ xs) ys first next = (first.0, begun_more reads unit part xs ys first.1 next)

pub breaks_join : StopsJoin → (reads : Bool) (unit : ℕ) (part : Part) (stop : Stop) (old mid new : Stage) → Transfers reads unit part old mid → Breaks reads unit part stop mid new
    → StillTell mid new → Breaks reads unit part stop old new
breaks_join law reads unit part stop old mid new first next still = record {
  parts = first.parts ++ next.parts;
  begun = begun_more reads unit part first.parts next.parts first.waited next.begun;
  stops = law stop first.parts next.parts old mid new first.goes next.stops still;
  images = λ t only unit. next.images t only unit ∙ first.images (still.packs t) only unit;
}

pub breaks_for : (reads : Bool) (u unit : ℕ) (q part : Part) (stop : Stop) (old new : Stage) → u ≡ unit → q ≡ part → Breaks reads u q stop old new → Breaks reads unit part stop old new
breaks_for reads u unit q part stop old new here same b = record {
  parts = b.parts;
  begun = subst (λ z. AreBegun reads unit z b.parts) same (subst (λ z. AreBegun reads z q b.parts) here b.begun);
  stops = b.stops;
  images = b.images;
}

-- reads are transfers too
begun_wider : (unit : ℕ) (part : Part) (xs : List SessionPart) → AreBegun true unit part xs → AreBegun false unit part xs
begun_wider unit part [] are = tt
begun_wider unit part (one ∷ []) are = record { request = are.request; ask = ask_wider unit part are.request are.ask; is = are.is }
begun_wider unit part (one ∷ two ∷ xs) are = (
  record { request = are.0.request; ask = ask_wider unit part are.0.request are.0.ask; submitted_is = are.0.submitted_is; drained_is = are.0.drained_is },
  begun_wider unit part xs are.1,
)

pub breaks_wider : (unit : ℕ) (part : Part) (stop : Stop) (old new : Stage) → Breaks true unit part stop old new → Breaks false unit part stop old new
breaks_wider unit part stop old new b = record { parts = b.parts; begun = begun_wider unit part b.parts b.begun; stops = b.stops; images = λ told only. absurd (false≢true only) }

-- ---- an error that is handed on
pub at_fault : {T : Type 0} (result : Result T RawFault) (stop : Stop) (P : Stop → Type 0) → IsErrAnd result (λ x. x ≡ fault_of stop) → P stop
    → (other : Stop) → stop_of result ≡ Some other → P other
at_fault result stop P is holds other e = subst P (same_Some stop other (sym (stop_is result stop is) ∙ e)) holds
