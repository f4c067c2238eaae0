-- The blocks of a request, one behind the other.
use Rattle.std.proofs.Common.{◌≡◌, ℕ, ◌+◌, ◌<◌, true, List, [], length, Option, None, Some, refl, ap, ◌∙◌, subst}
use Rattle.std.specs.Prelude.{Result, Ok, Err, slice_index_or, slice_set}
use Rattle.driver_laws.specs.declared.answers.outcome.Stop.{Stop}
use Rattle.driver_laws.specs.rules.Requests.{Map}
use Rattle.driver_laws.specs.rules.Entries.{State}
use Rattle.buffer_cache.specs.Passes.{Keeps, Stage, map_at, seen}
use Rattle.buffer_cache.proofs.Passes.{keeps_join, keeps_none, still}
use Rattle.driver_laws.specs.rules.Contents.{cached}
use Rattle.buffer_cache.specs.Asks.{AsksTill}
use Rattle.buffer_cache.specs.Calls.{Holds, IfTold, MayUse, stop_of}
use Rattle.buffer_cache.specs.declared.fault.CacheFault.{CacheFault}
use Rattle.buffer_cache.specs.declared.fault.CacheFault.TheVariants as fault
use Rattle.cached_run.specs.Sessions.{block_done}
use Rattle.cached_run.specs.Leaving.{Does, IsCutIn, KeepsSetup, Leaves, spread, touches, tried_in, usable_in}
use Rattle.cached_run.specs.Places.{AreMoved, IsSilent, Moves, MovesAll, Place, Touches, contents_at, moved}
use Rattle.cached_run.proofs.Keepings.{not_stopped, setup_asked, setup_more, setup_none}
use Rattle.cached_run.proofs.Readings.{AreGiven, given_all, given_cut, given_end, given_more, given_none, given_stops}
use Rattle.cached_run.proofs.Writings.{AreUsable, written_all, written_cut, written_end, written_more, written_none, written_stops}

silent_join : (old mid new : Place) → IsSilent old mid → IsSilent mid new → IsSilent old new
silent_join old mid new first next = next ∙ ap (λ (z : Place). record z { cache = new.cache; spot = new.spot }) first

moves_setup : (line unit block : ℕ) (written : Option (List ℕ)) (into : List ℕ) (result : Result (Unit {0}) CacheFault) (s s' : State) (old new : Stage) → Moves line unit block written into result s s' old new → KeepsSetup old new
moves_setup line unit block None into result s s' old new m = setup_asked old new m.asks
moves_setup line unit block (Some from) into result s s' old new m = setup_asked old new m.asks

-- SO FAR the first ones were read, or written.
abbrev pub AreSoFar : (written : Option (List ℕ)) → Map → (unit first k : ℕ) → List (List ℕ) → Type 0
AreSoFar None contents unit first k blocks = AreGiven contents unit first k blocks
AreSoFar (Some from) contents unit first k blocks = AreUsable contents unit first k

abbrev pub DoesSoFar : (line unit first k : ℕ) → (written : Option (List ℕ)) → List (List ℕ) → (s s' : State) → (old new : Stage) → Type 0
DoesSoFar line unit first k written blocks s s' old new = IfTold s old new (Does (λ contents. touches k line unit first written) (moved written k unit first) (λ contents. AreSoFar written contents unit first k blocks) s s' old new)

pub record MovedSoFar (line unit first k : ℕ) (written : Option (List ℕ)) (blocks : List (List ℕ)) (old mid : Place) : Type 0 where
  pub so_far : DoesSoFar line unit first k written blocks old.cache mid.cache (seen old.spot) (seen mid.spot)
  pub setup : KeepsSetup (seen old.spot) (seen mid.spot)
  pub may : MayUse mid.cache mid.spot.driver
  pub keeps : Keeps old.spot mid.spot None
  pub silent : IsSilent old mid

pub moved_none : (line unit first : ℕ) (written : Option (List ℕ)) (blocks : List (List ℕ)) (here : Place) → MayUse here.cache here.spot.driver → MovedSoFar line unit first 0 written blocks here here
moved_none line unit first written blocks here may = record {
  so_far = start written;
  setup = setup_none (seen here.spot);
  may = may;
  keeps = keeps_none here.spot may.ready;
  silent = refl;
}
  where
    start : (w : Option (List ℕ)) → DoesSoFar line unit first 0 w blocks here.cache here.cache (seen here.spot) (seen here.spot)
    start None = given_none line unit first blocks here.cache (seen here.spot)
    start (Some from) = written_none line unit first from here.cache (seen here.spot)

module _ (line unit first count k : ℕ) (written : Option (List ℕ)) (into : List ℕ) (blocks : List (List ℕ)) (old mid new : Place) (m : MovedSoFar line unit first k written blocks old mid) (silent : IsSilent mid new) where
  -- one more
  pub moved_more : (value : Unit {0}) → k < length blocks → Touches line unit (first + k) written into (Ok value) mid new → MovedSoFar line unit first (k + 1) written (slice_set blocks k into) old new
  moved_more value lt touch = record {
    so_far = more written m.so_far (touch.done refl) touch.holds;
    setup = setup_more (seen old.spot) (seen mid.spot) (seen new.spot) touch.keeps.never_again m.setup (moves_setup line unit (first + k) written into (Ok value) mid.cache new.cache (seen mid.spot) (seen new.spot) (touch.done refl));
    may = touch.may refl;
    keeps = keeps_join m.keeps touch.keeps;
    silent = silent_join old mid new m.silent silent;
  }
    where
      more : (w : Option (List ℕ)) → DoesSoFar line unit first k w blocks old.cache mid.cache (seen old.spot) (seen mid.spot) → Moves line unit (first + k) w into (Ok value) mid.cache new.cache (seen mid.spot) (seen new.spot)
          → IfTold mid.cache (seen mid.spot) (seen new.spot) (Holds unit (first + k) w mid.cache (seen mid.spot) (seen new.spot)) → DoesSoFar line unit first (k + 1) w (slice_set blocks k into) old.cache new.cache (seen old.spot) (seen new.spot)
      more None so_far moves holds = given_more line unit first k into blocks old.cache mid.cache new.cache (seen old.spot) (seen mid.spot) (seen new.spot) lt m.setup (still touch.keeps) so_far moves holds
      more (Some from) so_far moves holds = written_more line unit first k from old.cache mid.cache new.cache (seen old.spot) (seen mid.spot) (seen new.spot) m.setup (still touch.keeps) so_far moves holds

  -- or this one can't be used
  pub moved_end : (why : CacheFault) (blocks' : List (List ℕ)) → why ≡ fault.Unusable → k < count → ((j : ℕ) → j < k → slice_index_or blocks' j [] ≡ slice_index_or blocks j [])
      → Touches line unit (first + k) written into (Err why) mid new → MovesAll line unit first count written blocks' (Ok k) old new
  moved_end why blocks' is lt same touch =
      let none = not_stopped (Unit {0}) why is in
      record {
        done = end written m.so_far (touch.done none) touch.holds;
        left = tt;
        cut = tt;
        setup = setup_more (seen old.spot) (seen mid.spot) (seen new.spot) touch.keeps.never_again m.setup (moves_setup line unit (first + k) written into (Err why) mid.cache new.cache (seen mid.spot) (seen new.spot) (touch.done none));
        may = touch.may none;
        keeps = keeps_join m.keeps (subst (Keeps mid.spot new.spot) none touch.keeps);
        silent = silent_join old mid new m.silent silent;
      }
    where
      end : (w : Option (List ℕ)) → DoesSoFar line unit first k w blocks old.cache mid.cache (seen old.spot) (seen mid.spot) → Moves line unit (first + k) w into (Err why) mid.cache new.cache (seen mid.spot) (seen new.spot)
          → IfTold mid.cache (seen mid.spot) (seen new.spot) (Holds unit (first + k) w mid.cache (seen mid.spot) (seen new.spot))
          → IfTold old.cache (seen old.spot) (seen new.spot) (Does (λ contents. touches (tried_in contents unit first count) line unit first w) (moved w (usable_in (contents_at old) unit first count) unit first)
          (λ contents. AreMoved w contents unit first count k blocks') old.cache new.cache (seen old.spot) (seen new.spot))
      end None so_far moves holds t tables fit = given_end line unit first count k blocks blocks' old.cache mid.cache new.cache (seen old.spot) (seen mid.spot) (seen new.spot) lt same m.setup (still touch.keeps) so_far moves holds t tables fit
      end (Some from) so_far moves holds t tables fit =
          let d = written_end line unit first count k from old.cache mid.cache new.cache (seen old.spot) (seen mid.spot) (seen new.spot) lt m.setup (still touch.keeps) so_far moves holds t tables fit in
          subst (λ n. Does (λ contents. touches (tried_in contents unit first count) line unit first (Some from)) (spread n unit first from) (λ contents. k ≡ usable_in contents unit first count) old.cache new.cache (seen old.spot) (seen new.spot)) d.says d

  -- or it stopped there
  pub moved_cut : (why : CacheFault) (stop : Stop) (blocks' : List (List ℕ)) → why ≡ fault.Stop stop → k < count → Touches line unit (first + k) written into (Err why) mid new → MovesAll line unit first count written blocks' (Err stop) old new
  moved_cut why stop blocks' is lt touch =
      let at : stop_of {A = Unit {0}} (Err why) ≡ Some stop = ap (λ (z : CacheFault). stop_of {A = Unit {0}} (Err z)) is in
      record {
        done = tt;
        left = left written m.so_far touch.holds;
        cut = cut written m.so_far (touch.till stop at);
        setup = tt;
        may = tt;
        keeps = keeps_join m.keeps (subst (Keeps mid.spot new.spot) at touch.keeps);
        silent = silent_join old mid new m.silent silent;
      }
    where
      left : (w : Option (List ℕ)) → DoesSoFar line unit first k w blocks old.cache mid.cache (seen old.spot) (seen mid.spot) → IfTold mid.cache (seen mid.spot) (seen new.spot) (Holds unit (first + k) w mid.cache (seen mid.spot) (seen new.spot))
          → IfTold old.cache (seen old.spot) (seen new.spot) (Leaves (moved w (usable_in (contents_at old) unit first count) unit first) old.cache (seen old.spot) (seen new.spot))
      left None so_far holds = given_stops (λ contents. touches k line unit first None) unit (first + k) (λ contents. AreGiven contents unit first k blocks) old.cache mid.cache (seen old.spot) (seen mid.spot) (seen new.spot) m.setup touch.keeps.never_again so_far holds
      left (Some from) so_far holds = written_stops line unit first count k from old.cache mid.cache (seen old.spot) (seen mid.spot) (seen new.spot) lt m.setup touch.keeps.never_again so_far holds

      cut : (w : Option (List ℕ)) → DoesSoFar line unit first k w blocks old.cache mid.cache (seen old.spot) (seen mid.spot)
          → IfTold mid.cache (seen mid.spot) (seen new.spot) (AsksTill stop line (block_done w (cached mid.cache.entries (map_at (seen mid.spot)) unit (first + k)) true mid.cache unit (first + k)).asked (seen mid.spot) (seen new.spot))
          → IfTold old.cache (seen old.spot) (seen new.spot) (IsCutIn stop [] (touches (tried_in (contents_at old) unit first count) line unit first w) old.cache (seen old.spot) (seen new.spot))
      cut None so_far till = given_cut stop line unit first count k blocks old.cache mid.cache (seen old.spot) (seen mid.spot) (seen new.spot) lt m.setup (still touch.keeps) so_far till
      cut (Some from) so_far till = written_cut stop line unit first count k from old.cache mid.cache (seen old.spot) (seen mid.spot) (seen new.spot) lt m.setup (still touch.keeps) so_far till

-- all of them
pub moved_all : (line unit first count k : ℕ) (written : Option (List ℕ)) (blocks : List (List ℕ)) (old new : Place) → k ≡ count → MovedSoFar line unit first k written blocks old new → MovesAll line unit first count written blocks (Ok count) old new
moved_all line unit first count k written blocks old new same m = record {
  done = all written m.so_far;
  left = tt;
  cut = tt;
  setup = m.setup;
  may = m.may;
  keeps = m.keeps;
  silent = m.silent;
}
  where
    all : (w : Option (List ℕ)) → DoesSoFar line unit first k w blocks old.cache new.cache (seen old.spot) (seen new.spot)
        → IfTold old.cache (seen old.spot) (seen new.spot) (Does (λ contents. touches (tried_in contents unit first count) line unit first w) (moved w (usable_in (contents_at old) unit first count) unit first)
        (λ contents. AreMoved w contents unit first count count blocks) old.cache new.cache (seen old.spot) (seen new.spot))
    all None so_far t tables fit = given_all line unit first count k blocks old.cache new.cache (seen old.spot) (seen new.spot) same so_far t tables fit
    all (Some from) so_far t tables fit =
        let d = written_all line unit first count k from old.cache new.cache (seen old.spot) (seen new.spot) same so_far t tables fit in
        subst (λ n. Does (λ contents. touches (tried_in contents unit first count) line unit first (Some from)) (spread n unit first from) (λ contents. count ≡ usable_in contents unit first count) old.cache new.cache (seen old.spot) (seen new.spot)) d.says d
