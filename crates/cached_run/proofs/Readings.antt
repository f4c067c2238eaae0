-- The blocks of a read, one behind the other.
use Rattle.std.proofs.Common.{◌≡◌, ◌≢◌, inl, inr, ℕ, ◌+◌, ◌<◌, true, IsTrue, List, [], length, Option, None, Some, refl, sym, ap, ◌∙◌, subst, arith}
use Rattle.std.specs.Prelude.{IsSome, slice_index_or, slice_set}
use Rattle.std.proofs.lemmas.List.{get_or-set_same, get_or-set_other}
use Rattle.std.proofs.lemmas.Bool.Decides.{eqb_tells}
use Rattle.driver_laws.specs.rules.Rest.{HasTables}
use Rattle.buffer_cache.specs.Passes.{Stage, StillTell, setup_at, map_at}
use Rattle.driver_laws.specs.rules.Requests.{Map}
use Rattle.driver_laws.specs.rules.Entries.{State}
use Rattle.driver_laws.specs.rules.Contents.{cached, AllFit, Gives}
use Rattle.driver_laws.specs.declared.answers.outcome.Stop.{Stop}
use Rattle.driver_laws.specs.rules.Calls.{read_done}
use Rattle.buffer_cache.specs.Asks.{AsksTill}
use Rattle.buffer_cache.specs.Calls.{IfTold, Reads, Holds}
use Rattle.trace_replay.specs.Script.{Numbered}
use Rattle.cached_run.specs.Leaving.{IsCalled, IsCutIn, Leaves, KeepsSetup, AreRead, Does, tried_in, touches}
use Rattle.cached_run.proofs.Firsts.{all_usable, some_usable, all_tried, some_tried, tried_at}
use Rattle.cached_run.proofs.Calls.{called_none, called_read, touched_one, touched_till}
use Rattle.cached_run.proofs.Leavings.{leaves_none, makes_none, leaves_then, makes_then, leaves_read}

-- SO FAR the first ones were read.
abbrev pub AreGiven : (contents : Map) (unit first k : ℕ) → List (List ℕ) → Type 0
AreGiven contents unit first k blocks = (j : ℕ) → j < k → contents unit (first + j) ≡ Some (slice_index_or blocks j [])

abbrev pub GivenSoFar : (line unit first k : ℕ) → List (List ℕ) → (s s' : State) → (old new : Stage) → Type 0
GivenSoFar line unit first k blocks s s' old new = IfTold s old new (Does (λ contents. touches k line unit first None) [] (λ contents. AreGiven contents unit first k blocks) s s' old new)

pub given_none : (line unit first : ℕ) (blocks : List (List ℕ)) (s : State) (here : Stage) → GivenSoFar line unit first 0 blocks s s here here
given_none line unit first blocks s here t tables fit = record { calls = called_none s here; leaves = leaves_none [] s here; makes = makes_none s here fit; says = λ j lt. absurd (omega (arith, lt)) }

-- the packs behind one more read, whatever it gave
read_on : (line unit first k : ℕ) (given : Option (List ℕ)) (P : Map → Type 0) (s s' s'' : State) (old mid new : Stage) → KeepsSetup old mid → StillTell mid new
    → IfTold s old mid (Does (λ contents. touches k line unit first None) [] P s s' old mid) → Reads line unit (first + k) given s' s'' mid new → IfTold s' mid new (Holds unit (first + k) None s' mid new) → IsTrue new.packs_tell → HasTables (setup_at old) → AllFit (map_at old) s.entries
    → Does (λ contents. touches (k + 1) line unit first None) [] (λ contents. given ≡ contents unit (first + k)) s s'' old new
read_on line unit first k given P s s' s'' old mid new ks still so_far r holds t tables fit =
    let b : ℕ = first + k in
    let g = so_far (still.packs t) tables fit in
    let gives : Gives (map_at mid) (map_at new) unit b given s'.entries s''.entries = r.told t (ks.tables (still.packs t) tables) g.makes.fit in
    record {
      calls = touched_one k line unit first None s s' s'' old mid new still g.calls (called_read line unit b given s' s'' mid new r t (ks.tables (still.packs t) tables) g.makes.fit);
      leaves = leaves_then [] [] s s' old mid new ks g.leaves g.makes (leaves_read unit b s' mid new (holds t (ks.tables (still.packs t) tables) g.makes.fit));
      makes = makes_then [] [] s s' s'' old mid new g.makes (record { contents = gives.contents; fit = gives.fit });
      says = gives.content ∙ g.makes.contents unit b;
    }

-- ONE MORE
pub given_more : (line unit first k : ℕ) (into : List ℕ) (blocks : List (List ℕ)) (s s' s'' : State) (old mid new : Stage) → k < length blocks → KeepsSetup old mid → StillTell mid new
    → GivenSoFar line unit first k blocks s s' old mid → Reads line unit (first + k) (Some into) s' s'' mid new → IfTold s' mid new (Holds unit (first + k) None s' mid new)
    → GivenSoFar line unit first (k + 1) (slice_set blocks k into) s s'' old new
given_more line unit first k into blocks s s' s'' old mid new room ks still so_far r holds t tables fit =
    let d = read_on line unit first k (Some into) (λ contents. AreGiven contents unit first k blocks) s s' s'' old mid new ks still so_far r holds t tables fit in
    record {
      calls = d.calls;
      leaves = d.leaves;
      makes = d.makes;
      says = λ j lt. elim (eqb_tells j k) [
        | inl same ↦ ap (λ n. cached s.entries (map_at old) unit (first + n)) same.1 ∙ sym d.says
            ∙ ap (λ z. Some z) (sym (ap (λ n. slice_index_or (slice_set blocks k into) n []) same.1 ∙ get_or-set_same blocks k into [] room))
        | inr other ↦ (so_far (still.packs t) tables fit).says j (below j k lt other.1) ∙ ap (λ z. Some z) (sym (get_or-set_other blocks k j into [] other.1))
      ];
    }
  where
    below : (j k : ℕ) → j < k + 1 → j ≢ k → j < k
    below j k lt ne = grind (arith, lt, ne)

some_bytes : {bytes : List ℕ} (held : Option (List ℕ)) → held ≡ Some bytes → IsSome held
some_bytes held e = subst IsSome (sym e) refl

-- ALL OF THEM
pub given_all : (line unit first count k : ℕ) (blocks : List (List ℕ)) (s s' : State) (old new : Stage) → k ≡ count → GivenSoFar line unit first k blocks s s' old new
    → IfTold s old new (Does (λ contents. touches (tried_in contents unit first count) line unit first None) [] (λ contents. AreRead contents unit first count count blocks) s s' old new)
given_all line unit first count k blocks s s' old new same so_far t tables fit =
    let d = so_far t tables fit in
    let usable : (j : ℕ) → j < count → IsSome (cached s.entries (map_at old) unit (first + j)) =
    λ j lt. some_bytes (cached s.entries (map_at old) unit (first + j)) (d.says j (subst (λ n. j < n) (sym same) lt)) in
    record {
      calls = subst (λ n. IsCalled (touches n line unit first None) s s' old new) (same ∙ all_tried (cached s.entries (map_at old)) unit first count usable) d.calls;
      leaves = d.leaves;
      makes = d.makes;
      says = record {
        done_is = all_usable (cached s.entries (map_at old)) unit first count usable;
        bytes = λ j lt. d.says j (subst (λ n. j < n) (sym same) lt);
      };
    }

-- a block that is set behind the first ones leaves them
pub set_behind : (blocks : List (List ℕ)) (k : ℕ) (into : List ℕ) (j : ℕ) → j < k → slice_index_or (slice_set blocks k into) j [] ≡ slice_index_or blocks j []
set_behind blocks k into j lt = get_or-set_other blocks k j into [] (apart j k lt)
  where
    apart : (j k : ℕ) → j < k → j ≢ k
    apart j k lt e = omega (arith, lt, e)

-- OR NOT: this one can't be used
pub given_end : (line unit first count k : ℕ) (blocks blocks' : List (List ℕ)) (s s' s'' : State) (old mid new : Stage) → k < count → ((j : ℕ) → j < k → slice_index_or blocks' j [] ≡ slice_index_or blocks j [])
    → KeepsSetup old mid → StillTell mid new
    → GivenSoFar line unit first k blocks s s' old mid → Reads line unit (first + k) None s' s'' mid new → IfTold s' mid new (Holds unit (first + k) None s' mid new)
    → IfTold s old new (Does (λ contents. touches (tried_in contents unit first count) line unit first None) [] (λ contents. AreRead contents unit first count k blocks') s s'' old new)
given_end line unit first count k blocks blocks' s s' s'' old mid new lt same ks still so_far r holds t tables fit =
    let d = read_on line unit first k None (λ contents. AreGiven contents unit first k blocks) s s' s'' old mid new ks still so_far r holds t tables fit in
    let before = (so_far (still.packs t) tables fit).says in
    let usable : (j : ℕ) → j < k → IsSome (cached s.entries (map_at old) unit (first + j)) = λ j below. some_bytes (cached s.entries (map_at old) unit (first + j)) (before j below) in
    record {
      calls = subst (λ n. IsCalled (touches n line unit first None) s s'' old new) (some_tried (cached s.entries (map_at old)) unit first count k lt usable (sym d.says)) d.calls;
      leaves = d.leaves;
      makes = d.makes;
      says = record {
        done_is = some_usable (cached s.entries (map_at old)) unit first count k lt usable (sym d.says);
        bytes = λ j below. before j below ∙ ap (λ z. Some z) (sym (same j below));
      };
    }

-- OR IT STOPPED there
pub given_stops : (at : Map → List Numbered) (unit b : ℕ) (P : Map → Type 0) (s s' : State) (old mid new : Stage) → KeepsSetup old mid → (IsTrue new.packs_tell → IsTrue mid.packs_tell)
    → IfTold s old mid (Does at [] P s s' old mid) → IfTold s' mid new (Holds unit b None s' mid new) → IfTold s old new (Leaves [] s old new)
given_stops at unit b P s s' old mid new k still so_far holds t tables fit =
    let g = so_far (still t) tables fit in
    leaves_then [] [] s s' old mid new k g.leaves g.makes (leaves_read unit b s' mid new (holds t (k.tables (still t) tables) g.makes.fit))

pub given_cut : (stop : Stop) (line unit first count k : ℕ) (blocks : List (List ℕ)) (s s' : State) (old mid new : Stage) → k < count → KeepsSetup old mid → StillTell mid new → GivenSoFar line unit first k blocks s s' old mid
    → IfTold s' mid new (AsksTill stop line (read_done (cached s'.entries (map_at mid) unit (first + k)) true s' unit (first + k)).asked mid new)
    → IfTold s old new (IsCutIn stop [] (touches (tried_in (cached s.entries (map_at old)) unit first count) line unit first None) s old new)
given_cut stop line unit first count k blocks s s' old mid new lt ks still so_far till t tables fit =
    let contents : Map = cached s.entries (map_at old) in
    let g = so_far (still.packs t) tables fit in
    let at = tried_at contents unit first count k lt (λ j below. some_bytes (contents unit (first + j)) (g.says j below)) in
    touched_till stop k at.more line unit first (tried_in contents unit first count) None s s' old mid new at.is still g.calls (till t (ks.tables (still.packs t) tables) g.makes.fit)
