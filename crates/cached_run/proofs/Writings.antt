-- The blocks of a write, one behind the other.
use Rattle.std.proofs.Common.{◌≡◌, ◌≢◌, inl, inr, ℕ, zero, suc, ◌+◌, ◌-◌, ◌<◌, ◌≤◌, Bool, true, false, IsTrue, List, [], ◌∷◌, ◌++◌, Option, None, Some, refl, sym, ap, ◌∙◌, subst, arith, append-nil}
use Rattle.std.specs.Prelude.{IsSome, if◌then◌else◌, ◌==◌, ◌&&◌}
use Rattle.std.proofs.lemmas.Bool.{ne_eqb}
use Rattle.std.proofs.lemmas.Bool.Decides.{eqb_tells}
use Rattle.pack_geometry.specs.declared.DriveKind.{DriveKind}
use Rattle.pack_geometry.specs.Pack as model
use Rattle.pack_geometry.specs.Content.{bytes_at}
use Rattle.pack_geometry.specs.TableSpelling.{Table}
use Rattle.pack_geometry.specs.Homes.{home_of, content_at}
use Rattle.driver_laws.proofs.rules.MachineRuns.{home_marks}
use Rattle.buffer_cache.specs.Passes.{Stage, StillTell, setup_at, OthersStay, map_at, left_map}
use Rattle.driver_laws.specs.declared.rules.cached.Entry.{Entry}
use Rattle.driver_laws.specs.rules.Requests.{Map}
use Rattle.driver_laws.specs.rules.Entries.{State}
use Rattle.driver_laws.specs.rules.Contents.{cached, IsOne, Takes}
use Rattle.driver_laws.specs.declared.answers.outcome.Stop.{Stop}
use Rattle.driver_laws.specs.rules.Calls.{write_done}
use Rattle.buffer_cache.specs.Asks.{AsksTill}
use Rattle.buffer_cache.specs.Calls.{IfTold, Writes, Holds}
use Rattle.cached_run.specs.Answers.{Replacement, with_replacement, after}
use Rattle.cached_run.specs.Leaving.{IsCalled, IsCutIn, IsLeft, Leaves, Makes, KeepsSetup, Does, usable_in, tried_in, touches, spread}
use Rattle.cached_run.proofs.Calls.{absent, cached_some, cached_none, called_none, called_write, touched_one, touched_till}
use Rattle.cached_run.proofs.Firsts.{all_usable, some_usable, at_least_usable, all_tried, some_tried, tried_at}
use Rattle.cached_run.proofs.Leavings.{leaves_none, makes_none, leaves_more, leaves_then, makes_then, leaves_write}
use Rattle.cached_run.proofs.Numbers.{itself, next_along, next_over, none_before, with_none}

-- ---- replacements of blocks one behind the other
pub spread_more : (n m unit first : ℕ) (from : List ℕ) → spread (n + m) unit first from ≡ spread n unit first from ++ spread m unit (first + n) from
spread_more zero m unit first from = ap (λ z. spread z unit first from) (none_before m) ∙ ap (λ z. spread m unit z from) (with_none first)
spread_more (suc n) m unit first from = ap (λ z. spread z unit first from) (next_over n m) ∙ ap (λ z. record { unit = unit; block = first; bytes = from } ∷ z) (spread_more n m unit (first + 1) from ∙ ap (λ z. spread n unit (first + 1) from ++ spread m unit z from) (next_along first n))

-- a block behind them keeps what it has
spread_misses : (n unit first b : ℕ) (from : List ℕ) (contents : Map) → first + n ≤ b → after (spread n unit first from) contents unit b ≡ contents unit b
spread_misses zero unit first b from contents le = refl
spread_misses (suc n) unit first b from contents le =
    spread_misses n unit (first + 1) b from (with_replacement (record { unit = unit; block = first; bytes = from }) contents) (omega (arith, le))
    ∙ other (away first n b le)
  where
    away : (first n b : ℕ) → first + suc n ≤ b → b ≢ first
    away first n b le e = omega (arith, le, e)

    and_false : (w : Bool) → w && false ≡ false
    and_false true = refl
    and_false false = refl

    other : b ≢ first → (if (unit == unit) && (b == first) then Some from else contents unit b) ≡ contents unit b
    other ne = rw (ne_eqb b first ne, and_false (unit == unit)) refl

-- ---- which blocks can be used stays
home_none : (pack : model.Pack) (home : Option ℕ) → bytes_at pack home ≡ None → home ≡ None
home_none pack None none = refl
home_none pack (Some sector) none = absent none

content_stays : (drive : Option DriveKind) (table : Option Table) (one other : model.Pack) (b : ℕ) → one.marks ≡ other.marks → content_at drive table one b ≡ None → content_at drive table other b ≡ None
content_stays None table one other b same none = refl
content_stays (Some kind) table one other b same none = ap (bytes_at other) (sym (home_marks kind table one other b same) ∙ home_none one (home_of kind table one b) none)

pub unusable_stays : (old new : Stage) (u b : ℕ) → OthersStay (setup_at old) new.held → map_at old u b ≡ None → left_map old new u b ≡ None
unusable_stays old new u b o none = content_stays ((setup_at old).drives u) ((setup_at old).tables u) (old.held u) (new.held u) b (sym (o.stay.marks u)) none

-- ---- SO FAR the first ones were written.
abbrev pub AreUsable : (contents : Map) (unit first k : ℕ) → Type 0
AreUsable contents unit first k = (j : ℕ) → j < k → IsSome (contents unit (first + j))

abbrev pub WrittenSoFar : (line unit first k : ℕ) → List ℕ → (s s' : State) → (old new : Stage) → Type 0
WrittenSoFar line unit first k from s s' old new = IfTold s old new (Does (λ contents. touches k line unit first (Some from)) (spread k unit first from) (λ contents. AreUsable contents unit first k) s s' old new)

pub written_none : (line unit first : ℕ) (from : List ℕ) (s : State) (here : Stage) → WrittenSoFar line unit first 0 from s s here here
written_none line unit first from s here t tables fit = record { calls = called_none s here; leaves = leaves_none [] s here; makes = makes_none s here fit; says = λ j lt. absurd (omega (arith, lt)) }

-- a block behind them is cached as it was at first
module _ (unit first k : ℕ) (from : List ℕ) (s s' : State) (old mid : Stage) (m : Makes (spread k unit first from) s s' old mid) where
  same_behind : cached s'.entries (map_at mid) unit (first + k) ≡ cached s.entries (map_at old) unit (first + k)
  same_behind = m.contents unit (first + k) ∙ spread_misses k unit first (first + k) from (cached s.entries (map_at old)) (itself (first + k))

one_more : (unit first k : ℕ) (contents : Map) → AreUsable contents unit first k → IsSome (contents unit (first + k)) → AreUsable contents unit first (k + 1)
one_more unit first k contents usable some j lt = elim (eqb_tells j k) [
  | inl same ↦ subst (λ n. IsSome (contents unit (first + n))) (sym same.1) some
  | inr other ↦ usable j (below j k lt other.1)
]
  where
    below : (j k : ℕ) → j < k + 1 → j ≢ k → j < k
    below j k lt ne = grind (arith, lt, ne)

-- ONE MORE
pub written_more : (line unit first k : ℕ) (from : List ℕ) (s s' s'' : State) (old mid new : Stage) → KeepsSetup old mid → StillTell mid new
    → WrittenSoFar line unit first k from s s' old mid → Writes line unit (first + k) true from s' s'' mid new → IfTold s' mid new (Holds unit (first + k) (Some from) s' mid new)
    → WrittenSoFar line unit first (k + 1) from s s'' old new
written_more line unit first k from s s' s'' old mid new ks still so_far w holds t tables fit =
    let g = so_far (still.packs t) tables fit in
    let takes : Takes (map_at mid) (map_at new) unit (first + k) true from s'.entries s''.entries = w.told t (ks.tables (still.packs t) tables) g.makes.fit in
    let one : Replacement = record { unit = unit; block = first + k; bytes = from } in
    subst (λ z. Does (λ contents. touches (k + 1) line unit first (Some from)) z (λ contents. AreUsable contents unit first (k + 1)) s s'' old new) (sym (spread_more k 1 unit first from))
    (record {
      calls = touched_one k line unit first (Some from) s s' s'' old mid new still g.calls (called_write line unit (first + k) true from s' s'' mid new w t (ks.tables (still.packs t) tables) g.makes.fit);
      leaves = leaves_then (spread k unit first from) (one ∷ []) s s' old mid new ks g.leaves g.makes (leaves_write unit (first + k) from s' mid new (holds t (ks.tables (still.packs t) tables) g.makes.fit));
      makes = makes_then (spread k unit first from) (one ∷ []) s s' s'' old mid new g.makes (record { contents = takes.contents; fit = takes.fit });
      says = one_more unit first k (cached s.entries (map_at old)) g.says
          (subst IsSome (same_behind unit first k from s s' old mid g.makes) (cached_some s'.entries (map_at mid) unit (first + k) (takes.usable refl)));
    })

-- ALL OF THEM
pub written_all : (line unit first count k : ℕ) (from : List ℕ) (s s' : State) (old new : Stage) → k ≡ count → WrittenSoFar line unit first k from s s' old new
    → IfTold s old new (Does (λ contents. touches (tried_in contents unit first count) line unit first (Some from)) (spread count unit first from) (λ contents. count ≡ usable_in contents unit first count) s s' old new)
written_all line unit first count k from s s' old new same so_far t tables fit =
    let d = so_far t tables fit in
    record {
      calls = subst (λ n. IsCalled (touches n line unit first (Some from)) s s' old new)
          (same ∙ all_tried (cached s.entries (map_at old)) unit first count (λ j lt. d.says j (subst (λ n. j < n) (sym same) lt))) d.calls;
      leaves = subst (λ n. Leaves (spread n unit first from) s old new) same d.leaves;
      makes = subst (λ n. Makes (spread n unit first from) s s' old new) same d.makes;
      says = all_usable (cached s.entries (map_at old)) unit first count (λ j lt. d.says j (subst (λ n. j < n) (sym same) lt));
    }

-- a block that can't be used is not written
left_unusable : (unit block : ℕ) (from : List ℕ) (map : Map) (entries : List Entry) (u b : ℕ) (now : Option (List ℕ)) → (u ≡ unit → b ≡ block → now ≡ None) → IsOne map entries unit block (Some from) u b now
    → IsLeft [] map entries u b now
left_unusable unit block from map entries u b now none (inl same) = inl same
left_unusable unit block from map entries u b now none (inr (inl here)) = inr (record { number = 0; to = omega arith; holds = here })
left_unusable unit block from map entries u b now none (inr (inr own)) = absent (sym own.1.1.1 ∙ none own.0 own.1.0)

leaves_unusable : (unit block : ℕ) (from : List ℕ) (s : State) (old new : Stage) → map_at old unit block ≡ None → Holds unit block (Some from) s old new → Leaves [] s old new
leaves_unusable unit block from s old new none h = record {
  each = λ u b. left_unusable unit block from (map_at old) s.entries u b (left_map old new u b)
      (λ e f. ap (λ z. left_map old new z b) e ∙ ap (λ z. left_map old new unit z) f ∙ unusable_stays old new unit block h.others none) (h.each u b);
  others = h.others;
}

-- OR NOT: this one can't be used
pub written_end : (line unit first count k : ℕ) (from : List ℕ) (s s' s'' : State) (old mid new : Stage) → k < count → KeepsSetup old mid → StillTell mid new
    → WrittenSoFar line unit first k from s s' old mid → Writes line unit (first + k) false from s' s'' mid new → IfTold s' mid new (Holds unit (first + k) (Some from) s' mid new)
    → IfTold s old new (Does (λ contents. touches (tried_in contents unit first count) line unit first (Some from)) (spread k unit first from) (λ contents. k ≡ usable_in contents unit first count) s s'' old new)
written_end line unit first count k from s s' s'' old mid new lt ks still so_far w holds t tables fit =
    let g = so_far (still.packs t) tables fit in
    let takes : Takes (map_at mid) (map_at new) unit (first + k) false from s'.entries s''.entries = w.told t (ks.tables (still.packs t) tables) g.makes.fit in
    let none : map_at mid unit (first + k) ≡ None = takes.unusable refl in
    let unusable : cached s.entries (map_at old) unit (first + k) ≡ None = sym (same_behind unit first k from s s' old mid g.makes) ∙ cached_none s'.entries (map_at mid) unit (first + k) g.makes.fit none in
    subst (λ z. Does (λ contents. touches (tried_in contents unit first count) line unit first (Some from)) z (λ contents. k ≡ usable_in contents unit first count) s s'' old new) (append-nil (spread k unit first from))
    (record {
      calls = subst (λ n. IsCalled (touches n line unit first (Some from)) s s'' old new) (some_tried (cached s.entries (map_at old)) unit first count k lt g.says unusable)
          (touched_one k line unit first (Some from) s s' s'' old mid new still g.calls (called_write line unit (first + k) false from s' s'' mid new w t (ks.tables (still.packs t) tables) g.makes.fit));
      leaves = leaves_then (spread k unit first from) [] s s' old mid new ks g.leaves g.makes (leaves_unusable unit (first + k) from s' mid new none (holds t (ks.tables (still.packs t) tables) g.makes.fit));
      makes = makes_then (spread k unit first from) [] s s' s'' old mid new g.makes (record { contents = takes.contents; fit = takes.fit });
      says = some_usable (cached s.entries (map_at old)) unit first count k lt g.says unusable;
    })

-- OR IT STOPPED there
pub written_stops : (line unit first count k : ℕ) (from : List ℕ) (s s' : State) (old mid new : Stage) → k < count → KeepsSetup old mid → (IsTrue new.packs_tell → IsTrue mid.packs_tell)
    → WrittenSoFar line unit first k from s s' old mid → IfTold s' mid new (Holds unit (first + k) (Some from) s' mid new)
    → IfTold s old new (Leaves (spread (usable_in (cached s.entries (map_at old)) unit first count) unit first from) s old new)
written_stops line unit first count k from s s' old mid new lt ks still so_far holds t tables fit =
    let g = so_far (still t) tables fit in
    by (map_at mid unit (first + k)) refl g.leaves g.makes g.says (holds t (ks.tables (still t) tables) g.makes.fit)
  where
    longer : (n m : ℕ) → n ≤ m → m ≡ n + (m - n)
    longer n m le = omega (arith, le)

    all : (n : ℕ) → n ≤ usable_in (cached s.entries (map_at old)) unit first count → Leaves (spread n unit first from) s old new → Leaves (spread (usable_in (cached s.entries (map_at old)) unit first count) unit first from) s old new
    all n le l =
        let m : ℕ = usable_in (cached s.entries (map_at old)) unit first count in
        subst (λ z. Leaves z s old new) (sym (ap (λ z. spread z unit first from) (longer n m le) ∙ spread_more n (m - n) unit first from))
        (leaves_more (spread n unit first from) (spread (m - n) unit (first + n) from) s old new l)

    some_bytes : {bytes : List ℕ} (held : Option (List ℕ)) → held ≡ Some bytes → IsSome held
    some_bytes held e = subst IsSome (sym e) refl

    by : (content : Option (List ℕ)) → map_at mid unit (first + k) ≡ content → Leaves (spread k unit first from) s old mid → Makes (spread k unit first from) s s' old mid
        → AreUsable (cached s.entries (map_at old)) unit first k → Holds unit (first + k) (Some from) s' mid new
        → Leaves (spread (usable_in (cached s.entries (map_at old)) unit first count) unit first from) s old new
    by None none l m usable h =
        all k (at_least_usable (cached s.entries (map_at old)) unit first count k (omega (arith, lt)) usable)
        (subst (λ z. Leaves z s old new) (append-nil (spread k unit first from))
        (leaves_then (spread k unit first from) [] s s' old mid new ks l m (leaves_unusable unit (first + k) from s' mid new none h)))
    by (Some bytes) some l m usable h =
        all (k + 1) (at_least_usable (cached s.entries (map_at old)) unit first count (k + 1) (omega (arith, lt)) (one_more unit first k (cached s.entries (map_at old)) usable
        (subst IsSome (same_behind unit first k from s s' old mid m) (cached_some s'.entries (map_at mid) unit (first + k) (some_bytes (map_at mid unit (first + k)) some)))))
        (subst (λ z. Leaves z s old new) (sym (spread_more k 1 unit first from))
        (leaves_then (spread k unit first from) (record { unit = unit; block = first + k; bytes = from } ∷ []) s s' old mid new ks l m (leaves_write unit (first + k) from s' mid new h)))

pub written_cut : (stop : Stop) (line unit first count k : ℕ) (from : List ℕ) (s s' : State) (old mid new : Stage) → k < count → KeepsSetup old mid → StillTell mid new → WrittenSoFar line unit first k from s s' old mid
    → IfTold s' mid new (AsksTill stop line (write_done (cached s'.entries (map_at mid) unit (first + k)) true s' unit (first + k) from).asked mid new)
    → IfTold s old new (IsCutIn stop [] (touches (tried_in (cached s.entries (map_at old)) unit first count) line unit first (Some from)) s old new)
written_cut stop line unit first count k from s s' old mid new lt ks still so_far till t tables fit =
    let contents : Map = cached s.entries (map_at old) in
    let g = so_far (still.packs t) tables fit in
    let at = tried_at contents unit first count k lt g.says in
    touched_till stop k at.more line unit first (tried_in contents unit first count) (Some from) s s' old mid new at.is still g.calls (till t (ks.tables (still.packs t) tables) g.makes.fit)
