-- What is promised of the cache refuses these outcomes.
use Rattle.std.proofs.Common.{◌≡◌, ◌≢◌, inl, inr, ℕ, ◌+◌, ◌-◌, ◌^◌, ◌<◌, ◌==◌, ◌&&◌, min, Bool, true, false, List, ◌∷◌, take, Option, None, Some, refl, sym, ap, ◌∙◌, arith}
use Rattle.std.specs.Prelude.{if◌then◌else◌}
use Rattle.std.proofs.lemmas.Bool.{eq-eqb, ne_eqb}
use Rattle.driver_laws.specs.declared.rules.cached.Entry.{Entry}
use Rattle.driver_laws.specs.rules.Requests.{Map, written_over}
use Rattle.driver_laws.specs.rules.Entries.{State, entry_of, with_room}
use Rattle.driver_laws.specs.rules.Calls.{Done, entry, read_by, read_done, read_found}
use Rattle.driver_laws.specs.rules.Contents.{bytes_or}
use Rattle.cached_run.specs.Passes.{map_at}
use Rattle.promise_rows.specs.Cache.{ChangedEntryDropped, AnotherBlockWrittenBack, RefusedInsertionNotCounted, RefusedRisesAtAStop, SyncStopsEarly, RefusedInsertionPromotes, AnotherBlockWritten, BlockAlwaysFound}

pub changed_entry_dropped : ChangedEntryDropped
changed_entry_dropped line unit block given e s s' old new reads tells tables fit held gone other =
    other (sym (ap (λ (x : Option Entry). bytes_or x (map_at new e.unit e.block)) gone) ∙ (reads.told tells tables fit).contents e.unit e.block
    ∙ ap (λ (x : Option Entry). bytes_or x (map_at old e.unit e.block)) held)

pub another_block_written_back : AnotherBlockWrittenBack
another_block_written_back line unit block u b given s s' old new reads tells tables fit none still other =
    other (sym (ap (λ (x : Option Entry). bytes_or x (map_at new u b)) still) ∙ (reads.told tells tables fit).contents u b
    ∙ ap (λ (x : Option Entry). bytes_or x (map_at old u b)) none)

pub sync_stops_early : SyncStopsEarly
sync_stops_early line e s s' old new syncs tells tables fit held other =
    other ((syncs.told tells tables fit).contents e.unit e.block ∙ ap (λ (x : Option Entry). bytes_or x (map_at old e.unit e.block)) held)

-- A BLOCK THAT WAS READ is an entry, or it was counted that it is none.
both : (a b : Bool) → a ≡ true → b ≡ true → a && b ≡ true
both true true one other = refl
both true false one other = absurd (cc other)
both false b one other = absurd (cc one)

in_front : (unit block : ℕ) (bytes : List ℕ) (entries : List Entry) → entry_of unit block (entry unit block bytes false ∷ entries) ≡ Some (entry unit block bytes false)
in_front unit block bytes entries =
    ap (λ (b : Bool). if b then Some (entry unit block bytes false) else entry_of unit block entries) (both (unit == unit) (block == block) (eq-eqb unit unit refl) (eq-eqb block block refl))

one_more : (n : ℕ) → n < 2 ^ 64 - 1 → min (n + 1) (2 ^ 64 - 1) ≡ n → ⊥
one_more n less is = omega (arith, less, is)

counted_or_there : (held : Option (List ℕ)) (refuses : Bool) (s : State) (unit block : ℕ) (given : List ℕ) → Some given ≡ (read_found held refuses s unit block).given
    → entry_of unit block (read_found held refuses s unit block).state.entries ≡ None → s.refused < 2 ^ 64 - 1 → (read_found held refuses s unit block).state.refused ≡ s.refused → ⊥
counted_or_there None refuses s unit block given is none less same = absurd (cc is)
counted_or_there (Some bytes) true s unit block given is none less same = one_more s.refused less same
counted_or_there (Some bytes) false s unit block given is none less same = some_none (sym (in_front unit block bytes (take (s.capacity - 1) (with_room s).entries)) ∙ none)
  where
    some_none : {e : Entry} → Some e ≡ None → ⊥
    some_none is = cc is

pub refused_insertion_not_counted : RefusedInsertionNotCounted
refused_insertion_not_counted line unit block given s s' old new reads none still less same =
    let found : read_done reads.held reads.refuses s unit block ≡ read_found reads.held reads.refuses s unit block = ap (λ (e : Option Entry). read_by e reads.held reads.refuses s unit block) none in
    let state : s' ≡ (read_found reads.held reads.refuses s unit block).state = reads.state ∙ ap (λ (d : Done). d.state) found in
    counted_or_there reads.held reads.refuses s unit block given (reads.gives ∙ ap (λ (d : Done). d.given) found)
    (sym (ap (λ (x : State). entry_of unit block x.entries) state) ∙ still) less (sym (ap (λ (x : State). x.refused) state) ∙ same)

-- A READ THAT COUNTED one more refused insertion leaves the entries, but that there is room.
found_keeps : (held : Option (List ℕ)) (refuses : Bool) (s : State) (unit block : ℕ)
    → (read_found held refuses s unit block).state.refused ≢ s.refused → (read_found held refuses s unit block).state.entries ≡ (with_room s).entries
found_keeps None refuses s unit block counted = absurd (counted refl)
found_keeps (Some bytes) true s unit block counted = refl
found_keeps (Some bytes) false s unit block counted = absurd (counted refl)

read_keeps : (e : Option Entry) (held : Option (List ℕ)) (refuses : Bool) (s : State) (unit block : ℕ)
    → (read_by e held refuses s unit block).state.refused ≢ s.refused → (read_by e held refuses s unit block).state.entries ≡ (with_room s).entries
read_keeps (Some e) held refuses s unit block counted = absurd (counted refl)
read_keeps None held refuses s unit block counted = found_keeps held refuses s unit block counted

pub refused_rises_at_a_stop : RefusedRisesAtAStop
refused_rises_at_a_stop s s' (inl same) more = omega (arith, same, more)
refused_rises_at_a_stop s s' (inr one) more = above s.refused s'.refused one more
  where
    above : (n m : ℕ) → m ≡ min (n + 1) (2 ^ 64 - 1) → n + 1 < m → ⊥
    above n m is more = omega (arith, is, more)

pub refused_insertion_promotes : RefusedInsertionPromotes
refused_insertion_promotes line unit block given s s' old new reads counted other =
    other (ap (λ (t : State). t.entries) reads.state
    ∙ read_keeps (entry_of unit block s.entries) reads.held reads.refuses s unit block (λ same. counted (ap (λ (t : State). t.refused) reads.state ∙ same)))

-- a write of one block leaves another
pub another_block_written : AnotherBlockWritten
another_block_written line unit block other from old new asks tells tables away changed =
    changed (ap (λ (m : Map). m unit other) (asks.map tells tables)
    ∙ ap (λ (b : Bool). if b then written_over (Some from) (map_at old unit other) else map_at old unit other) (neither (unit == unit) (other == block) (ne_eqb other block away)))
  where
    neither : (a b : Bool) → b ≡ false → a && b ≡ false
    neither true b is = is
    neither false b is = refl

pub block_always_found : BlockAlwaysFound
block_always_found line unit block into old new tells tables none fetches = none_some (sym none ∙ fetches.told tells tables)
  where
    none_some : None ≡ Some into → ⊥
    none_some is = cc is
