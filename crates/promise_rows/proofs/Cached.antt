-- What is promised of a script of the cache refuses these outcomes.
use Rattle.std.proofs.Common.{◌≡◌, ◌⊎◌, inl, inr, ℕ, zero, suc, ◌+◌, ◌-◌, ◌*◌, ◌^◌, ◌<◌, ◌≤◌, min, List, [], ◌∷◌, ◌++◌, length, take, drop, length-drop, length-append, Option, None, Some, refl, sym, ap, ◌∙◌, subst, arith}
use Rattle.std.proofs.lemmas.Bool.{false≢true}
use Rattle.std.proofs.lemmas.List.{append-nil, append_cancel_left}
use Rattle.partitions.specs.declared.Admission.{Admission}
use Rattle.trace_replay.specs.requests.Requests.{Request, WriteOk}
use Rattle.driver_laws.specs.rules.Machine.{Blocks}
use Rattle.driver_laws.specs.rules.Waited.{answer_at, answer_by, first_unusable, unusable_or}
use Rattle.pack_geometry.specs.Geometry.{block_count}
use Rattle.trace_replay.specs.Script.{Submit, Drain, drives_of}
use Rattle.driver_laws.specs.rules.Entries.{empty_cache}
use Rattle.driver_laws.specs.rules.Requests.{Map, reads, writes}
use Rattle.cached_run.specs.Sessions.{Call, asked_by, parts_till}
use Rattle.driver_laws.specs.declared.answers.outcome.Stop.{Stop}
use Rattle.raw_io.specs.Passes.{LongAt}
use Rattle.trace_replay.specs.Runs.{start_of}
use Rattle.cached_run.specs.Theorem.{contents}
use Rattle.cached_run.specs.Answers.{answers_of, first_by, map_of_inputs, text_of}
use Rattle.promise_rows.specs.Cached.{LastSyncForgotten, BlockOlderThanTheLastSync, CachedBytesBeyondTheDrive, PlayedNotAsLongAsWritten, StoppedNotAsLongAsWritten, CachedNotAsLongAsWritten, LaterLinesPlayedBehindASinkThatFailed, at_line, called_at, CacheOfAnotherSize, SyncThatWritesNothing, LastUnusableBlockOk, FaultCalledThatOfASink, WriteAnsweredBeforeItIsDone, UnitBehindASync}

pub last_sync_forgotten : LastSyncForgotten
last_sync_forgotten capacity script old new out trace plays unit block kind there less other = other (plays.held unit block kind there less)

pub block_older_than_the_last_sync : BlockOlderThanTheLastSync
block_older_than_the_last_sync capacity script old new out trace stops unit block kind there less none =
    let here = stops.held unit block kind there less in none here.number here.from here.holds

-- what an image has beyond its drive stays
none_beyond : (n : ℕ) (xs ys : List ℕ) → drop n ys ≡ drop n xs → length xs ≤ n → n < length ys → ⊥
none_beyond n xs ys same fits long =
    let e : length ys - n ≡ length xs - n = sym (length-drop n ys) ∙ ap length same ∙ length-drop n xs in
    omega (arith, e, fits, long)

pub cached_bytes_beyond_the_drive : CachedBytesBeyondTheDrive
cached_bytes_beyond_the_drive capacity script old new out trace (inl plays) unit kind there fits long =
    none_beyond (512 * block_count kind) (old unit).image (new unit).image (plays.stay.beyond unit kind there) fits long
cached_bytes_beyond_the_drive capacity script old new out trace (inr stops) unit kind there fits long =
    none_beyond (512 * block_count kind) (old unit).image (new unit).image (stops.stay.beyond unit kind there) fits long

played_not_as_long_as_written : PlayedNotAsLongAsWritten
played_not_as_long_as_written capacity script old new out trace plays unit other = other (plays.asked.long unit)

stopped_not_as_long_as_written : StoppedNotAsLongAsWritten
stopped_not_as_long_as_written capacity script old new out trace stops till is unit other =
    other ((subst (λ (stop : Stop). LongAt stop (parts_till till.cut) old new (start_of script stops.tables old)) is till.long) unit)

pub cached_not_as_long_as_written : CachedNotAsLongAsWritten
cached_not_as_long_as_written = (played_not_as_long_as_written, stopped_not_as_long_as_written)

pub later_lines_played_behind_a_sink_that_failed : LaterLinesPlayedBehindASinkThatFailed
later_lines_played_behind_a_sink_that_failed capacity script old new out trace stops tells less =
    let front = stops.front tells in
    let said : List ℕ = out.before ++ text_of (answers_of (drives_of script) (contents script stops.tables old) stops.before) in
    let rest : List ℕ = take front.0 (text_of (answers_of (drives_of script) (map_of_inputs (drives_of script) (contents script stops.tables old) stops.before) (stops.at ∷ []))) in
    shorter (length out.after) (length said) (length rest) (ap length front.1 ∙ length-append said rest) less
  where
    shorter : (a b c : ℕ) → a ≡ b + c → a < b → ⊥
    shorter a b c e lt = omega (arith, e, lt)

-- the requests of these calls
asked_four : (m : Map) (from one other : List ℕ) → m 0 5 ≡ Some one → m 0 6 ≡ Some other
    → asked_by m (empty_cache 1) (called_at 2 (Submit (writes 0 5 from)) ∷ called_at 3 (Submit (reads 0 6)) ∷ called_at 4 (Submit (reads 0 5)) ∷ called_at 5 Drain ∷ [])
    ≡ at_line 2 (reads 0 5) ∷ at_line 3 (reads 0 6) ∷ at_line 3 (writes 0 5 from) ∷ at_line 4 (reads 0 5) ∷ []
asked_four m from one other five six = rw (five, six) refl

pub cache_of_another_size : CacheOfAnotherSize
cache_of_another_size script old new out trace from one other plays five six calls differ =
    differ (plays.asked.asks.requests ∙ ap (λ cs. asked_by (contents script plays.tables old) (empty_cache 1) cs) calls ∙ asked_four (contents script plays.tables old) from one other five six)

asked_two : (m : Map) (from one : List ℕ) (more : List Call) → m 0 5 ≡ Some one
    → take 2 (asked_by m (empty_cache 1) (called_at 2 (Submit (writes 0 5 from)) ∷ called_at 3 Drain ∷ more)) ≡ at_line 2 (reads 0 5) ∷ at_line 3 (writes 0 5 from) ∷ []
asked_two m from one more five = rw five refl

pub sync_that_writes_nothing : SyncThatWritesNothing
sync_that_writes_nothing script old new out trace from one more stops till five done differ =
    differ (ap (take 2) (till.cut.all ∙ ap (λ cs. asked_by (contents script stops.tables old) (empty_cache 1) cs) done) ∙ asked_two (contents script stops.tables old) from one more five)

-- ONE THAT CAN'T BE USED is found among the blocks.
here_found : (block : Option (List ℕ)) (k : ℕ) (later : Option ℕ) → block ≡ None → unusable_or block k later ≡ None → ⊥
here_found None k later none is = cc is
here_found (Some bytes) k later none is = cc none

later_found : (block : Option (List ℕ)) (k : ℕ) (later : Option ℕ) → unusable_or block k later ≡ None → later ≡ None
later_found None k later is = absurd (cc is)
later_found (Some bytes) k later is = is

some_unusable : (left : ℕ) (blocks : Blocks) (first k j : ℕ) → j < left → blocks (first + (k + j)) ≡ None → first_unusable left blocks first k ≡ None → ⊥
some_unusable zero blocks first k j less none is = omega (arith, less)
some_unusable (suc left) blocks first k zero less none is =
    here_found (blocks (first + k)) k (first_unusable left blocks first (suc k)) (sym (ap (λ (n : ℕ). blocks (first + n)) (at k)) ∙ none) is
  where
    at : (k : ℕ) → k + 0 ≡ k
    at k = omega arith
some_unusable (suc left) blocks first k (suc j) less none is =
    some_unusable left blocks first (suc k) j (omega (arith, less)) (sym (ap (λ (n : ℕ). blocks (first + n)) (at k j)) ∙ none)
    (later_found (blocks (first + k)) k (first_unusable left blocks first (suc k)) is)
  where
    at : (k j : ℕ) → k + suc j ≡ suc k + j
    at k j = omega arith

not_ok : (found : Option ℕ) (blocks : Blocks) (first : ℕ) (r : Request) → (found ≡ None → ⊥) → answer_by found blocks first r ≡ WriteOk → ⊥
not_ok None blocks first r some is = some refl
not_ok (Some done) blocks first r some is = cc is

pub last_unusable_block_ok : LastUnusableBlockOk
last_unusable_block_ok drives map r at k met less none is =
    not_ok (first_unusable r.count (map r.unit) (first_by drives r) 0) (map r.unit) (first_by drives r) r
    (some_unusable r.count (map r.unit) (first_by drives r) 0 k less (ap (λ (n : ℕ). map r.unit (first_by drives r + n)) (from_none k) ∙ none))
    (sym (ap (λ (m : Admission). answer_at m (map r.unit) (first_by drives r) r) met) ∙ is)
  where
    from_none : (k : ℕ) → 0 + k ≡ k
    from_none k = omega arith

pub fault_called_that_of_a_sink : FaultCalledThatOfASink
fault_called_that_of_a_sink packs packs' out trace less less' rise = neither (rise.sink refl)
  where
    not_next : (n : ℕ) → n < 2 ^ 64 - 1 → min (n + 1) (2 ^ 64 - 1) ≤ n → ⊥
    not_next n less le = omega (arith, less, le)

    neither : (min (out + 1) (2 ^ 64 - 1) ≤ out) ⊎ (min (trace + 1) (2 ^ 64 - 1) ≤ trace) → ⊥
    neither (inl rose) = not_next out less rose
    neither (inr rose) = not_next trace less' rose

pub write_answered_before_it_is_done : WriteAnsweredBeforeItIsDone
write_answered_before_it_is_done n inputs byte text begun s first old new far tells tells' few same more halts =
    some (append_cancel_left old.said (byte ∷ text) [] (sym more ∙ (halts first begun inputs far).whole (stays first.out_faults new.out_faults few same) tells' ∙ sym (far.said tells) ∙ sym (append-nil old.said)))
  where
    stays : (n m : ℕ) → n < 2 ^ 64 - 1 → m ≡ n → min (n + 1) (2 ^ 64 - 1) ≤ m → ⊥
    stays n m few same rose = omega (arith, few, same, rose)

    some : byte ∷ text ≡ [] → ⊥
    some is = cc is

pub unit_behind_a_sync : UnitBehindASync
unit_behind_a_sync first second unit count kind lines script = false≢true (sym (script.lines.1.1.1.0.first))
