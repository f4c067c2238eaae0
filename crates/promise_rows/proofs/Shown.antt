-- A caller of the program shows what users are told from the clauses of `run` alone.
use Rattle.std.proofs.Common.{◌≡◌, ◌⊎◌, inl, inr, ℕ, Bool, IsTrue, List, ◌++◌, Option, Ok, Err, length, take, take_all, le_refl, refl, sym, ap, arith, ◌∙◌}
use Rattle.pack_geometry.specs.declared.DriveKind.{DriveKind}
use Rattle.pack_geometry.specs.Homes.{content_of}
use Rattle.pack_geometry.specs.Pack.{Pack}
use Rattle.pack_geometry.specs.PackTable.{IsTableOf}
use Rattle.pack_geometry.specs.TableSpelling.{Table}
use Rattle.partitions.specs.Partitions.{first_of}
use Rattle.trace_replay.specs.Moments.{Moment}
use Rattle.driver_laws.specs.rules.Bytes.{range, with_range}
use Rattle.script_reader.specs.Grammar.{Spells}
use Rattle.script_lines.specs.Known.{Numbered}
use Rattle.script_lines.specs.Words.{all_verbs}
use Rattle.script_reader.specs.Meaning.{meaning}
use Rattle.event_player.specs.PlayFault.TheVariants as faults
use Rattle.event_player.specs.Stops.{Leaves}
use Rattle.command_parts.specs.Outside.{Outside}
use Rattle.command_parts.specs.declared.words.Target.{Target}
use Rattle.command_parts.specs.declared.words.Transfer.TheVariants.{Read, Write}
use Rattle.command_parts.specs.declared.words.Writing.TheVariants.{Raw}
use Rattle.hpsim_run.specs.Cached.{RunsCached}
use Rattle.script_commands.specs.Plays.{RunsPlay}
use Rattle.script_commands.specs.Sinks.{out_took, trace_took}
use Rattle.hpsim_run.specs.SoFar.{HoldTaken, Keeps}
use Rattle.raw_command.specs.Endings.{Ends, ReadEnds, RunsTransfer, WriteEnds}
use Rattle.raw_command.specs.Faults.{Answer, code_of}
use Rattle.raw_command.specs.declared.fault.TransferFault.TheVariants as fault
use Rattle.bad144_tool.specs.declared.edit.AddWay.{AddWay}
use Rattle.pack_commands.specs.Tools.{RunsAdd}
use Rattle.promise_rows.specs.Caller.{AllTell, KeepsTheHeadline, KeepsWhatWasAnswered, KeepsRefusals, KeepsTheCache}

-- ---- THE HEADLINE
pub headline : {code : ℕ} {old new : Outside} → RunsPlay code old new → code ≡ 0 → AllTell new → KeepsTheHeadline old new
headline run done tell =
    let whole = run.done done in
    let plays = whole.plays tell.packs in
    let keeps = whole.keeps tell.packs in
    record {
      lines = whole.lines;
      count = whole.count;
      tables = plays.tables;
      moments = plays.moments;
      read = whole.read tell.source;
      spelled = whole.spelled tell.source;
      legal = plays.run;
      only = λ others other told is. (keeps.only others other told is).1;
      printed = plays.out tell.out;
      traced = plays.trace tell.trace;
      once = keeps.once;
      no_other = keeps.no_other;
      reads = λ none. (keeps.all_passed_on none).reads;
      offline = keeps.offline;
      locked = keeps.locked;
      unforwarded = keeps.unforwarded;
      fault = keeps.fault;
      held = keeps.passed_on.left;
      sectors = keeps.rest.sectors;
      marks = keeps.rest.marks;
      others = keeps.rest.others;
    }

-- ---- A STOP
of_taken : {lines : List Numbered} {count : ℕ} {tables : ℕ → Option Table} {old new : Outside} {sent late : List Moment} → Spells all_verbs old.left lines count
    → HoldTaken (meaning lines count) tables old.held new.held old.said new.said sent late → KeepsWhatWasAnswered old new
of_taken {lines} {count} {tables} {old} {new} {sent} spelled taken = record {
  lines = lines;
  count = count;
  tables = tables;
  sent = sent;
  front = taken.front;
  rest = taken.rest;
  spelled = spelled;
  stand = taken.stand;
  held = taken.hold.held;
  sectors = taken.hold.sectors;
  marks = taken.hold.marks;
  others = taken.hold.others;
}

behind_store : {lines : List Numbered} {count : ℕ} {old new : Outside} → Spells all_verbs old.left lines count
    → Leaves faults.Store (meaning lines count) old.held new.held new.failed_at (out_took old new) (trace_took old new)
    → Keeps faults.Store (meaning lines count) old.held new.held (out_took old new) (trace_took old new)
    → (new.held ≡ old.held) ⊎ KeepsWhatWasAnswered old new
behind_store spelled (inl unplayed) keeps = inl unplayed.packs
behind_store spelled (inr stops) keeps = inr (of_taken spelled (keeps stops).2.taken)

pub stopped : {code : ℕ} {old new : Outside} → RunsPlay code old new → (code ≡ 5) ⊎ (code ≡ 6) → AllTell new → (new.held ≡ old.held) ⊎ KeepsWhatWasAnswered old new
stopped run (inl sink) tell =
    let stop = run.stopped sink in
    inr (of_taken (stop.spelled tell.source) (stop.keeps tell.packs (stop.leaves tell.packs)).1.taken)
stopped run (inr store) tell =
    let stop = run.stopped_packs store in
    behind_store (stop.spelled tell.source) (stop.leaves tell.packs) (stop.keeps tell.packs)

-- ---- REFUSALS OF A SCRIPT
pub refusals : {code : ℕ} {old new : Outside} → RunsPlay code old new → AllTell new → KeepsRefusals code old new
refusals run tell = record {
  refused = λ is. let refusal = run.script.refused is in (refusal.line, refusal.kind, refusal.first tell.source, refusal.told tell.out);
  spells_none = λ none. run.script.only_refused tell.source (λ script means. none means.lines means.count means.spelled);
  complete = λ lines count spelled. run.script.complete (meaning lines count) tell.source (record { lines = lines; count = count; spelled = spelled; is = refl });
  too_long = λ is. let long = run.script.too_long is in (long.unit, long.length_is, long.is.kind, long.is.more, long.told tell.out);
  unchanged = λ is. run.script.same is tell.packs;
}

-- ---- BYTES OF A PARTITION
abbrev HasReadOf : Target → (size : ℕ) → (old new : Outside) → Type 0
HasReadOf t size old new = (table : Option Table) × IsTableOf t.kind (old.held t.unit) table
    × (new.said ≡ old.said ++ range size (content_of t.kind table (old.held t.unit)) (first_of t.kind t.part) t.at)
    × (new.held ≡ old.held)

read_all : (t : Target) (size : ℕ) {old new : Outside} → ReadEnds t size (Ok tt) old new → AllTell new → HasReadOf t size old new
read_all t size {old} {new} all tell =
    let read = all.read tell.packs in
    (read.moved.table, read.moved.stays.table_is, all.told tell.out ∙ ap (λ (bytes : List ℕ). old.said ++ bytes) read.is, read.same)

reads_by : (t : Target) (size : ℕ) (old new : Outside) (answer : Answer) → code_of answer ≡ 0 → Ends (Read t size) answer old new → AllTell new → HasReadOf t size old new
reads_by t size old new (Ok all) is ends tell = read_all t size ends tell
reads_by t size old new (Err fault.Source) is ends tell = absurd (omega (arith, is))
reads_by t size old new (Err fault.Sink) is ends tell = absurd (omega (arith, is))
reads_by t size old new (Err fault.Store) is ends tell = absurd (omega (arith, is))
reads_by t size old new (Err (fault.TooLong n)) is ends tell = absurd (omega (arith, is))
reads_by t size old new (Err fault.Memory) is ends tell = absurd (omega (arith, is))
reads_by t size old new (Err fault.Outside) is ends tell = absurd (omega (arith, is))
reads_by t size old new (Err (fault.Unusable done)) is ends tell = absurd (omega (arith, is))

pub reads : (t : Target) (size : ℕ) {code : ℕ} {old new : Outside} → RunsTransfer (Read t size) code old new → code ≡ 0 → AllTell new → HasReadOf t size old new
reads t size {code} {old} {new} run is tell = reads_by t size old new run.answer (sym run.code_is ∙ is) run.ends tell

abbrev HasWrittenOf : Target → (old new : Outside) → Type 0
HasWrittenOf t old new = (table : Option Table) × IsTableOf t.kind (old.held t.unit) table
    × ((block : ℕ) → content_of t.kind table (new.held t.unit) block ≡ with_range (content_of t.kind table (old.held t.unit)) (first_of t.kind t.part) t.at old.left block)

written_all : (t : Target) {old new : Outside} → WriteEnds (Raw t) (Ok tt) old new → AllTell new → HasWrittenOf t old new
written_all t {old} {new} all tell =
    let written = all.writes.written tell.packs in
    let same : take (length all.from) all.from ≡ old.left = take_all (length all.from) all.from (le_refl (length all.from)) ∙ sym (all.writes.took.read tell.source).0 in (
      written.moved.table,
      written.moved.stays.table_is,
      λ block. written.written block
          ∙ ap (λ (bytes : List ℕ). with_range (content_of t.kind written.moved.table (old.held t.unit)) (first_of t.kind t.part) t.at bytes block) same,
    )

writes_by : (t : Target) (old new : Outside) (answer : Answer) → code_of answer ≡ 0 → Ends (Write (Raw t)) answer old new → AllTell new → HasWrittenOf t old new
writes_by t old new (Ok all) is ends tell = written_all t ends.0 tell
writes_by t old new (Err fault.Source) is ends tell = absurd (omega (arith, is))
writes_by t old new (Err fault.Sink) is ends tell = absurd (omega (arith, is))
writes_by t old new (Err fault.Store) is ends tell = absurd (omega (arith, is))
writes_by t old new (Err (fault.TooLong n)) is ends tell = absurd (omega (arith, is))
writes_by t old new (Err fault.Memory) is ends tell = absurd (omega (arith, is))
writes_by t old new (Err fault.Outside) is ends tell = absurd (omega (arith, is))
writes_by t old new (Err (fault.Unusable done)) is ends tell = absurd (omega (arith, is))

pub writes : (t : Target) {code : ℕ} {old new : Outside} → RunsTransfer (Write (Raw t)) code old new → code ≡ 0 → AllTell new → HasWrittenOf t old new
writes t {code} {old} {new} run is tell = writes_by t old new run.answer (sym run.code_is ∙ is) run.ends tell

-- ---- THE CACHE AND THE EXERCISE
pub cached : {capacity code : ℕ} {old new : Outside} → RunsCached capacity code old new → code ≡ 0 → AllTell new → KeepsTheCache capacity old new
cached run done tell =
    let whole = run.done done in
    let plays = whole.plays tell.packs in
    record {
      lines = whole.lines;
      tables = plays.tables;
      spelled = whole.spelled tell.source;
      printed = plays.said tell.out;
      held = plays.held;
      marks = plays.rest.marks;
      others = plays.rest.others;
      sessions = plays.asked.sessions;
      asks = plays.asked.asks;
      traced = plays.asked.told tell.trace;
    }

-- ---- THE TOOL. What is refused has changed nothing.
pub add_unchanged : {kind : DriveKind} {unit block code : ℕ} {way : AddWay} {tells out_tells : Bool} {old new : ℕ → Pack} {taken after : List ℕ} {faults faults_after : ℕ}
    → RunsAdd kind unit block way code tells old new out_tells taken after faults faults_after → (code ≡ 7) ⊎ (code ≡ 8) → IsTrue tells → new ≡ old
add_unchanged run = run.unchanged
