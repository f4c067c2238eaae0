-- What a caller of the program knows from the contract of `run` alone. Each record says one section of what users are told, in words of its
-- own; so a clause of the contract that is lost, or says less, leaves the caller without a proof. All of it is said of objects that tell.
use Rattle.std.specs.Prelude.{◌≡◌, ◌≢◌, ◌⊎◌, ◌↔◌, ℕ, ◌<◌, ◌+◌, ◌*◌, true, false, IsTrue, List, [], ◌∷◌, ◌++◌, Option, None, Some, is_some, replicate, Contains}
use Rattle.outside_traits.specs.Causes.{Rose}
use Rattle.pack_geometry.specs.declared.DriveKind.{DriveKind}
use Rattle.pack_geometry.specs.Geometry.{block_count, limit_of}
use Rattle.pack_geometry.specs.Homes.{IsHome, content_of, contents_of, home_of}
use Rattle.pack_geometry.specs.Pack.{Pack, block_at}
use Rattle.pack_geometry.specs.PackTable.{IsTableOf}
use Rattle.pack_geometry.specs.TableEdit.{IsEdited}
use Rattle.pack_geometry.specs.TableSpelling.{Table, table_text}
use Rattle.trace_replay.specs.requests.Requests.{Request, Failed, Offline, Locked, Unforwarded, Fault, first_block}
use Rattle.trace_replay.specs.Script.{drives_of, ids_of, inputs_of}
use Rattle.trace_replay.specs.Moments.{Moment, Told, End, answers_in, played}
use Rattle.trace_replay.specs.Runs.{IsLegalRun}
use Rattle.trace_replay.specs.Text.{trace_text}
use Rattle.trace_replay.specs.Conditions.{online_behind, locked_behind}
use Rattle.trace_lines.specs.answers.AnswerText.{out_text}
use Rattle.driver_laws.specs.rules.Beginnings.{HoldsButOne}
use Rattle.driver_laws.specs.rules.Grounds.{IsAskedAt, WasOffline, WasPlayed, ArmsFault, ArmsShownNoise}
use Rattle.driver_laws.specs.rules.Laws.{HoldMap}
use Rattle.driver_laws.specs.rules.LastWrites.{EachGives, left_behind}
use Rattle.driver_laws.specs.rules.LegalAnswers.{AreNoAliases, all_claimed, times_answered}
use Rattle.script_reader.specs.Grammar.{Spells}
use Rattle.script_lines.specs.Known.{Numbered}
use Rattle.script_lines.specs.Words.{all_verbs}
use Rattle.script_reader.specs.Meaning.{meaning}
use Rattle.hpsim_run.specs.SoFar.{StandIn}
use Rattle.script_lines.specs.Refusals.{refusal_text}
use Rattle.script_lines.specs.declared.kinds.ScriptKind.{ScriptKind}
use Rattle.script_reader.specs.Grammar.{IsRefused}
use Rattle.script_reader.specs.cached.Scripts.{Script as CachedLines, Spells as SpellsCached}
use Rattle.script_reader.specs.cached.Meaning.{meaning_of}
use Rattle.cached_run.specs.Answers.{answers_of, map_of_inputs, text_of}
use Rattle.cached_run.specs.Sessions.{AsksFor, Session, parts_in}
use Rattle.driver_laws.specs.rules.Sessions.{told_in}
use Rattle.command_parts.specs.Outside.{Outside}
use Rattle.command_parts.specs.Lines.{Told as IsTold, too_long_text}
use Rattle.command_parts.specs.declared.words.Target.{Target}
use Rattle.command_parts.specs.declared.words.Transfer.TheVariants.{Read, Write}
use Rattle.command_parts.specs.declared.words.Writing.TheVariants.{Raw}
use Rattle.pack_commands.specs.declared.words.Command.{Command}
use Rattle.pack_commands.specs.declared.words.Command.TheVariants.{ListTable, AddBlock, FreshTable, MarkBlocks, FormatPack, TransferBytes}
use Rattle.pack_commands.specs.Tools.{entry_text}
use Rattle.bad144_tool.specs.Adding.{edit_of}
use Rattle.bad144_tool.specs.Changes.{with_changes}
use Rattle.bad144_tool.specs.Edit.{copies}
use Rattle.bad144_tool.specs.Marking.{IsMarkedUp}
use Rattle.bad144_tool.specs.Texts.{list_text}
use Rattle.bad144_tool.specs.declared.edit.AddWay.{AddWay}
use Rattle.driver_laws.specs.rules.Bytes.{range, with_range}
use Rattle.partitions.specs.Partitions.{first_of}
use Rattle.trace_lines.specs.declared.answers.tally.Tally.{Tally}
use Rattle.hpsim_run.specs.ExerciseText.{exercise_text}

-- all four objects tell at the end, and so they did before
pub record AllTell (o : Outside) : Type 0 where
  pub source : IsTrue o.source_tells
  pub packs : IsTrue o.packs_tell
  pub out : IsTrue o.out_tells
  pub trace : IsTrue o.trace_tells

-- THE HEADLINE, of `play` and status 0.
pub record KeepsTheHeadline (old new : Outside) : Type 0 where
  pub lines : List Numbered
  pub count : ℕ
  pub tables : ℕ → Option Table
  pub moments : List Moment
  -- the source was read to its end, and its bytes spell the script
  pub read : new.left ≡ []
  pub spelled : Spells all_verbs old.left lines count
  -- what was printed and traced is the text of the one legal run that the script has over these packs
  pub legal : IsLegalRun (meaning lines count) tables old.held new.held moments
  pub only : (others : ℕ → Option Table) (other : ℕ → Pack) (told : List Moment) → IsLegalRun (meaning lines count) others old.held other told → told ≡ moments
  pub printed : new.said ≡ old.said ++ out_text moments
  pub traced : new.taken ≡ old.taken ++ trace_text moments
  -- each request is answered exactly once
  pub once : (id : ℕ) → Contains (ids_of (meaning lines count).lines) id → times_answered id (answers_in moments) ≡ 1
  pub no_other : (id : ℕ) → ¬ (Contains (ids_of (meaning lines count).lines) id) → times_answered id (answers_in moments) ≡ 0
  -- a read that is answered ok gives what the writes that were answered before it left, or the pack's first content
  pub reads : AreNoAliases (inputs_of (meaning lines count)) → EachGives (drives_of (meaning lines count)) all_claimed (inputs_of (meaning lines count))
      (contents_of (drives_of (meaning lines count)) tables old.held) (answers_in moments)
  -- an error has its cause in the script or the pack
  pub offline : (line unit id done : ℕ) (before after : List Moment) → moments ≡ before ++ Told line unit id (End (Failed Offline done)) ∷ after
      → (r : Request) × IsAskedAt r unit id before × WasOffline r before
  pub locked : (line unit id done : ℕ) (before after : List Moment) → moments ≡ before ++ Told line unit id (End (Failed Locked done)) ∷ after
      → (r : Request) × IsAskedAt r unit id before × (is_some r.written ≡ true) × (online_behind unit true before ≡ true) × (locked_behind unit false before ≡ true)
  pub unforwarded : (line unit id done : ℕ) (kind : DriveKind) (before after : List Moment)
      → moments ≡ before ++ Told line unit id (End (Failed Unforwarded done)) ∷ after → drives_of (meaning lines count) unit ≡ Some kind
      → (r : Request) × IsAskedAt r unit id before × (done < r.count) × (home_of kind (tables unit) (old.held unit) (first_block kind r + done) ≡ None)
  pub fault : (line unit id done : ℕ) (before after : List Moment) → moments ≡ before ++ Told line unit id (End (Failed Fault done)) ∷ after
      → WasPlayed (ArmsFault unit) before ⊎ WasPlayed (ArmsShownNoise unit) before
  -- at the end the packs' data blocks hold just what the answered writes left, and all else is as at first
  pub held : HoldMap (drives_of (meaning lines count)) tables new.held
      (left_behind (drives_of (meaning lines count)) (inputs_of (meaning lines count)) (contents_of (drives_of (meaning lines count)) tables old.held) (answers_in moments))
  pub sectors : (unit sector : ℕ) (kind : DriveKind) → drives_of (meaning lines count) unit ≡ Some kind → sector < block_count kind
      → ¬ (IsHome kind (tables unit) (old.held unit) sector) → block_at (new.held unit).image sector ≡ block_at (old.held unit).image sector
  pub marks : (unit : ℕ) → (new.held unit).marks ≡ (old.held unit).marks
  pub others : (unit : ℕ) → drives_of (meaning lines count) unit ≡ None → new.held unit ≡ old.held unit

-- BEHIND A STOP of `play`, with 5 or 6: of what was done, the answers of these moments stand whole in what was printed, and no other does. The
-- packs of each unit hold what the writes among them left, but for first blocks of one request that is not answered; all else is as at first.
pub record KeepsWhatWasAnswered (old new : Outside) : Type 0 where
  pub lines : List Numbered
  pub count : ℕ
  pub tables : ℕ → Option Table
  pub sent : List Moment
  pub front : List Moment
  pub rest : List Moment
  pub spelled : Spells all_verbs old.left lines count
  pub stand : StandIn old.said new.said sent front rest
  pub held : (unit : ℕ) (kind : DriveKind) → drives_of (meaning lines count) unit ≡ Some kind
      → HoldsButOne (drives_of (meaning lines count)) tables new.held (played (sent ++ front)) (answers_in (sent ++ front))
      (left_behind (drives_of (meaning lines count)) (played (sent ++ front)) (contents_of (drives_of (meaning lines count)) tables old.held) (answers_in (sent ++ front))) unit kind
  pub sectors : (unit sector : ℕ) (kind : DriveKind) → drives_of (meaning lines count) unit ≡ Some kind → sector < block_count kind
      → ¬ (IsHome kind (tables unit) (old.held unit) sector) → block_at (new.held unit).image sector ≡ block_at (old.held unit).image sector
  pub marks : (unit : ℕ) → (new.held unit).marks ≡ (old.held unit).marks
  pub others : (unit : ℕ) → drives_of (meaning lines count) unit ≡ None → new.held unit ≡ old.held unit

-- WHAT REFUSALS OF A SCRIPT come to: its first fault is printed exactly there, but where the source or memory fails first; and where its bytes
-- spell a script and nothing fails, it is done, or an image is too long, or there is no memory.
pub record KeepsRefusals (code : ℕ) (old new : Outside) : Type 0 where
  pub refused : code ≡ 3 → (line : ℕ) × (kind : ScriptKind) × IsRefused all_verbs old.left line kind × IsTold old.said new.said (refusal_text line kind) old.out_faults new.out_faults
  pub spells_none : ((lines : List Numbered) (count : ℕ) → ¬ Spells all_verbs old.left lines count) → (code ≡ 3) ⊎ (code ≡ 4) ⊎ (code ≡ 9)
  pub complete : (lines : List Numbered) (count : ℕ) → Spells all_verbs old.left lines count
      → ¬ Rose old.source_faults new.source_faults → ¬ Rose old.out_faults new.out_faults → ¬ Rose old.trace_faults new.trace_faults → ¬ Rose old.packs_faults new.packs_faults
      → (code ≡ 0) ⊎ (code ≡ 7) ⊎ (code ≡ 9)
  pub too_long : code ≡ 7 → (unit size : ℕ) × (kind : DriveKind) × (512 * block_count kind < size) × IsTold old.said new.said (too_long_text unit size) old.out_faults new.out_faults
  pub unchanged : (code ≡ 7) ⊎ (code ≡ 9) → new.held ≡ old.held

-- OF EVERY COMMAND: each failure has its object, words that are no command have their status, and what a refusal leaves.
pub record KeepsCauses (command : Option Command) (code : ℕ) (old new : Outside) : Type 0 where
  pub usage : (code ≡ 2) ↔ (command ≡ None)
  pub source : code ≡ 4 → Rose old.source_faults new.source_faults
  pub sink : code ≡ 5 → Rose old.out_faults new.out_faults ⊎ Rose old.trace_faults new.trace_faults
  pub store : code ≡ 6 → Rose old.packs_faults new.packs_faults
  pub untouched : (code ≡ 2) ⊎ (code ≡ 3) ⊎ (code ≡ 4) → new.held ≡ old.held
  pub silent : (code ≡ 4) ⊎ (code ≡ 9) → new.said ≡ old.said
  pub untraced : (code ≡ 3) ⊎ (code ≡ 4) ⊎ (code ≡ 7) ⊎ (code ≡ 9) → new.taken ≡ old.taken

-- THE TOOL. `list` prints the pack's table, and changes nothing; `fresh` leaves an empty table with the serial number in all five copies; `add`
-- edits the table, so that no other block's content changes; and what is refused has changed nothing.
pub record KeepsPacksTables (command : Option Command) (code : ℕ) (old new : Outside) : Type 0 where
  pub lists : (unit : ℕ) (kind : DriveKind) → command ≡ Some (ListTable unit kind) → code ≡ 0
      → (table : Option Table) × IsTableOf kind (old.held unit) table × (new.said ≡ old.said ++ list_text kind table)
  pub list_changes_nothing : (unit : ℕ) (kind : DriveKind) → command ≡ Some (ListTable unit kind) → new.held ≡ old.held
  pub freshens : (unit serial : ℕ) (kind : DriveKind) → command ≡ Some (FreshTable unit kind serial) → code ≡ 0
      → new.held ≡ with_changes old.held unit (copies kind (table_text serial []))
  pub adds : (unit block : ℕ) (kind : DriveKind) (way : AddWay) → block < block_count kind → command ≡ Some (AddBlock unit kind block way) → code ≡ 0
      → (table : Table) × (index : ℕ) × IsEdited kind (old.held unit) (new.held unit) table (edit_of block way) index × (new.said ≡ old.said ++ entry_text index)
  pub add_elsewhere : (unit block other : ℕ) (kind : DriveKind) (way : AddWay) → block < block_count kind → command ≡ Some (AddBlock unit kind block way) → code ≡ 0 → other ≢ unit
      → new.held other ≡ old.held other
  pub add_refused : (unit block : ℕ) (kind : DriveKind) (way : AddWay) → command ≡ Some (AddBlock unit kind block way) → (code ≡ 7) ⊎ (code ≡ 8) → new.held ≡ old.held
  pub marks : (unit : ℕ) (kind : DriveKind) → command ≡ Some (MarkBlocks unit kind) → code ≡ 0
      → (table : Table) × IsMarkedUp kind (old.held unit) (new.held unit) table
  pub formats : (unit serial : ℕ) (kind : DriveKind) → command ≡ Some (FormatPack unit kind serial) → code ≡ 0
      → (table : Table) × IsTableOf kind (new.held unit) (Some table) × ((block : ℕ) → block < limit_of kind → content_of kind (Some table) (new.held unit) block ≡ Some (replicate 512 0))
  pub format_refused : (unit serial : ℕ) (kind : DriveKind) → command ≡ Some (FormatPack unit kind serial) → (code ≡ 7) ⊎ (code ≡ 9) ⊎ (code ≡ 11) → new.held ≡ old.held

-- BYTES OF A PARTITION. A read prints the range's bytes by the pack's table and changes no pack; a write replaces just the range's bytes.
pub record KeepsPartitions (command : Option Command) (code : ℕ) (old new : Outside) : Type 0 where
  pub reads : (t : Target) (size : ℕ) → command ≡ Some (TransferBytes (Read t size)) → code ≡ 0
      → (table : Option Table) × IsTableOf t.kind (old.held t.unit) table
      × (new.said ≡ old.said ++ range size (content_of t.kind table (old.held t.unit)) (first_of t.kind t.part) t.at)
      × (new.held ≡ old.held)
  pub writes : (t : Target) → command ≡ Some (TransferBytes (Write (Raw t))) → code ≡ 0
      → (table : Option Table) × IsTableOf t.kind (old.held t.unit) table
      × ((block : ℕ) → content_of t.kind table (new.held t.unit) block
      ≡ with_range (content_of t.kind table (old.held t.unit)) (first_of t.kind t.part) t.at old.left block)

-- THE CACHE. With 0 each request was answered at its own line, in the order of the lines; the packs hold what all writes leave; and the trace
-- has the requests that a cache of so many blocks asks for.
pub record KeepsTheCache (capacity : ℕ) (old new : Outside) : Type 0 where
  pub lines : CachedLines
  pub tables : ℕ → Option Table
  pub spelled : SpellsCached old.left lines.lines lines.count
  pub printed : new.said ≡ old.said ++ text_of (answers_of (drives_of (meaning_of lines)) (contents_of (drives_of (meaning_of lines)) tables old.held) (inputs_of (meaning_of lines)))
  pub held : HoldMap (drives_of (meaning_of lines)) tables new.held
      (map_of_inputs (drives_of (meaning_of lines)) (contents_of (drives_of (meaning_of lines)) tables old.held) (inputs_of (meaning_of lines)))
  pub marks : (unit : ℕ) → (new.held unit).marks ≡ (old.held unit).marks
  pub others : (unit : ℕ) → drives_of (meaning_of lines) unit ≡ None → new.held unit ≡ old.held unit
  pub sessions : List Session
  pub asks : AsksFor capacity (drives_of (meaning_of lines)) (contents_of (drives_of (meaning_of lines)) tables old.held) (inputs_of (meaning_of lines)) sessions
  pub traced : new.taken ≡ old.taken ++ trace_text (told_in (parts_in sessions))

-- THE EXERCISE. With 0 the script of the number was played, each of its requests was answered, and the four lines of the tally were printed.
pub record KeepsTheExercise (number : ℕ) (old new : Outside) : Type 0 where
  pub tally : Tally
  pub answered : tally.answers ≡ tally.requests
  pub printed : new.said ≡ old.said ++ exercise_text number tally
