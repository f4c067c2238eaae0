-- What a run comes to, by the command that the words name.
use Rattle.std.proofs.Common.{◌≡◌, ◌⊎◌, inl, inr, ℕ, Bool, IsTrue, false, true, if◌then◌else◌, ◌==◌, Option, None, Some, refl, sym, ap, subst, ◌∙◌}
use Rattle.pack_geometry.specs.declared.DriveKind.{DriveKind}
use Rattle.outside_traits.specs.Causes.{Rose}
use Rattle.bad144_tool.specs.declared.edit.AddWay.{AddWay}
use Rattle.command_parts.specs.declared.words.Transfer.{Transfer}
use Rattle.command_parts.specs.Outside.{HasItsCause, Outside}
use Rattle.command_parts.specs.Lines.{Told}
use Rattle.command_parts.specs.Statuses.{status_code}
use Rattle.command_parts.specs.declared.status.Status.{Status}
use Rattle.command_parts.specs.declared.status.Status.TheVariants as status
use Rattle.pack_commands.specs.Formats.{IsFormatCode, RunsFormat}
use Rattle.pack_commands.specs.Tools.{RunsAdd, RunsFresh, RunsList, RunsMark}
use Rattle.pack_commands.specs.Words.{usage_text}
use Rattle.pack_commands.specs.declared.words.Command.{Command}
use Rattle.pack_commands.specs.declared.words.Command.TheVariants.{Play, ListTable, AddBlock, FreshTable, MarkBlocks, Exercise, Cached, FormatPack, TransferBytes}
use Rattle.raw_command.specs.Endings.{RunsTransfer}
use Rattle.raw_command.specs.Faults.{IsTransferCode}
use Rattle.pack_commands.specs.Leaves.{LeavesAlone, TellsUsage}
use Rattle.script_commands.specs.Plays.{RunsPlay}
use Rattle.script_commands.specs.Scripts.{IsPlayCode}
use Rattle.hpsim_run.specs.Cached.{RunsCached}
use Rattle.script_commands.specs.Exercises.{RunsExercise}
use Rattle.hpsim_run.specs.Statuses.{IsChangeCode, IsExerciseCode, IsStatusOf, IsToolCode}
use Rattle.hpsim_run.specs.Tools.{RunsTool}
use Rattle.raw_command.proofs.TransferLaws.{no_code}

-- what each command has done, and its statuses
abbrev pub Does : Option Command → ℕ → Outside → Outside → Type 0
Does None code old new = Unit {0}
Does (Some Play) code old new = RunsPlay code old new
Does (Some (ListTable unit kind)) code old new = RunsList kind unit code new.packs_tell old.held new.held new.out_tells old.said new.said old.out_faults new.out_faults
Does (Some (AddBlock unit kind block way)) code old new = RunsAdd kind unit block way code new.packs_tell old.held new.held new.out_tells old.said new.said old.out_faults new.out_faults
Does (Some (FreshTable unit kind serial)) code old new = RunsFresh kind unit serial code new.packs_tell old.held new.held new.out_tells old.said new.said old.out_faults new.out_faults
Does (Some (MarkBlocks unit kind)) code old new = RunsMark kind unit code new.packs_tell old.held new.held new.out_tells old.said new.said old.out_faults new.out_faults
Does (Some (Exercise number)) code old new = RunsExercise number code new.out_tells old.said new.said old.out_faults new.out_faults new.trace_tells old.taken new.taken old.trace_faults new.trace_faults
Does (Some (Cached capacity)) code old new = RunsCached capacity code old new
Does (Some (FormatPack unit kind serial)) code old new = RunsFormat kind unit serial code new.packs_tell old.held new.held new.out_tells old.said new.said old.out_faults new.out_faults
Does (Some (TransferBytes transfer)) code old new = RunsTransfer transfer code old new

abbrev pub IsCode : Option Command → ℕ → Type 0
IsCode None code = code ≡ 2
IsCode (Some Play) code = IsPlayCode code
IsCode (Some (ListTable unit kind)) code = IsToolCode code
IsCode (Some (AddBlock unit kind block way)) code = IsChangeCode code
IsCode (Some (FreshTable unit kind serial)) code = IsToolCode code
IsCode (Some (MarkBlocks unit kind)) code = IsChangeCode code
IsCode (Some (Exercise number)) code = IsExerciseCode code
IsCode (Some (Cached capacity)) code = IsPlayCode code
IsCode (Some (FormatPack unit kind serial)) code = IsFormatCode code
IsCode (Some (TransferBytes transfer)) code = IsTransferCode transfer code

pub record Ends {S P O T : Type 0} (command : Option Command) (code : ℕ) (old new : Outside) (source source' : S) (packs packs' : P) (out out' : O) (trace trace' : T) : Type 0 where
  pub does : Does command code old new
  pub is_code : IsCode command code
  pub not_usage : code ≡ 2 → ⊥
  pub some : command ≡ None → ⊥
  pub causes : HasItsCause code old new
  pub leaves : LeavesAlone command code source source' packs packs' out out' trace trace'

module _ {S P O T : Type 0} {command : Option Command} {code : ℕ} {old new : Outside} {source source' : S} {packs packs' : P} {out out' : O} {trace trace' : T} where
  -- at the command that the words name, and the number that the program ends with
  pub ends_at : {one : Command} {here : Command} {n : ℕ} → Some here ≡ command → here ≡ one → code ≡ n
      → Ends (Some one) n old new source source' packs packs' out out' trace trace' → Ends command code old new source source' packs packs' out out' trace trace'
  ends_at {one} named is e ends =
      subst (λ (k : Option Command). Ends k code old new source source' packs packs' out out' trace trace') (sym (ap Some is) ∙ named)
      (subst (λ (m : ℕ). Ends (Some one) m old new source source' packs packs' out out' trace trace') (sym e) ends)

  pub did : {one : Option Command} → Ends command code old new source source' packs packs' out out' trace trace' → command ≡ one → Does one code old new
  did ends e = subst (λ (k : Option Command). Does k code old new) e ends.does

  coded : {one : Option Command} → Ends command code old new source source' packs packs' out out' trace trace' → command ≡ one → IsCode one code
  coded ends e = subst (λ (k : Option Command). IsCode k code) e ends.is_code

  pub tool_of : Ends command code old new source source' packs packs' out out' trace trace'
      → RunsTool command code new.packs_tell old.held new.held new.out_tells old.said new.said old.out_faults new.out_faults
  tool_of ends = record {
    list = λ unit kind e. did ends e;
    add = λ unit block kind way e. did ends e;
    fresh = λ unit serial kind e. did ends e;
    mark = λ unit kind e. did ends e;
    format = λ unit serial kind e. did ends e;
  }

  pub status_of : Ends command code old new source source' packs packs' out out' trace trace' → IsStatusOf command code
  status_of ends = record {
    none = λ e. coded ends e;
    play = λ e. coded ends e;
    list = λ unit kind e. coded ends e;
    add = λ unit block kind way e. coded ends e;
    fresh = λ unit serial kind e. coded ends e;
    mark = λ unit kind e. coded ends e;
    exercise = λ number e. coded ends e;
    cached = λ capacity e. coded ends e;
    format = λ unit serial kind e. coded ends e;
    transfer = λ transfer e. coded ends e;
  }

  pub usage_of : Ends command code old new source source' packs packs' out out' trace trace' → TellsUsage command code new.out_tells old.said new.said old.out_faults new.out_faults
  usage_of ends = record {
    exactly = (λ e. absurd (ends.not_usage e), λ e. absurd (ends.some e));
    told = λ e _. absurd (ends.not_usage e);
  }

-- all that is said of a run
abbrev pub Clauses : {S P O T : Type 0} → Option Command → ℕ → Outside → Outside → S → S → P → P → O → O → T → T → Type 0
Clauses command code old new source source' packs packs' out out' trace trace' = record {
  play : command ≡ Some Play → RunsPlay code old new;
  cached : (capacity : ℕ) → command ≡ Some (Cached capacity) → RunsCached capacity code old new;
  tool : RunsTool command code new.packs_tell old.held new.held new.out_tells old.said new.said old.out_faults new.out_faults;
  exercise : (number : ℕ) → command ≡ Some (Exercise number)
      → RunsExercise number code new.out_tells old.said new.said old.out_faults new.out_faults new.trace_tells old.taken new.taken old.trace_faults new.trace_faults;
  transfer : (transfer : Transfer) → command ≡ Some (TransferBytes transfer) → RunsTransfer transfer code old new;
  statuses : IsStatusOf command code;
  usage : TellsUsage command code new.out_tells old.said new.said old.out_faults new.out_faults;
  causes : HasItsCause code old new;
  leaves : LeavesAlone command code source source' packs packs' out out' trace trace';
}

pub clauses_of : {S P O T : Type 0} {command : Option Command} {code : ℕ} {old new : Outside} {source source' : S} {packs packs' : P} {out out' : O} {trace trace' : T}
    → Ends command code old new source source' packs packs' out out' trace trace' → Clauses command code old new source source' packs packs' out out' trace trace'
clauses_of ends = record {
  play = λ e. did ends e;
  cached = λ capacity e. did ends e;
  tool = tool_of ends;
  exercise = λ number e. did ends e;
  transfer = λ transfer e. did ends e;
  statuses = status_of ends;
  usage = usage_of ends;
  causes = ends.causes;
  leaves = ends.leaves;
}

-- a number that passes a test is none that fails it
never : (test : ℕ → Bool) (code n : ℕ) → test code ≡ false → code ≡ n → test n ≡ true → ⊥
never test code n fails e passes = other (sym passes ∙ ap test (sym e) ∙ fails)
  where
    other : true ≡ false → ⊥
    other e = cc

-- words that are no command
no_command : (one : Command) → None ≡ Some one → ⊥
no_command one e = cc

pub usage_ends : {S P O T : Type 0} {command : Option Command} {code : ℕ} {old new : Outside} {source : S} {packs : P} {out out' : O} {trace : T}
    → None ≡ command → code ≡ 2 → (IsTrue new.out_tells → Told old.said new.said usage_text old.out_faults new.out_faults)
    → Clauses command code old new source source packs packs out out' trace trace
usage_ends {code} {old} {new} {source} {packs} {out} {out'} {trace} named e told =
    subst (λ (k : Option Command). Clauses k code old new source source packs packs out out' trace trace) named
    (subst (λ (m : ℕ). Clauses None m old new source source packs packs out out' trace trace) (sym e) (record {
      play = λ e. absurd (no_command _ e);
      cached = λ capacity e. absurd (no_command _ e);
      tool = record {
        list = λ unit kind e. absurd (no_command _ e);
        add = λ unit block kind way e. absurd (no_command _ e);
        fresh = λ unit serial kind e. absurd (no_command _ e);
        mark = λ unit kind e. absurd (no_command _ e);
        format = λ unit serial kind e. absurd (no_command _ e);
      };
      exercise = λ number e. absurd (no_command _ e);
      transfer = λ transfer e. absurd (no_command _ e);
      statuses = record {
        none = λ e. refl;
        play = λ e. absurd (no_command _ e);
        list = λ unit kind e. absurd (no_command _ e);
        add = λ unit block kind way e. absurd (no_command _ e);
        fresh = λ unit serial kind e. absurd (no_command _ e);
        mark = λ unit kind e. absurd (no_command _ e);
        exercise = λ number e. absurd (no_command _ e);
        cached = λ capacity e. absurd (no_command _ e);
        format = λ unit serial kind e. absurd (no_command _ e);
        transfer = λ transfer e. absurd (no_command _ e);
      };
      usage = record { exactly = (λ e. refl, λ e. refl); told = λ e t. told t };
      causes = record { source = λ e. absurd (apart 2 4 e refl refl); sink = λ e. absurd (apart 2 5 e refl refl); store = λ e. absurd (apart 2 6 e refl refl) };
      leaves = record {
        unread = λ e. refl;
        untraced_tool = λ e. refl;
        exercise_packs = λ number e. refl;
        silent = λ e. elim e [
          | inl is ↦ absurd (apart 2 4 is refl refl)
          | inr is ↦ absurd (apart 2 9 is refl refl)
        ];
        untouched = λ e. refl;
        untraced = λ e. refl;
      };
    }))
  where
    apart : (code n : ℕ) → code ≡ n → (n == 2) ≡ false → (code == 2) ≡ true → ⊥
    apart code n e other same = never (λ (m : ℕ). m == 2) n code other (sym e) same

some_not_none : (command : Command) → Some command ≡ None → ⊥
some_not_none command e = cc

-- ---- the numbers that a command never ends with
abbrev is_low : ℕ → Bool
is_low n = if n == 2 then true else (if n == 3 then true else n == 4)

abbrev no_change : ℕ → Bool
no_change n = if n == 9 then true else is_low n

abbrev no_exercise : ℕ → Bool
no_exercise n = if n == 6 then true else (if n == 7 then true else is_low n)

play_code : (code : ℕ) → IsPlayCode code → (code == 2) ≡ false
play_code code (inl is) = ap (λ (n : ℕ). n == 2) is
play_code code (inr (inl is)) = ap (λ (n : ℕ). n == 2) is
play_code code (inr (inr (inl is))) = ap (λ (n : ℕ). n == 2) is
play_code code (inr (inr (inr (inl is)))) = ap (λ (n : ℕ). n == 2) is
play_code code (inr (inr (inr (inr (inl is))))) = ap (λ (n : ℕ). n == 2) is
play_code code (inr (inr (inr (inr (inr (inl is)))))) = ap (λ (n : ℕ). n == 2) is
play_code code (inr (inr (inr (inr (inr (inr is)))))) = ap (λ (n : ℕ). n == 2) is

change_code : (code : ℕ) → IsChangeCode code → no_change code ≡ false
change_code code (inl is) = ap (λ (n : ℕ). no_change n) is
change_code code (inr (inl is)) = ap (λ (n : ℕ). no_change n) is
change_code code (inr (inr (inl is))) = ap (λ (n : ℕ). no_change n) is
change_code code (inr (inr (inr (inl is)))) = ap (λ (n : ℕ). no_change n) is
change_code code (inr (inr (inr (inr is)))) = ap (λ (n : ℕ). no_change n) is

change_low : (code : ℕ) → IsChangeCode code → (n : ℕ) → code ≡ n → is_low n ≡ true → ⊥
change_low code is n e low = never (λ (n : ℕ). no_change n) code n (change_code code is) e (cases (n == 9) low)
  where
    cases : (nine : Bool) {low : Bool} → low ≡ true → (if nine then true else low) ≡ true
    cases true low = refl
    cases false low = low

change_nine : (code : ℕ) → IsChangeCode code → code ≡ 9 → ⊥
change_nine code is e = never (λ (n : ℕ). no_change n) code 9 (change_code code is) e refl

format_code : (code : ℕ) → IsFormatCode code → is_low code ≡ false
format_code code (inl is) = ap (λ (n : ℕ). is_low n) is
format_code code (inr (inl is)) = ap (λ (n : ℕ). is_low n) is
format_code code (inr (inr (inl is))) = ap (λ (n : ℕ). is_low n) is
format_code code (inr (inr (inr (inl is)))) = ap (λ (n : ℕ). is_low n) is
format_code code (inr (inr (inr (inr (inl is))))) = ap (λ (n : ℕ). is_low n) is
format_code code (inr (inr (inr (inr (inr is))))) = ap (λ (n : ℕ). is_low n) is

exercise_code : (code : ℕ) → IsExerciseCode code → no_exercise code ≡ false
exercise_code code (inl is) = ap (λ (n : ℕ). no_exercise n) is
exercise_code code (inr (inl is)) = ap (λ (n : ℕ). no_exercise n) is
exercise_code code (inr (inr is)) = ap (λ (n : ℕ). no_exercise n) is

wider : (code : ℕ) → IsToolCode code → IsChangeCode code
wider code (inl is) = inl is
wider code (inr (inl is)) = inr (inl is)
wider code (inr (inr (inl is))) = inr (inr (inl is))
wider code (inr (inr (inr is))) = inr (inr (inr (inl is)))

-- ---- the status that has a number
abbrev status_at : ℕ → Status
status_at n =
    if n == 0 then status.Done else (if n == 2 then status.Usage else (if n == 3 then status.Refused else (if n == 4 then status.SourceFailed else (if n == 5 then status.SinkFailed else (if n == 6 then status.PacksFailed else (if n == 7 then status.TooLong else (if n == 8 then status.ToolRefused else (if n == 9 then status.OutOfMemory else (if n == 10 then status.TransferRefused else (status.FormatRefused))))))))))

status_of_code : (s : Status) → status_at (status_code s) ≡ s
status_of_code status.Done = refl
status_of_code other = refl

sink_is : (s : Status) → status_code s ≡ 5 → s ≡ status.SinkFailed
sink_is s e = sym (status_of_code s) ∙ ap (λ (n : ℕ). status_at n) e

store_is : (s : Status) → status_code s ≡ 6 → s ≡ status.PacksFailed
store_is s e = sym (status_of_code s) ∙ ap (λ (n : ℕ). status_at n) e

memory_is : (s : Status) → status_code s ≡ 9 → s ≡ status.OutOfMemory
memory_is s e = sym (status_of_code s) ∙ ap (λ (n : ℕ). status_at n) e

module _ {S P O T : Type 0} {old new : Outside} {source : S} {packs packs' : P} {out out' : O} {trace : T} where
  -- a tool, which reads no source and tells no trace
  tool_ends : (command : Command) (s : Status) → Does (Some command) (status_code s) old new → IsCode (Some command) (status_code s)
      → ((n : ℕ) → status_code s ≡ n → is_low n ≡ true → ⊥) → ((number : ℕ) → Some command ≡ Some (Exercise number) → ⊥)
      → (s ≡ status.SinkFailed → Rose old.out_faults new.out_faults) → (s ≡ status.PacksFailed → Rose old.packs_faults new.packs_faults)
      → (status_code s ≡ 9 → out' ≡ out) → Ends (Some command) (status_code s) old new source source packs packs' out out' trace trace
  tool_ends command s does code low other sink store silent = record {
    does = does;
    is_code = code;
    not_usage = λ e. low 2 e refl;
    some = some_not_none command;
    causes = record {
      source = λ e. absurd (low 4 e refl);
      sink = λ e. inl (sink (sink_is s e));
      store = λ e. store (store_is s e);
    };
    leaves = record {
      unread = λ _. refl;
      untraced_tool = λ _. refl;
      exercise_packs = λ number e. absurd (other number e);
      silent = λ e. elim e [
        | inl four ↦ absurd (low 4 four refl)
        | inr nine ↦ silent nine
      ];
      untouched = λ e. elim e [
        | inl two ↦ absurd (low 2 two refl)
        | inr (inl three) ↦ absurd (low 3 three refl)
        | inr (inr four) ↦ absurd (low 4 four refl)
      ];
      untraced = λ _. refl;
    };
  }

  pub list_ends : (unit : ℕ) (kind : DriveKind) (s : Status) → Does (Some (ListTable unit kind)) (status_code s) old new
      → (s ≡ status.SinkFailed → Rose old.out_faults new.out_faults) → (s ≡ status.PacksFailed → Rose old.packs_faults new.packs_faults)
      → Ends (Some (ListTable unit kind)) (status_code s) old new source source packs packs' out out' trace trace
  list_ends unit kind s does sink store =
      let code = wider _ does.statuses in
      tool_ends (ListTable unit kind) s does does.statuses (change_low _ code) (λ number e. cc) sink store (λ e. absurd (change_nine _ code e))

  pub add_ends : (unit block : ℕ) (kind : DriveKind) (way : AddWay) (s : Status) → Does (Some (AddBlock unit kind block way)) (status_code s) old new
      → (s ≡ status.SinkFailed → Rose old.out_faults new.out_faults) → (s ≡ status.PacksFailed → Rose old.packs_faults new.packs_faults)
      → Ends (Some (AddBlock unit kind block way)) (status_code s) old new source source packs packs' out out' trace trace
  add_ends unit block kind way s does sink store =
      tool_ends (AddBlock unit kind block way) s does does.statuses (change_low _ does.statuses) (λ number e. cc) sink store
      (λ e. absurd (change_nine _ does.statuses e))

  pub fresh_ends : (unit serial : ℕ) (kind : DriveKind) (s : Status) → Does (Some (FreshTable unit kind serial)) (status_code s) old new
      → (s ≡ status.SinkFailed → Rose old.out_faults new.out_faults) → (s ≡ status.PacksFailed → Rose old.packs_faults new.packs_faults)
      → Ends (Some (FreshTable unit kind serial)) (status_code s) old new source source packs packs' out out' trace trace
  fresh_ends unit serial kind s does sink store =
      let code = wider _ does.statuses in
      tool_ends (FreshTable unit kind serial) s does does.statuses (change_low _ code) (λ number e. cc) sink store (λ e. absurd (change_nine _ code e))

  pub mark_ends : (unit : ℕ) (kind : DriveKind) (s : Status) → Does (Some (MarkBlocks unit kind)) (status_code s) old new
      → (s ≡ status.SinkFailed → Rose old.out_faults new.out_faults) → (s ≡ status.PacksFailed → Rose old.packs_faults new.packs_faults)
      → Ends (Some (MarkBlocks unit kind)) (status_code s) old new source source packs packs' out out' trace trace
  mark_ends unit kind s does sink store =
      tool_ends (MarkBlocks unit kind) s does does.statuses (change_low _ does.statuses) (λ number e. cc) sink store
      (λ e. absurd (change_nine _ does.statuses e))

  pub format_ends : (unit serial : ℕ) (kind : DriveKind) (s : Status) → Does (Some (FormatPack unit kind serial)) (status_code s) old new
      → (s ≡ status.SinkFailed → Rose old.out_faults new.out_faults) → (s ≡ status.PacksFailed → Rose old.packs_faults new.packs_faults)
      → (s ≡ status.OutOfMemory → out' ≡ out) → Ends (Some (FormatPack unit kind serial)) (status_code s) old new source source packs packs' out out' trace trace
  format_ends unit serial kind s does sink store silent =
      tool_ends (FormatPack unit kind serial) s does does.statuses (λ n e low. never (λ (n : ℕ). is_low n) _ n (format_code _ does.statuses) e low) (λ number e. cc) sink store
      (λ e. silent (memory_is s e))

-- the exercise, which reads no source and touches no packs
pub exercise_ends : {S P O T : Type 0} {old new : Outside} {source : S} {packs : P} {out out' : O} {trace trace' : T} (number : ℕ) (s : Status)
    → Does (Some (Exercise number)) (status_code s) old new
    → (s ≡ status.SinkFailed → Rose old.out_faults new.out_faults ⊎ Rose old.trace_faults new.trace_faults)
    → (s ≡ status.OutOfMemory → out' ≡ out) → (s ≡ status.OutOfMemory → trace' ≡ trace)
    → Ends (Some (Exercise number)) (status_code s) old new source source packs packs out out' trace trace'
exercise_ends number s does sink silent untraced =
    let apart = λ (n : ℕ) (e : status_code s ≡ n) (passes : no_exercise n ≡ true). never (λ (n : ℕ). no_exercise n) _ n (exercise_code _ does.statuses) e passes in record {
      does = does;
      is_code = does.statuses;
      not_usage = λ e. apart 2 e refl;
      some = some_not_none (Exercise number);
      causes = record {
        source = λ e. absurd (apart 4 e refl);
        sink = λ e. sink (sink_is s e);
        store = λ e. absurd (apart 6 e refl);
      };
      leaves = record {
        unread = λ _. refl;
        untraced_tool = λ e. absurd (told e);
        exercise_packs = λ _ _. refl;
        silent = λ e. elim e [
          | inl four ↦ absurd (apart 4 four refl)
          | inr nine ↦ silent (memory_is s nine)
        ];
        untouched = λ _. refl;
        untraced = λ e. elim e [
          | inl three ↦ absurd (apart 3 three refl)
          | inr (inl four) ↦ absurd (apart 4 four refl)
          | inr (inr (inl seven)) ↦ absurd (apart 7 seven refl)
          | inr (inr (inr nine)) ↦ untraced (memory_is s nine)
        ];
      };
    }
  where
    told : true ≡ false → ⊥
    told e = cc

module _ {S P O T : Type 0} {code : ℕ} {old new : Outside} {source source' : S} {packs packs' : P} {out out' : O} {trace trace' : T} where
  pub play_ends : RunsPlay code old new → HasItsCause code old new → LeavesAlone (Some Play) code source source' packs packs' out out' trace trace'
      → Ends (Some Play) code old new source source' packs packs' out out' trace trace'
  play_ends runs causes leaves = record {
    does = runs;
    is_code = runs.script.statuses;
    not_usage = λ e. never (λ (n : ℕ). n == 2) code 2 (play_code code runs.script.statuses) e refl;
    some = some_not_none Play;
    causes = causes;
    leaves = leaves;
  }

  pub cached_ends : (capacity : ℕ) → RunsCached capacity code old new → HasItsCause code old new
      → LeavesAlone (Some (Cached capacity)) code source source' packs packs' out out' trace trace'
      → Ends (Some (Cached capacity)) code old new source source' packs packs' out out' trace trace'
  cached_ends capacity runs causes leaves = record {
    does = runs;
    is_code = runs.script.statuses;
    not_usage = λ e. never (λ (n : ℕ). n == 2) code 2 (play_code code runs.script.statuses) e refl;
    some = some_not_none (Cached capacity);
    causes = causes;
    leaves = leaves;
  }

  pub transfer_ends : (transfer : Transfer) → RunsTransfer transfer code old new → IsTransferCode transfer code → HasItsCause code old new
      → LeavesAlone (Some (TransferBytes transfer)) code source source' packs packs' out out' trace trace'
      → Ends (Some (TransferBytes transfer)) code old new source source' packs packs' out out' trace trace'
  transfer_ends transfer runs is causes leaves = record {
    does = runs;
    is_code = is;
    not_usage = λ e. no_code transfer code 2 e (inl refl) is;
    some = some_not_none (TransferBytes transfer);
    causes = causes;
    leaves = leaves;
  }
