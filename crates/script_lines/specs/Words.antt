-- The words of lines.
use Rattle.std.specs.Prelude.{ℕ, List, [], ◌∷◌, codes, Option}
use Rattle.std.specs.List.{find}
use Rattle.std.specs.Str.{bytes_eq}
use Rattle.pack_geometry.specs.declared.DriveKind.{DriveKind}
use Rattle.pack_geometry.specs.declared.DriveKind.TheVariants.{Rp06, Rm03, Rm05}
use Rattle.partitions.specs.declared.Part.{Part}
use Rattle.partitions.specs.declared.Part.TheVariants.{A, B, C, D, E, F, G, H}
use Rattle.partitions.specs.Partitions.{letter_of}
use Rattle.drive_registers.specs.declared.OffsetCode.{OffsetCode}
use Rattle.drive_registers.specs.declared.OffsetCode.TheVariants.{Plus400, Minus400, Plus800, Minus800, Plus1200, Minus1200}
use Rattle.trace_replay.specs.FaultKind.{FaultKind}
use Rattle.trace_replay.specs.FaultKind.TheVariants.{Seek, Opi, Dte, Hcrc, Late}
use Rattle.script_lines.specs.declared.dialect.Dialect.{Dialect}
use Rattle.script_lines.specs.declared.dialect.Dialect.TheVariants.{Events}
use Rattle.script_lines.specs.declared.verbs.Verb.{Verb}
use Rattle.script_lines.specs.declared.verbs.Verb.TheVariants as verbs

-- the first of some things whose word this is
abbrev pub named : {A : Type 0} → (A → List ℕ) → List A → List ℕ → Option A
named word things text = find (λ thing. bytes_eq text (word thing)) things

abbrev pub verb_word : Verb → List ℕ
verb_word verbs.Unit = codes "unit"
verb_word verbs.Read = codes "read"
verb_word verbs.Write = codes "write"
verb_word verbs.Arrive = codes "arrive"
verb_word verbs.Turn = codes "turn"
verb_word verbs.Move = codes "move"
verb_word verbs.Attend = codes "attend"
verb_word verbs.Noise = codes "noise"
verb_word verbs.Fault = codes "fault"
verb_word verbs.Offline = codes "offline"
verb_word verbs.Online = codes "online"
verb_word verbs.Lock = codes "lock"
verb_word verbs.Unlock = codes "unlock"
verb_word verbs.Drain = codes "drain"

-- the words of a script of events
abbrev pub event_verbs : List Verb
event_verbs =
    verbs.Unit ∷ verbs.Read ∷ verbs.Write ∷ verbs.Arrive ∷ verbs.Turn ∷ verbs.Move ∷ verbs.Attend
    ∷ verbs.Noise ∷ verbs.Fault ∷ verbs.Offline ∷ verbs.Online ∷ verbs.Lock ∷ verbs.Unlock ∷ verbs.Drain ∷ []

-- the dialect that has all these
abbrev pub all_verbs : Dialect
all_verbs = Events

-- the first seven of them, and the others
abbrev pub first_verbs : List Verb
first_verbs = verbs.Unit ∷ verbs.Read ∷ verbs.Write ∷ verbs.Arrive ∷ verbs.Turn ∷ verbs.Move ∷ verbs.Attend ∷ []

abbrev pub later_verbs : List Verb
later_verbs = verbs.Noise ∷ verbs.Fault ∷ verbs.Offline ∷ verbs.Online ∷ verbs.Lock ∷ verbs.Unlock ∷ verbs.Drain ∷ []

abbrev pub kinds : List DriveKind
kinds = Rp06 ∷ Rm03 ∷ Rm05 ∷ []

abbrev pub parts : List Part
parts = A ∷ B ∷ C ∷ D ∷ E ∷ F ∷ G ∷ H ∷ []

abbrev pub part_word : Part → List ℕ
part_word part = letter_of part ∷ []

-- offsets and faults are named by the words of a trace
abbrev pub offsets : List OffsetCode
offsets = Plus400 ∷ Minus400 ∷ Plus800 ∷ Minus800 ∷ Plus1200 ∷ Minus1200 ∷ []

abbrev pub faults : List FaultKind
faults = Seek ∷ Opi ∷ Dte ∷ Hcrc ∷ Late ∷ []
