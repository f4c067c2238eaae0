-- THE WORDS AND SIGNS of a picture.
use Rattle.std.specs.Prelude.{ℕ, List, [], codes, Option, Some, None}
use Rattle.pack_geometry.specs.declared.DriveKind.{DriveKind}
use Rattle.pack_geometry.specs.declared.DriveKind.TheVariants as kind
use Rattle.drive_pictures.specs.declared.letters.Letter.{Letter}
use Rattle.drive_pictures.specs.declared.letters.Letter.TheVariants as letter
use Rattle.drive_pictures.specs.declared.requests.Outcome.{Outcome}
use Rattle.drive_pictures.specs.declared.requests.Outcome.TheVariants as outcome

-- the kind of a drive, where a script declares it
abbrev pub kind_word : Option DriveKind → List ℕ
kind_word (Some kind.Rp06) = codes "rp06"
kind_word (Some kind.Rm03) = codes "rm03"
kind_word (Some kind.Rm05) = codes "rm05"
kind_word None = []

-- an answer
abbrev pub outcome_word : Outcome → List ℕ
outcome_word outcome.Open = codes "open"
outcome_word outcome.Ok = codes "ok"
outcome_word outcome.Eof = codes "eof"
outcome_word outcome.Partition = codes "partition"
outcome_word outcome.Frames = codes "frames"
outcome_word outcome.Refused = codes "refused"
outcome_word outcome.Unforwarded = codes "unforwarded"
outcome_word outcome.Offline = codes "offline"
outcome_word outcome.Fault = codes "fault"
outcome_word outcome.Locked = codes "locked"
outcome_word outcome.Stopped = codes "stopped"

-- what a drive does
abbrev pub letter_sign : Letter → List ℕ
letter_sign letter.Idle = codes "."
letter_sign letter.Seeks = codes "S"
letter_sign letter.Turns = codes "s"
letter_sign letter.Recalibrates = codes "C"
letter_sign letter.Offsets = codes "O"
letter_sign letter.Arrived = codes "!"
letter_sign letter.Ready = codes ":"
letter_sign letter.Moves = codes "#"
letter_sign letter.Retries = codes "T"
letter_sign letter.Replaces = codes "R"
letter_sign letter.Moved = codes "^"

-- what it says in words
abbrev pub letter_word : Letter → List ℕ
letter_word letter.Idle = codes "idle"
letter_word letter.Seeks = codes "arm moves"
letter_word letter.Turns = codes "turns to its sector"
letter_word letter.Recalibrates = codes "recalibrates"
letter_word letter.Offsets = codes "sets an offset"
letter_word letter.Arrived = codes "arrived, attention up"
letter_word letter.Ready = codes "ready, adapter busy"
letter_word letter.Moves = codes "sectors move"
letter_word letter.Retries = codes "tries again"
letter_word letter.Replaces = codes "at a replacement"
letter_word letter.Moved = codes "moved, interrupt up"
