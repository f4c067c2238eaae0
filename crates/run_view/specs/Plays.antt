-- THE SCRIPT AS IT IS PLAYED.
use Rattle.std.specs.Prelude.{ℕ, ◌<◌, ◌+◌, ◌-◌, ◌==◌, if◌then◌else◌, true, false, List, [], ◌∷◌, ◌++◌, Option, Some, None, IfSome, slice_index_or, codes}
use Rattle.std.specs.List.{All, flat_map}
use Rattle.drive_pictures.specs.declared.drives.Change.TheVariants as change
use Rattle.drive_pictures.specs.declared.moments.Moment.TheVariants.{Played}
use Rattle.drive_pictures.specs.declared.moments.Play.{Play}
use Rattle.drive_pictures.specs.declared.moments.Play.TheVariants as play
use Rattle.script_lines.specs.declared.statement.Statement.{Statement}
use Rattle.script_lines.specs.declared.statement.Statement.TheVariants as says
use Rattle.script_reader.specs.Lines.{lines_of}
use Rattle.script_reader.specs.Stored.{Kept, Stored}
use Rattle.run_view.specs.Saids.{Said}

-- what a statement does that can be seen; to declare a drive is no part of the run
abbrev pub play_of : {D N : Type 0} → Statement D N → Option Play
play_of (says.Unit u kind) = None
play_of (says.Read request) = Some (play.Ask request false)
play_of (says.Write request content) = Some (play.Ask request true)
play_of (says.Turn u sector) = Some (play.Change u change.Turn)
play_of (says.Noise u block span n) = Some (play.Change u change.Noise)
play_of (says.Fault u what times) = Some (play.Change u change.Fault)
play_of (says.Offline u) = Some (play.Change u change.Offline)
play_of (says.Online u) = Some (play.Change u change.Online)
play_of (says.Lock u) = Some (play.Change u change.Lock)
play_of (says.Unlock u) = Some (play.Change u change.Unlock)
play_of statement = Some play.Other

-- the drive that it names
abbrev pub names_of : {D N : Type 0} → Statement D N → Option ℕ
names_of (says.Unit u kind) = Some u
names_of (says.Read request) = Some request.unit
names_of (says.Write request content) = Some request.unit
names_of (says.Arrive u) = Some u
names_of (says.Turn u sector) = Some u
names_of (says.Noise u block span n) = Some u
names_of (says.Fault u what times) = Some u
names_of (says.Offline u) = Some u
names_of (says.Online u) = Some u
names_of (says.Lock u) = Some u
names_of (says.Unlock u) = Some u
names_of statement = None

-- the drive is one of 32
abbrev pub HasUnit : {D N : Type 0} → Statement D N → Type 0
HasUnit statement = IfSome (names_of statement) (λ u. u < 32)

abbrev pub HasUnitAt : Kept → Type 0
HasUnitAt line = HasUnit line.statement

abbrev pub HaveUnits : List Kept → Type 0
HaveUnits lines = All HasUnitAt lines

-- the text of line number `number`
abbrev pub text_at : List ℕ → ℕ → List ℕ
text_at text number = slice_index_or (lines_of text) (number - 1) []

abbrev pub played_as : Option Play → Option ℕ → ℕ → List ℕ → List Said
played_as None names number text = []
played_as (Some p) names number text = record { moment = Played number p; names = names; text = text } ∷ []

abbrev pub line_played : List ℕ → Kept → List Said
line_played text line = played_as (play_of line.statement) (names_of line.statement) line.number (text_at text line.number)

-- behind all lines of a script that has any comes the last drain
unfoldable pub drain_text : List ℕ
drain_text = codes "last drain"

abbrev pub last_drain : ℕ → List Said
last_drain count =
    if count == 0 then [] else record { moment = Played (count + 1) play.Other; names = None; text = drain_text } ∷ []

abbrev pub plays_of : Stored → List Said
plays_of script = flat_map (line_played script.text) script.lines ++ last_drain script.count
