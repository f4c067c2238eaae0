-- A line of a run.
use Rattle.std.specs.Prelude.{ℕ, List, Option}
use Rattle.drive_pictures.specs.declared.moments.Moment.{Moment}
use Rattle.run_picture.specs.Fold.{IsHeard}
use Rattle.run_view.specs.declared.seen.Seen.{Seen}

-- what is seen at it, the drive that it names, and its text
pub record Said : Type 0 where
  pub moment : Moment
  pub names : Option ℕ
  pub text : List ℕ

abbrev pub said_of : Seen → Said
said_of seen = record { moment = seen.moment; names = seen.names; text = seen.text.now }

-- it is of one of 32 drives
abbrev pub IsHeardAt : Said → Type 0
IsHeardAt said = IsHeard said.moment
