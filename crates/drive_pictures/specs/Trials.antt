-- THE REQUEST IN HAND at a drive, and the tries at its block.
use Rattle.std.specs.Prelude.{ℕ, ◌-◌, ◌==◌, nat_lt, Bool, false, if◌then◌else◌, Option, Some, None}
use Rattle.hardware_table.specs.declared.Moved.{Moved}
use Rattle.hardware_table.specs.declared.Moved.TheVariants as verdict
use Rattle.drive_pictures.specs.declared.letters.Letter.{Letter}
use Rattle.drive_pictures.specs.declared.letters.Letter.TheVariants as letter
use Rattle.drive_pictures.specs.declared.trials.Trial.{Trial}
use Rattle.drive_pictures.specs.Counts.{plus}

-- before the run
abbrev pub new_trial : Trial
new_trial = record { hand = None; want = 0; left = 0; fails = 0; marks = 0 }

-- THE REQUEST IN HAND
abbrev pub is_at : Option ℕ → ℕ → Bool
is_at None place = false
is_at (Some other) place = other == place

-- a request at a place is in hand: it wants nothing yet, unless it was in hand
abbrev pub in_hand : ℕ → Trial → Trial
in_hand place trial = record trial { hand = Some place; want = if is_at trial.hand place then trial.want else 0 }

-- a segment of so many sectors begins; the first says how many blocks the request wants
abbrev pub wanted : ℕ → Trial → Trial
wanted count trial = record trial { left = count; want = if trial.want == 0 then count else trial.want }

-- THE LETTER OF A TRANSFER: one at a replacement, a try again, or the first
abbrev pub transfer_letter : Trial → Letter
transfer_letter trial =
    if nat_lt 0 trial.marks then letter.Replaces else if nat_lt 0 trial.fails then letter.Retries else letter.Moves

-- A SECTOR WAS TRIED: a sector that moved ends the tries at its block, and a mark ends them and is counted
abbrev pub verdict_trial : Moved → Trial → Trial
verdict_trial verdict.Clean trial = record trial { left = trial.left - 1; fails = 0; marks = 0 }
verdict_trial (verdict.Burst at pattern) trial = record trial { left = trial.left - 1; fails = 0; marks = 0 }
verdict_trial verdict.Marked trial = record trial { left = trial.left - 1; fails = 0; marks = plus trial.marks 1 }
verdict_trial v trial = record trial { left = trial.left - 1 }

-- the segment goes on where the sector was clean and others are left
abbrev pub verdict_letter : Moved → ℕ → Letter
verdict_letter verdict.Clean left = if nat_lt 0 left then letter.Moves else letter.Moved
verdict_letter v left = letter.Moved
