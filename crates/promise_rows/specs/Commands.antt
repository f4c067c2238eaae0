-- Wrong outcomes of the words of the command line, of statuses, of a transfer and of an exercise.
use Rattle.std.specs.Prelude.{◌≡◌, ◌≢◌, ℕ, ◌*◌, ◌/◌, ◌^◌, Bool, IsTrue, List, [], ◌∷◌, codes}
use Rattle.command_parts.specs.Outside.{Outside}
use Rattle.command_parts.specs.Statuses.{status_code}
use Rattle.command_parts.specs.declared.status.Status.TheVariants.{FormatRefused, TransferRefused}
use Rattle.hp_exercise.specs.Exercise.{script_text}
use Rattle.event_player.specs.Playing.{counted, one_request}
use Rattle.hpsim_run.specs.Passes.{IsDone, exercise_script}
use Rattle.hpsim_run.specs.Passes.{WritesAll, Writing, command_named}

-- A NUMBER BEFORE ITS COMMAND: the words `64 cached` name what `cached 64` does.
abbrev pub NumberBeforeItsCommand : Type 0
NumberBeforeItsCommand = command_named (codes "64" ∷ codes "cached" ∷ []) ≢ command_named (codes "cached" ∷ codes "64" ∷ [])

-- TWO REFUSALS OF ONE STATUS: a refused transfer ends as a refused format does.
abbrev pub TwoRefusalsOfOneStatus : Type 0
TwoRefusalsOfOneStatus = status_code TransferRefused ≢ status_code FormatRefused

-- HALF OF THE SOURCE: all was written, and the source has a byte left.
abbrev pub HalfOfTheSource : Type 0
HalfOfTheSource = (w : Writing) (byte : ℕ) (left : List ℕ) (old new : Outside) → IsTrue new.source_tells → new.left ≡ byte ∷ left → ¬ WritesAll w old new (λ text. Unit {0})

-- HALF THE NUMBER PLAYED: the tally that is printed counts the requests of another number's script.
abbrev pub requests_of : (number : ℕ) → ℕ
requests_of number = counted one_request (exercise_script number).lines

abbrev pub HalfTheNumberPlayed : Type 0
HalfTheNumberPlayed = (number : ℕ) (says tells : Bool) (said said' taken taken' : List ℕ) → (done : IsDone number says said said' tells taken taken')
    → requests_of (number / 2) ≢ requests_of number → ¬ (done.tally.requests ≡ requests_of (number / 2))

-- THE SEED IS TAKEN FROM THE GREATEST BYTE ON: the text of exercise 2 is that of the number which has its bytes the other way round.
abbrev pub SeedFromTheGreatestByteOn : Type 0
SeedFromTheGreatestByteOn = script_text (2 * 2 ^ 56) ≢ script_text 2
