-- The lines of the trace that each act tells, with the answers that they make.
use Rattle.std.specs.Prelude.{ℕ, List, [], ◌∷◌, ◌++◌}
use Rattle.trace_replay.specs.requests.Requests as told
use Rattle.trace_replay.specs.requests.Answers.{answer_of}
use Rattle.trace_replay.specs.Moments as moment
use Rattle.trace_replay.specs.Moments.{Moment, Told, Idle}
use Rattle.trace_replay.specs.declared.requests.answers.AnswerKind.{AnswerKind}
use Rattle.driver_machine.specs.declared.RetryStep.{RetryStep}
use Rattle.driver_machine.specs.declared.RetryStep.TheVariants as step
use Rattle.driver_machine.specs.World.{World, Held, unit_at, held_in, slot_in_hand, bytes_in}
use Rattle.driver_machine.specs.Acts.{Act, Refuse, Submit, Of, Change, Nothing, Taken, Deed, after}
use Rattle.driver_machine.specs.Acts as deed

-- an answer with the bytes of the request's buffer
abbrev pub answer_told : AnswerKind → List (List ℕ) → told.Answer
answer_told kind blocks = answer_of (bytes_in blocks) kind

abbrev pub step_told : RetryStep → moment.Deed
step_told step.Recalibrate = moment.Recal
step_told (step.Seek cylinder) = moment.Seek cylinder
step_told (step.Offset code) = moment.Offset code

-- four deeds are silent
abbrev pub deed_told : Held → Deed → List moment.Deed
deed_told h deed.Arrive = moment.Arrive ∷ []
deed_told h (deed.Sector block tried) = moment.Sector block tried.verdict ∷ []
deed_told h (deed.Intr moved last) = moment.Intr ∷ []
deed_told h (deed.Attn taken) = moment.Attn ∷ []
deed_told h (deed.Search target sector) = moment.Search target.cylinder sector ∷ []
deed_told h (deed.Do step taken) = step_told step ∷ []
deed_told h (deed.Move write segment) = moment.Transfer write segment.block segment.count ∷ []
deed_told h deed.Pack = moment.Pack ∷ []
deed_told h (deed.Dclr moved last) = moment.Clear ∷ []
deed_told h deed.Rtc = moment.Centre ∷ []
deed_told h (deed.Ready transfer) = []
deed_told h (deed.Repair moved at pattern) = []
deed_told h (deed.Forward moved index) = []
deed_told h (deed.Continue moved) = []
deed_told h (deed.Try moved block number next) = moment.Try block number ∷ []
deed_told h (deed.End kind) = moment.End (answer_told kind h.blocks) ∷ []

abbrev pub lines_with : (line unit id : ℕ) → List moment.Deed → List Moment
lines_with line unit id [] = []
lines_with line unit id (told ∷ rest) = Told line unit id told ∷ lines_with line unit id rest

abbrev pub lines_of : World → Act → List Moment
lines_of w (Refuse line r kind) = Told line r.unit r.id (moment.End (answer_told kind [])) ∷ []
lines_of w (Submit line p h) = []
lines_of w (Of line u id deed) = lines_with line u id (deed_told (held_in w (slot_in_hand (unit_at w u))) deed)
lines_of w (Change input) = []
lines_of w (Nothing line) = Idle line ∷ []
lines_of w Taken = []

abbrev pub lines_of_all : World → List Act → List Moment
lines_of_all w [] = []
lines_of_all w (act ∷ acts) = lines_of w act ++ lines_of_all (after w act) acts
