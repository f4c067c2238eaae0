-- What a line leaves of a calm stage.
use Rattle.std.proofs.Common.{◌≡◌, true, Option, None, Some, refl, rules}
use Rattle.hardware_table.specs.declared.Moved.{Moved}
use Rattle.hardware_table.specs.Drive.{DriveState}
use Rattle.trace_replay.specs.requests.Requests.{Request, Answer}
use Rattle.trace_replay.specs.Moments.{Deed, End}
use Rattle.trace_replay.specs.Conversation.{Stage, Steps, UnderWay, Moving, Segment, Hand, due, interrupted_by, last_of, step_taken, step_ended, said, begun, stage_after}
use Rattle.driver_laws.specs.rules.Calm.{IsGood, is_calm_verdict, is_calm_answer, is_calm_stage}
use Rattle.driver_laws.proofs.rules.Drives.{IsCalmDeed}

said_calm : (stage : Stage) → is_calm_stage stage ≡ true → is_calm_stage (said stage) ≡ true
said_calm stage calm = search rules

taken_calm : (stage : Stage) → is_calm_stage stage ≡ true → is_calm_stage (step_taken stage) ≡ true
taken_calm (Steps left segment) calm = refl
taken_calm other calm = calm

ended_calm : (stage : Stage) → is_calm_stage stage ≡ true → is_calm_stage (step_ended stage) ≡ true
ended_calm (UnderWay left segment) calm = refl
ended_calm other calm = calm

pub last_calm : (stage : Stage) → is_calm_stage stage ≡ true → is_calm_verdict (last_of stage) ≡ true
last_calm (Moving segment left last) calm = calm
last_calm other calm = refl

interrupted_calm : (v : Moved) (d : DriveState) (h : Hand) (segment : Segment) → is_calm_verdict v ≡ true → is_calm_stage (interrupted_by v d h segment) ≡ true
interrupted_calm v d h segment calm = search rules

pub begun_calm : (d : DriveState) (next : Option Request) → is_calm_stage (begun d next) ≡ true
begun_calm d None = refl
begun_calm d (Some r) = refl

pub stage_calm : (stage : Stage) (deed : Deed) (d : DriveState) (h : Hand) (next : Option Request) → IsCalmDeed deed → is_calm_stage stage ≡ true
    → is_calm_stage (stage_after stage deed d h next) ≡ true
stage_calm stage deed d h next is calm = search (rules, said_calm, interrupted_calm, last_calm, ended_calm, begun_calm, taken_calm)

-- ---- an end that is due
pub end_calm : (d : DriveState) (h : Hand) (stage : Stage) (answer : Answer) → IsGood d → is_calm_stage stage ≡ true → due d h stage ≡ Some (End answer) → is_calm_answer answer ≡ true
end_calm d h stage answer g calm is = search rules
