-- WHEN A REQUEST IS REFUSED: directly after its own line of the script, before anything else happens, by what the request meets
-- there.
use Rattle.std.specs.Prelude.{◌≡◌, ℕ, List, [], ◌∷◌, ◌++◌}
use Rattle.trace_replay.specs.requests.Requests.{Request, Answer, Rejection, rejection_answer}
use Rattle.trace_replay.specs.Script.{Submit}
use Rattle.trace_replay.specs.Moments.{Moment, Played}
use Rattle.trace_replay.specs.Replay.{Replay, Refused, submission, after_moments}

-- The last moment is the line that submits the request, and the request meets a refusal there: its partition ends before it, or its
-- frames are not there.
pub record IsRefusedBehind (start : Replay) (unit id : ℕ) (answer : Answer) (before : List Moment) : Type 0 where
  pub request : Request
  pub line : ℕ
  pub ahead : List Moment
  pub why : Rejection
  pub unit_is : request.unit ≡ unit
  pub id_is : request.id ≡ id
  pub last : before ≡ ahead ++ Played line (Submit request) ∷ []
  pub met : submission (after_moments start ahead) request ≡ Refused why
  pub answer_is : answer ≡ rejection_answer why
