-- The bytes that an end line gives.
use Rattle.std.proofs.Common.{ℕ, get_or, Option, Some}
use Rattle.trace_replay.specs.requests.Requests.{ReadOk}
use Rattle.trace_replay.specs.Moments.{Deed, End}

-- byte i of the answer of an end line that is due; 0 where that is no read
unfoldable pub byte_given : ℕ → Option Deed → ℕ
byte_given i (Some (End (ReadOk bytes))) = get_or bytes i 0
byte_given i due = 0
