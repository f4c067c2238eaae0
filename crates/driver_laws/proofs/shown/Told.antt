-- A unit after a line, by its own state and its adapter's alone.
use Rattle.std.specs.Prelude.{ℕ, List}
use Rattle.hardware_table.specs.Adapter.{AdapterState}
use Rattle.trace_replay.specs.Moments.{Deed}
use Rattle.trace_replay.specs.Drives.{drive_after}
use Rattle.trace_replay.specs.Service.{service_after, head_of, in_hand, target_of}
use Rattle.trace_replay.specs.Conversation.{Progress, progress_after, stage_after}
use Rattle.trace_replay.specs.Replay.{UnitSeen, hand_of}

-- with the progress after the line
abbrev pub seen_with : Progress → UnitSeen → AdapterState → Deed → UnitSeen
seen_with p seen a deed = record {
  drive = drive_after seen.drive a (target_of seen.drive.kind (in_hand seen.service)) deed;
  service = service_after seen.service deed;
  stage = stage_after seen.stage deed (drive_after seen.drive a (target_of seen.drive.kind (in_hand seen.service)) deed)
      (record (hand_of seen) { progress = p }) (head_of (service_after seen.service deed));
  progress = p;
  table = seen.table;
}

-- with the bytes that the line gives to the request
abbrev pub seen_told : UnitSeen → AdapterState → Deed → List ℕ → UnitSeen
seen_told seen a deed bytes = seen_with (progress_after seen.stage deed bytes seen.progress) seen a deed
