-- Rows of traces, as docs/trace-rows/rows.py writes them.
use Rattle.std.specs.Prelude.{◌==◌, ◌&&◌, ◌++◌, true, false, if◌then◌else◌, [], ◌∷◌, Some, None, replicate}
use Rattle.pack_geometry.specs.declared.DriveKind.TheVariants.{Rp06, Rm03}
use Rattle.partitions.specs.declared.Part.TheVariants as part
use Rattle.hardware_table.specs.declared.FaultKind.TheVariants as kind
use Rattle.hardware_table.specs.declared.NoiseSpan.TheVariants.{Times}
use Rattle.hardware_table.specs.declared.Moved.TheVariants as verdict
use Rattle.hardware_table.specs.declared.Moved.TheVariants.{Clean, Burst, Marked, Faulted}
use Rattle.trace_replay.specs.requests.Requests.{Offline, Locked, Unforwarded, ReadOk, WriteOk, NoFrames, Failed}
use Rattle.trace_replay.specs.Script.{Submit, ArriveAt, MoveAt, AttendTo, Noise, Arm, SetOnline, SetLocked, Declares, Plays}
use Rattle.trace_replay.specs.Moments.{Search, Recal, Clear, Pack, Transfer, Arrive, Sector, Intr, Try, Attn, End}
use Rattle.trace_rows.specs.Accepted.{over, over_zeros, Row, row, Says, Waits}

-- alias_noise: noise that imitates a right sector
abbrev pub alias_noise : Row
alias_noise = row (record { number = 1; statement = Declares 0 Rp06 } ∷ record { number = 2; statement = Plays (Noise (record { unit = 0; block = 5; span = Times 1; places = 0 ∷ 9 ∷ 11 ∷ 21 ∷ 30 ∷ 32 ∷ [] })) } ∷ record { number = 3; statement = Plays (Submit (record { id = 1; unit = 0; part = part.C; block = 5; count = 1; last = 512; offset = 0; written = None })) } ∷ []) 3 over_zeros (
    Says 3 0 1 (Transfer false 5 1 ∷ []) ∷
    Says 4 0 1 (Sector 5 Clean ∷ Intr ∷
    End (ReadOk (replicate 1 1 ++ replicate 1 10 ++ replicate 1 32 ++ replicate 1 64 ++ replicate 1 1 ++ replicate 507 0)) ∷ []) ∷
    [])

-- answers_in_service_order: requests are served by cylinder
abbrev pub answers_in_service_order : Row
answers_in_service_order = row (record { number = 1; statement = Declares 0 Rp06 } ∷ record { number = 2; statement = Plays (Submit (record { id = 1; unit = 0; part = part.C; block = 2090; count = 1; last = 512; offset = 0; written = None })) } ∷ record { number = 3; statement = Plays (Submit (record { id = 2; unit = 0; part = part.C; block = 4180; count = 1; last = 512; offset = 0; written = Some (replicate 512 17) })) } ∷ record { number = 4; statement = Plays (Submit (record { id = 4; unit = 0; part = part.C; block = 4179; count = 2; last = 512; offset = 0; written = Some (replicate 1024 34) })) } ∷ record { number = 5; statement = Plays (Submit (record { id = 3; unit = 0; part = part.C; block = 4180; count = 1; last = 512; offset = 0; written = None })) } ∷ []) 5 over_zeros (
    Says 2 0 1 (Search 5 19 ∷ []) ∷
    Says 6 0 1 (Arrive ∷ Attn ∷ Transfer false 2090 1 ∷ Sector 2090 Clean ∷ Intr ∷ End (ReadOk (replicate 512 0)) ∷ []) ∷
    Says 6 0 4 (Search 9 18 ∷ Arrive ∷ Attn ∷ Transfer true 4179 2 ∷ Sector 4179 Clean ∷ Sector 4180 Clean ∷ Intr ∷ End WriteOk ∷ []) ∷
    Says 6 0 2 (Search 10 19 ∷ Arrive ∷ Attn ∷ Transfer true 4180 1 ∷ Sector 4180 Clean ∷ Intr ∷ End WriteOk ∷ []) ∷
    Says 6 0 3 (Search 10 19 ∷ Arrive ∷ Attn ∷ Transfer false 4180 1 ∷ Sector 4180 Clean ∷ Intr ∷ End (ReadOk (replicate 512 17)) ∷ []) ∷
    [])

-- attentions_together: two attentions in one attend, and two ready units
abbrev pub attentions_together : Row
attentions_together = row (record { number = 1; statement = Declares 0 Rp06 } ∷ record { number = 2; statement = Declares 1 Rp06 } ∷ record { number = 3; statement = Plays (Submit (record { id = 1; unit = 0; part = part.C; block = 4180; count = 1; last = 512; offset = 0; written = None })) } ∷ record { number = 4; statement = Plays (Submit (record { id = 2; unit = 1; part = part.C; block = 20900; count = 1; last = 512; offset = 0; written = None })) } ∷ record { number = 5; statement = Plays (Submit (record { id = 3; unit = 0; part = part.C; block = 0; count = 1; last = 512; offset = 0; written = None })) } ∷ record { number = 6; statement = Plays (ArriveAt 1) } ∷ record { number = 7; statement = Plays (ArriveAt 0) } ∷ record { number = 8; statement = Plays (AttendTo 0) } ∷ record { number = 9; statement = Plays (MoveAt 0) } ∷ record { number = 10; statement = Plays (AttendTo 0) } ∷ []) 10 over_zeros (
    Says 3 0 1 (Search 10 19 ∷ []) ∷
    Says 4 1 2 (Search 50 19 ∷ []) ∷
    Says 6 1 2 (Arrive ∷ []) ∷
    Says 7 0 1 (Arrive ∷ []) ∷
    Says 8 0 1 (Attn ∷ []) ∷
    Says 8 1 2 (Attn ∷ []) ∷
    Says 8 0 1 (Transfer false 4180 1 ∷ []) ∷
    Says 9 0 1 (Sector 4180 Clean ∷ []) ∷
    Says 10 0 1 (Intr ∷ End (ReadOk (replicate 512 0)) ∷ []) ∷
    Says 10 0 3 (Search 0 19 ∷ []) ∷
    Says 10 1 2 (Transfer false 20900 1 ∷ []) ∷
    Says 11 0 3 (Arrive ∷ []) ∷
    Says 11 1 2 (Sector 20900 Clean ∷ Intr ∷ End (ReadOk (replicate 512 0)) ∷ []) ∷
    Says 11 0 3 (Attn ∷ Transfer false 0 1 ∷ Sector 0 Clean ∷ Intr ∷ End (ReadOk (replicate 512 0)) ∷ []) ∷
    [])

-- burst_across_two_frames: a burst over two bytes that lie in two frames
abbrev pub burst_across_two_frames : Row
burst_across_two_frames = row (record { number = 1; statement = Declares 0 Rp06 } ∷ record { number = 2; statement = Plays (Noise (record { unit = 0; block = 5; span = Times 1; places = 1690 ∷ 1698 ∷ [] })) } ∷ record { number = 3; statement = Plays (Submit (record { id = 1; unit = 0; part = part.C; block = 5; count = 1; last = 512; offset = 300; written = None })) } ∷ []) 3 over_zeros (
    Says 3 0 1 (Transfer false 5 1 ∷ []) ∷
    Says 4 0 1 (Sector 5 (Burst 1691 257) ∷ Intr ∷ Clear ∷ End (ReadOk (replicate 512 0)) ∷ []) ∷
    [])

-- burst_beyond_the_end: a burst in bytes that the read does not ask for
abbrev pub burst_beyond_the_end : Row
burst_beyond_the_end = row (record { number = 1; statement = Declares 0 Rp06 } ∷ record { number = 2; statement = Plays (Noise (record { unit = 0; block = 5; span = Times 1; places = 28 ∷ 34 ∷ [] })) } ∷ record { number = 3; statement = Plays (Submit (record { id = 1; unit = 0; part = part.C; block = 5; count = 1; last = 4; offset = 0; written = None })) } ∷ []) 3 over_zeros (
    Says 3 0 1 (Transfer false 5 1 ∷ []) ∷
    Says 4 0 1 (Sector 5 (Burst 29 65) ∷ Intr ∷ Clear ∷ End (ReadOk (replicate 4 0)) ∷ []) ∷
    [])

-- each_fault: each kind of fault once, in their order
abbrev pub each_fault : Row
each_fault = row (record { number = 1; statement = Declares 0 Rp06 } ∷ record { number = 2; statement = Plays (Arm 0 kind.Late 1) } ∷ record { number = 3; statement = Plays (Arm 0 kind.Hcrc 1) } ∷ record { number = 4; statement = Plays (Arm 0 kind.Seek 1) } ∷ record { number = 5; statement = Plays (Arm 0 kind.Opi 1) } ∷ record { number = 6; statement = Plays (Arm 0 kind.Dte 1) } ∷ record { number = 7; statement = Plays (Submit (record { id = 1; unit = 0; part = part.C; block = 5; count = 1; last = 512; offset = 0; written = Some (replicate 512 51) })) } ∷ []) 7 over_zeros (
    Says 7 0 1 (Transfer true 5 1 ∷ []) ∷
    Says 8 0 1 (Sector 5 (Faulted kind.Seek) ∷ Intr ∷ Clear ∷ Try 5 1 ∷
    Transfer true 5 1 ∷ Sector 5 (Faulted kind.Opi) ∷ Intr ∷ Clear ∷ Try 5 2 ∷
    Transfer true 5 1 ∷ Sector 5 (Faulted kind.Dte) ∷ Intr ∷ Clear ∷ Try 5 3 ∷
    Transfer true 5 1 ∷ Sector 5 (Faulted kind.Hcrc) ∷ Intr ∷ Clear ∷ Try 5 4 ∷
    Recal ∷ Arrive ∷ Attn ∷ Transfer true 5 1 ∷ Sector 5 (Faulted kind.Late) ∷ Intr ∷ Clear ∷ Try 5 5 ∷
    Transfer true 5 1 ∷ Sector 5 Clean ∷ Intr ∷ End WriteOk ∷ []) ∷
    [])

-- empty_script: a script without a line: the last drain finds nothing to do
abbrev pub empty_script : Row
empty_script = row ([]) 0 over_zeros (
    Waits 1 ∷
    [])

-- first_read: one read: search, arrival, attention, transfer, interrupt
abbrev pub first_read : Row
first_read = row (record { number = 1; statement = Declares 0 Rp06 } ∷ record { number = 2; statement = Plays (Submit (record { id = 1; unit = 0; part = part.C; block = 0; count = 1; last = 512; offset = 0; written = None })) } ∷ []) 2 over_zeros (
    Says 2 0 1 (Search 0 19 ∷ []) ∷
    Says 3 0 1 (Arrive ∷ Attn ∷ Transfer false 0 1 ∷ Sector 0 Clean ∷ Intr ∷ End (ReadOk (replicate 512 0)) ∷ []) ∷
    [])

-- forwarded_between_other_units: two replacements, one with a burst, beside another unit
abbrev pub forwarded_between_other_units : Row
forwarded_between_other_units = row (record { number = 1; statement = Declares 0 Rp06 } ∷ record { number = 2; statement = Declares 1 Rm03 } ∷ record { number = 3; statement = Plays (Noise (record { unit = 0; block = 340646; span = Times 1; places = 8 ∷ [] })) } ∷ record { number = 4; statement = Plays (Submit (record { id = 1; unit = 0; part = part.C; block = 999; count = 4; last = 512; offset = 0; written = None })) } ∷ record { number = 5; statement = Plays (Submit (record { id = 2; unit = 1; part = part.C; block = 160; count = 1; last = 512; offset = 0; written = None })) } ∷ record { number = 6; statement = Plays (ArriveAt 0) } ∷ record { number = 7; statement = Plays (AttendTo 0) } ∷ record { number = 8; statement = Plays (MoveAt 0) } ∷ record { number = 9; statement = Plays (MoveAt 0) } ∷ record { number = 10; statement = Plays (ArriveAt 1) } ∷ record { number = 11; statement = Plays (AttendTo 0) } ∷ record { number = 12; statement = Plays (MoveAt 0) } ∷ record { number = 13; statement = Plays (AttendTo 0) } ∷ []) 13 (over (λ unit. if unit == 0 then Some (record { kind = Rp06; serial = 1; places = record { cylinder = 2; track = 7; sector = 10 } ∷ record { cylinder = 2; track = 7; sector = 11 } ∷ [] }) else None) (λ unit block. if (unit == 0) && (block == 340646) then (replicate 512 107) else if (unit == 0) && (block == 340647) then (replicate 512 90) else if (unit == 0) && (block == 340648) then (replicate 1 1 ++ replicate 7 0 ++ replicate 1 2 ++ replicate 1 0 ++ replicate 1 10 ++ replicate 1 7 ++ replicate 1 2 ++ replicate 1 0 ++ replicate 1 11 ++ replicate 1 7 ++ replicate 496 255) else replicate 512 0) (λ unit block. if (unit == 0) && (block == 1000) then true else if (unit == 0) && (block == 1001) then true else false)) (
    Says 4 0 1 (Search 2 6 ∷ []) ∷
    Says 5 1 2 (Search 1 29 ∷ []) ∷
    Says 6 0 1 (Arrive ∷ []) ∷
    Says 7 0 1 (Attn ∷ Transfer false 999 4 ∷ []) ∷
    Says 8 0 1 (Sector 999 Clean ∷ []) ∷
    Says 9 0 1 (Sector 1000 Marked ∷ []) ∷
    Says 10 1 2 (Arrive ∷ []) ∷
    Says 11 0 1 (Intr ∷ Clear ∷ Transfer false 340647 1 ∷ []) ∷
    Says 11 1 2 (Attn ∷ []) ∷
    Says 12 0 1 (Sector 340647 Clean ∷ []) ∷
    Says 13 0 1 (Intr ∷ Transfer false 1001 2 ∷ []) ∷
    Says 14 0 1 (Sector 1001 Marked ∷ Intr ∷ Clear ∷ Transfer false 340646 1 ∷ Sector 340646 (Burst 9 1) ∷ Intr ∷ Clear ∷
    Transfer false 1002 1 ∷ Sector 1002 Clean ∷ Intr ∷
    End (ReadOk (replicate 512 0 ++ replicate 512 90 ++ replicate 512 107 ++ replicate 512 0)) ∷ []) ∷
    Says 14 1 2 (Transfer false 160 1 ∷ Sector 160 Clean ∷ Intr ∷ End (ReadOk (replicate 512 0)) ∷ []) ∷
    [])

-- forwarded_read: a marked block that the table lists: its replacement, and then on
abbrev pub forwarded_read : Row
forwarded_read = row (record { number = 1; statement = Declares 0 Rp06 } ∷ record { number = 2; statement = Plays (Submit (record { id = 1; unit = 0; part = part.C; block = 998; count = 5; last = 512; offset = 0; written = None })) } ∷ []) 2 (over (λ unit. if unit == 0 then Some (record { kind = Rp06; serial = 1; places = record { cylinder = 2; track = 7; sector = 10 } ∷ [] }) else None) (λ unit block. if (unit == 0) && (block == 340647) then (replicate 512 90) else if (unit == 0) && (block == 340648) then (replicate 1 1 ++ replicate 7 0 ++ replicate 1 2 ++ replicate 1 0 ++ replicate 1 10 ++ replicate 1 7 ++ replicate 500 255) else replicate 512 0) (λ unit block. if (unit == 0) && (block == 1000) then true else false)) (
    Says 2 0 1 (Search 2 5 ∷ []) ∷
    Says 3 0 1 (Arrive ∷ Attn ∷ Transfer false 998 5 ∷ Sector 998 Clean ∷ Sector 999 Clean ∷ Sector 1000 Marked ∷ Intr ∷ Clear ∷
    Transfer false 340647 1 ∷ Sector 340647 Clean ∷ Intr ∷ Transfer false 1001 2 ∷ Sector 1001 Clean ∷ Sector 1002 Clean ∷ Intr ∷
    End (ReadOk (replicate 1024 0 ++ replicate 512 90 ++ replicate 1024 0)) ∷ []) ∷
    [])

-- frames_run_out: a request that does not find its frames, and one that does
abbrev pub frames_run_out : Row
frames_run_out = row (record { number = 1; statement = Declares 0 Rp06 } ∷ record { number = 2; statement = Plays (Submit (record { id = 1; unit = 0; part = part.C; block = 5; count = 1; last = 512; offset = 1; written = None })) } ∷ record { number = 3; statement = Plays (Submit (record { id = 2; unit = 0; part = part.C; block = 5; count = 1; last = 511; offset = 1; written = None })) } ∷ []) 3 (λ script. record (over_zeros script) { frames = 16383 }) (
    Says 2 0 1 (End NoFrames ∷ []) ∷
    Says 3 0 2 (Transfer false 5 1 ∷ []) ∷
    Says 4 0 2 (Sector 5 Clean ∷ Intr ∷ End (ReadOk (replicate 511 0)) ∷ []) ∷
    [])

-- last_data_block: a write and a read of the last data block
abbrev pub last_data_block : Row
last_data_block = row (record { number = 1; statement = Declares 0 Rp06 } ∷ record { number = 2; statement = Plays (Submit (record { id = 1; unit = 0; part = part.C; block = 340521; count = 1; last = 512; offset = 0; written = Some (replicate 512 165) })) } ∷ record { number = 3; statement = Plays (Submit (record { id = 2; unit = 0; part = part.C; block = 340521; count = 1; last = 512; offset = 0; written = None })) } ∷ []) 3 over_zeros (
    Says 2 0 1 (Search 814 2 ∷ []) ∷
    Says 4 0 1 (Arrive ∷ Attn ∷ Transfer true 340521 1 ∷ Sector 340521 Clean ∷ Intr ∷ End WriteOk ∷ []) ∷
    Says 4 0 2 (Search 814 2 ∷ Arrive ∷ Attn ∷ Transfer false 340521 1 ∷ Sector 340521 Clean ∷ Intr ∷
    End (ReadOk (replicate 512 165)) ∷ []) ∷
    [])

-- locked: a write on a locked unit, and one when it is unlocked
abbrev pub locked : Row
locked = row (record { number = 1; statement = Declares 0 Rp06 } ∷ record { number = 2; statement = Plays (SetLocked 0 true) } ∷ record { number = 3; statement = Plays (Submit (record { id = 1; unit = 0; part = part.C; block = 5; count = 1; last = 512; offset = 0; written = Some (replicate 512 1) })) } ∷ record { number = 4; statement = Plays (SetLocked 0 false) } ∷ record { number = 5; statement = Plays (Submit (record { id = 2; unit = 0; part = part.C; block = 5; count = 1; last = 512; offset = 0; written = Some (replicate 512 1) })) } ∷ []) 5 over_zeros (
    Says 3 0 1 (End (Failed Locked 0) ∷ []) ∷
    Says 5 0 2 (Transfer true 5 1 ∷ []) ∷
    Says 6 0 2 (Sector 5 Clean ∷ Intr ∷ End WriteOk ∷ []) ∷
    [])

-- marked_replacement: a marked block whose replacement is marked
abbrev pub marked_replacement : Row
marked_replacement = row (record { number = 1; statement = Declares 0 Rp06 } ∷ record { number = 2; statement = Plays (Submit (record { id = 1; unit = 0; part = part.C; block = 998; count = 5; last = 512; offset = 0; written = None })) } ∷ []) 2 (over (λ unit. if unit == 0 then Some (record { kind = Rp06; serial = 1; places = record { cylinder = 2; track = 7; sector = 10 } ∷ [] }) else None) (λ unit block. if (unit == 0) && (block == 340647) then (replicate 512 90) else if (unit == 0) && (block == 340648) then (replicate 1 1 ++ replicate 7 0 ++ replicate 1 2 ++ replicate 1 0 ++ replicate 1 10 ++ replicate 1 7 ++ replicate 500 255) else replicate 512 0) (λ unit block. if (unit == 0) && (block == 1000) then true else if (unit == 0) && (block == 340647) then true else false)) (
    Says 2 0 1 (Search 2 5 ∷ []) ∷
    Says 3 0 1 (Arrive ∷ Attn ∷ Transfer false 998 5 ∷ Sector 998 Clean ∷ Sector 999 Clean ∷ Sector 1000 Marked ∷ Intr ∷ Clear ∷
    Transfer false 340647 1 ∷ Sector 340647 Marked ∷ Intr ∷ Clear ∷ End (Failed Unforwarded 2) ∷ []) ∷
    [])

-- near_enough: a block that is near enough to start at once
abbrev pub near_enough : Row
near_enough = row (record { number = 1; statement = Declares 0 Rp06 } ∷ record { number = 2; statement = Plays (Submit (record { id = 1; unit = 0; part = part.C; block = 5; count = 1; last = 512; offset = 0; written = None })) } ∷ record { number = 3; statement = Plays (MoveAt 0) } ∷ record { number = 4; statement = Plays (AttendTo 0) } ∷ []) 4 over_zeros (
    Says 2 0 1 (Transfer false 5 1 ∷ []) ∷
    Says 3 0 1 (Sector 5 Clean ∷ []) ∷
    Says 4 0 1 (Intr ∷ End (ReadOk (replicate 512 0)) ∷ []) ∷
    Waits 5 ∷
    [])

-- offline: requests that end as the unit is offline; PACK when it is back
abbrev pub offline : Row
offline = row (record { number = 1; statement = Declares 0 Rp06 } ∷ record { number = 2; statement = Plays (Submit (record { id = 1; unit = 0; part = part.C; block = 418; count = 1; last = 512; offset = 0; written = None })) } ∷ record { number = 3; statement = Plays (SetOnline 0 false) } ∷ record { number = 4; statement = Plays (Submit (record { id = 2; unit = 0; part = part.C; block = 0; count = 1; last = 512; offset = 0; written = None })) } ∷ record { number = 5; statement = Plays (ArriveAt 0) } ∷ record { number = 6; statement = Plays (AttendTo 0) } ∷ record { number = 7; statement = Plays (SetOnline 0 true) } ∷ record { number = 8; statement = Plays (Submit (record { id = 3; unit = 0; part = part.C; block = 0; count = 1; last = 512; offset = 0; written = None })) } ∷ []) 8 over_zeros (
    Says 2 0 1 (Search 1 19 ∷ []) ∷
    Says 5 0 1 (Arrive ∷ []) ∷
    Says 6 0 1 (Attn ∷ End (Failed Offline 0) ∷ []) ∷
    Says 6 0 2 (End (Failed Offline 0) ∷ []) ∷
    Says 8 0 3 (Pack ∷ Search 0 19 ∷ []) ∷
    Says 9 0 3 (Arrive ∷ Attn ∷ Transfer false 0 1 ∷ Sector 0 Clean ∷ Intr ∷ End (ReadOk (replicate 512 0)) ∷ []) ∷
    [])

-- offline_behind_a_burst: a request that has all its blocks ends ok, offline or not
abbrev pub offline_behind_a_burst : Row
offline_behind_a_burst = row (record { number = 1; statement = Declares 0 Rp06 } ∷ record { number = 2; statement = Plays (Noise (record { unit = 0; block = 5; span = Times 1; places = 4090 ∷ 4100 ∷ [] })) } ∷ record { number = 3; statement = Plays (Submit (record { id = 1; unit = 0; part = part.C; block = 5; count = 1; last = 512; offset = 0; written = None })) } ∷ record { number = 4; statement = Plays (MoveAt 0) } ∷ record { number = 5; statement = Plays (SetOnline 0 false) } ∷ record { number = 6; statement = Plays (AttendTo 0) } ∷ []) 6 over_zeros (
    Says 3 0 1 (Transfer false 5 1 ∷ []) ∷
    Says 4 0 1 (Sector 5 (Burst 4091 1025) ∷ []) ∷
    Says 6 0 1 (Intr ∷ Clear ∷ End (ReadOk (replicate 512 0)) ∷ []) ∷
    Waits 7 ∷
    [])

-- offline_in_a_transfer: a unit that goes offline within a segment, beside one that waits
abbrev pub offline_in_a_transfer : Row
offline_in_a_transfer = row (record { number = 1; statement = Declares 0 Rp06 } ∷ record { number = 2; statement = Declares 1 Rp06 } ∷ record { number = 3; statement = Plays (Submit (record { id = 1; unit = 0; part = part.C; block = 5; count = 3; last = 512; offset = 0; written = None })) } ∷ record { number = 4; statement = Plays (Submit (record { id = 2; unit = 0; part = part.C; block = 6; count = 1; last = 512; offset = 0; written = None })) } ∷ record { number = 5; statement = Plays (Submit (record { id = 3; unit = 1; part = part.C; block = 5; count = 1; last = 512; offset = 0; written = None })) } ∷ record { number = 6; statement = Plays (MoveAt 0) } ∷ record { number = 7; statement = Plays (SetOnline 0 false) } ∷ record { number = 8; statement = Plays (MoveAt 0) } ∷ record { number = 9; statement = Plays (AttendTo 0) } ∷ []) 9 over_zeros (
    Says 3 0 1 (Transfer false 5 3 ∷ []) ∷
    Says 6 0 1 (Sector 5 Clean ∷ []) ∷
    Says 8 0 1 (Sector 6 verdict.Offline ∷ []) ∷
    Says 9 0 1 (Intr ∷ Clear ∷ End (Failed Offline 1) ∷ []) ∷
    Says 9 0 2 (End (Failed Offline 0) ∷ []) ∷
    Says 9 1 3 (Transfer false 5 1 ∷ []) ∷
    Says 10 1 3 (Sector 5 Clean ∷ Intr ∷ End (ReadOk (replicate 512 0)) ∷ []) ∷
    [])
