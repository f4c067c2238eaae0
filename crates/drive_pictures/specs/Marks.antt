-- The marks of an event, from the lightest to the gravest.
use Rattle.std.specs.Prelude.{ℕ, nat_le, nat_lt, Bool, if◌then◌else◌}
use Rattle.hardware_table.specs.declared.Moved.{Moved}
use Rattle.hardware_table.specs.declared.Moved.TheVariants as verdict
use Rattle.drive_pictures.specs.declared.marks.Mark.{Mark}
use Rattle.drive_pictures.specs.declared.marks.Mark.TheVariants.{Blank, AttentionUp, AttentionTaken, InterruptTaken, Asked, SectorMoved, Answered, Turned, FaultArmed, NoiseArmed, Acknowledged, Unlocked, Locked, Online, Offline, TryFailed, OffsetPlus, OffsetMinus, Burst, MarkedSector, Fault, Hard, TriedOffline, Stopped}

-- the place of a mark among all
abbrev pub weight_of : Mark → ℕ
weight_of Blank = 0
weight_of AttentionUp = 1
weight_of AttentionTaken = 2
weight_of InterruptTaken = 3
weight_of Asked = 4
weight_of SectorMoved = 5
weight_of Answered = 6
weight_of Turned = 7
weight_of FaultArmed = 8
weight_of NoiseArmed = 9
weight_of Acknowledged = 10
weight_of Unlocked = 11
weight_of Locked = 12
weight_of Online = 13
weight_of Offline = 14
weight_of TryFailed = 15
weight_of OffsetPlus = 16
weight_of OffsetMinus = 17
weight_of Burst = 18
weight_of MarkedSector = 19
weight_of Fault = 20
weight_of Hard = 21
weight_of TriedOffline = 22
weight_of Stopped = 23

-- OF BOTH MARKS the graver stays
abbrev pub later : Mark → Mark → Mark
later mark other = if nat_lt (weight_of mark) (weight_of other) then other else mark

-- a sector could not be moved as it was, or a request was stopped
abbrev pub is_trouble : Mark → Bool
is_trouble mark = nat_le (weight_of Burst) (weight_of mark)

-- the mark of a sector's verdict
abbrev pub mark_of : Moved → Mark
mark_of verdict.Clean = SectorMoved
mark_of (verdict.Burst at pattern) = Burst
mark_of verdict.Hard = Hard
mark_of verdict.Marked = MarkedSector
mark_of (verdict.Faulted kind) = Fault
mark_of verdict.Offline = TriedOffline
