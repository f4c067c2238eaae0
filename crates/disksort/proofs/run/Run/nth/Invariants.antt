use Rattle.std.proofs.Common.{◌≡◌, ◌+◌, length}
use Rattle.disksort.specs.Buckets.{bucket, spell}
use Rattle.disksort.specs.Runs.{seen}
use Rattle.disksort.proofs.run.Run.nth.Given as goal

-- so many of the run are behind the walk, and so many are left to pass
abbrev pub invariant-loop-cylinder : goal.invariant-loop-cylinder
invariant-loop-cylinder l = l.i ≡ length (spell (bucket (length l.behind) (seen l.self) l.behind) l.cylinder) + l.left
