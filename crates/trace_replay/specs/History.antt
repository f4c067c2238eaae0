-- THE LINES OF A REQUEST, as a trace tells them, and what they say.
use Rattle.std.specs.Prelude.{◌≡◌, ℕ, ◌+◌, ◌==◌, if◌then◌else◌, Bool, true, false, List, [], ◌∷◌, zero, suc}
use Rattle.hardware_table.specs.declared.Moved.{Moved}
use Rattle.hardware_table.specs.declared.Moved.TheVariants as verdict
use Rattle.trace_replay.specs.requests.Requests.{Answer, OutsidePartition, EndOfPartition, NoFrames}
use Rattle.trace_replay.specs.Moments.{Deed, Centre, Clear, Sector, Intr, Try, End, Moment, Told}

-- a request was refused as it was submitted
abbrev pub is_refusal : Answer → Bool
is_refusal OutsidePartition = true
is_refusal EndOfPartition = true
is_refusal NoFrames = true
is_refusal answer = false

-- The lines so far of a unit's request in hand, the last one first: those behind the end of the request before it. A request that
-- was refused has its end line alone.
abbrev pub with_deed : Deed → List Deed → List Deed
with_deed (End answer) lines = if is_refusal answer then lines else []
with_deed deed lines = deed ∷ lines

abbrev pub lines_after : ℕ → Moment → List Deed → List Deed
lines_after unit (Told line u id deed) lines = if unit == u then with_deed deed lines else lines
lines_after unit m lines = lines

abbrev pub lines_behind : ℕ → List Deed → List Moment → List Deed
lines_behind unit lines [] = lines
lines_behind unit lines (m ∷ ms) = lines_behind unit (lines_after unit m lines) ms

abbrev pub lines_of : ℕ → List Moment → List Deed
lines_of unit ms = lines_behind unit [] ms

-- HOW MANY BLOCKS ARE DONE: as many as sector lines that are clean or tell a burst.
abbrev pub moved_by : Moved → ℕ
moved_by verdict.Clean = 1
moved_by (verdict.Burst at pattern) = 1
moved_by verdict = 0

abbrev pub done_by : Deed → ℕ
done_by (Sector block verdict) = moved_by verdict
done_by deed = 0

abbrev pub done_in : List Deed → ℕ
done_in [] = 0
done_in (deed ∷ lines) = done_by deed + done_in lines

-- THE LAST SECTOR that was tried
pub data Tried : Type 0 where
  Untried : Tried
  TriedAt : (block : ℕ) (verdict : Moved) → Tried

abbrev pub tried_by : Deed → Tried → Tried
tried_by (Sector block verdict) before = TriedAt block verdict
tried_by deed before = before

abbrev pub last_tried : List Deed → Tried
last_tried [] = Untried
last_tried (deed ∷ lines) = tried_by deed (last_tried lines)

-- how many marks were met since a block was done: one on the block's own sector, a second one on its replacement
abbrev pub marks_at : Moved → ℕ → ℕ
marks_at verdict.Marked before = before + 1
marks_at verdict.Clean before = 0
marks_at (verdict.Burst at pattern) before = 0
marks_at verdict before = before

abbrev pub marks_by : Deed → ℕ → ℕ
marks_by (Sector block verdict) before = marks_at verdict before
marks_by deed before = before

abbrev pub marks_in : List Deed → ℕ
marks_in [] = 0
marks_in (deed ∷ lines) = marks_by deed (marks_in lines)

-- the number of the last try line
abbrev pub try_by : Deed → ℕ → ℕ
try_by (Try block failures) before = failures
try_by deed before = before

abbrev pub last_try : List Deed → ℕ
last_try [] = 0
last_try (deed ∷ lines) = try_by deed (last_try lines)

-- a fault was met, or noise that the code shows and cannot repair
abbrev pub fails : Moved → Bool
fails verdict.Hard = true
fails (verdict.Faulted kind) = true
fails verdict = false

-- THE LAST n TRIES were failures at one block: try lines n, n - 1, .. 1, and behind each, as lines go back, the sector line of that
-- block with its verdict; no other sector line stands between. (Where a sector is owed, only the lines of its interrupt come
-- before it.)
abbrev pub AreFailures : (owed : Bool) (n block : ℕ) → List Deed → Type 0
AreFailures false zero block lines = Unit {0}
AreFailures false (suc n) block [] = ⊥
AreFailures false (suc n) block (Try b t ∷ lines) = (b ≡ block) × (t ≡ suc n) × AreFailures true n block lines
AreFailures false (suc n) block (Sector b v ∷ lines) = ⊥
AreFailures false (suc n) block (deed ∷ lines) = AreFailures false (suc n) block lines
AreFailures true n block (Sector b v ∷ lines) = (b ≡ block) × (fails v ≡ true) × AreFailures false n block lines
AreFailures true n block (Intr ∷ lines) = AreFailures true n block lines
AreFailures true n block (Clear ∷ lines) = AreFailures true n block lines
AreFailures true n block (Centre ∷ lines) = AreFailures true n block lines
AreFailures true n block lines = ⊥
