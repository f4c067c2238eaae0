-- What each line of a request costs, of its events and of its commands.
use Rattle.std.proofs.Common.{◌≡◌, ℕ, zero, suc, ◌+◌, ◌-◌, ◌*◌, ◌<◌, ◌≤◌, ◌==◌, ◌&&◌, ◌||◌, Bool, true, false, not, List, [], ◌∷◌, ◌++◌, length, Option, Some, refl, subst, arith, rules}
use Rattle.std.specs.Prelude.{if◌then◌else◌}
use Rattle.std.specs.Option.{option_map_or}
use Rattle.std.proofs.lemmas.Option.{same_Some, none-some}
use Rattle.std.proofs.lemmas.Bool.Decides.{nat_tests}
use Rattle.std.proofs.lemmas.Bool.{eqb-false}
use Rattle.pack_geometry.specs.Geometry.{place_at}
use Rattle.drive_registers.specs.Codes.{offset_field}
use Rattle.drive_registers.specs.declared.OffsetCode.{OffsetCode}
use Rattle.hardware_table.specs.declared.Moved.{Moved}
use Rattle.hardware_table.specs.declared.Moved.TheVariants as verdict
use Rattle.hardware_table.specs.Drive.{DriveState}
use Rattle.trace_replay.specs.Schedule.{offset_after, recalibrates_after}
use Rattle.trace_replay.specs.declared.retry_offsets.Step.TheVariants as retry
use Rattle.trace_replay.specs.requests.Requests.{Request}
use Rattle.trace_replay.specs.Moments.{Deed, Search, Seek, Recal, Offset, Centre, Clear, Pack, Transfer, Sector, Intr, Try, Attn, End}
use Rattle.trace_replay.specs.Conversation.{Positioning, SearchFor, Segment, OwnBlocks, Replacement, Hand, is_write, start_of, length_of, transfer_of, command_of, needs_unlocked, guarded, due, entry_of, Stage, Waiting, Steps, UnderWay, AtOnce, Moving, Saying, Ending, Progress, saying, retried, failed, forwarded, marked, continued, interrupted_by, stage_after, is_under_way, is_clean, last_of, sector_may, intr_may, progress_tried, progress_interrupted}
use Rattle.trace_replay.proofs.Histories.{Fits, AreSaid, Open, MoveFits, guard_holds, interrupted, length_some}
use Rattle.trace_replay.proofs.Kept.{no}
use Rattle.driver_laws.specs.rules.Measure.{tries_left, steps_left, events_from, events_while_clean, events_of_step, events_at}
use Rattle.driver_laws.specs.rules.Drains.{event_by}
use Rattle.driver_laws.proofs.rules.Numbers.{some_tries, one_try_less, offset_number, return_number, steps_counted}

-- ---- THE COMMANDS that are left, as the events are: a command that is guarded may have PACK before it, and counts twice; PACK itself
-- does not count. So at each try the transfer, DCLR and RTC are 4, and a step is 2.
abbrev pub cost_by : Deed → ℕ
cost_by (Search cylinder sector) = 2
cost_by (Seek cylinder) = 2
cost_by Recal = 2
cost_by (Offset code) = 2
cost_by Centre = 1
cost_by Clear = 1
cost_by (Transfer write block count) = 2
cost_by deed = 0

abbrev pub cost_in : List Deed → ℕ
cost_in [] = 0
cost_in (deed ∷ lines) = cost_by deed + cost_in lines

abbrev pub cost_from : Segment → ℕ → Progress → ℕ
cost_from segment count p = 296 * (count - (p.done + 1)) + (4 * tries_left segment p.failures + 2 * steps_left segment p.failures)

abbrev pub cost_while_clean : Segment → ℕ → ℕ → Progress → ℕ
cost_while_clean segment zero count p = 1 + 296 * (count - p.done)
cost_while_clean segment (suc left) count p = cost_from segment count p - 2

abbrev pub cost_while_moving : Segment → ℕ → Moved → ℕ → Progress → ℕ
cost_while_moving segment left verdict.Clean count p = cost_while_clean segment left count p
cost_while_moving segment left verdict count p = cost_from segment count p - 2

abbrev pub cost_at : ℕ → Progress → Stage → ℕ
cost_at count p Waiting = 0
cost_at count p (Steps left segment) = 2 * length left + cost_from segment count p
cost_at count p (UnderWay left segment) = 2 * length left + cost_from segment count p
cost_at count p (AtOnce segment) = cost_from segment count p
cost_at count p (Moving segment left last) = cost_while_moving segment left last count p
cost_at count p (Saying lines next) = cost_in lines + cost_at count p next
cost_at count p (Ending answer) = 0

-- WHAT A LINE COSTS, where the drive positions before it or not, and after it
pub record Costs (b b' : Bool) (count : ℕ) (p : Progress) (stage : Stage) (deed : Deed) (p' : Progress) (stage' : Stage) : Type 0 where
  pub events : events_at b' count p' stage' + event_by deed ≤ events_at b count p stage
  pub commands : cost_at count p' stage' + cost_by deed ≤ cost_at count p stage

-- after a line that is due and no end
abbrev pub AfterCosts : Bool → Bool → DriveState → Hand → Option Request → Stage → Deed → Type 0
AfterCosts b b' d h next stage (End answer) = Unit {0}
AfterCosts b b' d h next stage deed = Costs b b' h.request.count h.progress stage deed h.progress (stage_after stage deed d h next)

-- ---- a transfer

clean_events : (segment : Segment) (n count : ℕ) (p : Progress) → 1 ≤ n → events_while_clean segment n count p ≡ events_from segment count p
clean_events segment zero count p some = absurd (omega (arith, some))
clean_events segment (suc n) count p some = refl

clean_cost : (segment : Segment) (n count : ℕ) (p : Progress) → 1 ≤ n → cost_while_clean segment n count p ≡ cost_from segment count p - 2
clean_cost segment zero count p some = absurd (omega (arith, some))
clean_cost segment (suc n) count p some = refl

transfer_costs : (b b' : Bool) (h : Hand) (segment : Segment) (lines : List Deed) → Open h segment 1 lines
    → Costs b b' h.request.count h.progress (AtOnce segment) (transfer_of segment h) h.progress (Moving segment (length_of segment h) verdict.Clean)
transfer_costs b b' h segment lines o = record {
  events = omega (arith, clean_events segment (length_of segment h) h.request.count h.progress (length_some h segment lines o));
  commands = omega (arith, clean_cost segment (length_of segment h) h.request.count h.progress (length_some h segment lines o), some_tries segment h.progress.failures o.small);
}

waited_costs : (b b' : Bool) (h : Hand) (segment : Segment) (lines : List Deed) → Open h segment 1 lines
    → Costs b b' h.request.count h.progress (Steps [] segment) (transfer_of segment h) h.progress (Moving segment (length_of segment h) verdict.Clean)
waited_costs b b' h segment lines o = record {
  events = omega (arith, (transfer_costs b b' h segment lines o).events);
  commands = omega (arith, (transfer_costs b b' h segment lines o).commands);
}

-- ---- a step
of_step : (b : Bool) → events_of_step b ≤ 2
of_step true = omega arith
of_step false = omega arith

some_of_step : (b : Bool) → 1 ≤ events_of_step b
some_of_step true = omega arith
some_of_step false = omega arith

step_costs : (b b' : Bool) (d' : DriveState) (h : Hand) (next : Option Request) (step : Positioning) (left : List Positioning) (segment : Segment)
    → AfterCosts b b' d' h next (Steps (step ∷ left) segment) (command_of step)
step_costs b b' d' h next (SearchFor c y) left segment = record { events = omega (arith, of_step b'); commands = omega arith }
step_costs b b' d' h next other left segment = record { events = omega (arith, of_step b'); commands = omega arith }

-- ---- a line that is said
pub positions_least : (b : Bool) (count : ℕ) (p : Progress) (stage : Stage) → events_at b count p stage ≤ events_at true count p stage
positions_least b count p (UnderWay left segment) = omega (arith, of_step b)
positions_least b count p other = omega arith

saying_events : (b : Bool) (count : ℕ) (p : Progress) (lines : List Deed) (next : Stage) → events_at b count p (saying lines next) ≤ events_at true count p next
saying_events b count p [] next = positions_least b count p next
saying_events b count p (line ∷ lines) next = omega arith

saying_cost : (count : ℕ) (p : Progress) (lines : List Deed) (next : Stage) → cost_at count p (saying lines next) ≡ cost_in lines + cost_at count p next
saying_cost count p [] next = omega arith
saying_cost count p (line ∷ lines) next = refl

line_costs : (b b' : Bool) (d' : DriveState) (h : Hand) (next : Option Request) (line : Deed) (rest : List Deed) (then_stage : Stage)
    → AreSaid (line ∷ rest) → AfterCosts b b' d' h next (Saying (line ∷ rest) then_stage) line
line_costs b b' d' h next line rest then_stage a = search (rules, saying_events, saying_cost)

-- ---- PACK leaves everything
pack_costs : (b b' : Bool) (count : ℕ) (p : Progress) (left : List Positioning) (segment : Segment) → Costs b b' count p (Steps left segment) Pack p (Steps left segment)
pack_costs b b' count p left segment = record { events = omega arith; commands = omega arith }

pack_at_once : (b b' : Bool) (count : ℕ) (p : Progress) (segment : Segment) → Costs b b' count p (AtOnce segment) Pack p (AtOnce segment)
pack_at_once b b' count p segment = record { events = omega arith; commands = omega arith }

pub due_costs : (b b' : Bool) (d d' : DriveState) (h : Hand) (next : Option Request) (stage : Stage) (deed : Deed) (lines : List Deed)
    → due d h stage ≡ Some deed → Fits h stage lines → AfterCosts b b' d' h next stage deed
due_costs b b' d d' h next Waiting deed lines is f = absurd (none-some deed is)
due_costs b b' d d' h next (Steps [] segment) deed lines is f =
    guard_holds (AfterCosts b b' d' h next (Steps [] segment)) d.online (is_write h && d.locked) d.valid h.progress.done (transfer_of segment h) deed
    (same_Some (guarded d h (transfer_of segment h)) deed is) tt tt (pack_costs b b' h.request.count h.progress [] segment) (waited_costs b b' h segment lines f)
due_costs b b' d d' h next (Steps (step ∷ left) segment) deed lines is f =
    guard_holds (AfterCosts b b' d' h next (Steps (step ∷ left) segment)) d.online (needs_unlocked (command_of step) && d.locked) d.valid h.progress.done (command_of step) deed
    (same_Some (guarded d h (command_of step)) deed is) tt tt (pack_costs b b' h.request.count h.progress (step ∷ left) segment) (step_costs b b' d' h next step left segment)
due_costs b b' d d' h next (UnderWay left segment) deed lines is f = absurd (none-some deed is)
due_costs b b' d d' h next (AtOnce segment) deed lines is f =
    guard_holds (AfterCosts b b' d' h next (AtOnce segment)) d.online (is_write h && d.locked) d.valid h.progress.done (transfer_of segment h) deed
    (same_Some (guarded d h (transfer_of segment h)) deed is) tt tt (pack_at_once b b' h.request.count h.progress segment) (transfer_costs b b' h segment lines f)
due_costs b b' d d' h next (Moving segment left last) deed lines is f = absurd (none-some deed is)
due_costs b b' d d' h next (Saying [] then_stage) deed lines is f = absurd (none-some deed is)
due_costs b b' d d' h next (Saying (line ∷ rest) then_stage) deed lines is f =
    subst (AfterCosts b b' d' h next (Saying (line ∷ rest) then_stage)) (same_Some line deed is) (line_costs b b' d' h next line rest then_stage f.0)
due_costs b b' d d' h next (Ending answer) deed lines is f = subst (AfterCosts b b' d' h next (Ending answer)) (same_Some (End answer) deed is) tt

-- ---- an arrival, counted where the drive positions before it and not after it; and an attention
pub record Arrives (count : ℕ) (p : Progress) (stage : Stage) : Type 0 where
  pub events : events_at false count p stage + 1 ≤ events_at true count p stage

pub arrive_costs : (count : ℕ) (p : Progress) (stage : Stage) → is_under_way stage ≡ true → Arrives count p stage
arrive_costs count p (UnderWay left segment) is = record { events = omega arith }
arrive_costs count p other is = absurd (no is)

pub attn_costs : (b b' : Bool) (d : DriveState) (h : Hand) (next : Option Request) (stage : Stage) → is_under_way stage ≡ true
    → Costs b b' h.request.count h.progress stage Attn h.progress (stage_after stage Attn d h next)
attn_costs b b' d h next (UnderWay left segment) is = record { events = omega (arith, some_of_step b); commands = omega arith }
attn_costs b b' d h next other is = absurd (no is)

-- ---- sectors
one_less : (n : ℕ) → n ≡ suc n - 1
one_less n = omega arith

clean_sector_costs : (b b' : Bool) (h : Hand) (bytes : List ℕ) (segment : Segment) (n block : ℕ) (lines : List Deed) → Open h segment (suc n) lines
    → Costs b b' h.request.count h.progress (Moving segment (suc n) verdict.Clean) (Sector block verdict.Clean) (progress_tried verdict.Clean bytes h.progress) (Moving segment n verdict.Clean)
clean_sector_costs b b' h bytes segment zero block lines o = search rules
clean_sector_costs b b' h bytes segment (suc m) block lines o = search rules

stopped_costs : (b b' : Bool) (h : Hand) (bytes : List ℕ) (segment : Segment) (n block : ℕ) (v : Moved) (lines : List Deed) → Open h segment (suc n) lines
    → Costs b b' h.request.count h.progress (Moving segment (suc n) verdict.Clean) (Sector block v) (progress_tried v bytes h.progress) (Moving segment (suc n - 1) v)
stopped_costs b b' h bytes segment n block verdict.Clean lines o =
    subst (λ z. Costs b b' h.request.count h.progress (Moving segment (suc n) verdict.Clean) (Sector block verdict.Clean) (progress_tried verdict.Clean bytes h.progress) (Moving segment z verdict.Clean)) (one_less n)
    (clean_sector_costs b b' h bytes segment n block lines o)
stopped_costs b b' h bytes segment n block other lines o = record { events = omega (arith, some_tries segment h.progress.failures o.small); commands = omega arith }

pub sector_costs : (b b' : Bool) (h : Hand) (bytes : List ℕ) (stage : Stage) (block : ℕ) (v : Moved) (d : DriveState) (next : Option Request) (lines : List Deed)
    → sector_may h stage block ≡ true → Fits h stage lines
    → Costs b b' h.request.count h.progress stage (Sector block v) (progress_tried v bytes h.progress)
    (stage_after stage (Sector block v) d (record h { progress = progress_tried v bytes h.progress }) next)
sector_costs b b' h bytes (Moving segment zero verdict.Clean) block v d next lines is f = absurd (no is)
sector_costs b b' h bytes (Moving segment (suc n) verdict.Clean) block v d next lines is f = stopped_costs b b' h bytes segment n block v lines f
sector_costs b b' h bytes (Moving segment left (verdict.Burst at q)) block v d next lines is f = absurd (no is)
sector_costs b b' h bytes (Moving segment left verdict.Hard) block v d next lines is f = absurd (no is)
sector_costs b b' h bytes (Moving segment left (verdict.Faulted k)) block v d next lines is f = absurd (no is)
sector_costs b b' h bytes (Moving segment left verdict.Marked) block v d next lines is f = absurd (no is)
sector_costs b b' h bytes (Moving segment left verdict.Offline) block v d next lines is f = absurd (no is)
sector_costs b b' h bytes Waiting block v d next lines is f = absurd (no is)
sector_costs b b' h bytes (Steps left segment) block v d next lines is f = absurd (no is)
sector_costs b b' h bytes (UnderWay left segment) block v d next lines is f = absurd (no is)
sector_costs b b' h bytes (AtOnce segment) block v d next lines is f = absurd (no is)
sector_costs b b' h bytes (Saying rest then_stage) block v d next lines is f = absurd (no is)
sector_costs b b' h bytes (Ending answer) block v d next lines is f = absurd (no is)

-- ---- the interrupt: what is left behind it, as the lines that it brings are said
pub record Leaves (count : ℕ) (p : Progress) (stage : Stage) (e c : ℕ) : Type 0 where
  pub events : events_at true count p stage ≤ e
  pub commands : cost_at count p stage ≤ c

-- with so many commands said before it
said_costs : (b b' : Bool) (count : ℕ) (before : Progress) (moving : Stage) (p : Progress) (lines : List Deed) (next : Stage) (n e c : ℕ)
    → cost_in lines ≤ n → e + 1 ≤ events_at b count before moving → c + n ≤ cost_at count before moving
    → Leaves count p next e c → Costs b b' count before moving Intr p (saying lines next)
said_costs b b' count before moving p lines next n e c few left kept l = record {
  events = omega (arith, saying_events b' count p lines next, left, l.events);
  commands = omega (arith, saying_cost count p lines next, few, kept, l.commands);
}

zero_or : (n : ℕ) → (n == 0) || false ≡ true → n ≡ 0
zero_or n h = grind (arith, nat_tests)

-- where a segment is done, the blocks behind it are left
continued_leaves : (h : Hand) → h.progress.done ≤ h.request.count → h.progress.failures ≡ 0
    → Leaves h.request.count h.progress (continued h) (184 * (h.request.count - h.progress.done)) (296 * (h.request.count - h.progress.done))
continued_leaves h room fresh = search rules

burst_lines : (b : Bool) → cost_in ((Clear ∷ [] ++ (if b then [] else Centre ∷ [])) ++ []) ≤ 2
burst_lines true = omega arith
burst_lines false = omega arith

fault_lines : (b : Bool) (block failures : ℕ) → cost_in ((Clear ∷ [] ++ (if b then [] else Centre ∷ [])) ++ (Try block failures ∷ [])) ≤ 2
fault_lines true block failures = omega arith
fault_lines false block failures = omega arith

-- behind a clean sector, and behind a burst
clean_interrupt : (b b' : Bool) (d : DriveState) (h : Hand) (segment : Segment) → h.progress.done ≤ h.request.count → h.progress.failures ≡ 0
    → Costs b b' h.request.count h.progress (Moving segment zero verdict.Clean) Intr h.progress (interrupted_by verdict.Clean d h segment)
clean_interrupt b b' d h segment room fresh = search rules

burst_interrupt : (b b' : Bool) (d : DriveState) (h : Hand) (segment : Segment) (left at pattern k : ℕ) (before : List Deed) → 1 ≤ k → Open h segment k before
    → Costs b b' h.request.count h.progress (Moving segment left (verdict.Burst at pattern)) Intr (progress_interrupted (verdict.Burst at pattern) h.progress)
    (interrupted_by (verdict.Burst at pattern) d (interrupted h (verdict.Burst at pattern)) segment)
burst_interrupt b b' d h segment left at pattern k before some o =
    said_costs b b' h.request.count h.progress (Moving segment left (verdict.Burst at pattern)) (progress_interrupted (verdict.Burst at pattern) h.progress)
    ((Clear ∷ [] ++ (if offset_field d.offset == 0 then [] else Centre ∷ [])) ++ []) (continued (interrupted h (verdict.Burst at pattern)))
    2 (184 * (h.request.count - (h.progress.done + 1))) (296 * (h.request.count - (h.progress.done + 1))) (burst_lines (offset_field d.offset == 0))
    (omega (arith, some_tries segment h.progress.failures o.small)) (omega (arith, some_tries segment h.progress.failures o.small))
    (continued_leaves (interrupted h (verdict.Burst at pattern)) (omega (arith, o.room, some)) refl)

retried_leaves : (recalibrates : Bool) (offset : Option OffsetCode) (count : ℕ) (p : Progress) (cylinder : ℕ) (segment : Segment) (done : ℕ)
    → Leaves count p (retried (if recalibrates then retry.Recalibrate offset else option_map_or retry.Offset offset retry.Again) cylinder segment done)
    (2 * (2 * return_number recalibrates + offset_number offset) + events_from segment count p)
    (2 * (2 * return_number recalibrates + offset_number offset) + cost_from segment count p)
retried_leaves recalibrates offset count p cylinder segment done = search rules

-- the hand with one failure more, and that behind a mark
abbrev once_more : Hand → Hand
once_more h = record h { progress = record h.progress { failures = h.progress.failures + 1 } }

abbrev moved_on : Hand → Hand
moved_on h = record h { progress = record h.progress { failures = 0 } }

failed_leaves : (h : Hand) (segment : Segment) → h.progress.failures < 28
    → Leaves h.request.count (once_more h).progress (failed (once_more h) segment)
    (events_from segment h.request.count h.progress - 2) (cost_from segment h.request.count h.progress - 4)
failed_leaves h segment small = at (h.progress.failures + 1 == 28) refl
  where
    below : (n : ℕ) → n < 28 → (n + 1 ≡ 28 → ⊥) → n + 1 < 28
    below n a b = omega arith

    at : (b : Bool) → h.progress.failures + 1 == 28 ≡ b
        → Leaves h.request.count (once_more h).progress (retried (if b then retry.GiveUp else if recalibrates_after (h.progress.failures + 1) then retry.Recalibrate (offset_after (h.progress.failures + 1) (not (is_write h)))
        else option_map_or retry.Offset (offset_after (h.progress.failures + 1) (not (is_write h))) retry.Again)
        (place_at h.kind (start_of segment (once_more h))).cylinder segment h.progress.done)
        (events_from segment h.request.count h.progress - 2) (cost_from segment h.request.count h.progress - 4)
    at true is = record { events = omega arith; commands = omega arith }
    at false is = at_last
        (retried_leaves (recalibrates_after (h.progress.failures + 1)) (offset_after (h.progress.failures + 1) (not (is_write h))) h.request.count (once_more h).progress
        (place_at h.kind (start_of segment (once_more h))).cylinder segment h.progress.done)
      where
        few : h.progress.failures + 1 < 28
        few = below h.progress.failures small (eqb-false (h.progress.failures + 1) 28 is)

        at_last : Leaves h.request.count (once_more h).progress (retried (if recalibrates_after (h.progress.failures + 1) then retry.Recalibrate (offset_after (h.progress.failures + 1) (not (is_write h)))
            else option_map_or retry.Offset (offset_after (h.progress.failures + 1) (not (is_write h))) retry.Again)
            (place_at h.kind (start_of segment (once_more h))).cylinder segment h.progress.done)
            (2 * (2 * return_number (recalibrates_after (h.progress.failures + 1)) + offset_number (offset_after (h.progress.failures + 1) (not (is_write h)))) + events_from segment h.request.count (once_more h).progress)
            (2 * (2 * return_number (recalibrates_after (h.progress.failures + 1)) + offset_number (offset_after (h.progress.failures + 1) (not (is_write h)))) + cost_from segment h.request.count (once_more h).progress)
            → Leaves h.request.count (once_more h).progress (retried (if recalibrates_after (h.progress.failures + 1) then retry.Recalibrate (offset_after (h.progress.failures + 1) (not (is_write h)))
            else option_map_or retry.Offset (offset_after (h.progress.failures + 1) (not (is_write h))) retry.Again)
            (place_at h.kind (start_of segment (once_more h))).cylinder segment h.progress.done)
            (events_from segment h.request.count h.progress - 2) (cost_from segment h.request.count h.progress - 4)
        at_last l = record {
          events = omega (arith, l.events, steps_counted segment h.progress.failures (not (is_write h)) few, one_try_less segment h.progress.failures small);
          commands = omega (arith, l.commands, steps_counted segment h.progress.failures (not (is_write h)) few, one_try_less segment h.progress.failures small);
        }

failure_interrupt : (b b' : Bool) (d : DriveState) (h : Hand) (segment : Segment) (moving : Stage) → h.progress.failures < 28
    → events_at b h.request.count h.progress moving ≡ events_from segment h.request.count h.progress - 1
    → cost_at h.request.count h.progress moving ≡ cost_from segment h.request.count h.progress - 2
    → Costs b b' h.request.count h.progress moving Intr (once_more h).progress
    (saying ((Clear ∷ [] ++ (if offset_field d.offset == 0 then [] else Centre ∷ [])) ++ (Try (start_of segment (once_more h)) (h.progress.failures + 1) ∷ [])) (failed (once_more h) segment))
failure_interrupt b b' d h segment moving small e c =
    said_costs b b' h.request.count h.progress moving (once_more h).progress
    ((Clear ∷ [] ++ (if offset_field d.offset == 0 then [] else Centre ∷ [])) ++ (Try (start_of segment (once_more h)) (h.progress.failures + 1) ∷ [])) (failed (once_more h) segment)
    2 (events_from segment h.request.count h.progress - 2) (cost_from segment h.request.count h.progress - 4)
    (fault_lines (offset_field d.offset == 0) (start_of segment (once_more h)) (h.progress.failures + 1))
    (omega (arith, e, some_tries segment h.progress.failures small)) (omega (arith, c, some_tries segment h.progress.failures small))
    (failed_leaves h segment small)

-- behind a mark
forwarded_leaves : (h : Hand) (entry : Option ℕ) → h.progress.failures < 28
    → Leaves h.request.count (moved_on h).progress (forwarded (moved_on h) entry)
    (events_from OwnBlocks h.request.count h.progress - 2) (cost_from OwnBlocks h.request.count h.progress - 4)
forwarded_leaves h entry small = search rules

marked_leaves : (h : Hand) (segment : Segment) → h.progress.failures < 28
    → Leaves h.request.count (moved_on h).progress (marked (moved_on h) segment)
    (events_from segment h.request.count h.progress - 2) (cost_from segment h.request.count h.progress - 4)
marked_leaves h OwnBlocks small = forwarded_leaves h (entry_of h (start_of OwnBlocks h)) small
marked_leaves h (Replacement block) small = record { events = omega arith; commands = omega arith }

marked_interrupt : (b b' : Bool) (d : DriveState) (h : Hand) (segment : Segment) (left : ℕ) → h.progress.failures < 28
    → Costs b b' h.request.count h.progress (Moving segment left verdict.Marked) Intr (moved_on h).progress (interrupted_by verdict.Marked d (moved_on h) segment)
marked_interrupt b b' d h segment left small =
    said_costs b b' h.request.count h.progress (Moving segment left verdict.Marked) (moved_on h).progress
    ((Clear ∷ [] ++ (if offset_field d.offset == 0 then [] else Centre ∷ [])) ++ []) (marked (moved_on h) segment)
    2 (events_from segment h.request.count h.progress - 2) (cost_from segment h.request.count h.progress - 4) (burst_lines (offset_field d.offset == 0))
    (omega (arith, some_tries segment h.progress.failures small)) (omega (arith, some_tries segment h.progress.failures small))
    (marked_leaves h segment small)

-- behind a try on a unit that was offline
offline_interrupt : (b b' : Bool) (d : DriveState) (h : Hand) (segment : Segment) (left : ℕ) → h.progress.failures < 28
    → Costs b b' h.request.count h.progress (Moving segment left verdict.Offline) Intr h.progress (interrupted_by verdict.Offline d h segment)
offline_interrupt b b' d h segment left small = search rules

moved_interrupt : (b b' : Bool) (d : DriveState) (h : Hand) (segment : Segment) (left : ℕ) (v : Moved) (lines : List Deed)
    → (left == 0) || not (is_clean v) ≡ true → MoveFits h segment left v lines
    → Costs b b' h.request.count h.progress (Moving segment left v) Intr (progress_interrupted v h.progress) (interrupted_by v d (interrupted h v) segment)
moved_interrupt b b' d h segment zero verdict.Clean lines is f = clean_interrupt b b' d h segment f.room f.fresh
moved_interrupt b b' d h segment (suc n) verdict.Clean lines is f = absurd (omega (arith, zero_or (suc n) is))
moved_interrupt b b' d h segment left (verdict.Burst at q) lines is f = burst_interrupt b b' d h segment left at q f.left f.before f.some f.open_before
moved_interrupt b b' d h segment left verdict.Hard lines is f = failure_interrupt b b' d h segment (Moving segment left verdict.Hard) f.open_before.small refl refl
moved_interrupt b b' d h segment left (verdict.Faulted k) lines is f = failure_interrupt b b' d h segment (Moving segment left (verdict.Faulted k)) f.open_before.small refl refl
moved_interrupt b b' d h segment left verdict.Marked lines is f = marked_interrupt b b' d h segment left f.open_before.small
moved_interrupt b b' d h segment left verdict.Offline lines is f = offline_interrupt b b' d h segment left f.open_before.small

pub intr_costs : (b b' : Bool) (d : DriveState) (h : Hand) (next : Option Request) (stage : Stage) (lines : List Deed) → intr_may stage ≡ true → Fits h stage lines
    → Costs b b' h.request.count h.progress stage Intr (progress_interrupted (last_of stage) h.progress) (stage_after stage Intr d (interrupted h (last_of stage)) next)
intr_costs b b' d h next (Moving segment left last) lines is f = moved_interrupt b b' d h segment left last lines is f
intr_costs b b' d h next other lines is f = absurd (no is)
