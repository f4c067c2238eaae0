-- Each answer is explained by the lines of its request.
use Rattle.std.proofs.Common.{◌≡◌, ◌⊎◌, inl, inr, ℕ, ◌<◌, ◌&&◌, Bool, true, false, not, List, [], ◌∷◌, Option, None, Some, refl, sym, ap, ◌∙◌, subst, arith}
use Rattle.std.specs.Prelude.{if◌then◌else◌}
use Rattle.std.proofs.lemmas.Option.{same_Some, none-some}
use Rattle.std.proofs.lemmas.Bool.{and_from, and_parts}
use Rattle.pack_geometry.specs.TableSpelling.{Table}
use Rattle.hardware_table.specs.declared.Moved.{Moved}
use Rattle.hardware_table.specs.declared.Moved.TheVariants as verdict
use Rattle.hardware_table.specs.Drive.{DriveState}
use Rattle.trace_replay.specs.requests.ServiceOrder.{Service}
use Rattle.trace_replay.specs.requests.Requests.{Request, Answer, ReadOk, WriteOk, Failed, Cause, Offline, Locked, Unforwarded, Fault}
use Rattle.trace_replay.specs.Moments.{Deed, Centre, Clear, Pack, Try, End, Told}
use Rattle.trace_replay.specs.Conversation.{Hand, Segment, OwnBlocks, Stage, Waiting, Steps, UnderWay, AtOnce, Moving, Saying, Ending, Progress, due, guarded, transfer_of, command_of, needs_unlocked, is_write, Positioning, SearchFor, entry_of, start_of}
use Rattle.trace_replay.specs.Events.{Wish, Refusal}
use Rattle.trace_replay.specs.Replay.{Replay, UnitSeen, new_replay, next_wish, hand_of, ToldMay, Follows, after_moments}
use Rattle.trace_replay.specs.History.{is_refusal, lines_behind, done_in, Tried, Untried, TriedAt, last_tried, marks_in, fails}
use Rattle.trace_replay.specs.Causes.{wants_command, IsLockedOut, WasTriedOffline, IsBeyondHelp, Because, IsOk, AreAllTries, IsExplained, AreExplained}
use Rattle.trace_replay.proofs.Histories.{IsListed, Open, EndsFailed, EndsOk, EndFits, EndsBy, Fits, AreSaid, Goes, WasReached}
use Rattle.trace_replay.proofs.Following.{follow_on}
use Rattle.trace_replay.proofs.Kept.{UnitFits, moments_all, starts, refused_is, no}

-- ---- what the end of a request tells
answer_of : Deed → Answer
answer_of (End answer) = answer
answer_of deed = WriteOk

cause_of : Answer → Cause
cause_of (Failed cause done) = cause
cause_of answer = Offline

done_of : Answer → ℕ
done_of (Failed cause done) = done
done_of answer = 0

failed_number : Answer → ℕ
failed_number (Failed cause done) = 1
failed_number answer = 0

not_failed : (answer : Answer) (cause : Cause) (done : ℕ) → failed_number answer ≡ 0 → answer ≡ Failed cause done → ⊥
unfolding failed_number
not_failed answer cause done zero_number is = absurd (omega (arith, zero_number, ap failed_number is))

-- a verdict's sort, to tell verdicts apart
tried_sort : Tried → ℕ
tried_sort (TriedAt block verdict.Offline) = 1
tried_sort (TriedAt block verdict.Marked) = 2
tried_sort (TriedAt block verdict.Hard) = 3
tried_sort (TriedAt block (verdict.Faulted kind)) = 3
tried_sort tried = 0

fails_sort : (block : ℕ) (v : Moved) → fails v ≡ true → tried_sort (TriedAt block v) ≡ 3
unfolding tried_sort
fails_sort block verdict.Hard is = refl
fails_sort block (verdict.Faulted k) is = refl
fails_sort block other is = absurd (no is)

reached_sort : (t : Tried) → WasReached t → (tried_sort t ≡ 1 → ⊥) × (tried_sort t ≡ 2 → ⊥)
unfolding tried_sort
reached_sort Untried r = ((λ e. omega (arith, e)), (λ e. omega (arith, e)))
reached_sort (TriedAt b verdict.Clean) r = ((λ e. omega (arith, e)), (λ e. omega (arith, e)))
reached_sort (TriedAt b (verdict.Burst at q)) r = ((λ e. omega (arith, e)), (λ e. omega (arith, e)))
reached_sort (TriedAt b verdict.Hard) r = ((λ e. omega (arith, e)), (λ e. omega (arith, e)))
reached_sort (TriedAt b (verdict.Faulted k)) r = ((λ e. omega (arith, e)), (λ e. omega (arith, e)))
reached_sort (TriedAt b verdict.Marked) r = absurd r
reached_sort (TriedAt b verdict.Offline) r = absurd r

-- the sorts of the sectors that causes name
sort_offline : (lines : List Deed) → WasTriedOffline lines → tried_sort (last_tried lines) ≡ 1
unfolding tried_sort
sort_offline lines was = ap tried_sort was.last

sort_marked : (h : Hand) (lines : List Deed) → IsBeyondHelp h lines → tried_sort (last_tried lines) ≡ 2
unfolding tried_sort
sort_marked h lines was = ap tried_sort was.last

-- the unit of an end that was decided before it
abbrev AtEnding : DriveState → Service Request → Answer → Progress → Option Table → UnitSeen
AtEnding d service answer p table = record { drive = d; service = service; stage = Ending answer; progress = p; table = table }

ok_explained : (d : DriveState) (service : Service Request) (answer : Answer) (p : Progress) (table : Option Table) (lines : List Deed)
    → failed_number answer ≡ 0 → IsOk answer → EndsOk (hand_of (AtEnding d service answer p table)) lines → IsExplained (AtEnding d service answer p table) lines answer
ok_explained d service answer p table lines other ok e = record {
  cause = λ cause done is. absurd (not_failed answer cause done other is);
  counted = λ cause done is. absurd (not_failed answer cause done other is);
  exactly = λ cause because. absurd (never cause because);
  tries = λ done is. absurd (not_failed answer Fault done other is);
  ok = λ is. e.whole.counted ∙ e.all;
  all = λ is. ok;
}
  where
    never : (cause : Cause) → Because (AtEnding d service answer p table) lines cause → ⊥
    never Offline (inl cut) = no cut.due
    never Offline (inr was) = (reached_sort (last_tried lines) e.whole.reached).0 (sort_offline lines was)
    never Locked out = no out.due
    never Unforwarded was = (reached_sort (last_tried lines) e.whole.reached).1 (sort_marked (hand_of (AtEnding d service answer p table)) lines was)
    never Fault last = omega (arith, last, e.whole.few)

-- one cause alone
one_cause : (d : DriveState) (service : Service Request) (answer : Answer) (p : Progress) (table : Option Table) (lines : List Deed) (cause other : Cause)
    → EndsBy (hand_of (AtEnding d service answer p table)) cause lines → Because (AtEnding d service answer p table) lines other → cause ≡ other
unfolding tried_sort
one_cause d service answer p table lines Offline Offline by because = refl
one_cause d service answer p table lines Offline Locked by because = absurd (no because.due)
one_cause d service answer p table lines Offline Unforwarded by because =
    absurd (omega (arith, ap tried_sort by.1, sort_marked (hand_of (AtEnding d service answer p table)) lines because))
one_cause d service answer p table lines Offline Fault by because = absurd (omega (arith, by.2, because))
one_cause d service answer p table lines Locked other by because = absurd by
one_cause d service answer p table lines Unforwarded Offline by (inl cut) = absurd (no cut.due)
one_cause d service answer p table lines Unforwarded Offline by (inr was) = absurd (omega (arith, ap tried_sort by.1, sort_offline lines was))
one_cause d service answer p table lines Unforwarded Locked by because = absurd (no because.due)
one_cause d service answer p table lines Unforwarded Unforwarded by because = refl
one_cause d service answer p table lines Unforwarded Fault by because = absurd (omega (arith, by.3, because))
one_cause d service answer p table lines Fault Offline by (inl cut) = absurd (no cut.due)
one_cause d service answer p table lines Fault Offline by (inr was) =
    absurd (omega (arith, ap tried_sort by.2, fails_sort by.0 by.1 by.3, sort_offline lines was))
one_cause d service answer p table lines Fault Locked by because = absurd (no because.due)
one_cause d service answer p table lines Fault Unforwarded by because =
    absurd (omega (arith, ap tried_sort by.2, fails_sort by.0 by.1 by.3, sort_marked (hand_of (AtEnding d service answer p table)) lines because))
one_cause d service answer p table lines Fault Fault by because = refl

helpless_so : (h : Hand) (block : ℕ) (lines : List Deed)
    → ((marks_in lines ≡ 2) × IsListed h block lines) ⊎ ((entry_of h (start_of OwnBlocks h) ≡ None) × (block ≡ start_of OwnBlocks h))
    → (marks_in lines ≡ 2) ⊎ (entry_of h (start_of OwnBlocks h) ≡ None)
helpless_so h block lines (inl two) = inl two.0
helpless_so h block lines (inr none) = inr none.0

because_of : (d : DriveState) (service : Service Request) (answer : Answer) (p : Progress) (table : Option Table) (lines : List Deed) (cause : Cause)
    → EndsBy (hand_of (AtEnding d service answer p table)) cause lines → Because (AtEnding d service answer p table) lines cause
because_of d service answer p table lines Offline by = inr (record { block = by.0; last = by.1 })
because_of d service answer p table lines Locked by = absurd by
because_of d service answer p table lines Unforwarded by = record { block = by.0; last = by.1; helpless = helpless_so (hand_of (AtEnding d service answer p table)) by.0 lines by.2 }
because_of d service answer p table lines Fault by = by.4

failed_explained : (d : DriveState) (service : Service Request) (cause : Cause) (done : ℕ) (p : Progress) (table : Option Table) (lines : List Deed)
    → EndsFailed (hand_of (AtEnding d service (Failed cause done) p table)) cause done lines
    → IsExplained (AtEnding d service (Failed cause done) p table) lines (Failed cause done)
unfolding cause_of done_of
failed_explained d service cause done p table lines e = record {
  cause = λ other n is. subst (λ z. Because (AtEnding d service (Failed cause done) p table) lines z) (ap cause_of is) (because_of d service (Failed cause done) p table lines cause e.by);
  counted = λ other n is. (sym (ap done_of is) ∙ e.is_done ∙ sym e.counted, subst (λ z. z < (hand_of (AtEnding d service (Failed cause done) p table)).request.count) (sym e.is_done ∙ ap done_of is) e.room);
  exactly = λ other because. ap (λ z. Failed z done) (one_cause d service (Failed cause done) p table lines cause other e.by because) ∙ ap (λ z. Failed other z) (e.is_done ∙ sym e.counted);
  tries = λ n is. all_tries (subst (λ z. EndsBy (hand_of (AtEnding d service (Failed cause done) p table)) z lines) (ap cause_of is) e.by);
  ok = λ is. absurd is;
  all = λ is. absurd (omega (arith, is, e.counted, e.room));
}
  where
    all_tries : EndsBy (hand_of (AtEnding d service (Failed cause done) p table)) Fault lines → AreAllTries lines
    all_tries by = record { block = by.0; tries = by.5 }

ended_explained : (d : DriveState) (service : Service Request) (answer : Answer) (p : Progress) (table : Option Table) (lines : List Deed)
    → EndFits (hand_of (AtEnding d service answer p table)) answer lines → IsExplained (AtEnding d service answer p table) lines answer
unfolding failed_number
ended_explained d service (ReadOk bytes) p table lines e = ok_explained d service (ReadOk bytes) p table lines refl tt e
ended_explained d service WriteOk p table lines e = ok_explained d service WriteOk p table lines refl tt e
ended_explained d service (Failed cause done) p table lines e = failed_explained d service cause done p table lines e
ended_explained d service other p table lines e = absurd e

-- an end in place of a command
is_end : Deed → Bool
is_end (End answer) = true
is_end deed = false

abbrev EndsInPlace : Bool → Bool → ℕ → Answer → Type 0
EndsInPlace online locking done answer =
    ((online ≡ false) × (answer ≡ Failed Offline done)) ⊎ ((online ≡ true) × (locking ≡ true) × (answer ≡ Failed Locked done))

ends_in_place : (online locking valid : Bool) (done : ℕ) (command : Deed) (answer : Answer) → is_end command ≡ false
    → (if not online then End (Failed Offline done) else if locking then End (Failed Locked done) else if not valid then Pack else command) ≡ End answer
    → EndsInPlace online locking done answer
unfolding is_end answer_of
ends_in_place false locking valid done command answer other is = inl (refl, sym (ap answer_of is))
ends_in_place true true valid done command answer other is = inr (refl, refl, sym (ap answer_of is))
ends_in_place true false false done command answer other is = absurd (no (ap is_end is))
ends_in_place true false true done command answer other is = absurd (no (sym other ∙ ap is_end is))

goes_not_offline : (h : Hand) (t : Tried) (marks : ℕ) → Goes h t marks → tried_sort t ≡ 1 → ⊥
unfolding tried_sort
goes_not_offline h Untried marks g e = omega (arith, e)
goes_not_offline h (TriedAt b verdict.Clean) marks g e = omega (arith, e)
goes_not_offline h (TriedAt b (verdict.Burst at q)) marks g e = omega (arith, e)
goes_not_offline h (TriedAt b verdict.Hard) marks g e = omega (arith, e)
goes_not_offline h (TriedAt b (verdict.Faulted k)) marks g e = omega (arith, e)
goes_not_offline h (TriedAt b verdict.Marked) marks g e = omega (arith, e)
goes_not_offline h (TriedAt b verdict.Offline) marks g e = g

goes_not_helpless : (h : Hand) (block : ℕ) (lines : List Deed) → Goes h (last_tried lines) (marks_in lines) → last_tried lines ≡ TriedAt block verdict.Marked
    → (marks_in lines ≡ 2) ⊎ (entry_of h (start_of OwnBlocks h) ≡ None) → ⊥
goes_not_helpless h block lines g is (inl two) = at (subst (λ z. Goes h z (marks_in lines)) is g)
  where
    at : (marks_in lines ≡ 1) × (entry_of h (start_of OwnBlocks h) ≡ None → ⊥) → ⊥
    at both_hold = omega (arith, two, both_hold.0)
goes_not_helpless h block lines g is (inr none) = at (subst (λ z. Goes h z (marks_in lines)) is g)
  where
    at : (marks_in lines ≡ 1) × (entry_of h (start_of OwnBlocks h) ≡ None → ⊥) → ⊥
    at both_hold = both_hold.1 none

cause_number : Cause → ℕ
cause_number Fault = 1
cause_number cause = 0

open_explained : (u : UnitSeen) (segment : Segment) (lines : List Deed) (answer : Answer) (locking : Bool) → Open (hand_of u) segment 1 lines → wants_command u.stage ≡ true
    → (u.drive.online ≡ true → locking ≡ true → IsLockedOut u) → (IsLockedOut u → locking ≡ true)
    → EndsInPlace u.drive.online locking u.progress.done answer → IsExplained u lines answer
unfolding cause_of done_of failed_number cause_number
open_explained u segment lines answer locking o wants out back (inl off) = record {
  cause = λ other n is. subst (λ z. Because u lines z) (ap cause_of (sym off.1 ∙ is)) (inl (record { due = wants; offline = off.0 }));
  counted = λ other n is. (sym (ap done_of (sym off.1 ∙ is)) ∙ sym o.counted, subst (λ z. z < (hand_of u).request.count) (ap done_of (sym off.1 ∙ is)) (omega (arith, o.room)));
  exactly = λ other because. off.1 ∙ exact other because;
  tries = λ n is. absurd (apart (ap cause_of (sym off.1 ∙ is)));
  ok = λ is. absurd (subst IsOk off.1 is);
  all = λ is. absurd (omega (arith, is, o.counted, o.room));
}
  where
    apart : Offline ≡ Fault → ⊥
    apart e = omega (arith, ap cause_number e)

    exact : (other : Cause) → Because u lines other → Failed Offline u.progress.done ≡ Failed other (done_in lines)
    exact Offline because = ap (λ z. Failed Offline z) (sym o.counted)
    exact Locked because = absurd (no (sym off.0 ∙ because.online))
    exact Unforwarded because = absurd (goes_not_helpless (hand_of u) because.block lines o.going because.last because.helpless)
    exact Fault because = absurd (omega (arith, because, o.few))
open_explained u segment lines answer locking o wants out back (inr lock) = record {
  cause = λ other n is. subst (λ z. Because u lines z) (ap cause_of (sym lock.2 ∙ is)) (out lock.0 lock.1);
  counted = λ other n is. (sym (ap done_of (sym lock.2 ∙ is)) ∙ sym o.counted, subst (λ z. z < (hand_of u).request.count) (ap done_of (sym lock.2 ∙ is)) (omega (arith, o.room)));
  exactly = λ other because. lock.2 ∙ exact other because;
  tries = λ n is. absurd (apart (ap cause_of (sym lock.2 ∙ is)));
  ok = λ is. absurd (subst IsOk lock.2 is);
  all = λ is. absurd (omega (arith, is, o.counted, o.room));
}
  where
    apart : Locked ≡ Fault → ⊥
    apart e = omega (arith, ap cause_number e)

    exact : (other : Cause) → Because u lines other → Failed Locked u.progress.done ≡ Failed other (done_in lines)
    exact Offline (inl cut) = absurd (no (sym cut.offline ∙ lock.0))
    exact Offline (inr was) = absurd (goes_not_offline (hand_of u) (last_tried lines) (marks_in lines) o.going (sort_offline lines was))
    exact Locked because = ap (λ z. Failed Locked z) (sym o.counted)
    exact Unforwarded because = absurd (goes_not_helpless (hand_of u) because.block lines o.going because.last because.helpless)
    exact Fault because = absurd (omega (arith, because, o.few))

-- which of the two it is, for each stage that wants a command
step_unlocked : (step : Positioning) (locked : Bool) → needs_unlocked (command_of step) && locked ≡ true → ⊥
step_unlocked (SearchFor c y) locked is = no is
step_unlocked other locked is = no is

step_is_none : (step : Positioning) → is_end (command_of step) ≡ false
unfolding is_end
step_is_none (SearchFor c y) = refl
step_is_none other = refl

line_is_none : (line : Deed) (rest : List Deed) → AreSaid (line ∷ rest) → is_end line ≡ false
unfolding is_end
line_is_none Clear rest a = refl
line_is_none Centre rest a = refl
line_is_none (Try b t) rest a = refl
line_is_none line rest a = absurd a

Over : DriveState → Service Request → Stage → Progress → Option Table → UnitSeen
Over d service stage p table = record { drive = d; service = service; stage = stage; progress = p; table = table }

explained_at : (d : DriveState) (service : Service Request) (stage : Stage) (p : Progress) (table : Option Table) (lines : List Deed) (answer : Answer)
    → Fits (hand_of (Over d service stage p table)) stage lines → due d (hand_of (Over d service stage p table)) stage ≡ Some (End answer)
    → IsExplained (Over d service stage p table) lines answer
unfolding is_end answer_of Over
explained_at d service Waiting p table lines answer f is = absurd (none-some (End answer) is)
explained_at d service (Steps [] segment) p table lines answer f is =
    open_explained (Over d service (Steps [] segment) p table) segment lines answer (is_write (hand_of (Over d service (Steps [] segment) p table)) && d.locked) f refl
    (λ on lock. record { due = refl; writes = (and_parts (is_write (hand_of (Over d service (Steps [] segment) p table))) d.locked lock).0; online = on; locked = (and_parts (is_write (hand_of (Over d service (Steps [] segment) p table))) d.locked lock).1 })
    (λ out. and_from (is_write (hand_of (Over d service (Steps [] segment) p table))) d.locked out.writes out.locked)
    (ends_in_place d.online (is_write (hand_of (Over d service (Steps [] segment) p table)) && d.locked) d.valid p.done (transfer_of segment (hand_of (Over d service (Steps [] segment) p table))) answer refl
    (same_Some (guarded d (hand_of (Over d service (Steps [] segment) p table)) (transfer_of segment (hand_of (Over d service (Steps [] segment) p table)))) (End answer) is))
explained_at d service (Steps (step ∷ left) segment) p table lines answer f is =
    open_explained (Over d service (Steps (step ∷ left) segment) p table) segment lines answer (needs_unlocked (command_of step) && d.locked) f refl
    (λ on lock. absurd (step_unlocked step d.locked lock)) (λ out. absurd (no out.due))
    (ends_in_place d.online (needs_unlocked (command_of step) && d.locked) d.valid p.done (command_of step) answer (step_is_none step)
    (same_Some (guarded d (hand_of (Over d service (Steps (step ∷ left) segment) p table)) (command_of step)) (End answer) is))
explained_at d service (UnderWay left segment) p table lines answer f is = absurd (none-some (End answer) is)
explained_at d service (AtOnce segment) p table lines answer f is =
    open_explained (Over d service (AtOnce segment) p table) segment lines answer (is_write (hand_of (Over d service (AtOnce segment) p table)) && d.locked) f refl
    (λ on lock. record { due = refl; writes = (and_parts (is_write (hand_of (Over d service (AtOnce segment) p table))) d.locked lock).0; online = on; locked = (and_parts (is_write (hand_of (Over d service (AtOnce segment) p table))) d.locked lock).1 })
    (λ out. and_from (is_write (hand_of (Over d service (AtOnce segment) p table))) d.locked out.writes out.locked)
    (ends_in_place d.online (is_write (hand_of (Over d service (AtOnce segment) p table)) && d.locked) d.valid p.done (transfer_of segment (hand_of (Over d service (AtOnce segment) p table))) answer refl
    (same_Some (guarded d (hand_of (Over d service (AtOnce segment) p table)) (transfer_of segment (hand_of (Over d service (AtOnce segment) p table)))) (End answer) is))
explained_at d service (Moving segment left last) p table lines answer f is = absurd (none-some (End answer) is)
explained_at d service (Saying [] next) p table lines answer f is = absurd (none-some (End answer) is)
explained_at d service (Saying (line ∷ rest) next) p table lines answer f is =
    absurd (no (sym (line_is_none line rest f.0) ∙ ap is_end (same_Some line (End answer) is)))
explained_at d service (Ending other) p table lines answer f is =
    subst (λ z. IsExplained (Over d service (Ending other) p table) lines z) (ap answer_of (same_Some (End other) (End answer) is)) (ended_explained d service other p table lines f)

-- a refusal is none of these
told_explained : (wish : Wish) (s : Replay) (line unit id : ℕ) (answer : Answer) (lines : List Deed) → ToldMay wish s line unit id (End answer) → is_refusal answer ≡ false
    → UnitFits (s.units unit) lines → IsExplained (s.units unit) lines answer
unfolding answer_of Over
told_explained (Refusal u i why) s line unit id answer lines may kept f =
    absurd (no (sym kept ∙ ap is_refusal (ap answer_of may.answered) ∙ refused_is why))
told_explained other s line unit id answer lines may kept f =
    explained_at (s.units unit).drive (s.units unit).service (s.units unit).stage (s.units unit).progress (s.units unit).table lines answer f.fits may.talk

cause_sort : Cause → ℕ
cause_sort Offline = 0
cause_sort Locked = 1
cause_sort Unforwarded = 2
cause_sort Fault = 3

-- what ended so was to end so
not_in_place : (online locking : Bool) (n done : ℕ) → EndsInPlace online locking n (Failed Unforwarded done) → ⊥
unfolding cause_of cause_sort
not_in_place online locking n done (inl off) = omega (arith, ap cause_sort (ap cause_of off.1))
not_in_place online locking n done (inr lock) = omega (arith, ap cause_sort (ap cause_of lock.2))

ending_at : (d : DriveState) (service : Service Request) (stage : Stage) (p : Progress) (table : Option Table) (lines : List Deed) (done : ℕ)
    → Fits (hand_of (Over d service stage p table)) stage lines → due d (hand_of (Over d service stage p table)) stage ≡ Some (End (Failed Unforwarded done))
    → EndsFailed (hand_of (Over d service stage p table)) Unforwarded done lines
unfolding is_end answer_of Over
ending_at d service Waiting p table lines done f is = absurd (none-some (End (Failed Unforwarded done)) is)
ending_at d service (Steps [] segment) p table lines done f is =
    absurd (not_in_place d.online (is_write (hand_of (Over d service (Steps [] segment) p table)) && d.locked) p.done done
    (ends_in_place d.online (is_write (hand_of (Over d service (Steps [] segment) p table)) && d.locked) d.valid p.done (transfer_of segment (hand_of (Over d service (Steps [] segment) p table))) (Failed Unforwarded done) refl
    (same_Some (guarded d (hand_of (Over d service (Steps [] segment) p table)) (transfer_of segment (hand_of (Over d service (Steps [] segment) p table)))) (End (Failed Unforwarded done)) is)))
ending_at d service (Steps (step ∷ left) segment) p table lines done f is =
    absurd (not_in_place d.online (needs_unlocked (command_of step) && d.locked) p.done done
    (ends_in_place d.online (needs_unlocked (command_of step) && d.locked) d.valid p.done (command_of step) (Failed Unforwarded done) (step_is_none step)
    (same_Some (guarded d (hand_of (Over d service (Steps (step ∷ left) segment) p table)) (command_of step)) (End (Failed Unforwarded done)) is)))
ending_at d service (UnderWay left segment) p table lines done f is = absurd (none-some (End (Failed Unforwarded done)) is)
ending_at d service (AtOnce segment) p table lines done f is =
    absurd (not_in_place d.online (is_write (hand_of (Over d service (AtOnce segment) p table)) && d.locked) p.done done
    (ends_in_place d.online (is_write (hand_of (Over d service (AtOnce segment) p table)) && d.locked) d.valid p.done (transfer_of segment (hand_of (Over d service (AtOnce segment) p table))) (Failed Unforwarded done) refl
    (same_Some (guarded d (hand_of (Over d service (AtOnce segment) p table)) (transfer_of segment (hand_of (Over d service (AtOnce segment) p table)))) (End (Failed Unforwarded done)) is)))
ending_at d service (Moving segment left last) p table lines done f is = absurd (none-some (End (Failed Unforwarded done)) is)
ending_at d service (Saying [] next) p table lines done f is = absurd (none-some (End (Failed Unforwarded done)) is)
ending_at d service (Saying (line ∷ rest) next) p table lines done f is =
    absurd (no (sym (line_is_none line rest f.0) ∙ ap is_end (same_Some line (End (Failed Unforwarded done)) is)))
ending_at d service (Ending other) p table lines done f is =
    subst (λ z. EndFits (hand_of (Over d service (Ending other) p table)) z lines) (ap answer_of (same_Some (End other) (End (Failed Unforwarded done)) is)) f

-- the answer of an end that is due, as where it stands has it
pub told_ends : (wish : Wish) (s : Replay) (line unit id done : ℕ) (lines : List Deed) → ToldMay wish s line unit id (End (Failed Unforwarded done)) → UnitFits (s.units unit) lines
    → EndsFailed (hand_of (s.units unit)) Unforwarded done lines
unfolding answer_of Over
told_ends (Refusal u i why) s line unit id done lines may f = absurd (no (ap is_refusal (ap answer_of may.answered) ∙ refused_is why))
told_ends other s line unit id done lines may f =
    ending_at (s.units unit).drive (s.units unit).service (s.units unit).stage (s.units unit).progress (s.units unit).table lines done f.fits may.talk

pub are_explained : AreExplained
are_explained drives tables surface ms line unit id answer some follows kept =
    told_explained (next_wish (after_moments (new_replay drives tables surface) ms)) (after_moments (new_replay drives tables surface) ms) line unit id answer (lines_behind unit [] ms)
    parts.1.0 kept (moments_all (new_replay drives tables surface) ms (λ x. []) some parts.0 (starts drives tables surface) unit)
  where
    parts : Follows (new_replay drives tables surface) ms × Follows (after_moments (new_replay drives tables surface) ms) (Told line unit id (End answer) ∷ [])
    parts = (follow_on (new_replay drives tables surface) ms (Told line unit id (End answer) ∷ [])).0 follows
