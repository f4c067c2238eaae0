-- The outcome that is drawn of a request's lines is the word of its answer.
use Rattle.std.proofs.Common.{◌≡◌, ◌⊎◌, inl, inr, ℕ, ◌≤◌, ◌==◌, ◌&&◌, ◌||◌, Bool, true, false, not, cond, List, ◌∷◌, Some, refl, sym, ap, ◌∙◌, subst, arith}
use Rattle.std.specs.Prelude.{if◌then◌else◌, nat_lt, is_some}
use Rattle.std.proofs.lemmas.Option.{same_Some, none-some}
use Rattle.std.proofs.lemmas.Bool.Decides.{nat_tests}
use Rattle.trace_lines.specs.answers.AnswerText.{cause_word}
use Rattle.drive_pictures.specs.declared.drives.Drive.{Drive}
use Rattle.drive_pictures.specs.declared.requests.Outcome.TheVariants as outcome
use Rattle.drive_pictures.specs.declared.requests.Request.{Request}
use Rattle.drive_pictures.specs.Requests.{stopped_by, answer}
use Rattle.hardware_table.specs.declared.Moved.TheVariants as verdict
use Rattle.hardware_table.specs.Drive.{DriveState}
use Rattle.trace_replay.specs.requests.Requests.{Answer, ReadOk, WriteOk, OutsidePartition, EndOfPartition, NoFrames, Failed, Cause, Offline, Locked, Unforwarded, Fault}
use Rattle.trace_replay.specs.Moments.{Deed, Centre, Clear, Try, End}
use Rattle.trace_replay.specs.Conversation.{Hand, Segment, Stage, Steps, AtOnce, Saying, Ending, due}
use Rattle.trace_replay.specs.Replay.{UnitSeen, hand_of}
use Rattle.trace_replay.specs.History.{is_refusal, done_in, Tried, Untried, TriedAt, last_tried, last_try, marks_in}
use Rattle.trace_replay.specs.Causes.{IsCutOff, WasTriedOffline, IsOk, IsExplained}
use Rattle.trace_replay.proofs.Histories.{Open, Goes, WasReached, EndFits, Fits, AreSaid}
use Rattle.trace_replay.proofs.Kept.{no}
use Rattle.run_view.specs.Answers.{answer_word, IsStop, IsWordOf}
use Rattle.run_view.proofs.answers.Wanting.{want_in, wrote_in, Began, Waits, Wants}
use Rattle.run_view.proofs.answers.Hearing.{verdict_in, fails_in, fails_last, failed_last, failed_fails, IsFailure}

-- verdicts told apart
abbrev pub sort_of : Tried → ℕ
sort_of (TriedAt block verdict.Offline) = 1
sort_of (TriedAt block verdict.Marked) = 2
sort_of tried = 0

-- WHERE A REQUEST STANDS as its end comes
pub record Stands (h : Hand) (lines : List Deed) (a : Answer) : Type 0 where
  pub waits : ((want_in lines ≡ 0) × (done_in lines ≡ 0) × (last_tried lines ≡ Untried)) ⊎ Began h.request lines
  pub marked : sort_of (last_tried lines) ≡ 2 → (marks_in lines ≡ 1) ⊎ ((done : ℕ) × (a ≡ Failed Unforwarded done))

goes_once : (h : Hand) (t : Tried) (marks : ℕ) → Goes h t marks → sort_of t ≡ 2 → marks ≡ 1
goes_once h Untried marks g e = absurd (omega (arith, e))
goes_once h (TriedAt b verdict.Clean) marks g e = absurd (omega (arith, e))
goes_once h (TriedAt b (verdict.Burst at q)) marks g e = absurd (omega (arith, e))
goes_once h (TriedAt b verdict.Hard) marks g e = absurd (omega (arith, e))
goes_once h (TriedAt b (verdict.Faulted k)) marks g e = absurd (omega (arith, e))
goes_once h (TriedAt b verdict.Marked) marks g e = g.0
goes_once h (TriedAt b verdict.Offline) marks g e = absurd (omega (arith, e))

reached_never : (t : Tried) → WasReached t → sort_of t ≡ 2 → ⊥
reached_never Untried r e = omega (arith, e)
reached_never (TriedAt b verdict.Clean) r e = omega (arith, e)
reached_never (TriedAt b (verdict.Burst at q)) r e = omega (arith, e)
reached_never (TriedAt b verdict.Hard) r e = omega (arith, e)
reached_never (TriedAt b (verdict.Faulted k)) r e = omega (arith, e)
reached_never (TriedAt b verdict.Marked) r e = r
reached_never (TriedAt b verdict.Offline) r e = r

failure_never : (t : Tried) → IsFailure t → (sort_of t ≡ 1 → ⊥) × (sort_of t ≡ 2 → ⊥)
failure_never Untried f = absurd f
failure_never (TriedAt b verdict.Clean) f = absurd (no f)
failure_never (TriedAt b (verdict.Burst at q)) f = absurd (no f)
failure_never (TriedAt b verdict.Hard) f = ((λ e. omega (arith, e)), (λ e. omega (arith, e)))
failure_never (TriedAt b (verdict.Faulted k)) f = ((λ e. omega (arith, e)), (λ e. omega (arith, e)))
failure_never (TriedAt b verdict.Marked) f = absurd (no f)
failure_never (TriedAt b verdict.Offline) f = absurd (no f)

open_stands : (h : Hand) (segment : Segment) (lines : List Deed) (a : Answer) → Open h segment 1 lines → Waits h.request h.progress.done segment lines → Stands h lines a
open_stands h segment lines a o (inl n) = record { waits = inl (n.none, o.counted ∙ n.zero_done, n.untried); marked = λ e. inl (goes_once h (last_tried lines) (marks_in lines) o.going e) }
open_stands h segment lines a o (inr b) = record { waits = inr b; marked = λ e. inl (goes_once h (last_tried lines) (marks_in lines) o.going e) }

end_marked : (h : Hand) (lines : List Deed) (a : Answer) → EndFits h a lines → sort_of (last_tried lines) ≡ 2 → (marks_in lines ≡ 1) ⊎ ((done : ℕ) × (a ≡ Failed Unforwarded done))
end_marked h lines (ReadOk bytes) f e = absurd (reached_never (last_tried lines) f.whole.reached e)
end_marked h lines WriteOk f e = absurd (reached_never (last_tried lines) f.whole.reached e)
end_marked h lines OutsidePartition f e = absurd f
end_marked h lines EndOfPartition f e = absurd f
end_marked h lines NoFrames f e = absurd f
end_marked h lines (Failed Offline done) f e = absurd (omega (arith, ap sort_of f.by.1, e))
end_marked h lines (Failed Locked done) f e = absurd f.by
end_marked h lines (Failed Unforwarded done) f e = inr (done, refl)
end_marked h lines (Failed Fault done) f e = absurd ((failure_never (last_tried lines) (subst IsFailure (sym f.by.2) f.by.3)).1 e)

end_answer : Deed → Answer
end_answer (End a) = a
end_answer deed = WriteOk

is_end : Deed → Bool
is_end (End a) = true
is_end deed = false

said_no_end : (line : Deed) (rest : List Deed) → AreSaid (line ∷ rest) → is_end line ≡ false
unfolding is_end
said_no_end Clear rest a = refl
said_no_end Centre rest a = refl
said_no_end (Try b t) rest a = refl
said_no_end line rest a = absurd a

pub stands_at : (d : DriveState) (h : Hand) (stage : Stage) (lines : List Deed) (a : Answer) → Fits h stage lines → Wants h.request h.progress.done stage lines
    → due d h stage ≡ Some (End a) → Stands h lines a
unfolding end_answer is_end
stands_at d h (Steps left segment) lines a f w is = open_stands h segment lines a f w
stands_at d h (AtOnce segment) lines a f w is = open_stands h segment lines a f w
stands_at d h (Saying (line ∷ rest) next) lines a f w is = absurd (no (sym (said_no_end line rest f.0) ∙ ap is_end (same_Some line (End a) is)))
stands_at d h (Ending other) lines a f w is =
    record { waits = inr w; marked = subst (λ z. sort_of (last_tried lines) ≡ 2 → (marks_in lines ≡ 1) ⊎ ((done : ℕ) × (z ≡ Failed Unforwarded done))) (ap end_answer (same_Some (End other) (End a) is)) (end_marked h lines other f) }
stands_at d h stage lines a f w is = absurd (none-some (End a) is)

-- WHAT IS KNOWN of a request and its drive as the end comes
pub record Ends (u : UnitSeen) (lines : List Deed) (a : Answer) (d : Drive) (r : Request) : Type 0 where
  pub explained : IsExplained u lines a
  pub stands : Stands (hand_of u) lines a
  pub kept : is_refusal a ≡ false
  pub some : 1 ≤ (hand_of u).request.count
  pub want : d.trial.want ≡ want_in lines
  pub fails : d.trial.fails ≡ fails_in lines
  pub marks : d.trial.marks ≡ marks_in lines
  pub done : r.done ≡ done_in lines
  pub verdict : r.verdict ≡ verdict_in (last_tried lines)
  pub write : (w : Bool) → wrote_in lines ≡ Some w → r.write ≡ w
  pub offline : d.offline ≡ not u.drive.online
  pub locked : d.locked ≡ u.drive.locked

-- an ok answer; and an error of one cause
ok_word : (a : Answer) → IsOk a → IsWordOf outcome.Ok a
ok_word (ReadOk bytes) ok = refl
ok_word WriteOk ok = refl
ok_word a ok = absurd ok

only_cause : (a : Answer) (c : Cause) → is_refusal a ≡ false → (IsOk a → ⊥) → ((cause : Cause) (done : ℕ) → a ≡ Failed cause done → cause ≡ c) → answer_word a ≡ cause_word c
only_cause (ReadOk bytes) c kept never is = absurd (never tt)
only_cause WriteOk c kept never is = absurd (never tt)
only_cause (Failed cause done) c kept never is = ap cause_word (is cause done refl)
only_cause other c kept never is = absurd (no (sym kept))

stop_is : (a : Answer) → is_refusal a ≡ false → (IsOk a → ⊥) → ((done : ℕ) → a ≡ Failed Fault done → ⊥) → IsStop a
stop_is (ReadOk bytes) kept never unfailed = never tt
stop_is WriteOk kept never unfailed = never tt
stop_is (Failed Unforwarded done) kept never unfailed = tt
stop_is (Failed Offline done) kept never unfailed = tt
stop_is (Failed Locked done) kept never unfailed = tt
stop_is (Failed Fault done) kept never unfailed = unfailed done refl
stop_is other kept never unfailed = absurd (no (sym kept))

-- ALL BLOCKS ARE DONE
whole_done : (w d c : ℕ) → nat_lt 0 w && (d == w) ≡ true → (w ≡ 0) ⊎ (w ≡ c) → d ≡ c
whole_done w d c e (inl none) = absurd (never w d e none)
  where
    never : (w d : ℕ) → nat_lt 0 w && (d == w) ≡ true → w ≡ 0 → ⊥
    never w d e none = grind (arith, nat_tests)
whole_done w d c e (inr all) = grind (arith, nat_tests)

not_whole : (w d c : ℕ) → nat_lt 0 w && (d == w) ≡ false → w ≡ c → d ≡ c → 1 ≤ c → ⊥
not_whole w d c e all is some = grind (arith, nat_tests)

wants_all : (h : Hand) (lines : List Deed) → ((want_in lines ≡ 0) × (done_in lines ≡ 0) × (last_tried lines ≡ Untried)) ⊎ Began h.request lines → (want_in lines ≡ 0) ⊎ (want_in lines ≡ h.request.count)
wants_all h lines (inl n) = inl n.0
wants_all h lines (inr b) = inr b.whole

whole_ok : (u : UnitSeen) (lines : List Deed) (a : Answer) (d : Drive) (r : Request) → Ends u lines a d r → nat_lt 0 d.trial.want && (r.done == d.trial.want) ≡ true → IsOk a
whole_ok u lines a d r k e =
    k.explained.all (sym k.done ∙ whole_done d.trial.want r.done (hand_of u).request.count e (subst (λ w. (w ≡ 0) ⊎ (w ≡ (hand_of u).request.count)) (sym k.want) (wants_all (hand_of u) lines k.stands.waits)))

not_ok : (u : UnitSeen) (lines : List Deed) (a : Answer) (d : Drive) (r : Request) → Ends u lines a d r → nat_lt 0 d.trial.want && (r.done == d.trial.want) ≡ false → IsOk a → ⊥
not_ok u lines a d r k e ok = at k.stands.waits
  where
    at : ((want_in lines ≡ 0) × (done_in lines ≡ 0) × (last_tried lines ≡ Untried)) ⊎ Began (hand_of u).request lines → ⊥
    at (inl n) = omega (arith, n.1, k.explained.ok ok, k.some)
    at (inr b) = not_whole d.trial.want r.done (hand_of u).request.count e (k.want ∙ b.whole) (k.done ∙ k.explained.ok ok) k.some

-- WHAT A CAUSE OWES
sort_offline : (lines : List Deed) → WasTriedOffline lines → sort_of (last_tried lines) ≡ 1
sort_offline lines was = ap sort_of was.last

not_online : (offline online : Bool) → offline ≡ not online → online ≡ false → offline ≡ true
not_online offline online e off = e ∙ ap not off

online_so : (offline online : Bool) → offline ≡ not online → offline ≡ false → online ≡ true
online_so offline true e off = refl
online_so offline false e off = absurd (no (sym off ∙ e))

offline_so : (offline online : Bool) → offline ≡ not online → offline ≡ true → online ≡ false
offline_so offline false e on = refl
offline_so offline true e on = absurd (no (sym e ∙ on))

fault_fails : (u : UnitSeen) (lines : List Deed) (a : Answer) (d : Drive) (r : Request) → Ends u lines a d r → (done : ℕ) → a ≡ Failed Fault done → (IsFailure (last_tried lines)) × (d.trial.fails ≡ 28)
fault_fails u lines a d r k done is =
    let t = k.explained.tries done is in (failed_last 27 t.block lines t.tries, k.fails ∙ failed_fails 27 t.block lines t.tries)

-- THE LAST SECTOR WAS MARKED
unguarded : (m : ℕ) (off writes locked : Bool) → m ≡ 1 → nat_lt m 2 && (off || (writes && locked)) ≡ false → (off ≡ false) × (writes ≡ true → locked ≡ true → ⊥)
unguarded m off writes locked one e = at off writes locked (subst (λ n. nat_lt n 2 && (off || (writes && locked)) ≡ false) one e)
  where
    at : (off writes locked : Bool) → off || (writes && locked) ≡ false → (off ≡ false) × (writes ≡ true → locked ≡ true → ⊥)
    at true writes locked e = absurd (no (sym e))
    at false true true e = absurd (no (sym e))
    at false true false e = (refl, λ w l. no l)
    at false false locked e = (refl, λ w l. no w)

marked_cause : (u : UnitSeen) (lines : List Deed) (a : Answer) (d : Drive) (r : Request) → Ends u lines a d r → sort_of (last_tried lines) ≡ 2
    → (d.offline ≡ false) × (r.write ≡ true → d.locked ≡ true → ⊥) → (cause : Cause) (done : ℕ) → a ≡ Failed cause done → cause ≡ Unforwarded
marked_cause u lines a d r k two free Offline done is = absurd (at (k.explained.cause Offline done is))
  where
    at : IsCutOff u ⊎ WasTriedOffline lines → ⊥
    at (inl cut) = no (sym free.0 ∙ not_online d.offline u.drive.online k.offline cut.offline)
    at (inr was) = omega (arith, sort_offline lines was, two)
marked_cause u lines a d r k two free Locked done is = absurd (at k.stands.waits)
  where
    at : ((want_in lines ≡ 0) × (done_in lines ≡ 0) × (last_tried lines ≡ Untried)) ⊎ Began (hand_of u).request lines → ⊥
    at (inl n) = omega (arith, ap sort_of n.2, two)
    at (inr b) = free.1 (k.write (is_some (hand_of u).request.written) b.write ∙ (k.explained.cause Locked done is).writes) (k.locked ∙ (k.explained.cause Locked done is).locked)
marked_cause u lines a d r k two free Unforwarded done is = refl
marked_cause u lines a d r k two free Fault done is = absurd ((failure_never (last_tried lines) (fault_fails u lines a d r k done is).0).1 two)

marked_word : (u : UnitSeen) (lines : List Deed) (a : Answer) (d : Drive) (r : Request) → Ends u lines a d r → (IsOk a → ⊥) → sort_of (last_tried lines) ≡ 2
    → (b : Bool) → nat_lt d.trial.marks 2 && (d.offline || (r.write && d.locked)) ≡ b → IsWordOf (cond b outcome.Stopped outcome.Unforwarded) a
marked_word u lines a d r k never two true e = stop_is a k.kept never (λ done is. (failure_never (last_tried lines) (fault_fails u lines a d r k done is).0).1 two)
marked_word u lines a d r k never two false e = at (k.stands.marked two)
  where
    at : (marks_in lines ≡ 1) ⊎ ((done : ℕ) × (a ≡ Failed Unforwarded done)) → cause_word Unforwarded ≡ answer_word a
    at (inl one) = sym (only_cause a Unforwarded k.kept never (marked_cause u lines a d r k two (unguarded d.trial.marks d.offline r.write d.locked (k.marks ∙ one) e)))
    at (inr (done, is)) = ap answer_word (sym is)

offline_cause : (u : UnitSeen) (lines : List Deed) (a : Answer) (d : Drive) (r : Request) → Ends u lines a d r → (sort_of (last_tried lines) ≡ 2 → ⊥) → (d.trial.fails ≡ 28 → ⊥) → d.offline ≡ true
    → (cause : Cause) (done : ℕ) → a ≡ Failed cause done → cause ≡ Offline
offline_cause u lines a d r k unmarked unfailed off Offline done is = refl
offline_cause u lines a d r k unmarked unfailed off Locked done is = absurd (no (sym (offline_so d.offline u.drive.online k.offline off) ∙ (k.explained.cause Locked done is).online))
offline_cause u lines a d r k unmarked unfailed off Unforwarded done is = absurd (unmarked (ap sort_of (k.explained.cause Unforwarded done is).last))
offline_cause u lines a d r k unmarked unfailed off Fault done is = absurd (unfailed (fault_fails u lines a d r k done is).1)

locked_cause : (u : UnitSeen) (lines : List Deed) (a : Answer) (d : Drive) (r : Request) → Ends u lines a d r → (sort_of (last_tried lines) ≡ 1 → ⊥) → (sort_of (last_tried lines) ≡ 2 → ⊥)
    → (d.trial.fails ≡ 28 → ⊥) → d.offline ≡ false → (cause : Cause) (done : ℕ) → a ≡ Failed cause done → cause ≡ Locked
locked_cause u lines a d r k tried unmarked unfailed on Offline done is = absurd (at (k.explained.cause Offline done is))
  where
    at : IsCutOff u ⊎ WasTriedOffline lines → ⊥
    at (inl cut) = no (sym cut.offline ∙ online_so d.offline u.drive.online k.offline on)
    at (inr was) = tried (sort_offline lines was)
locked_cause u lines a d r k tried unmarked unfailed on Locked done is = refl
locked_cause u lines a d r k tried unmarked unfailed on Unforwarded done is = absurd (unmarked (ap sort_of (k.explained.cause Unforwarded done is).last))
locked_cause u lines a d r k tried unmarked unfailed on Fault done is = absurd (unfailed (fault_fails u lines a d r k done is).1)

is_28 : (n : ℕ) → (n == 28) ≡ true → n ≡ 28
is_28 n e = grind (arith, nat_tests)

not_28 : (n : ℕ) → (n == 28) ≡ false → n ≡ 28 → ⊥
not_28 n e is = grind (arith, nat_tests)

plain_word : (u : UnitSeen) (lines : List Deed) (a : Answer) (d : Drive) (r : Request) → Ends u lines a d r → (IsOk a → ⊥) → (sort_of (last_tried lines) ≡ 1 → ⊥) → (sort_of (last_tried lines) ≡ 2 → ⊥)
    → (failed off locked : Bool) → (d.trial.fails == 28) ≡ failed → d.offline ≡ off → d.locked ≡ locked
    → IsWordOf (if failed then outcome.Fault else if off then outcome.Offline else if locked then outcome.Locked else outcome.Stopped) a
plain_word u lines a d r k never tried unmarked true off locked e o l = at (fails_last lines)
  where
    at : (fails_in lines ≡ 0) ⊎ (fails_in lines ≡ last_try lines) → cause_word Fault ≡ answer_word a
    at (inl none) = absurd (omega (arith, none, k.fails, is_28 d.trial.fails e))
    at (inr last) = ap answer_word (sym (k.explained.exactly Fault (sym last ∙ sym k.fails ∙ is_28 d.trial.fails e)))
plain_word u lines a d r k never tried unmarked false true locked e o l =
    sym (only_cause a Offline k.kept never (offline_cause u lines a d r k unmarked (not_28 d.trial.fails e) o))
plain_word u lines a d r k never tried unmarked false false true e o l =
    sym (only_cause a Locked k.kept never (locked_cause u lines a d r k tried unmarked (not_28 d.trial.fails e) o))
plain_word u lines a d r k never tried unmarked false false false e o l = stop_is a k.kept never (λ done is. not_28 d.trial.fails e (fault_fails u lines a d r k done is).1)

-- BY THE LAST SECTOR
tried_word : (u : UnitSeen) (lines : List Deed) (a : Answer) (d : Drive) (r : Request) → Ends u lines a d r → (IsOk a → ⊥) → (t : Tried) → last_tried lines ≡ t
    → IsWordOf (stopped_by (verdict_in t) d r) a
tried_word u lines a d r k never Untried e =
    plain_word u lines a d r k never (λ s. omega (arith, sym (ap sort_of e), s)) (λ s. omega (arith, sym (ap sort_of e), s)) (d.trial.fails == 28) d.offline d.locked refl refl refl
tried_word u lines a d r k never (TriedAt b verdict.Clean) e =
    plain_word u lines a d r k never (λ s. omega (arith, sym (ap sort_of e), s)) (λ s. omega (arith, sym (ap sort_of e), s)) (d.trial.fails == 28) d.offline d.locked refl refl refl
tried_word u lines a d r k never (TriedAt b (verdict.Burst at q)) e =
    plain_word u lines a d r k never (λ s. omega (arith, sym (ap sort_of e), s)) (λ s. omega (arith, sym (ap sort_of e), s)) (d.trial.fails == 28) d.offline d.locked refl refl refl
tried_word u lines a d r k never (TriedAt b verdict.Hard) e =
    plain_word u lines a d r k never (λ s. omega (arith, sym (ap sort_of e), s)) (λ s. omega (arith, sym (ap sort_of e), s)) (d.trial.fails == 28) d.offline d.locked refl refl refl
tried_word u lines a d r k never (TriedAt b (verdict.Faulted f)) e =
    plain_word u lines a d r k never (λ s. omega (arith, sym (ap sort_of e), s)) (λ s. omega (arith, sym (ap sort_of e), s)) (d.trial.fails == 28) d.offline d.locked refl refl refl
tried_word u lines a d r k never (TriedAt b verdict.Marked) e =
    marked_word u lines a d r k never (ap sort_of e) (nat_lt d.trial.marks 2 && (d.offline || (r.write && d.locked))) refl
tried_word u lines a d r k never (TriedAt b verdict.Offline) e = ap answer_word (sym (k.explained.exactly Offline (inr (record { block = b; last = e }))))

word_by : (u : UnitSeen) (lines : List Deed) (a : Answer) (d : Drive) (r : Request) → Ends u lines a d r → (whole : Bool) → nat_lt 0 d.trial.want && (r.done == d.trial.want) ≡ whole
    → IsWordOf (cond whole outcome.Ok (stopped_by r.verdict d r)) a
word_by u lines a d r k true e = ok_word a (whole_ok u lines a d r k e)
word_by u lines a d r k false e =
    subst (λ v. IsWordOf (stopped_by v d r) a) (sym k.verdict) (tried_word u lines a d r k (not_ok u lines a d r k e) (last_tried lines) refl)

pub word_of : (u : UnitSeen) (lines : List Deed) (a : Answer) (d : Drive) (r : Request) → Ends u lines a d r → IsWordOf (answer d r) a
word_of u lines a d r k = word_by u lines a d r k (nat_lt 0 d.trial.want && (r.done == d.trial.want)) refl
