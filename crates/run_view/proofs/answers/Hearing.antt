-- What a drive and a request hold behind the lines of that request.
use Rattle.std.proofs.Common.{◌≡◌, ◌⊎◌, inl, inr, ℕ, suc, ◌+◌, ◌^◌, ◌<◌, ◌≤◌, ◌==◌, Bool, true, false, cond, List, [], ◌∷◌, length, Option, None, Some, refl, sym, ap, ◌∙◌, arith}
use Rattle.std.specs.Prelude.{◌&&◌, ◌||◌, is_some, not}
use Rattle.std.proofs.lemmas.Bool.Decides.{nat_tests}
use Rattle.drive_pictures.specs.declared.drives.Drive.{Drive}
use Rattle.drive_pictures.specs.declared.requests.Outcome.{Outcome}
use Rattle.drive_pictures.specs.declared.requests.Request.{Request}
use Rattle.drive_pictures.specs.Requests.{is_refused}
use Rattle.drive_pictures.specs.declared.trials.Trial.{Trial}
use Rattle.drive_pictures.specs.Counts.{plus}
use Rattle.drive_pictures.specs.Trials.{is_at, in_hand}
use Rattle.hardware_table.specs.declared.Moved.{Moved}
use Rattle.hardware_table.specs.declared.Moved.TheVariants as verdict
use Rattle.trace_replay.specs.History.{done_in, Tried, Untried, TriedAt, last_tried, marks_in, last_try, fails, AreFailures}
use Rattle.trace_replay.specs.Moments.{Deed, Search, Seek, Recal, Offset, Centre, Clear, Pack, Transfer, Arrive, Sector, Intr, Try, Attn, End}
use Rattle.run_view.proofs.answers.OwnLines.{Hearing, IsFresh, told_one, told_all}
use Rattle.run_view.proofs.answers.Wanting.{want_in, wrote_in}

-- the verdict of the last sector
abbrev pub verdict_in : Tried → Option Moved
verdict_in Untried = None
verdict_in (TriedAt block v) = Some v

abbrev pub wrote_or : Option Bool → Bool → Bool
wrote_or None start = start
wrote_or (Some write) start = write

-- the tries that failed at the block at hand
abbrev pub fails_at : Moved → ℕ → ℕ
fails_at verdict.Clean before = 0
fails_at (verdict.Burst at pattern) before = 0
fails_at verdict.Marked before = 0
fails_at v before = before

abbrev pub fails_in : List Deed → ℕ
fails_in [] = 0
fails_in (Sector block v ∷ lines) = fails_at v (fails_in lines)
fails_in (Try block failures ∷ lines) = failures
fails_in (deed ∷ lines) = fails_in lines

-- a request at a place is in hand, or none is and none wants anything
abbrev pub Holds : ℕ → Trial → Type 0
Holds place t = ((t.hand ≡ None) × (t.want ≡ 0)) ⊎ (t.hand ≡ Some place)

same_place : (n : ℕ) → (n == n) ≡ true
same_place n = grind (arith, nat_tests)

taken_want : (place : ℕ) (t : Trial) → Holds place t → (in_hand place t).want ≡ t.want
taken_want place t (inl none) = ap (λ (o : Option ℕ). cond (is_at o place) t.want 0) none.0 ∙ sym none.1
taken_want place t (inr some) = ap (λ (o : Option ℕ). cond (is_at o place) t.want 0) some ∙ ap (λ (b : Bool). cond b t.want 0) (same_place place)

-- BEHIND THE LINES
pub record Facts (place : ℕ) (lines : List Deed) (start h : Hearing) : Type 0 where
  pub holds : Holds place h.drive.trial
  pub want : h.drive.trial.want ≡ want_in lines
  pub fails : h.drive.trial.fails ≡ fails_in lines
  pub marks : h.drive.trial.marks ≡ marks_in lines
  pub done : h.request.done ≡ done_in lines
  pub verdict : h.request.verdict ≡ verdict_in (last_tried lines)
  pub write : h.request.write ≡ wrote_or (wrote_in lines) start.request.write
  pub few_done : done_in lines ≤ length lines
  pub few_marks : marks_in lines ≤ length lines

none_more : (n : ℕ) → n ≡ 0 + n
none_more n = omega arith

few_more : (n l : ℕ) → n ≤ l → 0 + n ≤ suc l
few_more n l h = omega (arith, h)

same_few : (n l : ℕ) → n ≤ l → n ≤ suc l
same_few n l h = omega (arith, h)

one_few : (n l : ℕ) → n ≤ l → 1 + n ≤ suc l
one_few n l h = omega (arith, h)

next_few : (n l : ℕ) → n ≤ l → n + 1 ≤ suc l
next_few n l h = omega (arith, h)

none_few : (l : ℕ) → 0 ≤ suc l
none_few l = omega arith

one_done : (d n l : ℕ) → d ≡ n → n ≤ l → suc l < 2 ^ 64 → plus d 1 ≡ 1 + n
one_done d n l e few short = omega (arith, e, few, short)

one_mark : (d n l : ℕ) → d ≡ n → n ≤ l → suc l < 2 ^ 64 → plus d 1 ≡ n + 1
one_mark d n l e few short = omega (arith, e, few, short)

shorter : (l : ℕ) → suc l < 2 ^ 64 → l < 2 ^ 64
shorter l h = omega (arith, h)

first_want : (t : Trial) (place count n : ℕ) → Holds place t → t.want ≡ n → cond ((in_hand place t).want == 0) count (in_hand place t).want ≡ cond (n == 0) count n
first_want t place count n holds e = ap (λ (w : ℕ). cond (w == 0) count w) (taken_want place t holds ∙ e)

-- a line that tells of no transfer, sector or try
abbrev IsOther : Deed → Type 0
IsOther (Transfer write block count) = ⊥
IsOther (Sector block v) = ⊥
IsOther (Try block failures) = ⊥
IsOther deed = Unit {0}

other_facts : (place : ℕ) (deed : Deed) (lines : List Deed) (start h : Hearing) → IsOther deed → Facts place lines start h → Facts place (deed ∷ lines) start (told_one place deed h)
other_facts place (Transfer w b n) lines start h other f = absurd other
other_facts place (Sector b v) lines start h other f = absurd other
other_facts place (Try b n) lines start h other f = absurd other
other_facts place it lines start h other f =
    record { holds = inr refl; want = taken_want place h.drive.trial f.holds ∙ f.want; fails = f.fails; marks = f.marks; done = f.done ∙ none_more (done_in lines); verdict = f.verdict; write = f.write; few_done = few_more (done_in lines) (length lines) f.few_done; few_marks = same_few (marks_in lines) (length lines) f.few_marks }

transfer_facts : (place : ℕ) (w : Bool) (b n : ℕ) (lines : List Deed) (start h : Hearing) → Facts place lines start h → Facts place (Transfer w b n ∷ lines) start (told_one place (Transfer w b n) h)
transfer_facts place w b n lines start h f =
    record { holds = inr refl; want = first_want h.drive.trial place n (want_in lines) f.holds f.want; fails = f.fails; marks = f.marks; done = f.done ∙ none_more (done_in lines); verdict = f.verdict; write = refl; few_done = few_more (done_in lines) (length lines) f.few_done; few_marks = same_few (marks_in lines) (length lines) f.few_marks }

try_facts : (place b n : ℕ) (lines : List Deed) (start h : Hearing) → Facts place lines start h → Facts place (Try b n ∷ lines) start (told_one place (Try b n) h)
try_facts place b n lines start h f =
    record { holds = inr refl; want = taken_want place h.drive.trial f.holds ∙ f.want; fails = refl; marks = f.marks; done = f.done ∙ none_more (done_in lines); verdict = f.verdict; write = f.write; few_done = few_more (done_in lines) (length lines) f.few_done; few_marks = same_few (marks_in lines) (length lines) f.few_marks }

sector_facts : (place b : ℕ) (v : Moved) (lines : List Deed) (start h : Hearing) → suc (length lines) < 2 ^ 64 → Facts place lines start h → Facts place (Sector b v ∷ lines) start (told_one place (Sector b v) h)
sector_facts place b verdict.Clean lines start h short f =
    record { holds = inr refl; want = taken_want place h.drive.trial f.holds ∙ f.want; fails = refl; marks = refl; done = one_done h.request.done (done_in lines) (length lines) f.done f.few_done short; verdict = refl; write = f.write; few_done = one_few (done_in lines) (length lines) f.few_done; few_marks = none_few (length lines) }
sector_facts place b (verdict.Burst at pattern) lines start h short f =
    record { holds = inr refl; want = taken_want place h.drive.trial f.holds ∙ f.want; fails = refl; marks = refl; done = one_done h.request.done (done_in lines) (length lines) f.done f.few_done short; verdict = refl; write = f.write; few_done = one_few (done_in lines) (length lines) f.few_done; few_marks = none_few (length lines) }
sector_facts place b verdict.Marked lines start h short f =
    record { holds = inr refl; want = taken_want place h.drive.trial f.holds ∙ f.want; fails = refl; marks = one_mark h.drive.trial.marks (marks_in lines) (length lines) f.marks f.few_marks short; done = f.done ∙ none_more (done_in lines); verdict = refl; write = f.write; few_done = few_more (done_in lines) (length lines) f.few_done; few_marks = next_few (marks_in lines) (length lines) f.few_marks }
sector_facts place b other lines start h short f =
    record { holds = inr refl; want = taken_want place h.drive.trial f.holds ∙ f.want; fails = f.fails; marks = f.marks; done = f.done ∙ none_more (done_in lines); verdict = refl; write = f.write; few_done = few_more (done_in lines) (length lines) f.few_done; few_marks = same_few (marks_in lines) (length lines) f.few_marks }

pub behind : (place : ℕ) (start : Hearing) (lines : List Deed) → IsFresh start → length lines < 2 ^ 64 → Facts place lines start (told_all place start lines)
behind place start [] fresh short =
    record { holds = inl (fresh.hand, fresh.want); want = fresh.want; fails = fresh.fails; marks = fresh.marks; done = fresh.done; verdict = fresh.verdict; write = refl; few_done = omega arith; few_marks = omega arith }
behind place start (Transfer w b n ∷ lines) fresh short = transfer_facts place w b n lines start (told_all place start lines) (behind place start lines fresh (shorter (length lines) short))
behind place start (Sector b v ∷ lines) fresh short = sector_facts place b v lines start (told_all place start lines) short (behind place start lines fresh (shorter (length lines) short))
behind place start (Try b n ∷ lines) fresh short = try_facts place b n lines start (told_all place start lines) (behind place start lines fresh (shorter (length lines) short))
behind place start (Search c y ∷ lines) fresh short = other_facts place (Search c y) lines start (told_all place start lines) tt (behind place start lines fresh (shorter (length lines) short))
behind place start (Seek c ∷ lines) fresh short = other_facts place (Seek c) lines start (told_all place start lines) tt (behind place start lines fresh (shorter (length lines) short))
behind place start (Recal ∷ lines) fresh short = other_facts place Recal lines start (told_all place start lines) tt (behind place start lines fresh (shorter (length lines) short))
behind place start (Offset o ∷ lines) fresh short = other_facts place (Offset o) lines start (told_all place start lines) tt (behind place start lines fresh (shorter (length lines) short))
behind place start (Centre ∷ lines) fresh short = other_facts place Centre lines start (told_all place start lines) tt (behind place start lines fresh (shorter (length lines) short))
behind place start (Clear ∷ lines) fresh short = other_facts place Clear lines start (told_all place start lines) tt (behind place start lines fresh (shorter (length lines) short))
behind place start (Pack ∷ lines) fresh short = other_facts place Pack lines start (told_all place start lines) tt (behind place start lines fresh (shorter (length lines) short))
behind place start (Arrive ∷ lines) fresh short = other_facts place Arrive lines start (told_all place start lines) tt (behind place start lines fresh (shorter (length lines) short))
behind place start (Intr ∷ lines) fresh short = other_facts place Intr lines start (told_all place start lines) tt (behind place start lines fresh (shorter (length lines) short))
behind place start (Attn ∷ lines) fresh short = other_facts place Attn lines start (told_all place start lines) tt (behind place start lines fresh (shorter (length lines) short))
behind place start (End a ∷ lines) fresh short = other_facts place (End a) lines start (told_all place start lines) tt (behind place start lines fresh (shorter (length lines) short))

-- ALL 28 TRIES: the last sector failed, and so often the block at hand did
abbrev pub IsFailure : Tried → Type 0
IsFailure Untried = ⊥
IsFailure (TriedAt block v) = fails v ≡ true

owed_last : (n block : ℕ) (lines : List Deed) → AreFailures true n block lines → IsFailure (last_tried lines)
owed_last n block [] a = absurd a
owed_last n block (Sector b v ∷ lines) a = a.1
owed_last n block (Intr ∷ lines) a = owed_last n block lines a
owed_last n block (Clear ∷ lines) a = owed_last n block lines a
owed_last n block (Centre ∷ lines) a = owed_last n block lines a
owed_last n block (deed ∷ lines) a = absurd a

pub failed_last : (n block : ℕ) (lines : List Deed) → AreFailures false (suc n) block lines → IsFailure (last_tried lines)
failed_last n block [] a = absurd a
failed_last n block (Try b t ∷ lines) a = owed_last n block lines a.2
failed_last n block (Sector b v ∷ lines) a = absurd a
failed_last n block (Search c y ∷ lines) a = failed_last n block lines a
failed_last n block (Seek c ∷ lines) a = failed_last n block lines a
failed_last n block (Recal ∷ lines) a = failed_last n block lines a
failed_last n block (Offset o ∷ lines) a = failed_last n block lines a
failed_last n block (Centre ∷ lines) a = failed_last n block lines a
failed_last n block (Clear ∷ lines) a = failed_last n block lines a
failed_last n block (Pack ∷ lines) a = failed_last n block lines a
failed_last n block (Transfer w b k ∷ lines) a = failed_last n block lines a
failed_last n block (Arrive ∷ lines) a = failed_last n block lines a
failed_last n block (Intr ∷ lines) a = failed_last n block lines a
failed_last n block (Attn ∷ lines) a = failed_last n block lines a
failed_last n block (End x ∷ lines) a = failed_last n block lines a

pub failed_fails : (n block : ℕ) (lines : List Deed) → AreFailures false (suc n) block lines → fails_in lines ≡ suc n
failed_fails n block [] a = absurd a
failed_fails n block (Try b t ∷ lines) a = a.1
failed_fails n block (Sector b v ∷ lines) a = absurd a
failed_fails n block (Search c y ∷ lines) a = failed_fails n block lines a
failed_fails n block (Seek c ∷ lines) a = failed_fails n block lines a
failed_fails n block (Recal ∷ lines) a = failed_fails n block lines a
failed_fails n block (Offset o ∷ lines) a = failed_fails n block lines a
failed_fails n block (Centre ∷ lines) a = failed_fails n block lines a
failed_fails n block (Clear ∷ lines) a = failed_fails n block lines a
failed_fails n block (Pack ∷ lines) a = failed_fails n block lines a
failed_fails n block (Transfer w b k ∷ lines) a = failed_fails n block lines a
failed_fails n block (Arrive ∷ lines) a = failed_fails n block lines a
failed_fails n block (Intr ∷ lines) a = failed_fails n block lines a
failed_fails n block (Attn ∷ lines) a = failed_fails n block lines a
failed_fails n block (End x ∷ lines) a = failed_fails n block lines a

-- so many tries that failed at the block at hand are those of the last try line
fails_zero : (v : Moved) (n : ℕ) → (fails_at v n ≡ 0) ⊎ (fails_at v n ≡ n)
fails_zero verdict.Hard n = inr refl
fails_zero (verdict.Faulted fault) n = inr refl
fails_zero verdict.Offline n = inr refl
fails_zero other n = inl refl

after_sector : (v : Moved) (n last : ℕ) → (n ≡ 0) ⊎ (n ≡ last) → (fails_at v n ≡ 0) ⊎ (fails_at v n ≡ n) → (fails_at v n ≡ 0) ⊎ (fails_at v n ≡ last)
after_sector v n last before (inl none) = inl none
after_sector v n last (inl none) (inr same) = inl (same ∙ none)
after_sector v n last (inr is) (inr same) = inr (same ∙ is)

pub fails_last : (lines : List Deed) → (fails_in lines ≡ 0) ⊎ (fails_in lines ≡ last_try lines)
fails_last [] = inl refl
fails_last (Try b t ∷ lines) = inr refl
fails_last (Sector b v ∷ lines) = after_sector v (fails_in lines) (last_try lines) (fails_last lines) (fails_zero v (fails_in lines))
fails_last (Search c y ∷ lines) = fails_last lines
fails_last (Seek c ∷ lines) = fails_last lines
fails_last (Recal ∷ lines) = fails_last lines
fails_last (Offset o ∷ lines) = fails_last lines
fails_last (Centre ∷ lines) = fails_last lines
fails_last (Clear ∷ lines) = fails_last lines
fails_last (Pack ∷ lines) = fails_last lines
fails_last (Transfer w b k ∷ lines) = fails_last lines
fails_last (Arrive ∷ lines) = fails_last lines
fails_last (Intr ∷ lines) = fails_last lines
fails_last (Attn ∷ lines) = fails_last lines
fails_last (End x ∷ lines) = fails_last lines

-- ITS END is no refusal
own_place : (place : ℕ) → not (place == place) ≡ false
own_place place = grind (arith, nat_tests)

pub no_refusal : (place : ℕ) (d : Drive) (r : Request) → r.why ≡ None → Holds place d.trial → is_refused place d r ≡ false
no_refusal place d r why (inl none) =
    ap (λ (o : Option Outcome). is_some o || (is_some d.trial.hand && not (is_at d.trial.hand place))) why
    ∙ ap (λ (o : Option ℕ). is_some o && not (is_at o place)) none.0
no_refusal place d r why (inr some) =
    ap (λ (o : Option Outcome). is_some o || (is_some d.trial.hand && not (is_at d.trial.hand place))) why
    ∙ ap (λ (o : Option ℕ). is_some o && not (is_at o place)) some ∙ own_place place
