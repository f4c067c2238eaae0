-- What is armed at a unit, what is live there and what failed is never more than the lines of the script brought.
use Rattle.std.proofs.Common.{◌≡◌, ◌⊎◌, inl, inr, ℕ, ◌+◌, ◌<◌, ◌≤◌, ◌==◌, Bool, true, false, not, List, [], ◌∷◌, ◌++◌, Option, Some, refl, sym, ap, ◌∙◌, subst, arith, rules}
use Rattle.std.specs.Prelude.{if◌then◌else◌, unwrap_or}
use Rattle.std.proofs.lemmas.Bool.Decides.{eqb_tells}
use Rattle.pack_geometry.specs.declared.DriveKind.TheVariants.{Rp06}
use Rattle.fire_code.specs.Noise.{Classes}
use Rattle.fire_code.specs.declared.NoiseClass.TheVariants.{Shown}
use Rattle.fire_code.specs.Burst.{IsUncorrectable}
use Rattle.fire_code.specs.Remainder.{remainder}
use Rattle.drive_registers.specs.declared.Function.TheVariants as function
use Rattle.hardware_table.specs.declared.Moved.{Moved}
use Rattle.hardware_table.specs.declared.Moved.TheVariants as verdict
use Rattle.hardware_table.specs.declared.FaultKind.{FaultKind}
use Rattle.hardware_table.specs.Drive.{DriveState, is_writing, new_drive}
use Rattle.hardware_table.specs.Events.{fault_armed}
use Rattle.hardware_table.specs.Functions.{performed}
use Rattle.hardware_table.specs.Moves.{IsVerdict, IsVerdictBy, stop_of, first_armed, was_read, was_written}
use Rattle.hardware_table.specs.Noise.{LiveNoise, after_strike}
use Rattle.trace_replay.specs.requests.Requests.{Request, Answer}
use Rattle.trace_replay.specs.Script.{Input, inputs_of, drives_of}
use Rattle.trace_replay.specs.Moments.{Deed, Search, Seek, Recal, Offset, Centre, Clear, Pack, Transfer, Arrive, Sector, Intr, Try, Attn, End, Moment, Played, Told, Idle, played}
use Rattle.trace_replay.specs.Drives.{drive_after}
use Rattle.trace_replay.specs.Packs.{Surface, flips_at, surface_read, surface_written}
use Rattle.trace_replay.specs.Service.{in_hand, target_of}
use Rattle.trace_replay.specs.Events.{Wish, NoLine, DueLine, Arrival, SectorLine, Interrupt, Attention, Refusal, IdleLine}
use Rattle.trace_replay.specs.History.{with_deed, lines_after, lines_behind, lines_of}
use Rattle.trace_replay.specs.Replay.{Replay, at_unit, this_or, LineMay, ToldMay, Follows, unit_after, surface_after, replay_told, told_after, drained, Submission, Refused, Joined, submitted, replay_played, after_moment, after_moments, next_wish}
use Rattle.trace_replay.specs.Runs.{start_of}
use Rattle.trace_replay.proofs.Unchanged.{drained_keeps}
use Rattle.trace_replay.proofs.Following.{follow_on}
use Rattle.driver_laws.proofs.rules.Armed.{performed_armed, hard_verdict, hard_stop}
use Rattle.driver_laws.specs.rules.Strikes.{strikes_by, strikes_in, failures_in, FailuresAreFew}
use Rattle.driver_laws.proofs.rules.Totals.{total, line_less, fault_strikes}
use Rattle.driver_laws.proofs.rules.Lives.{left_in, armed_more, struck_less, strikes_one}
use Rattle.driver_laws.proofs.answers.Drives.{online_armed}

-- a hard verdict of a write is what stops the drive
write_stops : (stop : Option Moved) (marked : Bool) (places : Option (List ℕ)) → IsVerdictBy stop marked true places verdict.Hard → stop ≡ Some verdict.Hard
write_stops stop marked places is = search rules

module _ (shows : List ℕ → Bool) (tells : (places : List ℕ) → Classes Shown places → shows places ≡ true) (x : ℕ) where
  -- so much is armed, live or has failed
  abbrev sum_of : DriveState → List LiveNoise → List Deed → ℕ
  sum_of d live lines = total d.armed + left_in shows x live + failures_in lines

  abbrev pub IsUnder : Replay → List Deed → ℕ → Type 0
  IsUnder s lines n = sum_of (s.units x).drive s.surface.live lines ≤ n

  -- ---- the noise behind a line
  written_live : (b : Bool) (s : Surface) (unit block : ℕ) (r : Request) (k : ℕ) → (surface_written b s unit block r k).live ≡ s.live
  written_live true s unit block r k = refl
  written_live false s unit block r k = refl

  read_less : (b : Bool) (s : Surface) (unit : ℕ) (d : DriveState) (block : ℕ) → left_in shows x (surface_read b s unit d block).live ≤ left_in shows x s.live
  read_less true s unit d block = struck_less shows x unit block d.offset s.live
  read_less false s unit d block = omega arith

  live_less : (s : Replay) (unit : ℕ) (deed : Deed) → left_in shows x (surface_after s unit deed).live ≤ left_in shows x s.surface.live
  live_less s unit (Sector b v) =
      subst (λ z. left_in shows x z ≤ left_in shows x s.surface.live)
      (sym (written_live (was_written (s.units unit).drive v) (surface_read (was_read (s.units unit).drive v) s.surface unit (s.units unit).drive b) unit b (in_hand (s.units unit).service) (s.units unit).progress.done))
      (read_less (was_read (s.units unit).drive v) s.surface unit (s.units unit).drive b)
  live_less s unit other = omega arith

  -- ---- a line of the unit
  abbrev drive_then : Replay → Deed → DriveState
  drive_then s deed = drive_after (s.units x).drive (at_unit s x).state (target_of (s.units x).drive.kind (in_hand (s.units x).service)) deed

  abbrev Goes : Replay → Deed → List Deed → ℕ → Type 0
  Goes s deed lines n = sum_of (drive_then s deed) (surface_after s x deed).live (with_deed deed lines) ≤ n

  less : (a a' b b' f n : ℕ) → a' ≤ a → b' ≤ b → a + b + f ≤ n → a' + b' + (0 + f) ≤ n
  less a a' b b' f n p q under = omega (arith, p, q, under)

  quiet : (s : Replay) (deed : Deed) (lines : List Deed) (n : ℕ) → failures_in (with_deed deed lines) ≡ 0 + failures_in lines → IsUnder s lines n → Goes s deed lines n
  quiet s deed lines n is under =
      subst (λ z. total (drive_then s deed).armed + left_in shows x (surface_after s x deed).live + z ≤ n) (sym is)
      (less (total (s.units x).drive.armed) (total (drive_then s deed).armed) (left_in shows x s.surface.live) (left_in shows x (surface_after s x deed).live) (failures_in lines) n
      (line_less (s.units x).drive (at_unit s x).state (target_of (s.units x).drive.kind (in_hand (s.units x).service)) deed) (live_less s x deed) under)

  ends : (s : Replay) (a : Answer) (lines : List Deed) (n : ℕ) → IsUnder s lines n → Goes s (End a) lines n
  ends s a lines n under = search rules

  faulted : (s : Replay) (b : ℕ) (k : FaultKind) (lines : List Deed) (n : ℕ)
      → IsVerdict (s.units x).drive (s.surface.is_marked x b) (flips_at s.surface x (s.units x).drive b) (verdict.Faulted k) → IsUnder s lines n → Goes s (Sector b (verdict.Faulted k)) lines n
  faulted s b k lines n is under =
      one (total (s.units x).drive.armed) (total (drive_then s (Sector b (verdict.Faulted k))).armed) (left_in shows x s.surface.live) (left_in shows x (surface_after s x (Sector b (verdict.Faulted k))).live) (failures_in lines)
      (fault_strikes (s.units x).drive (at_unit s x).state (target_of (s.units x).drive.kind (in_hand (s.units x).service)) b k (s.surface.is_marked x b) (is_writing (s.units x).drive.work)
      (flips_at s.surface x (s.units x).drive b) is)
      (live_less s x (Sector b (verdict.Faulted k))) under
    where
      one : (a a' b b' f : ℕ) → 1 + a' ≤ a → b' ≤ b → a + b + f ≤ n → a' + b' + (1 + f) ≤ n
      one a a' b b' f p q e = omega (arith, p, q, e)

  hard : (s : Replay) (b : ℕ) (lines : List Deed) (n : ℕ)
      → IsVerdict (s.units x).drive (s.surface.is_marked x b) (flips_at s.surface x (s.units x).drive b) verdict.Hard → n < 28 → IsUnder s lines n → Goes s (Sector b verdict.Hard) lines n
  hard s b lines n is small under = at (is_writing (s.units x).drive.work) refl
    where
      found : (shown : List ℕ) × (flips_at s.surface x (s.units x).drive b ≡ Some shown) × IsUncorrectable (remainder shown)
      found = hard_verdict (s.units x).drive (s.surface.is_marked x b) (is_writing (s.units x).drive.work) (flips_at s.surface x (s.units x).drive b) is

      one : (a a' b b' f : ℕ) → a' ≤ a → 1 + b' ≤ b → a + b + f ≤ n → a' + b' + (1 + f) ≤ n
      one a a' b b' f p q e = omega (arith, p, q, e)

      endless : (a b f : ℕ) → 28 ≤ b → a + b + f ≤ n → n < 28 → ⊥
      endless a b f p e q = omega (arith, p, e, q)

      struck : (28 ≤ left_in shows x s.surface.live) ⊎ (1 + left_in shows x (after_strike x b (s.units x).drive.offset s.surface.live) ≤ left_in shows x s.surface.live)
          → sum_of (drive_then s (Sector b verdict.Hard)) (after_strike x b (s.units x).drive.offset s.surface.live) (Sector b verdict.Hard ∷ lines) ≤ n
      struck (inl many) = absurd (endless (total (s.units x).drive.armed) (left_in shows x s.surface.live) (failures_in lines) many under small)
      struck (inr less) =
          one (total (s.units x).drive.armed) (total (drive_then s (Sector b verdict.Hard)).armed) (left_in shows x s.surface.live)
          (left_in shows x (after_strike x b (s.units x).drive.offset s.surface.live)) (failures_in lines)
          (line_less (s.units x).drive (at_unit s x).state (target_of (s.units x).drive.kind (in_hand (s.units x).service)) (Sector b verdict.Hard)) less under

      at : (w : Bool) → is_writing (s.units x).drive.work ≡ w
          → sum_of (drive_then s (Sector b verdict.Hard)) (surface_written w (surface_read (not w) s.surface x (s.units x).drive b) x b (in_hand (s.units x).service) (s.units x).progress.done).live (Sector b verdict.Hard ∷ lines) ≤ n
      at true writes = absurd (hard_stop (s.units x).drive.online (first_armed (s.units x).drive.armed) (write_stops (stop_of (s.units x).drive) (s.surface.is_marked x b) (flips_at s.surface x (s.units x).drive b)
          (subst (λ w. IsVerdictBy (stop_of (s.units x).drive) (s.surface.is_marked x b) w (flips_at s.surface x (s.units x).drive b) verdict.Hard) writes is)))
      at false reads = struck (strikes_one shows x b (s.units x).drive.offset s.surface.live found.0 found.1 (tells found.0 found.2))

  own : (s : Replay) (line id : ℕ) (deed : Deed) (lines : List Deed) (n : ℕ) → LineMay s line x id deed → n < 28 → IsUnder s lines n → Goes s deed lines n
  own s line id (Search c y) lines n may small under = quiet s (Search c y) lines n refl under
  own s line id (Seek c) lines n may small under = quiet s (Seek c) lines n refl under
  own s line id Recal lines n may small under = quiet s Recal lines n refl under
  own s line id (Offset o) lines n may small under = quiet s (Offset o) lines n refl under
  own s line id Centre lines n may small under = quiet s Centre lines n refl under
  own s line id Clear lines n may small under = quiet s Clear lines n refl under
  own s line id Pack lines n may small under = quiet s Pack lines n refl under
  own s line id (Transfer w b k) lines n may small under = quiet s (Transfer w b k) lines n refl under
  own s line id Arrive lines n may small under = quiet s Arrive lines n refl under
  own s line id (Sector b verdict.Clean) lines n may small under = quiet s (Sector b verdict.Clean) lines n refl under
  own s line id (Sector b (verdict.Burst at q)) lines n may small under = quiet s (Sector b (verdict.Burst at q)) lines n refl under
  own s line id (Sector b verdict.Hard) lines n may small under = hard s b lines n may.verdict small under
  own s line id (Sector b (verdict.Faulted k)) lines n may small under = faulted s b k lines n may.verdict under
  own s line id (Sector b verdict.Marked) lines n may small under = quiet s (Sector b verdict.Marked) lines n refl under
  own s line id (Sector b verdict.Offline) lines n may small under = quiet s (Sector b verdict.Offline) lines n refl under
  own s line id Intr lines n may small under = quiet s Intr lines n refl under
  own s line id (Try b f) lines n may small under = quiet s (Try b f) lines n refl under
  own s line id Attn lines n may small under = quiet s Attn lines n refl under
  own s line id (End a) lines n may small under = ends s a lines n under

  -- ---- a line of any unit
  other : (s : Replay) (unit : ℕ) (deed : Deed) (lines : List Deed) (n : ℕ) → IsUnder s lines n → sum_of (s.units x).drive (surface_after s unit deed).live lines ≤ n
  other s unit deed lines n under = by_less (total (s.units x).drive.armed) (left_in shows x s.surface.live) (left_in shows x (surface_after s unit deed).live) (failures_in lines) (live_less s unit deed) under
    where
      by_less : (t b b' f : ℕ) → b' ≤ b → t + b + f ≤ n → t + b' + f ≤ n
      by_less t b b' f q e = omega (arith, q, e)

  line_under : (s : Replay) (line unit id : ℕ) (deed : Deed) (lines : List Deed) (n : ℕ) → LineMay s line unit id deed → n < 28 → IsUnder s lines n
      → sum_of (this_or (x == unit) (unit_after s unit deed) s.units x).drive (surface_after s unit deed).live (lines_after x (Told line unit id deed) lines) ≤ n
  line_under s line unit id deed lines n may small under = elim (eqb_tells x unit) [
    | inl is ↦ rw is.0 (subst (λ z. sum_of (unit_after s z deed).drive (surface_after s z deed).live (with_deed deed lines) ≤ n) is.1
        (own s line id deed lines n (subst (λ z. LineMay s line z id deed) (sym is.1) may) small under))
    | inr differ ↦ rw differ.0 (other s unit deed lines n under)
  ]

  refused_lines : (line unit id : ℕ) (a : Answer) (lines : List Deed) → failures_in (lines_after x (Told line unit id (End a)) lines) ≤ failures_in lines
  refused_lines line unit id a lines = search rules

  told_line : (s : Replay) (line unit id : ℕ) (deed : Deed) (lines : List Deed) (n : ℕ) → LineMay s line unit id deed → n < 28 → IsUnder s lines n
      → IsUnder (drained (replay_told s unit deed (unit_after s unit deed))) (lines_after x (Told line unit id deed) lines) n
  told_line s line unit id deed lines n may small under =
      drained_keeps (λ t. IsUnder t (lines_after x (Told line unit id deed) lines) n) (replay_told s unit deed (unit_after s unit deed)) (λ event. line_under s line unit id deed lines n may small under)

  told_under : (wish : Wish) (s : Replay) (line unit id : ℕ) (deed : Deed) (lines : List Deed) (n : ℕ) → ToldMay wish s line unit id deed → n < 28 → IsUnder s lines n
      → IsUnder (told_after wish s unit deed) (lines_after x (Told line unit id deed) lines) n
  told_under (Refusal u i why) s line unit id deed lines n may small under = search rules
  told_under NoLine s line unit id deed lines n may small under = told_line s line unit id deed lines n may small under
  told_under (DueLine u) s line unit id deed lines n may small under = told_line s line unit id deed lines n may small under
  told_under (Arrival u) s line unit id deed lines n may small under = told_line s line unit id deed lines n may small under
  told_under (SectorLine u) s line unit id deed lines n may small under = told_line s line unit id deed lines n may small under
  told_under (Interrupt u) s line unit id deed lines n may small under = told_line s line unit id deed lines n may small under
  told_under (Attention u) s line unit id deed lines n may small under = told_line s line unit id deed lines n may small under
  told_under IdleLine s line unit id deed lines n may small under = told_line s line unit id deed lines n may small under

  -- ---- a line of the script
  joined_drive : (s : Replay) (r : Request) (met : Submission) → ((submitted s r met).units x).drive ≡ (s.units x).drive
  joined_drive s r met = search rules

  joined_surface : (s : Replay) (r : Request) (met : Submission) → (submitted s r met).surface ≡ s.surface
  joined_surface s r (Refused why) = refl
  joined_surface s r Joined = refl

  none_more : (t n : ℕ) → t ≤ n → t ≤ n + 0
  none_more t n e = omega (arith, e)

  same_armed : (s : Replay) (d : DriveState) (lines : List Deed) (n : ℕ) → d.armed ≡ (s.units x).drive.armed → IsUnder s lines n → sum_of d s.surface.live lines ≤ n + 0
  same_armed s d lines n is under = subst (λ z. total z + left_in shows x s.surface.live + failures_in lines ≤ n + 0) (sym is) (none_more (sum_of (s.units x).drive s.surface.live lines) n under)

  either : (b : Bool) (one : DriveState) (d : DriveState) → one.armed ≡ d.armed → (if b then one else d).armed ≡ d.armed
  either true one d is = is
  either false one d is = refl

  arms : (b : Bool) (kind : FaultKind) (times : ℕ) (d : DriveState) (l f n : ℕ) → total d.armed + l + f ≤ n
      → total (if b then fault_armed kind times d else d).armed + l + f ≤ n + (if b then times else 0)
  arms b kind times d l f n under = search rules

  script_under : (s : Replay) (input : Input) (lines : List Deed) (n : ℕ) → IsUnder s lines n → IsUnder (replay_played s input) lines (n + strikes_by shows x input)
  script_under s input lines n under = search (rules, sum_of, joined_drive, joined_surface, none_more, same_armed, either, total, left_in, armed_more, arms, online_armed)

  -- ---- all moments
  none_yet : (n b : ℕ) → n + b < 28 → n < 28
  none_yet n b e = omega (arith, e)

  together : (n a b : ℕ) → n + a + b ≡ n + (a + b)
  together n a b = omega arith

  pub all_under : (s : Replay) (lines : List Deed) (ms : List Moment) (n : ℕ) → Follows s ms → n + strikes_in shows x (played ms) < 28 → IsUnder s lines n
      → IsUnder (after_moments s ms) (lines_behind x lines ms) (n + strikes_in shows x (played ms))
  all_under s lines [] n follows small under = none_more (sum_of (s.units x).drive s.surface.live lines) n under
  all_under s lines (Played line input ∷ ms) n follows small under =
      subst (IsUnder (after_moments (after_moment s (Played line input)) ms) (lines_behind x lines ms)) (together n (strikes_by shows x input) (strikes_in shows x (played ms)))
      (all_under (after_moment s (Played line input)) lines ms (n + strikes_by shows x input) follows.1
      (subst (λ z. z < 28) (sym (together n (strikes_by shows x input) (strikes_in shows x (played ms)))) small) (script_under s input lines n under))
  all_under s lines (Told line unit id deed ∷ ms) n follows small under =
      all_under (after_moment s (Told line unit id deed)) (lines_after x (Told line unit id deed) lines) ms n follows.1 small
      (told_under (next_wish s) s line unit id deed lines n follows.0 (none_yet n (strikes_in shows x (played ms)) small) under)
  all_under s lines (Idle line ∷ ms) n follows small under = all_under (after_moment s (Idle line)) lines ms n follows.1 small under

-- ---- in a legal run
front_less : (shows : List ℕ → Bool) (x : ℕ) (ms ns : List Moment) → strikes_in shows x (played ms) ≤ strikes_in shows x (played (ms ++ ns))
front_less shows x [] ns = omega arith
front_less shows x (Played line input ∷ ms) ns = more (strikes_by shows x input) (strikes_in shows x (played ms)) (strikes_in shows x (played (ms ++ ns))) (front_less shows x ms ns)
  where
    more : (a b c : ℕ) → b ≤ c → a + b ≤ a + c
    more a b c e = omega (arith, e)
front_less shows x (Told line unit id deed ∷ ms) ns = front_less shows x ms ns
front_less shows x (Idle line ∷ ms) ns = front_less shows x ms ns

pub failures_are_few : FailuresAreFew
failures_are_few script tables old new ms ns x run few =
    last (total _) (left_in few.shows x _) (failures_in (lines_of x ms)) (strikes_in few.shows x (played ms)) bound
    (all_under few.shows few.tells x (start_of script tables old) [] ms 0 ((follow_on (start_of script tables old) ms ns).0 run.trace.follows).0 bound start)
  where
    bound : 0 + strikes_in few.shows x (played ms) < 28
    bound = below (strikes_in few.shows x (played ms)) (strikes_in few.shows x (played (ms ++ ns))) (strikes_in few.shows x (inputs_of script))
        (front_less few.shows x ms ns) (ap (strikes_in few.shows x) run.inputs) few.few
      where
        below : (a b c : ℕ) → a ≤ b → b ≡ c → c < 28 → 0 + a < 28
        below a b c e f g = omega (arith, e, f, g)

    last : (t l f n : ℕ) → 0 + n < 28 → t + l + f ≤ 0 + n → f < 28
    last t l f n e g = omega (arith, e, g)

    armed : ((start_of script tables old).units x).drive.armed ≡ Rattle.hardware_table.specs.Drive.none_armed
    armed = performed_armed function.Pack (performed function.Preset (new_drive (unwrap_or (drives_of script x) Rp06) x)) ∙ performed_armed function.Preset (new_drive (unwrap_or (drives_of script x) Rp06) x)

    start : IsUnder few.shows few.tells x (start_of script tables old) [] 0
    start = subst (λ a. total a + 0 + 0 ≤ 0) (sym armed) (omega arith)
