-- What is known stays known behind a line of the trace, and behind one of the script.
use Rattle.std.proofs.Common.{◌≡◌, inl, inr, ℕ, ◌==◌, true, List, [], ◌∷◌, ◌++◌, Some, refl, sym, ◌∙◌, subst, nat_lt, rules}
use Rattle.std.specs.Prelude.{if◌then◌else◌}
use Rattle.std.proofs.lemmas.Bool.{false≢true, eqb-true}
use Rattle.hardware_table.specs.declared.Moved.{Moved}
use Rattle.hardware_table.specs.declared.Moved.TheVariants as verdict
use Rattle.hardware_table.specs.Drive.{is_writing}
use Rattle.hardware_table.specs.Moves.{IsVerdict}
use Rattle.fire_code.specs.Remainder.{remainder}
use Rattle.fire_code.specs.Burst.{IsUncorrectable}
use Rattle.hardware_table.specs.Noise.{LiveNoise, is_at}
use Rattle.trace_replay.specs.requests.Requests.{Answer}
use Rattle.trace_replay.specs.Script.{Input, Submit, ArriveAt, MoveAt, AttendTo, Drain, Turn, Noise, Arm, SetOnline, SetLocked}
use Rattle.trace_replay.specs.Moments.{Deed, Sector, End, Moment, Told}
use Rattle.trace_replay.specs.Packs.{flips_at}
use Rattle.trace_replay.specs.Service.{in_hand, service_after, target_of}
use Rattle.trace_replay.specs.Conditions.{online_behind}
use Rattle.trace_replay.specs.History.{with_deed, lines_after, last_tried, fails}
use Rattle.trace_replay.specs.Replay.{Replay, UnitSeen, hand_of, at_unit, with_state, LineMay, unit_after, surface_after}
use Rattle.trace_replay.proofs.Kept.{UnitFits, held_by, end_kept}
use Rattle.driver_laws.specs.rules.Grounds.{WasPlayed, ArmsFault, ArmsShownNoise, WasOffline}
use Rattle.driver_laws.proofs.rules.Armed.{line_arms_none, offline_verdict, faulted_verdict, hard_verdict, struck_by}
use Rattle.driver_laws.proofs.rules.Known.{more, weaker, offline_more, ArmsLike, AnyFails, Ground, AreAsked, OffAt, ArmedAt, FailedAt, Known, asked_more, ground_more, live_more, line_live, head_asked, line_asked, verdict_of}
use Rattle.driver_laws.proofs.rules.Stages.{first_of}

-- ---- A LINE OF A UNIT
module _ (s : Replay) (line unit id : ℕ) (ms : List Moment) (lines : ℕ → List Deed) (k : Known s.units s.surface.live ms lines)
    (fit : UnitFits (s.units unit) (lines unit)) (said : (s.units unit).drive.online ≡ online_behind unit true ms) where
  abbrev Longer : Deed → List Moment
  Longer deed = ms ++ Told line unit id deed ∷ []

  -- a line that is neither of a sector nor an end
  quiet_off : (deed : Deed) → service_after (s.units unit).service deed ≡ (s.units unit).service → last_tried (with_deed deed (lines unit)) ≡ last_tried (lines unit)
      → OffAt (unit_after s unit deed) (with_deed deed (lines unit)) (Longer deed)
  quiet_off deed service tried block e =
      subst (λ z. WasOffline (in_hand z) (Longer deed)) (sym service) (offline_more (in_hand (s.units unit).service) ms (Told line unit id deed) (k.offline unit block (sym tried ∙ e)))

  sector_off : (b : ℕ) (v : Moved) → LineMay s line unit id (Sector b v) → OffAt (unit_after s unit (Sector b v)) (Sector b v ∷ lines unit) (Longer (Sector b v))
  sector_off b v may block e = search (rules, offline_verdict, verdict_of, head_asked, held_by)

  end_off : (a : Answer) → LineMay s line unit id (End a) → OffAt (unit_after s unit (End a)) (with_deed (End a) (lines unit)) (Longer (End a))
  end_off a may block e = search rules

  own_off : (deed : Deed) → LineMay s line unit id deed → OffAt (unit_after s unit deed) (with_deed deed (lines unit)) (Longer deed)
  own_off (Sector b v) may = sector_off b v may
  own_off (End a) may = end_off a may
  own_off other may = quiet_off other refl refl

  -- a sector that failed
  shown_noise : (b : ℕ) → IsVerdict (s.units unit).drive (s.surface.is_marked unit b) (flips_at s.surface unit (s.units unit).drive b) verdict.Hard → Ground unit ms
  shown_noise b is = inr (weaker (ArmsLike n.0) (ArmsShownNoise unit) ms fits n.1)
    where
      h : (shown : List ℕ) × (flips_at s.surface unit (s.units unit).drive b ≡ Some shown) × IsUncorrectable (remainder shown)
      h = hard_verdict (s.units unit).drive (s.surface.is_marked unit b) (is_writing (s.units unit).drive.work) (flips_at s.surface unit (s.units unit).drive b) is

      n : (noise : LiveNoise) × WasPlayed (ArmsLike noise) ms × (is_at unit b noise ≡ true) × (noise.places ≡ h.0)
      n = struck_by (λ (z : LiveNoise). WasPlayed (ArmsLike z) ms) unit b (s.units unit).drive.offset s.surface.live h.0 k.noise h.1

      here : n.0.unit ≡ unit
      here = eqb-true n.0.unit unit (first_of (n.0.unit == unit) (n.0.block == b) n.2)

      fits : (input : Input) → ArmsLike n.0 input → ArmsShownNoise unit input
      fits (Noise q) like = (like.0 ∙ here, subst (λ z. IsUncorrectable (remainder z)) (sym (like.2 ∙ n.3)) h.2)
      fits (Submit r) like = like
      fits (ArriveAt u) like = like
      fits (MoveAt a) like = like
      fits (AttendTo a) like = like
      fits Drain like = like
      fits (Turn u y) like = like
      fits (Arm u kind m) like = like
      fits (SetOnline u on) like = like
      fits (SetLocked u on) like = like

  struck : (b : ℕ) (v : Moved) → IsVerdict (s.units unit).drive (s.surface.is_marked unit b) (flips_at s.surface unit (s.units unit).drive b) v → fails v ≡ true → Ground unit ms
  struck b v is f = search (rules, false≢true, shown_noise, nat_lt, faulted_verdict)

  old_failed : (deed : Deed) → AnyFails (lines unit) → Ground unit (Longer deed)
  old_failed deed any = ground_more unit ms (Told line unit id deed) (k.failed unit any)

  end_failed : (a : Answer) → LineMay s line unit id (End a) → FailedAt unit (with_deed (End a) (lines unit)) (Longer (End a))
  end_failed a may any =
      absurd (subst (λ z. AnyFails (if z then lines unit else [])) (end_kept (s.units unit).drive (hand_of (s.units unit)) (s.units unit).stage (End a) (lines unit) may.talk fit.fits) any)

  sector_failed : (b : ℕ) (v : Moved) → LineMay s line unit id (Sector b v) → FailedAt unit (Sector b v ∷ lines unit) (Longer (Sector b v))
  sector_failed b v may (inl f) = ground_more unit ms (Told line unit id (Sector b v)) (struck b v may.verdict f)
  sector_failed b v may (inr any) = old_failed (Sector b v) any

  own_failed : (deed : Deed) → LineMay s line unit id deed → FailedAt unit (with_deed deed (lines unit)) (Longer deed)
  own_failed (Sector b v) may = sector_failed b v may
  own_failed (End a) may = end_failed a may
  own_failed other may = old_failed other

  -- of its unit what is new, of any other what was
  told_of : (deed : Deed) (P : ℕ → UnitSeen → List Deed → Type 0) (x : ℕ) → P unit (unit_after s unit deed) (with_deed deed (lines unit)) → P x (s.units x) (lines x)
      → P x (with_state s.units unit (unit_after s unit deed) x) (lines_after x (Told line unit id deed) (lines x))
  told_of deed P x mine other = search rules

  pub line_known : (deed : Deed) → LineMay s line unit id deed
      → Known (with_state s.units unit (unit_after s unit deed)) (surface_after s unit deed).live (Longer deed) (λ x. lines_after x (Told line unit id deed) (lines x))
  line_known deed may = record {
    asked = λ x. told_of deed (λ y u l. AreAsked y (Longer deed) u.service.waiting) x
        (line_asked unit (Longer deed) (s.units unit).service deed (asked_more unit ms (Told line unit id deed) (s.units unit).service.waiting (k.asked unit)))
        (asked_more x ms (Told line unit id deed) (s.units x).service.waiting (k.asked x));
    offline = λ x. told_of deed (λ y u l. OffAt u l (Longer deed)) x (own_off deed may) (λ block e. offline_more (in_hand (s.units x).service) ms (Told line unit id deed) (k.offline x block e));
    armed = λ x. told_of deed (λ y u l. ArmedAt y u (Longer deed)) x
        (λ kind e. more (ArmsFault unit) ms (Told line unit id deed) (k.armed unit kind (line_arms_none (s.units unit).drive (at_unit s unit).state (target_of (s.units unit).drive.kind (in_hand (s.units unit).service)) deed kind e)))
        (λ kind e. more (ArmsFault x) ms (Told line unit id deed) (k.armed x kind e));
    noise = line_live s unit deed (Longer deed) (live_more s.surface.live ms (Told line unit id deed) k.noise);
    failed = λ x. told_of deed (λ y u l. FailedAt y l (Longer deed)) x (own_failed deed may) (λ any. ground_more x ms (Told line unit id deed) (k.failed x any));
  }
