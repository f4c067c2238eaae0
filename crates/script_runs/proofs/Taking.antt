-- Behind a call each answer that waits is taken: what the world and its replay keep.
use Rattle.std.proofs.Common.{◌≡◌, ◌⊎◌, inl, inr, ℕ, ◌<◌, Bool, true, false, List, [], ◌∷◌, length, Option, refl, sym, ap, subst, arith, ◌∙◌}
use Rattle.pack_geometry.specs.declared.DriveKind.{DriveKind}
use Rattle.pack_geometry.specs.Pack.{Pack}
use Rattle.trace_replay.specs.Moments.{Moment}
use Rattle.trace_replay.specs.Script as script
use Rattle.trace_replay.specs.Script.{Input}
use Rattle.trace_replay.specs.Replay.{Replay}
use Rattle.disksort.specs.declared.Waiter.{Waiter}
use Rattle.driver_machine.specs.declared.Made.{Made}
use Rattle.driver_machine.specs.World.{World, unit_at}
use Rattle.driver_machine.specs.Acts.{Act, Refuse, Submit, Of, Change, Nothing, Taken, changed, after, after_all}
use Rattle.driver_machine.specs.Guards.{Allowed, InHand, IsSetUp}
use Rattle.driver_machine.specs.Sound.{Sound, UnitOk}
use Rattle.driver_machine.specs.Runs.{Run, Works}
use Rattle.driver_laws.proofs.invariant.Calls.{taken_works}
use Rattle.driver_laws.proofs.invariant.Sound.{sound_after}
use Rattle.driver_laws.proofs.shown.Rest.{rest_shows}
use Rattle.driver_laws.specs.shown.Within.{Rests}
use Rattle.driver_laws.specs.shown.Runs.{IsSoFar, IsDraining}
use Rattle.driver_laws.proofs.shown.Resting.{shows_one, shows_all}
use Rattle.driver_laws.proofs.shown.Submits.{calm}
use Rattle.driver_laws.proofs.shown.Calls.{answers_go}
use Rattle.driver_laws.specs.shown.RunsRuns.{IsKept}
use Rattle.driver_laws.proofs.shown.RunsLaws.{answers_keep}
use Rattle.driver_laws.proofs.answers.Units.{setups_stay}
use Rattle.driver_laws.specs.answers.Waiting.{all_taken}
use Rattle.driver_laws.proofs.answers.Taking.{taken_by, nothing_taken}
use Rattle.driver_laws.proofs.shown.Showing.{Shows}

-- A UNIT IS THERE, where an answer waits.
abbrev pub Waits : World → Type 0
Waits w = (w.answers ≡ []) ⊎ ((u : ℕ) × IsSetUp w u)

true_by : (b : Bool) → (b ≡ false → ⊥) → b ≡ true
true_by true other = refl
true_by false other = absurd (other refl)

stays_up : (w : World) (act : Act) (u : ℕ) → IsSetUp w u → IsSetUp (after w act) u
stays_up w act u unit = record { unit = unit.unit; declared = (setups_stay w (act ∷ []) u).declared ∙ unit.declared }

changed_answers : (input : Input) (w : World) → (changed input w).answers ≡ w.answers
changed_answers (script.Turn u sector) w = refl
changed_answers (script.Noise noise) w = refl
changed_answers (script.Arm u kind times) w = refl
changed_answers (script.SetOnline u on) w = refl
changed_answers (script.SetLocked u on) w = refl
changed_answers input w = refl

stays_waiting : (w : World) (act : Act) → (after w act).answers ≡ w.answers → Waits w → Waits (after w act)
stays_waiting w act same (inl none) = inl (same ∙ none)
stays_waiting w act same (inr unit) = inr (unit.0, stays_up w act unit.0 unit.1)

some_queue : (queue : List Waiter) → queue ≡ [] → 0 < length queue → ⊥
some_queue queue none some = absurd (omega (arith, some, ap length none))

in_hand_set_up : (w : World) (u id : ℕ) → Sound w → InHand w u id → IsSetUp w u
in_hand_set_up w u id sound hand =
    let ok : UnitOk w u (unit_at w u) = sound.each_unit u hand.unit in
    record {
      unit = hand.unit;
      declared = true_by (unit_at w u).declared (λ off. some_queue (unit_at w u).queue (ok.undeclared off) hand.some);
    }

taken_waits : (w : World) → 0 < length w.answers → Waits w → Waits (after w Taken)
taken_waits w some (inl none) = absurd (omega (arith, some, ap (λ (xs : List Made). length xs) none))
taken_waits w some (inr unit) = inr (unit.0, stays_up w Taken unit.0 unit.1)

act_waits : (w : World) (act : Act) → Sound w → Allowed w act → Waits w → Waits (after w act)
act_waits w (Refuse line r kind) sound allowed waits = inr (r.unit, stays_up w (Refuse line r kind) r.unit allowed.0)
act_waits w (Submit line p h) sound allowed waits = inr (h.unit, stays_up w (Submit line p h) h.unit allowed.unit)
act_waits w (Of line u id deed) sound allowed waits = inr (u, stays_up w (Of line u id deed) u (in_hand_set_up w u id sound allowed.0))
act_waits w (Change input) sound allowed waits = stays_waiting w (Change input) (changed_answers input w) waits
act_waits w (Nothing line) sound allowed waits = waits
act_waits w Taken sound allowed waits = taken_waits w allowed waits

pub runs_wait : (w : World) (acts : List Act) → Sound w → Run w acts → Waits w → Waits (after_all w acts)
runs_wait w [] sound run waits = waits
runs_wait w (act ∷ acts) sound run waits = runs_wait (after w act) acts (sound_after w act sound run.0) run.1 (act_waits w act sound run.0 waits)

-- THE RUN SO FAR stays as it is,
record Far (start : Replay) (line u : ℕ) (moments : List Moment) (held : ℕ → Pack) (w : World) : Type 0 where
  unit : IsSetUp w u
  far : IsSoFar start line moments held w

far_taken : (start : Replay) (line u : ℕ) (moments : List Moment) (held : ℕ → Pack) (w : World) → 0 < length w.answers
    → Far start line u moments held w → Far start line u moments held (after w Taken)
far_taken start line u moments held w some far = record {
  unit = stays_up w Taken u far.unit;
  far = answers_go start line u moments held w far.unit some far.far;
}

pub so_far_taken : (start : Replay) (line : ℕ) (moments : List Moment) (held : ℕ → Pack) (w : World) → Waits w
    → IsSoFar start line moments held w → IsSoFar start line moments held (all_taken w)
so_far_taken start line moments held w (inl none) far = subst (IsSoFar start line moments held) (sym (nothing_taken w none)) far
so_far_taken start line moments held w (inr unit) far =
    (taken_by (Far start line unit.0 moments held) (far_taken start line unit.0 moments held) w.answers w refl (record { unit = unit.1; far = far })).far

-- so does a drain,
record Draining (start : Replay) (line u : ℕ) (moments : List Moment) (held : ℕ → Pack) (w : World) : Type 0 where
  unit : IsSetUp w u
  far : IsDraining start line moments held w

drain_taken : (start : Replay) (line u : ℕ) (moments : List Moment) (held : ℕ → Pack) (w : World) → IsSetUp w u → 0 < length w.answers
    → IsDraining start line moments held w → IsDraining start line moments held (after w Taken)
drain_taken start line u moments held w unit some far =
    let last : Replay = far.ends.last in
    let rests : Rests line true far.ends.over.act w last = far.ends.over.rests in
    let works : Works w (Taken ∷ []) = taken_works sound_after w rests.sound far.work some in
    let one : Shows u w last = shows_one u w last unit.unit rests.shows (calm w last u far.work unit (rests.shows.units u unit)).coming in
    record {
      follows = far.follows;
      ends = record {
        last = last;
        is = far.ends.is;
        over = record {
          act = far.ends.over.act;
          rests = record {
            sound = works.sound;
            shows = shows_all u (after w Taken) last (rest_shows u line w last rests.sound one).1 (calm w last u far.work unit (rests.shows.units u unit)).coming;
            event = rests.event;
            quiet = rests.quiet;
          };
          over = far.ends.over.over;
        };
        packs = far.ends.packs;
      };
      work = works.work;
      there = far.there;
    }

draining_step : (start : Replay) (line u : ℕ) (moments : List Moment) (held : ℕ → Pack) (w : World) → 0 < length w.answers
    → Draining start line u moments held w → Draining start line u moments held (after w Taken)
draining_step start line u moments held w some far = record {
  unit = stays_up w Taken u far.unit;
  far = drain_taken start line u moments held w far.unit some far.far;
}

pub draining_taken : (start : Replay) (line : ℕ) (moments : List Moment) (held : ℕ → Pack) (w : World) → Waits w
    → IsDraining start line moments held w → IsDraining start line moments held (all_taken w)
draining_taken start line moments held w (inl none) far = subst (IsDraining start line moments held) (sym (nothing_taken w none)) far
draining_taken start line moments held w (inr unit) far =
    (taken_by (Draining start line unit.0 moments held) (draining_step start line unit.0 moments held) w.answers w refl (record { unit = unit.1; far = far })).far

-- and so do the packs.
record Kept (drives : ℕ → Option DriveKind) (old held : ℕ → Pack) (w : World) : Type 0 where
  sound : Sound w
  kept : IsKept drives old held w

kept_step : (drives : ℕ → Option DriveKind) (old held : ℕ → Pack) (w : World) → 0 < length w.answers → Kept drives old held w → Kept drives old held (after w Taken)
kept_step drives old held w some kept = record {
  sound = sound_after w Taken kept.sound some;
  kept = answers_keep drives old held w kept.sound some kept.kept;
}

pub kept_taken : (drives : ℕ → Option DriveKind) (old held : ℕ → Pack) (w : World) → Sound w → IsKept drives old held w → IsKept drives old held (all_taken w)
kept_taken drives old held w sound kept =
    (taken_by (Kept drives old held) (kept_step drives old held) w.answers w refl (record { sound = sound; kept = kept })).kept
