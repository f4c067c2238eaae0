-- A request that only reads: none is written, so each image stays.
use Rattle.std.proofs.Common.{◌≡◌, ◌⊎◌, inl, inr, ℕ, ◌<◌, true, Bool, false, IsTrue, List, [], length, Option, None, refl, sym, ap, ◌∙◌, subst, arith}
use Rattle.std.specs.Prelude.{is_some}
use Rattle.std.proofs.lemmas.Bool.{true≢false, false≢true}
use Rattle.pack_geometry.specs.declared.DriveKind.{DriveKind}
use Rattle.pack_geometry.specs.Pack.{Pack}
use Rattle.trace_replay.specs.requests.Requests.{Request}
use Rattle.trace_replay.specs.Script.{Input}
use Rattle.driver_machine.specs.World.{World, Held, unit_at}
use Rattle.driver_machine.specs.Acts.{Act, Taken, Tried, after, after_all}
use Rattle.driver_machine.specs.Events.{refusal_of, submit_acts, event_acts}
use Rattle.driver_machine.specs.Guards.{IsHeldFor}
use Rattle.driver_machine.specs.Sound.{Sound, AtWork}
use Rattle.driver_machine.specs.Runs.{Run, MaySubmit, MayCome}
use Rattle.driver_laws.proofs.invariant.Calls.{event_works, submit_works}
use Rattle.driver_laws.proofs.invariant.Sound.{sound_after}
use Rattle.driver_laws.specs.answers.Packs.{packs_after_all}
use Rattle.driver_laws.specs.answers.Waiting.{all_taken}
use Rattle.driver_laws.specs.answers.Outcome.{IsNextBlock}
use Rattle.driver_laws.specs.declared.answers.outcome.Stop.{Stop}
use Rattle.driver_laws.specs.declared.answers.outcome.Stop.TheVariants.{Store, Sink}
use Rattle.driver_laws.proofs.answers.Slots.{none_ended}
use Rattle.driver_laws.proofs.answers.Taking.{taken_by}
use Rattle.driver_laws.specs.shown.RunsRuns.{AreDeclared}
use Rattle.driver_laws.specs.shown.Reach.{Reaches, IsWithinReach}
use Rattle.driver_laws.proofs.shown.RunsCalls.{events_keep_reach, submissions_keep_reach, answers_keep_reach}
use Rattle.driver_laws.proofs.shown.Blocks.{next_blocks_stay}
use Rattle.hp_driver.specs.Passes.{IsQuiet}
use Rattle.hp_driver.specs.Subsystem.{is_move}
use Rattle.blocking_io.specs.Asking.{ImagesStay}
use Rattle.blocking_io.specs.Calls.{Stage, EventStops}
use Rattle.blocking_io.proofs.Trying.{IsMoveOf, move_of, one_front}

-- no block of any unit
abbrev nowhere : ℕ → ℕ
nowhere unit = 0

-- NOTHING IS WRITTEN by what the driver holds, and nothing was.
abbrev pub WritesNone : (old held : ℕ → Pack) → World → Type 0
WritesNone old held w = IsWithinReach nowhere old held w

pub images_stay : (old held : ℕ → Pack) (w : World) → WritesNone old held w → ImagesStay old held
images_stay old held w within unit = within.packs unit

pub same_images : (old mid new : ℕ → Pack) → new ≡ mid → ImagesStay old mid → ImagesStay old new
same_images old mid new same stay unit = ap (λ (packs : ℕ → Pack). (packs unit).image) same ∙ stay unit

-- a quiet driver holds no request
quiet_reaches : (w : World) → Sound w → IsQuiet w → Reaches nowhere w
quiet_reaches w sound quiet = record {
  requests = λ p h is writes. absurd (true≢false (sym (quiet.none p h is) ∙ none_ended w sound quiet.taken p h is));
  tables = λ unit table declared is some. absurd (never some);
}
  where
    never : 0 < 0 → ⊥
    never lt = omega (arith, lt)

record IsWithin (old held : ℕ → Pack) (w : World) : Type 0 where
  sound : Sound w
  within : WritesNone old held w

within_step : (old held : ℕ → Pack) (w : World) → 0 < length w.answers → IsWithin old held w → IsWithin old held (after w Taken)
within_step old held w some is = record { sound = sound_after w Taken is.sound some; within = answers_keep_reach nowhere old held w is.sound some is.within }

taken_stays : (old held : ℕ → Pack) (w : World) → Sound w → WritesNone old held w → WritesNone old held (all_taken w)
taken_stays old held w sound within = (taken_by (IsWithin old held) (within_step old held) w.answers w refl (record { sound = sound; within = within })).within

-- SO IT IS behind the submission of a read,
pub submission_writes_none : (line p : ℕ) (r : Request) (h : Held) (drives : ℕ → Option DriveKind) (held : ℕ → Pack) (w : World) → Sound w → AtWork w → IsQuiet w → MaySubmit w r p h
    → (refusal_of r w ≡ None → IsHeldFor (unit_at w h.unit).drive.kind r h) → AreDeclared drives w → r.written ≡ None
    → WritesNone held (packs_after_all w held (submit_acts r line p h w)) (all_taken (after_all w (submit_acts r line p h w)))
submission_writes_none line p r h drives held w sound work quiet may is units none =
    taken_stays held (packs_after_all w held (submit_acts r line p h w)) (after_all w (submit_acts r line p h w)) (submit_works sound_after r line p h w sound work may).sound
    (submissions_keep_reach nowhere drives held held w line p r h sound work may is units
    (λ kind there writes. absurd (false≢true (sym (ap (λ (written : Option (List ℕ)). is_some written) none) ∙ writes)))
    (record { reaches = quiet_reaches w sound quiet; packs = λ unit. refl }))

-- behind each event of its drain,
pub event_writes_none : (line : ℕ) (input : Input) (tried : Tried) (old held : ℕ → Pack) (w : World) → Sound w → AtWork w → MayCome w input tried → WritesNone old held w
    → WritesNone old (packs_after_all w held (event_acts line input tried w)) (all_taken (after_all w (event_acts line input tried w)))
event_writes_none line input tried old held w sound work may within =
    taken_stays old (packs_after_all w held (event_acts line input tried w)) (after_all w (event_acts line input tried w))
    (event_works sound_after line input tried w sound work may).sound (events_keep_reach nowhere old held w line input tried sound work may within)

-- and where an event stops each image is as it was.
pub stopped_stays : (stop : Stop) (line : ℕ) (input : Input) (old : ℕ → Pack) (mid new : Stage) (sent : List ℕ) → Sound mid.world → AtWork mid.world → IsTrue new.packs_tell
    → WritesNone old mid.held mid.world → EventStops stop sent line input mid new → ImagesStay old new.held
stopped_stays Store line input old mid new sent sound work told within e = by (e.packs told)
  where
    by : (new.held ≡ mid.held) ⊎ IsNextBlock mid.world mid.held new.held → ImagesStay old new.held
    by (inl same) = same_images old mid.held new.held same (images_stay old mid.held mid.world within)
    by (inr next) = λ unit. next_blocks_stay nowhere mid.held new.held mid.world sound within.reaches next unit ∙ within.packs unit
stopped_stays Sink line input old mid new sent sound work told within e = by (is_move input) refl
  where
    its : is_move input ≡ true → IsMoveOf line input e.tried mid.world mid.held
    its is = move_of line input e.tried mid.world mid.held is sound e.noise

    none_done : e.tells.done ≡ [] → ImagesStay old new.held
    none_done none =
        same_images old mid.held new.held (e.tells.packs told ∙ ap (λ (done : List Act). packs_after_all mid.world mid.held done) none)
        (images_stay old mid.held mid.world within)

    all_done : is_move input ≡ true → e.tells.done ≡ event_acts line input e.tried mid.world → ImagesStay old new.held
    all_done is all =
        same_images old (packs_after_all mid.world mid.held (event_acts line input e.tried mid.world)) new.held
        (e.tells.packs told ∙ ap (λ (done : List Act). packs_after_all mid.world mid.held done) all)
        (λ unit. (event_writes_none line input e.tried old mid.held mid.world sound work
        ((its is).may (subst (Run mid.world) all e.tells.run)) within).packs unit)

    moves : is_move input ≡ true → (e.tells.done ≡ []) ⊎ (e.tells.done ≡ event_acts line input e.tried mid.world) → ImagesStay old new.held
    moves is (inl none) = none_done none
    moves is (inr all) = all_done is all

    by : (b : Bool) → is_move input ≡ b → ImagesStay old new.held
    by false is = same_images old mid.held new.held (e.still is) (images_stay old mid.held mid.world within)
    by true is = moves is (one_front (event_acts line input e.tried mid.world) e.tells.done e.tells.left (its is).one.0 (its is).one.1 e.tells.all)
