-- The lines of a call write nothing, unless it is the move of a write.
use Rattle.std.proofs.Common.{◌≡◌, ◌⊎◌, inl, inr, ℕ, Bool, true, false, ◌&&◌, not, List, [], ◌∷◌, ◌++◌, refl, sym, ap, subst, ◌∙◌}
use Rattle.std.specs.Prelude.{if◌then◌else◌}
use Rattle.std.proofs.lemmas.Bool.{false≢true}
use Rattle.hardware_table.specs.declared.Moved.{Moved}
use Rattle.hardware_table.specs.declared.Work.TheVariants.{Ready, Transfer}
use Rattle.hardware_table.specs.Adapter.{next_block}
use Rattle.hardware_table.specs.Drive.{DriveState, is_writing}
use Rattle.hardware_table.specs.Moves.{was_written, has_bytes}
use Rattle.trace_replay.specs.Moments.{Played}
use Rattle.trace_replay.specs.Script as script
use Rattle.trace_replay.specs.Script.{Input}
use Rattle.trace_replay.specs.Replay.{Replay, after_moment}
use Rattle.driver_machine.specs.declared.Phase.TheVariants.{Transferring}
use Rattle.driver_machine.specs.World.{World, unit_at, adapter_at, adapter_of, unit_of, held_in, slot_in_hand, Held}
use Rattle.driver_machine.specs.Acts.{Act, Nothing, Tried, Sector}
use Rattle.driver_machine.specs.Lines.{lines_of_all}
use Rattle.driver_machine.specs.Events.{event_acts, move_acts, in_hand, or_nothing, can_move, submit_acts}
use Rattle.driver_machine.specs.Sound.{Sound, IsPhase}
use Rattle.driver_laws.proofs.invariant.Deeds.{deed_at}
use Rattle.driver_laws.proofs.invariant.Due.{in_hand_one}
use Rattle.driver_laws.proofs.invariant.Calls.{IsServing, serving}
use Rattle.driver_laws.specs.shown.Within.{ShowsAll}
use Rattle.driver_laws.proofs.shown.Starting.{set_up}
use Rattle.driver_laws.proofs.shown.Sectors.{IsNoMove, event_quiet, submission_quiet}
use Rattle.script_runs.specs.Writing.{WriteNothing}
use Rattle.script_runs.proofs.Writing.{quiet_write_nothing}
use Rattle.driver_laws.proofs.shown.Lengths.{same_shown}
use Rattle.trace_replay.specs.requests.Requests.{Request}
use Rattle.driver_machine.specs.Writes.{writes_by}

-- A TRANSFER that reads writes nothing.
both : (b c : Bool) → b && not c ≡ true → (b ≡ true) × (c ≡ false)
both true true e = absurd (false≢true e)
both true false e = (refl, refl)
both false c e = absurd (false≢true e)

read_only : (can write : Bool) → can && write ≡ false → can ≡ true → write ≡ false
read_only true write off can = off
read_only false write off can = absurd (false≢true can)

under_way : (w : World) (a : ℕ) → Sound w → (serves : IsServing w a) → can_move (adapter_at w a) ≡ true
    → (unit_at w (unit_of w a)).drive.work ≡ Transfer (adapter_at w a).state.write
under_way w a sound serves can =
    let on : ((adapter_at w a).state.busy ≡ true) × ((adapter_at w a).state.completion ≡ false) = both (adapter_at w a).state.busy (adapter_at w a).state.completion can in
    let is : IsPhase (unit_of w a) (unit_at w (unit_of w a)) (adapter_at w (adapter_of (unit_of w a))) (held_in w (slot_in_hand (unit_at w (unit_of w a)))) Transferring =
    subst (λ phase. IsPhase (unit_of w a) (unit_at w (unit_of w a)) (adapter_at w (adapter_of (unit_of w a))) (held_in w (slot_in_hand (unit_at w (unit_of w a)))) phase)
    ((sound.each_adapter a serves.adapter).busy on.0).1.phase (sound.each_unit (unit_of w a) serves.unit).phase in
    is.1.work ∙ ap (λ (b : ℕ). if (adapter_at w b).state.completion then Ready else Transfer (adapter_at w b).state.write) serves.its
    ∙ ap (λ (c : Bool). if c then Ready else Transfer (adapter_at w a).state.write) on.1

unwritten : (seen d : DriveState) (v : Moved) (write : Bool) → seen ≡ d → d.work ≡ Transfer write → write ≡ false → was_written seen v ≡ false
unwritten seen d v write same work off = ap (λ (x : DriveState). was_written x v) same ∙ at (has_bytes v) (is_writing d.work) (ap is_writing (work ∙ ap Transfer off))
  where
    at : (b c : Bool) → c ≡ false → b && c ≡ false
    at true c e = e
    at false c e = refl

-- the first ones of one act
one_front : (act : Act) (acts rest : List Act) → act ∷ [] ≡ acts ++ rest → (acts ≡ []) ⊎ (acts ≡ act ∷ [])
one_front act [] rest is = inl refl
one_front act (x ∷ []) rest is = inr (let e : act ∷ [] ≡ x ∷ rest = is in cc)
one_front act (x ∷ y ∷ acts) rest is = absurd (let e : act ∷ [] ≡ x ∷ (y ∷ (acts ++ rest)) = is in cc)

one_nothing : (s : Replay) (w : World) (act : Act) (acts rest : List Act) → act ∷ [] ≡ acts ++ rest → WriteNothing s (lines_of_all w (act ∷ [])) → WriteNothing s (lines_of_all w acts)
one_nothing s w act acts rest is none = elim (one_front act acts rest is) [
  | inl empty ↦ subst (λ (l : List Act). WriteNothing s (lines_of_all w l)) (sym empty) tt
  | inr whole ↦ subst (λ (l : List Act). WriteNothing s (lines_of_all w l)) (sym whole) none
]

-- A MOVE
move_nothing : (s : Replay) (w : World) (line a : ℕ) (t : Tried) (acts rest : List Act) → Sound w → ShowsAll w s → can_move (adapter_at w a) && (adapter_at w a).state.write ≡ false
    → move_acts line a t w ≡ acts ++ rest → WriteNothing s (lines_of_all w acts)
move_nothing s w line a t acts rest sound shows off cut = at (can_move (adapter_at w a)) refl cut
  where
    moved : can_move (adapter_at w a) ≡ true → in_hand line (unit_of w a) (Sector (next_block (adapter_at w a).state) t) w ≡ acts ++ rest → WriteNothing s (lines_of_all w acts)
    moved can cut =
        let serves : IsServing w a = serving w a sound (both (adapter_at w a).state.busy (adapter_at w a).state.completion can).0 in
        let same : in_hand line (unit_of w a) (Sector (next_block (adapter_at w a).state) t) w ≡ deed_at line (unit_of w a) (Sector (next_block (adapter_at w a).state) t) w ∷ [] =
        in_hand_one line (unit_of w a) (Sector (next_block (adapter_at w a).state) t) w serves.some in
        one_nothing s w (deed_at line (unit_of w a) (Sector (next_block (adapter_at w a).state) t) w) acts rest (sym same ∙ cut) (
          unwritten (s.units (unit_of w a)).drive (unit_at w (unit_of w a)).drive t.verdict (adapter_at w a).state.write
              (shows.units (unit_of w a) (set_up w (unit_of w a) sound serves.unit serves.some)).drive (under_way w a sound serves can)
              (read_only (can_move (adapter_at w a)) (adapter_at w a).state.write off can),
          tt,
        )

    at : (b : Bool) → can_move (adapter_at w a) ≡ b → or_nothing b line (in_hand line (unit_of w a) (Sector (next_block (adapter_at w a).state) t)) w ≡ acts ++ rest
        → WriteNothing s (lines_of_all w acts)
    at true can cut = moved can cut
    at false can cut = one_nothing s w (Nothing line) acts rest cut (refl, tt)

-- ANY OTHER EVENT tells of no sector.
quiet_event : (s : Replay) (w : World) (line : ℕ) (input : Input) (t : Tried) (acts rest : List Act) → IsNoMove input → event_acts line input t w ≡ acts ++ rest → WriteNothing s (lines_of_all w acts)
quiet_event s w line input t acts rest is cut = quiet_write_nothing s (lines_of_all w acts) (event_quiet line input t w acts rest is cut)

pub later_events_write_nothing : (s : Replay) (w : World) (line : ℕ) (input : Input) (tried : Tried) (acts rest : List Act) → Sound w → ShowsAll w s
    → writes_by w input ≡ false → event_acts line input tried w ≡ acts ++ rest → WriteNothing s (lines_of_all w acts)
later_events_write_nothing s w line (script.MoveAt a) t acts rest sound shows off cut = move_nothing s w line a t acts rest sound shows off cut
later_events_write_nothing s w line other t acts rest sound shows off cut = quiet_event s w line other t acts rest tt cut

-- THE FIRST EVENT of a drain
pub first_events_write_nothing : (s : Replay) (w : World) (line : ℕ) (input : Input) (tried : Tried) (acts rest : List Act) → Sound w → ShowsAll w s
    → writes_by w input ≡ false → event_acts line input tried w ≡ acts ++ rest → WriteNothing s (Played line script.Drain ∷ lines_of_all w acts)
first_events_write_nothing s w line input t acts rest sound shows off cut =
    (refl, later_events_write_nothing (after_moment s (Played line script.Drain)) w line input t acts rest sound (same_shown w s _ shows) off cut)

-- AN EVENT of the script
quiet_line : (s : Replay) (w : World) (line : ℕ) (input : Input) (t : Tried) (acts rest : List Act) → IsNoMove input → event_acts line input t w ≡ acts ++ rest
    → WriteNothing s (Played line input ∷ lines_of_all w acts)
quiet_line s w line input t acts rest is cut = (refl, quiet_event (after_moment s (Played line input)) w line input t acts rest is cut)

pub events_write_nothing : (s : Replay) (w : World) (line : ℕ) (input : Input) (tried : Tried) (acts rest : List Act) → Sound w → ShowsAll w s
    → writes_by w input ≡ false → event_acts line input tried w ≡ acts ++ rest → WriteNothing s (Played line input ∷ lines_of_all w acts)
events_write_nothing s w line (script.MoveAt a) t acts rest sound shows off cut =
    (refl, move_nothing (after_moment s (Played line (script.MoveAt a))) w line a t acts rest sound (same_shown w s _ shows) off cut)
events_write_nothing s w line other t acts rest sound shows off cut = quiet_line s w line other t acts rest tt cut

-- A SUBMISSION, and a drain that finds nothing to do
pub submissions_write_nothing : (s : Replay) (w : World) (line p : ℕ) (r : Request) (h : Held) (acts rest : List Act) → submit_acts r line p h w ≡ acts ++ rest
    → WriteNothing s (Played line (script.Submit r) ∷ lines_of_all w acts)
submissions_write_nothing s w line p r h acts rest cut =
    (refl, quiet_write_nothing (after_moment s (Played line (script.Submit r))) (lines_of_all w acts) (submission_quiet r line p h w acts rest cut))

pub empty_drains_write_nothing : (s : Replay) (w : World) (line : ℕ) → WriteNothing s (Played line script.Drain ∷ lines_of_all w (Nothing line ∷ []))
empty_drains_write_nothing s w line = (refl, (refl, tt))
