-- Each act keeps what holds of queues, slots, frames and answers.
use Rattle.std.proofs.Common.{◌≡◌, ℕ, ◌<◌, Bool, true, false, Some, None, refl, subst, arith, rules}
use Rattle.std.specs.Prelude.{IsTrue}
use Rattle.std.proofs.lemmas.Option.{none-some, same_Some}
use Rattle.partitions.specs.Partitions.{admission}
use Rattle.partitions.specs.declared.Admission.{Admission}
use Rattle.partitions.specs.declared.Admission.TheVariants.{Inside, Eof, Outside}
use Rattle.trace_replay.specs.declared.requests.answers.AnswerKind.{AnswerKind}
use Rattle.trace_replay.specs.declared.requests.answers.AnswerKind.TheVariants.{Error}
use Rattle.trace_replay.specs.declared.requests.answers.AnswerKind.TheVariants as answer
use Rattle.trace_replay.specs.declared.requests.answers.Cause.TheVariants as cause
use Rattle.driver_machine.specs.declared.Phase.TheVariants.{Transferring}
use Rattle.hardware_table.specs.Events.{turned, fault_armed, online_set, locked_set}
use Rattle.hardware_table.specs.Noise.{book_armed}
use Rattle.trace_replay.specs.Script as script
use Rattle.trace_replay.specs.Script.{Input}
use Rattle.driver_machine.specs.World.{World, unit_at, slot_in_hand}
use Rattle.driver_machine.specs.Acts as deed
use Rattle.driver_machine.specs.Acts.{Act, Deed, Refuse, Submit, Of, Change, Nothing, Taken, after, changed, effect, scene_of, answer_at}
use Rattle.driver_machine.specs.Events.{refusal_by, is_room}
use Rattle.driver_machine.specs.Guards.{InHand, May, MayChange, Allowed}
use Rattle.driver_machine.specs.Refusals.{refuses}
use Rattle.driver_machine.specs.Sound.{Sound}
use Rattle.driver_laws.proofs.invariant.Changed.{AreParts}
use Rattle.driver_laws.proofs.invariant.Hand.{slot_ok, own, deed_parts}
use Rattle.driver_laws.proofs.invariant.SlotsEachDeed.{GoesOn, deed_keeps, deed_fits}
use Rattle.driver_laws.proofs.invariant.SlotsEnd.{end_parts}
use Rattle.driver_laws.proofs.invariant.Joins.{join_parts}
use Rattle.driver_laws.proofs.invariant.Quiet.{quiet_parts, drive_parts, refused_parts, taken_parts}
use Rattle.trace_replay.proofs.Kept.{online_kind}
use Rattle.driver_laws.proofs.invariant.Parts.{IsServed, AreSlots, AreFrames, AreAnswers}

-- what holds holds in its parts
pub sound_parts : (w : World) → Sound w → AreParts w
sound_parts w s = first_of (search rules, grind arith)

going_parts : (w : World) (line u id : ℕ) (d : Deed) → Sound w → InHand w u id → May u d (scene_of w u) → GoesOn d → AreParts (after w (Of line u id d))
going_parts w line u id d s i may on =
    deed_parts w s u id i (effect line u (slot_in_hand (unit_at w u)) d (scene_of w u)) (deed_keeps line u (slot_in_hand (unit_at w u)) d (scene_of w u) on)
    (deed_fits line u (slot_in_hand (unit_at w u)) d (scene_of w u) on may
    (λ e. subst (λ (x : ℕ). (unit_at w x).phase ≡ Transferring) (own w s u id i) ((slot_ok w s u id i).bus e).1))

done_parts : (w : World) (line u id : ℕ) (d : Deed) → Sound w → InHand w u id → May u d (scene_of w u) → AreParts (after w (Of line u id d))
done_parts w line u id (deed.End kind) s i may = end_parts w s line u id i kind may
done_parts w line u id other s i may = going_parts w line u id other s i may tt

changed_parts : (w : World) (input : Input) → Sound w → MayChange w input → AreParts (changed input w)
changed_parts w (script.Turn u sector) s may = drive_parts w s u (turned sector) may.0.unit refl
changed_parts w (script.Noise noise) s may = quiet_parts w s (book_armed noise w.book) w.answers (λ q m. m) s.answers s.refused s.once
changed_parts w (script.Arm u kind times) s may = drive_parts w s u (fault_armed kind times) may.0.unit refl
changed_parts w (script.SetOnline u on) s may = drive_parts w s u (online_set on) may.unit (online_kind on (unit_at w u).drive)
changed_parts w (script.SetLocked u on) s may = drive_parts w s u (locked_set on) may.unit refl
changed_parts w input s may = absurd may

-- a request is refused with an answer of a refusal
refused_by : (admitted : Admission) (room : Bool) (kind : AnswerKind) → refusal_by admitted room ≡ Some kind → IsTrue (refuses kind)
refused_by Outside room kind e = subst (λ (k : AnswerKind). IsTrue (refuses k)) (same_Some (Error cause.Partition 0) kind e) refl
refused_by Eof room kind e = subst (λ (k : AnswerKind). IsTrue (refuses k)) (same_Some answer.Eof kind e) refl
refused_by (Inside first) false kind e = subst (λ (k : AnswerKind). IsTrue (refuses k)) (same_Some (Error cause.Frames 0) kind e) refl
refused_by (Inside first) true kind e = absurd (none-some kind e)

pub parts_after : (w : World) (act : Act) → Sound w → Allowed w act → AreParts (after w act)
parts_after w (Refuse line r kind) s may =
    refused_parts w (answer_at line None r.id kind) s refl
    (refused_by (admission (unit_at w r.unit).drive.kind r.part r.block r.count) (is_room r w) kind may.2)
parts_after w (Submit line p h) s may = join_parts w s line p h may
parts_after w (Of line u id d) s may = done_parts w line u id d s may.0 may.1
parts_after w (Change input) s may = changed_parts w input s may
parts_after w (Nothing line) s may = sound_parts w s
parts_after w Taken s may = taken_parts w s may

pub queues_after : (w : World) (act : Act) (u : ℕ) → Sound w → Allowed w act → u < 32 → IsServed (after w act) u (unit_at (after w act) u)
queues_after w act u s may lt = (parts_after w act s may).queues u lt

pub slots_after : (w : World) (act : Act) → Sound w → Allowed w act → AreSlots (after w act)
slots_after w act s may = (parts_after w act s may).slots

pub frames_after : (w : World) (act : Act) → Sound w → Allowed w act → AreFrames (after w act)
frames_after w act s may = (parts_after w act s may).frames

pub answers_after : (w : World) (act : Act) → Sound w → Allowed w act → AreAnswers (after w act)
answers_after w act s may = (parts_after w act s may).answers
