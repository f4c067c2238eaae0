-- THE END: the drive stands still, and the unit waits for its next request.
use Rattle.std.proofs.Common.{◌≡◌, inl, inr, ℕ, false, refl, ap}
use Rattle.hardware_table.specs.declared.Moved.TheVariants as verdict
use Rattle.driver_machine.specs.declared.Phase.{Phase}
use Rattle.driver_machine.specs.declared.Phase.TheVariants.{Waiting, Positioning, Queued, Transferring, Due}
use Rattle.driver_machine.specs.declared.Task.TheVariants.{Clear, Judge, Steps, Command, GiveUp}
use Rattle.trace_replay.specs.declared.requests.answers.AnswerKind.{AnswerKind}
use Rattle.driver_machine.specs.Acts.{Scene, effect, without}
use Rattle.driver_machine.specs.Acts as deed
use Rattle.driver_machine.specs.Sound.{IsPhase, IsStill}
use Rattle.driver_machine.specs.World.{UnitView, AdapterView, Held}
use Rattle.driver_machine.specs.Guards.{May}
use Rattle.driver_machine.proofs.Dues.{AtStart, AtStep, AtTransfer, AtChoice, Offline, Locked, Left, Unforwarded, Tried, Finished, Calls, Ends, IsAtCommand, IsDue}
use Rattle.driver_laws.proofs.invariant.Scene.{SceneOk, phase_is, due_of}
use Rattle.driver_laws.proofs.invariant.DeedFacts.{judged_is}
use Rattle.driver_laws.proofs.invariant.AdapterLeft.{is_transferring, calls_rest, SceneAdapter, AdapterLeft, queue_left, not_transferring}
use Rattle.driver_laws.proofs.invariant.Lists.{among_left, once_left}

-- END: the drive of a unit whose request ends stands still.
pub calls_still : (u : ℕ) (v : UnitView) (a : AdapterView) (h : Held) (phase : Phase) → Calls phase → IsPhase u v a h phase → IsStill v.drive
calls_still u v a h Waiting AtStart is = is.0
calls_still u v a h (Due (Steps taken)) (AtStep same) is = is.1
calls_still u v a h (Due Command) AtTransfer is = is.1
calls_still u v a h Queued AtChoice is = is.1
calls_still u v a h (Positioning taken) called is = elim called [ ]
calls_still u v a h Transferring called is = elim called [ ]
calls_still u v a h (Due (Clear moved last)) called is = elim called [ ]
calls_still u v a h (Due (Judge moved last)) called is = elim called [ ]
calls_still u v a h (Due (GiveUp done)) called is = elim called [ ]

ends_by : (u : ℕ) (s : Scene) (kind : AnswerKind) → SceneOk u s → Ends s.unit s.held kind → IsStill s.unit.drive
ends_by u s kind ok (Offline off calls) = calls_still u s.unit s.adapter s.held s.unit.phase calls ok.phase
ends_by u s kind ok (Locked on locked (inl is)) = (phase_is u s (Due Command) ok is).1
ends_by u s kind ok (Locked on locked (inr is)) = (phase_is u s Queued ok is).1
ends_by u s kind ok (Left moved judged) = (judged_is u moved verdict.Offline s ok judged).1
ends_by u s kind ok (Unforwarded moved judged none) = (judged_is u moved verdict.Marked s ok judged).1
ends_by u s kind ok (Tried done is) = (phase_is u s (Due (GiveUp done)) ok is).1
ends_by u s kind ok (Finished moved judged all) = (judged_is u moved verdict.Clean s ok judged).1

end_still : (u : ℕ) (kind : AnswerKind) (s : Scene) → SceneOk u s → IsDue s.unit s.held (deed.End kind) → IsStill s.unit.drive
end_still u kind s ok ends = ends_by u s kind ok ends

pub end_phase : (line u p : ℕ) (kind : AnswerKind) (s : Scene) (a : AdapterView) (h : Held) → SceneOk u s → IsDue s.unit s.held (deed.End kind)
    → IsPhase u (effect line u p (deed.End kind) s).unit a h Waiting
end_phase line u p kind s a h ok ends = (end_still u kind s ok ends, refl)

command_rest : (phase : Phase) → IsAtCommand phase → is_transferring phase ≡ false
command_rest phase at = elim at [ inl is ↦ ap is_transferring is | inr is ↦ ap is_transferring is ]

ends_rest : (v : UnitView) (h : Held) (kind : AnswerKind) → Ends v h kind → is_transferring v.phase ≡ false
ends_rest v h kind (Offline off calls) = calls_rest v.phase calls
ends_rest v h kind (Locked on locked at) = command_rest v.phase at
ends_rest v h kind (Left moved judged) = ap is_transferring judged.phase
ends_rest v h kind (Unforwarded moved judged none) = ap is_transferring judged.phase
ends_rest v h kind (Tried done is) = ap is_transferring is
ends_rest v h kind (Finished moved judged all) = ap is_transferring judged.phase

pub end_left : (line u p : ℕ) (kind : AnswerKind) (s : Scene) → SceneOk u s → SceneAdapter u s → May u (deed.End kind) s
    → AdapterLeft u s.adapter (effect line u p (deed.End kind) s).unit (effect line u p (deed.End kind) s).adapter (effect line u p (deed.End kind) s).held
end_left line u p kind s ok at may =
    let due = due_of u (deed.End kind) s may in
    queue_left u s ok at (effect line u p (deed.End kind) s).unit (effect line u p (deed.End kind) s).held (without u s.adapter.queue)
    (not_transferring s.unit.phase (ends_rest s.unit s.held kind due)) (λ x m other. (among_left x u s.adapter.queue m).0)
    (λ m. absurd ((among_left u u s.adapter.queue m).1 refl)) (once_left u s.adapter.queue at.once) refl
