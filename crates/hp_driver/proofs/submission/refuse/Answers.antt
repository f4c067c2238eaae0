use Rattle.std.proofs.Common.{ap, sym, ◌∷◌, [], ℕ}
use Rattle.driver_machine.specs.World.{adapter_of}
use Rattle.driver_machine.specs.Acts.{Refuse}
use Rattle.driver_machine.specs.Events.{adapter_start}
use Rattle.hp_driver.proofs.Joined.{of_act, then_part, stopped_part}
use Rattle.hp_driver.proofs.Exits.{as_acts, handed}
use Rattle.hp_driver.proofs.Parts.{sound_then}
use Rattle.hp_driver.proofs.submission.refuse.Goals as goal

pub returns-in_err-refuse : goal.returns-in_err-refuse
returns-in_err-refuse g c = λ r unit named may.
    handed _ _ _ _ _ _ _ _ _ c.from_residual.ensures.1
    (stopped_part _ _ _ _ _ _ _ _ (Refuse c.args.line r c.args.kind ∷ []) (adapter_start c.args.line (adapter_of r.unit)) (of_act _ _ _ _ _ _ _ _ _ (c.in_err-refuse.ensures r unit named may)))

pub start_adapter-requires-clause-sound : goal.start_adapter-requires-clause-sound
start_adapter-requires-clause-sound g c =
    sound_then _ _ _ _ _ _ _ _ _ c.requires.sound c.requires.may.may
    (c.in_ok-refuse.ensures c.requires.may.request c.requires.may.unit c.requires.may.named c.requires.may.may)

pub returns : goal.returns
returns g c = λ r unit named may.
    then_part _ _ _ _ _ _ _ _ _ _ _ (Refuse c.args.line r c.args.kind ∷ []) (adapter_start c.args.line (adapter_of r.unit))
    (of_act _ _ _ _ _ _ _ _ _ (c.in_ok-refuse.ensures r unit named may))
    (as_acts _ _ _ _ _ _ _ _ _ _ (ap (λ (n : ℕ). adapter_start c.args.line (adapter_of n) c.refuse.new.self.world) (sym unit)) c.start_adapter.ensures)
