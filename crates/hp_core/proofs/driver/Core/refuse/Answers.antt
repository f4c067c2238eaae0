use Rattle.std.proofs.Common.{refl, sym, ap, ◌∙◌, ℕ, None, [], ◌∷◌, ◌++◌}
use Rattle.hp_core.proofs.Telling.{told_act}
use Rattle.driver_machine.specs.Lines.{answer_told}
use Rattle.trace_replay.specs.Moments as moments
use Rattle.driver_machine.specs.Acts.{Refuse, answer_at}
use Rattle.hp_core.proofs.driver.Core.refuse.Goals as goal

pub returns : goal.returns
returns g c = λ r unit id may. told_act _ _ _ _ _ _ _ _ (Refuse c.args.line r c.args.kind) (moments.Told c.args.line c.args.unit c.args.id (moments.End (answer_told c.args.kind []))) _ (record { reads = λ w p. tt; packs = λ w p. refl }) may (ap (λ (u : ℕ). moments.Told c.args.line u r.id (moments.End (answer_told c.args.kind [])) ∷ []) unit ∙ ap (λ (i : ℕ). moments.Told c.args.line c.args.unit i (moments.End (answer_told c.args.kind [])) ∷ []) id) (c.put_refuse.ensures ∙ ap (λ (i : ℕ). record c.args.self.now { world = record c.args.self.now.world { answers = c.args.self.now.world.answers ++ answer_at c.args.line None i c.args.kind ∷ [] } }) (sym id)) (c.tell.ensures (answer_told c.args.kind []))
