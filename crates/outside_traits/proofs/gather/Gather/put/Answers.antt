use Rattle.std.proofs.Common.{List, ℕ, [], refl, subst}
use Rattle.std.specs.Prelude.{Err}
use Rattle.outside_traits.specs.Gathers.{Gathers}
use Rattle.outside_traits.proofs.GatherLaws.{put_behind, gathers_stop}
use Rattle.outside_traits.proofs.gather.Gather.put.Goals as goal

pub returns-in-Ok : goal.returns-in-Ok
returns-in-Ok g c =
    subst (λ (kept : List ℕ). Gathers g.T.Sink.tells g.T.Sink.taken g.T.Sink.faults c.args.sink.now c.put_first.new.sink kept c.put_first.new.self c.put_first.result c.args.text.now)
    (c.if-try_keep.ensures.full refl) (put_behind _ _ _ _ _ _ _ _ _ _ _ _ _ c.in-Ok.is c.flush.ensures.empty c.flush.ensures.gathers c.put_first.ensures)

pub returns-in-Err : goal.returns-in-Err
returns-in-Err g c =
    subst (λ (kept : List ℕ). Gathers g.T.Sink.tells g.T.Sink.taken g.T.Sink.faults c.args.sink.now c.flush.new.sink kept c.flush.new.self (Err c.in-Err.failed) c.args.text.now)
    (c.if-try_keep.ensures.full refl) (gathers_stop _ _ _ _ _ _ _ (Err c.in-Err.failed) (Err c.in-Err.failed) [] c.args.text.now refl refl c.in-Err.ensures.gathers)
