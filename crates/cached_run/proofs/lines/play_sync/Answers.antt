use Rattle.cached_run.proofs.Playing.{plays_stopped, plays_synced}
use Rattle.cached_run.proofs.lines.play_sync.Goals as goal

pub returns-in_err-sync-clause-plays : goal.returns-in_err-sync-clause-plays
returns-in_err-sync-clause-plays g c = plays_stopped c.from_residual.result c.in_err-sync.field-0.0 c.from_residual.ensures.1 c.in_err-sync.ensures.syncs c.in_err-sync.ensures.silent

pub returns-clause-plays : goal.returns-clause-plays
returns-clause-plays g c = plays_synced tt c.in_ok-sync.ensures.syncs c.in_ok-sync.ensures.silent
