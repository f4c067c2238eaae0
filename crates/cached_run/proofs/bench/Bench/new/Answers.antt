use Rattle.cached_run.proofs.bench.Bench.new.Goals as goal

pub returns-clause-cache : goal.returns-clause-cache
returns-clause-cache c =
    c.in_ok-cache.ensures

pub returns-clause-subsystem : goal.returns-clause-subsystem
returns-clause-subsystem c =
    c.in_ok-subsystem.ensures

pub returns-clause-desk : goal.returns-clause-desk
returns-clause-desk c =
    record { none = c.in_ok-desk.ensures.gather; room = c.in_ok-desk.ensures.blocks }
