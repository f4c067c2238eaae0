use Rattle.std.proofs.Common.{refl, sym, ap, subst}
use Rattle.std.specs.Prelude.{None, Some, if◌then◌else◌}
use Rattle.driver_laws.specs.rules.Entries.{write_backs}
use Rattle.blocking_io.proofs.Spots.{keeps_none, stopped}
use Rattle.buffer_cache.specs.Passes.{Spot, seen}
use Rattle.buffer_cache.specs.Asks.{Asks, AsksTill}
use Rattle.buffer_cache.specs.Views.{entry_with}
use Rattle.buffer_cache.proofs.Joins.{asks_none}
use Rattle.buffer_cache.proofs.syncing.write_back.Goals as goal

pub returns-else-held-clause-turns : goal.returns-else-held-clause-turns
returns-else-held-clause-turns g c =
    let old : Spot = g.S.Site.at c.args.site.now in
    record {
      done = subst (λ b. Asks c.args.line (write_backs (if b then Some (entry_with c.args.key c.args.held.now) else None)) (seen old) (seen old)) (sym c.if-held.false) (asks_none c.args.line (seen old));
      left = tt;
      stopped = tt;
      keeps = keeps_none old c.requires.may.ready;
    }

pub returns-else-held-clause-held : goal.returns-else-held-clause-held
returns-else-held-clause-held g c = ap (λ b. record { bytes = c.args.held.now.bytes; changed = b }) c.if-held.false

pub returns-in_err-store_block-clause-turns : goal.returns-in_err-store_block-clause-turns
returns-in_err-store_block-clause-turns g c =
    let old : Spot = g.S.Site.at c.args.site.now in
    let new : Spot = g.S.Site.at c.store_block.new.site in
    let m = c.in_err-store_block.ensures.turns in
    stopped c.from_residual.result c.in_err-store_block.field-0.0 c.from_residual.ensures.1 m.left
    (subst (λ b. AsksTill c.in_err-store_block.field-0.0 c.args.line (write_backs (if b then Some (entry_with c.args.key c.args.held.now) else None)) (seen old) (seen new)) (sym c.if-held.true) m.stopped) m.keeps

pub returns-in_ok-store_block-clause-turns : goal.returns-in_ok-store_block-clause-turns
returns-in_ok-store_block-clause-turns g c =
    let old : Spot = g.S.Site.at c.args.site.now in
    let new : Spot = g.S.Site.at c.store_block.new.site in
    let m = c.in_ok-store_block.ensures.turns in
    record {
      done = subst (λ b. Asks c.args.line (write_backs (if b then Some (entry_with c.args.key c.args.held.now) else None)) (seen old) (seen new)) (sym c.if-held.true) m.done;
      left = tt;
      stopped = tt;
      keeps = m.keeps;
    }

pub returns-in_ok-store_block-clause-held : goal.returns-in_ok-store_block-clause-held
returns-in_ok-store_block-clause-held g c = refl
