use Rattle.std.proofs.Common.{◌≡◌, inl, refl, sym, subst}
use Rattle.std.specs.Prelude.{not, None, Some, false}
use Rattle.std.specs.List.{AllByRecursion}
use Rattle.driver_laws.specs.rules.Entries.{State, entry_of}
use Rattle.buffer_cache.specs.Passes.{Spot, map_at, seen}
use Rattle.buffer_cache.specs.Asks.{AsksTill, IsData}
use Rattle.buffer_cache.specs.Calls.{Fetched}
use Rattle.buffer_cache.proofs.Serving.{put_refused, served_stopped}
use Rattle.buffer_cache.proofs.Stays.{data_stays, holds_more, room_none, put_data}
use Rattle.buffer_cache.proofs.Tills.{fetch_read, no_stop}
use Rattle.buffer_cache.proofs.Wholes.{read_unusable, read_usable, holds_read}
use Rattle.buffer_cache.proofs.slots.Cache.read_new.Goals as goal

pub returns-in_err-fetch-clause-serves : goal.returns-in_err-fetch-clause-serves
returns-in_err-fetch-clause-serves g c =
    let old : Spot = g.S.Site.at c.args.site.now in
    let new : Spot = g.S.Site.at c.fetch.new.site in
    let m = c.in_err-fetch.ensures.turns in
    served_stopped c.from_residual.result c.in_err-fetch.field-0.0 c.from_residual.ensures.1
    (λ t tables fit. holds_more c.args.unit c.args.block None c.args.self.now (seen old) (seen new) (m.left t tables fit)) (inl c.in_err-fetch.ensures.refused)
    (λ t tables fit. subst (λ rs. AsksTill c.in_err-fetch.field-0.0 c.args.line rs (seen old) (seen new)) (fetch_read (map_at (seen old) c.args.unit c.args.block) c.args.self.now c.args.unit c.args.block) (m.stopped t tables fit))
    m.keeps

pub returns-then-not-branch-clause-serves : goal.returns-then-not-branch-clause-serves
returns-then-not-branch-clause-serves g c =
    let old : Spot = g.S.Site.at c.args.site.now in
    let mid : Spot = g.S.Site.at c.fetch.new.site in
    let m = c.in_ok-fetch.ensures.turns in
    let reads = read_unusable c.cache_law.ensures.reads c.args.line c.args.unit c.args.block c.fetch.new.into c.args.self.now c.fetch.new.self (seen old) (seen mid) c.law.ensures c.requires.new
    (subst (λ b. Fetched c.args.line c.args.unit c.args.block b c.fetch.new.into c.args.self.now c.fetch.new.self (seen old) (seen mid)) c.if-not-branch.true m.done) in
    record {
      done = λ e. reads;
      holds = holds_read c.cache_law.ensures.read_leaves c.args.line c.args.unit c.args.block None c.args.self.now c.fetch.new.self (seen old) (seen mid) c.law.ensures reads;
      may = λ e. c.in_ok-fetch.ensures.may;
      refused = inl c.in_ok-fetch.ensures.refused;
      till = λ stop e. no_stop stop e;
      keeps = m.keeps;
    }

pub insert-requires : goal.insert-requires
insert-requires g c =
    let old : Spot = g.S.Site.at c.args.site.now in
    let mid : Spot = g.S.Site.at c.fetch.new.site in
    let fetched = subst (λ b. Fetched c.args.line c.args.unit c.args.block b c.fetch.new.into c.args.self.now c.fetch.new.self (seen old) (seen mid)) c.if-not-branch.false c.in_ok-fetch.ensures.turns.done in
    record { new = subst (λ (s : State). entry_of c.args.unit c.args.block s.entries ≡ None) (sym fetched.state) (room_none c.args.unit c.args.block c.args.self.now c.requires.new) }

pub returns-clause-serves : goal.returns-clause-serves
returns-clause-serves g c =
    let old : Spot = g.S.Site.at c.args.site.now in
    let mid : Spot = g.S.Site.at c.fetch.new.site in
    let m = c.in_ok-fetch.ensures.turns in
    let may = c.in_ok-fetch.ensures.may in
    let reads = read_usable c.cache_law.ensures.reads c.args.line c.args.unit c.args.block c.fetch.new.into (not c.insert.result) c.args.self.now c.fetch.new.self c.insert.new.self (seen old) (seen mid) c.law.ensures c.requires.new
    (subst (λ b. Fetched c.args.line c.args.unit c.args.block b c.fetch.new.into c.args.self.now c.fetch.new.self (seen old) (seen mid)) c.if-not-branch.false m.done) c.insert.ensures in
    record {
      done = λ e. reads;
      holds = holds_read c.cache_law.ensures.read_leaves c.args.line c.args.unit c.args.block (Some c.fetch.new.into) c.args.self.now c.insert.new.self (seen old) (seen mid) c.law.ensures reads;
      may = λ e. record {
        ready = may.ready;
        room = may.room;
        entries = subst (λ (s : State). AllByRecursion (λ e. IsData mid.driver.world e.unit e.block) s.entries) (sym c.insert.ensures)
            (put_data mid.driver.world (not c.insert.result) c.args.unit c.args.block c.fetch.new.into false c.fetch.new.self
            (data_stays (seen old) (seen mid) c.args.unit c.args.block m.done.asks.goes.setup (m.keeps.units refl) c.requires.block) may.entries);
      };
      refused = put_refused (not c.insert.result) _ c.args.self.now c.fetch.new.self c.insert.new.self c.in_ok-fetch.ensures.refused c.insert.ensures;
      till = λ stop e. no_stop stop e;
      keeps = m.keeps;
    }
