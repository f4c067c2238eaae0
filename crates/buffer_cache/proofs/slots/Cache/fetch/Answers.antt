use Rattle.std.proofs.Common.{◌≤◌, [], ◌∷◌, refl, sym, subst}
use Rattle.std.specs.Prelude.{is_some, if◌then◌else◌, None}
use Rattle.driver_laws.specs.rules.Requests.{reads}
use Rattle.driver_laws.specs.rules.Entries.{to_write_back, write_backs}
use Rattle.blocking_io.proofs.Spots.{keeps_join, still, stopped}
use Rattle.buffer_cache.specs.Passes.{Spot, map_at, seen}
use Rattle.buffer_cache.specs.Asks.{AsksTill, Fetches}
use Rattle.buffer_cache.specs.Calls.{fetch_asked}
use Rattle.buffer_cache.proofs.Stays.{all_data, holds_untouched, holds_behind_read, fetched_true}
use Rattle.buffer_cache.proofs.Tills.{till_more, till_behind}
use Rattle.buffer_cache.proofs.slots.Cache.fetch.Goals as goal

pub fetch_block-requires-clause-may : goal.fetch_block-requires-clause-may
fetch_block-requires-clause-may g c = record { ready = c.requires.may.ready; room = c.requires.may.room; unit_is = c.requires.block.unit_is }

pub returns-in_err-fetch_block-clause-turns : goal.returns-in_err-fetch_block-clause-turns
returns-in_err-fetch_block-clause-turns g c =
    let old : Spot = g.S.Site.at c.args.site.now in
    let new : Spot = g.S.Site.at c.fetch_block.new.site in
    let m = c.in_err-fetch_block.ensures.turns in
    let held = map_at (seen old) c.args.unit c.args.block in
    stopped c.from_residual.result c.in_err-fetch_block.field-0.0 c.from_residual.ensures.1
    (λ t tables fit. holds_untouched 0 0 None c.args.self.now (seen old) (seen new) (m.left t tables))
    (λ t tables fit. till_more c.in_err-fetch_block.field-0.0 c.args.line (reads c.args.unit c.args.block ∷ []) (if is_some held then write_backs (to_write_back c.args.self.now) else []) (seen old) (seen new) m.stopped) m.keeps

pub returns-then-not-branch-clause-turns : goal.returns-then-not-branch-clause-turns
returns-then-not-branch-clause-turns g c =
    let old : Spot = g.S.Site.at c.args.site.now in
    let mid : Spot = g.S.Site.at c.fetch_block.new.site in
    let m = c.in_ok-fetch_block.ensures.turns in
    let fetches = subst (λ b. Fetches c.args.line c.args.unit c.args.block b c.fetch_block.new.into (seen old) (seen mid)) c.if-not-branch.true m.done in
    record {
      done = record { state = refl; asks = fetches.asks; told = fetches.told };
      left = tt;
      stopped = tt;
      keeps = m.keeps;
    }

pub returns-then-not-branch-clause-may : goal.returns-then-not-branch-clause-may
returns-then-not-branch-clause-may g c =
    let old : Spot = g.S.Site.at c.args.site.now in
    let mid : Spot = g.S.Site.at c.fetch_block.new.site in
    let m = c.in_ok-fetch_block.ensures.turns in
    record {
      ready = m.keeps.ready refl;
      room = subst (λ n. 1 ≤ n) (sym m.keeps.outstanding) c.requires.may.room;
      entries = all_data (seen old) (seen mid) c.args.self.now.entries m.done.asks.goes.setup (m.keeps.units refl) c.requires.may.entries;
    }

pub make_room-requires-clause-may : goal.make_room-requires-clause-may
make_room-requires-clause-may g c =
    let old : Spot = g.S.Site.at c.args.site.now in
    let mid : Spot = g.S.Site.at c.fetch_block.new.site in
    let m = c.in_ok-fetch_block.ensures.turns in
    record {
      ready = m.keeps.ready refl;
      room = subst (λ n. 1 ≤ n) (sym m.keeps.outstanding) c.requires.may.room;
      entries = all_data (seen old) (seen mid) c.args.self.now.entries m.done.asks.goes.setup (m.keeps.units refl) c.requires.may.entries;
    }

pub returns-in_err-make_room-clause-turns : goal.returns-in_err-make_room-clause-turns
returns-in_err-make_room-clause-turns g c =
    let old : Spot = g.S.Site.at c.args.site.now in
    let mid : Spot = g.S.Site.at c.fetch_block.new.site in
    let new : Spot = g.S.Site.at c.make_room.new.site in
    let m = c.in_ok-fetch_block.ensures.turns in
    let next = c.in_err-make_room.ensures.turns in
    let fetches = subst (λ b. Fetches c.args.line c.args.unit c.args.block b c.fetch_block.new.into (seen old) (seen mid)) c.if-not-branch.false m.done in
    stopped c.from_residual-in_err-make_room.result c.in_err-make_room.field-0.0 c.from_residual-in_err-make_room.ensures.1
    (holds_behind_read c.args.line c.args.unit c.args.block c.args.self.now (seen old) (seen mid) (seen new) fetches.asks next.keeps.never_again next.left)
    (λ t tables fit. subst (λ held. AsksTill c.in_err-make_room.field-0.0 c.args.line (fetch_asked held c.args.self.now c.args.unit c.args.block) (seen old) (seen new)) (sym (fetches.told (next.keeps.never_again t) tables))
    (till_behind c.in_err-make_room.field-0.0 c.args.line (reads c.args.unit c.args.block ∷ []) (write_backs (to_write_back c.args.self.now)) (seen old) (seen mid) (seen new) fetches.asks next.stopped (still next.keeps)))
    (keeps_join m.keeps next.keeps)

pub returns-clause-turns : goal.returns-clause-turns
returns-clause-turns g c =
    let old : Spot = g.S.Site.at c.args.site.now in
    let mid : Spot = g.S.Site.at c.fetch_block.new.site in
    let new : Spot = g.S.Site.at c.make_room.new.site in
    let m = c.in_ok-fetch_block.ensures.turns in
    let next = c.in_ok-make_room.ensures.turns in
    record {
      done = fetched_true c.sessions_law.ensures.join c.args.line c.args.unit c.args.block c.fetch_block.new.into c.args.self.now c.make_room.new.self (seen old) (seen mid) (seen new)
          (subst (λ b. Fetches c.args.line c.args.unit c.args.block b c.fetch_block.new.into (seen old) (seen mid)) c.if-not-branch.false m.done) c.in_ok-make_room.ensures.state next.done (still next.keeps);
      left = tt;
      stopped = tt;
      keeps = keeps_join m.keeps next.keeps;
    }

pub returns-clause-may : goal.returns-clause-may
returns-clause-may g c = c.in_ok-make_room.ensures.may
