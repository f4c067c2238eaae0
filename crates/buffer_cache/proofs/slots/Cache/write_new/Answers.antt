use Rattle.std.proofs.Common.{◌≡◌, [], ◌∷◌, inl, refl, sym, subst}
use Rattle.std.specs.Prelude.{None, Some, false, true}
use Rattle.driver_laws.specs.rules.Entries.{State, entry_of, to_write_back, write_backs}
use Rattle.driver_laws.specs.rules.Requests.{reads, writes}
use Rattle.driver_laws.specs.rules.Calls.{write_found}
use Rattle.blocking_io.proofs.Spots.{keeps_join, still}
use Rattle.buffer_cache.specs.Passes.{Spot, map_at, seen}
use Rattle.buffer_cache.specs.Asks.{AsksTill}
use Rattle.buffer_cache.specs.Calls.{Fetched}
use Rattle.buffer_cache.proofs.Serving.{refused_behind, served_stopped}
use Rattle.buffer_cache.proofs.Stays.{data_stays, holds_more, room_none}
use Rattle.buffer_cache.proofs.Tills.{no_stop, till_behind, till_write}
use Rattle.buffer_cache.proofs.Wholes.{write_unusable, write_usable, holds_write, holds_stored}
use Rattle.buffer_cache.proofs.slots.Cache.write_new.Goals as goal

pub returns-in_err-fetch-clause-serves : goal.returns-in_err-fetch-clause-serves
returns-in_err-fetch-clause-serves g c =
    let old : Spot = g.S.Site.at c.args.site.now in
    let new : Spot = g.S.Site.at c.fetch.new.site in
    let m = c.in_err-fetch.ensures.turns in
    served_stopped c.from_residual.result c.in_err-fetch.field-0.0 c.from_residual.ensures.1
    (λ t tables fit. holds_more c.args.unit c.args.block (Some c.args.from.now) c.args.self.now (seen old) (seen new) (m.left t tables fit)) (inl c.in_err-fetch.ensures.refused)
    (λ t tables fit. till_write c.in_err-fetch.field-0.0 c.args.line (map_at (seen old) c.args.unit c.args.block) c.args.self.now c.args.unit c.args.block c.args.from.now (seen old) (seen new) (m.stopped t tables fit))
    m.keeps

pub returns-then-not-branch-clause-serves : goal.returns-then-not-branch-clause-serves
returns-then-not-branch-clause-serves g c =
    let old : Spot = g.S.Site.at c.args.site.now in
    let mid : Spot = g.S.Site.at c.fetch.new.site in
    let m = c.in_ok-fetch.ensures.turns in
    let writes_none = write_unusable c.cache_law.ensures.writes c.args.line c.args.unit c.args.block c.args.from.now c.fetch.new.into c.args.self.now c.fetch.new.self (seen old) (seen mid) c.law.ensures c.requires.new
    (subst (λ b. Fetched c.args.line c.args.unit c.args.block b c.fetch.new.into c.args.self.now c.fetch.new.self (seen old) (seen mid)) c.if-not-branch.true m.done) in
    record {
      done = λ e. writes_none;
      holds = holds_write c.cache_law.ensures.write_leaves c.args.line c.args.unit c.args.block false c.args.from.now c.args.self.now c.fetch.new.self (seen old) (seen mid) c.law.ensures writes_none;
      may = λ e. c.in_ok-fetch.ensures.may;
      refused = inl c.in_ok-fetch.ensures.refused;
      till = λ stop e. no_stop stop e;
      keeps = m.keeps;
    }

pub place-requires-clause-may : goal.place-requires-clause-may
place-requires-clause-may g c = c.in_ok-fetch.ensures.may

pub place-requires-clause-block : goal.place-requires-clause-block
place-requires-clause-block g c =
    let old : Spot = g.S.Site.at c.args.site.now in
    let mid : Spot = g.S.Site.at c.fetch.new.site in
    let m = c.in_ok-fetch.ensures.turns in
    data_stays (seen old) (seen mid) c.args.unit c.args.block m.done.asks.goes.setup (m.keeps.units refl) c.requires.block

pub place-requires-clause-new : goal.place-requires-clause-new
place-requires-clause-new g c =
    let old : Spot = g.S.Site.at c.args.site.now in
    let mid : Spot = g.S.Site.at c.fetch.new.site in
    let fetched = subst (λ b. Fetched c.args.line c.args.unit c.args.block b c.fetch.new.into c.args.self.now c.fetch.new.self (seen old) (seen mid)) c.if-not-branch.false c.in_ok-fetch.ensures.turns.done in
    subst (λ (s : State). entry_of c.args.unit c.args.block s.entries ≡ None) (sym fetched.state) (room_none c.args.unit c.args.block c.args.self.now c.requires.new)

pub returns-in_err-place-clause-serves : goal.returns-in_err-place-clause-serves
returns-in_err-place-clause-serves g c =
    let old : Spot = g.S.Site.at c.args.site.now in
    let mid : Spot = g.S.Site.at c.fetch.new.site in
    let new : Spot = g.S.Site.at c.place.new.site in
    let m = c.in_ok-fetch.ensures.turns in
    let next = c.in_err-place.ensures.turns in
    let fetched = subst (λ b. Fetched c.args.line c.args.unit c.args.block b c.fetch.new.into c.args.self.now c.fetch.new.self (seen old) (seen mid)) c.if-not-branch.false m.done in
    served_stopped c.from_residual-in_err-place.result c.in_err-place.field-0.0 c.from_residual-in_err-place.ensures.1
    (holds_stored c.args.line c.args.unit c.args.block c.args.from.now c.fetch.new.into c.args.self.now c.fetch.new.self (seen old) (seen mid) (seen new) c.law.ensures fetched next.keeps.never_again next.left)
    (refused_behind c.args.self.now c.fetch.new.self c.place.new.self c.in_ok-fetch.ensures.refused c.in_err-place.ensures.refused)
    (λ t tables fit. subst (λ held. AsksTill c.in_err-place.field-0.0 c.args.line (write_found held true c.args.self.now c.args.unit c.args.block c.args.from.now).asked (seen old) (seen new)) (sym (fetched.told (next.keeps.never_again t) tables))
    (till_behind c.in_err-place.field-0.0 c.args.line (reads c.args.unit c.args.block ∷ write_backs (to_write_back c.args.self.now)) (writes c.args.unit c.args.block c.args.from.now ∷ []) (seen old) (seen mid) (seen new)
    fetched.asks next.stopped (still next.keeps)))
    (keeps_join m.keeps next.keeps)

pub returns-clause-serves : goal.returns-clause-serves
returns-clause-serves g c =
    let old : Spot = g.S.Site.at c.args.site.now in
    let mid : Spot = g.S.Site.at c.fetch.new.site in
    let new : Spot = g.S.Site.at c.place.new.site in
    let m = c.in_ok-fetch.ensures.turns in
    let next = c.in_ok-place.ensures.turns in
    let written = write_usable c.cache_law.ensures.writes c.sessions_law.ensures.join c.args.line c.args.unit c.args.block c.args.from.now c.fetch.new.into c.args.self.now c.fetch.new.self c.place.new.self (seen old) (seen mid) (seen new)
    c.law.ensures c.requires.new (subst (λ b. Fetched c.args.line c.args.unit c.args.block b c.fetch.new.into c.args.self.now c.fetch.new.self (seen old) (seen mid)) c.if-not-branch.false m.done) next.done (still next.keeps) in
    record {
      done = λ e. written;
      holds = holds_write c.cache_law.ensures.write_leaves c.args.line c.args.unit c.args.block true c.args.from.now c.args.self.now c.place.new.self (seen old) (seen new) c.law.ensures written;
      may = λ e. c.in_ok-place.ensures.may;
      refused = refused_behind c.args.self.now c.fetch.new.self c.place.new.self c.in_ok-fetch.ensures.refused c.in_ok-place.ensures.refused;
      till = λ stop e. no_stop stop e;
      keeps = keeps_join m.keeps next.keeps;
    }
