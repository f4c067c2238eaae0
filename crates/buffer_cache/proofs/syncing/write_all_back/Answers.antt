use Rattle.std.proofs.Common.{◌≡◌, ◌≤◌, ◌<◌, ℕ, IsTrue, [], refl, sym, ap, ◌∙◌, subst, rules}
use Rattle.std.specs.Prelude.{Some, false, slice_set, slice_index_or}
use Rattle.std.proofs.lemmas.List.{get_or_default, length-set}
use Rattle.driver_laws.specs.rules.Rest.{HasTables}
use Rattle.driver_laws.specs.rules.Requests.{writes}
use Rattle.driver_laws.specs.rules.Entries.{if_changed, write_backs}
use Rattle.blocking_io.proofs.Spots.{keeps_join, keeps_none, still, stopped}
use Rattle.buffer_cache.specs.Passes.{Spot, Stage, seen, setup_at}
use Rattle.buffer_cache.specs.Asks.{Asks, AsksTill, LeftBy}
use Rattle.buffer_cache.specs.declared.entry.Key.{Key}
use Rattle.buffer_cache.specs.declared.entry.Held.{Held}
use Rattle.buffer_cache.specs.Views.{nothing, entry_with, state_of}
use Rattle.buffer_cache.proofs.Joins.{asks_none}
use Rattle.buffer_cache.proofs.Orders.{apart_of}
use Rattle.buffer_cache.proofs.Stays.{data_stays}
use Rattle.buffer_cache.proofs.Tills.{flush_till}
use Rattle.buffer_cache.proofs.Turns.{Flushing, slot_now, data_now, flush_one, flush_stops, flushed_all}
use Rattle.buffer_cache.proofs.syncing.write_all_back.Goals as goal

pub loop-key-init : goal.loop-key-init
loop-key-init g c =
    let old : Spot = g.S.Site.at c.args.site.now in
    record {
      flushing = record {
        done = [];
        all = sym (c.into_iter-key-iterator.ensures.into_iter_gives ∙ c.iter-key-items.ensures.rest);
        asks = asks_none c.args.line (seen old);
        cleaned = refl;
        left = refl;
        room = refl;
      };
      keeps = keeps_none old c.requires.may.ready;
      loans = refl;
    }

pub index_mut-requires : goal.index_mut-requires
index_mut-requires g c =
    let old : Stage = seen (g.S.Site.at c.args.site.now) in
    let mid : Stage = seen (g.S.Site.at c.loop-key.site) in
    let p : Key × ℕ = (c.in-Some.key.now, c.in-Some.slot.now) in
    let f = subst (Flushing c.args.line c.args.order.now.entries c.args.slots.now.items c.loop-key.slots.items old mid) c.in-Some.ensures.steps c.loop-key.invariant.flushing in
    let lt = slot_now c.args.line c.args.order.now c.args.slots.now.items c.loop-key.slots.items old mid p c.next.new.self c.requires.kept c.len-count.ensures.valid.1 f in
    subst (λ n. c.in-Some.slot.now < n) (sym c.loop-key.slots.ok.0) lt

pub write_back-requires-clause-block : goal.write_back-requires-clause-block
write_back-requires-clause-block g c =
    let old : Stage = seen (g.S.Site.at c.args.site.now) in
    let mid : Stage = seen (g.S.Site.at c.loop-key.site) in
    let p : Key × ℕ = (c.in-Some.key.now, c.in-Some.slot.now) in
    let f = subst (Flushing c.args.line c.args.order.now.entries c.args.slots.now.items c.loop-key.slots.items old mid) c.in-Some.ensures.steps c.loop-key.invariant.flushing in
    data_stays old mid c.in-Some.key.now.unit c.in-Some.key.now.block f.asks.goes.setup (c.loop-key.invariant.keeps.units refl)
    (data_now c.args.line c.args.order.now.entries c.args.slots.now.items c.loop-key.slots.items old mid p c.next.new.self old.world c.requires.may.entries f)

pub write_back-requires-clause-may : goal.write_back-requires-clause-may
write_back-requires-clause-may g c =
    let old : Stage = seen (g.S.Site.at c.args.site.now) in
    let mid : Stage = seen (g.S.Site.at c.loop-key.site) in
    let p : Key × ℕ = (c.in-Some.key.now, c.in-Some.slot.now) in
    let f = subst (Flushing c.args.line c.args.order.now.entries c.args.slots.now.items c.loop-key.slots.items old mid) c.in-Some.ensures.steps c.loop-key.invariant.flushing in
    record {
      ready = c.loop-key.invariant.keeps.ready refl;
      room = subst (λ n. 1 ≤ n) (sym c.loop-key.invariant.keeps.outstanding) c.requires.may.room;
      unit_is = c.loop-key.invariant.keeps.units refl c.in-Some.key.now.unit
          (data_now c.args.line c.args.order.now.entries c.args.slots.now.items c.loop-key.slots.items old mid p c.next.new.self old.world c.requires.may.entries f).unit_is;
    }

pub loop-key-preserved : goal.loop-key-preserved
loop-key-preserved g c =
    let old : Stage = seen (g.S.Site.at c.args.site.now) in
    let mid : Stage = seen (g.S.Site.at c.loop-key.site) in
    let new : Stage = seen (g.S.Site.at c.write_back.new.site) in
    let m = c.in_ok-write_back.ensures.turns in
    let p : Key × ℕ = (c.in-Some.key.now, c.in-Some.slot.now) in
    let f = subst (Flushing c.args.line c.args.order.now.entries c.args.slots.now.items c.loop-key.slots.items old mid) c.in-Some.ensures.steps c.loop-key.invariant.flushing in
    let lt = slot_now c.args.line c.args.order.now c.args.slots.now.items c.loop-key.slots.items old mid p c.next.new.self c.requires.kept c.len-count.ensures.valid.1 f in
    let value : c.index_mut.result.now ≡ slice_index_or c.loop-key.slots.items c.in-Some.slot.now nothing =
    c.index_mut.ensures.value ∙ get_or_default c.loop-key.slots.items c.in-Some.slot.now c.index_mut.result.now nothing lt in
    record {
      flushing = subst (λ h. Flushing c.args.line c.args.order.now.entries c.args.slots.now.items (slice_set c.loop-key.slots.items c.in-Some.slot.now h) old new c.next.new.self)
          (sym (c.in_ok-write_back.ensures.held ∙ ap (λ (h : Held). record { bytes = h.bytes; changed = false }) value))
          (flush_one c.sessions_law.ensures.join c.args.line c.args.order.now.entries c.args.slots.now.items c.loop-key.slots.items old mid new p c.next.new.self c.requires.kept.slots_are lt f
          (subst (λ h. Asks c.args.line (write_backs (if_changed (Some (entry_with c.in-Some.key.now h)))) mid new) value m.done) (still m.keeps));
      keeps = keeps_join c.loop-key.invariant.keeps m.keeps;
      loans = search rules;
    }

pub returns-in_err-write_back-clause-turns : goal.returns-in_err-write_back-clause-turns
returns-in_err-write_back-clause-turns g c =
    let old : Stage = seen (g.S.Site.at c.args.site.now) in
    let mid : Stage = seen (g.S.Site.at c.loop-key.site) in
    let new : Stage = seen (g.S.Site.at c.write_back.new.site) in
    let m = c.in_err-write_back.ensures.turns in
    let p : Key × ℕ = (c.in-Some.key.now, c.in-Some.slot.now) in
    let f = subst (Flushing c.args.line c.args.order.now.entries c.args.slots.now.items c.loop-key.slots.items old mid) c.in-Some.ensures.steps c.loop-key.invariant.flushing in
    let lt = slot_now c.args.line c.args.order.now c.args.slots.now.items c.loop-key.slots.items old mid p c.next.new.self c.requires.kept c.len-count.ensures.valid.1 f in
    let value : c.index_mut.result.now ≡ slice_index_or c.loop-key.slots.items c.in-Some.slot.now nothing =
    c.index_mut.ensures.value ∙ get_or_default c.loop-key.slots.items c.in-Some.slot.now c.index_mut.result.now nothing lt in
    stopped c.from_residual.result c.in_err-write_back.field-0.0 c.from_residual.ensures.1
    (λ t tables fit.
    flush_stops c.args.line c.args.order.now.entries c.args.slots.now.items c.loop-key.slots.items (state_of c.args.order.now c.args.slots.now.items 0) old mid new p c.next.new.self refl
    (apart_of c.args.order.now.entries c.args.slots.now.items c.len-count.ensures.valid.0) f m.keeps.never_again
    (subst (λ (h : Held). IsTrue new.packs_tell → HasTables (setup_at mid) → LeftBy (writes c.in-Some.key.now.unit c.in-Some.key.now.block h.bytes) mid new) value m.left) t tables)
    (flush_till c.in_err-write_back.field-0.0 c.args.line c.args.order.now.entries c.args.slots.now.items c.loop-key.slots.items old mid new p c.next.new.self f
    (subst (λ (h : Held). AsksTill c.in_err-write_back.field-0.0 c.args.line (write_backs (if_changed (Some (entry_with c.in-Some.key.now h)))) mid new) value m.stopped) (still m.keeps))
    (keeps_join c.loop-key.invariant.keeps m.keeps)

pub returns-in_err-write_back-clause-room : goal.returns-in_err-write_back-clause-room
returns-in_err-write_back-clause-room g c = length-set c.loop-key.slots.items c.in-Some.slot.now c.write_back.new.held ∙ c.loop-key.invariant.flushing.room

pub returns-clause-turns : goal.returns-clause-turns
returns-clause-turns g c =
    let old : Stage = seen (g.S.Site.at c.args.site.now) in
    let now : Stage = seen (g.S.Site.at c.loop-key.site) in
    record {
      done = (flushed_all c.args.line c.args.order.now.entries c.args.slots.now.items c.loop-key.slots.items old now _ c.in-None.ensures.steps.0 c.loop-key.invariant.flushing).asks;
      left = tt;
      stopped = tt;
      keeps = c.loop-key.invariant.keeps;
    }

pub returns-clause-slots : goal.returns-clause-slots
returns-clause-slots g c =
    let old : Stage = seen (g.S.Site.at c.args.site.now) in
    let now : Stage = seen (g.S.Site.at c.loop-key.site) in
    (flushed_all c.args.line c.args.order.now.entries c.args.slots.now.items c.loop-key.slots.items old now _ c.in-None.ensures.steps.0 c.loop-key.invariant.flushing).cleaned

pub returns-clause-room : goal.returns-clause-room
returns-clause-room g c = c.loop-key.invariant.flushing.room
