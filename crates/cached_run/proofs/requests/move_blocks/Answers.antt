use Rattle.std.proofs.Common.{◌<◌, length, refl, ◌∙◌, arith}
use Rattle.std.specs.Prelude.{slice_set}
use Rattle.std.proofs.lemmas.List.{length-set}
use Rattle.buffer_cache.specs.Passes.{seen}
use Rattle.cached_run.specs.Places.{Place}
use Rattle.cached_run.proofs.Keepings.{data_at}
use Rattle.cached_run.proofs.Readings.{set_behind}
use Rattle.cached_run.proofs.Touching.{moved_all, moved_cut, moved_end, moved_more, moved_none}
use Rattle.cached_run.proofs.requests.move_blocks.Goals as goal

pub loop-k-init : goal.loop-k-init
loop-k-init g c = record {
  so_far = moved_none c.args.line c.args.unit c.args.first c.args.written.now c.args.blocks.now.items (g.S.Scene.at c.args.scene.now) c.requires.may.may;
  room = refl;
  loans = refl;
}

pub touch-requires : goal.touch-requires
touch-requires g c =
    let old : Place = g.S.Scene.at c.args.scene.now in
    let mid : Place = g.S.Scene.at c.loop-k.scene in
    record {
      may = record {
        line_is = c.requires.may.line_is;
        may = c.loop-k.invariant.so_far.may;
        block_is = data_at (seen old.spot) (seen mid.spot) c.args.unit c.args.first c.args.count c.loop-k.k c.loop-k-test.true c.loop-k.invariant.so_far.setup (c.loop-k.invariant.so_far.keeps.units refl) c.requires.may.blocks_are;
      };
    }

pub loop-k-preserved : goal.loop-k-preserved
loop-k-preserved g c =
    let old : Place = g.S.Scene.at c.args.scene.now in
    let mid : Place = g.S.Scene.at c.loop-k.scene in
    let new : Place = g.S.Scene.at c.touch.new.self in
    let room = c.requires.room in
    let same = c.loop-k.invariant.room in
    let here = c.loop-k-test.true in
    let lt : c.loop-k.k < length c.loop-k.blocks.items = omega (arith, room, same, here) in
    record {
      so_far = moved_more c.args.line c.args.unit c.args.first c.args.count c.loop-k.k c.args.written.now c.touch.new.into c.loop-k.blocks.items old mid new c.loop-k.invariant.so_far c.in-Ok.ensures.silent tt lt c.in-Ok.ensures.touches;
      room = length-set c.loop-k.blocks.items c.loop-k.k c.touch.new.into ∙ same;
      loans = c.in-Ok.ensures.loans ∙ c.loop-k.invariant.loans;
    }

pub returns-in-Err-Unusable-clause-moves : goal.returns-in-Err-Unusable-clause-moves
returns-in-Err-Unusable-clause-moves g c =
    let old : Place = g.S.Scene.at c.args.scene.now in
    let mid : Place = g.S.Scene.at c.loop-k.scene in
    let new : Place = g.S.Scene.at c.touch.new.self in
    moved_end c.args.line c.args.unit c.args.first c.args.count c.loop-k.k c.args.written.now c.touch.new.into c.loop-k.blocks.items old mid new c.loop-k.invariant.so_far c.in-Err-Unusable.ensures.silent
    c.in-Err-Unusable.field-0 (slice_set c.loop-k.blocks.items c.loop-k.k c.touch.new.into) c.in-Err-Unusable.field-0-is c.loop-k-test.true (set_behind c.loop-k.blocks.items c.loop-k.k c.touch.new.into) c.in-Err-Unusable.ensures.touches

pub returns-in-Err-Unusable-clause-room : goal.returns-in-Err-Unusable-clause-room
returns-in-Err-Unusable-clause-room g c = length-set c.loop-k.blocks.items c.loop-k.k c.touch.new.into ∙ c.loop-k.invariant.room

pub returns-in-Err-Unusable-clause-loans : goal.returns-in-Err-Unusable-clause-loans
returns-in-Err-Unusable-clause-loans g c = c.in-Err-Unusable.ensures.loans ∙ c.loop-k.invariant.loans

pub returns-in-Err-Stop-clause-moves : goal.returns-in-Err-Stop-clause-moves
returns-in-Err-Stop-clause-moves g c =
    let old : Place = g.S.Scene.at c.args.scene.now in
    let mid : Place = g.S.Scene.at c.loop-k.scene in
    let new : Place = g.S.Scene.at c.touch.new.self in
    moved_cut c.args.line c.args.unit c.args.first c.args.count c.loop-k.k c.args.written.now c.touch.new.into c.loop-k.blocks.items old mid new c.loop-k.invariant.so_far c.in-Err-Stop.ensures.silent
    c.in-Err-Stop.field-0 c.in-Err-Stop.stop (slice_set c.loop-k.blocks.items c.loop-k.k c.touch.new.into) c.in-Err-Stop.field-0-is c.loop-k-test.true c.in-Err-Stop.ensures.touches

pub returns-in-Err-Stop-clause-room : goal.returns-in-Err-Stop-clause-room
returns-in-Err-Stop-clause-room g c = length-set c.loop-k.blocks.items c.loop-k.k c.touch.new.into ∙ c.loop-k.invariant.room

pub returns-in-Err-Stop-clause-loans : goal.returns-in-Err-Stop-clause-loans
returns-in-Err-Stop-clause-loans g c = c.in-Err-Stop.ensures.loans ∙ c.loop-k.invariant.loans

pub returns-clause-moves : goal.returns-clause-moves
returns-clause-moves g c =
    let end = c.loop-k.auto.k-end in
    let over = c.loop-k-test.false in
    moved_all c.args.line c.args.unit c.args.first c.args.count c.loop-k.k c.args.written.now c.loop-k.blocks.items (g.S.Scene.at c.args.scene.now) (g.S.Scene.at c.loop-k.scene) (omega (arith, end, over)) c.loop-k.invariant.so_far

pub returns-clause-room : goal.returns-clause-room
returns-clause-room g c = c.loop-k.invariant.room

pub returns-clause-loans : goal.returns-clause-loans
returns-clause-loans g c = c.loop-k.invariant.loans
