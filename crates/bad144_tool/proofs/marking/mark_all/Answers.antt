use Rattle.std.proofs.Common.{ℕ, List, ap, length, ◌≡◌, ◌≤◌, ◌+◌, ◌∙◌, Bool, true, false, arith}
use Rattle.std.specs.Prelude.{if◌then◌else◌}
use Rattle.pack_geometry.specs.declared.Place.{Place}
use Rattle.bad144_tool.specs.Marking.{markings, to_mark}
use Rattle.bad144_tool.proofs.ChangeLaws.{does_same}
use Rattle.bad144_tool.proofs.CopyLaws.{listed_inside}
use Rattle.bad144_tool.proofs.ExitLaws.{no_value}
use Rattle.bad144_tool.proofs.MarkLaws.{all_taken, count_then, does_err, does_front, does_ok, place_then, wanted_first}
use Rattle.bad144_tool.proofs.marking.mark_all.Goals as goal

small_then : (count i n : ℕ) (on : Bool) → n ≡ count + (if on then 1 else 0) → count ≤ i → n ≤ i + 1
small_then count i n true is le = omega arith
small_then count i n false is le = omega arith

pub mark_place-requires : goal.mark_place-requires
mark_place-requires g c = record {
  unit = c.requires.unit;
  place = listed_inside c.args.kind c.args.table.now c.loop-i.i c.entry.result c.requires.kind c.entries-i-end.ensures.valid c.entry.ensures;
}

pub returns-in_err-on : goal.returns-in_err-on
returns-in_err-on g c = record {
  does = does_err c.from_residual.ensures.0 (does_front c.args.kind c.args.unit (c.loop-i.i + 1) c.args.table.now.places
      (place_then c.args.kind c.args.table.now c.requires.kind c.entries-i-end.ensures.valid c.loop-i.i c.entry.result c.entry.ensures
      c.loop-i.invariant.does c.in_err-on.ensures.does));
  counted = no_value _ _ c.from_residual.ensures.0;
  few = no_value _ _ c.from_residual.ensures.0;
}

pub loop-i-preserved : goal.loop-i-preserved
loop-i-preserved g c =
    record {
      does = does_ok (place_then c.args.kind c.args.table.now c.requires.kind c.entries-i-end.ensures.valid c.loop-i.i c.entry.result c.entry.ensures
          c.loop-i.invariant.does c.in_ok-on.ensures.does);
      counted = λ t.
          let told = c.in_ok-on.ensures.does.never_again t in
          c.more-count.ensures
          ∙ count_then c.args.kind c.args.table.now c.requires.kind c.entries-i-end.ensures.valid c.loop-i.i c.entry.result c.entry.ensures
          (g.P.Packs.held c.args.packs.now c.args.unit) c.loop-i.count c.in_ok-on.on (c.loop-i.invariant.counted told)
          (c.in_ok-on.ensures.did t
          ∙ wanted_first c.args.kind c.args.table.now c.requires.kind c.entries-i-end.ensures.valid c.loop-i.i c.entry.result c.entry.ensures
          (g.P.Packs.held c.args.packs.now) (g.P.Packs.held c.loop-i.packs) c.args.unit (c.loop-i.invariant.does.done told));
      small = small_then c.loop-i.count c.loop-i.i c.more-count.result c.in_ok-on.on c.more-count.ensures c.loop-i.invariant.small;
    }

pub returns : goal.returns
returns g c =
    let so_far = c.loop-i.invariant in
    let pack = g.P.Packs.held c.args.packs.now c.args.unit in
    let whole = all_taken c.args.table.now.places c.loop-i.i c.entries-i-end.result c.entries-i-end.ensures.count c.loop-i-test.false in record {
      does = does_same (λ _. ap (λ (ps : List Place). markings c.args.kind pack ps) whole) so_far.does;
      counted = λ t. so_far.counted t ∙ ap (λ (ps : List Place). length (to_mark c.args.kind pack ps)) whole;
      few = omega (arith, so_far.small, c.entries-i-end.ensures.count, c.entries-i-end.ensures.valid.room);
    }
