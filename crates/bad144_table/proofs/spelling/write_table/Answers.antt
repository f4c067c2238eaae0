use Rattle.std.proofs.Common.{rules, ◌<◌, ◌∙◌, ap, take, length, arith, refl}
use Rattle.pack_geometry.specs.TableSpelling.{table_text}
use Rattle.bad144_table.proofs.SpellingLemmas.{front_long, front_more, text_step}
use Rattle.bad144_table.proofs.TableLemmas.{listed_numbers}
use Rattle.bad144_table.proofs.spelling.write_table.Goals as goal

pub write_pair-requires : goal.write_pair-requires
write_pair-requires c =
    let small = listed_numbers c.args.table.now c.entry.result c.loop-i.i c.entries-count.ensures.valid c.entry.ensures in record {
      room = search rules;
      cylinder = small.cylinder;
      track = small.track;
      sector = small.sector;
    }

pub loop-i-preserved : goal.loop-i-preserved
loop-i-preserved c =
    let small : c.loop-i.i < length c.args.table.now.places = omega (arith, c.entries-count.ensures.count) in
    text_step c.args.table.now.serial c.loop-i.i _ _ (take c.loop-i.i c.args.table.now.places) c.entry.result c.loop-i.into
    c.write_pair.new.into (front_long c.args.table.now.places c.loop-i.i small)
    (omega (arith, small, c.entries-count.ensures.valid.room)) refl refl c.loop-i.invariant c.write_pair.ensures
    ∙ ap (table_text c.args.table.now.serial)
    (front_more c.args.table.now.places c.loop-i.i c.entry.result c.entry.ensures small)
