use Rattle.std.proofs.Common.{inl}
use Rattle.pack_format.specs.Formatted.{table_for}
use Rattle.promise_rows.proofs.Shown.{add_unchanged, cached, headline, stopped, refusals, reads, writes}
use Rattle.promise_rows.proofs.caller.caller.Goals as goal

pub returns-clause-headline : goal.returns-clause-headline
returns-clause-headline g c = λ is done tell. headline (c.run.ensures.play is) done tell

pub returns-clause-stopped : goal.returns-clause-stopped
returns-clause-stopped g c = λ is code tell. stopped (c.run.ensures.play is) code tell

pub returns-clause-refusals : goal.returns-clause-refusals
returns-clause-refusals g c = λ is tell. refusals (c.run.ensures.play is) tell

pub returns-clause-tables : goal.returns-clause-tables
returns-clause-tables g c = λ tell.
    let tool = c.run.ensures.tool in
    record {
      lists = λ unit kind is zero. let l = (tool.list unit kind is).listed zero in (l.table, l.is.table_is tell.packs, l.told tell.out);
      list_changes_nothing = λ unit kind is. (tool.list unit kind is).same tell.packs;
      freshens = λ unit serial kind is zero. (tool.fresh unit serial kind is).done (inl zero) tell.packs;
      adds = λ unit block kind way below is zero.
          let a = (tool.add unit block kind way is).added (inl zero) in
          ((a.adds tell.packs).table, a.index, c.add_law.ensures.edits kind unit block a.index way _ _ below (a.adds tell.packs), a.told zero tell.out);
      add_elsewhere = λ unit block other kind way below is zero apart.
          let a = (tool.add unit block kind way is).added (inl zero) in
          c.add_law.ensures.elsewhere kind unit block a.index other way _ _ (a.adds tell.packs) apart;
      add_refused = λ unit block kind way is code. add_unchanged (tool.add unit block kind way is) code tell.packs;
      marks = λ unit kind is zero.
          let m = (tool.mark unit kind is).marked (inl zero) in
          ((m.marks tell.packs).table, c.mark_law.ensures.up kind unit m.count _ _ (m.marks tell.packs));
      formats = λ unit serial kind is zero.
          let f = ((tool.format unit serial kind is).formatted (inl zero)).done tell.packs in
          (table_for kind serial _, f.0.table_is, f.0.content);
      format_refused = λ unit serial kind is code. (tool.format unit serial kind is).unchanged code tell.packs;
    }

pub returns-clause-partitions : goal.returns-clause-partitions
returns-clause-partitions g c = λ tell. record {
  reads = λ t size is zero. reads t size (c.run.ensures.transfer _ is) zero tell;
  writes = λ t is zero. writes t (c.run.ensures.transfer _ is) zero tell;
}

pub returns-clause-exercise : goal.returns-clause-exercise
returns-clause-exercise g c = λ number is zero tell.
    let done = (c.run.ensures.exercise number is).done zero in
    record { tally = done.tally; answered = done.exercised.answered; printed = done.told tell.out }

pub returns-clause-cached : goal.returns-clause-cached
returns-clause-cached g c = λ capacity is zero tell. cached (c.run.ensures.cached capacity is) zero tell
