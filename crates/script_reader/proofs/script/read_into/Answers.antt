use Rattle.std.proofs.Common.{◌+◌, ◌-◌, ◌≤◌, [], length, map, sym, ◌∙◌, arith}
use Rattle.std.proofs.lemmas.Bool.{eqb-true}
use Rattle.script_lines.specs.declared.statement.Span.{Span}
use Rattle.script_lines.specs.Knowing.{known_in}
use Rattle.script_reader.specs.Lines.{lines_of}
use Rattle.script_reader.specs.Reading.{reading}
use Rattle.script_reader.specs.Stored.{seen}
use Rattle.script_reader.proofs.ReaderLaws.{gone, behind, there, front_short, none_left}
use Rattle.script_reader.proofs.script.read_into.Goals as goal

pub lines-preserved : goal.lines-preserved
lines-preserved c =
    let text = c.args.text.now in
    let rest = c.lines.rest.now in
    let piece = c.first_piece.result.0.now in
    let after = c.first_piece.result.1.now in
    let line = c.without_cr-line.result.now in
    let start = length text - length rest in
    let span : Span = record { start = start; end = start + length line } in
    let so_far = c.lines.invariant in
    let split = c.first_piece.ensures in
    let stored = c.in_ok-store-in-Ok.ensures in
    let front = c.without_cr-line.ensures.front in
    let goes =
    gone c.args.dialect (known_in c.lines.known) (known_in c.store.new.known) text c.lines.lines.items c.store.new.lines.items c.lines.number span rest piece after line c.in-Ok.read
    (reading c.args.dialect [] 1 (lines_of text)) so_far.same so_far.known split.line c.without_cr-line.ensures.value (sym c.in-Ok.ensures.value)
    (there text rest piece line start so_far.place split.front front (front_short line piece front)) stored.learns stored.stores in
    let shorter : length after ≤ length rest = omega (arith, split.shorter) in record {
      same = goes.same;
      known = goes.known;
      place = behind text rest after so_far.place split.behind shorter so_far.within;
      within = omega (arith, shorter, so_far.within);
      first = omega arith;
      last = omega (arith, c.in-Ok.ensures.number);
      requests = omega (arith, stored.requests, so_far.requests);
      noises = omega (arith, stored.noises, so_far.noises);
    }

pub returns : goal.returns
returns c =
    let text = c.args.text.now in
    let rest = c.lines.rest.now in
    record {
      ok = none_left c.args.dialect (map (seen text) c.lines.lines.items) c.lines.number rest (reading c.args.dialect [] 1 (lines_of text))
          (eqb-true (length rest) 0 (sym c.is_empty.ensures ∙ c.lines-test.false)) c.lines.invariant.same;
      some = c.lines.invariant.first;
      err = tt;
    }
