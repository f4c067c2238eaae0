use Rattle.std.proofs.Common.{◌≡◌, ap, sym, ◌∙◌, ◌++◌, List, ℕ, subst, arith}
use Rattle.outside_traits.specs.Puts.{TakesFront}
use Rattle.bad144_tool.specs.Texts.{entry_line}
use Rattle.bad144_tool.proofs.CopyLaws.{listed_inside}
use Rattle.bad144_tool.proofs.ListLaws.{entries_front, entries_more, puts_front}
use Rattle.bad144_tool.proofs.tool.write_entries.Goals as goal

pub number-requires : goal.number-requires
number-requires g c = listed_inside c.args.kind c.args.table.now c.loop-i.i c.entry-place.result c.requires c.entries-i-end.ensures.valid c.entry-place.ensures

pub loop-i-preserved : goal.loop-i-preserved
loop-i-preserved g c =
    let line : c.as_bytes.result.now ≡ entry_line c.args.kind c.loop-i.i c.entry-place.result =
    c.as_bytes.ensures.text ∙ c.entry_line.ensures c.args.kind (sym c.number.ensures) in record {
      never_again = λ t. c.loop-i.invariant.never_again (c.in_ok-write_all.ensures.never_again t);
      told = λ t. entries_more c.args.kind c.args.table.now.places c.loop-i.i c.entry-place.result _ _ _ c.entry-place.ensures
          (c.loop-i.invariant.told (c.in_ok-write_all.ensures.never_again t))
          (c.in_ok-write_all.ensures.bytes t ∙ ap (λ (text : List ℕ). g.O.Sink.taken c.loop-i.out ++ text) line);
      later = omega (arith, c.loop-i.invariant.later, c.in_ok-write_all.ensures.cause.later);
    }

pub returns-in_err-write_all : goal.returns-in_err-write_all
returns-in_err-write_all g c =
    let line : c.as_bytes.result.now ≡ entry_line c.args.kind c.loop-i.i c.entry-place.result =
    c.as_bytes.ensures.text ∙ c.entry_line.ensures c.args.kind (sym c.number.ensures) in
    let puts = c.in_err-write_all.ensures in
    puts_front c.from_residual.ensures.0 (λ t. c.loop-i.invariant.never_again (puts.never_again t))
    (λ t. entries_front c.args.kind c.args.table.now.places c.loop-i.i c.entry-place.result _ _ _ c.entry-place.ensures
    (c.loop-i.invariant.told (puts.never_again t))
    (subst (λ (text : List ℕ). TakesFront (g.O.Sink.taken c.loop-i.out) (g.O.Sink.taken c.write_all.new.out) text) line (puts.front t)))
    (omega (arith, c.loop-i.invariant.later, puts.cause.later)) (omega (arith, c.loop-i.invariant.later, puts.cause.failed))
