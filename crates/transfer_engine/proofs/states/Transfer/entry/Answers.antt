use Rattle.std.proofs.Common.{sym, ap, ◌∙◌}
use Rattle.std.specs.Option.{option_copied}
use Rattle.transfer_engine.proofs.EntryLaws.{none_for_replacement, none_without, listed_for, place_inside}
use Rattle.transfer_engine.proofs.Listing.{small}
use Rattle.transfer_engine.proofs.states.Transfer.entry.Goals as goal

pub returns-then-is_some-clause-entry : goal.returns-then-is_some-clause-entry
returns-then-is_some-clause-entry c =
    none_for_replacement c.args.clean _ c.parts-done.result.0 c.parts-done.result.1 _ c.parts-done.ensures.parts (sym c.is_some.ensures ∙ c.if-is_some.true)

pub returns-then-is_some-clause-bound : goal.returns-then-is_some-clause-bound
returns-then-is_some-clause-bound c = tt

pub returns-in_err-table : goal.returns-in_err-table
returns-in_err-table c = record {
  entry = none_without c.args.clean c.parts-done.result.0 c.parts-done.result.1 _ _ _ c.parts-done.ensures.parts (sym c.is_some.ensures ∙ c.if-is_some.false)
      (ap option_copied c.in_err-table.was) c.from_residual.ensures;
  bound = rw c.from_residual.ensures tt;
}

pub place_of-place-requires : goal.place_of-place-requires
place_of-place-requires c =
    place_inside c.args.clean c.parts-done.result.0 c.parts-done.result.1 _ c.parts-done.ensures.parts (sym c.is_some.ensures ∙ c.if-is_some.false) c.parts-done.ensures.valid c.requires

pub returns-clause-entry : goal.returns-clause-entry
returns-clause-entry c =
    listed_for c.args.clean c.parts-done.result.0 c.parts-done.result.1 _ _ c.in_ok-table.table.now c.place_of-place.result _ c.parts-done.ensures.parts (sym c.is_some.ensures ∙ c.if-is_some.false)
    (ap option_copied c.in_ok-table.was) c.place_of-place.ensures.place c.position.ensures.index

pub returns-clause-bound : goal.returns-clause-bound
returns-clause-bound c = small c.in_ok-table.table.now c.place_of-place.result c.position.result c.entries-count.ensures.valid c.position.ensures.listed
