use Rattle.std.proofs.Common.{◌≡◌, ◌<◌, ℕ, List, length, get_or, arith, subst, ap, ◌∙◌}
use Rattle.std.proofs.lemmas.List.{get_or_default}
use borrow.Author.Count.{below_more}
use Rattle.pack_geometry.specs.declared.Place.{Place}
use Rattle.pack_geometry.specs.declared.DriveKind.{DriveKind}
use Rattle.pack_geometry.specs.Geometry.{block_number}
use Rattle.pack_geometry.specs.TableSpelling.{Table}
use Rattle.bad144_table.proofs.TableLemmas.{above_from}
use Rattle.bad144_table.proofs.table.rank.Goals as goal

pub returns-then-number-block-clause-above : goal.returns-then-number-block-clause-above
returns-then-number-block-clause-above c =
    let here = rw c.as_slice-place-items.ensures.value at c.number.ensures in
    let small : c.loop-i.i < length c.table.inside.places.items = omega (arith, ap length c.as_slice-place-items.ensures.value) in
    let blank : Place = record { cylinder = 0; track = 0; sector = 0 } in
    rw (← c.table.view_is)
    (above_from c.table.inside.kind c.table.inside.places.items c.loop-i.i c.args.block blank c.table.invariant.ascending small
    (omega (arith, here)))

pub loop-i-preserved : goal.loop-i-preserved
loop-i-preserved c =
    let items = c.as_slice-place-items.result.now in
    let kind = ap (λ (table : Table). table.kind) c.table.view_is in
    let blank : Place = record { cylinder = 0; track = 0; sector = 0 } in
    λ k d small. below_more (λ (j : ℕ). (other : Place) → block_number c.args.table.now.kind (get_or items j other) < c.args.block) c.loop-i.i
    (λ j before other. c.loop-i.invariant j other before)
    (λ other.
    let number = c.number.ensures ∙ ap (λ (k : DriveKind). block_number k (get_or items c.loop-i.i blank)) kind ∙ ap (block_number c.args.table.now.kind) (get_or_default items c.loop-i.i blank other c.loop-i-test.true) in
    subst (λ (n : ℕ). n < c.args.block) number c.if-number-block.false) k small d

pub returns : goal.returns
returns c =
    let same : c.as_slice-place-items.result.now ≡ c.args.table.now.places = c.as_slice-place-items.ensures.value ∙ ap (λ (table : Table). table.places) c.table.view_is in
    let count : c.len.result ≡ length c.args.table.now.places = c.len.ensures.value ∙ ap (λ (table : Table). length table.places) c.table.view_is in
    let long = ap (λ (xs : List Place). length xs) same in record {
      bound = omega (arith, count);
      below = λ k d h.
          subst (λ (xs : List Place). block_number c.args.table.now.kind (get_or xs k d) < c.args.block) same
          (c.loop-i.invariant k d (omega (arith, count, long, c.loop-i-test.false, h)));
      above = λ k d h s. absurd (omega (arith, count, h, s));
    }
