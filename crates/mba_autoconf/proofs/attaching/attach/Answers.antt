use Rattle.std.proofs.Common.{ℕ, ◌≡◌, ◌*◌, ◌≤◌, Option, Some, None, ap, ◌∙◌, subst}
use Rattle.std.specs.Prelude.{IfSome}
use Rattle.pack_geometry.specs.declared.DriveKind.{DriveKind}
use Rattle.pack_geometry.specs.Geometry.{block_count}
use Rattle.pack_geometry.specs.Pack.{Pack}
use Rattle.pack_geometry.specs.PackTable.{IsTableOf}
use Rattle.pack_geometry.specs.TableSpelling.{IsTable}
use Rattle.mba_autoconf.proofs.attaching.attach.Goals as goal

both : {A : Type 0} (o : Option A) (P Q : A → Type 0) → IfSome o P → IfSome o Q → IfSome o (λ a. P a × Q a)
both None P Q p q = tt
both (Some a) P Q p q = (p, q)

pub returns-clause-table : goal.returns-clause-table
returns-clause-table g c =
    subst (λ (kind : DriveKind). IfSome c.in_ok-table.table (λ t. IsTable t × (t.kind ≡ kind))) c.kind_of_drive-kind.ensures
    (both _ _ _ c.valid_law.ensures c.in_ok-table.ensures.drive)

pub returns-clause-answer : goal.returns-clause-answer
returns-clause-answer g c = λ t.
    let kind = c.kind_of_drive-kind.ensures in
    let before = c.in_ok-table.ensures.never_again t in
    let count = c.from.ensures ∙ c.blocks-2.ensures ∙ ap block_count kind in (
      subst (λ (size : ℕ). size ≤ 512 * block_count c.args.drive.now.kind) (c.in_ok-length.ensures.length before)
          (subst (λ (blocks : ℕ). c.in_ok-length.length ≤ 512 * blocks) count c.if-length-from.false),
      subst (λ (of : DriveKind). IsTableOf of (g.P.Packs.held c.args.packs.now c.args.unit) c.in_ok-table.table) kind
          (subst (λ (held : ℕ → Pack). IsTableOf c.kind_of_drive-kind.result (held c.args.unit) c.in_ok-table.table) (c.in_ok-length.ensures.same before) (c.in_ok-table.ensures.table t)),
    )
