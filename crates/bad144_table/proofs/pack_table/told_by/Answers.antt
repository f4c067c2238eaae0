use Rattle.std.proofs.Common.{◌≡◌, ℕ, List, ap, sym, subst, ◌∙◌}
use Rattle.pack_geometry.specs.Pack.{Pack, block_at, is_marked}
use Rattle.pack_geometry.specs.Geometry.{copy_at}
use Rattle.pack_geometry.specs.TableSpelling.{Spells}
use Rattle.bad144_table.proofs.pack_table.told_by.Goals as goal

pub returns-in-Ok-clause-told : goal.returns-in-Ok-clause-told
returns-in-Ok-clause-told g c = λ t.
    let block = c.copy_block-block.ensures in
    let before = c.in_ok-read.ensures.never_again t in
    let pack : Pack = g.P.Packs.held c.args.packs.now c.args.unit in
    let bytes : c.read.new.into ≡ block_at pack.image (copy_at c.args.kind c.args.k) =
    c.in_ok-read.ensures.block t ∙ ap (λ (held : ℕ → Pack). block_at (held c.args.unit).image c.copy_block-block.result) (c.in_ok-marked.ensures.same before)
    ∙ ap (λ (b : ℕ). block_at pack.image b) block in
    record {
      for_drive = c.in-Ok.ensures.ok.0;
      unmarked = ap (λ (b : ℕ). is_marked pack b) (sym block) ∙ sym (c.in_ok-marked.ensures.mark before) ∙ c.if-branch.false;
      spelled = subst (λ (b : List ℕ). Spells b c.in-Ok.table) bytes c.in-Ok.ensures.ok.1;
    }

pub returns-in-Err-clause-told : goal.returns-in-Err-clause-told
returns-in-Err-clause-told g c = λ t table told.
    let block = c.copy_block-block.ensures in
    let before = c.in_ok-read.ensures.never_again t in
    let pack : Pack = g.P.Packs.held c.args.packs.now c.args.unit in
    let bytes : c.read.new.into ≡ block_at pack.image (copy_at c.args.kind c.args.k) =
    c.in_ok-read.ensures.block t ∙ ap (λ (held : ℕ → Pack). block_at (held c.args.unit).image c.copy_block-block.result) (c.in_ok-marked.ensures.same before)
    ∙ ap (λ (b : ℕ). block_at pack.image b) block in
    let found = c.read_table.ensures.spelled table told.for_drive (subst (λ (b : List ℕ). Spells b table) (sym bytes) told.spelled) in
    cc (found, c.in-Err.is)
