use Rattle.std.proofs.Common.{ap, ◌∙◌, List, ℕ}
use Rattle.pack_geometry.specs.Pack.{block_at}
use Rattle.mass_outside.specs.Sparse.{SparseView}
use Rattle.mass_outside.proofs.SparseLaws.{read_some, read_none}
use Rattle.mass_outside.proofs.sparse.Sparse.read.Goals as goal

pub returns-in-Some : goal.returns-in-Some
returns-in-Some c =
    read_some _ _ _ c.as_slice.result.now _ _ _ c.args.block c.in-Some.place c.index.result.now c.self.invariant.0 c.as_slice.ensures.value c.in-Some.ensures c.index.ensures
    ∙ ap (λ (s : SparseView). block_at s.image c.args.block) c.self.view_is

pub returns-in-None : goal.returns-in-None
returns-in-None c =
    c.read_block.ensures ∙ ap (λ (bytes : List ℕ). block_at bytes c.args.block) c.as_slice-in-None.ensures.value
    ∙ read_none _ _ _ c.as_slice.result.now _ _ _ c.args.block c.self.invariant.0 c.as_slice.ensures.value c.in-None.ensures
    ∙ ap (λ (s : SparseView). block_at s.image c.args.block) c.self.view_is
