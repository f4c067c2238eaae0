use Rattle.std.proofs.Common.{◌≡◌, ℕ, ◌<◌, length, sym, ◌∙◌, arith}
use Rattle.std.proofs.lemmas.Grind.{same_number_lists}
use Rattle.pack_geometry.specs.Pack.{window}
use Rattle.pack_geometry.proofs.PackLaws.{length-window, get_or-window}
use Rattle.mass_outside.proofs.sparse.read_window.Goals as goal

pub returns : goal.returns
returns c =
    let size : ℕ = length c.args.into.now in
    let len : length (window size c.args.at c.args.bytes.now) ≡ size = length-window size c.args.at c.args.bytes.now in
    same_number_lists _ _ (omega arith) (λ k h.
    let small : k < c.loop-i.i = omega arith in
    let inside : k < size = omega arith in
    c.loop-i.invariant k small ∙ sym (get_or-window size c.args.at c.args.bytes.now k inside))
