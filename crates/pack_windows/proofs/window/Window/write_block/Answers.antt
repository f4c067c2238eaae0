use Rattle.std.proofs.Common.{ℕ, subst}
use Rattle.pack_geometry.specs.Pack.{with_block, with_window}
use Rattle.pack_windows.specs.Parts.{IsPart}
use Rattle.pack_windows.proofs.window.Window.write_block.Goals as goal

pub returns : goal.returns
unfolding with_block
returns c = λ image is. let P : ℕ → Type 0 = λ at. IsPart c.write.new.self (with_window at c.args.from.now image) in subst P c.place_in_image.ensures (c.write.ensures image is)
