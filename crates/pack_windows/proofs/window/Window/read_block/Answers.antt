use Rattle.std.proofs.Common.{ap, ◌∙◌}
use Rattle.pack_geometry.specs.Pack.{block_at, window}
use Rattle.pack_windows.proofs.window.Window.read_block.Goals as goal

pub returns : goal.returns
unfolding block_at
returns c = λ image t is.
    c.read.ensures image t is ∙ ap (λ size. window size c.place_in_image.result image) c.told-into
    ∙ ap (λ at. window 512 at image) c.place_in_image.ensures
