use Rattle.std.proofs.Common.{refl}
use Rattle.pack_windows.proofs.PartLaws.{empty_part}
use Rattle.pack_windows.proofs.window.Window.new.Goals as goal

pub returns : goal.returns
returns c = λ whole. empty_part _ whole refl
