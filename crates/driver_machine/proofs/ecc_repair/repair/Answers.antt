use Rattle.std.proofs.Common.{◌≡◌, ℕ, List, length, ap, ◌∙◌, subst}
use Rattle.main_memory.specs.declared.window.Window.{Window}
use Rattle.main_memory.specs.Bytes.{front, filled}
use Rattle.main_memory.specs.Windows.{Writes, memory_of, window_len, window_bytes}
use Rattle.main_memory.proofs.BlockLaws.{length-bytes_in}
use Rattle.driver_machine.specs.Repaired.{repaired}
use Rattle.fire_code.specs.Word.{IsData}
use Rattle.driver_machine.proofs.ecc_repair.Fronts.{repaired-filled, small_bytes}
use Rattle.driver_machine.proofs.ecc_repair.repair.Goals as goal

-- the bytes that are written back
written : (window : Window) (at q : ℕ) (read flipped : List ℕ) → length (memory_of window).bytes ≡ 8388608 → read ≡ filled 512 (window_bytes window) → flipped ≡ repaired at q read
    → front (window_len window) flipped ≡ repaired at q (window_bytes window)
written window at q read flipped whole filled_up flips =
    ap (front (window_len window)) (flips ∙ ap (repaired at q) filled_up)
    ∙ repaired-filled at q (window_len window) (window_bytes window) (length-bytes_in window.span window.memory.now.bytes window.inside whole)

pub returns-clause-writes : goal.returns-clause-writes
returns-clause-writes c =
    subst (Writes c.args.window.now c.copy_in.new.self) (written c.args.window.now c.args.at c.args.pattern _ _ c.copy_out.ensures.whole c.copy_out.ensures.bytes c.flip.ensures.repaired) c.copy_in.ensures.writes

pub returns-clause-bytes : goal.returns-clause-bytes
returns-clause-bytes c = c.copy_in.ensures.bytes ∙ written c.args.window.now c.args.at c.args.pattern _ _ c.copy_out.ensures.whole c.copy_out.ensures.bytes c.flip.ensures.repaired

pub returns-clause-small : goal.returns-clause-small
returns-clause-small c = let whole : IsData (filled 512 (window_bytes c.args.window.now)) = subst IsData c.copy_out.ensures.bytes c.flip.ensures.whole in small_bytes (window_bytes c.args.window.now) whole.small
