use Rattle.std.proofs.Common.{◌≡◌, ℕ, ◌<◌, List, length, ap, ◌∙◌, subst}
use Rattle.std.proofs.Math.ListN.{set}
use Rattle.main_memory.specs.declared.window.Window.{Window}
use Rattle.main_memory.specs.Bytes.{front, filled}
use Rattle.main_memory.specs.Windows.{Writes, window_len, window_bytes}
use Rattle.main_memory.proofs.ByteLaws.{front-set}
use Rattle.main_memory.proofs.BlockLaws.{length-bytes_in}
use Rattle.main_memory.proofs.window.Window.set.Goals as goal

-- a byte of the block set among the bytes that were read
read_set : (window : Window) (at byte : ℕ) (into : List ℕ) → into ≡ filled 512 (window_bytes window) → length window.memory.now.bytes ≡ 8388608
    → at < window_len window → front (window_len window) (set into at byte) ≡ set (window_bytes window) at byte
read_set window at byte into is size inside =
    ap (λ (xs : List ℕ). front window.span.len (set xs at byte)) is
    ∙ front-set 512 window.span.len at byte (window_bytes window) (length-bytes_in window.span window.memory.now.bytes window.inside size) inside

pub returns-clause-writes : goal.returns-clause-writes
returns-clause-writes c =
    subst (λ (block : List ℕ). Writes c.args.self.now c.copy_in.new.self block)
    (read_set c.args.self.now c.args.at c.args.byte c.copy_out.new.into c.copy_out.ensures.bytes c.copy_out.ensures.whole c.requires) c.copy_in.ensures.writes

pub returns-clause-bytes : goal.returns-clause-bytes
returns-clause-bytes c =
    c.copy_in.ensures.bytes ∙ read_set c.args.self.now c.args.at c.args.byte c.copy_out.new.into c.copy_out.ensures.bytes c.copy_out.ensures.whole c.requires
