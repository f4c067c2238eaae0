-- What a move through a window leaves of the memory.
use Rattle.std.proofs.Common.{◌≡◌, ℕ, List, Bool, true, false, MatchBool, if◌then◌else◌, sym, ap, ◌∙◌, subst}
use Rattle.main_memory.specs.declared.span.Span.{Span}
use Rattle.main_memory.specs.declared.window.Window.{Window}
use Rattle.main_memory.specs.Blocks.{Loan, span_of, bytes_in}
use Rattle.main_memory.specs.Memory.{Memory, IsLent, with_span, with_block}
use Rattle.main_memory.specs.Windows.{Writes, IsOn, memory_of, window_bytes}
use Rattle.hardware_table.specs.declared.Moved.{Moved}
use Rattle.hardware_table.specs.Drive.{DriveState}
use Rattle.hardware_table.specs.Events.{transfer_ended}
use Rattle.hardware_table.specs.Moves.{after_move}
use Rattle.hardware_table.specs.Adapter.{AdapterState, next_block, stepped, drive_stepped}
use Rattle.hardware_table.specs.Noise.{Book}
use Rattle.drive_model.specs.Move.{scene_at}

-- what was lent stays lent
pub lent_after : (was_read : Bool) (loan other : Loan) (k : ℕ) (block : List ℕ) (memory memory' : Memory)
    → memory' ≡ (if was_read then with_block loan k block memory else memory) → IsLent memory other → IsLent memory' other
lent_after true loan other k block memory memory' after lent = subst (λ (m : Memory). IsLent m other) (sym after) lent
lent_after false loan other k block memory memory' after lent = subst (λ (m : Memory). IsLent m other) (sym after) lent

-- the window is on the same block
pub same_span : (was_read : Bool) (old new : Window) (block : List ℕ) → MatchBool was_read (Writes old new block) (new ≡ old) → new.span ≡ old.span
same_span true old new block h = h.same_block
same_span false old new block h = ap (λ (w : Window). w.span) h

-- a window on a block of a buffer shows the bytes of the block
pub shown : (loan : Loan) (k : ℕ) (bytes : List ℕ) (window : Window) → (memory_of window).bytes ≡ bytes → IsOn loan k window
    → window_bytes window ≡ bytes_in (span_of loan k) bytes
shown loan k bytes window same on =
    ap (λ (span : Span). bytes_in span (memory_of window).bytes) on ∙ ap (λ (b : List ℕ). bytes_in (span_of loan k) b) same

pub shown_scene : (book : Book) (loan : Loan) (k : ℕ) (bytes : List ℕ) (window : Window) → (memory_of window).bytes ≡ bytes → IsOn loan k window
    → scene_at book window ≡ record { book = book; window = bytes_in (span_of loan k) bytes }
shown_scene book loan k bytes window same on = ap (λ (shown : List ℕ). record { book = book; window = shown }) (shown loan k bytes window same on)

-- no byte changes but those of the block
pub memory_after : (was_read : Bool) (loan : Loan) (k : ℕ) (memory memory' : Memory) (old new : Window) → memory_of old ≡ memory → IsOn loan k old → memory_of new ≡ memory'
    → MatchBool was_read (Writes old new (window_bytes new)) (new ≡ old)
    → memory' ≡ (if was_read then with_block loan k (bytes_in (span_of loan k) memory'.bytes) memory else memory)
memory_after true loan k memory memory' old new same on is h =
    sym is ∙ h.memory ∙ ap (λ (span : Span). with_span span (window_bytes new) (memory_of old)) on
    ∙ ap (λ (bytes : List ℕ). with_span (span_of loan k) bytes (memory_of old)) (shown loan k memory'.bytes new (ap (λ (m : Memory). m.bytes) is) (h.same_block ∙ on))
    ∙ ap (λ (m : Memory). with_span (span_of loan k) (bytes_in (span_of loan k) memory'.bytes) m) same
memory_after false loan k memory memory' old new same on is h = sym is ∙ ap (λ (w : Window). memory_of w) h ∙ same

-- the drive's transfer ends where the completion is up
pub ended : (verdict : Moved) (a after : AdapterState) (d moved drive : DriveState) → after ≡ stepped verdict a → after.completion ≡ true
    → moved ≡ after_move verdict (next_block a) d → drive ≡ transfer_ended moved → drive ≡ drive_stepped verdict a d
ended verdict a after d moved drive is up by ends =
    ends ∙ ap transfer_ended by
    ∙ sym (ap (λ (b : Bool). if b then transfer_ended (after_move verdict (next_block a) d) else after_move verdict (next_block a) d) (sym (ap (λ (x : AdapterState). x.completion) is) ∙ up))

pub goes_on : (verdict : Moved) (a after : AdapterState) (d moved drive : DriveState) → after ≡ stepped verdict a → after.completion ≡ false
    → moved ≡ after_move verdict (next_block a) d → drive ≡ moved → drive ≡ drive_stepped verdict a d
goes_on verdict a after d moved drive is down by same =
    same ∙ by
    ∙ sym (ap (λ (b : Bool). if b then transfer_ended (after_move verdict (next_block a) d) else after_move verdict (next_block a) d) (sym (ap (λ (x : AdapterState). x.completion) is) ∙ down))
