-- What is left of a transfer that is under way.
use Rattle.std.proofs.Common.{◌≡◌, ℕ, ◌+◌, ◌-◌, ◌*◌, ◌<◌, ◌≤◌, ◌==◌, if◌then◌else◌, Bool, true, false, sym, ap, subst, arith}
use Rattle.main_memory.specs.Blocks.{Loan}
use Rattle.hardware_table.specs.Drive.{DriveState}
use Rattle.hardware_table.specs.Adapter.{AdapterState, IsAdapter, next_window}
use Rattle.mba_adapter.specs.Loaded.{loaded_buffer}
use Rattle.mba_adapter.specs.Steps.{IsUnderWay}

bytes_few : (whole : Bool) (last count : ℕ) → (if whole then 512 * count - (512 - last) else 512 * count) ≤ 512 * count
bytes_few true last count = omega arith
bytes_few false last count = omega arith

-- the block of the next sector is one of the buffer's
window_left : (a : AdapterState) → IsAdapter a → a.busy ≡ true → a.completion ≡ false → next_window a < a.blocks
window_left a is busy going =
    let left : 0 < a.byte_count = is.left busy going in
    omega (arith, left, is.counted busy, bytes_few (a.skip + a.count == a.blocks) a.last a.count, is.inside)

pub next_left : (a seen : AdapterState) (drive : DriveState) → a ≡ seen → IsAdapter a → IsUnderWay seen drive → next_window seen < seen.blocks
next_left a seen drive same is under =
    window_left seen (subst IsAdapter same is) under.busy under.going_on

pub inside_left : (a seen : AdapterState) (drive : DriveState) (loan : Loan) → a ≡ seen → IsAdapter a → IsUnderWay seen drive → loan ≡ loaded_buffer seen
    → next_window a < loan.count
inside_left a seen drive loan same is under loaded =
    subst (λ (n : ℕ). next_window a < n) (sym (ap (λ (l : Loan). l.count) loaded))
    (subst (λ (x : AdapterState). next_window x < seen.blocks) (sym same) (next_left a seen drive same is under))
