-- The frames that outstanding requests need, after one slot changed.
use Rattle.std.proofs.Common.{◌≡◌, ℕ, zero, suc, ◌+◌, ◌<◌, Bool, true, false, List, [], ◌∷◌, length, Option, Some, None, refl, ap, arith, rules}
use Rattle.std.specs.Prelude.{slice_index_or, slice_set}
use Rattle.main_memory.specs.Blocks.{Loan}
use Rattle.main_memory.specs.Frames.{frames_needed}
use Rattle.driver_machine.specs.World.{Held}
use Rattle.driver_machine.specs.Sound.{frames_by, frames_used}

-- those that a slot needs
abbrev pub frames_at : Option Held → ℕ
frames_at None = 0
frames_at (Some h) = frames_by h.ended h

frames_first : (o : Option Held) (slots : List (Option Held)) → frames_used (o ∷ slots) ≡ frames_at o + frames_used slots
frames_first None slots = omega arith
frames_first (Some h) slots = refl

swapped : (a b old new : ℕ) → a + old ≡ b + new → (x y n : ℕ) → x ≡ n + a → y ≡ n + b → x + old ≡ y + new
swapped a b old new e x y n first second = omega (arith, e, first, second)

changed_first : (x o : Option Held) (slots : List (Option Held)) → frames_used (o ∷ slots) + frames_at x ≡ frames_used (x ∷ slots) + frames_at o
changed_first x o slots = first_of (search rules, grind arith)

pub frames_put : (slots : List (Option Held)) (p : ℕ) (o : Option Held) → p < length slots
    → frames_used (slice_set slots p o) + frames_at (slice_index_or slots p None) ≡ frames_used slots + frames_at o
frames_put [] p o lt = absurd (omega (arith, lt))
frames_put (x ∷ slots) zero o lt = changed_first x o slots
frames_put (x ∷ slots) (suc p) o lt =
    swapped (frames_used (slice_set slots p o)) (frames_used slots) (frames_at (slice_index_or slots p None)) (frames_at o)
    (frames_put slots p o (omega (arith, lt)))
    (frames_used (x ∷ slice_set slots p o)) (frames_used (x ∷ slots)) (frames_at x) (frames_first x (slice_set slots p o)) (frames_first x slots)

-- they go by the request's loan alone
pub frames_same : (b : Bool) (g h : Held) → g.loan ≡ h.loan → frames_by b g ≡ frames_by b h
frames_same true g h e = refl
frames_same false g h e = ap (λ (loan : Loan). frames_needed loan.count loan.offset loan.last) e
