use Rattle.std.proofs.Common.{◌≡◌, ℕ, List, Option, Some, sym, ◌∙◌, rules}
use Rattle.hardware_table.specs.Moves.{IsReadAs, IsStruck}
use Rattle.drive_model.proofs.drive.moves.read_through.Goals as goal

-- a read that is struck
read_struck : (places : Option (List ℕ)) → (struck sector bytes : List ℕ) → places ≡ Some struck → IsStruck struck sector bytes
    → IsReadAs places sector bytes
read_struck places struck sector bytes e h = rw e h

pub returns-in-Some-clause-bytes : goal.returns-in-Some-clause-bytes
returns-in-Some-clause-bytes c = read_struck _ c.in-Some.noise _ _ (sym c.strike.ensures.noise ∙ c.in-Some.is)
    (record { right = search rules; read = search rules; check = c.apply-check.result.0; flipped = c.apply-check.ensures.flips })
