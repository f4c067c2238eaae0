-- What is done of a map, and what is not.
use Rattle.std.proofs.Common.{ℕ, ◌≡◌, ◌⊎◌, ◌<◌, ◌≤◌, ◌+◌, ◌-◌, ◌&&◌, nat_le, nat_lt, Bool, true, false, Some, refl, ap, arith}
use Rattle.std.proofs.lemmas.Bool.Decides.{nat_tests}
use Rattle.main_memory.specs.Bytes.{filled}
use Rattle.driver_laws.specs.rules.Machine.{Blocks}
use Rattle.driver_machine.specs.World.{Held, block_in}
use Rattle.driver_laws.specs.shown.Bytes.{map_done}

is_done : (first done k : ℕ) → k < done → nat_le first (first + k) && nat_lt (first + k) (first + done) ≡ true
is_done first done k lt = grind (arith, nat_tests)

is_not : (first done block : ℕ) → (block < first) ⊎ (first + done ≤ block) → nat_le first block && nat_lt block (first + done) ≡ false
is_not first done block out = grind (arith, nat_tests)

and_false : (w : Bool) → w && false ≡ false
and_false true = refl
and_false false = refl

pub map_here : (blocks : Blocks) (h : Held) (done k : ℕ) → h.write ≡ true → k < done → map_done blocks h done (h.first + k) ≡ Some (filled 512 (block_in h k))
map_here blocks h done k writes lt = rw (writes, is_done h.first done k lt) (ap (λ n. Some (filled 512 (block_in h n))) (back h.first k))
  where
    back : (first n : ℕ) → first + n - first ≡ n
    back first n = omega arith

pub map_outside : (blocks : Blocks) (h : Held) (done block : ℕ) → (block < h.first) ⊎ (h.first + done ≤ block) → map_done blocks h done block ≡ blocks block
map_outside blocks h done block out = rw (is_not h.first done block out, and_false h.write) refl
