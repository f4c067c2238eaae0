-- A SECTOR is tried: what it keeps of its scene, and that the request's blocks fit.
use Rattle.std.proofs.Common.{◌≡◌, ℕ, ◌<◌, Bool, true, false, List, [], length, refl, sym, ap, ◌∙◌, arith, rules}
use Rattle.std.specs.Prelude.{if◌then◌else◌, slice_index_or, slice_set}
use Rattle.hardware_table.specs.Moves.{was_read}
use Rattle.hardware_table.specs.Adapter.{next_window}
use Rattle.main_memory.specs.Blocks.{size_at}
use Rattle.driver_machine.specs.declared.Phase.TheVariants.{Transferring}
use Rattle.driver_machine.specs.World.{Held, block_in, with_block_in}
use Rattle.driver_machine.specs.Guards.{May}
use Rattle.driver_machine.specs.Acts as deed
use Rattle.driver_machine.specs.Acts.{Scene, effect}
use Rattle.driver_laws.proofs.invariant.Hand.{Keeps, Fits}

-- the blocks of a buffer of which perhaps one was put
abbrev put_if : Bool → ℕ → List ℕ → List (List ℕ) → List (List ℕ)
put_if b k block blocks = if b then slice_set blocks k block else blocks

held_if : (b : Bool) (k : ℕ) (block : List ℕ) (h : Held)
    → (if b then with_block_in k block h else h) ≡ record h { blocks = put_if b k block h.blocks; on_bus = h.on_bus }
held_if true k block h = refl
held_if false k block h = refl

pub sector_keeps : (line u p block : ℕ) (t : deed.Tried) (s : Scene) → Keeps s (effect line u p (deed.Sector block t) s)
sector_keeps line u p block t s = first_of (search rules, grind arith)

-- THE BLOCKS FIT.
block_put : (blocks : List (List ℕ)) (n : ℕ) (block : List ℕ) (size : ℕ → ℕ) (k : ℕ) → k < length blocks
    → length (slice_index_or blocks k []) ≡ size k → length block ≡ size n → length (slice_index_or (slice_set blocks n block) k []) ≡ size k
block_put blocks n block size k lt old new = first_of (search rules, grind arith)

put_fits : (b : Bool) (blocks : List (List ℕ)) (n : ℕ) (block : List ℕ) (size : ℕ → ℕ) → (b ≡ true → length block ≡ size n) → (k : ℕ) → k < length blocks
    → length (slice_index_or blocks k []) ≡ size k → length (slice_index_or (put_if b n block blocks) k []) ≡ size k
put_fits true blocks n block size new k lt old = block_put blocks n block size k lt old (new refl)
put_fits false blocks n block size new k lt old = old

pub sector_fits : (line u p block : ℕ) (t : deed.Tried) (s : Scene) → May u (deed.Sector block t) s → (s.held.on_bus ≡ true → s.unit.phase ≡ Transferring)
    → Fits s (effect line u p (deed.Sector block t) s)
sector_fits line u p block t s may bus = record {
  whole = λ k lt e.
      ap (λ (h : Held). length (block_in h k)) (held_if (was_read s.unit.drive t.verdict) (next_window s.adapter.state) t.bytes s.held)
      ∙ put_fits (was_read s.unit.drive t.verdict) s.held.blocks (next_window s.adapter.state) t.bytes (λ (n : ℕ). size_at s.held.loan n) may.2.size k lt e;
  bus = λ e. bus (ap (λ (h : Held). h.on_bus) (sym (held_if (was_read s.unit.drive t.verdict) (next_window s.adapter.state) t.bytes s.held)) ∙ e);
}
