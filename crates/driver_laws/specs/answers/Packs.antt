-- The packs' side of acts: what is tried is what the packs hold, and what acts leave of the packs.
use Rattle.std.specs.Prelude.{◌≡◌, ℕ, IsTrue, if◌then◌else◌, List, [], ◌∷◌}
use Rattle.main_memory.specs.Bytes.{filled}
use Rattle.main_memory.specs.Blocks.{size_at}
use Rattle.pack_geometry.specs.Pack.{Pack, block_at, is_marked, with_written}
use Rattle.hardware_table.specs.Adapter.{next_window}
use Rattle.hardware_table.specs.Moves.{was_read, was_written}
use Rattle.request_slots.specs.Move.{IsFrontRead, struck_at}
use Rattle.driver_machine.specs.World.{World, unit_at, adapter_at, adapter_of, held_in, slot_in_hand}
use Rattle.driver_machine.specs.Acts.{Act, Of, Sector, Tried, after}

-- A sector that is tried is marked as the pack says; and where it was read, its bytes are the front of what the read gives of the
-- whole sector, as many as the request asks for.
pub record IsOfPack (w : World) (u block : ℕ) (t : Tried) (packs : ℕ → Pack) : Type 0 where
  pub mark : t.marked ≡ is_marked (packs u) block
  pub bytes : IsTrue (was_read (unit_at w u).drive t.verdict) → IsFrontRead (struck_at u block (unit_at w u).drive w.book) (block_at (packs u).image block)
      (size_at (held_in w (slot_in_hand (unit_at w u))).loan (next_window (adapter_at w (adapter_of u)).state)) t.bytes

abbrev pub Reads : World → (ℕ → Pack) → Act → Type 0
Reads w packs (Of line u id (Sector block t)) = IsOfPack w u block t packs
Reads w packs act = Unit {0}

-- a sector that is written gets the bytes, filled with zeros
abbrev pub packs_after : World → (ℕ → Pack) → Act → ℕ → Pack
packs_after w packs (Of line u id (Sector block t)) =
    if was_written (unit_at w u).drive t.verdict then with_written packs u block (filled 512 t.bytes) else packs
packs_after w packs act = packs

-- the same of acts one after another
abbrev pub ReadAll : World → (ℕ → Pack) → List Act → Type 0
ReadAll w packs [] = Unit {0}
ReadAll w packs (act ∷ acts) = Reads w packs act × ReadAll (after w act) (packs_after w packs act) acts

abbrev pub packs_after_all : World → (ℕ → Pack) → List Act → ℕ → Pack
packs_after_all w packs [] = packs
packs_after_all w packs (act ∷ acts) = packs_after_all (after w act) (packs_after w packs act) acts
