-- The bytes that a home has.
use Rattle.std.specs.Prelude.{ℕ, List, Option, None, Some}
use Rattle.pack_geometry.specs.Pack.{Pack, block_at}

-- the 512 bytes at a home, where there is one
abbrev pub bytes_at : Pack → Option ℕ → Option (List ℕ)
bytes_at pack None = None
bytes_at pack (Some home) = Some (block_at pack.image home)
