-- Writes to the pack of a unit, one after another.
use Rattle.std.specs.Prelude.{◌≡◌, ℕ, true, IsTrue, Bool, List, [], ◌∷◌, take, Result, OnOk, OnErr}
use Rattle.pack_geometry.specs.Pack.{Pack, with_written, with_mark}
use Rattle.outside_traits.specs.Causes.{HasCause}

-- a write: a block is replaced, or marked
pub data Change : Type 0 where
  Block : ℕ → List ℕ → Change
  Mark : ℕ → Change

-- the packs with one write done to a unit
abbrev pub with_change : (ℕ → Pack) → ℕ → Change → ℕ → Pack
with_change packs unit (Block block bytes) = with_written packs unit block bytes
with_change packs unit (Mark block) = with_mark packs unit block true

-- the packs with writes done one after another
abbrev pub with_changes : (ℕ → Pack) → ℕ → List Change → ℕ → Pack
with_changes packs unit [] = packs
with_changes packs unit (change ∷ changes) = with_changes (with_change packs unit change) unit changes

-- a front of the writes was done; the one at which the packs failed may be its last
abbrev pub IsCutShort : (ℕ → Pack) → (ℕ → Pack) → ℕ → List Change → Type 0
IsCutShort old new unit changes = (n : ℕ) × (new ≡ with_changes old unit (take n changes))

-- A call does these writes to a unit. Where the packs tell: at Ok all were done, and at Err a front of them; a failure
-- has its cause.
pub record DoesAll {P T E : Type 0} (tells : P → Bool) (held : P → ℕ → Pack) (faults : P → ℕ) (unit : ℕ) (old new : P) (result : Result T E) (changes : List Change) : Type 0 where
  pub never_again : IsTrue (tells new) → IsTrue (tells old)
  pub done : OnOk result (IsTrue (tells new) → held new ≡ with_changes (held old) unit changes)
  pub cut_short : OnErr result (IsTrue (tells new) → IsCutShort (held old) (held new) unit changes)
  pub cause : HasCause (faults old) (faults new) result
