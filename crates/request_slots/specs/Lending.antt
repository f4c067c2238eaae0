-- A memory that lent a buffer for a request.
use Rattle.std.specs.Prelude.{◌≡◌, ℕ, ◌+◌, List, length, slice_set}
use Rattle.main_memory.specs.Blocks.{Loan, IsLoan}
use Rattle.main_memory.specs.Memory.{Memory, IsMemory, IsLent, AreApart, with_block, blocks_of}
use Rattle.request_slots.specs.declared.asked.Asked.{Asked}

-- a buffer as a request asks for it
pub record IsLoanFor (asked : Asked) (loan : Loan) : Type 0 where
  pub count : loan.count ≡ asked.count
  pub offset : loan.offset ≡ asked.offset
  pub last : loan.last ≡ asked.last

-- Such a buffer was lent: its frames were free, and what was lent before stays lent and holds what it held.
pub record HasLent (old new : Memory) (loan : Loan) (asked : Asked) : Type 0 where
  pub shape : IsLoan loan
  pub is : IsLoanFor asked loan
  pub lent : IsLent new loan
  pub apart : (other : Loan) → IsLent old other → AreApart loan other
  pub others : (other : Loan) → IsLent old other → IsLent new other
  pub blocks : (other : Loan) → IsLoan other → IsLent old other → blocks_of other new ≡ blocks_of other old
  pub free : length new.free + length loan.frames ≡ length old.free
  pub sound : IsMemory new

-- What a store of block k does.
pub record Stores (old new : Memory) (loan : Loan) (k : ℕ) (block : List ℕ) : Type 0 where
  pub memory : new ≡ with_block loan k block old
  pub held : blocks_of loan new ≡ slice_set (blocks_of loan old) k block
  pub others : (other : Loan) → IsLoan other → IsLent old other → AreApart loan other → blocks_of other new ≡ blocks_of other old
  pub lent : (other : Loan) → IsLent old other → IsLent new other
  pub sound : IsMemory new
