use Rattle.std.proofs.Common.{◌≡◌, ℕ, ◌==◌, Bool, true, false, if◌then◌else◌, ap, arith}
use Rattle.trace_replay.specs.declared.seek_engine.Position.{Position}
use Rattle.trace_replay.specs.declared.seek_engine.Position.TheVariants.{Ready, Search, Seek}
use Rattle.contract_rows.proofs.tables.registers_law.Goals as goal

no_search : (here : Bool) (to cylinder sector : ℕ) → (if here then Ready else Seek to) ≡ Search cylinder sector → ⊥
no_search true to cylinder sector is = cc is
no_search false to cylinder sector is = cc is

sector_of : Position → ℕ
sector_of (Search cylinder sector) = sector
sector_of other = 0

pub returns : goal.returns
unfolding sector_of
returns c = record {
  codes_of_two_functions_swapped = (λ is. omega (arith, is), λ is. omega (arith, is));
  unknown_code_is_nop = λ is. omega (arith, is);
  status_bit_moved = λ is. omega (arith, is);
  offset_for_a_write = λ is. cc is;
  offset_one_failure_late = λ is. cc is;
  later_try_waits_for_the_sector = λ kind here look cylinder sector target is.
      no_search (here == target.cylinder) target.cylinder cylinder sector is;
  search_4_ahead = λ is. let same : 7 ≡ 6 = ap sector_of is in omega (arith, same);
}
