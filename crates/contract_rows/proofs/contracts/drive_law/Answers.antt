use Rattle.std.proofs.Common.{sym, ◌∙◌, ap, List, ℕ, get_or, ◌<◌, arith}
use Rattle.std.proofs.lemmas.List.{get_or_past}
use Rattle.fire_code.specs.Burst as burst
use Rattle.main_memory.proofs.HeldLaws.{filled_at}
use Rattle.pack_geometry.specs.Pack.{Pack, block_at}
use Rattle.contract_rows.proofs.Written.{written_block}
use Rattle.contract_rows.proofs.contracts.drive_law.Goals as goal

pub returns : goal.returns
unfolding burst.places_of
returns c = record {
  twelve_place_burst = search arith;
  burst_past_the_end = λ remainder named. let past : 4128 < 4128 = named.burst.set.in_word 1 0 (omega arith) in omega (arith, past);
  writes_forgotten = λ unit block drive size old new w same differs. differs (ap (λ (held : ℕ → Pack). block_at (held unit).image block) (sym same) ∙ written_block unit block drive size old new w);
  write_held_back = λ unit block drive size old new w same differs. differs (sym same ∙ written_block unit block drive size old new w);
  sector_written_without_its_zeros = λ unit block drive size old new at w behind differs. differs (ap (λ (b : List ℕ). get_or b at 0) (written_block unit block drive size old new w)
      ∙ filled_at 512 old.window at ∙ get_or_past old.window at 0 behind);
  mark_tested_before_the_armed_fault = search arith;
  newest_noise_strikes = search arith;
  byte_count_not_shortened = search arith;
  completion_one_sector_early = search arith;
  marked_sector_let_through = search arith;
  marked_block_written = search arith;
}
