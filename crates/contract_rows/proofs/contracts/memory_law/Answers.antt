use Rattle.std.proofs.Common.{sym, ◌∙◌, ap, List, ℕ, get_or, arith}
use Rattle.std.proofs.lemmas.List.{get_or_past}
use Rattle.main_memory.proofs.HeldLaws.{filled_at}
use Rattle.contract_rows.proofs.Written.{written_byte, filled_byte}
use Rattle.contract_rows.proofs.contracts.memory_law.Goals as goal

pub returns : goal.returns
returns c = record {
  first_piece_only = λ old new block at span long writes past inside left. left.1 (sym left.0 ∙ written_byte old new block at span long writes inside);
  known_frame_taken_for_the_same = λ old new block at span long writes inside left. left.1 (sym left.0 ∙ written_byte old new block at span long writes inside);
  byte_written_taken_for_its_frame = search arith;
  next_frame_not_asked = λ window byte at span size fill past inside differs. differs (filled_byte window byte at span size fill inside);
  old_bytes_behind_the_end = λ bytes into at is behind differs. differs (ap (λ (b : List ℕ). get_or b at 0) is ∙ filled_at 512 bytes at ∙ get_or_past bytes at 0 behind);
  lent_frame_left_free = λ memory loan frame lent has free. lent.taken frame has free;
  frames_without_the_offset = search arith;
}
