use Rattle.std.proofs.Common.{◌≡◌, [], ◌∷◌, sym, ap, ◌∙◌, arith}
use Rattle.std.proofs.lemmas.List.{append_cancel_left}
use Rattle.driver_machine.specs.declared.Made.{Made}
use Rattle.contract_rows.proofs.contracts.machine_law.Goals as goal

same_one : (one made : Made) → one ∷ [] ≡ made ∷ [] → one ≡ made
same_one one made is = cc is

pub returns : goal.returns
returns c = record {
  first_failure_is_final = search arith;
  one_seek_at_a_time = search arith;
  rtc_forgotten = search arith;
  retry_names_the_first_block = search arith;
  replacement_forwarded_again = search arith;
  newest_answer_taken_first = search arith;
  answer_at_another_line = λ w line other u id kind made differs at is.
      differs (sym at ∙ sym (ap (λ (m : Made). m.answer.at) (same_one _ made (append_cancel_left w.answers _ (made ∷ []) is))));
  all_others_leave_the_adapter = search arith;
  highest_unit_first = search arith;
  frames_before_partition = search arith;
  first_blocks_loaded = search arith;
}
