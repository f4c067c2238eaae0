use Rattle.std.proofs.Common.{◌≡◌, ℕ, ◌==◌, nat_lt, true, false, List, get_or, inl, refl, ap, ◌∙◌, arith}
use Rattle.std.proofs.lemmas.Bool.{eq-eqb}
use Rattle.std.proofs.lemmas.Bool.Decides.{nat_tests}
use Rattle.trace_replay.specs.requests.ServiceOrder.{queue_with}
use Rattle.driver_machine.proofs.ecc_repair.Laws.{places_flipped, others_stay}
use Rattle.contract_rows.proofs.parts.parts_law.Goals as goal
use Rattle.disksort.specs.SortQueue.{cylinder_of}

same : (n : ℕ) → (n == n) ≡ true
same n = eq-eqb n n refl

not_below : (n : ℕ) → nat_lt n n ≡ false
not_below n = grind (arith, nat_tests)

pub returns : goal.returns
unfolding queue_with
returns c = record {
  continuation_off_by_one = search arith;
  unmarked_block_forwarded = search arith;
  done_one_too_many = search arith;
  failures_kept_over_a_moved_place = search arith;
  equal_cylinder_in_front = λ first later cylinder differs is. search (arith, same cylinder, not_below cylinder);
  one_run_only = λ head later low high below is. search (arith, nat_tests);
  bits_set_and_not_flipped = λ at pattern place old new is inside burst on still.
      let flipped = places_flipped at pattern place old inside in grind (arith, is, flipped, burst, on, still);
  repair_past_the_window_end = λ at pattern k old new small is behind inside differs.
      differs (ap (λ (bytes : List ℕ). get_or bytes k 0) is ∙ others_stay at pattern k old small inside (inl (omega (arith, behind, inside))));
  cleared_line_keeps_its_text = search arith;
}
