use Rattle.std.proofs.Common.{◌≡◌, ◌≢◌, ℕ, List, Option, None, Some, set, sym, ap, ◌∙◌, arith}
use Rattle.std.proofs.lemmas.List.{get_or-set_other}
use Rattle.driver_machine.specs.World.{Held}
use Rattle.driver_machine.specs.Acts.{repaired_at}
use Rattle.request_slots.specs.Requests.{slot_at, held_at}
use Rattle.contract_rows.proofs.contracts.slots_law.Goals as goal

other_slot : (old : List (Option Held)) (slot other : ℕ) (put : Option Held) (h : Held) → other ≢ slot → slot_at old other ≡ None
    → slot_at (set old slot put) other ≡ Some h → ⊥
other_slot old slot other put h apart free found = cc (sym found ∙ get_or-set_other old slot other put None apart ∙ free)

pub returns : goal.returns
returns c = record {
  frame_lost = search arith;
  put_back_under_another_key = λ old new slot other k at pattern h is apart free found.
      other_slot old slot other (Some (repaired_at k at pattern (held_at old slot))) h apart free (sym (ap (λ (slots : List (Option Held)). slot_at slots other) is) ∙ found);
  bit_left_on_behind_the_arrival = search arith;
  bit_of_another_unit = search arith;
}
