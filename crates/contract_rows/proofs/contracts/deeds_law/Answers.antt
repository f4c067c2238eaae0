use Rattle.std.proofs.Common.{◌≡◌, ℕ, ◌+◌, Bool, true, false, List, [], ◌∷◌, refl, arith}
use Rattle.hardware_table.specs.declared.Moved.TheVariants.{Clean}
use Rattle.driver_machine.specs.declared.Task.TheVariants.{Judge, Steps}
use Rattle.driver_machine.specs.declared.Phase.TheVariants.{Due}
use Rattle.driver_machine.specs.World.{World}
use Rattle.driver_machine.specs.Acts.{Act}
use Rattle.driver_machine.specs.Events.{Part, when_by}
use Rattle.contract_rows.proofs.contracts.deeds_law.Goals as goal

same_steps : (a b : ℕ) → Due (Steps a) ≡ Due (Steps b) → a ≡ b
same_steps a b is = cc is

same_moved : (a b : ℕ) → Due (Judge a Clean) ≡ Due (Judge b Clean) → a ≡ b
same_moved a b is = cc is

same_rest : (first : Act) (rest : List Act) → first ∷ rest ≡ first ∷ [] → rest ≡ []
same_rest first rest is = cc is

not_done : (b : Bool) (part : Part) (w : World) → b ≡ false → when_by b part w ≡ []
not_done false part w is = refl
not_done true part w is = absurd (cc is)

pub returns : goal.returns
returns c = record {
  steps_forgotten = λ line u p taken s some is. omega (arith, some, same_steps taken 0 is);
  attention_left_up = search arith;
  attention_left_at_the_adapter = search arith;
  repaired_block_judged_again = λ line u p moved at pattern s is. omega (arith, same_moved (moved + 1) moved is);
  adapter_left_busy = search arith;
  completion_left_up = search arith;
  buffer_left_on_the_bus = search arith;
  each_sector_the_first_block = λ a some is. omega (arith, some, is);
  interrupt_before_the_completion = λ w line a down some. some (not_done _ _ w down);
  refusal_stops_the_adapter = λ w line r kind some is. some (same_rest _ _ is);
}
