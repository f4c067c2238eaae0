-- A sector that was tried: it is one that the rules of the move allow, of what the packs hold.
use Rattle.std.proofs.Common.{◌≡◌, ℕ, Bool, true, false, not, ◌&&◌, List, [], ◌∷◌, refl, ap, ◌∙◌, subst}
use Rattle.pack_geometry.specs.Pack.{Pack}
use Rattle.hardware_table.specs.Adapter.{next_block}
use Rattle.driver_machine.specs.World.{World, unit_of, unit_at, adapter_at}
use Rattle.driver_machine.specs.Acts.{Act, Tried, Sector, scene_of}
use Rattle.driver_machine.specs.Events.{can_move, in_hand, move_acts, or_nothing}
use Rattle.driver_machine.specs.Guards.{IsTried}
use Rattle.driver_machine.specs.Sound.{Sound}
use Rattle.driver_machine.proofs.DueFacts.{false_true}
use Rattle.driver_machine.specs.Runs.{Run}
use Rattle.driver_laws.proofs.invariant.Deeds.{deed_at}
use Rattle.driver_laws.proofs.invariant.Due.{in_hand_one}
use Rattle.driver_laws.proofs.invariant.Calls.{IsServing, serving}
use Rattle.driver_laws.specs.shown.QuietPasses.{ReadAll, IsReadFrom, AllFlip}
use Rattle.driver_laws.proofs.shown.QuietPasses.{strikes_flip}

busy_too : (b c : Bool) → b && not c ≡ true → b ≡ true
busy_too true c e = refl
busy_too false c e = absurd (false_true e)

module _ (w : World) (line a : ℕ) (tried : Tried) (sound : Sound w) (can : can_move (adapter_at w a) ≡ true) where
  serves : IsServing w a
  serves = serving w a sound (busy_too (adapter_at w a).state.busy (adapter_at w a).state.completion can)

  -- one act is done
  pub one_act : move_acts line a tried w ≡ deed_at line (unit_of w a) (Sector (next_block (adapter_at w a).state) tried) w ∷ []
  one_act =
      ap (λ (b : Bool). or_nothing b line (in_hand line (unit_of w a) (Sector (next_block (adapter_at w a).state) tried)) w) can
      ∙ in_hand_one line (unit_of w a) (Sector (next_block (adapter_at w a).state) tried) w serves.some

  pub tried_by_rules : Run w (move_acts line a tried w) → IsTried (unit_of w a) (next_block (adapter_at w a).state) tried (scene_of w (unit_of w a))
  tried_by_rules run = (subst (λ (acts : List Act). Run w acts) one_act run).0.1.2

  pub read_from : (held : ℕ → Pack) → AllFlip w.book.live → ReadAll w held (move_acts line a tried w)
      → IsReadFrom w held (unit_of w a) (next_block (adapter_at w a).state) tried
  read_from held all reads = record {
    flips = strikes_flip w (unit_of w a) (next_block (adapter_at w a).state) (unit_at w (unit_of w a)).drive all;
    read = (subst (λ (acts : List Act). ReadAll w held acts) one_act reads).0;
  }
