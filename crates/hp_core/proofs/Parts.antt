-- What calls leave that change several parts of the state.
use Rattle.std.proofs.Common.{◌≡◌, ℕ, Bool, ◌+◌, ◌<◌, ◌≤◌, List, length, length-set, Option, Some, refl, sym, ap, ◌∙◌, subst}
use Rattle.std.specs.Prelude.{slice_index_or, slice_set}
use Rattle.hardware_table.specs.Drive.{DriveState}
use Rattle.hardware_table.specs.Adapter.{AdapterState}
use Rattle.hp_interrupts.specs.Verdicts.{IsLeftBy, registers_of, shows_late}
use Rattle.hp_interrupts.specs.declared.TransferRegs.{TransferRegs}
use Rattle.driver_machine.specs.declared.Made.{Made}
use Rattle.driver_machine.specs.World.{World, UnitView, AdapterView, Held, unit_at, adapter_at, held_in}
use Rattle.driver_machine.specs.Acts.{with_state}
use Rattle.driver_machine.specs.Sound.{IsShown}
use Rattle.hp_core.specs.State.{State, HasRoom}
use Rattle.hp_core.proofs.Places.{adapter_here}
use Rattle.hp_core.proofs.Units.{units_after}

-- a slot that is set leaves the room for answers
pub room_set : (slots slots' : List (Option Held)) (p : ℕ) (o : Option Held) (answers : List Made) (most : ℕ) → HasRoom slots answers most → slots' ≡ slice_set slots p o
    → HasRoom slots' answers most
room_set slots slots' p o answers most room is =
    subst (λ (xs : List (Option Held)). HasRoom xs answers most) (sym is) (record {
      few = subst (λ n. n ≤ 16384) (sym (length-set slots p o)) room.few;
      refused = room.refused;
      spare = subst (λ n. n + 1 ≤ most) (sym (length-set slots p o)) room.spare;
    })

-- what holds of the request in a slot holds of it inside
pub in_slot : (inside now : State) (p q : ℕ) (P : World → ℕ → Type 0) → inside ≡ now → p ≡ q → P now.world q → P inside.world p
in_slot inside now p q P same at holds = subst (λ (s : State). P s.world p) (sym same) (subst (λ n. P now.world n) (sym at) holds)

-- the state of an adapter that was changed, and it alone
pub state_changed : (queue : List ℕ) (state state' : AdapterState) (view : AdapterView) (g : AdapterState → AdapterState)
    → ◌≡◌ {A = AdapterView} (record { queue = queue; state = state }) view → state' ≡ g state
    → ◌≡◌ {A = AdapterView} (record { queue = queue; state = state' }) (with_state g view)
state_changed queue state state' view g is changed =
    ap (λ (s : AdapterState). record { queue = queue; state = s }) changed ∙ ap (with_state g) is

-- a unit and the request in a slot that were changed, and they alone
pub unit_slot : (inside now : State) (i u : ℕ) (old d v : UnitView) (f : UnitView → UnitView) (slots : List (Option Held)) (p q k n : ℕ) (h : ℕ → Held → Held)
    → inside ≡ now → i ≡ u → u < length now.world.units → old ≡ slice_index_or inside.world.units i d → v ≡ f old
    → p ≡ q → k ≡ n → slots ≡ slice_set inside.world.slots p (Some (h k (held_in inside.world p)))
    → record inside { world = record inside.world { units = slice_set inside.world.units i v; slots = slots } }
    ≡ record now { world = record now.world { units = slice_set now.world.units u (f (unit_at now.world u)); slots = slice_set now.world.slots q (Some (h n (held_in now.world q))) } }
unit_slot inside now i u old d v f slots p q k n h same place there own changed at number put =
    let units = slice_set now.world.units u (f (unit_at now.world u)) in
    ap (λ (us : List UnitView). record inside { world = record inside.world { units = us; slots = slots } }) (units_after inside now i u old d same place there own v f changed)
    ∙ ap (λ (xs : List (Option Held)). record inside { world = record inside.world { units = units; slots = xs } }) put
    ∙ ap (λ (m : ℕ). record inside { world = record inside.world { units = units; slots = slice_set inside.world.slots m (Some (h k (held_in inside.world m))) } }) at
    ∙ ap (λ (m : ℕ). record inside { world = record inside.world { units = units; slots = slice_set inside.world.slots q (Some (h m (held_in inside.world q))) } }) number
    ∙ ap (λ (s : State). record s { world = record s.world { units = units; slots = slice_set s.world.slots q (Some (h n (held_in s.world q))) } }) same

-- a unit, its adapter and the request in a slot that were changed, and they alone
pub unit_channel_slot : (inside now : State) (j u : ℕ) (before d after : UnitView) (f : UnitView → UnitView) (slots : List (Option Held)) (i a : ℕ) (old v : AdapterView) (g : Held → AdapterView → AdapterView)
    (p q : ℕ) (h : Held → Held) → inside ≡ now → j ≡ u → u < length now.world.units → before ≡ slice_index_or inside.world.units j d → after ≡ f before
    → i ≡ a → p ≡ q → a < length now.world.adapters → old ≡ slice_index_or inside.world.adapters i old
    → v ≡ g (held_in inside.world p) old → slots ≡ slice_set inside.world.slots p (Some (h (held_in inside.world p)))
    → record inside { world = record inside.world { units = slice_set inside.world.units j after; adapters = slice_set inside.world.adapters i v; slots = slots } }
    ≡ record now {
      world = record now.world {
        units = slice_set now.world.units u (f (unit_at now.world u));
        adapters = slice_set now.world.adapters a (g (held_in now.world q) (adapter_at now.world a));
        slots = slice_set now.world.slots q (Some (h (held_in now.world q)));
      };
    }
unit_channel_slot inside now j u before d after f slots i a old v g p q h same spot there here changed place at lt own made put =
    let units = slice_set now.world.units u (f (unit_at now.world u)) in
    let channel : v ≡ g (held_in inside.world p) (adapter_at now.world a) =
    made ∙ ap (g (held_in inside.world p)) (adapter_here a i now.world inside.world.adapters old place (ap (λ (s : State). s.world.adapters) same) lt own) in
    ap (λ (us : List UnitView). record inside { world = record inside.world { units = us; adapters = slice_set inside.world.adapters i v; slots = slots } }) (units_after inside now j u before d same spot there here after f changed)
    ∙ ap (λ (xs : List (Option Held)). record inside { world = record inside.world { units = units; adapters = slice_set inside.world.adapters i v; slots = xs } }) put
    ∙ ap (λ (w : AdapterView). record inside { world = record inside.world { units = units; adapters = slice_set inside.world.adapters i w; slots = slice_set inside.world.slots p (Some (h (held_in inside.world p))) } }) channel
    ∙ ap (λ (m : ℕ). record inside { world = record inside.world { units = units; adapters = slice_set inside.world.adapters m (g (held_in inside.world p) (adapter_at now.world a)); slots = slice_set inside.world.slots p (Some (h (held_in inside.world p))) } }) place
    ∙ ap (λ (m : ℕ). record inside { world = record inside.world { units = units; adapters = slice_set inside.world.adapters a (g (held_in inside.world m) (adapter_at now.world a)); slots = slice_set inside.world.slots m (Some (h (held_in inside.world m))) } }) at
    ∙ ap (λ (s : State). record s { world = record s.world { units = units; adapters = slice_set s.world.adapters a (g (held_in s.world q) (adapter_at now.world a)); slots = slice_set s.world.slots q (Some (h (held_in s.world q))) } }) same

-- what a drive and its adapter show is left by the verdict of the adapter
same_registers : (a b c d a' b' c' d' : ℕ) (l l' : Bool) → a ≡ a' → b ≡ b' → c ≡ c' → d ≡ d' → l ≡ l'
    → ◌≡◌ {A = TransferRegs} (record { er1 = a; er2 = b; ec1 = c; ec2 = d; late = l }) (record { er1 = a'; er2 = b'; ec1 = c'; ec2 = d'; late = l' })
same_registers a b c d a' b' c' d' l l' p q r s t = rw (p, q, r, s, t) refl

pub left_by : (d e : DriveState) (a : AdapterState) (late : Bool) (s : IsShown e a) → d ≡ e → late ≡ shows_late a.verdict
    → IsLeftBy a.verdict s.before s.block (registers_of d late)
left_by d e a late s same is = record {
  first_clear = s.clear.er1;
  second_clear = s.clear.er2;
  registers = ap (λ (x : DriveState). registers_of x late) same ∙ same_registers _ _ _ _ _ _ _ _ _ _ s.er1 s.er2 s.ec1 s.ec2 is;
}
