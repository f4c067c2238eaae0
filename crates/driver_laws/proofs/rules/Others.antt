-- A line of a unit leaves the other units of its adapter in agreement, and the adapter in order.
use Rattle.std.proofs.Common.{◌≡◌, ◌≢◌, inl, inr, ℕ, ◌<◌, Bool, true, false, refl, sym, ap, ◌∙◌, arith, rules}
use Rattle.std.specs.Int.{bit_at}
use Rattle.std.proofs.lemmas.Bool.Decides.{eqb_tells}
use Rattle.hardware_table.specs.Adapter.{AdapterState}
use Rattle.trace_replay.specs.Moments.{Deed, Transfer, Arrive, Sector, Intr, Attn}
use Rattle.trace_replay.specs.Adapters.{AdapterSeen, AdapterMay, adapter_after, ready_after, with_ready, is_busy_for, adapter_of, drive_of}
use Rattle.trace_replay.specs.Replay.{UnitSeen}
use Rattle.driver_laws.specs.rules.Consistent.{is_listed, Agrees, IsInOrder}
use Rattle.driver_laws.proofs.rules.Queues.{raised_other, lowered_other, others_queued, others_joined, once_after, once_joined}
use Rattle.driver_laws.proofs.rules.Own.{drive_below}

-- an adapter's state has not changed for a unit
pub record Spared (a b : AdapterState) (m : ℕ) : Type 0 where
  pub busy : is_busy_for b m ≡ is_busy_for a m
  pub bit : bit_at b.attentions (drive_of m) ≡ bit_at a.attentions (drive_of m)
  pub completion : is_busy_for a m ≡ true → b.completion ≡ a.completion
  pub bytes : is_busy_for a m ≡ true → b.byte_count ≡ a.byte_count

untouched : (a : AdapterState) (m : ℕ) → Spared a a m
untouched a m = record { busy = refl; bit = refl; completion = λ e. refl; bytes = λ e. refl }

pub spared : (a : AdapterState) (n m : ℕ) (deed : Deed) → drive_of m ≢ drive_of n → AdapterMay a n deed → Spared a (adapter_after a n deed) m
spared a n m (Transfer w b k) apart may = search rules
spared a n m Arrive apart may = record { busy = refl; bit = raised_other a.attentions (drive_of n) (drive_of m) (drive_below n) apart; completion = λ e. refl; bytes = λ e. refl }
spared a n m (Sector b v) apart may = search rules
spared a n m Intr apart may = search rules
spared a n m Attn apart may = record { busy = refl; bit = lowered_other a.attentions (drive_of n) (drive_of m) (drive_below n) (drive_below m) apart; completion = λ e. refl; bytes = λ e. refl }
spared a n m other apart may = untouched a m

pub still_agrees : (w : UnitSeen) (a b : AdapterSeen) (m : ℕ) → Spared a.state b.state m → is_listed m b.ready ≡ is_listed m a.ready → Agrees w a m → Agrees w b m
still_agrees w a b m spare listed g = search rules

-- units of one adapter have different drives
pub drives_differ : (n m : ℕ) → m ≢ n → adapter_of m ≡ adapter_of n → drive_of m ≢ drive_of n
drives_differ n m apart at is = apart (omega (arith, at, is))

-- ---- the adapter
state_in_order : (a : AdapterState) (n : ℕ) (deed : Deed) → AdapterMay a n deed → a.drive < 8 → (a.busy ≡ false → a.completion ≡ false)
    → ((adapter_after a n deed).drive < 8) × ((adapter_after a n deed).busy ≡ false → (adapter_after a n deed).completion ≡ false)
state_in_order a n deed may low free = search rules

pub order_after : (a : AdapterSeen) (n : ℕ) (deed : Deed) (w : Bool) → AdapterMay a.state n deed → IsInOrder a (adapter_of n)
    → IsInOrder (record { state = adapter_after a.state n deed; ready = ready_after w n deed a.ready }) (adapter_of n)
order_after a n deed w may o = record {
  drive = (state_in_order a.state n deed may o.drive o.completion).0;
  completion = (state_in_order a.state n deed may o.drive o.completion).1;
  own = λ m l. elim (eqb_tells m n) [
    | inl is ↦ ap adapter_of is.1
    | inr other ↦ o.own m (sym (others_queued w n m deed a.ready other.1) ∙ l)
  ];
  once = once_after w n deed a.ready o.once;
}

pub order_joined : (a : AdapterSeen) (n : ℕ) (w : Bool) → IsInOrder a (adapter_of n) → IsInOrder (record a { ready = with_ready w n a.ready }) (adapter_of n)
order_joined a n w o = search (rules, eqb_tells, others_joined, once_joined)
