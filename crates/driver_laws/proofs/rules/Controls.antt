-- Who speaks in an event, and what is still to come of it, behind a line.
use Rattle.hardware_table.specs.Adapter.{attention_lowered}
use Rattle.std.proofs.lemmas.Bool.{or_parts, false≢true, true≢false}
use Rattle.std.proofs.Common.{◌≡◌, ℕ, ◌<◌, ◌==◌, Bool, true, false, List, [], ◌∷◌, refl, sym, ap, ◌∙◌, subst, bit_and, ◌-◌, ◌^◌, ◌≢◌, rules}
use Rattle.std.specs.Prelude.{if◌then◌else◌, drop}
use Rattle.trace_replay.specs.Moments.{Deed, Search, Intr, Attn}
use Rattle.trace_replay.specs.Adapters.{AdapterSeen, adapter_of, drive_of}
use Rattle.trace_replay.specs.Conversation.{goes_on}
use Rattle.trace_replay.specs.Events.{Act, Done, Serving, Wish, NoLine, DueLine, Arrival, SectorLine, Interrupt, Attention, Refusal, IdleLine, wish_of, wish_in, wish_at_start, is_no_line, act_after, wish_in_serving}
use Rattle.trace_replay.specs.Replay.{Replay, next_wish}
use Rattle.driver_laws.specs.rules.Consistent.{is_listed, IsInOrder, serves, IsAct, IsConsistent, AreUp, CanServe, has_interrupt, AreDrives}
use Rattle.driver_laws.proofs.rules.Queues.{same, lowered_other}

-- ---- whose line a wish is
abbrev pub unit_in : Wish → ℕ
unit_in NoLine = 0
unit_in (DueLine u) = u
unit_in (Arrival u) = u
unit_in (SectorLine u) = u
unit_in (Interrupt u) = u
unit_in (Attention u) = u
unit_in (Refusal u i why) = u
unit_in IdleLine = 0

pub unit_of_line : (unit : ℕ) (deed : Deed) → unit_in (wish_of unit deed) ≡ unit
unit_of_line unit (Search c y) = refl
unit_of_line unit other = refl

-- no line comes in an event that serves an adapter but those that are due, interrupts and attentions
abbrev pub is_served : Wish → Bool
is_served NoLine = false
is_served (DueLine u) = true
is_served (Arrival u) = false
is_served (SectorLine u) = false
is_served (Interrupt u) = true
is_served (Attention u) = true
is_served (Refusal u i why) = false
is_served IdleLine = false

-- where the unit that spoke last goes on, its line is next
due_or : (b : Bool) (u : ℕ) (w : Wish) → b ≡ true → (if b then DueLine u else w) ≡ DueLine u
due_or true u w e = refl
due_or false u w e = absurd (false≢true e)

in_event : (b : Bool) (u : ℕ) (w : Wish) → b ≡ false → (if b then DueLine u else w) ≡ w
in_event true u w e = absurd (true≢false e)
in_event false u w e = refl

pub speaks_next : (s : Replay) (w : Wish) → next_wish s ≡ w → goes_on (s.units s.event.speaker).stage ≡ true → w ≡ DueLine s.event.speaker
speaks_next s w is on = sym is ∙ due_or (goes_on (s.units s.event.speaker).stage) s.event.speaker (wish_in s.adapters s.event.act) on

pub event_next : (s : Replay) (w : Wish) → next_wish s ≡ w → goes_on (s.units s.event.speaker).stage ≡ false → wish_in s.adapters s.event.act ≡ w
event_next s w is off = sym (in_event (goes_on (s.units s.event.speaker).stage) s.event.speaker (wish_in s.adapters s.event.act) off) ∙ is

-- ---- whose unit an event brings that serves an adapter
pub serves_its : (adapters : ℕ → AdapterSeen) (act : Act) → ((k : ℕ) → IsInOrder (adapters k) k) → IsAct act → is_served (wish_in adapters act) ≡ true
    → serves act (adapter_of (unit_in (wish_in adapters act))) ≡ true
serves_its adapters act o are is = search rules

-- ---- a line that an event brings which serves its adapter
pub serving_line : (s : Replay) (unit : ℕ) (deed : Deed) → IsConsistent s → next_wish s ≡ wish_of unit deed → is_served (wish_of unit deed) ≡ true
    → serves s.event.act (adapter_of unit) ≡ true
serving_line s unit deed c wished is = by (goes_on (s.units s.event.speaker).stage) refl
  where
    by : (b : Bool) → goes_on (s.units s.event.speaker).stage ≡ b → serves s.event.act (adapter_of unit) ≡ true
    by true on =
        subst (λ z. serves s.event.act (adapter_of z) ≡ true) (sym (ap unit_in (speaks_next s (wish_of unit deed) wished on)) ∙ unit_of_line unit deed) (c.event.served on)
    by false off =
        subst (λ z. serves s.event.act (adapter_of z) ≡ true) (ap unit_in e ∙ unit_of_line unit deed)
        (serves_its s.adapters s.event.act c.adapters c.event.act (ap is_served e ∙ is))
      where
        e : wish_in s.adapters s.event.act ≡ wish_of unit deed
        e = event_next s (wish_of unit deed) wished off

-- a line that comes in an event which serves no adapter
pub foreign_line : (s : Replay) (w : Wish) (k : ℕ) → next_wish s ≡ w → is_served w ≡ false → is_no_line w ≡ false → serves s.event.act k ≡ true → ⊥
foreign_line s w k wished not_served line is = search rules

-- the unit that spoke last does not go on where another sort of line comes
pub nobody_goes_on : (s : Replay) (w : Wish) → next_wish s ≡ w → is_served w ≡ false → goes_on (s.units s.event.speaker).stage ≡ true → ⊥
nobody_goes_on s w wished not_served on = true≢false (sym (ap is_served (speaks_next s w wished on)) ∙ not_served)

-- ---- what a line leaves of an event that serves
pub still_serves : (act : Act) (k : ℕ) (deed : Deed) (unit : ℕ) → is_served (wish_of unit deed) ≡ true → serves act k ≡ true → serves (act_after deed act) k ≡ true
still_serves act k deed unit s is = search rules

pub still_act : (act : Act) (deed : Deed) → IsAct act → IsAct (act_after deed act)
still_act act deed is = search rules

-- ---- an interrupt that is served comes first
abbrev pub is_interrupt : Wish → Bool
is_interrupt (Interrupt u) = true
is_interrupt wish = false

abbrev pub is_attention : Wish → Bool
is_attention (Attention u) = true
is_attention wish = false

interrupt_next : (adapters : ℕ → AdapterSeen) (act : Act) → has_interrupt act ≡ true → is_interrupt (wish_in adapters act) ≡ true
interrupt_next adapters (Serving a true ds) is = refl
interrupt_next adapters other is = absurd (false≢true is)

pub no_interrupt : (s : Replay) (unit : ℕ) (deed : Deed) → IsConsistent s → next_wish s ≡ wish_of unit deed → is_interrupt (wish_of unit deed) ≡ false → has_interrupt s.event.act ≡ true → ⊥
no_interrupt s unit deed c wished other is =
    true≢false (sym (interrupt_next s.adapters s.event.act is) ∙ ap is_interrupt (event_next s (wish_of unit deed) wished (c.event.first is)) ∙ other)

pub interrupt_gone : (act : Act) → has_interrupt (act_after Intr act) ≡ false
interrupt_gone Done = refl
interrupt_gone other = refl

pub interrupt_same : (act : Act) → has_interrupt (act_after Attn act) ≡ has_interrupt act
interrupt_same Done = refl
interrupt_same other = refl

-- ---- an attention that is served is the first of them
no_attention_at : (a : AdapterSeen) → is_attention (wish_at_start a) ≡ true → ⊥
no_attention_at a is = search rules

-- the attentions that are still up after the first one was taken
up_lowered : (bits d : ℕ) (ds : List ℕ) → d < 8 → is_listed d ds ≡ false → AreDrives ds → AreUp bits ds → AreUp (bit_and bits (255 - 2 ^ d)) ds
up_lowered bits d [] low absent are up = tt
up_lowered bits d (e ∷ es) low absent are up =
    (lowered_other bits d e low are.0 apart ∙ up.0, up.1, up_lowered bits d es low (or_parts (e == d) (is_listed d es) absent).1 are.1 up.2)
  where
    apart : e ≢ d
    apart is = true≢false (sym (same d) ∙ ap (λ z. z == d) (sym is) ∙ (or_parts (e == d) (is_listed d es) absent).0)

pub attention_served : (adapters : ℕ → AdapterSeen) (k unit : ℕ) (interrupt : Bool) (ds : List ℕ) → wish_in_serving k (adapters k) interrupt ds ≡ Attention unit → AreDrives ds
    → CanServe (adapters k).state interrupt ds → CanServe (attention_lowered (drive_of unit) (adapters k).state) interrupt (drop 1 ds)
attention_served adapters k unit interrupt ds is are f = search (rules, false≢true, is_attention, no_attention_at, bit_and, up_lowered, unit_in)

pub attention_next : (s : Replay) (unit : ℕ) → next_wish s ≡ Attention unit → wish_in s.adapters s.event.act ≡ Attention unit
attention_next s unit wished = search rules
