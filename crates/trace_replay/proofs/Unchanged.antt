-- What a line of a unit leaves alone.
use Rattle.std.proofs.Common.{◌≡◌, ◌≢◌, ℕ, Bool, true, false, ◌&&◌, nat_lt, List, refl, ap, ◌∙◌, inl, inr}
use Rattle.std.proofs.lemmas.Bool.Decides.{eqb_tells}
use Rattle.std.specs.Prelude.{if◌then◌else◌}
use Rattle.hardware_table.specs.Drive.{DriveState}
use Rattle.hardware_table.specs.Moves.{was_read, was_written}
use Rattle.trace_replay.specs.requests.Requests.{Request}
use Rattle.trace_replay.specs.Moments.{Deed, Pack, Sector}
use Rattle.trace_replay.specs.Adapters.{adapter_of}
use Rattle.trace_replay.specs.Packs.{Surface, with_sector, surface_written, surface_read, sector_of_block}
use Rattle.trace_replay.specs.Service.{in_hand}
use Rattle.trace_replay.specs.Events.{Event, Wish, Refusal, is_no_line, Done}
use Rattle.trace_replay.specs.Replay.{Replay, with_state, next_wish, act_drained, drained, told_after, replay_told, unit_after, surface_after, at_unit, adapter_told}
use Rattle.trace_replay.specs.Frames.{ChangesOneUnit, ChangesOneAdapter, ChangesOnePack, ChangesNoMark}

pub with_other : {T : Type 0} (states : ℕ → T) (k : ℕ) (state : T) (x : ℕ) → x ≢ k → with_state states k state x ≡ states x
with_other states k state x apart = elim (eqb_tells x k) [
  | inl same ↦ absurd (apart same.1)
  | inr other ↦ rw other.0 refl
]

-- what holds whatever the event is holds after the next event of a drain was taken
pub either : (R : Replay → Type 0) (b : Bool) (s t : Replay) → R s → R t → R (if b then t else s)
either R true s t otherwise then_so = then_so
either R false s t otherwise then_so = otherwise

pub drained_keeps : (R : Replay → Type 0) (s : Replay) → ((event : Event) → R (record s { event = event })) → R (drained s)
drained_keeps R s all =
    either R (s.event.drains && (is_no_line (next_wish s) && nat_lt 0 s.outstanding)) s (record s { event = record s.event { between = true; act = act_drained s } })
    (all s.event) (all (record s.event { between = true; act = act_drained s }))

-- a line of a unit leaves what it leaves of these parts, or is a refusal and changes the event alone
pub told_keeps : (R : Replay → Type 0) (wish : Wish) (s : Replay) (unit : ℕ) (deed : Deed)
    → ((event : Event) → R (record s { event = event }))
    → ((event : Event) → R (record (replay_told s unit deed (unit_after s unit deed)) { event = event }))
    → R (told_after wish s unit deed)
told_keeps R (Refusal u i why) s unit deed same other = same (record s.event { act = Done })
told_keeps R it s unit deed same other = drained_keeps R (replay_told s unit deed (unit_after s unit deed)) other

pub one_unit : ChangesOneUnit
one_unit s line unit id deed other apart =
    told_keeps (λ t. t.units other ≡ s.units other) (next_wish s) s unit deed (λ event. refl)
    (λ event. with_other s.units unit (unit_after s unit deed) other apart)

pub one_adapter : ChangesOneAdapter
one_adapter s line unit id deed other apart =
    told_keeps (λ t. t.adapters other ≡ s.adapters other) (next_wish s) s unit deed (λ event. refl)
    (λ event. with_other s.adapters (adapter_of unit) (adapter_told (at_unit s unit) unit deed (unit_after s unit deed).stage) other apart)

-- ---- packs
other_sector : (s : Surface) (unit block : ℕ) (bytes : List ℕ) (other at : ℕ) → other ≢ unit
    → (with_sector s unit block bytes).sector other at ≡ s.sector other at
other_sector s unit block bytes other at apart = elim (eqb_tells other unit) [
  | inl same ↦ absurd (apart same.1)
  | inr differ ↦ rw differ.0 refl
]

written_other : (b : Bool) (s : Surface) (unit block : ℕ) (r : Request) (k other at : ℕ) → other ≢ unit
    → (surface_written b s unit block r k).sector other at ≡ s.sector other at
written_other true s unit block r k other at apart = other_sector s unit block (sector_of_block r k) other at apart
written_other false s unit block r k other at apart = refl

pub read_same : (b : Bool) (s : Surface) (unit : ℕ) (d : DriveState) (block : ℕ) → (surface_read b s unit d block).sector ≡ s.sector
read_same true s unit d block = refl
read_same false s unit d block = refl

written_marks : (b : Bool) (s : Surface) (unit block : ℕ) (r : Request) (k : ℕ) → (surface_written b s unit block r k).is_marked ≡ s.is_marked
written_marks true s unit block r k = refl
written_marks false s unit block r k = refl

pub read_marks : (b : Bool) (s : Surface) (unit : ℕ) (d : DriveState) (block : ℕ) → (surface_read b s unit d block).is_marked ≡ s.is_marked
read_marks true s unit d block = refl
read_marks false s unit d block = refl

surface_other : (s : Replay) (unit : ℕ) (deed : Deed) (other at : ℕ) → other ≢ unit
    → (surface_after s unit deed).sector other at ≡ s.surface.sector other at
surface_other s unit (Sector b v) other at apart =
    written_other (was_written (s.units unit).drive v) (surface_read (was_read (s.units unit).drive v) s.surface unit (s.units unit).drive b) unit b
    (in_hand (s.units unit).service) (s.units unit).progress.done other at apart
    ∙ ap (λ f. f other at) (read_same (was_read (s.units unit).drive v) s.surface unit (s.units unit).drive b)
surface_other s unit it other at apart = refl

pub surface_marks : (s : Replay) (unit : ℕ) (deed : Deed) → (surface_after s unit deed).is_marked ≡ s.surface.is_marked
surface_marks s unit (Sector b v) =
    written_marks (was_written (s.units unit).drive v) (surface_read (was_read (s.units unit).drive v) s.surface unit (s.units unit).drive b) unit b
    (in_hand (s.units unit).service) (s.units unit).progress.done
    ∙ read_marks (was_read (s.units unit).drive v) s.surface unit (s.units unit).drive b
surface_marks s unit other = refl

pub one_pack : ChangesOnePack
one_pack s line unit id deed other block apart =
    told_keeps (λ t. t.surface.sector other block ≡ s.surface.sector other block) (next_wish s) s unit deed (λ event. refl)
    (λ event. surface_other s unit deed other block apart)

pub no_mark : ChangesNoMark
no_mark s line unit id deed =
    told_keeps (λ t. t.surface.is_marked ≡ s.surface.is_marked) (next_wish s) s unit deed (λ event. refl) (λ event. surface_marks s unit deed)
