-- Where a further request may be asked, and there are frames for it, a slot is free: each request has a frame at least.
use Rattle.std.proofs.Common.{◌≡◌, ℕ, suc, ◌+◌, ◌-◌, ◌*◌, ◌/◌, ◌<◌, ◌≤◌, List, [], ◌∷◌, length, Option, Some, None, refl, arith}
use Rattle.std.specs.Prelude.{min, slice_index_or}
use Rattle.pack_geometry.specs.Geometry.{limit_of}
use Rattle.main_memory.specs.Blocks.{IsLoan}
use Rattle.main_memory.specs.Frames.{frames_needed}
use Rattle.driver_machine.specs.World.{World, Held, unit_at}
use Rattle.driver_machine.specs.Sound.{Sound}
use Rattle.hp_driver.specs.Requests.{frames_lent, HasFree}
use Rattle.hp_driver.specs.Passes.{MayJoin}
use Rattle.driver_laws.specs.shown.QuietPasses.{in_use}
use Rattle.driver_laws.proofs.shown.QuietPasses.{free_where_room, all_lent_are_needed}
use Rattle.trace_replay.specs.declared.requests.request.Request.{Request}
use Rattle.hp_driver.specs.Calls.{MayAsk, asked_at}

-- each request needs a frame at least
pub some_frames : (count offset last : ℕ) → 1 ≤ last → 1 ≤ frames_needed count offset last
some_frames count offset last some = by_size (offset + 512 * (count - 1) + last + 511) (omega (arith, some))
  where
    by_size : (n : ℕ) → 512 ≤ n → 1 ≤ n / 512
    by_size n enough = omega (arith, enough)

AreLoans : List (Option Held) → Type 0
AreLoans slots = (p : ℕ) (h : Held) → slice_index_or slots p None ≡ Some h → IsLoan h.loan

few_requests : (slots : List (Option Held)) → AreLoans slots → in_use slots ≤ frames_lent slots
unfolding AreLoans
few_requests [] loans = omega arith
few_requests (None ∷ slots) loans = few_requests slots (λ p h is. loans (suc p) h is)
few_requests (Some h ∷ slots) loans =
    more _ _ _ (some_frames h.loan.count h.loan.offset h.loan.last (loans 0 h refl).shape.last_some) (few_requests slots (λ p g is. loans (suc p) g is))
  where
    more : (frames uses lent : ℕ) → 1 ≤ frames → uses ≤ lent → uses + 1 ≤ frames + lent
    more frames uses lent some few = omega (arith, some, few)

-- A SLOT IS FREE
one_free : (w : World) (outstanding count offset last : ℕ) → Sound w → w.answers ≡ [] → length w.slots ≡ min outstanding 16384
    → in_use w.slots < outstanding → 1 ≤ last → w.frames + frames_needed count offset last ≤ 16384 → HasFree w.slots
unfolding AreLoans
one_free w outstanding count offset last sound none size room some fits =
    free_where_room w.slots
    (enough (in_use w.slots) (length w.slots) outstanding (frames_lent w.slots) w.frames (frames_needed count offset last) size room
    (few_requests w.slots (λ p h is. (sound.each_slot p h is).loan)) (all_lent_are_needed w sound none) (some_frames count offset last some) fits)
  where
    enough : (uses slots outstanding lent frames needed : ℕ) → slots ≡ min outstanding 16384 → uses < outstanding → uses ≤ lent → frames ≡ lent → 1 ≤ needed → frames + needed ≤ 16384
        → uses < slots
    enough uses slots outstanding lent frames needed size room few same some fits = omega (arith, size, room, few, same, some, fits)

-- so a request for which there are frames may join
pub may_join : (w : World) (r : Request) (first : ℕ) (bytes : List ℕ) → Sound w → w.answers ≡ [] → MayAsk w r bytes
    → first + r.count ≤ limit_of (unit_at w r.unit).drive.kind → w.frames + frames_needed r.count r.offset r.last ≤ 16384 → MayJoin w (asked_at r first) bytes
may_join w r first bytes sound none may inside room = record {
  free = one_free w may.most r.count r.offset r.last sound none may.slots may.room may.request.ends room;
  unit = may.unit;
  fresh = may.fresh;
  below = inside;
  room = room;
  is = record {
    shape = record {
      some = may.request.some;
      few = may.request.few;
      inside = may.request.in_frame;
      last_some = may.request.ends;
      last_few = may.request.in_block;
    };
    size = may.size;
  };
}
