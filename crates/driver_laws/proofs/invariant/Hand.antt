-- The request in hand of a sound world, and a deed that leaves queues, frames and answers as they were.
use Rattle.std.proofs.Common.{◌≡◌, ◌≢◌, inl, inr, ℕ, ◌+◌, ◌<◌, ◌≤◌, true, false, List, length, length-set, Option, Some, None, sym, ap, ◌∙◌, subst, rules}
use Rattle.std.specs.Prelude.{Contains, unwrap_or}
use Rattle.std.proofs.lemmas.Bool.{cases_eq, true≢false}
use Rattle.std.proofs.lemmas.Option.{same_Some}
use Rattle.pack_geometry.specs.Geometry.{limit_of, place_at}
use Rattle.pack_geometry.specs.declared.DriveKind.{DriveKind}
use Rattle.main_memory.specs.Blocks.{Loan, IsLoan, size_at}
use Rattle.disksort.specs.declared.Waiter.{Waiter}
use Rattle.trace_replay.specs.requests.ServiceOrder.{IsInOrder}
use Rattle.driver_machine.specs.declared.Made.{Made}
use Rattle.driver_machine.specs.declared.Phase.TheVariants.{Transferring}
use Rattle.driver_machine.specs.World.{World, UnitView, Held, no_unit, no_held, unit_at, slot_at, held_in, slot_in_hand, block_in, adapter_of}
use Rattle.driver_machine.specs.Acts.{Scene, scene_of, with_scene}
use Rattle.driver_machine.specs.Guards.{InHand, IsApart}
use Rattle.driver_machine.specs.Sound.{Among, Once, slots_of, slots_made, IsOutstanding, UnitOk, SlotOk, IsMade, Sound}
use Rattle.driver_laws.proofs.invariant.Frame.{slot_there}
use Rattle.driver_laws.proofs.invariant.SlotsLists.{put_set, head_of, contains_head, Among-contained, number_of}
use Rattle.driver_laws.proofs.invariant.Frames.{frames_at, frames_put, frames_same}
use Rattle.driver_laws.proofs.invariant.Changed.{AreParts, Changed, Leaves, outstanding_stays, kind_stays, slots_changed, parts_changed}
use Rattle.driver_laws.proofs.invariant.Parts.{IsServed, AreFrames, AreAnswers}

-- What a deed keeps of its scene, beside the drive, the phase, the transfer, and what the buffer holds
pub record Keeps (old new : Scene) : Type 0 where
  pub declared : new.unit.declared ≡ old.unit.declared
  pub queue : new.unit.queue ≡ old.unit.queue
  pub kind : new.unit.drive.kind ≡ old.unit.drive.kind
  pub id : new.held.id ≡ old.held.id
  pub unit : new.held.unit ≡ old.held.unit
  pub first : new.held.first ≡ old.held.first
  pub write : new.held.write ≡ old.held.write
  pub loan : new.held.loan ≡ old.held.loan
  pub ended : new.held.ended ≡ old.held.ended
  pub blocks : length new.held.blocks ≡ length old.held.blocks
  pub frames : new.frames ≡ old.frames
  pub answers : new.answers ≡ old.answers

-- the request's blocks keep their sizes, and its buffer is the adapter's only in a transfer
pub record Fits (old new : Scene) : Type 0 where
  pub whole : (k : ℕ) → k < length old.held.blocks → length (block_in old.held k) ≡ size_at old.held.loan k → length (block_in new.held k) ≡ size_at old.held.loan k
  pub bus : new.held.on_bus ≡ true → new.unit.phase ≡ Transferring

module _ (w : World) (s : Sound w) (u id : ℕ) (i : InHand w u id) where
  abbrev old : UnitView
  old = unit_at w u

  abbrev p : ℕ
  p = slot_in_hand old

  abbrev h : Held
  h = held_in w p

  pub held_is : h ≡ i.held
  held_is = ap (λ (o : Option Held). unwrap_or o no_held) i.slot

  pub in_slot : slot_at w p ≡ Some h
  in_slot = i.slot ∙ ap (λ (g : Held). Some g) (sym held_is)

  pub hand_there : p < length w.slots
  hand_there = slot_there w.slots p h in_slot

  pub unit_ok : UnitOk w u old
  unit_ok = s.each_unit u i.unit

  pub unit_there : u < length w.units
  unit_there = subst (λ (n : ℕ). u < n) (sym s.units) i.unit

  pub slot_ok : SlotOk w p h
  slot_ok = s.each_slot p h in_slot

  -- it is outstanding at its unit
  pub out : IsOutstanding w u (head_of old.queue)
  out = unit_ok.queue (head_of old.queue) (contains_head old.queue i.some)

  pub out_is : out.held ≡ h
  out_is = same_Some out.held h (sym out.slot ∙ in_slot)

  pub own : h.unit ≡ u
  own = ap (λ (g : Held). g.unit) (sym out_is) ∙ out.unit

  pub going_on : h.ended ≡ false
  going_on = ap (λ (g : Held). g.ended) (sym out_is) ∙ out.going_on

  pub mine : (g : Held) → slot_at w p ≡ Some g → g.ended ≡ false → g.unit ≡ u
  mine g e on = ap (λ (f : Held). f.unit) (same_Some g h (sym e ∙ in_slot)) ∙ own

  -- an answer that waits is for another slot
  pub not_made : (made : Made) (q : ℕ) → IsMade w made q → q ≢ p
  not_made made q is same =
      let here : is.held ≡ h = same_Some is.held h (sym is.slot ∙ subst (λ (r : ℕ). slot_at w r ≡ Some h) (sym same) in_slot) in
      absurd (true≢false (sym is.over ∙ ap (λ (g : Held). g.ended) here ∙ going_on))

  -- A DEED that keeps queues, frames and answers
  module _ (new : Scene) (k : Keeps (scene_of w u) new) (f : Fits (scene_of w u) new) where
    abbrev now : World
    now = with_scene w u p new

    change : Changed w now u p new.unit (Some new.held)
    change = record {
      units = put_set w.units u new.unit no_unit unit_there;
      adapters = length-set w.adapters (adapter_of u) new.adapter;
      slots = put_set w.slots p (Some new.held) None hand_there;
    }

    queue_same : slots_of new.unit.queue ≡ slots_of old.queue
    queue_same = ap slots_of k.queue

    hand_same : slot_in_hand new.unit ≡ p
    hand_same = ap (λ (queue : List Waiter). (head_of queue).number) k.queue

    leaves : Leaves w now u p new.unit
    leaves = record {
      mine = mine;
      kind = k.kind;
      queue = λ q ne m. subst (Among q) (sym queue_same) m;
      bus = λ q ne first phase. absurd (ne first);
      made = λ q ne m. subst (λ (answers : List Made). Among q (slots_made answers)) (sym k.answers) m;
    }

    ended_now : new.held.ended ≡ false
    ended_now = k.ended ∙ going_on

    own_queue : (x : Waiter) → Contains new.unit.queue x → IsOutstanding now u x
    own_queue x c = elim (cases_eq x.number p) [
      | inl same ↦
          let was : IsOutstanding w u x = unit_ok.queue x (subst (λ (queue : List Waiter). Contains queue x) k.queue c) in
          let is : was.held ≡ h = same_Some was.held h (sym was.slot ∙ subst (λ (r : ℕ). slot_at w r ≡ Some h) (sym same) in_slot) in
          record {
            held = new.held;
            slot = subst (λ (r : ℕ). slot_at now r ≡ Some new.held) (sym same) change.slots.here;
            unit = k.unit ∙ own;
            going_on = ended_now;
            cylinder = was.cylinder ∙ ap (λ (kind : DriveKind). (place_at kind was.held.first).cylinder) (sym (kind_stays w now u p new.unit (Some new.held) s change leaves u))
                ∙ ap (λ (first : ℕ). (place_at (unit_at now u).drive.kind first).cylinder) (ap (λ (g : Held). g.first) is ∙ sym k.first);
          }
      | inr other ↦
          outstanding_stays w now u p new.unit (Some new.held) s change leaves u x other (unit_ok.queue x (subst (λ (queue : List Waiter). Contains queue x) k.queue c))
    ]

    own_unit : IsServed now u new.unit
    own_unit = record {
      queue = own_queue;
      once = subst Once (sym queue_same) unit_ok.once;
      order = subst (λ (queue : List Waiter). IsInOrder (λ (x : Waiter). x.cylinder) queue) (sym k.queue) unit_ok.order;
      head = λ e. subst (λ (queue : List Waiter). 0 < length queue) (sym k.queue) i.some;
      undeclared = λ e. k.queue ∙ unit_ok.undeclared (sym k.declared ∙ e);
    }

    own_slot : SlotOk now p new.held
    own_slot =
        let unit : new.held.unit ≡ u = k.unit ∙ own in
        let here : unit_at now new.held.unit ≡ new.unit = ap (unit_at now) unit ∙ change.units.here in
        let ok = slot_ok in
        record {
          unit = subst (λ (n : ℕ). n < 32) (sym unit) i.unit;
          loan = subst IsLoan (sym k.loan) ok.loan;
          small = subst (λ (loan : Loan). (frame : ℕ) → Contains loan.frames frame → frame < 16384) (sym k.loan) ok.small;
          size = k.blocks ∙ ok.size ∙ ap (λ (loan : Loan). loan.count) (sym k.loan);
          whole = λ n lt.
              let less : n < h.loan.count = subst (λ (loan : Loan). n < loan.count) k.loan lt in
              f.whole n (subst (λ (m : ℕ). n < m) (sym ok.size) less) (ok.whole n less) ∙ ap (λ (loan : Loan). size_at loan n) (sym k.loan);
          inside = subst (λ (x : UnitView). new.held.first + new.held.loan.count ≤ limit_of x.drive.kind) (sym here)
              (subst (λ (loan : Loan). new.held.first + loan.count ≤ limit_of new.unit.drive.kind) (sym k.loan)
              (subst (λ (first : ℕ). first + h.loan.count ≤ limit_of new.unit.drive.kind) (sym k.first)
              (subst (λ (kind : DriveKind). h.first + h.loan.count ≤ limit_of kind) (sym k.kind)
              (subst (λ (x : ℕ). h.first + h.loan.count ≤ limit_of (unit_at w x).drive.kind) own ok.inside))));
          queued = λ e. subst (λ (x : UnitView). Among p (slots_of x.queue)) (sym here)
              (subst (Among p) (sym queue_same) (Among-contained number_of old.queue (head_of old.queue) (contains_head old.queue i.some)));
          bus = λ e. (sym hand_same ∙ ap slot_in_hand (sym here), ap (λ (x : UnitView). x.phase) here ∙ f.bus e, ended_now);
          made = λ e. absurd (true≢false (sym e ∙ ended_now));
        }

    own_frames : AreFrames now
    own_frames = search (rules, frames_at, frames_same, frames_put, hand_there, in_slot)

    own_answers : AreAnswers now
    own_answers = record {
      each = λ made q c e.
          let was : IsMade w made q = s.answers made q (subst (λ (answers : List Made). Contains answers made) k.answers c) e in
          record { held = was.held; slot = change.slots.others q (not_made made q was) ∙ was.slot; id = was.id; over = was.over; given = was.given };
      refused = λ made c e. s.refused made (subst (λ (answers : List Made). Contains answers made) k.answers c) e;
      once = subst (λ (answers : List Made). Once (slots_made answers)) (sym k.answers) s.once;
    }

    pub deed_parts : AreParts now
    deed_parts =
        parts_changed w now u p new.unit (Some new.held) s change leaves (λ lt. own_unit)
        (slots_changed w now u p new.unit (Some new.held) s change leaves
        (λ g e. subst (SlotOk now p) (same_Some new.held g e) own_slot)
        (λ g e on q f ne there going same.
        ne (s.differ q p f h there in_slot going going_on (sym same ∙ ap (λ (x : Held). x.id) (sym (same_Some new.held g e)) ∙ k.id)))
        (λ g e q f ne there. subst (λ (loan : Loan). IsApart loan.frames f.loan.frames) (sym k.loan ∙ ap (λ (x : Held). x.loan) (same_Some new.held g e))
        (s.apart p q h f in_slot there (λ same. ne (sym same)))))
        own_frames own_answers
