-- What a change of one unit and one slot leaves of the others.
use Rattle.std.proofs.Common.{◌≡◌, ◌≢◌, inl, inr, ℕ, ◌+◌, ◌<◌, ◌≤◌, false, List, length, Option, Some, None, sym, ◌∙◌, subst, arith, rules}
use Rattle.std.proofs.lemmas.Bool.{cases_eq}
use Rattle.pack_geometry.specs.Geometry.{limit_of}
use Rattle.pack_geometry.specs.declared.DriveKind.{DriveKind}
use Rattle.disksort.specs.declared.Waiter.{Waiter}
use Rattle.driver_machine.specs.declared.Phase.TheVariants.{Transferring}
use Rattle.driver_machine.specs.World.{World, UnitView, Held, no_unit, unit_at, slot_at, slot_in_hand}
use Rattle.driver_machine.specs.Guards.{IsApart}
use Rattle.driver_machine.specs.Sound.{Among, slots_of, slots_made, IsOutstanding, UnitOk, SlotOk, Sound}
use Rattle.driver_laws.proofs.invariant.SlotsLists.{Put}
use Rattle.driver_laws.proofs.invariant.Parts.{IsServed, AreSlots, AreFrames, AreAnswers}

-- all of the parts
pub record AreParts (w : World) : Type 0 where
  pub queues : (u : ℕ) → u < 32 → IsServed w u (unit_at w u)
  pub slots : AreSlots w
  pub frames : AreFrames w
  pub answers : AreAnswers w

-- One unit is now like this, one slot has this, and nothing else has changed of units and slots.
pub record Changed (w now : World) (u p : ℕ) (v : UnitView) (o : Option Held) : Type 0 where
  pub units : Put w.units now.units u v no_unit
  pub adapters : length now.adapters ≡ length w.adapters
  pub slots : Put w.slots now.slots p o None

-- What such a change leaves to the others: only the unit's own request is in the slot, the unit's other requests are still
-- queued, the one in a transfer is still in it, and answers to others still wait.
pub record Leaves (w now : World) (u p : ℕ) (v : UnitView) : Type 0 where
  pub mine : (g : Held) → slot_at w p ≡ Some g → g.ended ≡ false → g.unit ≡ u
  pub kind : v.drive.kind ≡ (unit_at w u).drive.kind
  pub queue : (q : ℕ) → q ≢ p → Among q (slots_of (unit_at w u).queue) → Among q (slots_of v.queue)
  pub bus : (q : ℕ) → q ≢ p → q ≡ slot_in_hand (unit_at w u) → (unit_at w u).phase ≡ Transferring → (q ≡ slot_in_hand v) × (v.phase ≡ Transferring)
  pub made : (q : ℕ) → q ≢ p → Among q (slots_made w.answers) → Among q (slots_made now.answers)

module _ (w now : World) (u p : ℕ) (v : UnitView) (o : Option Held) (s : Sound w) (c : Changed w now u p v o) (k : Leaves w now u p v) where
  -- UNITS
  elsewhere : (x : ℕ) (y : Waiter) → x ≢ u → IsOutstanding w x y → y.number ≢ p
  elsewhere x y ne out = λ same. ne (sym out.unit ∙ k.mine out.held (subst (λ (r : ℕ). slot_at w r ≡ Some out.held) same out.slot) out.going_on)

  pub kind_stays : (x : ℕ) → (unit_at now x).drive.kind ≡ (unit_at w x).drive.kind
  kind_stays x = first_of (search rules, grind arith)

  pub outstanding_stays : (x : ℕ) (y : Waiter) → y.number ≢ p → IsOutstanding w x y → IsOutstanding now x y
  outstanding_stays x y ne out = first_of (search rules, grind arith)

  queue_other : (x : ℕ) → x < 32 → x ≢ u → IsServed now x (unit_at now x)
  queue_other x lt ne =
      let ok : UnitOk w x (unit_at w x) = s.each_unit x lt in
      subst (IsServed now x) (sym (c.units.others x ne)) (record {
        queue = λ y there. outstanding_stays x y (elsewhere x y ne (ok.queue y there)) (ok.queue y there);
        once = ok.once;
        order = ok.order;
        head = ok.head;
        undeclared = ok.undeclared;
      })

  -- SLOTS
  among_stays : (x q : ℕ) → q ≢ p → Among q (slots_of (unit_at w x).queue) → Among q (slots_of (unit_at now x).queue)
  among_stays x q ne m = elim (cases_eq x u) [
    | inl same ↦
        subst (λ (y : ℕ). Among q (slots_of (unit_at now y).queue)) (sym same)
        (subst (λ (y : UnitView). Among q (slots_of y.queue)) (sym c.units.here) (k.queue q ne (subst (λ (y : ℕ). Among q (slots_of (unit_at w y).queue)) same m)))
    | inr other ↦ subst (λ (y : UnitView). Among q (slots_of y.queue)) (sym (c.units.others x other)) m
  ]

  bus_stays : (x q : ℕ) → q ≢ p → q ≡ slot_in_hand (unit_at w x) → (unit_at w x).phase ≡ Transferring
      → (q ≡ slot_in_hand (unit_at now x)) × ((unit_at now x).phase ≡ Transferring)
  bus_stays x q ne first phase = elim (cases_eq x u) [
    | inl same ↦
        subst (λ (y : ℕ). (q ≡ slot_in_hand (unit_at now y)) × ((unit_at now y).phase ≡ Transferring)) (sym same)
        (subst (λ (y : UnitView). (q ≡ slot_in_hand y) × (y.phase ≡ Transferring)) (sym c.units.here)
        (k.bus q ne (subst (λ (y : ℕ). q ≡ slot_in_hand (unit_at w y)) same first) (subst (λ (y : ℕ). (unit_at w y).phase ≡ Transferring) same phase)))
    | inr other ↦ subst (λ (y : UnitView). (q ≡ slot_in_hand y) × (y.phase ≡ Transferring)) (sym (c.units.others x other)) (first, phase)
  ]

  slot_other : (q : ℕ) (g : Held) → q ≢ p → slot_at w q ≡ Some g → SlotOk now q g
  slot_other q g ne e =
      let ok : SlotOk w q g = s.each_slot q g e in
      record {
        unit = ok.unit;
        loan = ok.loan;
        small = ok.small;
        size = ok.size;
        whole = ok.whole;
        inside = subst (λ (kind : DriveKind). g.first + g.loan.count ≤ limit_of kind) (sym (kind_stays g.unit)) ok.inside;
        queued = λ f. among_stays g.unit q ne (ok.queued f);
        bus = λ f. let old = ok.bus f in let stays = bus_stays g.unit q ne old.0 old.1 in (stays.0, stays.1, old.2);
        made = λ f. k.made q ne (ok.made f);
      }

  -- THE PARTS, where the unit and the slot are as they have to be
  abbrev Differs : Held → Type 0
  Differs g = g.ended ≡ false → (q : ℕ) (f : Held) → q ≢ p → slot_at w q ≡ Some f → f.ended ≡ false → g.id ≢ f.id

  abbrev Shares : Held → Type 0
  Shares g = (q : ℕ) (f : Held) → q ≢ p → slot_at w q ≡ Some f → IsApart g.loan.frames f.loan.frames

  swap : (xs ys : List ℕ) → IsApart xs ys → IsApart ys xs
  swap xs ys apart frame there here = apart frame here there

  at_slot : (q : ℕ) (g : Held) → q ≡ p → slot_at now q ≡ Some g → o ≡ Some g
  at_slot q g same e = sym c.slots.here ∙ subst (λ (r : ℕ). slot_at now r ≡ Some g) same e

  was_slot : (q : ℕ) (g : Held) → q ≢ p → slot_at now q ≡ Some g → slot_at w q ≡ Some g
  was_slot q g other e = sym (c.slots.others q other) ∙ e

  pub slots_changed : ((g : Held) → o ≡ Some g → SlotOk now p g) → ((g : Held) → o ≡ Some g → Differs g) → ((g : Held) → o ≡ Some g → Shares g) → AreSlots now
  slots_changed slot differ shares = record {
    units = c.units.size ∙ s.units;
    adapters = c.adapters ∙ s.adapters;
    each = λ q g e. elim (cases_eq q p) [
      | inl same ↦ subst (λ (r : ℕ). SlotOk now r g) (sym same) (slot g (at_slot q g same e))
      | inr other ↦ slot_other q g other (was_slot q g other e)
    ];
    differ = λ q r f g e m a b id. elim (cases_eq q p) [
      | inl first ↦ elim (cases_eq r p) [
        | inl second ↦ first ∙ sym second
        | inr other ↦ absurd (differ f (at_slot q f first e) a r g other (was_slot r g other m) b id)
      ]
      | inr other ↦ elim (cases_eq r p) [
        | inl second ↦ absurd (differ g (at_slot r g second m) b q f other (was_slot q f other e) a (sym id))
        | inr third ↦ s.differ q r f g (was_slot q f other e) (was_slot r g third m) a b id
      ]
    ];
    apart = λ q r f g e m ne. elim (cases_eq q p) [
      | inl first ↦ shares f (at_slot q f first e) r g (λ second. ne (first ∙ sym second)) (was_slot r g (λ second. ne (first ∙ sym second)) m)
      | inr other ↦ elim (cases_eq r p) [
        | inl second ↦ swap g.loan.frames f.loan.frames (shares g (at_slot r g second m) q f other (was_slot q f other e))
        | inr third ↦ s.apart q r f g (was_slot q f other e) (was_slot r g third m) ne
      ]
    ];
  }

  pub parts_changed : (u < 32 → IsServed now u v) → AreSlots now → AreFrames now → AreAnswers now → AreParts now
  parts_changed unit slots frames answers = record {
    queues = λ x lt. elim (cases_eq x u) [
      | inl same ↦
          subst (λ (y : ℕ). IsServed now y (unit_at now y)) (sym same)
          (subst (IsServed now u) (sym c.units.here) (unit (subst (λ (n : ℕ). n < 32) same lt)))
      | inr other ↦ queue_other x lt other
    ];
    slots = slots;
    frames = frames;
    answers = answers;
  }
