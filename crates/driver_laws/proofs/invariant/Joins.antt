-- A request joins: it stands in its slot and in its unit's queue, and its frames are needed.
use Rattle.std.proofs.Common.{◌≡◌, ◌≢◌, inl, inr, ℕ, ◌+◌, ◌<◌, ◌≤◌, false, length, Some, None, refl, sym, ap, ◌∙◌, subst, arith, rules}
use Rattle.std.proofs.lemmas.Option.{none-some, same_Some}
use Rattle.std.proofs.lemmas.Bool.{false≢true, true≢false}
use Rattle.pack_geometry.specs.Geometry.{limit_of, place_at}
use Rattle.pack_geometry.specs.declared.DriveKind.{DriveKind}
use Rattle.disksort.specs.declared.Waiter.{Waiter}
use Rattle.trace_replay.proofs.requests.ServiceOrderLaws.{length-queue_with}
use Rattle.trace_replay.proofs.requests.ServiceOrderRuns.{queue_with-in_order}
use Rattle.driver_machine.specs.declared.Phase.{Phase}
use Rattle.driver_machine.specs.declared.Phase.TheVariants.{Transferring}
use Rattle.driver_machine.specs.World.{World, UnitView, Held, no_unit, unit_at, slot_at}
use Rattle.driver_machine.specs.Acts as acts
use Rattle.driver_machine.specs.Acts.{after, joined, waiter_for}
use Rattle.driver_machine.specs.Guards.{IsNew, IsApart}
use Rattle.driver_machine.specs.Sound.{Among, slots_of, is_waiting, IsOutstanding, UnitOk, SlotOk, Sound}
use Rattle.driver_laws.proofs.invariant.SlotsLists.{put_set, number_of, cylinder_of, contained_among, with_contained, with_among, with_once, with_head}
use Rattle.driver_laws.proofs.invariant.Frames.{frames_at, frames_put}
use Rattle.driver_laws.proofs.invariant.Changed.{AreParts, Changed, Leaves, outstanding_stays, kind_stays, slots_changed, parts_changed}
use Rattle.driver_laws.proofs.invariant.Parts.{IsServed, AreFrames, AreAnswers}

used_more : (frames used now needed : ℕ) → frames ≡ used → now + 0 ≡ used + needed → frames + needed ≡ now
used_more frames used now needed a b = omega (arith, a, b)

longer : (n m : ℕ) → n ≡ m + 1 → 0 < n
longer n m e = omega (arith, e)

pub busy_is : (phase : Phase) → phase ≡ Transferring → is_waiting phase ≡ false
busy_is phase e = ap is_waiting e

module _ (w : World) (s : Sound w) (line p : ℕ) (h : Held) (new : IsNew w p h) where
  abbrev old : UnitView
  old = unit_at w h.unit

  abbrev view : UnitView
  view = joined p h old

  abbrev now : World
  now = after w (acts.Submit line p h)

  abbrev newcomer : Waiter
  newcomer = waiter_for p h old

  ok : UnitOk w h.unit old
  ok = s.each_unit h.unit new.unit.unit

  change : Changed w now h.unit p view (Some h)
  change = record {
    units = put_set w.units h.unit view no_unit (subst (λ (n : ℕ). h.unit < n) (sym s.units) new.unit.unit);
    adapters = refl;
    slots = put_set w.slots p (Some h) None new.free;
  }

  elsewhere : (q : ℕ) (g : Held) → slot_at w q ≡ Some g → q ≢ p
  elsewhere q g e same = none-some g (sym new.slot ∙ subst (λ (r : ℕ). slot_at w r ≡ Some g) same e)

  not_queued : Among p (slots_of old.queue) → ⊥
  not_queued m =
      let found = contained_among old.queue p m in
      let was : IsOutstanding w h.unit found.0 = ok.queue found.0 found.1 in
      elsewhere found.0.number was.held was.slot found.2

  leaves : Leaves w now h.unit p view
  leaves = record {
    mine = λ g e on. absurd (elsewhere p g e refl);
    kind = refl;
    queue = λ q ne m. with_among newcomer old.queue ok.order q (inr m);
    bus = λ q ne first phase.
        (first ∙ ap number_of (sym (with_head newcomer old.queue ok.order (ok.head (busy_is old.phase phase)))), phase);
    made = λ q ne m. m;
  }

  own_unit : IsServed now h.unit view
  own_unit = record {
    queue = λ x c. elim (with_contained newcomer old.queue ok.order x c) [
      | inl same ↦ subst (IsOutstanding now h.unit) same (record {
        held = h;
        slot = change.slots.here;
        unit = refl;
        going_on = new.going_on;
        cylinder = ap (λ (kind : DriveKind). (place_at kind h.first).cylinder) (sym (kind_stays w now h.unit p view (Some h) s change leaves h.unit));
      })
      | inr before ↦
          let was : IsOutstanding w h.unit x = ok.queue x before in
          outstanding_stays w now h.unit p view (Some h) s change leaves h.unit x (elsewhere x.number was.held was.slot) was
    ];
    once = with_once newcomer old.queue ok.order not_queued ok.once;
    order = queue_with-in_order cylinder_of newcomer old.queue ok.order;
    head = λ e. longer (length view.queue) (length old.queue) (length-queue_with cylinder_of newcomer old.queue);
    undeclared = λ e. absurd (true≢false (sym new.unit.declared ∙ e));
  }

  own_slot : SlotOk now p h
  own_slot = record {
    unit = new.unit.unit;
    loan = new.lent.is;
    small = new.lent.small;
    size = new.size;
    whole = new.whole;
    inside = subst (λ (kind : DriveKind). h.first + h.loan.count ≤ limit_of kind) (sym (kind_stays w now h.unit p view (Some h) s change leaves h.unit)) new.inside;
    queued = λ e. subst (λ (x : UnitView). Among p (slots_of x.queue)) (sym change.units.here) (with_among newcomer old.queue ok.order p (inl refl));
    bus = λ e. absurd (false≢true (sym new.on_bus ∙ e));
    made = λ e. absurd (false≢true (sym new.going_on ∙ e));
  }

  own_frames : AreFrames now
  own_frames = search (rules, frames_put, used_more, frames_at)

  own_answers : AreAnswers now
  own_answers = first_of (search rules, grind arith)

  pub join_parts : AreParts now
  join_parts =
      parts_changed w now h.unit p view (Some h) s change leaves (λ lt. own_unit)
      (slots_changed w now h.unit p view (Some h) s change leaves
      (λ g e. subst (SlotOk now p) (same_Some h g e) own_slot)
      (λ g e on q f ne there going same. new.fresh.other q f there going (sym same ∙ ap (λ (x : Held). x.id) (sym (same_Some h g e))))
      (λ g e q f ne there. subst (λ (x : Held). IsApart x.loan.frames f.loan.frames) (same_Some h g e) (new.lent.apart q f there)))
      own_frames own_answers
