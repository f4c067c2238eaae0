-- THE END of a request: it leaves its queue, its frames are free again, and its answer waits. A request that failed did so in
-- front of its last block, and any other gives just its blocks.
use Rattle.std.proofs.Common.{◌≡◌, inl, inr, ℕ, ◌+◌, ◌<◌, ◌-◌, ◌≤◌, Bool, true, false, List, [], ◌∷◌, ◌++◌, drop, length-set, Option, Some, None, refl, sym, ap, ◌∙◌, subst, arith, rules}
use Rattle.std.specs.Prelude.{if◌then◌else◌, Contains, unwrap_or}
use Rattle.std.proofs.lemmas.Option.{none-some, same_Some}
use Rattle.std.proofs.lemmas.List.Elements.{Contains-push_cases}
use Rattle.std.proofs.lemmas.Bool.{true≢false}
use Rattle.pack_geometry.specs.declared.DriveKind.{DriveKind}
use Rattle.pack_geometry.specs.Geometry.{limit_of}
use Rattle.hardware_table.specs.declared.Moved.{Moved}
use Rattle.hardware_table.specs.declared.Moved.TheVariants as verdict
use Rattle.transfer_engine.specs.declared.job.Job.{Job}
use Rattle.transfer_engine.specs.State.{TransferState, segment_by, segment_of}
use Rattle.trace_replay.proofs.requests.ServiceOrderRuns.{drop-in_order}
use Rattle.driver_machine.specs.declared.Phase.TheVariants.{Waiting, Positioning, Queued, Transferring, Due}
use Rattle.driver_machine.specs.declared.Made.{Made}
use Rattle.driver_machine.specs.declared.Phase.{Phase}
use Rattle.trace_replay.specs.declared.requests.answers.AnswerKind.{AnswerKind}
use Rattle.trace_replay.specs.declared.requests.answers.AnswerKind.TheVariants.{ReadOk, WriteOk}
use Rattle.driver_machine.specs.declared.Task.TheVariants.{Clear, Judge, Steps, Command, GiveUp}
use Rattle.driver_machine.specs.Sound.{Among, Once, IsBegun, slot_made, slots_made, frames_by, frames_used, IsPhase, IsTask, IsGiven, UnitOk, SlotOk, IsMade, Sound}
use Rattle.driver_machine.specs.World.{World, UnitView, AdapterView, Held, no_unit, unit_at, adapter_at, slot_at, slot_in_hand, adapter_of, held_in, transfer_of, no_transfer, frames_of}
use Rattle.driver_machine.specs.Guards.{InHand, IsNext, IsApart}
use Rattle.driver_machine.specs.Acts as deed
use Rattle.driver_machine.specs.Acts.{Scene, scene_of, with_scene, effect, answer_at}
use Rattle.driver_machine.specs.Due.{done_with}
use Rattle.driver_machine.proofs.Dues.{AtStart, AtStep, AtTransfer, AtChoice, Offline, Locked, Left, Unforwarded, Tried, Finished, Calls, Ends, IsDue, IsJudged}
use Rattle.driver_machine.proofs.DueFacts.{due_facts, chosen_facts}
use Rattle.driver_laws.proofs.invariant.SlotsLists.{Contains-first, Contains-later, put_set, cylinder_of, not_head, Once-drop, Among-behind, Among-left, Among-last, Once-push, Contains-drop}
use Rattle.driver_laws.proofs.invariant.Frames.{frames_at, frames_put}
use Rattle.driver_laws.proofs.invariant.Changed.{AreParts, Changed, Leaves, outstanding_stays, kind_stays, slots_changed, parts_changed}
use Rattle.driver_laws.proofs.invariant.Hand.{in_slot, hand_there, unit_ok, unit_there, slot_ok, own, going_on, mine, not_made}
use Rattle.driver_laws.proofs.invariant.SlotsDeedFacts.{not_transferring}
use Rattle.driver_laws.proofs.invariant.Parts.{IsServed, AreFrames, AreAnswers}

-- the phase of a unit, once it is known
phase_is : (u : ℕ) (v : UnitView) (a : AdapterView) (h : Held) (phase : Phase) → v.phase ≡ phase → IsPhase u v a h v.phase → IsPhase u v a h phase
phase_is u v a h phase is holds = subst (IsPhase u v a h) is holds

begun_less : (v : UnitView) (h : Held) (moved : ℕ) → IsBegun v h → moved < (segment_of (transfer_of v)).count → done_with moved v < h.loan.count
begun_less v h moved is less = first_of (search rules, grind arith)

some_left : (index : Option ℕ) (job : Job) (done : ℕ) → done < job.count → 0 < (segment_by index job done).count
some_left None job done left = omega (arith, left)
some_left (Some i) job done left = omega arith

begun_first : (v : UnitView) (h : Held) → IsBegun v h → done_with 0 v < h.loan.count
begun_first v h is = begun_less v h 0 is (some_left (transfer_of v).index (transfer_of v).job (transfer_of v).done is.is.left)

waiting_first : (v : UnitView) (h : Held) → v.transfer ≡ None → 1 ≤ h.loan.count → done_with 0 v < h.loan.count
waiting_first v h none some =
    let nothing : (transfer_of v).done ≡ 0 = ap (λ (o : Option TransferState). (unwrap_or o no_transfer).done) none in omega (arith, nothing, some)

-- where a command is called for, not all blocks are done
called_less : (u : ℕ) (v : UnitView) (a : AdapterView) (h : Held) (phase : Phase) → 1 ≤ h.loan.count → Calls phase → IsPhase u v a h phase → done_with 0 v < h.loan.count
called_less u v a h Waiting some AtStart is = waiting_first v h is.1 some
called_less u v a h (Due (Steps taken)) some (AtStep same) is = begun_first v h is.0
called_less u v a h (Due Command) some AtTransfer is = begun_first v h is.0
called_less u v a h (Positioning taken) some called is = elim called [ ]
called_less u v a h Queued some AtChoice is = begun_first v h is.0
called_less u v a h Transferring some called is = elim called [ ]
called_less u v a h (Due (Clear moved last)) some called is = elim called [ ]
called_less u v a h (Due (Judge moved last)) some called is = elim called [ ]
called_less u v a h (Due (GiveUp done)) some called is = elim called [ ]

judged_is : (u : ℕ) (v : UnitView) (a : AdapterView) (h : Held) (moved : ℕ) (last : Moved) → IsJudged v moved last → IsPhase u v a h v.phase
    → IsTask v h (Judge moved last)
judged_is u v a h moved last judged holds = phase_is u v a h (Due (Judge moved last)) judged.phase holds

finished_given : (h : Held) (b : Bool) → h.write ≡ b → IsGiven h (if b then WriteOk else ReadOk h.loan.count h.loan.last)
finished_given h true is = is
finished_given h false is = (is, refl, refl)

ends_given : (u : ℕ) (v : UnitView) (a : AdapterView) (h : Held) (kind : AnswerKind) → 1 ≤ h.loan.count → Ends v h kind → IsPhase u v a h v.phase → IsGiven h kind
ends_given u v a h kind some (Offline off calls) holds = called_less u v a h v.phase some calls holds
ends_given u v a h kind some (Locked on locked (inl is)) holds = begun_first v h (phase_is u v a h (Due Command) is holds).0
ends_given u v a h kind some (Locked on locked (inr is)) holds = begun_first v h (phase_is u v a h Queued is holds).0
ends_given u v a h kind some (Left moved judged) holds =
    let is = judged_is u v a h moved verdict.Offline judged holds in begun_less v h moved is.0 is.2
ends_given u v a h kind some (Unforwarded moved judged none) holds =
    let is = judged_is u v a h moved verdict.Marked judged holds in begun_less v h moved is.0 is.2
ends_given u v a h kind some (Tried done is) holds = (phase_is u v a h (Due (GiveUp done)) is holds).2
ends_given u v a h kind some (Finished moved judged all) holds = finished_given h h.write refl

-- the slots of answers, with one more behind
slots_made-push : (answers : List Made) (made : Made) (p : ℕ) → made.slot ≡ Some p → slots_made (answers ++ made ∷ []) ≡ slots_made answers ++ p ∷ []
slots_made-push [] made p is = ap (λ (o : Option ℕ). slot_made o []) is
slots_made-push (first ∷ answers) made p is = ap (slot_made first.slot) (slots_made-push answers made p is) ∙ front first.slot (slots_made answers) p
  where
    front : (o : Option ℕ) (xs : List ℕ) (p : ℕ) → slot_made o (xs ++ p ∷ []) ≡ slot_made o xs ++ p ∷ []
    front None xs p = refl
    front (Some q) xs p = refl

-- a slot among them is that of an answer
made_by : (o : Option ℕ) (first : Made) (answers : List Made) (p : ℕ) → first.slot ≡ o
    → (Among p (slots_made answers) → (m : Made) × Contains answers m × (m.slot ≡ Some p))
    → Among p (slot_made o (slots_made answers)) → (m : Made) × Contains (first ∷ answers) m × (m.slot ≡ Some p)
made_by None first answers p is rest m = let found = rest m in (found.0, Contains-later found.0 first answers found.1, found.2)
made_by (Some q) first answers p is rest (inl same) = (first, Contains-first first answers, is ∙ ap (λ (n : ℕ). Some n) (sym same))
made_by (Some q) first answers p is rest (inr later) = let found = rest later in (found.0, Contains-later found.0 first answers found.1, found.2)

pub made_at : (answers : List Made) (p : ℕ) → Among p (slots_made answers) → (m : Made) × Contains answers m × (m.slot ≡ Some p)
made_at [] p m = absurd m
made_at (first ∷ answers) p m = made_by first.slot first answers p refl (made_at answers p) m

ends_by : (u : ℕ) (s : Scene) (kind : AnswerKind) → IsNext u (deed.End kind) s → Ends s.unit s.held kind
ends_by u s kind (inl next) = due_facts s.unit s.held (deed.End kind) next
ends_by u s kind (inr chosen) = subst (IsDue s.unit s.held) (sym chosen.due) (chosen_facts s.unit s.held chosen.phase)

used_less : (frames used now at needed : ℕ) → frames ≡ used → now + at ≡ used + 0 → at ≡ needed → frames - needed ≡ now
used_less frames used now at needed a b c = omega (arith, a, b, c)

room_less : (frames needed : ℕ) → frames ≤ 16384 → frames - needed ≤ 16384
room_less frames needed le = omega (arith, le)

module _ (w : World) (s : Sound w) (line u id : ℕ) (i : InHand w u id) (kind : AnswerKind) (may : IsNext u (deed.End kind) (scene_of w u)) where
  abbrev old : UnitView
  old = unit_at w u

  abbrev p : ℕ
  p = slot_in_hand old

  abbrev h : Held
  h = held_in w p

  abbrev new : Scene
  new = effect line u p (deed.End kind) (scene_of w u)

  abbrev now : World
  now = with_scene w u p new

  given : IsGiven h kind
  given = ends_given u old (adapter_at w (adapter_of u)) h kind (slot_ok w s u id i).loan.shape.some (ends_by u (scene_of w u) kind may) (unit_ok w s u id i).phase

  change : Changed w now u p new.unit (Some new.held)
  change = record {
    units = put_set w.units u new.unit no_unit (unit_there w s u id i);
    adapters = length-set w.adapters (adapter_of u) new.adapter;
    slots = put_set w.slots p (Some new.held) None (hand_there w s u id i);
  }

  made_now : slots_made new.answers ≡ slots_made w.answers ++ p ∷ []
  made_now = slots_made-push w.answers (answer_at line (Some p) h.id kind) p refl

  leaves : Leaves w now u p new.unit
  leaves = record {
    mine = mine w s u id i;
    kind = refl;
    queue = λ q ne m. Among-behind old.queue q ne m;
    bus = λ q ne first phase. absurd (ne first);
    made = λ q ne m. subst (Among q) (sym made_now) (Among-left q (slots_made w.answers) p m);
  }

  own_unit : IsServed now u new.unit
  own_unit =
      let ok : UnitOk w u old = unit_ok w s u id i in
      record {
        queue = λ x c. outstanding_stays w now u p new.unit (Some new.held) s change leaves u x (not_head old.queue x ok.once c) (ok.queue x (Contains-drop x old.queue c));
        once = Once-drop old.queue ok.once;
        order = drop-in_order cylinder_of old.queue ok.order;
        head = λ e. absurd (true≢false e);
        undeclared = λ e. ap (drop 1) (ok.undeclared e);
      }

  own_slot : SlotOk now p new.held
  own_slot =
      let ok : SlotOk w p h = slot_ok w s u id i in
      record {
        unit = ok.unit;
        loan = ok.loan;
        small = ok.small;
        size = ok.size;
        whole = ok.whole;
        inside = subst (λ (k : DriveKind). h.first + h.loan.count ≤ limit_of k) (sym (kind_stays w now u p new.unit (Some new.held) s change leaves h.unit)) ok.inside;
        queued = λ e. absurd (true≢false e);
        bus = λ e. absurd (not_transferring u (deed.End kind) (scene_of w u) may (subst (λ (x : ℕ). (unit_at w x).phase ≡ Transferring) (own w s u id i) (ok.bus e).1));
        made = λ e. subst (Among p) (sym made_now) (Among-last p (slots_made w.answers));
      }

  own_frames : AreFrames now
  own_frames =
      let put = frames_put w.slots p (Some new.held) (hand_there w s u id i) in
      let at = ap frames_at (in_slot w s u id i) ∙ ap (λ (b : Bool). frames_by b h) (going_on w s u id i) in
      record {
        used = used_less w.frames (frames_used w.slots) (frames_used now.slots) (frames_at (slot_at w p)) (frames_of h) s.frames put at;
        room = room_less w.frames (frames_of h) s.room;
      }

  none_made : Among p (slots_made w.answers) → ⊥
  none_made m = let found = made_at w.answers p m in not_made w s u id i found.0 p (s.answers found.0 p found.1 found.2) refl

  own_answers : AreAnswers now
  own_answers = record {
    each = λ made q c e. elim (Contains-push_cases w.answers (answer_at line (Some p) h.id kind) made c) [
      | inl before ↦
          let was : IsMade w made q = s.answers made q before e in
          record { held = was.held; slot = change.slots.others q (not_made w s u id i made q was) ∙ was.slot; id = was.id; over = was.over; given = was.given }
      | inr same ↦
          let here : p ≡ q = same_Some p q (ap (λ (m : Made). m.slot) same ∙ e) in
          subst (λ (m : Made). IsMade now m q) same (subst (IsMade now (answer_at line (Some p) h.id kind)) here (record {
            held = new.held;
            slot = change.slots.here;
            id = refl;
            over = refl;
            given = given;
          }))
    ];
    refused = λ made c e. elim (Contains-push_cases w.answers (answer_at line (Some p) h.id kind) made c) [
      | inl before ↦ s.refused made before e
      | inr same ↦ absurd (none-some p (sym e ∙ ap (λ (m : Made). m.slot) (sym same)))
    ];
    once = subst Once (sym made_now) (Once-push (slots_made w.answers) p s.once none_made);
  }

  pub end_parts : AreParts now
  end_parts =
      parts_changed w now u p new.unit (Some new.held) s change leaves (λ lt. own_unit)
      (slots_changed w now u p new.unit (Some new.held) s change leaves
      (λ g e. subst (SlotOk now p) (same_Some new.held g e) own_slot)
      (λ g e on. absurd (true≢false (ap (λ (x : Held). x.ended) (same_Some new.held g e) ∙ on)))
      (λ g e q f ne there. subst (λ (x : Held). IsApart x.loan.frames f.loan.frames) (same_Some new.held g e)
      (s.apart p q h f (in_slot w s u id i) there (λ same. ne (sym same)))))
      own_frames own_answers
