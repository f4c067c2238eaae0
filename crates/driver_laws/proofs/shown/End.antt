-- THE END of a request: it is what is due, its line may be said, and what it leaves is shown.
use Rattle.std.proofs.Common.{◌≡◌, ℕ, zero, suc, List, [], ◌∷◌, drop, length, ◌+◌, ◌-◌, Option, Some, None, ◌==◌, Bool, true, false, refl, sym, ap, subst, arith, ◌∙◌, rules}
use Rattle.std.specs.Prelude.{if◌then◌else◌, slice_index_or, slice_set}
use Rattle.pack_geometry.specs.declared.DriveKind.{DriveKind}
use Rattle.pack_geometry.specs.declared.Place.{Place}
use Rattle.pack_geometry.specs.Geometry.{place_at}
use Rattle.pack_geometry.specs.Homes.{index_in}
use Rattle.pack_geometry.specs.TableSpelling.{Table}
use Rattle.hardware_table.specs.declared.Moved.{Moved}
use Rattle.hardware_table.specs.declared.Moved.TheVariants as verdict
use Rattle.hardware_table.specs.Adapter.{AdapterState}
use Rattle.hardware_table.specs.Drive.{DriveState}
use Rattle.disksort.specs.declared.Waiter.{Waiter}
use Rattle.transfer_engine.specs.Calls.{entry_by}
use Rattle.trace_replay.specs.requests.Requests.{Request, Answer}
use Rattle.trace_replay.specs.requests.Requests as asked
use Rattle.trace_replay.specs.Service.{in_hand, target_of, frames_needed}
use Rattle.trace_replay.specs.Replay.{UnitSeen, Replay, hand_of, at_unit, with_state, unit_after, adapter_told, replay_told}
use Rattle.trace_replay.specs.Conversation as told
use Rattle.trace_replay.specs.Moments as moment
use Rattle.trace_replay.specs.Adapters as rule
use Rattle.trace_replay.specs.Adapters.{AdapterSeen}
use Rattle.trace_replay.specs.requests.ServiceOrder.{Waiting}
use Rattle.driver_machine.specs.declared.Phase.{Phase}
use Rattle.driver_machine.specs.declared.Task.TheVariants.{Clear, Judge, Steps, Command, GiveUp}
use Rattle.driver_machine.specs.declared.Phase.TheVariants as phases
use Rattle.driver_machine.specs.declared.Phase.TheVariants.{Positioning, Queued, Transferring, Due}
use Rattle.trace_replay.specs.declared.requests.answers.AnswerKind.{AnswerKind}
use Rattle.trace_replay.specs.declared.requests.answers.AnswerKind.TheVariants as answer
use Rattle.driver_machine.specs.World.{World, UnitView, AdapterView, Held, slot_in_hand, transfer_of, bytes_in, frames_of, adapter_of, unit_at, adapter_at, held_in}
use Rattle.driver_machine.specs.Guards.{IsHeldFor, InHand}
use Rattle.driver_machine.specs.Due.{done_with}
use Rattle.driver_machine.specs.Acts as deed
use Rattle.driver_machine.specs.Acts.{Scene, effect, scene_of, with_scene, without}
use Rattle.driver_machine.specs.Lines.{answer_told}
use Rattle.driver_machine.specs.Sound.{Sound, IsPhase, IsBegun}
use Rattle.driver_machine.proofs.Dues.{Offline, Locked, Left, Unforwarded, Tried, Finished, AtStart, AtStep, AtTransfer, AtChoice, Calls, Ends, IsAtCommand}
use Rattle.driver_laws.specs.shown.Stages.{segment_by, steps_left, segment_seen, progress_judged, front_of, progress_with}
use Rattle.driver_laws.specs.shown.Shows.{Match, IsAdapterSeen, outstanding_in}
use Rattle.driver_laws.proofs.shown.Told.{seen_told}
use Rattle.driver_laws.proofs.shown.Core.{Core, IsHead}
use Rattle.driver_laws.proofs.shown.Frame.{step_shows, same_transfer}
use Rattle.driver_laws.proofs.shown.Facts.{At}
use Rattle.driver_laws.proofs.shown.AdapterQueues.{without_coming, not_without, ready_goes}
use Rattle.driver_laws.proofs.shown.Plain.{with_same}
use Rattle.driver_laws.proofs.shown.DeedFacts.{judged_progress, command_begun}
use Rattle.driver_laws.proofs.shown.Fronts.{front_whole}
use Rattle.driver_laws.proofs.shown.Silent.{mark_place}
use Rattle.trace_replay.proofs.Unchanged.{with_other}
use Rattle.driver_laws.proofs.shown.Showing.{Shows, is_coming, with_coming, IsSaid}

-- The unit waits, and the next one that waits at it is its head.
end_core : (h g : Held) (v : UnitView) (a c : AdapterState) (seen : UnitSeen) (b : AdapterState) (answer : Answer) → Core h v a seen
    → Core g (record v { queue = drop 1 v.queue; phase = phases.Waiting; transfer = None }) c (seen_told seen b (moment.End answer) [])
end_core h g v a c seen b answer is = search rules

-- OFFLINE. Whichever command is due, the request ends in its place.
pub record IsCalled (d : DriveState) (hand : told.Hand) (stage : told.Stage) : Type 0 where
  pub command : moment.Deed
  pub due : told.due d hand stage ≡ Some (told.guarded d hand command)

steps_called : (d : DriveState) (hand : told.Hand) (left : List told.Positioning) (segment : told.Segment) → IsCalled d hand (told.Steps left segment)
steps_called d hand [] segment = record { command = told.transfer_of segment hand; due = refl }
steps_called d hand (step ∷ left) segment = record { command = told.command_of step; due = refl }

called : (phase : Phase) (h : Held) (v : UnitView) (a : AdapterState) (seen : UnitSeen) → v.phase ≡ phase → Calls phase → Core h v a seen
    → IsHead h v.drive.kind seen → IsCalled seen.drive (hand_of seen) seen.stage
called phases.Waiting h v a seen phase AtStart is head =
    let stage : seen.stage ≡ told.Steps (told.first_steps v.drive (target_of v.drive.kind head.request)) told.OwnBlocks =
    is.stage ∙ rw (phase, head.head) refl in
    subst (IsCalled seen.drive (hand_of seen)) (sym stage)
    (steps_called seen.drive (hand_of seen) (told.first_steps v.drive (target_of v.drive.kind head.request)) told.OwnBlocks)
called (Due (Steps taken)) h v a seen phase (AtStep _) is head =
    let stage : seen.stage ≡ told.Steps (steps_left taken (transfer_of v)) (segment_seen (transfer_of v)) = is.stage ∙ rw phase refl in
    subst (IsCalled seen.drive (hand_of seen)) (sym stage)
    (steps_called seen.drive (hand_of seen) (steps_left taken (transfer_of v)) (segment_seen (transfer_of v)))
called (Due Command) h v a seen phase AtTransfer is head =
    let stage : seen.stage ≡ told.AtOnce (segment_seen (transfer_of v)) = is.stage ∙ rw phase refl in
    subst (IsCalled seen.drive (hand_of seen)) (sym stage)
    (record { command = told.transfer_of (segment_seen (transfer_of v)) (hand_of seen); due = refl })
called Queued h v a seen phase AtChoice is head =
    let stage : seen.stage ≡ told.Steps [] (segment_seen (transfer_of v)) = is.stage ∙ rw phase refl in
    subst (IsCalled seen.drive (hand_of seen)) (sym stage)
    (steps_called seen.drive (hand_of seen) [] (segment_seen (transfer_of v)))
called (Positioning taken) h v a seen phase calls is head = elim calls [ ]
called Transferring h v a seen phase calls is head = elim calls [ ]
called (Due (Clear moved last)) h v a seen phase calls is head = elim calls [ ]
called (Due (Judge moved last)) h v a seen phase calls is head = elim calls [ ]
called (Due (GiveUp done)) h v a seen phase calls is head = elim calls [ ]

called_done : (phase : Phase) (h : Held) (v : UnitView) (a : AdapterState) (seen : UnitSeen) → v.phase ≡ phase → Calls phase → Core h v a seen
    → (v.phase ≡ phases.Waiting → v.transfer ≡ None) → seen.progress.done ≡ done_with 0 v
called_done phases.Waiting h v a seen phase AtStart is none =
    let progress : seen.progress ≡ told.not_begun = rw phase at is.progress in
    rw (progress, none phase) refl
called_done (Due (Steps taken)) h v a seen phase (AtStep _) is none =
    let progress : seen.progress ≡ progress_with 0 (transfer_of v) h = rw phase at is.progress in
    ap (λ (p : told.Progress). p.done) progress
called_done (Due Command) h v a seen phase AtTransfer is none =
    let progress : seen.progress ≡ progress_with 0 (transfer_of v) h = rw phase at is.progress in
    ap (λ (p : told.Progress). p.done) progress
called_done Queued h v a seen phase AtChoice is none =
    let progress : seen.progress ≡ progress_with 0 (transfer_of v) h = rw phase at is.progress in
    ap (λ (p : told.Progress). p.done) progress
called_done (Positioning taken) h v a seen phase calls is none = elim calls [ ]
called_done Transferring h v a seen phase calls is none = elim calls [ ]
called_done (Due (Clear moved last)) h v a seen phase calls is none = elim calls [ ]
called_done (Due (Judge moved last)) h v a seen phase calls is none = elim calls [ ]
called_done (Due (GiveUp done)) h v a seen phase calls is none = elim calls [ ]

guarded_offline : (d : DriveState) (hand : told.Hand) (command : moment.Deed) → d.online ≡ false
    → told.guarded d hand command ≡ moment.End (asked.Failed asked.Offline hand.progress.done)
guarded_offline d hand command off = rw off refl

-- the facts that the end of a request rests on
pub record MayEnd (v : UnitView) (h : Held) : Type 0 where
  pub start : v.phase ≡ phases.Waiting → v.transfer ≡ None
  pub begun : IsAtCommand v.phase → IsBegun v h
  pub judged : (moved : ℕ) (last : Moved) → v.phase ≡ Due (Judge moved last) → IsBegun v h
  pub size : length h.blocks ≡ h.loan.count

pub eqb_same : {m n : ℕ} → m == n ≡ true → m ≡ n
eqb_same e = grind (arith, e)

marked_end : (index : Option ℕ) (kind : DriveKind) (table : Option Table) (place : Place) (hand : told.Hand) → entry_by index table place ≡ None
    → told.entry_of hand (told.start_of told.OwnBlocks hand) ≡ index_in table place
    → told.marked hand (segment_by kind index) ≡ told.Ending (asked.Failed asked.Unforwarded hand.progress.done)
marked_end None kind table place hand e at = rw (at, e) refl
marked_end (Some i) kind table place hand e at = refl

finished_end : (write : Bool) (h : Held) (bytes : List ℕ) → h.write ≡ write → (write ≡ false → bytes ≡ bytes_in h.blocks)
    → (if write then asked.WriteOk else asked.ReadOk bytes)
    ≡ answer_told (if write then answer.WriteOk else answer.ReadOk h.loan.count h.loan.last) h.blocks
finished_end true h bytes is read = refl
finished_end false h bytes is read = ap asked.ReadOk (read refl)

end_talk : (h : Held) (v : UnitView) (a : AdapterState) (seen : UnitSeen) (kind : AnswerKind) → Core h v a seen → IsHead h v.drive.kind seen
    → MayEnd v h → Ends v h kind → told.due seen.drive (hand_of seen) seen.stage ≡ Some (moment.End (answer_told kind h.blocks))
end_talk h v a seen _ is head may (Offline off calls) =
    let at : IsCalled seen.drive (hand_of seen) seen.stage = called v.phase h v a seen refl calls is head in
    at.due ∙ ap Some (guarded_offline seen.drive (hand_of seen) at.command (rw is.drive off)
    ∙ ap (λ n. moment.End (asked.Failed asked.Offline n)) (called_done v.phase h v a seen refl calls is may.start))
end_talk h v a seen _ is head may (Locked on locked at) = search rules
end_talk h v a seen _ is head may (Left moved due) = search rules
end_talk h v a seen _ is head may (Unforwarded moved due entry) =
    let progress : seen.progress ≡ progress_judged verdict.Marked moved (transfer_of v) h = judged_progress verdict.Marked h v a seen moved is due in
    let marked : seen.stage ≡ told.marked (hand_of seen) (segment_seen (transfer_of v)) = is.stage ∙ rw (due.phase, due.centred) refl in
    let place : told.entry_of (hand_of seen) (told.start_of told.OwnBlocks (hand_of seen))
    ≡ index_in v.table (place_at (transfer_of v).job.kind ((transfer_of v).job.first + ((transfer_of v).done + moved))) =
    mark_place h v a seen moved is head (may.judged moved verdict.Marked due.phase) (ap (λ (p : told.Progress). p.done) progress) in
    let stage : seen.stage ≡ told.Ending (asked.Failed asked.Unforwarded seen.progress.done) =
    marked ∙ marked_end (transfer_of v).index (transfer_of v).job.kind v.table _ (hand_of seen) entry place in
    rw (stage, progress) refl
end_talk h v a seen _ is head may (Tried done phase) = rw (is.stage, phase) refl
end_talk h v a seen _ is head may (Finished moved due over) =
    let progress : seen.progress ≡ progress_judged verdict.Clean moved (transfer_of v) h = judged_progress verdict.Clean h v a seen moved is due in
    let done : seen.progress.done ≡ (transfer_of v).done + moved = ap (λ (p : told.Progress). p.done) progress in
    let count : (transfer_of v).done + moved ≡ h.loan.count = eqb_same over in
    let bytes : seen.progress.bytes ≡ front_of h h.loan.count = ap (λ (p : told.Progress). p.bytes) progress ∙ ap (front_of h) count in
    let going : seen.stage ≡ told.continued (hand_of seen) = is.stage ∙ rw (due.phase, due.centred) refl in
    let stage : seen.stage ≡ told.Ending (told.ok_answer (hand_of seen)) =
    going ∙ rw (done, head.head, sym head.is.count, over) refl in
    let write : told.is_write (hand_of seen) ≡ h.write = rw head.head (sym head.is.write) in
    rw stage
    (ap (λ (x : Answer). Some (moment.End x))
    ((rw write refl) ∙ finished_end h.write h seen.progress.bytes refl (λ reads. bytes ∙ front_whole h h.loan.count reads may.size)))

kept_end : (b : Bool) (kind : DriveKind) (q : Request) (h : Held) → IsHeldFor kind q h → IsHeldFor kind q (record h { ended = b })
kept_end b kind q h is = search rules

match_behind : (held : ℕ → Held) (kind : DriveKind) (queue : List Waiter) (waiting : List (Waiting Request)) → Match held kind queue waiting
    → Match held kind (drop 1 queue) (drop 1 waiting)
match_behind held kind queue waiting match = search rules

-- ONE LESS is outstanding.
outstanding_less : (slots : List (Option Held)) (p : ℕ) (g h : Held) → slice_index_or slots p None ≡ Some h → h.ended ≡ false → g.ended ≡ true
    → outstanding_in slots ≡ outstanding_in (slice_set slots p (Some g)) + 1
outstanding_less [] p g h is going over = absurd (grind (arith, is))
outstanding_less (None ∷ slots) zero g h is going over = absurd (grind (arith, is))
outstanding_less (Some x ∷ slots) zero g h is going over = search rules
outstanding_less (None ∷ slots) (suc p) g h is going over = outstanding_less slots p g h is going over
outstanding_less (Some x ∷ slots) (suc p) g h is going over = search (rules, outstanding_less slots p g h is going over)

less_one : {m n k : ℕ} → m ≡ n → n ≡ k + 1 → m - 1 ≡ k
less_one e f = omega (arith, e, f)

pub frames_same : (r : Request) (h : Held) → h.loan.offset ≡ r.offset → h.loan.count ≡ r.count → h.loan.last ≡ r.last → frames_needed r ≡ frames_of h
frames_same r h offset count last = rw (sym offset, sym count, sym last) refl

end_facts : (u id : ℕ) (w : World) (s : Replay) → At u id w s → MayEnd (unit_at w u) (held_in w (slot_in_hand (unit_at w u)))
end_facts u id w s at =
    let h : Held = held_in w (slot_in_hand (unit_at w u)) in
    let v : UnitView = unit_at w u in
    let a : AdapterView = adapter_at w (adapter_of u) in
    record {
      start = λ phase. waiting_none (subst (IsPhase u v a h) phase at.ok.phase);
      begun = command_begun u v a h at.ok.phase;
      judged = λ moved last phase. judged_begun moved last (subst (IsPhase u v a h) phase at.ok.phase);
      size = at.slot.size;
    }
  where
    waiting_none : IsPhase u (unit_at w u) (adapter_at w (adapter_of u)) (held_in w (slot_in_hand (unit_at w u))) phases.Waiting → (unit_at w u).transfer ≡ None
    waiting_none is = is.1

    judged_begun : (moved : ℕ) (last : Moved)
        → IsPhase u (unit_at w u) (adapter_at w (adapter_of u)) (held_in w (slot_in_hand (unit_at w u))) (Due (Judge moved last))
        → IsBegun (unit_at w u) (held_in w (slot_in_hand (unit_at w u)))
    judged_begun moved last is = is.0

pub end_line : (line u id : ℕ) (w : World) (s : Replay) (kind : AnswerKind) → Sound w → Shows u w s → InHand w u id → At u id w s
    → Ends (unit_at w u) (held_in w (slot_in_hand (unit_at w u))) kind
    → IsSaid line u id w s (deed.End kind) (moment.End (answer_told kind (held_in w (slot_in_hand (unit_at w u))).blocks))
end_line line u id w s kind sound shows hand at ends =
    let h : Held = held_in w (slot_in_hand (unit_at w u)) in
    let v : UnitView = unit_at w u in
    let a : AdapterView = adapter_at w (adapter_of u) in
    let answer : Answer = answer_told kind h.blocks in
    let scene : Scene = effect line u (slot_in_hand v) (deed.End kind) (scene_of w u) in
    let unit : unit_after s u (moment.End answer) ≡ with_state s.units u (unit_after s u (moment.End answer)) u =
    sym (with_same s.units u (unit_after s u (moment.End answer))) in
    let new : AdapterSeen = adapter_told (at_unit s u) u (moment.End answer) (unit_after s u (moment.End answer)).stage in
    let adapter : new ≡ with_state s.adapters (adapter_of u) new (adapter_of u) = sym (with_same s.adapters (adapter_of u) new) in
    let match : Match (held_in w) v.drive.kind (drop 1 v.queue) (drop 1 (s.units u).service.waiting) =
    match_behind (held_in w) v.drive.kind v.queue (s.units u).service.waiting at.seen.queue in
    let frames : frames_needed (in_hand (s.units u).service) ≡ frames_of h =
    rw at.head.head (frames_same at.head.request h at.head.is.offset at.head.is.count at.head.is.last) in
    record {
      may = record {
        service = at.service;
        talk = end_talk h v a.state (s.units u) kind at.core at.head (end_facts u id w s at) ends;
        drive = tt;
        adapter = tt;
        verdict = tt;
      };
      shows =
          step_shows u id w s (replay_told s u (moment.End answer) (unit_after s u (moment.End answer))) scene sound shows hand
          (record {
            core =
                subst (Core (held_in (with_scene w u (slot_in_hand v) scene) (slot_in_hand scene.unit)) scene.unit scene.adapter.state) unit
                (end_core h (held_in (with_scene w u (slot_in_hand v) scene) (slot_in_hand scene.unit)) v a.state a.state (s.units u) (at_unit s u).state answer at.core);
            queue = subst (λ (x : UnitSeen). Match (held_in w) v.drive.kind (drop 1 v.queue) x.service.waiting) unit match;
            kept = λ k q held. kept_end true k q h held;
            declared = refl;
            others = λ x other. with_other s.units u (unit_after s u (moment.End answer)) x other;
            adapter = subst (λ (x : AdapterSeen). IsAdapterSeen a.state x.state) adapter at.adapter;
            adapters = λ b other. with_other s.adapters (adapter_of u) new b other;
            ready =
                ap (λ (x : AdapterSeen). x.ready) (sym adapter)
                ∙ ap (rule.with_ready (told.waits (unit_after s u (moment.End answer)).stage) u)
                (ap (rule.without u) shows.own_ready ∙ without_coming (is_coming v.phase (s.units u).stage) u a.queue)
                ∙ ready_goes false (told.waits (unit_after s u (moment.End answer)).stage) u (without u a.queue) (not_without u a.queue) (λ e. never e)
                ∙ ap (λ (x : UnitSeen). with_coming (told.waits x.stage) u (without u a.queue)) unit;
            apart = λ x other one phase. same_transfer a.state;
            noise = shows.noise;
            frames = ap (λ n. s.frames - n) frames ∙ ap (λ n. n - frames_of h) shows.frames;
            outstanding = less_one shows.outstanding (outstanding_less w.slots (slot_in_hand v) (record h { ended = true }) h at.there at.going refl);
          });
    }
  where
    never : {P : Type 0} → false ≡ true → P
    never e = absurd (grind (arith, e))
