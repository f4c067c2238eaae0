-- Each deed at a unit, but for a sector that is tried and the end: the request in hand stands as it did, in its new place.
use Rattle.std.proofs.Common.{◌≡◌, inl, inr, ℕ, ◌+◌, ◌<◌, true, false, length, Option, Some, None, refl, sym, ap, ◌∙◌, subst, arith}
use Rattle.std.specs.Prelude.{if◌then◌else◌, unwrap_or}
use Rattle.std.proofs.lemmas.Option.{none-some, same_Some}
use Rattle.pack_geometry.specs.declared.DriveKind.{DriveKind}
use Rattle.pack_geometry.specs.declared.Place.{Place}
use Rattle.pack_geometry.specs.Geometry.{place_at}
use Rattle.pack_geometry.specs.Pack.{Pack, is_marked}
use Rattle.pack_geometry.specs.Homes.{index_in}
use Rattle.pack_geometry.specs.TableSpelling.{Table}
use Rattle.hardware_table.specs.declared.Moved.{Moved}
use Rattle.hardware_table.specs.declared.Moved.TheVariants as verdict
use Rattle.hardware_table.specs.Adapter.{AdapterState}
use Rattle.driver_machine.specs.Repaired.{repaired}
use Rattle.trace_replay.specs.declared.retry_offsets.Step as retried
use Rattle.trace_replay.specs.declared.retry_offsets.Step.TheVariants as retry
use Rattle.transfer_engine.specs.declared.job.Job.{Job}
use Rattle.transfer_engine.specs.State.{TransferState, begun, segment_by, segment_of, forwarded, moved_on}
use Rattle.transfer_engine.specs.State as engine
use Rattle.transfer_engine.specs.Calls.{entry_by, entry_for, step_for}
use Rattle.driver_laws.specs.rules.Machine.{Blocks}
use Rattle.driver_machine.specs.declared.Task.{Task}
use Rattle.driver_machine.specs.declared.Task.TheVariants.{Clear, Judge, Steps, Command}
use Rattle.driver_machine.specs.declared.Phase.{Phase}
use Rattle.driver_machine.specs.declared.Phase.TheVariants.{Waiting, Positioning, Queued, Transferring, Due}
use Rattle.driver_machine.specs.World.{UnitView, Held, transfer_of, no_transfer, job_of, block_in, with_block_in}
use Rattle.driver_machine.specs.Acts as deed
use Rattle.driver_machine.specs.Acts.{Deed, Scene, effect, interrupted, transfer_tried}
use Rattle.driver_machine.specs.Due.{task_for}
use Rattle.driver_machine.specs.Guards.{May}
use Rattle.driver_machine.specs.Sound.{IsTask, IsBegun}
use Rattle.driver_laws.proofs.invariant.Try.{failed_less, next_of_try}
use Rattle.driver_laws.proofs.invariant.Scene.{SceneOk, due_of}
use Rattle.driver_laws.proofs.invariant.DeedFacts.{judged_is, transfer_at, left_by}
use Rattle.driver_laws.specs.shown.Bytes.{done_at, done_in, last_at, last_in, IsForwarded, sector_for, HandBears}
use Rattle.driver_laws.proofs.shown.Hand.{hand_anew, hand_at, hand_bus, hand_repaired}
use Rattle.driver_laws.proofs.shown.Silent.{plus_none}
use Rattle.driver_machine.proofs.Dues.{IsAtCommand, IsDue, IsJudged, IsReady}

-- THE REQUEST IN HAND, by where its unit is with it
abbrev pub At : (sure : ℕ → Type 0) → DriveKind → Option Table → Pack → Blocks → Held → Option TransferState → Phase → AdapterState → Type 0
At sure kind table pack blocks h transfer phase a =
    HandBears sure kind table pack blocks h (unwrap_or transfer no_transfer) (done_in phase (unwrap_or transfer no_transfer) a) (last_in phase a)

abbrev pub SceneBears : (sure : ℕ → Type 0) → DriveKind → Pack → Blocks → Scene → Type 0
SceneBears sure kind pack blocks s = At sure kind s.unit.table pack blocks s.held s.unit.transfer s.unit.phase s.adapter.state

-- attentions are not seen
attention_at : (sure : ℕ → Type 0) (kind : DriveKind) (table : Option Table) (pack : Pack) (blocks : Blocks) (h : Held) (t : Option TransferState) (phase : Phase) (a : AdapterState) (n : ℕ)
    → At sure kind table pack blocks h t phase a → At sure kind table pack blocks h t phase (record a { attentions = n })
attention_at sure kind table pack blocks h t Waiting a n b = b
attention_at sure kind table pack blocks h t other a n b = b

interrupted_at : (sure : ℕ → Type 0) (kind : DriveKind) (table : Option Table) (pack : Pack) (blocks : Blocks) (h : Held) (t : TransferState) (moved : ℕ) (last : Moved)
    → HandBears sure kind table pack blocks h t (t.done + moved) last
    → HandBears sure kind table pack blocks h t (done_at (interrupted moved last) t) (last_at (interrupted moved last))
interrupted_at sure kind table pack blocks h t moved verdict.Clean b = b
interrupted_at sure kind table pack blocks h t moved other b = b

-- a segment that stopped in front of its end has not left its replacement
pub one_sector : (index : Option ℕ) (job : Job) (done moved : ℕ) → moved < (segment_by index job done).count → (i : ℕ) → index ≡ Some i → done + moved ≡ done
one_sector None job done moved less i is = absurd (none-some i is)
one_sector (Some j) job done moved less i is = omega (arith, less)

pub record IsListed (index : Option ℕ) (table : Option Table) (place : Place) (i : ℕ) : Type 0 where
  pub own : index ≡ None
  pub listed : index_in table place ≡ Some i

listed_is : (index : Option ℕ) (table : Option Table) (place : Place) (i : ℕ) → entry_by index table place ≡ Some i → IsListed index table place i
listed_is None table place i e = record { own = refl; listed = e }
listed_is (Some j) table place i e = absurd (none-some i e)

plus_more : (n m : ℕ) → n + (m + 1) ≡ n + m + 1
plus_more n m = omega arith

module _ (sure : ℕ → Type 0) (pack : Pack) (blocks : Blocks) (u : ℕ) (s : Scene) (ok : SceneOk u s)
    (b : SceneBears sure s.unit.drive.kind pack blocks s) where
  abbrev kind : DriveKind
  kind = s.unit.drive.kind

  abbrev v : UnitView
  v = s.unit

  abbrev t : TransferState
  t = transfer_of s.unit

  abbrev h : Held
  h = s.held

  abbrev a : AdapterState
  a = s.adapter.state

  abbrev Hand : Held → TransferState → ℕ → Moved → Type 0
  Hand g x n last = HandBears sure kind v.table pack blocks g x n last

  -- where the phase is known
  at_phase : (phase : Phase) → v.phase ≡ phase → At sure kind v.table pack blocks h v.transfer phase a
  at_phase phase is = subst (λ p. At sure kind v.table pack blocks h v.transfer p a) is b

  -- a new transfer
  anew : v.phase ≡ Waiting → (job : Job) → Hand h (begun job) 0 verdict.Clean
  anew is job = hand_anew sure kind v.table pack blocks h t 0 verdict.Clean (at_phase Waiting is) (begun job) 0 refl refl

  intr_bears : (moved : ℕ) (last : Moved) → May u (deed.Intr moved last) s → Hand (record h { on_bus = false }) t (done_at (interrupted moved last) t) (last_at (interrupted moved last))
  intr_bears moved last may =
      let phase : v.phase ≡ Transferring = (transfer_at u true s ok may.0).phase in
      let one : Hand h t (t.done + a.moved) (if a.completion then a.verdict else verdict.Clean) = at_phase Transferring phase in
      let up : Hand h t (t.done + a.moved) a.verdict = subst (λ c. Hand h t (t.done + a.moved) (if c then a.verdict else verdict.Clean)) may.0.completion one in
      let named : Hand h t (t.done + moved) last = subst (λ l. Hand h t (t.done + moved) l) (sym may.2) (subst (λ n. Hand h t (t.done + n) a.verdict) (sym may.1) up) in
      interrupted_at sure kind v.table pack blocks (record h { on_bus = false }) t moved last
      (hand_bus sure kind v.table pack blocks h t (t.done + moved) last named false)

  move_bears : IsAtCommand v.phase → Hand (record h { on_bus = true }) t (t.done + 0) verdict.Clean
  move_bears at =
      hand_bus sure kind v.table pack blocks h t (t.done + 0) verdict.Clean
      (subst (λ n. Hand h t n verdict.Clean) (plus_none t.done) (by at)) true
    where
      by : IsAtCommand v.phase → Hand h t t.done verdict.Clean
      by (inl is) = at_phase (Due Command) is
      by (inr is) = at_phase Queued is

  ready_bears : (x : TransferState) → IsReady v h x → Hand h x x.done verdict.Clean
  ready_bears x (inl is) = subst (λ y. Hand h y y.done verdict.Clean) (sym is.1) (anew is.0 (job_of kind h))
  ready_bears x (inr is) = subst (λ y. Hand h y y.done verdict.Clean) (sym is.1) (at_phase (Due (Steps is.0.taken)) is.0.phase)

  judged : (moved : ℕ) (last : Moved) → IsJudged v moved last → Hand h t (t.done + moved) last
  judged moved last is = at_phase (Due (Judge moved last)) is.phase

  repair_bears : (moved at pattern : ℕ) → IsJudged v moved (verdict.Burst at pattern) → length h.blocks ≡ h.loan.count
      → Hand (with_block_in (t.done + moved) (repaired at pattern (block_in h (t.done + moved))) h) t (t.done + (moved + 1)) verdict.Clean
  repair_bears moved at pattern is size =
      let task : IsTask v h (Judge moved (verdict.Burst at pattern)) = judged_is u moved (verdict.Burst at pattern) s ok is in
      let inside : t.done + moved < t.job.count = left_by t.index t.job t.done moved task.0.is.left task.2 in
      let count : t.job.count ≡ length h.blocks = ap (λ (j : Job). j.count) task.0.job ∙ sym size in
      subst (λ n. Hand (with_block_in (t.done + moved) (repaired at pattern (block_in h (t.done + moved))) h) t n verdict.Clean) (sym (plus_more t.done moved))
      (hand_repaired sure kind v.table pack blocks h t (t.done + moved) at pattern (judged moved (verdict.Burst at pattern) is) task.3.0
      (subst (λ n. t.done + moved < n) count inside))

  forward_bears : (moved index : ℕ) → IsJudged v moved verdict.Marked → entry_for moved v.table t ≡ Some index
      → Hand h (forwarded moved index t) (t.done + moved) verdict.Clean
  forward_bears moved index is entry =
      let task : IsTask v h (Judge moved verdict.Marked) = judged_is u moved verdict.Marked s ok is in
      let at : IsListed t.index v.table (place_at t.job.kind (t.job.first + (t.done + moved))) index = listed_is t.index v.table _ index entry in
      let place : IsListed t.index v.table (place_at kind (h.first + (t.done + moved))) index =
      subst (λ (j : Job). IsListed t.index v.table (place_at j.kind (j.first + (t.done + moved))) index) task.0.job at in
      let here : HandBears sure kind v.table pack blocks h t (t.done + moved) verdict.Marked = judged moved verdict.Marked is in
      let marked : IsForwarded kind v.table pack (h.first + (t.done + moved)) index = record {
        marked = subst (λ i. is_marked pack (sector_for kind i (h.first + (t.done + moved))) ≡ true) place.own here.stopped;
        listed = place.listed;
      } in
      hand_at sure kind v.table pack blocks h t (t.done + moved) verdict.Marked here (forwarded moved index t) (t.done + moved) refl
      (λ i e. subst (λ j. IsForwarded kind v.table pack (h.first + (t.done + moved)) j) (same_Some index i e) marked)

  continue_bears : (moved : ℕ) → IsJudged v moved verdict.Clean → Hand h (moved_on (t.done + moved) t) (t.done + moved) verdict.Clean
  continue_bears moved is =
      hand_anew sure kind v.table pack blocks h t (t.done + moved) verdict.Clean (judged moved verdict.Clean is) (moved_on (t.done + moved) t) (t.done + moved) refl refl

  -- behind a failed try the place stays, or all is over
  tried_at : (last : Moved) (moved : ℕ) (step : retried.Step) → IsBegun v h → moved < (segment_of t).count → Hand h t (t.done + moved) last
      → At sure kind v.table pack blocks h (transfer_tried (task_for step (t.done + moved)) moved t) (Due (task_for step (t.done + moved))) a
  tried_at last moved retry.Again is less here = again last moved less here
    where
      again : (last : Moved) (moved : ℕ) → moved < (segment_of t).count → Hand h t (t.done + moved) last → Hand h (engine.failed moved t) (t.done + moved) verdict.Clean
      again last moved less here = hand_at sure kind v.table pack blocks h t (t.done + moved) last here (engine.failed moved t) (t.done + moved) refl
          (λ i e. subst (λ n. IsForwarded kind v.table pack (h.first + n) i) (sym (one_sector t.index t.job t.done moved less i e)) (here.forwarded i e))
  tried_at last moved (retry.Offset code) is less here = hand_at sure kind v.table pack blocks h t (t.done + moved) last here (engine.failed moved t) (t.done + moved) refl
      (λ i e. subst (λ n. IsForwarded kind v.table pack (h.first + n) i) (sym (one_sector t.index t.job t.done moved less i e)) (here.forwarded i e))
  tried_at last moved (retry.Recalibrate code) is less here = hand_at sure kind v.table pack blocks h t (t.done + moved) last here (engine.failed moved t) (t.done + moved) refl
      (λ i e. subst (λ n. IsForwarded kind v.table pack (h.first + n) i) (sym (one_sector t.index t.job t.done moved less i e)) (here.forwarded i e))
  tried_at last moved retry.GiveUp is less here = hand_anew sure kind v.table pack blocks h t (t.done + moved) last here no_transfer (t.done + moved) refl refl

  try_bears : (moved block number : ℕ) (next : Task) → IsDue v h (deed.Try moved block number next)
      → At sure kind v.table pack blocks h (transfer_tried next moved t) (Due next) a
  try_bears moved block number next due =
      let last : Moved = due.0 in
      let task : IsTask v h (Judge moved last) = judged_is u moved last s ok due.2 in
      let less : moved < (segment_of t).count = failed_less last moved _ due.1 task.2 in
      let same : next ≡ task_for (step_for moved t) (t.done + moved) = next_of_try _ _ _ _ _ _ _ _ due.3 in
      subst (λ (task : Task). At sure kind v.table pack blocks h (transfer_tried task moved t) (Due task) a) (sym same)
      (tried_at last moved (step_for moved t) task.0 less (judged moved last due.2))

-- a sector that is tried, and an end, have files of their own
abbrev pub IsPlain : Deed → Type 0
IsPlain (deed.Sector block tried) = ⊥
IsPlain (deed.End answer) = ⊥
IsPlain d = Unit {0}

-- EACH OF THEM
pub plain_bears : (sure : ℕ → Type 0) (pack : Pack) (blocks : Blocks) (line u p : ℕ) (d : Deed) (s : Scene) → SceneOk u s → May u d s → IsPlain d
    → length s.held.blocks ≡ s.held.loan.count → SceneBears sure s.unit.drive.kind pack blocks s → SceneBears sure s.unit.drive.kind pack blocks (effect line u p d s)
plain_bears sure pack blocks line u p deed.Arrive s ok may plain size b = attention_at sure s.unit.drive.kind s.unit.table pack blocks s.held s.unit.transfer s.unit.phase s.adapter.state _ b
plain_bears sure pack blocks line u p (deed.Intr moved last) s ok may plain size b = intr_bears sure pack blocks u s ok b moved last may
plain_bears sure pack blocks line u p (deed.Attn taken) s ok may plain size b = at_phase sure pack blocks u s ok b (Positioning taken) may.0
plain_bears sure pack blocks line u p (deed.Search target sector) s ok may plain size b =
    let due = due_of u (deed.Search target sector) s may in anew sure pack blocks u s ok b due.0 (job_of s.unit.drive.kind s.held)
plain_bears sure pack blocks line u p (deed.Do step taken) s ok may plain size b =
    let due = due_of u (deed.Do step taken) s may in at_phase sure pack blocks u s ok b (Due (Steps due.0.before)) due.0.phase
plain_bears sure pack blocks line u p (deed.Move write segment) s ok may plain size b =
    let due = due_of u (deed.Move write segment) s may.0 in move_bears sure pack blocks u s ok b due.0
plain_bears sure pack blocks line u p deed.Pack s ok may plain size b = b
plain_bears sure pack blocks line u p (deed.Dclr moved last) s ok may plain size b =
    let due = due_of u (deed.Dclr moved last) s may in at_phase sure pack blocks u s ok b (Due (Clear moved last)) due
plain_bears sure pack blocks line u p deed.Rtc s ok may plain size b = b
plain_bears sure pack blocks line u p (deed.Ready x) s ok may plain size b =
    let due = due_of u (deed.Ready x) s may in ready_bears sure pack blocks u s ok b x due
plain_bears sure pack blocks line u p (deed.Repair moved at pattern) s ok may plain size b =
    let due = due_of u (deed.Repair moved at pattern) s may in repair_bears sure pack blocks u s ok b moved at pattern due size
plain_bears sure pack blocks line u p (deed.Forward moved index) s ok may plain size b =
    let due = due_of u (deed.Forward moved index) s may in forward_bears sure pack blocks u s ok b moved index due.0 due.1
plain_bears sure pack blocks line u p (deed.Continue moved) s ok may plain size b =
    let due = due_of u (deed.Continue moved) s may in continue_bears sure pack blocks u s ok b moved due.0
plain_bears sure pack blocks line u p (deed.Try moved block number next) s ok may plain size b =
    let due = due_of u (deed.Try moved block number next) s may in try_bears sure pack blocks u s ok b moved block number next due
plain_bears sure pack blocks line u p other s ok may plain size b = absurd plain
