-- The blocks of a write stay, whatever act comes.
use Rattle.std.proofs.Common.{◌≡◌, inl, inr, ℕ, ◌&&◌, not, Bool, true, false, List, get_or-set_other, Option, Some, None, refl, sym, ap, ◌∙◌, subst, rules}
use Rattle.std.specs.Prelude.{if◌then◌else◌, unwrap_or}
use Rattle.std.proofs.lemmas.Bool.{cases_eq, false≢true}
use Rattle.std.proofs.lemmas.Option.{none-some, same_Some}
use Rattle.hardware_table.specs.declared.Moved.TheVariants as verdict
use Rattle.hardware_table.specs.declared.Work.TheVariants as work
use Rattle.hardware_table.specs.Drive.{is_writing}
use Rattle.hardware_table.specs.Moves.{has_bytes, was_read}
use Rattle.hardware_table.specs.Adapter.{next_window}
use Rattle.trace_replay.specs.Script.{Input}
use Rattle.driver_machine.specs.declared.Phase.TheVariants.{Transferring}
use Rattle.driver_machine.specs.declared.Task.TheVariants.{Judge}
use Rattle.driver_machine.specs.World.{World, Held, no_held, unit_at, slot_at, held_in, slot_in_hand, with_block_in}
use Rattle.driver_machine.specs.Acts as deed
use Rattle.driver_machine.specs.Acts.{Refuse, Submit, Of, Change, Nothing, Taken, Deed, Scene, effect, scene_of, after}
use Rattle.driver_machine.specs.Guards.{May, MayChange}
use Rattle.driver_machine.specs.Sound.{IsPhase, IsTask}
use Rattle.driver_machine.proofs.Frame.{other_slot}
use Rattle.driver_laws.proofs.invariant.Scene.{SceneOk, due_of, phase_is}
use Rattle.driver_laws.proofs.invariant.DeedFacts.{judged_is, transfer_at}
use Rattle.driver_laws.proofs.invariant.Frame.{scene_ok, slot_here}
use Rattle.driver_laws.proofs.invariant.Hand.{in_slot}
use Rattle.driver_laws.specs.shown.QuietLaws.{WritesStay}
use Rattle.driver_laws.proofs.answers.Ids.{freed_was}

unread : (b c : Bool) → c ≡ true → b && not c ≡ false
unread true c is = ap not is
unread false c is = refl

not_read : (b : Bool) (k : ℕ) (bytes : List ℕ) (h : Held) → b ≡ false → (if b then with_block_in k bytes h else h).blocks ≡ h.blocks
not_read true k bytes h is = absurd (false≢true (sym is))
not_read false k bytes h is = refl

-- A DEED changes the buffer of a read alone.
deed_writes : (line u p : ℕ) (d : Deed) (s : Scene) → SceneOk u s → May u d s → s.held.write ≡ true → (effect line u p d s).held.blocks ≡ s.held.blocks
deed_writes line u p (deed.Sector block t) s ok may writes =
    let has = transfer_at u false s ok may.0 in
    let is : IsPhase u s.unit s.adapter s.held Transferring = phase_is u s Transferring ok has.phase in
    let does : s.unit.drive.work ≡ work.Transfer s.adapter.state.write = is.1.work ∙ ap (λ c. if c then work.Ready else work.Transfer s.adapter.state.write) may.0.completion in
    not_read (was_read s.unit.drive t.verdict) (next_window s.adapter.state) t.bytes s.held
    (unread (has_bytes t.verdict) (is_writing s.unit.drive.work) (ap is_writing does ∙ has.write ∙ writes))
deed_writes line u p (deed.Repair moved at pattern) s ok may writes =
    let due = due_of u (deed.Repair moved at pattern) s may in
    let task : IsTask s.unit s.held (Judge moved (verdict.Burst at pattern)) = judged_is u moved (verdict.Burst at pattern) s ok due in
    absurd (false≢true (sym task.3.0 ∙ writes))
deed_writes line u p (deed.Intr moved last) s ok may writes = refl
deed_writes line u p (deed.Move write segment) s ok may writes = refl
deed_writes line u p (deed.End kind) s ok may writes = refl
deed_writes line u p d s ok may writes = refl

kept : (w now : World) (p : ℕ) (h g : Held) → slot_at now p ≡ slot_at w p → slot_at w p ≡ Some h → slot_at now p ≡ Some g → g.blocks ≡ h.blocks
kept w now p h g same was is = ap (λ (x : Held). x.blocks) (same_Some g h (sym is ∙ same ∙ was))

changed_slot : (w : World) (input : Input) (p : ℕ) → MayChange w input → slot_at (after w (Change input)) p ≡ slot_at w p
changed_slot w input p may = search rules

-- EACH ACT
pub writes_stay : WritesStay
writes_stay w (Refuse line r kind) p h g s may was writes is = kept w (after w (Refuse line r kind)) p h g refl was is
writes_stay w (Nothing line) p h g s may was writes is = kept w w p h g refl was is
writes_stay w (Change input) p h g s may was writes is = kept w (after w (Change input)) p h g (changed_slot w input p may) was is
writes_stay w Taken p h g s may was writes is = ap (λ (x : Held). x.blocks) (same_Some g h (sym (freed_was w.answers w.slots p g is) ∙ was))
writes_stay w (Submit line q k) p h g s may was writes is =
    kept w (after w (Submit line q k)) p h g
    (get_or-set_other w.slots q p (Some k) None (λ same. none-some h (sym may.slot ∙ subst (λ x. slot_at w x ≡ Some h) same was))) was is
writes_stay w (Of line u id d) p h g s may was writes is = elim (cases_eq p (slot_in_hand (unit_at w u))) [
  | inr other ↦ kept w (after w (Of line u id d)) p h g (other_slot w u (slot_in_hand (unit_at w u)) p (effect line u (slot_in_hand (unit_at w u)) d (scene_of w u)) other) was is
  | inl same ↦ mine same
]
  where
    mine : p ≡ slot_in_hand (unit_at w u) → g.blocks ≡ h.blocks
    mine same =
        let e : Scene = effect line u (slot_in_hand (unit_at w u)) d (scene_of w u) in
        let held_is : held_in w (slot_in_hand (unit_at w u)) ≡ h = ap (λ (o : Option Held). unwrap_or o no_held) (subst (λ x. slot_at w x ≡ Some h) same was) in
        let now_is : e.held ≡ g =
        same_Some e.held g (sym (slot_here w u (slot_in_hand (unit_at w u)) (held_in w (slot_in_hand (unit_at w u))) e (in_slot w s u id may.0))
        ∙ subst (λ x. slot_at (after w (Of line u id d)) x ≡ Some g) same is) in
        ap (λ (x : Held). x.blocks) (sym now_is)
        ∙ deed_writes line u (slot_in_hand (unit_at w u)) d (scene_of w u) (scene_ok w u id s may.0) may.1 (ap (λ (x : Held). x.write) held_is ∙ writes)
        ∙ ap (λ (x : Held). x.blocks) held_is
