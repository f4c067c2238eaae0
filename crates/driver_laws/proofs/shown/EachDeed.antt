-- Each deed that is allowed: its line is said, or it is silent.
use Rattle.std.proofs.Common.{◌≡◌, inl, inr, ℕ, [], ◌∷◌, ◌+◌, sym, ap, subst, arith, ◌∙◌}
use Rattle.pack_geometry.specs.declared.Place.{Place}
use Rattle.trace_replay.specs.declared.seek_engine.Position.TheVariants as position
use Rattle.transfer_engine.specs.declared.job.Segment.{Segment}
use Rattle.transfer_engine.specs.State.{failures_after}
use Rattle.transfer_engine.specs.State as engine
use Rattle.trace_replay.specs.Replay.{Replay}
use Rattle.trace_replay.specs.Moments as moment
use Rattle.driver_machine.specs.World.{World, slot_in_hand, transfer_of, unit_at, held_in}
use Rattle.driver_machine.specs.Guards.{InHand, IsNext, May, Allowed}
use Rattle.driver_machine.specs.Acts.{Deed, scene_of, Of, after}
use Rattle.driver_machine.specs.Acts as deed
use Rattle.driver_machine.specs.Sound.{Sound}
use Rattle.driver_machine.proofs.DueFacts.{due_facts, chosen_facts}
use Rattle.driver_laws.proofs.shown.Facts.{At, at_facts}
use Rattle.driver_laws.proofs.shown.Move.{transfer_deed}
use Rattle.driver_laws.proofs.shown.Search.{search_line}
use Rattle.driver_laws.proofs.shown.Dclr.{clear_line}
use Rattle.driver_laws.proofs.shown.Rtc.{centre_line}
use Rattle.driver_laws.proofs.shown.Pack.{pack_line}
use Rattle.driver_laws.proofs.shown.Do.{do_line}
use Rattle.driver_laws.proofs.shown.Arrive.{arrive_line}
use Rattle.driver_laws.proofs.shown.Attn.{attn_line}
use Rattle.driver_laws.proofs.shown.Intr.{intr_line}
use Rattle.driver_laws.proofs.shown.Try.{try_line, IsTry, try_is}
use Rattle.driver_laws.proofs.shown.Forward.{forward_shows}
use Rattle.driver_laws.proofs.shown.Continue.{continue_shows}
use Rattle.driver_laws.proofs.shown.Repair.{repair_shows}
use Rattle.driver_laws.proofs.shown.Ready.{ready_next}
use Rattle.driver_laws.proofs.shown.End.{end_line}
use Rattle.driver_laws.proofs.shown.Sector.{sector_line}
use Rattle.driver_laws.proofs.shown.Due.{one_same}
use Rattle.driver_laws.proofs.shown.Showing.{IsOnSurface, Shows, IsSaid, told_by}
use Rattle.driver_machine.proofs.Dues.{IsDue, MayGo}

no_line : {x : moment.Deed} → [] ≡ x ∷ [] → {P : Type 0} → P
no_line e = absurd (grind (arith, e))

some_line : {x : moment.Deed} → x ∷ [] ≡ [] → {P : Type 0} → P
some_line e = absurd (grind (arith, e))

-- what is due, or given to the unit that its adapter takes
pub next_due : (u : ℕ) (w : World) (d : Deed) → IsNext u d (scene_of w u) → IsDue (unit_at w u) (held_in w (slot_in_hand (unit_at w u))) d
next_due u w d (inl next) = due_facts (unit_at w u) (held_in w (slot_in_hand (unit_at w u))) d next
next_due u w d (inr chosen) =
    subst (IsDue (unit_at w u) (held_in w (slot_in_hand (unit_at w u)))) (sym chosen.due)
    (chosen_facts (unit_at w u) (held_in w (slot_in_hand (unit_at w u))) chosen.phase)

module _ (line u id : ℕ) (w : World) (s : Replay) (told : moment.Deed) (sound : Sound w) (shows : Shows u w s) (hand : InHand w u id) where
  at : At u id w s
  at = at_facts u id w s sound shows hand

  said : (d : Deed) → May u d (scene_of w u) → IsOnSurface s u d (scene_of w u) → told_by w u d ≡ told ∷ [] → IsSaid line u id w s d told
  said deed.Arrive may surface tells =
      subst (IsSaid line u id w s deed.Arrive) (one_same tells) (arrive_line line u id w s sound shows hand at may)
  said (deed.Sector block t) may surface tells =
      subst (IsSaid line u id w s (deed.Sector block t)) (one_same tells)
      (sector_line line u id block w s t sound shows hand at may.0 may.1 may.2 surface)
  said (deed.Intr moved last) may surface tells =
      subst (IsSaid line u id w s (deed.Intr moved last)) (one_same tells)
      (intr_line line u id w s moved last sound shows hand at may.0 may.1 may.2)
  said (deed.Attn taken) may surface tells =
      subst (IsSaid line u id w s (deed.Attn taken)) (one_same tells) (attn_line line u id w s taken sound shows hand at may.0 may.1)
  said (deed.Search target sector) may surface tells =
      let due : IsDue (unit_at w u) (held_in w (slot_in_hand (unit_at w u))) (deed.Search target sector) = next_due u w (deed.Search target sector) may in
      subst (IsSaid line u id w s (deed.Search target sector)) (one_same tells)
      (subst (λ t. IsSaid line u id w s (deed.Search t sector) (moment.Search t.cylinder sector)) (sym due.2)
      (search_line line u id w s sector sound shows hand at due.0 due.1
      (due.3 ∙ ap (λ (t : Place). position.Search t.cylinder sector) due.2)))
  said (deed.Do step taken) may surface tells =
      let due : IsDue (unit_at w u) (held_in w (slot_in_hand (unit_at w u))) (deed.Do step taken) = next_due u w (deed.Do step taken) may in
      subst (IsSaid line u id w s (deed.Do step taken)) (one_same tells) (do_line line u id w s step taken sound shows hand at due.0 due.1)
  said (deed.Move write segment) may surface tells =
      let due : IsDue (unit_at w u) (held_in w (slot_in_hand (unit_at w u))) (deed.Move write segment) = next_due u w (deed.Move write segment) may.0 in
      subst (IsSaid line u id w s (deed.Move write segment)) (one_same tells)
      (subst (λ b. IsSaid line u id w s (deed.Move b segment) (moment.Transfer b segment.block segment.count)) (sym due.2)
      (subst (λ (g : Segment). IsSaid line u id w s (deed.Move (held_in w (slot_in_hand (unit_at w u))).write g)
      (moment.Transfer (held_in w (slot_in_hand (unit_at w u))).write g.block g.count)) (sym due.3)
      (transfer_deed line u id w s sound shows hand at due.0 (subst (λ b. MayGo b (unit_at w u).drive) due.2 due.1) may.1)))
  said deed.Pack may surface tells =
      subst (IsSaid line u id w s deed.Pack) (one_same tells) (pack_line line u id w s sound shows hand at may)
  said (deed.Dclr moved last) may surface tells =
      subst (IsSaid line u id w s (deed.Dclr moved last)) (one_same tells)
      (clear_line line u id w s moved last sound shows hand at (next_due u w (deed.Dclr moved last) may))
  said deed.Rtc may surface tells =
      let due : IsDue (unit_at w u) (held_in w (slot_in_hand (unit_at w u))) deed.Rtc = next_due u w deed.Rtc may in
      subst (IsSaid line u id w s deed.Rtc) (one_same tells) (centre_line line u id w s due.0 due.1 sound shows hand at due.2 due.3)
  said (deed.Try moved block number next) may surface tells =
      let due : IsDue (unit_at w u) (held_in w (slot_in_hand (unit_at w u))) (deed.Try moved block number next) =
      next_due u w (deed.Try moved block number next) may in
      let parts : IsTry moved block number next (transfer_of (unit_at w u)) = try_is moved block number next (transfer_of (unit_at w u)) due.3 in
      subst (IsSaid line u id w s (deed.Try moved block number next)) (one_same tells)
      (subst (λ b. IsSaid line u id w s (deed.Try moved b number next) (moment.Try b number)) (sym parts.block_is)
      (subst (λ n. IsSaid line u id w s (deed.Try moved ((engine.segment_of (transfer_of (unit_at w u))).block + moved) n next)
      (moment.Try ((engine.segment_of (transfer_of (unit_at w u))).block + moved) n)) (sym parts.number_is)
      (subst (λ x. IsSaid line u id w s (deed.Try moved ((engine.segment_of (transfer_of (unit_at w u))).block + moved) (failures_after moved (transfer_of (unit_at w u)).failures) x)
      (moment.Try ((engine.segment_of (transfer_of (unit_at w u))).block + moved) (failures_after moved (transfer_of (unit_at w u)).failures))) (sym parts.next_is)
      (try_line line u id w s due.0 moved sound shows hand at due.1 due.2))))
  said (deed.End kind) may surface tells =
      subst (IsSaid line u id w s (deed.End kind)) (one_same tells) (end_line line u id w s kind sound shows hand at (next_due u w (deed.End kind) may))
  said other may surface tells = no_line tells

-- EACH LINE of a deed that is allowed, in a world that is sound and shown, is said.
pub lines_are_said : (line u id : ℕ) (w : World) (s : Replay) (deed : Deed) (told : moment.Deed) → Sound w → Shows u w s → Allowed w (Of line u id deed)
    → IsOnSurface s u deed (scene_of w u) → told_by w u deed ≡ told ∷ [] → IsSaid line u id w s deed told
lines_are_said line u id w s d told sound shows allowed surface tells = said line u id w s told sound shows allowed.0 d allowed.1 surface tells

-- and a silent deed changes nothing that is seen
pub silent_deeds_show : (line u id : ℕ) (w : World) (s : Replay) (deed : Deed) → Sound w → Shows u w s → Allowed w (Of line u id deed)
    → told_by w u deed ≡ [] → Shows u (after w (Of line u id deed)) s
silent_deeds_show line u id w s (deed.Ready t) sound shows allowed tells =
    ready_next t line u id w s sound shows allowed.0 (at_facts u id w s sound shows allowed.0) allowed.1 (next_due u w (deed.Ready t) allowed.1)
silent_deeds_show line u id w s (deed.Repair moved place pattern) sound shows allowed tells =
    repair_shows line u id moved place pattern w s sound shows allowed.0 (at_facts u id w s sound shows allowed.0)
    (next_due u w (deed.Repair moved place pattern) allowed.1)
silent_deeds_show line u id w s (deed.Forward moved index) sound shows allowed tells =
    let due : IsDue (unit_at w u) (held_in w (slot_in_hand (unit_at w u))) (deed.Forward moved index) = next_due u w (deed.Forward moved index) allowed.1 in
    forward_shows line u id moved index w s sound shows allowed.0 (at_facts u id w s sound shows allowed.0) due.0 due.1
silent_deeds_show line u id w s (deed.Continue moved) sound shows allowed tells =
    let due : IsDue (unit_at w u) (held_in w (slot_in_hand (unit_at w u))) (deed.Continue moved) = next_due u w (deed.Continue moved) allowed.1 in
    continue_shows line u id moved w s sound shows allowed.0 (at_facts u id w s sound shows allowed.0) due.0 due.1
silent_deeds_show line u id w s other sound shows allowed tells = some_line tells
