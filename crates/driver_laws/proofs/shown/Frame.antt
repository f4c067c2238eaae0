-- What a deed at one unit leaves of the others, as the replay sees them.
use Rattle.std.proofs.Common.{◌≡◌, ◌≢◌, ℕ, ◌<◌, false, List, [], ◌∷◌, length, Option, Some, None, refl, sym, ap, subst, ◌∙◌, get_or-set_other, rules}
use Rattle.std.proofs.lemmas.List.{get_or-set_same}
use Rattle.std.specs.Prelude.{slice_set, unwrap_or}
use Rattle.pack_geometry.specs.declared.DriveKind.{DriveKind}
use Rattle.hardware_table.specs.Adapter.{AdapterState}
use Rattle.disksort.specs.declared.Waiter.{Waiter}
use Rattle.trace_replay.specs.requests.ServiceOrder.{Waiting}
use Rattle.trace_replay.specs.requests.Requests.{Request}
use Rattle.trace_replay.specs.Adapters.{AdapterSeen}
use Rattle.trace_replay.specs.Conversation as told
use Rattle.trace_replay.specs.Replay.{UnitSeen, Replay}
use Rattle.driver_machine.specs.declared.Phase.{Phase}
use Rattle.driver_machine.specs.declared.Phase.TheVariants as phases
use Rattle.driver_machine.specs.World.{World, UnitView, AdapterView, Held, adapter_of, new_adapter_view, no_held, unit_at, adapter_at, held_in, slot_in_hand}
use Rattle.driver_machine.specs.Acts.{Scene, with_scene}
use Rattle.driver_machine.specs.Guards.{IsHeldFor, IsSetUp, InHand}
use Rattle.driver_machine.specs.Sound.{Sound, is_waiting}
use Rattle.driver_laws.specs.shown.Stages.{stage_by, IsProgress}
use Rattle.driver_laws.specs.shown.Shows.{Match, IsUnitSeen, IsAdapterSeen, outstanding_in}
use Rattle.driver_laws.proofs.shown.Core.{Core}
use Rattle.driver_laws.proofs.invariant.Frame.{slot_there, adapter_of-small, other_slot}
use Rattle.driver_machine.proofs.Until.{own_unit}
use Rattle.driver_machine.proofs.Frame.{other_unit, other_adapter}
use Rattle.driver_laws.proofs.shown.Showing.{Shows, is_coming, with_coming}

-- THE QUEUE stays, where each slot holds the same request.
pub match_kept : (held held' : ℕ → Held) (kind : DriveKind) → ((n : ℕ) (r : Request) → IsHeldFor kind r (held n) → IsHeldFor kind r (held' n))
    → (queue : List Waiter) (waiting : List (Waiting Request)) → Match held kind queue waiting → Match held' kind queue waiting
match_kept held held' kind kept [] [] match = tt
match_kept held held' kind kept [] (y ∷ ys) match = absurd match
match_kept held held' kind kept (x ∷ xs) [] match = absurd match
match_kept held held' kind kept (x ∷ xs) (y ∷ ys) match =
    (record { request = kept x.number y.request match.0.request; cylinder = match.0.cylinder }, match_kept held held' kind kept xs ys match.1)

-- THE ADAPTER counts only where it transfers for the unit.
pub record IsSameTransfer (old new : AdapterState) : Type 0 where
  pub completion : new.completion ≡ old.completion
  pub verdict : new.verdict ≡ old.verdict
  pub count : new.count ≡ old.count
  pub moved : new.moved ≡ old.moved

pub same_transfer : (a : AdapterState) → IsSameTransfer a a
same_transfer a = record { completion = refl; verdict = refl; count = refl; moved = refl }

stage_stays : (phase : Phase) (v : UnitView) (old new : AdapterState) (hand : told.Hand) (head : Option Request)
    → (phase ≡ phases.Transferring → IsSameTransfer old new) → stage_by phase v old hand head ≡ stage_by phase v new hand head
stage_stays phase v old new hand head same = search rules

pub progress_stays : (phase : Phase) (v : UnitView) (old new : AdapterState) (g h : Held) (p : told.Progress)
    → (phase ≡ phases.Transferring → IsSameTransfer old new) → (is_waiting phase ≡ false → g ≡ h)
    → IsProgress phase v old g p → IsProgress phase v new h p
progress_stays phase v old new g h p same one is = search rules

-- another unit
pub unit_stays : (held held' : ℕ → Held) (v : UnitView) (old new : AdapterState) (seen : UnitSeen)
    → ((n : ℕ) (r : Request) → IsHeldFor v.drive.kind r (held n) → IsHeldFor v.drive.kind r (held' n))
    → (v.phase ≡ phases.Transferring → IsSameTransfer old new) → (is_waiting v.phase ≡ false → held (slot_in_hand v) ≡ held' (slot_in_hand v))
    → IsUnitSeen held v old seen → IsUnitSeen held' v new seen
unit_stays held held' v old new seen kept same one is = search (rules, match_kept, stage_stays, progress_stays)

-- WHAT A DEED LEAVES, given what it leaves of its own unit and adapter.
pub record Step (u : ℕ) (w : World) (s r : Replay) (scene : Scene) : Type 0 where
  pub core : Core (held_in (with_scene w u (slot_in_hand (unit_at w u)) scene) (slot_in_hand scene.unit)) scene.unit scene.adapter.state (r.units u)
  pub queue : Match (held_in w) scene.unit.drive.kind scene.unit.queue (r.units u).service.waiting
  pub kept : (kind : DriveKind) (q : Request) → IsHeldFor kind q (held_in w (slot_in_hand (unit_at w u))) → IsHeldFor kind q scene.held
  pub declared : scene.unit.declared ≡ (unit_at w u).declared
  pub others : (x : ℕ) → x ≢ u → r.units x ≡ s.units x
  pub adapter : IsAdapterSeen scene.adapter.state (r.adapters (adapter_of u)).state
  pub adapters : (a : ℕ) → a ≢ adapter_of u → r.adapters a ≡ s.adapters a
  pub ready : (r.adapters (adapter_of u)).ready ≡ with_coming (is_coming scene.unit.phase (r.units u).stage) u scene.adapter.queue
  pub apart : (x : ℕ) → x ≢ u → adapter_of x ≡ adapter_of u → (unit_at w x).phase ≡ phases.Transferring
      → IsSameTransfer (adapter_at w (adapter_of u)).state scene.adapter.state
  pub noise : r.surface.live ≡ scene.book.live
  pub frames : r.frames ≡ scene.frames
  pub outstanding : r.outstanding ≡ outstanding_in (slice_set w.slots (slot_in_hand (unit_at w u)) (Some scene.held))

pub either : {P : Type 0} (m n : ℕ) → (m ≡ n → P) → (m ≢ n → P) → P
either m n same other = search rules

-- OTHERS are as they were, whatever the deed.
pub same_adapter : (w : World) (u p : ℕ) (scene : Scene) → adapter_of u < length w.adapters → adapter_at (with_scene w u p scene) (adapter_of u) ≡ scene.adapter
same_adapter w u p scene there = get_or-set_same w.adapters (adapter_of u) scene.adapter new_adapter_view there

pub same_held : (w : World) (u p : ℕ) (scene : Scene) → p < length w.slots → held_in (with_scene w u p scene) p ≡ scene.held
same_held w u p scene there = ap (λ o. unwrap_or o no_held) (get_or-set_same w.slots p (Some scene.held) None there)

pub other_held : (w : World) (u p q : ℕ) (scene : Scene) → q ≢ p → held_in (with_scene w u p scene) q ≡ held_in w q
other_held w u p q scene other = ap (λ o. unwrap_or o no_held) (get_or-set_other w.slots p q (Some scene.held) None other)

module _ (u id : ℕ) (w : World) (s r : Replay) (scene : Scene) (sound : Sound w) (shows : Shows u w s) (hand : InHand w u id) (step : Step u w s r scene) where
  there : slot_in_hand (unit_at w u) < length w.slots
  there = slot_there w.slots (slot_in_hand (unit_at w u)) hand.held hand.slot

  u_there : u < length w.units
  u_there = subst (λ n. u < n) (sym sound.units) hand.unit

  a_there : adapter_of u < length w.adapters
  a_there = subst (λ n. adapter_of u < n) (sym sound.adapters) (adapter_of-small u hand.unit)

  kept : (kind : DriveKind) (n : ℕ) (q : Request) → IsHeldFor kind q (held_in w n)
      → IsHeldFor kind q (held_in (with_scene w u (slot_in_hand (unit_at w u)) scene) n)
  kept kind n q is =
      either n (slot_in_hand (unit_at w u))
      (λ same. subst (λ m. IsHeldFor kind q (held_in (with_scene w u (slot_in_hand (unit_at w u)) scene) m)) (sym same)
      (subst (IsHeldFor kind q) (sym (same_held w u (slot_in_hand (unit_at w u)) scene there))
      (step.kept kind q (subst (λ m. IsHeldFor kind q (held_in w m)) same is))))
      (λ other. subst (IsHeldFor kind q) (sym (other_held w u (slot_in_hand (unit_at w u)) n scene other)) is)

  own : IsUnitSeen (held_in (with_scene w u (slot_in_hand (unit_at w u)) scene)) scene.unit scene.adapter.state (r.units u)
  own = search (rules, match_kept, kept)

  own_there : IsUnitSeen (held_in (with_scene w u (slot_in_hand (unit_at w u)) scene)) (unit_at (with_scene w u (slot_in_hand (unit_at w u)) scene) u)
      (adapter_at (with_scene w u (slot_in_hand (unit_at w u)) scene) (adapter_of u)).state (r.units u)
  own_there = search (rules, own_unit, u_there, same_adapter, a_there, own)

  same_at : (x : ℕ) → x ≢ u → (unit_at w x).phase ≡ phases.Transferring
      → IsSameTransfer (adapter_at w (adapter_of x)).state (adapter_at (with_scene w u (slot_in_hand (unit_at w u)) scene) (adapter_of x)).state
  same_at x other phase =
      either (adapter_of x) (adapter_of u)
      (λ same. subst (λ a. IsSameTransfer (adapter_at w a).state (adapter_at (with_scene w u (slot_in_hand (unit_at w u)) scene) a).state) (sym same)
      (subst (λ (a : AdapterView). IsSameTransfer (adapter_at w (adapter_of u)).state a.state)
      (sym (same_adapter w u (slot_in_hand (unit_at w u)) scene a_there)) (step.apart x other same phase)))
      (λ apart. subst (λ (a : AdapterView). IsSameTransfer (adapter_at w (adapter_of x)).state a.state)
      (sym (other_adapter w u (slot_in_hand (unit_at w u)) (adapter_of x) scene apart)) (same_transfer (adapter_at w (adapter_of x)).state))

  others_there : (x : ℕ) → x ≢ u → IsSetUp w x
      → IsUnitSeen (held_in (with_scene w u (slot_in_hand (unit_at w u)) scene)) (unit_at (with_scene w u (slot_in_hand (unit_at w u)) scene) x)
      (adapter_at (with_scene w u (slot_in_hand (unit_at w u)) scene) (adapter_of x)).state (r.units x)
  others_there x other set =
      subst (λ v. IsUnitSeen (held_in (with_scene w u (slot_in_hand (unit_at w u)) scene)) v
      (adapter_at (with_scene w u (slot_in_hand (unit_at w u)) scene) (adapter_of x)).state (r.units x))
      (sym (other_unit w u (slot_in_hand (unit_at w u)) x scene other))
      (subst (λ seen. IsUnitSeen (held_in (with_scene w u (slot_in_hand (unit_at w u)) scene)) (unit_at w x)
      (adapter_at (with_scene w u (slot_in_hand (unit_at w u)) scene) (adapter_of x)).state seen) (sym (step.others x other))
      (unit_stays (held_in w) (held_in (with_scene w u (slot_in_hand (unit_at w u)) scene)) (unit_at w x)
      (adapter_at w (adapter_of x)).state (adapter_at (with_scene w u (slot_in_hand (unit_at w u)) scene) (adapter_of x)).state (s.units x)
      (kept (unit_at w x).drive.kind) (same_at x other)
      (λ going. sym (other_held w u (slot_in_hand (unit_at w u)) (slot_in_hand (unit_at w x)) scene (other_slot w u id x sound hand set.unit other going)))
      (shows.units x set)))

  unit_there : (x : ℕ) → IsSetUp (with_scene w u (slot_in_hand (unit_at w u)) scene) x
      → IsUnitSeen (held_in (with_scene w u (slot_in_hand (unit_at w u)) scene)) (unit_at (with_scene w u (slot_in_hand (unit_at w u)) scene) x)
      (adapter_at (with_scene w u (slot_in_hand (unit_at w u)) scene) (adapter_of x)).state (r.units x)
  unit_there x set =
      either x u
      (λ same. subst (λ y. IsUnitSeen (held_in (with_scene w u (slot_in_hand (unit_at w u)) scene)) (unit_at (with_scene w u (slot_in_hand (unit_at w u)) scene) y)
      (adapter_at (with_scene w u (slot_in_hand (unit_at w u)) scene) (adapter_of y)).state (r.units y)) (sym same) own_there)
      (λ other. others_there x other (record {
        unit = set.unit;
        declared = ap (λ (v : UnitView). v.declared) (sym (other_unit w u (slot_in_hand (unit_at w u)) x scene other)) ∙ set.declared;
      }))

  adapter_there : (a : ℕ) → a < 4 → IsAdapterSeen (adapter_at (with_scene w u (slot_in_hand (unit_at w u)) scene) a).state (r.adapters a).state
  adapter_there a small =
      either a (adapter_of u)
      (λ same. subst (λ b. IsAdapterSeen (adapter_at (with_scene w u (slot_in_hand (unit_at w u)) scene) b).state (r.adapters b).state) (sym same)
      (subst (λ (b : AdapterView). IsAdapterSeen b.state (r.adapters (adapter_of u)).state)
      (sym (same_adapter w u (slot_in_hand (unit_at w u)) scene a_there)) step.adapter))
      (λ other. subst (λ (b : AdapterView). IsAdapterSeen b.state (r.adapters a).state) (sym (other_adapter w u (slot_in_hand (unit_at w u)) a scene other))
      (subst (λ (b : AdapterSeen). IsAdapterSeen (adapter_at w a).state b.state) (sym (step.adapters a other)) (shows.adapters a small)))

  -- THE WORLD behind a deed is shown by the replay behind its line.
  pub step_shows : Shows u (with_scene w u (slot_in_hand (unit_at w u)) scene) r
  step_shows = record {
    units = unit_there;
    adapters = adapter_there;
    own_ready =
        step.ready
        ∙ ap (λ (v : UnitView). with_coming (is_coming v.phase (r.units u).stage) u scene.adapter.queue)
        (sym (own_unit w u (slot_in_hand (unit_at w u)) scene u_there))
        ∙ ap (λ (a : AdapterView). with_coming (is_coming (unit_at (with_scene w u (slot_in_hand (unit_at w u)) scene) u).phase (r.units u).stage) u a.queue)
        (sym (same_adapter w u (slot_in_hand (unit_at w u)) scene a_there));
    other_ready = λ a small other.
        ap (λ (b : AdapterSeen). b.ready) (step.adapters a other) ∙ shows.other_ready a small other
        ∙ ap (λ (b : AdapterView). b.queue) (sym (other_adapter w u (slot_in_hand (unit_at w u)) a scene other));
    noise = step.noise;
    frames = step.frames;
    outstanding = step.outstanding;
  }
