-- What the trying of one sector comes to.
use Rattle.std.proofs.Common.{◌≡◌, inl, inr, ℕ, ◌≤◌, Bool, true, false, List, [], ◌++◌, Option, Some, refl, sym, ap, ◌∙◌, subst, arith}
use Rattle.std.specs.Prelude.{Result, Ok, Err, IfErr, if◌then◌else◌, IsTrue, slice_set, not, ◌&&◌}
use Rattle.std.proofs.lemmas.Bool.{false≢true}
use Rattle.main_memory.specs.Bytes.{filled}
use Rattle.pack_geometry.specs.Pack.{Pack, with_written}
use Rattle.hardware_table.specs.declared.Moved.{Moved}
use Rattle.hardware_table.specs.declared.Moved.TheVariants.{Clean}
use Rattle.hardware_table.specs.declared.Work.TheVariants.{Transfer}
use Rattle.hardware_table.specs.Drive.{DriveState, is_writing}
use Rattle.hardware_table.specs.Adapter.{next_block, next_window}
use Rattle.hardware_table.specs.Moves.{was_read, was_written, has_bytes}
use Rattle.drive_model.specs.Move.{Scene}
use Rattle.driver_machine.specs.World.{World, Held, unit_of, unit_at, adapter_at, held_in, slot_in_hand, adapter_of, drive_of, block_in, with_block_in}
use Rattle.driver_machine.specs.Acts.{Act, Of, Sector, Nothing, Tried, after}
use Rattle.driver_machine.specs.Events.{can_move}
use Rattle.driver_machine.specs.Writes.{writes_next}
use Rattle.driver_machine.specs.Guards.{InHand, IsBusyFor, Allowed}
use Rattle.driver_machine.specs.Sound.{Sound}
use Rattle.driver_laws.specs.answers.Packs.{Reads, packs_after}
use Rattle.driver_laws.specs.answers.Outcome.{Outcome, stop_in}
use Rattle.driver_laws.specs.declared.answers.outcome.Stop.{Stop}
use Rattle.driver_laws.specs.declared.answers.outcome.Stop.TheVariants.{Store, Sink}
use Rattle.driver_laws.proofs.answers.Joined.{nothing_done}
use Rattle.outside_traits.specs.Causes.{HasCause, Rose}
use Rattle.outside_traits.specs.Gathers.{Gathers}
use Rattle.trace_replay.specs.Moments as moments
use Rattle.trace_replay.specs.Text.{moment_text}
use Rattle.request_slots.specs.declared.asked.Asked.{Asked}
use Rattle.request_slots.specs.Requests.{asked_of, held_at}
use Rattle.request_slots.specs.Steps.{Bench, StepsSlot}
use Rattle.hp_core.specs.State.{State, site}
use Rattle.hp_core.specs.Done.{DoesAct, DoesMove, HasCauses, Tells, TriesNext, bench_at, with_bench}
use Rattle.hp_core.proofs.Deeds.{IsUnderWayFor, under_way}
use Rattle.hp_core.proofs.Scenes.{same_slot}
use Rattle.hp_core.proofs.Serving.{can_move_is, hand_is, moves, no_move, served_for, served_its, served_less, served_some}
use Rattle.hp_core.proofs.Steps.{bench_kept, bench_same}
use Rattle.hp_core.proofs.Telling.{outcome_of}

not_both : (d : DriveState) (v : Moved) → was_written d v ≡ true → was_read d v ≡ false
not_both d v e = by (has_bytes v) (is_writing d.work) e
  where
    by : (b w : Bool) → (b && w) ≡ true → (b && not w) ≡ false
    by true true f = refl
    by true false f = absurd (false≢true f)
    by false w f = refl

-- A SECTOR WAS TRIED with this verdict: what is on the bench then is what the act makes of the world.
module _ {Q E : Type 0} (holds : Q → Bool) (held : Q → ℕ → Pack) (packs_faults : Q → ℕ) (packs packs' : Q) (w : World) (line u id : ℕ) (v : Moved) (bench : Bench (List (Option Held)))
    (i : InHand w u id) (b : IsBusyFor (adapter_at w (adapter_of u)).state (drive_of u) false)
    (s : StepsSlot {E = E} holds held packs_faults packs packs' u (slot_in_hand (unit_at w u)) (bench_at w u) bench (Ok v)) where
  abbrev pub tried : Tried
  tried = record { marked = s.steps.tries.moves.marked; verdict = v; bytes = block_in (held_at bench.store (slot_in_hand (unit_at w u))) (next_window (adapter_at w (adapter_of u)).state) }

  abbrev pub act : Act
  act = Of line u id (Sector (next_block (adapter_at w (adapter_of u)).state) tried)

  same_bytes : was_written (unit_at w u).drive v ≡ true → tried.bytes ≡ block_in (held_in w (slot_in_hand (unit_at w u))) (next_window (adapter_at w (adapter_of u)).state)
  same_bytes e = s.steps.tries.moves.unread (not_both (unit_at w u).drive v e)

  pub sector_may : Allowed w act
  sector_may = (i, (b, refl, record { verdict = s.steps.tries.moves.by_rules; bytes = λ t. same_bytes t; size = λ t. s.size }))

  pub sector_reads : IsTrue (holds packs') → Reads w (held packs) act
  sector_reads t = record { mark = s.steps.tries.moves.by_pack t; bytes = λ r. s.steps.tries.moves.read r t }

  pub sector_packs : IsTrue (holds packs') → held packs' ≡ packs_after w (held packs) act
  sector_packs t = s.steps.tries.moves.written t ∙ by_test (was_written (unit_at w u).drive v) refl
    where
      by_test : (c : Bool) → was_written (unit_at w u).drive v ≡ c
          → (if c then with_written (held packs) u (next_block (adapter_at w (adapter_of u)).state) (filled 512 (block_in (held_in w (slot_in_hand (unit_at w u))) (next_window (adapter_at w (adapter_of u)).state))) else held packs)
          ≡ (if c then with_written (held packs) u (next_block (adapter_at w (adapter_of u)).state) (filled 512 tried.bytes) else held packs)
      by_test true e = ap (λ (x : List ℕ). with_written (held packs) u (next_block (adapter_at w (adapter_of u)).state) (filled 512 x)) (sym (same_bytes e))
      by_test false e = refl

  slots_by : (c : Bool) (h g : Held) → held_in w (slot_in_hand (unit_at w u)) ≡ h
      → (if c then slice_set w.slots (slot_in_hand (unit_at w u)) (Some g) else w.slots) ≡ slice_set w.slots (slot_in_hand (unit_at w u)) (Some (if c then g else h))
  slots_by true h g e = refl
  slots_by false h g e = sym (same_slot w (slot_in_hand (unit_at w u)) i.held i.slot) ∙ ap (λ (x : Held). slice_set w.slots (slot_in_hand (unit_at w u)) (Some x)) e

  world_by : (after : Bench (List (Option Held))) → bench.adapter ≡ after.adapter → bench.drive ≡ after.drive → bench.book ≡ after.book → bench.store ≡ after.store
      → with_bench w u bench ≡ with_bench w u after
  world_by after e f g h = ap (λ (x : Bench (List (Option Held))). with_bench w u x) (bench_same after bench e f g h)

  pub sector_world : with_bench w u bench ≡ after w act
  sector_world = world_by (record { adapter = _; drive = _; book = _; store = _ }) s.steps.adapter s.steps.drive s.steps.tries.moves.book
      (s.steps.store ∙ slots_by (was_read (unit_at w u).drive v) (held_in w (slot_in_hand (unit_at w u)))
      (with_block_in (next_window (adapter_at w (adapter_of u)).state) tried.bytes (held_in w (slot_in_hand (unit_at w u)))) refl)

-- THE CAUSES of a call that stopped at the packs, and of one that told its line or did not
stopped_causes : (packs packs' trace : ℕ) → packs ≤ packs' → Rose packs packs' → HasCauses packs packs' trace trace (Some Store)
stopped_causes packs packs' trace later rose =
    record { later_packs = later; later = omega arith; store = λ e. rose; sink = λ e. absurd (cc) }

told_causes : (packs packs' trace trace' : ℕ) (result : Result (Unit {0}) Stop) → packs ≤ packs' → HasCause trace trace' result
    → IfErr result (λ stop. stop ≡ Sink) → HasCauses packs packs' trace trace' (stop_in result)
told_causes packs packs' trace trace' (Ok value) later cause stop =
    record { later_packs = later; later = cause.later; store = λ e. absurd (cc); sink = λ e. absurd (cc) }
told_causes packs packs' trace trace' (Err Sink) later cause stop =
    record { later_packs = later; later = cause.later; store = λ e. absurd (cc); sink = λ e. cause.failed }
told_causes packs packs' trace trace' (Err Store) later cause stop = absurd (cc)

-- the trace's failure is not the packs'
pub no_store : (result : Result (Unit {0}) Stop) → IfErr result (λ stop. stop ≡ Sink) → stop_in result ≡ Some Store → ⊥
no_store (Ok value) stop e = absurd (cc)
no_store (Err Sink) stop e = absurd (cc)
no_store (Err Store) stop e = absurd (cc)

least : (n : ℕ) → n ≤ n
least n = omega arith

-- A READ leaves the packs, also where they fail.
reads_only : (d : DriveState) (write : Bool) → d.work ≡ Transfer write → write ≡ false → is_writing d.work ≡ false
reads_only d write work off = ap is_writing (work ∙ ap Transfer off)

none_written : (d : DriveState) (v : Moved) → is_writing d.work ≡ false → was_written d v ≡ false
none_written d v off = by (has_bytes v) (is_writing d.work) off
  where
    by : (b w : Bool) → w ≡ false → (b && w) ≡ false
    by true w f = f
    by false w f = refl

read_kept : (d : DriveState) (v : Moved) (old new written : ℕ → Pack) → is_writing d.work ≡ false → new ≡ (if was_written d v then written else old) → new ≡ old
read_kept d v old new written off is = is ∙ ap (λ (b : Bool). if b then written else old) (none_written d v off)

not_writing : (d : DriveState) → is_writing d.work ≡ false → is_writing d.work ≡ true → ⊥
not_writing d off on = let e : false ≡ true = sym off ∙ on in cc

-- an adapter that can move and does not write
write_off : (can write : Bool) → can ≡ true → can && write ≡ false → write ≡ false
write_off true write is off = off
write_off false write is off = absurd (let e : false ≡ true = is in cc)

no_sector : Tried
no_sector = record { marked = false; verdict = Clean; bytes = [] }

-- THE TRANSFER under way at an adapter, for a unit that has a request in hand
module _ (w : World) (a u : ℕ) (sound : Sound w) (can : can_move (adapter_at w a) ≡ true) (is : u ≡ unit_of w a) where
  pub hand_in : InHand w u (held_in w (slot_in_hand (unit_at w u))).id
  hand_in = hand_is w u (held_in w (slot_in_hand (unit_at w u))).id sound (served_less w a u sound (can_move_is w a can).0 is) (served_some w a u sound (can_move_is w a can).0 is) refl

  pub busy_for : IsBusyFor (adapter_at w (adapter_of u)).state (drive_of u) false
  busy_for = served_for w a u sound (can_move_is w a can).0 is false (can_move_is w a can).1

  pub way : (line : ℕ) → IsUnderWayFor w line u (held_in w (slot_in_hand (unit_at w u))).id sound
  way line = under_way w line u (held_in w (slot_in_hand (unit_at w u))).id sound hand_in busy_for

  off_too : writes_next w a ≡ false → (adapter_at w (adapter_of u)).state.write ≡ false
  off_too off =
      subst (λ (b : ℕ). (adapter_at w b).state.write ≡ false) (sym (served_its w a u sound (can_move_is w a can).0 is))
      (write_off (can_move (adapter_at w a)) (adapter_at w a).state.write can off)

  -- a read, which leaves the packs
  pub reads_here : writes_next w a ≡ false → is_writing (unit_at w u).drive.work ≡ false
  reads_here off = reads_only (unit_at w u).drive (adapter_at w (adapter_of u)).state.write (way 0).may.is.transfer (off_too off)

module _ {O Q : Type 0} (holds : Q → Bool) (held : Q → ℕ → Pack) (packs_faults : Q → ℕ) (tells : O → Bool) (taken : O → List ℕ) (faults : O → ℕ) (packs : Q) (trace trace' : O) (old : State) (line a : ℕ) where
  -- there is none to move
  pub moves_none : (new : State) (result : Result (Unit {0}) Stop) → can_move (adapter_at old.world a) ≡ false
      → DoesAct tells taken faults trace trace' old new result (Nothing line) → DoesMove holds held packs_faults tells taken faults packs packs trace trace' old new result line a
  moves_none new result can does = record {
    tried = no_sector;
    outcome = subst (λ (acts : List Act). Outcome (record { packs = holds packs; trace = tells trace' }) acts (site old (held packs) (taken trace)) (site new (held packs) (taken trace')) (stop_in result))
        (no_move old.world line a no_sector can) (does.outcome (holds packs) (held packs));
    never_again_packs = λ t. t;
    never_again = does.never_again;
    causes = told_causes (packs_faults packs) (packs_faults packs) (faults trace) (faults trace') result (least (packs_faults packs)) does.cause does.stop;
    kept = λ e. absurd (no_store result does.stop e);
    leaves = λ e t. refl;
    before = λ e. absurd (no_store result does.stop e);
  }

  module _ {E : Type 0} (packs' : Q) (u : ℕ) (sound : Sound old.world) (can : can_move (adapter_at old.world a) ≡ true) (is : u ≡ unit_of old.world a) where
    -- the packs failed before it was tried
    pub moves_stopped : (new : State) (e : E) → TriesNext holds held packs_faults packs packs' u old new (Err e)
        → DoesMove holds held packs_faults tells taken faults packs packs' trace trace old new (Err Store) line a
    moves_stopped new e t =
        let kept : new ≡ old =
        t.state ∙ ap (λ (w : World). record old { world = w })
        (bench_kept old.world u t.bench (bench_same (bench_at old.world u) t.bench t.steps.steps.adapter t.steps.steps.drive (ap (λ (x : Scene). x.book) t.steps.steps.tries.unchanged) t.steps.steps.store)) in
        let b = busy_for old.world a u sound can is in
        record {
          tried = no_sector;
          outcome = record {
            done = [];
            between = site old (held packs) (taken trace);
            does = nothing_done _ (site old (held packs) (taken trace));
            world = ap (λ (s : State). s.world) kept;
            text = λ t. ap (λ (s : State). taken trace ++ s.kept) kept;
            packs = λ told. elim (t.steps.steps.tries.old_or_new told) [
              | inl same ↦ inl same
              | inr new ↦ inr (record { unit = u; busy = b; writes = new.0; unmarked = new.1; is = new.2 })
            ];
          };
          never_again_packs = t.steps.steps.tries.never_again;
          never_again = λ t. t;
          causes = stopped_causes (packs_faults packs) (packs_faults packs') (faults trace) t.steps.steps.tries.cause.later t.steps.steps.tries.cause.failed;
          kept = λ e. ap (λ (s : State). s.kept) kept;
          leaves = λ off told. elim (t.steps.steps.tries.old_or_new told) [
            | inl same ↦ same
            | inr new ↦ absurd (not_writing (unit_at old.world u).drive (reads_here old.world a u sound can is off) new.0)
          ];
          before = λ e. record {
            world = ap (λ (s : State). s.world) kept;
            text = λ t. ap (λ (s : State). taken trace ++ s.kept) kept;
            packs = λ told. elim (t.steps.steps.tries.old_or_new told) [
              | inl same ↦ inl same
              | inr new ↦ inr (record { unit = u; busy = b; writes = new.0; unmarked = new.1; is = new.2 })
            ];
          };
        }

    -- it was tried, and its line told or not
    pub moves_told : (mid new : State) (result : Result (Unit {0}) Stop) (id block : ℕ) (v : Moved) → id ≡ (held_in old.world (slot_in_hand (unit_at old.world u))).id
        → block ≡ next_block (adapter_at old.world (adapter_of u)).state → TriesNext {E = E} holds held packs_faults packs packs' u old mid (Ok v)
        → Tells tells taken faults trace trace' mid new result (moment_text (moments.Told line u id (moments.Sector block v)))
        → DoesMove holds held packs_faults tells taken faults packs packs' trace trace' old new result line a
    moves_told mid new result id block v named at t told =
        let n : ℕ = (held_in old.world (slot_in_hand (unit_at old.world u))).id in
        let i = hand_in old.world a u sound can is in
        let b = busy_for old.world a u sound can is in
        let s = t.steps in
        let world : new.world ≡ after old.world (act holds held packs_faults packs packs' old.world line u n v t.bench i b s) =
        told.world ∙ ap (λ (s : State). s.world) t.state ∙ sector_world holds held packs_faults packs packs' old.world line u n v t.bench i b s in
        record {
          tried = tried holds held packs_faults packs packs' old.world line u n v t.bench i b s;
          outcome = subst (λ (acts : List Act). Outcome (record { packs = holds packs'; trace = tells trace' }) acts (site old (held packs) (taken trace)) (site new (held packs') (taken trace')) (stop_in result))
              (moves old.world a u sound (can_move_is old.world a can).0 is line n (tried holds held packs_faults packs packs' old.world line u n v t.bench i b s) can refl)
              (outcome_of tells taken faults trace trace' old mid new (act holds held packs_faults packs packs' old.world line u n v t.bench i b s)
              (moments.Told line u n (moments.Sector (next_block (adapter_at old.world (adapter_of u)).state) v)) (holds packs') (held packs) (held packs') result refl
              (record {
                run = (sector_may holds held packs_faults packs packs' old.world line u n v t.bench i b s, tt);
                world = world;
                reads = λ h. (sector_reads holds held packs_faults packs packs' old.world line u n v t.bench i b s h, tt);
                packs = λ h. sector_packs holds held packs_faults packs packs' old.world line u n v t.bench i b s h;
              })
              (subst (λ (k : List ℕ). Gathers tells taken faults trace trace' k new.kept result (moment_text (moments.Told line u n (moments.Sector (next_block (adapter_at old.world (adapter_of u)).state) v)))) (ap (λ (s : State). s.kept) t.state)
              (subst (λ (m : ℕ). Gathers tells taken faults trace trace' mid.kept new.kept result (moment_text (moments.Told line u n (moments.Sector m v)))) at
              (subst (λ (m : ℕ). Gathers tells taken faults trace trace' mid.kept new.kept result (moment_text (moments.Told line u m (moments.Sector block v)))) named told.gathers))) told.stop);
          never_again_packs = s.steps.tries.never_again;
          never_again = told.gathers.never_again;
          causes = told_causes (packs_faults packs) (packs_faults packs') (faults trace) (faults trace') result s.steps.tries.cause.later told.gathers.cause told.stop;
          kept = λ e. absurd (no_store result told.stop e);
          leaves = λ off h. read_kept (unit_at old.world u).drive v (held packs) (held packs') _ (reads_here old.world a u sound can is off) (s.steps.tries.moves.written h);
          before = λ e. absurd (no_store result told.stop e);
        }

-- the id of the request in a slot, which is the one in hand
pub named_in : (w : World) (slot hand : ℕ) (asked : Asked) → asked ≡ asked_of (held_in w slot) → slot ≡ hand → asked.id ≡ (held_in w hand).id
named_in w slot hand asked is same = ap (λ (a : Asked). a.id) is ∙ ap (λ (p : ℕ). (held_in w p).id) same
