-- Nothing is written beyond the room of an exercise.
use Rattle.std.proofs.Common.{◌≡◌, ◌≢◌, ◌⊎◌, inl, inr, ℕ, zero, suc, ◌+◌, ◌*◌, ◌≤◌, Bool, true, false, List, [], ◌∷◌, ◌++◌, drop, length, Option, None, Some, refl, sym, ap, subst, arith, ◌∙◌}
use Rattle.std.specs.Prelude.{if◌then◌else◌, ◌==◌}
use Rattle.std.proofs.lemmas.Grind.{common_steps}
use Rattle.std.proofs.lemmas.Bool.{eq-eqb}
use Rattle.std.proofs.lemmas.Bool.Decides.{eqb_tells}
use Rattle.outside_traits.specs.declared.traits.PackCall.{PackCall}
use Rattle.pack_geometry.specs.Pack.{Pack, grown, with_window, with_block, with_pack, with_written, written}
use Rattle.pack_geometry.proofs.PackLaws.{length-grown}
use Rattle.outside_traits.specs.Causes.{Rose}
use Rattle.trace_replay.specs.Script.{Script, drives_of}
use Rattle.trace_replay.specs.Replay.{after_moments}
use Rattle.trace_replay.specs.Runs.{start_of}
use Rattle.event_player.specs.PlayFault.{PlayFault}
use Rattle.event_player.specs.PlayFault.TheVariants as faults
use Rattle.event_player.specs.Passes.{IsTorn}
use Rattle.event_player.specs.Passes.{Took}
use Rattle.event_player.specs.Stops.{Leaves}
use Rattle.hp_exercise.specs.Room.{AreEmpty, IsOutside, faults_of, room_on, with_outside}
use Rattle.script_commands.specs.Exercises.{exercise_script}
use Rattle.hp_exercise.specs.declared.packs.Outside.{Outside}
use Rattle.hp_exercise.specs.declared.packs.Outside.TheVariants.{Block, Mark}
use Rattle.script_commands.proofs.ReachLaws.{asks_below}
use Rattle.script_commands.proofs.TableLaws.{no_tables}

-- PACKS WITHIN THE ROOM: the images are no longer than it, and no block is marked.
pub record IsWithin (packs : ℕ → Pack) : Type 0 where
  pub beyond : (unit : ℕ) → drop (512 * room_on unit) (packs unit).image ≡ []
  pub marks : (unit : ℕ) → (packs unit).marks ≡ []

drop_none : (n : ℕ) → drop {A = ℕ} n [] ≡ []
drop_none zero = refl
drop_none (suc n) = refl

empty_within : (packs : ℕ → Pack) → AreEmpty packs → IsWithin packs
empty_within packs empty = record {
  beyond = λ unit. ap (λ (pack : Pack). drop (512 * room_on unit) pack.image) (empty unit) ∙ drop_none (512 * room_on unit);
  marks = λ unit. ap (λ (pack : Pack). pack.marks) (empty unit);
}

-- no block that is written is a mark
marks_stay : (held : ℕ → Pack) (u block : ℕ) (bytes : List ℕ) (unit : ℕ) → (with_written held u block bytes unit).marks ≡ (held unit).marks
marks_stay held u block bytes unit = by_unit (eqb_tells unit u)
  where
    by_unit : ((unit == u ≡ true) × (unit ≡ u)) ⊎ ((unit == u ≡ false) × (unit ≢ u)) → (with_written held u block bytes unit).marks ≡ (held unit).marks
    by_unit (inl here) =
        ap (λ (t : Bool). (if t then written (held u) block bytes else held unit).marks) here.0 ∙ ap (λ (k : ℕ). (held k).marks) (sym here.1)
    by_unit (inr other) = ap (λ (t : Bool). (if t then written (held u) block bytes else held unit).marks) other.0

-- So they are left where the packs failed,
module _ (number : ℕ) (first left : ℕ → Pack) (call : PackCall) (out trace : Took) (empty : AreEmpty first) where
  pub store_within : Leaves faults.Store (exercise_script number) first left call out trace → IsWithin left
  store_within (inl unplayed) = subst IsWithin (sym unplayed.packs) (empty_within first empty)
  store_within (inr is) = record {
    beyond = λ unit.
        is.stopped.beyond room_on (asks_below number)
        (λ u kind table there some. absurd (no_tables (drives_of (exercise_script number)) first is.tables u table is.read empty some)) unit
        ∙ (empty_within first empty).beyond unit;
    marks = λ unit. by_block unit is.stopped.packs ∙ is.stopped.reached.ahead.packs.surface.marks unit ∙ (empty_within first empty).marks unit;
  }
    where
      by_block : (unit : ℕ) → (left ≡ is.stopped.held) ⊎ ((is.stopped.reached.late ≡ [])
          × IsTorn (drives_of (exercise_script number)) first is.stopped.held left
          (after_moments (start_of (exercise_script number) is.tables first) (is.stopped.reached.sent ++ is.stopped.reached.late)))
          → (left unit).marks ≡ (is.stopped.held unit).marks
      by_block unit (inl same) = ap (λ (f : ℕ → Pack). (f unit).marks) same
      by_block unit (inr torn) = ap (λ (f : ℕ → Pack). (f unit).marks) torn.1.is ∙ marks_stay is.stopped.held torn.1.at.unit _ _ unit

-- and nothing that lies outside is among what they hold.
long_window : (image bytes : List ℕ) (at : ℕ) → at + length bytes ≤ length (with_window at bytes image)
unfolding with_window
long_window image bytes at =
    let n : ℕ = at + length bytes in
    let long : n ≤ length (grown image n) = length-grown image n in
    grind (arith, common_steps, long)

long_block : (image bytes : List ℕ) (block : ℕ) → length bytes ≡ 512 → 512 * block + 512 ≤ length (with_block image block bytes)
unfolding with_block
long_block image bytes block size = subst (λ (n : ℕ). 512 * block + n ≤ length (with_window (512 * block) bytes image)) size (long_window image bytes (512 * block))

long_drop : (n : ℕ) (xs : List ℕ) → drop n xs ≡ [] → length xs ≤ n
long_drop zero [] none = omega arith
long_drop zero (x ∷ xs) none = absurd (cc none)
long_drop (suc n) [] none = omega arith
long_drop (suc n) (x ∷ xs) none = let shorter : length xs ≤ n = long_drop n xs none in omega (arith, shorter)

own : (packs : ℕ → Pack) (unit : ℕ) (pack : Pack) → with_pack packs unit pack unit ≡ pack
own packs unit pack = ap (λ (b : Bool). if b then pack else packs unit) (eq-eqb unit unit refl)

too_long : (count block n : ℕ) → count ≤ block → n ≤ 512 * count → 512 * block + 512 ≤ n → ⊥
too_long count block n above short long = absurd (omega (arith, above, short, long))

no_block : (packs left : ℕ → Pack) (unit block : ℕ) (bytes : List ℕ) → IsWithin left
    → left ≡ with_written packs unit block bytes → room_on unit ≤ block → length bytes ≡ 512 → ⊥
no_block packs left unit block bytes within is above size =
    too_long (room_on unit) block (length (left unit).image) above (long_drop (512 * room_on unit) (left unit).image (within.beyond unit))
    (subst (λ (xs : List ℕ). 512 * block + 512 ≤ length xs) (sym image) (long_block (packs unit).image bytes block size))
  where
    image : (left unit).image ≡ with_block (packs unit).image block bytes
    image = ap (λ (f : ℕ → Pack). (f unit).image) is ∙ ap (λ (pack : Pack). pack.image) (own packs unit (written (packs unit) block bytes))

no_mark : (packs left : ℕ → Pack) (unit block byte : ℕ) (image : List ℕ) → IsWithin left
    → left ≡ with_pack packs unit (record { image = image; marks = with_window block (byte ∷ []) (packs unit).marks }) → ⊥
no_mark packs left unit block byte image within is =
    let pack : Pack = record { image = image; marks = with_window block (byte ∷ []) (packs unit).marks } in
    let marks : (left unit).marks ≡ with_window block (byte ∷ []) (packs unit).marks =
    ap (λ (f : ℕ → Pack). (f unit).marks) is ∙ ap (λ (p : Pack). p.marks) (own packs unit pack) in
    let long : block + 1 ≤ length (with_window block (byte ∷ []) (packs unit).marks) = long_window (packs unit).marks (byte ∷ []) block in
    let none : length (with_window block (byte ∷ []) (packs unit).marks) ≡ 0 = ap length (sym marks ∙ within.marks unit) in
    absurd (omega (arith, long, none))

inside_only : (outside : Option Outside) (packs left : ℕ → Pack) → IsOutside outside → IsWithin left → left ≡ with_outside outside packs
    → Rose 0 (faults_of outside) → ⊥
inside_only None packs left lies within is rose = absurd (omega (arith, rose))
inside_only (Some (Block unit block bytes)) packs left lies within is rose = no_block packs left unit block bytes within is lies.1 lies.2
inside_only (Some (Mark unit block on)) packs left lies within is rose =
    no_mark packs left unit block (if on then 1 else 0) (packs unit).image within is

-- THE PACKS DO NOT FAIL.
pub never_fails : (number : ℕ) (fault : PlayFault) (script : Script) (first left packs : ℕ → Pack) (call : PackCall) (out trace : Took)
    (outside : Option Outside) → fault ≡ faults.Store → script ≡ exercise_script number → AreEmpty first
    → Leaves fault script first left call out trace → IsOutside outside → left ≡ with_outside outside packs → Rose 0 (faults_of outside) → ⊥
never_fails number fault script first left packs call out trace outside store same empty leaves lies is rose =
    inside_only outside packs left lies
    (store_within number first left call out trace empty
    (subst (λ (s : Script). Leaves faults.Store s first left call out trace) same
    (subst (λ (f : PlayFault). Leaves f script first left call out trace) store leaves))) is rose
