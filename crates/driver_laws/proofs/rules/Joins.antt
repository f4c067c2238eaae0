-- A request joins its unit, and the script changes a drive: the unit stands for the same blocks of the map.
use Rattle.std.proofs.Common.{◌≡◌, ◌⊎◌, inl, inr, ℕ, ◌≤◌, ◌+◌, Bool, true, false, List, Option, None, Some, refl, sym, ap, ◌∙◌, subst, rules}
use Rattle.std.specs.Prelude.{unwrap_or}
use Rattle.std.proofs.lemmas.Bool.{false≢true}
use Rattle.pack_geometry.specs.declared.DriveKind.{DriveKind}
use Rattle.pack_geometry.specs.declared.DriveKind.TheVariants.{Rp06}
use Rattle.pack_geometry.specs.Geometry.{limit_of}
use Rattle.partitions.specs.Partitions.{admission}
use Rattle.hardware_table.specs.declared.Work.{Work}
use Rattle.hardware_table.specs.Drive.{DriveState}
use Rattle.trace_replay.proofs.requests.ServiceOrderRuns.{after_join-waiting}
use Rattle.trace_replay.specs.requests.Requests.{Request, first_block}
use Rattle.trace_replay.specs.Script.{Input, IsThere}
use Rattle.trace_replay.specs.Moments.{Deed}
use Rattle.trace_replay.specs.Drives.{drive_played}
use Rattle.trace_replay.specs.Service.{first_waiting, request_or_none, in_hand, cylinder_of, service_joined}
use Rattle.trace_replay.specs.Conversation.{Stage, Progress, not_begun, is_waiting}
use Rattle.trace_replay.specs.Replay.{UnitSeen, Joined, submission_by, stage_joined, unit_joined}
use Rattle.trace_replay.proofs.Kept.{UnitFits, head_stays}
use Rattle.driver_laws.specs.rules.Machine.{Blocks, blocks_done}
use Rattle.driver_laws.specs.rules.Stands.{HandStands, StageStands, UnitStands}
use Rattle.driver_laws.proofs.rules.Blocks.{begun_blocks}
use Rattle.driver_laws.proofs.rules.Hands.{begins, fewer_sure}

-- ---- a request that joins lies inside its partition, so among the data blocks
pub joined_inside : (kind : DriveKind) (r : Request) (frames : Bool) → submission_by (admission kind r.part r.block r.count) frames ≡ Joined → first_block kind r + r.count ≤ limit_of kind
joined_inside kind r frames met = search rules

pub there_with : (drive : Option DriveKind) (P Q : DriveKind → Type 0) → IsThere drive P → Q (unwrap_or drive Rp06) → IsThere drive Q
there_with None P Q is q = absurd is
there_with (Some kind) P Q is q = q

-- ---- it joins
joined_stage : (sure : ℕ → Type 0) (homes : ℕ → Option ℕ) (first : ℕ) (r : Request) (p : Progress) (blocks : Blocks) (now : Work) (d : DriveState) (new : Request) (stage : Stage)
    → (is_waiting stage ≡ false → StageStands sure homes first r p blocks now stage) → StageStands sure homes first r p blocks now (stage_joined stage d new)
joined_stage sure homes first r p blocks now d new stage st = search rules

pub joined_stands : (sure : ℕ → Type 0) (homes : ℕ → Option ℕ) (u : UnitSeen) (sectors : ℕ → List ℕ) (blocks : Blocks) (r : Request) (lines : List Deed) → UnitFits u lines → UnitStands sure homes u sectors blocks
    → UnitStands sure homes (unit_joined u r) sectors blocks
joined_stands sure homes u sectors blocks r lines f s = record {
  hand = hand (is_waiting u.stage) refl;
  stage = joined_stage sure homes (first_block u.drive.kind (in_hand (service_joined u.drive.kind r u.service))) (in_hand (service_joined u.drive.kind r u.service)) u.progress blocks u.drive.work u.drive r u.stage
      (λ held. subst (λ (z : Request). StageStands sure homes (first_block u.drive.kind z) z u.progress blocks u.drive.work u.stage) (sym (same_head held)) s.stage);
}
  where
    same_head : is_waiting u.stage ≡ false → in_hand (service_joined u.drive.kind r u.service) ≡ in_hand u.service
    same_head held =
        ap (λ ws. request_or_none (first_waiting ws)) (after_join-waiting (cylinder_of u.drive.kind) r u.service f.order)
        ∙ ap request_or_none (head_stays (cylinder_of u.drive.kind) r u.service.joined u.service.waiting f.order (f.held held))

    fresh : is_waiting u.stage ≡ true → u.progress ≡ not_begun
    fresh waits = at f.fresh
      where
        at : (u.progress ≡ not_begun) ⊎ (is_waiting u.stage ≡ false) → u.progress ≡ not_begun
        at (inl is) = is
        at (inr held) = absurd (false≢true (sym held ∙ waits))

    hand : (b : Bool) → is_waiting u.stage ≡ b → HandStands sure homes (first_block u.drive.kind (in_hand (service_joined u.drive.kind r u.service))) (in_hand (service_joined u.drive.kind r u.service)) u.progress sectors blocks
    hand true waits =
        subst (λ z. HandStands sure homes (first_block u.drive.kind (in_hand (service_joined u.drive.kind r u.service))) (in_hand (service_joined u.drive.kind r u.service)) z sectors blocks) (sym (fresh waits))
        (begins sure homes (first_block u.drive.kind (in_hand (service_joined u.drive.kind r u.service))) (in_hand (service_joined u.drive.kind r u.service)) sectors blocks
        (λ b. s.hand.contents b ∙ ap (λ (z : Progress). blocks_done blocks (first_block u.drive.kind (in_hand u.service)) (in_hand u.service) z.done b) (fresh waits)
        ∙ begun_blocks blocks (first_block u.drive.kind (in_hand u.service)) (in_hand u.service) b))
    hand false held = subst (λ (z : Request). HandStands sure homes (first_block u.drive.kind z) z u.progress sectors blocks) (sym (same_head held)) s.hand

-- ---- the script changes a condition of the drive, and nothing that is under way
pub played_work : (unit : ℕ) (d : DriveState) (input : Input) → (drive_played unit d input).work ≡ d.work
played_work unit d input = search rules

-- ---- fewer sectors are sure
fewer_stage : (sure less : ℕ → Type 0) (homes : ℕ → Option ℕ) (first : ℕ) (r : Request) (p : Progress) (blocks : Blocks) (now : Work) (stage : Stage) → ((x : ℕ) → less x → sure x)
    → StageStands sure homes first r p blocks now stage → StageStands less homes first r p blocks now stage
fewer_stage sure less homes first r p blocks now stage implied st = search rules

pub fewer_stands : (sure less : ℕ → Type 0) (homes : ℕ → Option ℕ) (u : UnitSeen) (sectors : ℕ → List ℕ) (blocks : Blocks) → ((x : ℕ) → less x → sure x)
    → UnitStands sure homes u sectors blocks → UnitStands less homes u sectors blocks
fewer_stands sure less homes u sectors blocks implied s = record {
  hand = fewer_sure sure less homes (first_block u.drive.kind (in_hand u.service)) (in_hand u.service) u.progress sectors blocks implied s.hand;
  stage = fewer_stage sure less homes (first_block u.drive.kind (in_hand u.service)) (in_hand u.service) u.progress blocks u.drive.work u.stage implied s.stage;
}
