-- A run keeps what is no sector, and so leaves its packs as the replay has them.
use Rattle.std.proofs.Common.{◌≡◌, ℕ, ◌*◌, ◌<◌, true, [], ◌∷◌, drop, Option, refl, sym, ap, subst, ◌∙◌, rules}
use Rattle.std.specs.Prelude.{is_some, unwrap_or}
use Rattle.std.proofs.lemmas.Bool.{false≢true}
use Rattle.std.proofs.lemmas.List.{get_or_past}
use Rattle.pack_geometry.specs.declared.DriveKind.{DriveKind}
use Rattle.pack_geometry.specs.declared.DriveKind.TheVariants.{Rp06}
use Rattle.pack_geometry.specs.Geometry.{block_count}
use Rattle.pack_geometry.specs.Pack.{Pack}
use Rattle.driver_machine.specs.World.{World, UnitView, new_world, unit_at}
use Rattle.driver_machine.specs.Acts.{Act, Taken, after}
use Rattle.driver_machine.specs.Events.{submit_acts, event_acts}
use Rattle.driver_machine.specs.Guards.{Allowed}
use Rattle.driver_machine.specs.Sound.{Sound}
use Rattle.driver_machine.specs.Runs.{Works}
use Rattle.driver_laws.proofs.invariant.Calls.{submit_works, event_works}
use Rattle.driver_laws.proofs.invariant.Starts.{sound_new}
use Rattle.driver_laws.proofs.shown.TraceRuns.{sound_after, is_legal}
use Rattle.driver_laws.specs.answers.Packs.{packs_after}
use Rattle.driver_laws.proofs.shown.Marks.{marks_stay}
use Rattle.driver_laws.specs.shown.RunsRuns.{IsKept, StartsKept, RunsKeep, EventsKeep, SubmissionsKeep, AnswersKeep, PacksAreLeft, RunsAreLegal}
use Rattle.driver_laws.proofs.shown.Acts.{beyond_stays, others_stay}
use Rattle.driver_laws.proofs.shown.Units.{act_same}

-- ONE ACT
act_kept : (drives : ℕ → Option DriveKind) (old held : ℕ → Pack) (w : World) (act : Act) → Sound w → Allowed w act → IsKept drives old held w
    → IsKept drives old (packs_after w held act) (after w act)
act_kept drives old held w act sound allowed kept = record {
  units = record {
    kinds = λ unit kind is. (act_same w act unit sound allowed).kind ∙ kept.units.kinds unit kind is;
    others = λ unit none. (act_same w act unit sound allowed).declared ∙ kept.units.others unit none;
  };
  packs = record {
    beyond = λ unit kind is.
        subst (λ (k : DriveKind). drop (512 * block_count k) (packs_after w held act unit).image ≡ drop (512 * block_count k) (held unit).image)
        (kept.units.kinds unit kind is) (beyond_stays w act held unit sound allowed)
        ∙ kept.packs.beyond unit kind is;
    marks = λ unit. marks_stay w (act ∷ []) held unit ∙ kept.packs.marks unit;
    others = λ unit none. others_stay w act held unit sound allowed (kept.units.others unit none) ∙ kept.packs.others unit none;
  };
}

pub runs_keep : RunsKeep
runs_keep drives old held w [] sound run kept = kept
runs_keep drives old held w (act ∷ acts) sound run kept =
    runs_keep drives old (packs_after w held act) (after w act) acts (sound_after w act sound run.0) run.1
    (act_kept drives old held w act sound run.0 kept)

-- THE CALLS
pub events_keep : EventsKeep
events_keep drives old held w line input tried sound work may kept =
    let works : Works w (event_acts line input tried w) = event_works sound_after line input tried w sound work may in
    runs_keep drives old held w (event_acts line input tried w) sound works.run kept

pub submissions_keep : SubmissionsKeep
submissions_keep drives old held w line p r h sound work may kept =
    let works : Works w (submit_acts r line p h w) = submit_works sound_after r line p h w sound work may in
    runs_keep drives old held w (submit_acts r line p h w) sound works.run kept

pub answers_keep : AnswersKeep
answers_keep drives old held w sound some kept = runs_keep drives old held w (Taken ∷ []) sound (some, tt) kept

-- THE START. Only units below 32 are set up.
pub is_small : (w : World) (x : ℕ) → Sound w → (unit_at w x).declared ≡ true → x < 32
is_small w x sound on = search (rules, false≢true, get_or_past)

pub starts_kept : StartsKept
starts_kept drives tables held setups outstanding noises are set declared =
    let w : World = new_world setups outstanding noises in
    let sound : Sound w = sound_new setups outstanding noises are in
    record {
      units = record {
        kinds = λ unit kind is.
            let on : (unit_at w unit).declared ≡ true = sym (declared unit) ∙ ap is_some is in
            ap (λ (v : UnitView). v.drive.kind) (set unit (record { unit = is_small w unit sound on; declared = on }))
            ∙ ap (λ (o : Option DriveKind). unwrap_or o Rp06) is;
        others = λ unit none. sym (declared unit) ∙ ap is_some none;
      };
      packs = record { beyond = λ unit kind is. refl; marks = λ unit. refl; others = λ unit none. refl };
    }

-- THE PACKS, and the whole run
pub packs_are_left : PacksAreLeft
packs_are_left drives old held start line moments w far kept = search rules

pub runs_are_legal : RunsAreLegal
runs_are_legal script tables old held line moments w good inputs read far kept idle = search (rules, is_legal, packs_are_left)
