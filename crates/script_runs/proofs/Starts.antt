-- The start of a run.
use Rattle.std.proofs.Common.{◌≡◌, true, [], None, refl, sym, ap, ◌∙◌}
use Rattle.std.specs.Prelude.{is_some, ℕ, List, Option}
use Rattle.std.proofs.lemmas.List.{length-replicate}
use Rattle.trace_replay.specs.Script.{drives_of, Script}
use Rattle.driver_machine.specs.World.{World, new_world, unit_at, Setup}
use Rattle.driver_laws.proofs.invariant.Starts.{sound_new}
use Rattle.driver_laws.proofs.shown.Start.{starts}
use Rattle.driver_laws.specs.shown.RunsRuns.{IsKept}
use Rattle.driver_laws.proofs.shown.RunsLaws.{starts_kept, is_small}
use Rattle.driver_laws.proofs.answers.Starts.{starts_with_none, starts_with_room}
use Rattle.driver_laws.proofs.answers.Ids.{starts_of_none}
use Rattle.pack_geometry.specs.Pack.{Pack}
use Rattle.pack_geometry.specs.TableSpelling.{Table}
use Rattle.script_runs.specs.Steps.{Behind, AreSetFor}

pub runs_start : (script : Script) (tables : ℕ → Option Table) (old : ℕ → Pack) (setups : List Setup) (total : ℕ) → AreSetFor script tables setups
    → Behind script tables old total 0 [] 0 []
runs_start script tables old setups total set =
    let w : World = new_world setups total total in
    let kept : IsKept (drives_of script) old old w = starts_kept (drives_of script) tables old setups total total set.are (set.set total total) (set.declared total total) in
    record {
      held = old;
      world = w;
      moments = [];
      far = record {
        so_far = starts (drives_of script) tables old setups total total set.are (set.set total total) (set.declared total total);
        kept = kept;
        plays = refl;
        asked = record { some = tt; units = tt };
      };
      room = record {
        units = λ unit kind is.
            let on : (unit_at w unit).declared ≡ true = sym (set.declared total total unit) ∙ ap is_some is in
            (record { unit = is_small w unit (sound_new setups total total set.are) on; declared = on }, kept.units.kinds unit kind is);
        within = starts_with_none setups total total;
        ids = starts_of_none setups total total;
        capacity = starts_with_room setups total total;
        slots = length-replicate total None;
        none_waits = refl;
      };
    }
