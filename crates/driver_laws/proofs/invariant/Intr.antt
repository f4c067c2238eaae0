-- THE DATA INTERRUPT: it leaves a phase that holds, and a free adapter.
use Rattle.std.proofs.Common.{ℕ, true, refl, ap, arith, rules}
use Rattle.std.proofs.lemmas.Bool.{false≢true}
use Rattle.hardware_table.specs.declared.Moved.{Moved}
use Rattle.hardware_table.specs.Adapter.{AdapterState, IsAdapter, completed}
use Rattle.driver_machine.specs.Acts.{Scene, effect, interrupted}
use Rattle.driver_machine.specs.Acts as deed
use Rattle.driver_machine.specs.Sound.{IsTask}
use Rattle.driver_machine.specs.Guards.{May}
use Rattle.driver_laws.proofs.invariant.Scene.{SceneOk}
use Rattle.driver_laws.proofs.invariant.DeedFacts.{transfer_at}
use Rattle.driver_laws.proofs.invariant.AdapterLeft.{SceneAdapter, AdapterLeft, is_queued, not_queued}

-- THE DATA INTERRUPT.
pub intr_phase : (line u p moved : ℕ) (last : Moved) (s : Scene) → SceneOk u s → May u (deed.Intr moved last) s
    → IsTask (effect line u p (deed.Intr moved last) s).unit s.held (interrupted moved last)
intr_phase line u p moved last s ok may = first_of (search rules, grind arith)

-- THE DATA INTERRUPT frees the adapter.
completed_adapter : (a : AdapterState) → IsAdapter a → IsAdapter (completed a)
completed_adapter a k = first_of (search rules, grind arith)

pub intr_left : (line u p moved : ℕ) (last : Moved) (s : Scene) → SceneOk u s → SceneAdapter u s → May u (deed.Intr moved last) s
    → AdapterLeft u s.adapter (effect line u p (deed.Intr moved last) s).unit (effect line u p (deed.Intr moved last) s).adapter
    (effect line u p (deed.Intr moved last) s).held
intr_left line u p moved last s ok at may =
    let has = transfer_at u true s ok may.0 in
    record {
      state = completed_adapter s.adapter.state ok.adapter;
      drive = at.drive;
      own = λ busy. absurd (false≢true busy);
      elsewhere = λ busy. absurd (false≢true busy);
      rest = λ free. refl;
      waits = λ x m other. m;
      mine = λ m. absurd (not_queued s.unit.phase (ap is_queued has.phase) (at.mine m));
      once = at.once;
      small = at.small;
      bits = λ k lt other. refl;
      bit = at.bit;
    }
