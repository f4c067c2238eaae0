-- What calls keep, one behind the other.
use Rattle.std.proofs.Common.{◌≡◌, ℕ, List, ◌+◌, ◌<◌, ◌≤◌, IsTrue, refl, sym, ap, subst, ◌∙◌, arith}
use Rattle.std.specs.Prelude.{Err, None}
use Rattle.pack_geometry.specs.declared.DriveKind.{DriveKind}
use Rattle.pack_geometry.specs.Geometry.{limit_of}
use Rattle.trace_replay.specs.requests.Requests.{Request}
use Rattle.driver_laws.specs.rules.Stands.{Setup}
use Rattle.driver_laws.specs.rules.Waited.{with_packs}
use Rattle.buffer_cache.specs.Passes.{Stage, kind_at}
use Rattle.driver_machine.specs.Guards.{IsSetUp}
use Rattle.buffer_cache.specs.Asks.{IsData, Asks}
use Rattle.buffer_cache.proofs.Passes.{kind_stays}
use Rattle.buffer_cache.specs.Calls.{stop_of}
use Rattle.buffer_cache.specs.declared.fault.CacheFault.{CacheFault}
use Rattle.buffer_cache.specs.declared.fault.CacheFault.TheVariants as fault
use Rattle.cached_run.specs.Leaving.{KeepsSetup, AreData}

pub setup_none : (here : Stage) → KeepsSetup here here
setup_none here = record { setup = refl; tables = λ t tables. tables }

pub setup_more : (old mid new : Stage) → (IsTrue new.packs_tell → IsTrue mid.packs_tell) → KeepsSetup old mid → KeepsSetup mid new → KeepsSetup old new
setup_more old mid new still first next = record {
  setup = next.setup ∙ ap (λ (z : Setup). with_packs z new.held) first.setup;
  tables = λ t tables. next.tables t (first.tables (still t) tables);
}

pub setup_asked : {line : ℕ} {rs : List Request} (old new : Stage) → Asks line rs old new → KeepsSetup old new
setup_asked old new a = record { setup = a.goes.setup; tables = a.goes.tables }

-- one of some data blocks is one, also behind calls
pub data_at : (old new : Stage) (unit first count k : ℕ) → k < count → KeepsSetup old new → ((u : ℕ) → IsSetUp old.world u → IsSetUp new.world u) → AreData old.world unit first count
    → IsData new.world unit (first + k)
data_at old new unit first count k lt keeps units are =
    record {
      unit_is = units unit are.unit_is;
      inside = subst (λ (kind : DriveKind). first + k < limit_of kind) (sym (kind_stays old new unit keeps.setup are.unit_is (units unit are.unit_is)))
          (inside first k count (limit_of (kind_at old.world unit)) lt are.inside);
    }
  where
    inside : (a k n m : ℕ) → k < n → a + n ≤ m → a + k < m
    inside a k n m lt le = omega (arith, lt, le)

-- a block that can't be used stops nothing
pub not_stopped : (A : Type 0) (why : CacheFault) → why ≡ fault.Unusable → stop_of {A = A} (Err why) ≡ None
not_stopped A why is = ap (λ z. stop_of {A = A} (Err z)) is
