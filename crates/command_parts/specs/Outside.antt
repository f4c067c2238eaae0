-- What a command meets outside: of the source, the packs and the two sinks, whether each tells, what it holds, and its count of faults;
-- of the packs also what the call was about that failed last.
use Rattle.std.specs.Prelude.{◌≡◌, ◌⊎◌, ℕ, Bool, List}
use Rattle.outside_traits.specs.Causes.{Rose}
use Rattle.outside_traits.specs.declared.traits.PackCall.{PackCall}
use Rattle.pack_geometry.specs.Pack.{Pack}

pub record Outside : Type 0 where
  pub source_tells : Bool
  pub left : List ℕ
  pub source_faults : ℕ
  pub packs_tell : Bool
  pub held : ℕ → Pack
  pub packs_faults : ℕ
  pub failed_at : PackCall
  pub out_tells : Bool
  pub said : List ℕ
  pub out_faults : ℕ
  pub trace_tells : Bool
  pub taken : List ℕ
  pub trace_faults : ℕ

-- as the objects tell it
abbrev pub outside : {S P O T : Type 0} → (S → Bool) → (S → List ℕ) → (S → ℕ) → (P → Bool) → (P → ℕ → Pack) → (P → ℕ) → (P → PackCall)
    → (O → Bool) → (O → List ℕ) → (O → ℕ) → (T → Bool) → (T → List ℕ) → (T → ℕ) → S → P → O → T → Outside
outside source_tells left source_faults packs_tell held packs_faults failed_at out_tells said out_faults trace_tells taken trace_faults source packs out trace = record {
  source_tells = source_tells source;
  left = left source;
  source_faults = source_faults source;
  packs_tell = packs_tell packs;
  held = held packs;
  packs_faults = packs_faults packs;
  failed_at = failed_at packs;
  out_tells = out_tells out;
  said = said out;
  out_faults = out_faults out;
  trace_tells = trace_tells trace;
  taken = taken trace;
  trace_faults = trace_faults trace;
}

-- AN OBJECT FAILED only where its count of faults rose: the source with the status 4, a sink with 5, the packs with 6.
pub record HasItsCause (code : ℕ) (old new : Outside) : Type 0 where
  pub source : code ≡ 4 → Rose old.source_faults new.source_faults
  pub sink : code ≡ 5 → Rose old.out_faults new.out_faults ⊎ Rose old.trace_faults new.trace_faults
  pub store : code ≡ 6 → Rose old.packs_faults new.packs_faults
