-- What stays from call to call of a driver that is ready, and what each of them keeps.
use Rattle.std.proofs.Common.{◌≡◌, ℕ, ◌+◌, ◌-◌, ◌^◌, ◌≤◌, min, List, length, Option, None, Some, refl, sym, ap, ◌∙◌, subst, arith}
use Rattle.std.specs.Prelude.{unwrap_or}
use Rattle.std.proofs.lemmas.Option.{none-some, same_Some}
use Rattle.pack_geometry.specs.declared.DriveKind.{DriveKind}
use Rattle.pack_geometry.specs.declared.DriveKind.TheVariants.{Rp06}
use Rattle.pack_geometry.specs.Pack as model
use Rattle.pack_geometry.specs.Content.{bytes_at}
use Rattle.pack_geometry.specs.TableSpelling.{Table}
use Rattle.pack_geometry.specs.Homes.{home_of, content_at}
use Rattle.pack_geometry.proofs.PackLaws.{length-block_at}
use Rattle.driver_laws.specs.rules.Machine.{kind_of}
use Rattle.driver_laws.specs.rules.Stands.{Setup, home_at}
use Rattle.driver_laws.proofs.rules.MachineRuns.{home_marks}
use Rattle.driver_machine.specs.World.{World, unit_at}
use Rattle.driver_machine.specs.Guards.{IsSetUp}
use Rattle.driver_laws.specs.declared.answers.outcome.Stop.{Stop}
use Rattle.driver_laws.specs.rules.Waited.{map_of, with_packs}
use Rattle.blocking_io.specs.FrontsPasses.{HasCauses, Stage, kind_if, setup_at, setup_of}
use Rattle.blocking_io.specs.Fronts.{OthersStay}
use Rattle.blocking_io.specs.Sites.{IsUnchanged, IsUntouched, kind_at, left_map}

-- ---- what is no home
pub homes_same : (drive : Option DriveKind) (table : Option Table) (one other : model.Pack) (block : ℕ) → one.marks ≡ other.marks → home_at drive table one block ≡ home_at drive table other block
homes_same None table one other block same = refl
homes_same (Some kind) table one other block same = home_marks kind table one other block same

pub others_none : (setup : Setup) → OthersStay setup setup.packs
others_none setup = record {
  sectors = λ unit sector kind declared below homeless. refl;
  stay = record { beyond = λ unit kind declared. refl; marks = λ unit. refl; others = λ unit none. refl };
}

others_join : (setup : Setup) (mid new : ℕ → model.Pack) → OthersStay setup mid → OthersStay (with_packs setup mid) new → OthersStay setup new
others_join setup mid new first next = record {
  sectors = λ unit sector kind declared below homeless.
      next.sectors unit sector kind declared below
      (λ block home. homeless block (homes_same (setup.drives unit) (setup.tables unit) (setup.packs unit) (mid unit) block (sym (first.stay.marks unit)) ∙ home))
      ∙ first.sectors unit sector kind declared below homeless;
  stay = record {
    beyond = λ unit kind declared. next.stay.beyond unit kind declared ∙ first.stay.beyond unit kind declared;
    marks = λ unit. next.stay.marks unit ∙ first.stay.marks unit;
    others = λ unit none. next.stay.others unit none ∙ first.stay.others unit none;
  };
}

pub others_over : (old mid new : Stage) → setup_at mid ≡ with_packs (setup_at old) mid.held → OthersStay (setup_at old) mid.held → OthersStay (setup_at mid) new.held → OthersStay (setup_at old) new.held
others_over old mid new same first next = others_join (setup_at old) mid.held new.held first (subst (λ z. OthersStay z new.held) same next)

-- ---- what the packs hold
bytes_long : (pack : model.Pack) (home : Option ℕ) (bytes : List ℕ) → bytes_at pack home ≡ Some bytes → length bytes ≡ 512
bytes_long pack None bytes is = absurd (none-some bytes is)
bytes_long pack (Some sector) bytes is = ap length (sym (same_Some (model.block_at pack.image sector) bytes is)) ∙ length-block_at pack.image sector

content_long : (drive : Option DriveKind) (table : Option Table) (pack : model.Pack) (block : ℕ) (bytes : List ℕ) → content_at drive table pack block ≡ Some bytes → length bytes ≡ 512
content_long None table pack block bytes is = absurd (none-some bytes is)
content_long (Some kind) table pack block bytes is = bytes_long pack (home_of kind table pack block) bytes is

pub map_long : (setup : Setup) (unit block : ℕ) (bytes : List ℕ) → map_of setup unit block ≡ Some bytes → length bytes ≡ 512
map_long setup unit block bytes is = content_long (setup.drives unit) (setup.tables unit) (setup.packs unit) block bytes is

pub left_over : (old mid new : Stage) → setup_at mid ≡ with_packs (setup_at old) mid.held → left_map mid new ≡ left_map old new
left_over old mid new same = ap (λ z. map_of (with_packs z new.held)) same

pub untouched_behind : (old mid new : Stage) → setup_at mid ≡ with_packs (setup_at old) mid.held → IsUnchanged old mid → OthersStay (setup_at old) mid.held → IsUntouched mid new → IsUntouched old new
untouched_behind old mid new same first others next = record {
  map = λ u block. ap (λ f. f u block) (sym (left_over old mid new same)) ∙ next.map u block ∙ ap (λ f. f u block) first.map;
  others = others_over old mid new same others next.others;
}

-- ---- the kind of a unit
pub kind_is : (w : World) (held : ℕ → model.Pack) (unit : ℕ) → IsSetUp w unit → kind_of (setup_of w held).drives unit ≡ kind_at w unit
kind_is w held unit set = ap (λ b. unwrap_or (kind_if b (unit_at w unit).drive.kind) Rp06) set.declared

pub kind_stays : (old new : Stage) (unit : ℕ) → setup_at new ≡ with_packs (setup_at old) new.held → IsSetUp old.world unit → IsSetUp new.world unit → kind_at new.world unit ≡ kind_at old.world unit
kind_stays old new unit same was is =
    sym (kind_is new.world new.held unit is) ∙ ap (λ z. kind_of z.drives unit) same ∙ kind_is old.world old.held unit was

-- ---- one call behind the other
pub causes_join : (packs packs' packs'' trace trace' trace'' : ℕ) (stop : Option Stop) → HasCauses packs packs' trace trace' None → HasCauses packs' packs'' trace' trace'' stop → HasCauses packs packs'' trace trace'' stop
causes_join packs packs' packs'' trace trace' trace'' stop first next = record {
  later_packs = through packs packs' packs'' first.later_packs next.later_packs;
  later = through trace trace' trace'' first.later next.later;
  store = λ e. rose packs packs' packs'' first.later_packs (next.store e);
  sink = λ e. rose trace trace' trace'' first.later (next.sink e);
}
  where
    through : (a b c : ℕ) → a ≤ b → b ≤ c → a ≤ c
    through a b c one two = omega (arith, one, two)

    rose : (a b c : ℕ) → a ≤ b → min (b + 1) (2 ^ 64 - 1) ≤ c → min (a + 1) (2 ^ 64 - 1) ≤ c
    rose a b c one two = omega (arith, one, two)
