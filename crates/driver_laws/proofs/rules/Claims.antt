-- Which reads are claimed: noise that was armed is no alias at their homes.
use Rattle.std.proofs.Common.{◌≡◌, ℕ, ◌+◌, List, [], ◌∷◌, Option, None, Some, All}
use Rattle.std.specs.Prelude.{Contains, unwrap_or}
use Rattle.std.specs.List.{AllByRecursion}
use Rattle.std.proofs.lemmas.Option.{none-some}
use Rattle.std.proofs.lemmas.List.Elements.{All-head, All-tail, All-contains_itself}
use Rattle.pack_geometry.specs.declared.DriveKind.{DriveKind}
use Rattle.pack_geometry.specs.declared.DriveKind.TheVariants.{Rp06}
use Rattle.pack_geometry.specs.Pack as model
use Rattle.pack_geometry.specs.TableSpelling.{Table}
use Rattle.pack_geometry.specs.Homes.{home_of}
use Rattle.trace_replay.specs.requests.Requests.{first_block}
use Rattle.trace_replay.specs.Script.{Input, Noise, Numbered}
use Rattle.driver_laws.specs.rules.Machine.{kind_of}
use Rattle.driver_laws.specs.rules.LegalAnswers.{unaliased, IsNoAlias, AreNoAliases, all_claimed}
use Rattle.driver_laws.specs.rules.Stands.{Setup, home_at}
use Rattle.driver_laws.proofs.rules.Beginnings.{covered_by, AreCovered}

home_known : (drive : Option DriveKind) (table : Option Table) (pack : model.Pack) (block home : ℕ) → home_at drive table pack block ≡ Some home → home_of (unwrap_or drive Rp06) table pack block ≡ Some home
home_known None table pack block home is = absurd (none-some home is)
home_known (Some kind) table pack block home is = is

covered_one : (setup : Setup) (inputs : List Numbered) (at : ℕ) (input : Input) → Contains inputs (record { line = at; input = input }) → covered_by setup (unaliased setup.drives setup.tables setup.packs inputs) at input
covered_one setup inputs at (Noise n) listed = λ line r k before claimed is_block unit home alias. claimed (record {
  at = at;
  noise = n;
  block = k;
  armed = listed;
  before = before;
  alias = alias;
  unit = unit;
  is_block = is_block;
  at_home = home_known (setup.drives r.unit) (setup.tables r.unit) (setup.packs r.unit) (first_block (kind_of setup.drives r.unit) r + k) n.block home;
})
covered_one setup inputs at other listed = tt

each_from : {X : Type 0} (P Q : X → Type 0) → ((x : X) → P x → Q x) → (xs : List X) → All P xs → AllByRecursion Q xs
each_from P Q implied [] all = tt
each_from P Q implied (x ∷ xs) all = (implied x (All-head P x xs all), each_from P Q implied xs (All-tail P x xs all))

pub unaliased_covered : (setup : Setup) (inputs : List Numbered) → AreCovered setup (unaliased setup.drives setup.tables setup.packs inputs) inputs
unaliased_covered setup inputs =
    each_from (Contains inputs) (λ (n : Numbered). covered_by setup (unaliased setup.drives setup.tables setup.packs inputs) n.line n.input) (λ n listed. covered_one setup inputs n.line n.input listed) inputs (All-contains_itself inputs)

none_covered : (setup : Setup) (at : ℕ) (input : Input) → IsNoAlias input → covered_by setup all_claimed at input
none_covered setup at (Noise n) is = λ line r k before claimed is_block unit home. is
none_covered setup at other is = tt

pub all_covered : (setup : Setup) (inputs : List Numbered) → AreNoAliases inputs → AreCovered setup all_claimed inputs
all_covered setup [] are = tt
all_covered setup (n ∷ inputs) are = (none_covered setup n.line n.input are.0, all_covered setup inputs are.1)
