-- The row of one read.
use Rattle.std.proofs.Common.{◌≡◌, ℕ, List, [], ◌∷◌, refl, subst, arith, Some}
use Rattle.pack_geometry.specs.declared.DriveKind.TheVariants.{Rp06}
use Rattle.partitions.specs.declared.Part.TheVariants as part
use Rattle.script_lines.specs.declared.statement.Statement.TheVariants as says
use Rattle.script_lines.specs.Forms as forms
use Rattle.script_reader.specs.Grammar.{Spells}
use Rattle.script_lines.specs.Known.{Numbered}
use Rattle.script_lines.specs.Words.{all_verbs}
use Rattle.script_reader.proofs.ReadingLaws.{one_script}
use Rattle.script_reader.specs.Meaning.{meaning}
use Rattle.trace_rows.specs.Rows1.{first_read}
use Rattle.contract_rows.specs.OneRead.{one_read_text, MeansOneRead}

-- its lines
abbrev pub one_read : List Numbered
one_read =
    record { number = 1; statement = says.Unit 0 Rp06 }
    ∷ record { number = 2; statement = says.Read (record { id = 1; unit = 0; part = part.C; block = 0; count = 1; offset = 0; last = 512 }) } ∷ []

pub spells_one_read : Spells all_verbs one_read_text one_read 2
unfolding forms.start_form forms.tail_form forms.last_form
spells_one_read = record {
  short = omega arith;
  says = (Some (says.Unit 0 Rp06), refl, (Some (says.Read (record { id = 1; unit = 0; part = part.C; block = 0; count = 1; offset = 0; last = 512 })), refl, refl));
  counted = refl;
}

-- and nothing else is spelled
pub means_one_read : MeansOneRead
means_one_read = (
  (one_read, 2, spells_one_read),
  λ lines count s. let same = one_script all_verbs one_read_text one_read lines 2 count spells_one_read s in
      subst (λ (k : ℕ). meaning lines k ≡ first_read.script) same.1 (subst (λ (ls : List Numbered). meaning ls 2 ≡ first_read.script) same.0 refl),
)
