-- Each unit that a well-formed script names is one of 32.
use Rattle.std.proofs.Common.{◌≡◌, ℕ, zero, suc, ◌<◌, ◌≤◌, ◌+◌, ◌-◌, ◌^◌, ◌==◌, Bool, true, false, cond, List, [], ◌∷◌, length, map, arith, refl, ap}
use Rattle.script_reader.specs.Grammar.{Spells}
use Rattle.script_lines.specs.Known.{Numbered, Known}
use Rattle.script_reader.specs.Lines.{pieces_of, onto_first, without_cr}
use Rattle.script_lines.specs.Words.{all_verbs}
use Rattle.std.specs.Prelude.{Box}
use Rattle.std.specs.Box.{box_value}
use Rattle.std.proofs.lemmas.List.Elements.{All-cons, All-nil}
use Rattle.script_lines.specs.declared.statement.Span.{Span}
use Rattle.script_lines.specs.declared.statement.Statement.{Statement}
use Rattle.script_lines.specs.declared.statement.Statement.TheVariants as says
use Rattle.script_reader.specs.Formed.{AreWell, IsInRange}
use Rattle.script_reader.specs.Formed as formed
use Rattle.script_reader.specs.Stored.{Kept, seen, digits_at}
use Rattle.script_lines.specs.Renamed.{renamed}
use Rattle.std.specs.declared.alloc.Global.{Global}
use Rattle.run_view.specs.Plays.{HasUnit, HasUnitAt, HaveUnits}

below : (u : ℕ) → u ≤ 31 → u < 32
below u h = omega (arith, h)

unit_in : (text : List ℕ) (known : Known) (statement : Statement Span (Box (List ℕ) Global)) → IsInRange known (renamed (digits_at text) box_value statement) → HasUnit statement
unit_in text known (says.Unit u kind) r = below u r.0
unit_in text known (says.Read request) r = below request.unit r.declared.1.0
unit_in text known (says.Write request content) r = below request.unit r.0.declared.1.0
unit_in text known (says.Arrive u) r = below u r.1.0
unit_in text known (says.Turn u sector) r = below u r.1.0
unit_in text known (says.Noise u block span n) r = below u r.drive.0
unit_in text known (says.Fault u what times) r = below u r.0.1.0
unit_in text known (says.Offline u) r = below u r.1.0
unit_in text known (says.Online u) r = below u r.1.0
unit_in text known (says.Lock u) r = below u r.1.0
unit_in text known (says.Unlock u) r = below u r.1.0
unit_in text known other r = tt

pub well_units : (text : List ℕ) (known : Known) (lines : List Kept) → AreWell known (map (λ line. line.statement) (map (seen text) lines)) → HaveUnits lines
well_units text known [] w = All-nil HasUnitAt
well_units text known (line ∷ lines) w =
    All-cons HasUnitAt line lines (unit_in text known line.statement w.0.in_range)
    (well_units text (formed.learned known (renamed (digits_at text) box_value line.statement)) lines w.1)

-- A TEXT has no more lines than bytes
onto_length : (b : ℕ) (ls : List (List ℕ)) → length (onto_first b ls) ≤ length ls + 1
onto_length b [] = omega arith
onto_length b (l ∷ ls) = omega arith

pieces_by : (b : ℕ) (bs : List ℕ) (feed : Bool) → length (pieces_of bs) ≤ length bs → length (cond feed ([] ∷ pieces_of bs) (onto_first b (pieces_of bs))) ≤ length (b ∷ bs)
pieces_by b bs true few = omega (arith, few)
pieces_by b bs false few = omega (arith, few, onto_length b (pieces_of bs))

pieces_few : (bytes : List ℕ) → length (pieces_of bytes) ≤ length bytes
pieces_few [] = omega arith
pieces_few (b ∷ bs) = pieces_by b bs (b == 10) (pieces_few bs)

same_length : (ls : List (List ℕ)) → length (map without_cr ls) ≡ length ls
same_length [] = refl
same_length (l ∷ ls) = ap (λ (n : ℕ). suc n) (same_length ls)

pub lines_few : (text : List ℕ) (lines : List Numbered) (count : ℕ) → Spells all_verbs text lines count → count < 2 ^ 32 - 1
lines_few text lines count s = omega (arith, s.counted, same_length (pieces_of text), pieces_few text, s.short)
