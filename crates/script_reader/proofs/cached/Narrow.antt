-- Lines of the cache are lines of any script, and back.
use Rattle.std.proofs.Common.{◌≡◌, ◌⊎◌, inl, inr, ℕ, ◌+◌, ◌<◌, List, [], ◌∷◌, ◌++◌, length, map, take, Box, refl, sym, ap, subst, ◌∙◌}
use Rattle.std.specs.Box.{box_value}
use Rattle.std.specs.declared.alloc.Global.{Global}
use Rattle.script_lines.specs.declared.dialect.Dialect.TheVariants.{Cached}
use Rattle.script_lines.specs.declared.kinds.ScriptKind.{ScriptKind}
use Rattle.script_lines.specs.declared.statement.Content.TheVariants as contents
use Rattle.script_lines.specs.declared.statement.Span.{Span}
use Rattle.script_lines.specs.declared.statement.Statement.{Statement as AnyStatement}
use Rattle.script_lines.specs.declared.statement.Statement.TheVariants as any
use Rattle.script_lines.specs.Known.{Known, Said, Numbered, known_of}
use Rattle.script_lines.specs.Renamed.{renamed}
use Rattle.script_reader.specs.Formed.{AreWellIn, learned}
use Rattle.script_reader.specs.Grammar as grammar
use Rattle.script_reader.specs.Stored.{Kept, seen, digits_at}
use Rattle.script_reader.specs.declared.cached.statement.Line.{Line}
use Rattle.script_reader.specs.declared.cached.statement.Statement.{Statement}
use Rattle.script_reader.specs.declared.cached.statement.Statement.TheVariants as says
use Rattle.script_reader.specs.cached.Scripts.{as_said, as_line, IsOfCache, narrowed, narrowed_line, Spells, IsRefused}
use Rattle.script_reader.proofs.ReadingLaws as all
use Rattle.script_reader.proofs.WellLaws.{spelled_well}

narrow_said : (st : Statement) → narrowed (as_said st) ≡ st
narrow_said (says.Unit unit kind) = refl
narrow_said other = refl

narrow_lines : (lines : List Line) → map narrowed_line (map as_line lines) ≡ lines
narrow_lines [] = refl
narrow_lines (line ∷ lines) = λ i. record { number = line.number; statement = narrow_said line.statement i } ∷ narrow_lines lines i

said_back : (s : Said) → IsOfCache s → as_said (narrowed s) ≡ s
said_back s cached =
    ap (λ (x : Said). as_said (narrowed x)) cached.1 ∙ ap as_said (narrow_said cached.0) ∙ sym cached.1

lines_back : (known : Known) (lines : List Numbered) → AreWellIn Cached known (map (λ line. line.statement) lines) → map as_line (map narrowed_line lines) ≡ lines
lines_back known [] w = refl
lines_back known (line ∷ lines) w = λ i.
    record { number = line.number; statement = said_back line.statement w.0.1 i } ∷ lines_back (learned known line.statement) lines w.1 i

-- WHAT IS STORED
narrow_seen : (text : List ℕ) (st : AnyStatement Span (Box (List ℕ) Global)) → narrowed (renamed (digits_at text) box_value st) ≡ narrowed st
narrow_seen text (any.Write r (contents.Fill b)) = refl
narrow_seen text (any.Write r (contents.Seq n)) = refl
narrow_seen text (any.Write r (contents.Hex d)) = refl
narrow_seen text (any.Unit unit kind) = refl
narrow_seen text other = refl

narrow_stored : (text : List ℕ) (lines : List Kept) → map narrowed_line (map (seen text) lines) ≡ map narrowed_line lines
narrow_stored text [] = refl
narrow_stored text (line ∷ lines) = λ i. record { number = line.number; statement = narrow_seen text line.statement i } ∷ narrow_stored text lines i

pub spelled_narrow : (bytes text : List ℕ) (stored : List Kept) (lines : List Line) (count : ℕ) → grammar.Spells Cached bytes (map (seen text) stored) count → lines ≡ map narrowed_line stored → Spells bytes lines count
spelled_narrow bytes text stored lines count s is =
    subst (λ (ls : List Numbered). grammar.Spells Cached bytes ls count)
    (sym (ap (map as_line) (is ∙ sym (narrow_stored text stored))
    ∙ lines_back (known_of {D = List ℕ} {N = List ℕ} []) (map (seen text) stored) (spelled_well Cached bytes (map (seen text) stored) count s)))
    s

-- THE LAW OF THE GRAMMAR
pub one_script : (bytes : List ℕ) (lines others : List Line) (count other : ℕ) → Spells bytes lines count → Spells bytes others other → (lines ≡ others) × (count ≡ other)
one_script bytes lines others count other s t =
    let same = all.one_script Cached bytes (map as_line lines) (map as_line others) count other s t in
    (sym (narrow_lines lines) ∙ ap (map narrowed_line) same.0 ∙ narrow_lines others, same.1)

pub some : (bytes : List ℕ) → ((lines : List Line) × (count : ℕ) × Spells bytes lines count) ⊎ ((number : ℕ) × (kind : ScriptKind) × IsRefused bytes number kind)
some bytes = elim (all.some Cached bytes) [
  | inl s ↦ inl (map narrowed_line s.0, s.1, spelled s.0 s.1 s.2)
  | inr fault ↦ inr fault
]
  where
    spelled : (lines : List Numbered) (count : ℕ) → grammar.Spells Cached bytes lines count → Spells bytes (map narrowed_line lines) count
    spelled lines count s =
        subst (λ (ls : List Numbered). grammar.Spells Cached bytes ls count)
        (sym (lines_back (known_of {D = List ℕ} {N = List ℕ} []) lines (spelled_well Cached bytes lines count s))) s
