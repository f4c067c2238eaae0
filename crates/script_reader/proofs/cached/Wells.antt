-- What a script of the cache says is well formed.
use Rattle.std.proofs.Common.{◌≡◌, ℕ, suc, ◌≤◌, Bool, true, false, List, [], ◌∷◌, ◌++◌, length, map, refl, sym, ap, subst, ◌∙◌, arith, Option, None, Some}
use Rattle.std.specs.Prelude.{if◌then◌else◌, ◌==◌}
use Rattle.std.proofs.lemmas.List.{map-append}
use Rattle.script_lines.specs.declared.dialect.Dialect.TheVariants.{Cached}
use Rattle.script_lines.specs.declared.kinds.ScriptKind.{ScriptKind}
use Rattle.script_lines.specs.declared.kinds.ScriptKind.TheVariants.{LateUnit, TooMany}
use Rattle.script_lines.specs.declared.verbs.Verb.TheVariants as verbs
use Rattle.script_lines.specs.Known.{Known, Numbered, is_full}
use Rattle.script_lines.specs.Known as any_known
use Rattle.script_lines.specs.Script.{AreNumbered}
use Rattle.script_reader.specs.Formed.{without_ids, AreWellIn, learned}
use Rattle.script_reader.specs.Formed as any_formed
use Rattle.script_reader.specs.Lines.{pieces_of, lines_of, without_cr, onto_first}
use Rattle.script_reader.specs.Meaning.{line_of}
use Rattle.script_reader.specs.declared.cached.statement.Line.{Line}
use Rattle.script_reader.specs.declared.cached.statement.Statement.{Statement}
use Rattle.script_reader.specs.declared.cached.statement.Statement.TheVariants as says
use Rattle.script_reader.specs.cached.Scripts.{Script, IsSpelled, as_said, as_line, known_of}
use Rattle.script_reader.specs.cached.Formed.{IsWell, AreWell, IsScript}
use Rattle.script_reader.proofs.BackLaws.{learned_more}
use Rattle.script_reader.proofs.Numbers.{spelled_numbered}
use Rattle.script_reader.proofs.WellLaws.{spelled_well}

not_later : (later full : Bool) → ◌≡◌ {A = Option ScriptKind} (if later then Some LateUnit else if full then Some TooMany else None) None → later ≡ false
not_later true full e = absurd (cc)
not_later false full e = refl

well_of : (known : Known) (st : Statement) → any_formed.IsWell (without_ids known) (as_said st) → IsWell known st
well_of known (says.Unit unit kind) w = record {
  small = w.in_range.0;
  undeclared = w.in_range.1;
  first = not_later known.later (is_full known verbs.Unit) w.in_time;
}
well_of known (says.Read a) w =
    let r = w.in_range in record { kind = r.declared.0; small = r.declared.1.0; declared = r.declared.1.1; some = r.some; few = r.count }
well_of known (says.Write a fill) w =
    let r = w.in_range.0 in (record { kind = r.declared.0; small = r.declared.1.0; declared = r.declared.1.1; some = r.some; few = r.count }, w.in_range.1)
well_of known says.Sync w = tt

known_next : (before : List Line) (line : Line) → learned (known_of before) (as_said line.statement) ≡ known_of (before ++ line ∷ [])
known_next before line =
    learned_more (map as_line before) line.number (as_said line.statement)
    ∙ ap (λ (ls : List Numbered). any_known.known_of ls) (sym (map-append as_line before (line ∷ [])))

are_well : (above most : ℕ) (before lines : List Line) → AreNumbered above most (map line_of (map as_line lines))
    → AreWellIn Cached (known_of before) (map (λ line. line.statement) (map as_line lines)) → AreWell above most before lines
are_well above most before [] n w = n
are_well above most before (line ∷ lines) n w = (
  n.0,
  (
    well_of (known_of before) line.statement w.0.0,
    are_well line.number most (before ++ line ∷ []) lines n.1 (subst (λ (k : Known). AreWellIn Cached k (map (λ l. l.statement) (map as_line lines))) (known_next before line) w.1),
  ),
)

-- ---- a text has no more lines than bytes
onto_few : (b : ℕ) (ls : List (List ℕ)) (k : ℕ) → length ls ≤ k → length (onto_first b ls) ≤ suc k
onto_few b [] k le = omega arith
onto_few b (l ∷ ls) k le = omega (arith, le)

pieces_few : (text : List ℕ) → length (pieces_of text) ≤ length text
pieces_few [] = omega arith
pieces_few (b ∷ bs) = by (b == 10) (pieces_few bs)
  where
    by : (t : Bool) → length (pieces_of bs) ≤ length bs → length (if t then [] ∷ pieces_of bs else onto_first b (pieces_of bs)) ≤ suc (length bs)
    by true le = omega (arith, le)
    by false le = onto_few b (pieces_of bs) (length bs) le

mapped_long : (ls : List (List ℕ)) → length (map without_cr ls) ≡ length ls
mapped_long [] = refl
mapped_long (l ∷ ls) = ap (λ n. suc n) (mapped_long ls)

pub spelled_well_cached : (s : Script) → IsSpelled s → IsScript s
spelled_well_cached s spelled =
    let spells = spelled.spells in
    let counted = spells.counted in
    let short = spells.short in
    let few = pieces_few spelled.bytes in
    let same = mapped_long (pieces_of spelled.bytes) in
    record {
      lines = are_well 0 s.count [] s.lines (spelled_numbered Cached spelled.bytes (map as_line s.lines) s.count spells) (spelled_well Cached spelled.bytes (map as_line s.lines) s.count spells);
      few = omega (arith, counted, short, few, same);
    }
