-- The lines of a script of the cache: what they ask for, and their inputs.
use Rattle.std.proofs.Common.{◌≡◌, inl, inr, ℕ, suc, ◌+◌, ◌*◌, ◌-◌, ◌<◌, ◌≤◌, List, [], ◌∷◌, ◌++◌, length, map, take, drop, Option, None, Some, refl, sym, ap, ◌∙◌, arith}
use Rattle.std.specs.Prelude.{slice_index_or}
use Rattle.std.proofs.lemmas.Option.{none-some, same_Some}
use Rattle.std.proofs.lemmas.List.{take_all, length-replicate}
use Rattle.trace_replay.specs.requests.Requests.{IsRequest}
use Rattle.trace_replay.specs.Script.{Statement, Declares, Plays, Numbered, Drain, drives_in, with_input, inputs_before, inputs_of}
use Rattle.driver_machine.specs.World.{World}
use Rattle.script_runs.specs.Steps.{AreUnits}
use Rattle.script_runs.proofs.Attached.{drives-append, first_some}
use Rattle.script_runs.proofs.LineLaws.{inputs_append, inputs_end}
use Rattle.script_reader.specs.declared.cached.statement.Asked.{Asked}
use Rattle.script_reader.specs.declared.cached.statement.Statement.{Statement as Says}
use Rattle.script_reader.specs.declared.cached.statement.Statement.TheVariants as says
use Rattle.script_reader.specs.declared.cached.statement.Line.{Line as Said}
use Rattle.script_reader.specs.cached.Scripts as cached
use Rattle.script_reader.specs.cached.Scripts.{known_of}
use Rattle.script_reader.specs.cached.Formed.{IsAsked, IsWell, AreWell, IsScript}
use Rattle.script_reader.specs.cached.Meaning.{filled, request_of, statement_of, line_of, lines_before, meaning_of}
use Rattle.script_runs.proofs.CachedLines.{some_declared, here_is, lines_more, lines_split}
use Rattle.cached_run.specs.Lines.{inputs_till, input_at, MayAsk, MayPlay, KeepsUnits}
use Rattle.cached_run.proofs.Legal.{AreAskedWell}

-- ---- AT A LINE
module _ (s : cached.Script) (i : ℕ) (line : Said) (script : IsScript s) (lt : i < length s.lines) (is : line ≡ slice_index_or s.lines i line) where
  -- what it asks for may be asked
  unit_there : (w now : World) (a : Asked) → AreUnits (meaning_of s) w → KeepsUnits w now → IsAsked (known_of (take i s.lines)) a → MayAsk now a
  unit_there w now a units keeps asked = elim (some_declared a.unit (take i s.lines) None (asked.kind, asked.declared)) [
    | inl none ↦ absurd (none-some none.0 none.1)
    | inr there ↦ record {
      unit_is = keeps a.unit (units a.unit there.0
          (ap (λ z. drives_in z a.unit) (lines_split s i line script lt is) ∙ drives-append (lines_before s i) (line_of line ∷ map line_of (drop (suc i) s.lines)) a.unit
          ∙ first_some (drives_in (lines_before s i) a.unit) (drives_in (line_of line ∷ map line_of (drop (suc i) s.lines)) a.unit) there.0 there.1)).0;
      some = asked.some;
      few = asked.few;
    }
  ]

  pub may_play : (w now : World) → AreUnits (meaning_of s) w → KeepsUnits w now → MayPlay now line.statement
  may_play w now units keeps = by line.statement (here_is s i line script lt is).well
    where
      by : (st : Says) → IsWell (known_of (take i s.lines)) st → MayPlay now st
      by (says.Unit v kind) well = tt
      by (says.Read a) well = unit_there w now a units keeps well
      by (says.Write a fill) well = unit_there w now a units keeps well.0
      by says.Sync well = tt

  -- ITS INPUT comes behind those before
  pub inputs_next : inputs_till s (i + 1) ≡ inputs_till s i ++ input_at line
  inputs_next = ap (inputs_before []) (lines_more s i line script lt is) ∙ inputs_append [] (lines_before s i) (line_of line ∷ []) ∙ inputs_end [] (input_at line) (lines_before s i)

  pub inputs_split : inputs_of (meaning_of s) ≡ inputs_till s i ++ (input_at line ++ inputs_before (record { line = s.count + 1; input = Drain } ∷ []) (map line_of (drop (suc i) s.lines)))
  inputs_split =
      ap (inputs_before (record { line = s.count + 1; input = Drain } ∷ [])) (lines_split s i line script lt is)
      ∙ inputs_append (record { line = s.count + 1; input = Drain } ∷ []) (lines_before s i) (line_of line ∷ map line_of (drop (suc i) s.lines))
      ∙ ap (λ z. inputs_before z (lines_before s i)) (first_of line.number (statement_of line.statement) (inputs_before (record { line = s.count + 1; input = Drain } ∷ []) (map line_of (drop (suc i) s.lines))))
      ∙ inputs_end [] (input_at line ++ inputs_before (record { line = s.count + 1; input = Drain } ∷ []) (map line_of (drop (suc i) s.lines))) (lines_before s i)
    where
      first_of : (number : ℕ) (st : Statement) (inputs : List Numbered) → with_input number st inputs ≡ with_input number st [] ++ inputs
      first_of number (Declares u kind) inputs = refl
      first_of number (Plays input) inputs = refl

-- BEHIND THE LAST LINE there is one more sync
pub inputs_all : (s : cached.Script) (i : ℕ) → length s.lines ≤ i → inputs_of (meaning_of s) ≡ inputs_till s i ++ record { line = s.count + 1; input = Drain } ∷ []
inputs_all s i all =
    ap (λ (xs : List Said). inputs_before (record { line = s.count + 1; input = Drain } ∷ []) (map line_of xs)) (sym (take_all i s.lines all))
    ∙ inputs_end [] (record { line = s.count + 1; input = Drain } ∷ []) (lines_before s i)

-- ---- ALL REQUESTS are asked well
filled_long : (count byte : ℕ) → length (filled count byte) ≡ 512 * count
unfolding filled
filled_long count byte = length-replicate (512 * count) byte

module _ (a : Asked) (some : 1 ≤ a.count) (few : a.count ≤ 127) where
  read_good : IsRequest (request_of a None)
  read_good = record { some = some; few = few; ends = omega arith; in_block = omega arith; in_frame = omega arith; exact = λ bytes e. absurd (none-some bytes e) }

  write_good : (fill : ℕ) → IsRequest (request_of a (Some (filled a.count fill)))
  write_good fill = record { some = some; few = few; ends = omega arith; in_block = omega arith; in_frame = omega arith; exact = λ bytes e. whole bytes e }
    where
      counted : (n : ℕ) → 1 ≤ n → 512 * n ≡ 512 * (n - 1) + 512
      counted n le = omega (arith, le)

      whole : (bytes : List ℕ) → ◌≡◌ {A = Option (List ℕ)} (Some (filled a.count fill)) (Some bytes) → length bytes ≡ 512 * (a.count - 1) + 512
      whole bytes e = ap length (sym (same_Some (filled a.count fill) bytes e)) ∙ filled_long a.count fill ∙ counted a.count some

asked_more : (number : ℕ) (st : Says) (before : List Said) (rest : List Numbered) → IsWell (known_of before) st → AreAskedWell rest → AreAskedWell (with_input number (statement_of st) rest)
asked_more number (says.Unit v kind) before rest w all = all
asked_more number (says.Read a) before rest w all = (read_good a w.some w.few, all)
asked_more number (says.Write a fill) before rest w all = (write_good a w.0.some w.0.few fill, all)
asked_more number says.Sync before rest w all = (tt, all)

asked_well : (above most : ℕ) (before lines : List Said) (last : List Numbered) → AreWell above most before lines → AreAskedWell last → AreAskedWell (inputs_before last (map line_of lines))
asked_well above most before [] last well all = all
asked_well above most before (x ∷ xs) last well all =
    asked_more x.number x.statement before (inputs_before last (map line_of xs)) well.1.0 (asked_well x.number most (before ++ x ∷ []) xs last well.1.1 all)

pub all_asked_well : (s : cached.Script) → IsScript s → AreAskedWell (inputs_of (meaning_of s))
all_asked_well s script = asked_well 0 s.count [] s.lines (record { line = s.count + 1; input = Drain } ∷ []) script.lines (tt, tt)
