-- Lines by their first word, under the names of what is read.
use Rattle.std.proofs.Common.{◌≡◌, ℕ, List, ◌∷◌, refl, sym, ap, ◌∙◌, Some, Result, Ok, Err}
use Rattle.std.specs.Option.{option_map}
use Rattle.script_lines.specs.declared.kinds.ScriptKind.{ScriptKind}
use Rattle.script_lines.specs.declared.kinds.ScriptKind.TheVariants.{Word}
use Rattle.script_lines.specs.declared.statement.Span.{Span}
use Rattle.script_lines.specs.declared.statement.Statement.{Statement}
use Rattle.script_lines.specs.declared.verbs.Verb.{Verb}
use Rattle.script_lines.specs.declared.dialect.Dialect.{Dialect}
use Rattle.script_lines.specs.Fields.{and_then, changed, some_or}
use Rattle.script_lines.specs.Dialects.{said, word_of, verbs_of}
use Rattle.script_reader.specs.Grammar.{entry}
use Rattle.script_lines.specs.Known.{Known, Said}
use Rattle.script_lines.specs.Renamed.{read_of}
use Rattle.script_lines.specs.Words.{named}

some_named : (span : Span) (res : Result Said ScriptKind) → changed (option_map (read_of span)) (and_then res (λ s. Ok (Some s))) ≡ and_then (changed (read_of span) res) (λ r. Ok (Some r))
some_named span (Ok s) = refl
some_named span (Err kind) = refl

pub entry_says : (span : Span) (dialect : Dialect) (known : Known) (all : List (List ℕ)) (word : List ℕ) (fields : List (List ℕ)) (verb : Verb) (read : Result (Statement Span (List ℕ)) ScriptKind)
    → all ≡ word ∷ fields → some_or Word (named (word_of dialect) (verbs_of dialect) word) ≡ Ok verb → read ≡ changed (read_of span) (said dialect known verb fields)
    → and_then read (λ r. Ok (Some r)) ≡ changed (option_map (read_of span)) (entry dialect known all)
entry_says span dialect known all word fields verb read is e says =
    ap (λ (r : Result (Statement Span (List ℕ)) ScriptKind). and_then r (λ x. Ok (Some x))) says
    ∙ sym (some_named span (said dialect known verb fields))
    ∙ sym (ap (λ (v : Result Verb ScriptKind). changed (option_map (read_of span)) (and_then v (λ verb. and_then (said dialect known verb fields) (λ s. Ok (Some s))))) e)
    ∙ sym (ap (λ (fs : List (List ℕ)). changed (option_map (read_of span)) (entry dialect known fs)) is)
