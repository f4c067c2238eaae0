use Rattle.std.proofs.Common.{◌≡◌, map, take}
use Rattle.run_view.specs.Saids.{said_of}
use Rattle.run_view.specs.Views.{played_text}
use Rattle.run_view.proofs.view.texts_of.Given as goal

abbrev pub invariant-loop-column : goal.invariant-loop-column
invariant-loop-column l =
    map (λ text. text.now) l.texts.items ≡ map (λ column. played_text (map said_of l.plays) column.head.line) (take l.column-index l.columns)
