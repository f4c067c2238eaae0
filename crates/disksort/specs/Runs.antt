-- A run as contracts see it.
use Rattle.disksort.specs.declared.run.Run.{Run}
use Rattle.disksort.specs.Buckets.{RunView, has_bit}

abbrev pub seen : Run → RunView
seen run = record { firsts = run.firsts.items; lasts = run.lasts.items; marked = has_bit run.words }
