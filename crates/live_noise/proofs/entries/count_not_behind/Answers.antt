use Rattle.std.proofs.Common.{not, rules}
use Rattle.std.proofs.lemmas.List.Sorted.{IsPartitionPoint-from_clause}
use Rattle.live_noise.specs.declared.entries.Entry.{Entry}
use Rattle.live_noise.specs.Book.{is_entry_behind}
use Rattle.live_noise.proofs.EntryLaws.{parted_behind}
use Rattle.live_noise.proofs.entries.count_not_behind.Goals as goal

pub returns-clause-point : goal.returns-clause-point
returns-clause-point c =
    IsPartitionPoint-from_clause (λ (e : Entry). not (is_entry_behind c.args.number e)) _ _ c.partition_point.ensures.partitioned
    (parted_behind _ c.args.number c.requires) (λ a r q k. search rules)
