use Rattle.std.proofs.Common.{nat_lt, rules}
use Rattle.std.proofs.lemmas.List.Sorted.{IsPartitionPoint-from_clause, IsPartitionedBy-ltb}
use Rattle.live_noise.specs.declared.entries.Entry.{Entry}
use Rattle.live_noise.specs.Book.{number_of}
use Rattle.live_noise.proofs.entries.count_below.Goals as goal

pub returns-clause-point : goal.returns-clause-point
returns-clause-point c =
    IsPartitionPoint-from_clause (λ (e : Entry). nat_lt (number_of e) c.args.number) _ _ c.partition_point.ensures.partitioned
    (IsPartitionedBy-ltb number_of _ c.args.number c.requires.sorted) (λ a r q k. search rules)
