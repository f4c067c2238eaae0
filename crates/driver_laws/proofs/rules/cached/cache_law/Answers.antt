use Rattle.driver_laws.proofs.rules.Insertions.{gives_of, takes_of}
use Rattle.driver_laws.proofs.rules.Flushes.{flush_contents, flush_fit}
use Rattle.driver_laws.proofs.rules.Ones.{reads_one, writes_one, syncs_one}
use Rattle.driver_laws.proofs.rules.cached.cache_law.Goals as goal

pub returns-clause-reads : goal.returns-clause-reads
returns-clause-reads c map s unit block held refuses is fit found = gives_of map unit block s is fit held refuses found

pub returns-clause-writes : goal.returns-clause-writes
returns-clause-writes c map s unit block from held refuses done is fit found given = takes_of map unit block from s is fit held refuses done found given

pub returns-clause-syncs : goal.returns-clause-syncs
returns-clause-syncs c map s is fit = record {
  contents = flush_contents map s.entries is.apart fit;
  fit = flush_fit map _ s.entries is.apart (flush_contents map s.entries is.apart fit);
}

pub returns-clause-read_leaves : goal.returns-clause-read_leaves
returns-clause-read_leaves c map s unit block held refuses is = reads_one map s unit block is held refuses

pub returns-clause-write_leaves : goal.returns-clause-write_leaves
returns-clause-write_leaves c map s unit block from held refuses is = writes_one map s unit block is from held refuses

pub returns-clause-sync_leaves : goal.returns-clause-sync_leaves
returns-clause-sync_leaves c map s unit block is = syncs_one map s unit block is
