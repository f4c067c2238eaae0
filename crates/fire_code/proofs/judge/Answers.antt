-- A remainder has one verdict.
use Rattle.std.proofs.Common.{subst}
use Rattle.fire_code.specs.Verdict.{Judges}
use Rattle.fire_code.specs.Word.{word_remainder}
use Rattle.fire_code.proofs.Laws.{clean_exactly, burst_exactly, uncorrectable_exactly, repaired}
use Rattle.fire_code.proofs.judge.Goals as goal

verdict : (c : goal.After-verdict_of) → Judges c.verdict_of.result (word_remainder c.args.bytes.now c.args.check.0)
verdict c = subst (Judges c.verdict_of.result) c.syndrome.ensures c.verdict_of.ensures

pub returns-clause-clean : goal.returns-clause-clean
returns-clause-clean c = clean_exactly c.verdict_of.result (word_remainder c.args.bytes.now c.args.check.0) (verdict c)

pub returns-clause-burst : goal.returns-clause-burst
returns-clause-burst c at pattern = burst_exactly c.verdict_of.result (word_remainder c.args.bytes.now c.args.check.0) at pattern (verdict c)

pub returns-clause-uncorrectable : goal.returns-clause-uncorrectable
returns-clause-uncorrectable c = uncorrectable_exactly c.verdict_of.result (word_remainder c.args.bytes.now c.args.check.0) (verdict c)

pub returns-clause-named : goal.returns-clause-named
returns-clause-named c places old check right burst flips = repaired c.verdict_of.result places old check c.args.bytes.now c.args.check.0 (verdict c) right burst flips
