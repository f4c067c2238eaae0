use Rattle.std.proofs.Common.{◌≡◌, length, List, ℕ, sym, ap, arith}
use Rattle.disksort.specs.Buckets.{bucket, chain}
use Rattle.disksort.specs.Runs.{seen}
use Rattle.disksort.proofs.Chains.{bucket-marked, bucket-none}
use Rattle.disksort.proofs.Walks.{bucket-linked, bucket-inside}
use Rattle.disksort.proofs.run.Run.nth_at.Goals as goal

pub returns-then-not-is_on-clause-missing : goal.returns-then-not-is_on-clause-missing
returns-then-not-is_on-clause-missing c =
    let none = bucket-none (length c.args.behind.now) (seen c.args.self.now) c.args.behind.now c.args.cylinder (sym c.if-not-is_on.ensures) in
    omega (arith, ap (λ (l : List ℕ). length l) none)

pub nth_in-requires-clause-linked : goal.nth_in-requires-clause-linked
nth_in-requires-clause-linked c =
    rw (c.first.ensures, c.last.ensures)
    (bucket-linked (length c.args.behind.now) (seen c.args.self.now) c.args.behind.now _ c.args.cylinder c.requires.run (sym c.if-not-is_on.ensures))

pub nth_in-requires-clause-inside : goal.nth_in-requires-clause-inside
nth_in-requires-clause-inside c =
    rw (c.first.ensures, c.last.ensures)
    (bucket-inside (length c.args.behind.now) (seen c.args.self.now) c.args.behind.now _ c.args.cylinder _ c.requires.cylinder (sym c.if-not-is_on.ensures) c.requires.inside)

pub returns-clause-number : goal.returns-clause-number
returns-clause-number c =
    let size = length c.args.behind.now in
    let walked : bucket size (seen c.args.self.now) c.args.behind.now c.args.cylinder ≡ chain c.args.behind.now size c.first.result c.last.result =
    rw (c.first.ensures, c.last.ensures) (bucket-marked size (seen c.args.self.now) c.args.behind.now c.args.cylinder (sym c.if-not-is_on.ensures)) in
    rw walked c.nth_in.ensures.number

pub returns-clause-missing : goal.returns-clause-missing
returns-clause-missing c =
    let size = length c.args.behind.now in
    let walked : bucket size (seen c.args.self.now) c.args.behind.now c.args.cylinder ≡ chain c.args.behind.now size c.first.result c.last.result =
    rw (c.first.ensures, c.last.ensures) (bucket-marked size (seen c.args.self.now) c.args.behind.now c.args.cylinder (sym c.if-not-is_on.ensures)) in
    rw walked c.nth_in.ensures.missing
