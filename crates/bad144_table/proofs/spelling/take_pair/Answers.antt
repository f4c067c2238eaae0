use Rattle.std.proofs.Common.{◌≡◌, arith, length}
use Rattle.bad144_table.proofs.SpellingLemmas.{order_fault, range_fault, read_end, read_more}
use Rattle.bad144_table.proofs.spelling.take_pair.Goals as goal

pub returns-then-not-lies_on-clause-err : goal.returns-then-not-lies_on-clause-err
returns-then-not-lies_on-clause-err c =
    let found = c.in-Some.ensures.place in
    let long : length c.args.table.now.places ≡ c.args.i = omega (arith, c.entries.ensures.count, c.requires.read.sound.behind) in
    range_fault c.args.table.now.kind c.args.bytes.now c.args.table.now.places c.args.i c.requires.read long c.requires.small found.1
    (λ inside. let yes = (rw found.0 at c.lies_on.ensures).1 inside in cc)

pub returns-then-not-follows-clause-err : goal.returns-then-not-follows-clause-err
returns-then-not-follows-clause-err c =
    let found = c.in-Some.ensures.place in
    let long : length c.args.table.now.places ≡ c.args.i = omega (arith, c.entries.ensures.count, c.requires.read.sound.behind) in
    let low = rw c.if-not-follows.true at c.follows.ensures.below in
    order_fault c.args.table.now c.args.bytes.now c.args.i c.requires.read long c.requires.small found.1
    ((rw found.0 at c.lies_on.ensures).0 c.if-not-lies_on.false) (rw found.0 at low)

pub returns-clause-ok : goal.returns-clause-ok
returns-clause-ok c =
    let found = c.in-Some.ensures.place in
    let long : length c.args.table.now.places ≡ c.args.i = omega (arith, c.entries.ensures.count, c.requires.read.sound.behind) in
    let above = c.follows.ensures.above c.if-not-follows.false in
    rw (c.push.ensures, found.0)
    (read_more c.args.table.now.kind c.args.bytes.now c.args.table.now.places c.args.i c.requires.read long found.1
    ((rw found.0 at c.lies_on.ensures).0 c.if-not-lies_on.false) (rw found.0 at above))

pub follows-requires : goal.follows-requires
follows-requires c = c.lies_on.ensures.0 c.if-not-lies_on.false

pub push-requires : goal.push-requires
push-requires c = record {
  inside = c.lies_on.ensures.0 c.if-not-lies_on.false;
  room = omega (arith, c.requires.small, c.requires.read.sound.behind);
  above = c.follows.ensures.above c.if-not-follows.false;
}

pub returns-in_default-clause-ok : goal.returns-in_default-clause-ok
returns-in_default-clause-ok c = read_end c.args.table.now.kind c.args.bytes.now c.args.table.now.places c.args.i c.requires.read c.in_default.ensures.end

pub returns-then-entries-i-clause-err : goal.returns-then-entries-i-clause-err
returns-then-entries-i-clause-err c = (
  length c.args.table.now.places,
  omega (arith, c.entries.ensures.count, c.if-entries-i.true),
  record { sound = c.requires.read.sound; small = c.requires.small; place = c.in-Some.ensures.place.1 },
)
