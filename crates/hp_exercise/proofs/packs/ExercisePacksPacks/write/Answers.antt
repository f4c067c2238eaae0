use Rattle.std.proofs.Common.{rules, arith}
use Rattle.hp_exercise.proofs.MarkLaws.{has_room_written, held_written, inside_room}
use Rattle.hp_exercise.proofs.packs.ExercisePacksPacks.write.Goals as goal

pub invariant_of-self-2 : goal.invariant_of-self-2
invariant_of-self-2 c = (
  has_room_written c.self.inside.packs c.write.new.self c.args.unit c.args.block c.args.from.now c.self.invariant.0
      (c.write.ensures.inside (inside_room c.self.inside.packs c.args.unit c.args.block c.self.invariant.0 (search rules) (omega (arith, c.room.ensures, c.if-block-room.false)))),
  c.self.invariant.1,
)

pub returns-clause-ok : goal.returns-clause-ok
returns-clause-ok c =
    held_written c.write.result c.self.inside.packs c.write.new.self c.self.inside.outside c.self.inside.failed_at c.args.self.now c.args.unit c.args.block c.args.from.now c.self.view_is (search rules)
    (has_room_written c.self.inside.packs c.write.new.self c.args.unit c.args.block c.args.from.now c.self.invariant.0
    (c.write.ensures.inside (inside_room c.self.inside.packs c.args.unit c.args.block c.self.invariant.0 (search rules) (omega (arith, c.room.ensures, c.if-block-room.false)))))
    c.write.ensures.ok
