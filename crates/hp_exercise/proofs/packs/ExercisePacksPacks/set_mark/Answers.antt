use Rattle.std.proofs.Common.{rules, arith}
use Rattle.hp_exercise.proofs.MarkLaws.{has_room_marked, inside_room}
use Rattle.hp_exercise.proofs.packs.ExercisePacksPacks.set_mark.Goals as goal

pub invariant_of-self-2 : goal.invariant_of-self-2
invariant_of-self-2 c = (
  has_room_marked c.self.inside.packs c.set_mark.new.self c.args.unit c.args.block c.args.on c.self.invariant.0
      (c.set_mark.ensures.inside (inside_room c.self.inside.packs c.args.unit c.args.block c.self.invariant.0 (search rules) (omega (arith, c.room.ensures, c.if-block-room.false)))),
  c.self.invariant.1,
)
