use Rattle.std.proofs.Common.{◌≡◌, ℕ, ◌+◌, ◌≤◌, List, length, Option, sym, ◌∙◌, subst, arith}
use Rattle.std.specs.Prelude.{Ok, Err, option_map}
use Rattle.pack_geometry.specs.Geometry.{limit_of}
use Rattle.trace_replay.specs.declared.requests.answers.Cause.TheVariants as cause
use Rattle.buffer_cache.specs.Passes.{kind_at}
use Rattle.script_reader.specs.cached.Meaning.{one_filled}
use Rattle.cached_run.specs.Saying.{kind_by, GivesAmong}
use Rattle.cached_run.specs.Places.{Answers, MovesAll, Place, asked_with, whole_by, world_at}
use Rattle.cached_run.proofs.Sayings.{error_among, eof_among}
use Rattle.cached_run.proofs.Askings.{answer_among, answer_cut, answer_done, answer_eof, answer_outside}
use Rattle.cached_run.proofs.requests.answer.Goals as goal

pub met-requires : goal.met-requires
met-requires g c = c.requires.may.ask

pub returns-in-Outside-clause-answers : goal.returns-in-Outside-clause-answers
returns-in-Outside-clause-answers g c =
    answer_outside c.args.line (asked_with c.args.asked.now c.args.fill) c.args.blocks.now.items (g.S.Scene.at c.args.scene.now) c.requires.may.may (sym c.met.ensures.met ∙ c.in-Outside.is)

pub returns-in-Outside-clause-among : goal.returns-in-Outside-clause-among
returns-in-Outside-clause-among g c = error_among cause.Partition 0 c.args.blocks.now.items

pub returns-in-Eof-clause-answers : goal.returns-in-Eof-clause-answers
returns-in-Eof-clause-answers g c =
    answer_eof c.args.line (asked_with c.args.asked.now c.args.fill) c.args.blocks.now.items (g.S.Scene.at c.args.scene.now) c.requires.may.may (sym c.met.ensures.met ∙ c.in-Eof.is)

pub returns-in-Eof-clause-among : goal.returns-in-Eof-clause-among
returns-in-Eof-clause-among g c = eof_among c.args.blocks.now.items

pub move_blocks-requires-clause-may : goal.move_blocks-requires-clause-may
move_blocks-requires-clause-may g c = record {
  line_is = c.requires.may.line_is;
  may = c.requires.may.may;
  blocks_are = record {
    unit_is = c.requires.may.ask.unit_is;
    inside = subst (λ n. c.in-Inside.first + n ≤ limit_of (kind_at (world_at (g.S.Scene.at c.args.scene.now)) c.args.asked.now.unit)) (sym c.from-count.ensures) (c.met.ensures.inside c.in-Inside.first c.in-Inside.is);
  };
}

pub move_blocks-requires-clause-room : goal.move_blocks-requires-clause-room
move_blocks-requires-clause-room g c =
    let few = c.requires.may.ask.few in
    let room = c.requires.room in
    let same = c.from-count.ensures in
    omega (arith, few, room, same)

pub returns-in_err-done-in-Inside-clause-answers : goal.returns-in_err-done-in-Inside-clause-answers
returns-in_err-done-in-Inside-clause-answers g c =
    let old : Place = g.S.Scene.at c.args.scene.now in
    let new : Place = g.S.Scene.at c.move_blocks.new.scene in
    answer_cut c.args.line c.args.asked.now c.in-Inside.first c.move_blocks.new.blocks.items old new (sym c.met.ensures.met ∙ c.in-Inside.is) (c.met.ensures.first c.in-Inside.first c.in-Inside.is)
    c.args.fill c.from_residual.result c.in_err-done-in-Inside.field-0.0 c.from_residual.ensures.1
    (subst (λ n. MovesAll c.args.line c.args.asked.now.unit c.in-Inside.first n (option_map one_filled c.args.fill) c.move_blocks.new.blocks.items (Err c.in_err-done-in-Inside.field-0.0) old new) c.from-count.ensures
    (subst (λ (w : Option (List ℕ)). MovesAll c.args.line c.args.asked.now.unit c.in-Inside.first c.from-count.result w c.move_blocks.new.blocks.items (Err c.in_err-done-in-Inside.field-0.0) old new) c.filled_block-written.ensures c.in_err-done-in-Inside.ensures.moves))

pub returns-in_err-done-in-Inside-clause-room : goal.returns-in_err-done-in-Inside-clause-room
returns-in_err-done-in-Inside-clause-room g c = c.in_err-done-in-Inside.ensures.room ∙ c.requires.room

pub returns-in_ok-done-in-Inside-clause-answers : goal.returns-in_ok-done-in-Inside-clause-answers
returns-in_ok-done-in-Inside-clause-answers g c =
    let old : Place = g.S.Scene.at c.args.scene.now in
    let new : Place = g.S.Scene.at c.move_blocks.new.scene in
    let few = c.requires.may.ask.few in
    let room = c.requires.room in
    let kept = c.in_ok-done-in-Inside.ensures.room in
    let enough : c.args.asked.now.count ≤ length c.move_blocks.new.blocks.items = omega (arith, few, room, kept) in
    subst (λ how. Answers c.args.line (asked_with c.args.asked.now c.args.fill) c.move_blocks.new.blocks.items (Ok how) old new) (sym (subst (λ n. c.answered.result ≡ kind_by c.in_ok-done-in-Inside.done n (whole_by c.args.fill n)) c.from-count.ensures c.answered.ensures))
    (answer_done c.args.line c.args.asked.now c.in-Inside.first c.move_blocks.new.blocks.items old new (sym c.met.ensures.met ∙ c.in-Inside.is) (c.met.ensures.first c.in-Inside.first c.in-Inside.is)
    c.args.fill c.in_ok-done-in-Inside.done enough
    (subst (λ n. MovesAll c.args.line c.args.asked.now.unit c.in-Inside.first n (option_map one_filled c.args.fill) c.move_blocks.new.blocks.items (Ok c.in_ok-done-in-Inside.done) old new) c.from-count.ensures
    (subst (λ (w : Option (List ℕ)). MovesAll c.args.line c.args.asked.now.unit c.in-Inside.first c.from-count.result w c.move_blocks.new.blocks.items (Ok c.in_ok-done-in-Inside.done) old new) c.filled_block-written.ensures c.in_ok-done-in-Inside.ensures.moves)))

pub returns-in_ok-done-in-Inside-clause-among : goal.returns-in_ok-done-in-Inside-clause-among
returns-in_ok-done-in-Inside-clause-among g c =
    let few = c.requires.may.ask.few in
    let room = c.requires.room in
    let kept = c.in_ok-done-in-Inside.ensures.room in
    let same = c.from-count.ensures in
    let enough : c.from-count.result ≤ length c.move_blocks.new.blocks.items = omega (arith, few, room, kept, same) in
    subst (λ how. GivesAmong how c.move_blocks.new.blocks.items) (sym c.answered.ensures) (answer_among c.args.fill c.in_ok-done-in-Inside.done c.from-count.result c.move_blocks.new.blocks.items enough)

pub returns-in_ok-done-in-Inside-clause-room : goal.returns-in_ok-done-in-Inside-clause-room
returns-in_ok-done-in-Inside-clause-room g c = c.in_ok-done-in-Inside.ensures.room ∙ c.requires.room
