use Rattle.std.proofs.Common.{[], arith, refl, sym, ap, subst, ◌∙◌, ◌<◌, length, slice_index_or}
use Rattle.std.specs.Prelude.{Ok}
use Rattle.std.proofs.lemmas.List.{take_all}
use Rattle.hp_driver.specs.Subsystem.{State}
use Rattle.trace_lines.specs.answers.AnswerText.{block_text, block_texts}
use Rattle.event_player.specs.Answering.{HasBlock, first_blocks}
use Rattle.event_player.proofs.AnswerLaws.{has_block, read_is, rest_is, blocks_more, blocks_stop}
use Rattle.event_player.proofs.SaysLaws.{text_nothing, text_same}
use Rattle.event_player.proofs.answers.say_blocks.Goals as goal

pub say_block-requires : goal.say_block-requires
say_block-requires g c = record {
  block = subst (λ (s : State). HasBlock s.world c.loop-k.k c.block_size.result) (sym c.loop-k.invariant.driver)
      (has_block c.loop-k.k c.block_size.result c.law.ensures.sound c.requires.reads (omega arith) c.block_size.ensures);
}

pub loop-k-init : goal.loop-k-init
loop-k-init g c = record { says = text_nothing (g.V.Venue.at c.args.venue.now); driver = refl }

pub loop-k-preserved : goal.loop-k-preserved
loop-k-preserved g c =
    let w = (g.V.Venue.at c.args.venue.now).driver.world in
    let blocks = first_blocks w w.answers in
    let read = read_is c.law.ensures.sound c.requires.reads in
    let size = read.size in
    let lt : c.loop-k.k < length blocks = omega (arith, size) in
    let said = c.in_ok-say_block.ensures in
    record {
      says = blocks_more blocks c.loop-k.k (Ok tt) lt c.loop-k.invariant.says
          (text_same (block_text c.loop-k.k (slice_index_or blocks c.loop-k.k [])) said.says
          (ap (λ (s : State). block_text c.loop-k.k (slice_index_or (first_blocks s.world s.world.answers) c.loop-k.k [])) c.loop-k.invariant.driver));
      driver = said.driver ∙ c.loop-k.invariant.driver;
    }

pub returns-in_err-say_block : goal.returns-in_err-say_block
returns-in_err-say_block g c =
    let w = (g.V.Venue.at c.args.venue.now).driver.world in
    let blocks = first_blocks w w.answers in
    let read = read_is c.law.ensures.sound c.requires.reads in
    let size = read.size in
    let lt : c.loop-k.k < length blocks = omega (arith, size) in
    let said = c.in_err-say_block.ensures in
    record {
      says = text_same _
          (blocks_stop blocks c.loop-k.k c.from_residual.result lt c.from_residual.ensures.0 c.loop-k.invariant.says
          (text_same (block_text c.loop-k.k (slice_index_or blocks c.loop-k.k [])) said.says
          (ap (λ (s : State). block_text c.loop-k.k (slice_index_or (first_blocks s.world s.world.answers) c.loop-k.k [])) c.loop-k.invariant.driver)))
          (sym (rest_is c.law.ensures.sound c.requires.reads));
      driver = said.driver ∙ c.loop-k.invariant.driver;
    }

pub returns-clause-says : goal.returns-clause-says
returns-clause-says g c =
    let w = (g.V.Venue.at c.args.venue.now).driver.world in
    let blocks = first_blocks w w.answers in
    let read = read_is c.law.ensures.sound c.requires.reads in
    let size = read.size in
    text_same _ c.loop-k.invariant.says (ap (block_texts 0) (take_all c.loop-k.k blocks (omega (arith, size))) ∙ sym (rest_is c.law.ensures.sound c.requires.reads))
