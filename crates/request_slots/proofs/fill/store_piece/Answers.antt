use Rattle.std.proofs.Common.{ap, ◌∙◌, subst, arith}
use Rattle.main_memory.specs.Bytes.{front}
use Rattle.main_memory.specs.Blocks.{size_at}
use Rattle.request_slots.specs.Lending.{Stores}
use Rattle.request_slots.proofs.FillLaws.{front-piece, front-whole}
use Rattle.request_slots.proofs.fill.store_piece.Goals as goal

pub returns-in-Some : goal.returns-in-Some
returns-in-Some c =
    subst (Stores c.args.memory.now c.store.new.self c.args.buffer.now c.args.k)
    (front-whole c.args.buffer.now c.args.k c.args.bytes.now c.in-Some.block.now c.requires.inside c.requires.shape c.requires.whole c.in-Some.ensures.cases.same)
    (record {
      memory = c.store.ensures.memory;
      held = c.store.ensures.held;
      others = c.store.ensures.others;
      lent = c.store.ensures.lent;
      sound = c.store.ensures.sound;
    })

pub returns-in-None : goal.returns-in-None
returns-in-None c =
    subst (Stores c.args.memory.now c.store-in-None.new.self c.args.buffer.now c.args.k)
    (ap (front (size_at c.args.buffer.now c.args.k)) c.block_at-block.ensures
    ∙ front-piece c.args.buffer.now c.args.k c.args.bytes.now c.requires.inside c.requires.shape c.requires.whole)
    (record {
      memory = c.store-in-None.ensures.memory;
      held = c.store-in-None.ensures.held;
      others = c.store-in-None.ensures.others;
      lent = c.store-in-None.ensures.lent;
      sound = c.store-in-None.ensures.sound;
    })

pub store-requires-clause-lent : goal.store-requires-clause-lent
store-requires-clause-lent c = c.requires.lent

pub store-requires-clause-inside : goal.store-requires-clause-inside
store-requires-clause-inside c = c.requires.inside

pub store-requires-in-None-clause-lent : goal.store-requires-in-None-clause-lent
store-requires-in-None-clause-lent c = c.requires.lent

pub store-requires-in-None-clause-inside : goal.store-requires-in-None-clause-inside
store-requires-in-None-clause-inside c = c.requires.inside

pub block_at-block-requires : goal.block_at-block-requires
block_at-block-requires c = omega (arith, c.requires.inside, c.requires.whole)
