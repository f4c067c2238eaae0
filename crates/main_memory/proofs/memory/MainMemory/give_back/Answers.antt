use Rattle.std.proofs.Common.{◌+◌, ℕ, List, length, ap, ◌∙◌, arith}
use Rattle.main_memory.specs.Frames.{free_frames}
use Rattle.main_memory.proofs.LendLaws.{words_back, words_lent_after, length-free_frames, is_memory}
use Rattle.main_memory.proofs.memory.MainMemory.give_back.Goals as goal

pub overflow_add-self : goal.overflow_add-self
overflow_add-self c =
    let counted = words_back c.self.inside.bytes c.self.inside.free_words c.give_frames.new.words c.frames_of-frames.result.now _ c.args.buffer c.self.view_is c.requires c.frames_of-frames.ensures.frames c.give_frames.ensures in
    omega (arith, counted, length-free_frames c.give_frames.new.words, c.self.invariant.counted)

pub invariant_of-self : goal.invariant_of-self
invariant_of-self c =
    let counted = words_back c.self.inside.bytes c.self.inside.free_words c.give_frames.new.words c.frames_of-frames.result.now _ c.args.buffer c.self.view_is c.requires c.frames_of-frames.ensures.frames c.give_frames.ensures in
    record { size = c.self.invariant.size; counted = omega (arith, counted, c.self.invariant.counted) }

pub returns-clause-count : goal.returns-clause-count
returns-clause-count c =
    let counted = words_back c.self.inside.bytes c.self.inside.free_words c.give_frames.new.words c.frames_of-frames.result.now _ c.args.buffer c.self.view_is c.requires c.frames_of-frames.ensures.frames c.give_frames.ensures in
    counted
    ∙ ap (λ (fs : List ℕ). length (free_frames c.self.inside.free_words) + length fs) c.frames_of-frames.ensures.frames
    ∙ ap (λ m. length m.free + length c.args.buffer.frames) c.self.view_is

pub returns-clause-others : goal.returns-clause-others
returns-clause-others c = λ other lent apart.
    words_lent_after c.self.inside.bytes c.self.inside.free_words c.give_frames.new.words c.frames_of-frames.result.now _ c.args.buffer other c.self.view_is c.frames_of-frames.ensures.frames c.give_frames.ensures lent apart

pub returns-clause-sound : goal.returns-clause-sound
returns-clause-sound c = is_memory c.self.inside.bytes c.give_frames.new.words c.self.invariant.size
