use Rattle.std.proofs.Common.{◌≡◌, take, ap, ◌∙◌}
use Rattle.main_memory.specs.Frames.{free_frames, frames_needed}
use Rattle.main_memory.specs.Blocks.{Loan}
use Rattle.main_memory.proofs.LendLaws.{words_lent, words_apart, words_still_lent, is_memory, viewed}
use Rattle.main_memory.proofs.memory.MainMemory.lend.Goals as goal

pub returns-then-self-needed-clause-sound : goal.returns-then-self-needed-clause-sound
returns-then-self-needed-clause-sound c = viewed c.self.inside.bytes c.self.inside.free_words _ c.self.view_is c.self.invariant.size

pub returns-clause-lent : goal.returns-clause-lent
returns-clause-lent c =
    let frames : c.of.result.frames ≡ take (frames_needed c.args.count c.args.offset c.args.last) (free_frames c.self.inside.free_words) = ap (λ (l : Loan). l.frames) c.of.ensures.value ∙ c.take_frames-frames.ensures.taken in
    (c.of.ensures.shape, words_lent c.self.inside.bytes c.self.inside.free_words c.take_frames-frames.new.words (frames_needed c.args.count c.args.offset c.args.last) c.of.result c.self.invariant.size frames c.take_frames-frames.ensures.left)

pub returns-clause-apart : goal.returns-clause-apart
returns-clause-apart c = λ other lent.
    let frames : c.of.result.frames ≡ take (frames_needed c.args.count c.args.offset c.args.last) (free_frames c.self.inside.free_words) = ap (λ (l : Loan). l.frames) c.of.ensures.value ∙ c.take_frames-frames.ensures.taken in
    words_apart c.self.inside.bytes c.self.inside.free_words (frames_needed c.args.count c.args.offset c.args.last) _ c.of.result other c.self.view_is frames lent

pub returns-clause-others : goal.returns-clause-others
returns-clause-others c = λ other lent.
    words_still_lent c.self.inside.bytes c.self.inside.free_words c.take_frames-frames.new.words (frames_needed c.args.count c.args.offset c.args.last) _ other c.self.view_is c.take_frames-frames.ensures.left lent

pub returns-clause-sound : goal.returns-clause-sound
returns-clause-sound c = is_memory c.self.inside.bytes c.take_frames-frames.new.words c.self.invariant.size
