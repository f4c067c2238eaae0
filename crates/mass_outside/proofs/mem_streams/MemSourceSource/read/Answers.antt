use Rattle.std.proofs.Common.{ℕ, List, length, ap, ◌∙◌}
use Rattle.std.specs.Prelude.{◌==◌}
use Rattle.std.specs.List.{list_any}
use Rattle.mass_outside.proofs.SourceLaws.{left_split, count_left, none_left}
use Rattle.mass_outside.proofs.mem_streams.MemSourceSource.read.Goals as goal

pub returns-clause-bytes : goal.returns-clause-bytes
returns-clause-bytes c =
    left_split c.deref-2.result.now c.args.self.now.bytes.items c.copy_front-count.new.into c.args.self.now.at c.copy_front-count.result c.deref-2.ensures.value c.copy_front-count.ensures.front

pub returns-clause-full : goal.returns-clause-full
returns-clause-full c =
    count_left c.deref-2.result.now c.args.self.now.bytes.items c.args.self.now.at c.copy_front-count.result (length c.args.into.now) c.deref-2.ensures.value c.copy_front-count.ensures.count

pub returns-clause-end : goal.returns-clause-end
returns-clause-end c = λ none room.
    none_left c.args.self.now.bytes.items c.args.self.now.at c.copy_front-count.result (length c.args.into.now) (returns-clause-full c) none room

pub returns-then-contains-clause-exact : goal.returns-then-contains-clause-exact
returns-then-contains-clause-exact c = c.if-contains.ensures.value ∙ ap (λ (calls : List ℕ). list_any (λ n. n == c.saturating_add-self.result) calls) c.deref.ensures.value

pub returns-clause-exact : goal.returns-clause-exact
returns-clause-exact c = c.if-contains.ensures.value ∙ ap (λ (calls : List ℕ). list_any (λ n. n == c.saturating_add-self.result) calls) c.deref.ensures.value
