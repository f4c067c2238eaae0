use Rattle.std.proofs.Common.{◌≡◌, ◌<◌, ◌+◌, length, arith, refl, subst, slice_index_or, List}
use Rattle.script_reader.specs.Stored.{Kept}
use Rattle.event_player.specs.Playing.{one_request}
use Rattle.event_player.proofs.CountLaws.{counted_more, requests_few}
use Rattle.event_player.proofs.counting.count_requests.Goals as goal

pub overflow_add-count : goal.overflow_add-count
overflow_add-count c =
    let s = c.args.script.now in
    let i = c.loop-line.line-index in
    let line = c.line-item.result in
    let lt : i < length s.lines = subst (λ (xs : List Kept). i < length xs) c.lines-line-items.ensures c.loop-line-test.true in
    let is : line ≡ slice_index_or s.lines i line = subst (λ (xs : List Kept). line ≡ slice_index_or xs i line) c.lines-line-items.ensures c.line-item.is in
    let more = counted_more one_request s i c.loop-line.count c.requests_of-count.result line lt is c.loop-line.invariant (c.requests_of-count.ensures.count s.text) in
    let few = requests_few _ s (i + 1) refl (c.read_back_law.ensures.well _ _ _ _ c.requires.good) in
    omega (arith, more, few)

pub loop-line-preserved : goal.loop-line-preserved
loop-line-preserved c =
    let s = c.args.script.now in
    let i = c.loop-line.line-index in
    let line = c.line-item.result in
    let lt : i < length s.lines = subst (λ (xs : List Kept). i < length xs) c.lines-line-items.ensures c.loop-line-test.true in
    let is : line ≡ slice_index_or s.lines i line = subst (λ (xs : List Kept). line ≡ slice_index_or xs i line) c.lines-line-items.ensures c.line-item.is in
    counted_more one_request s i c.loop-line.count c.requests_of-count.result line lt is c.loop-line.invariant (c.requests_of-count.ensures.count s.text)

pub returns-clause-few : goal.returns-clause-few
returns-clause-few c =
    let all = c.loop-line.invariant in
    let few = requests_few _ c.args.script.now c.loop-line.line-index refl (c.read_back_law.ensures.well _ _ _ _ c.requires.good) in
    omega (arith, all, few)
