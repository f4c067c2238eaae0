use Rattle.std.proofs.Common.{◌≡◌, ◌<◌, ℕ, ◌+◌, List, length, get_or, subst, arith, ◌∙◌, ap}
use Rattle.script_reader.specs.Stored.{Kept, lines_in}
use Rattle.script_lines.specs.Words.{all_verbs}
use Rattle.script_reader.specs.Meaning.{meaning_of}
use Rattle.event_player.proofs.Played.{played_none, may_next, played_next, line_stopped, drain_stopped, sending_stopped, script_played, played_past}
use Rattle.event_player.proofs.Whole.{next_data}
use Rattle.event_player.proofs.play.play_lines.Goals as goal

pub loop-line-init : goal.loop-line-init
loop-line-init g c = played_none (meaning_of c.args.script.now) _ (c.meaning_law.ensures.read c.args.script.now.text c.args.script.now c.requires.good) c.requires.starts

pub play_line-requires-clause-may : goal.play_line-requires-clause-may
play_line-requires-clause-may g c =
    let s = c.args.script.now in
    let i = c.loop-line.line-index in
    let item = c.line-item.result in
    let is : item ≡ get_or s.lines i item = subst (λ (xs : List Kept). item ≡ get_or xs i item) c.lines-line-items.ensures c.line-item.is in
    let lt : i < length s.lines = subst (λ (xs : List Kept). i < length xs) c.lines-line-items.ensures c.loop-line-test.true in
    may_next s i item is lt c.loop-line.invariant (c.meaning_law.ensures.read s.text s c.requires.good) (omega (arith, c.count.ensures)) c.requires.starts

pub play_line-requires-clause-data : goal.play_line-requires-clause-data
play_line-requires-clause-data g c =
    let s = c.args.script.now in
    let i = c.loop-line.line-index in
    let item = c.line-item.result in
    let is : item ≡ get_or s.lines i item = subst (λ (xs : List Kept). item ≡ get_or xs i item) c.lines-line-items.ensures c.line-item.is in
    let lt : i < length s.lines = subst (λ (xs : List Kept). i < length xs) c.lines-line-items.ensures c.loop-line-test.true in
    next_data s i item is lt (c.read_back_law.ensures.well all_verbs s.text (lines_in s) s.count c.requires.good)

pub loop-line-preserved : goal.loop-line-preserved
loop-line-preserved g c =
    let s = c.args.script.now in
    let i = c.loop-line.line-index in
    let item = c.line-item.result in
    let is : item ≡ get_or s.lines i item = subst (λ (xs : List Kept). item ≡ get_or xs i item) c.lines-line-items.ensures c.line-item.is in
    let lt : i < length s.lines = subst (λ (xs : List Kept). i < length xs) c.lines-line-items.ensures c.loop-line-test.true in
    played_next s i item is lt c.loop-line.invariant c.in_ok-play_line.ensures

pub returns-in_err-play_line-clause-turns : goal.returns-in_err-play_line-clause-turns
returns-in_err-play_line-clause-turns g c =
    let s = c.args.script.now in
    let i = c.loop-line.line-index in
    let item = c.line-item.result in
    let is : item ≡ get_or s.lines i item = subst (λ (xs : List Kept). item ≡ get_or xs i item) c.lines-line-items.ensures c.line-item.is in
    let lt : i < length s.lines = subst (λ (xs : List Kept). i < length xs) c.lines-line-items.ensures c.loop-line-test.true in
    line_stopped s i item is lt c.loop-line.invariant c.from_residual.result c.in_err-play_line.field-0.0 c.from_residual.ensures.1 c.in_err-play_line.ensures

pub drain-requires : goal.drain-requires
drain-requires g c =
    let so = c.loop-line.invariant in
    record { ready = record { going = so.going; none_waits = so.ready.none_waits }; few = so.ready.slots }

pub returns-in_err-drain-clause-turns : goal.returns-in_err-drain-clause-turns
returns-in_err-drain-clause-turns g c =
    drain_stopped (meaning_of c.args.script.now) _ _ (played_past c.args.script.now _ c.lines-line-items.ensures c.loop-line-test.false) (ap (λ (n : ℕ). n + 1) (c.from-number.ensures ∙ c.count.ensures))
    c.loop-line.invariant c.from_residual-in_err-drain.result c.in_err-drain.field-0.0 c.from_residual-in_err-drain.ensures.1 c.in_err-drain.ensures

pub returns-in_err-send-clause-turns : goal.returns-in_err-send-clause-turns
returns-in_err-send-clause-turns g c =
    sending_stopped (meaning_of c.args.script.now) _ _ (played_past c.args.script.now _ c.lines-line-items.ensures c.loop-line-test.false) (ap (λ (n : ℕ). n + 1) (c.from-number.ensures ∙ c.count.ensures))
    c.loop-line.invariant c.in_ok-drain.ensures c.from_residual-in_err-send.result c.from_residual-in_err-send.ensures.1 c.in_err-send.ensures

pub returns-clause-turns : goal.returns-clause-turns
returns-clause-turns g c =
    script_played (meaning_of c.args.script.now) _ _ (played_past c.args.script.now _ c.lines-line-items.ensures c.loop-line-test.false) (ap (λ (n : ℕ). n + 1) (c.from-number.ensures ∙ c.count.ensures))
    c.loop-line.invariant c.in_ok-drain.ensures _ c.in_ok-send.ensures
