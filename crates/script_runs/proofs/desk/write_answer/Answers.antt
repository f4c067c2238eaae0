use Rattle.std.proofs.Common.{◌≡◌, [], ◌++◌, refl, ap, subst, ◌∙◌, append-nil}
use Rattle.outside_traits.specs.Puts.{Puts}
use Rattle.outside_traits.specs.Gathers.{Gathers}
use Rattle.outside_traits.proofs.GatherLaws.{gathers_join, gathers_whole}
use Rattle.trace_replay.specs.requests.Answers.{answer_of}
use Rattle.trace_lines.specs.answers.AnswerText.{answer_line}
use Rattle.trace_lines.specs.answers.Blocks.{joined}
use Rattle.script_runs.specs.Saying.{blocks_with, rest_text}
use Rattle.script_runs.proofs.Gatherings.{puts_err}
use Rattle.script_runs.proofs.desk.write_answer.Goals as goal

pub returns-in_err-put-clause-puts : goal.returns-in_err-put-clause-puts
returns-in_err-put-clause-puts g c =
    let blocks = c.args.desk.now.blocks.items in
    let first = answer_line c.args.line c.args.id (answer_of (joined (blocks_with c.args.kind blocks)) c.args.kind) in
    let is : c.as_bytes.result.now ≡ first = c.as_bytes.ensures.text ∙ c.answer_line-text.ensures (joined (blocks_with c.args.kind blocks)) in
    subst (λ z. Puts g.O.Sink.tells g.O.Sink.taken g.O.Sink.faults c.args.out.now c.put.new.sink c.from_residual.result (z ++ rest_text c.args.kind blocks)) is
    (puts_err g.O.Sink.tells g.O.Sink.taken g.O.Sink.faults c.args.out.now c.put.new.sink c.args.desk.now.gather c.put.new.self _ c.from_residual.result c.as_bytes.result.now (rest_text c.args.kind blocks)
    c.requires.kept refl c.from_residual.ensures.0 c.in_err-put.ensures)

pub returns-in_err-gather_rest-clause-puts : goal.returns-in_err-gather_rest-clause-puts
returns-in_err-gather_rest-clause-puts g c =
    let blocks = c.args.desk.now.blocks.items in
    let first = answer_line c.args.line c.args.id (answer_of (joined (blocks_with c.args.kind blocks)) c.args.kind) in
    let is : c.as_bytes.result.now ≡ first = c.as_bytes.ensures.text ∙ c.answer_line-text.ensures (joined (blocks_with c.args.kind blocks)) in
    subst (λ z. Puts g.O.Sink.tells g.O.Sink.taken g.O.Sink.faults c.args.out.now c.gather_rest.new.out c.from_residual-in_err-gather_rest.result z)
    (append-nil (c.as_bytes.result.now ++ rest_text c.args.kind blocks) ∙ ap (λ z. z ++ rest_text c.args.kind blocks) is)
    (puts_err g.O.Sink.tells g.O.Sink.taken g.O.Sink.faults c.args.out.now c.gather_rest.new.out c.args.desk.now.gather c.gather_rest.new.desk.gather _ c.from_residual-in_err-gather_rest.result
    (c.as_bytes.result.now ++ rest_text c.args.kind blocks) [] c.requires.kept refl c.from_residual-in_err-gather_rest.ensures.0
    (gathers_join g.O.Sink.tells g.O.Sink.taken g.O.Sink.faults c.args.out.now c.put.new.sink c.gather_rest.new.out c.args.desk.now.gather c.put.new.self c.gather_rest.new.desk.gather _ _
    c.as_bytes.result.now (rest_text c.args.kind blocks) refl c.in_ok-put.ensures c.in_err-gather_rest.ensures.gathers))

pub returns-clause-puts : goal.returns-clause-puts
returns-clause-puts g c =
    let blocks = c.args.desk.now.blocks.items in
    let first = answer_line c.args.line c.args.id (answer_of (joined (blocks_with c.args.kind blocks)) c.args.kind) in
    let is : c.as_bytes.result.now ≡ first = c.as_bytes.ensures.text ∙ c.answer_line-text.ensures (joined (blocks_with c.args.kind blocks)) in
    subst (λ z. Puts g.O.Sink.tells g.O.Sink.taken g.O.Sink.faults c.args.out.now c.flush.new.sink c.flush.result z)
    (append-nil (c.as_bytes.result.now ++ rest_text c.args.kind blocks) ∙ ap (λ z. z ++ rest_text c.args.kind blocks) is)
    (gathers_whole g.O.Sink.tells g.O.Sink.taken g.O.Sink.faults c.args.out.now c.flush.new.sink c.flush.result ((c.as_bytes.result.now ++ rest_text c.args.kind blocks) ++ [])
    (subst (λ z. Gathers g.O.Sink.tells g.O.Sink.taken g.O.Sink.faults c.args.out.now c.flush.new.sink [] z c.flush.result ((c.as_bytes.result.now ++ rest_text c.args.kind blocks) ++ [])) c.flush.ensures.empty
    (subst (λ z. Gathers g.O.Sink.tells g.O.Sink.taken g.O.Sink.faults c.args.out.now c.flush.new.sink z c.flush.new.self c.flush.result ((c.as_bytes.result.now ++ rest_text c.args.kind blocks) ++ [])) c.requires.kept
    (gathers_join g.O.Sink.tells g.O.Sink.taken g.O.Sink.faults c.args.out.now c.gather_rest.new.out c.flush.new.sink c.args.desk.now.gather c.gather_rest.new.desk.gather c.flush.new.self _ c.flush.result
    (c.as_bytes.result.now ++ rest_text c.args.kind blocks) [] refl
    (gathers_join g.O.Sink.tells g.O.Sink.taken g.O.Sink.faults c.args.out.now c.put.new.sink c.gather_rest.new.out c.args.desk.now.gather c.put.new.self c.gather_rest.new.desk.gather _ _
    c.as_bytes.result.now (rest_text c.args.kind blocks) refl c.in_ok-put.ensures c.in_ok-gather_rest.ensures.gathers)
    c.flush.ensures.gathers))))
