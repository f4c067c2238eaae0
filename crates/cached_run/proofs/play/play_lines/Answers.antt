use Rattle.std.proofs.Common.{◌≡◌, ◌<◌, ◌≤◌, ◌+◌, ℕ, List, [], ◌∷◌, ◌++◌, length, map, drop, suc, refl, sym, ap, ◌∙◌, subst}
use Rattle.std.specs.Prelude.{Ok, slice_index_or}
use Rattle.trace_replay.specs.Script.{Drain, Numbered, inputs_before, inputs_of}
use Rattle.script_reader.specs.declared.cached.statement.Line.{Line as Said}
use Rattle.cached_run.specs.Going.{IsFar, syncs_at}
use Rattle.cached_run.specs.Lines.{inputs_till}
use Rattle.cached_run.specs.Places.{Place, scene_at}
use Rattle.script_reader.specs.cached.Meaning.{line_of, meaning_of}
use Rattle.cached_run.proofs.Playing.{passes_more, passes_none, script_cut, script_ends}
use Rattle.script_runs.proofs.CachedLines.{blank, item_is, number_is}
use Rattle.cached_run.proofs.ScriptLines.{may_play, inputs_next, inputs_split, inputs_all}
use Rattle.cached_run.proofs.Starts.{far_none}
use Rattle.cached_run.proofs.play.play_lines.Goals as goal

pub loop-line-init : goal.loop-line-init
loop-line-init g c =
    let first : Place = g.S.Scene.at c.args.scene.now in
    record {
      passes = passes_none first;
      may = c.requires.may;
      units = λ u up. up;
      desk = c.requires.desk;
      far = λ t tables. far_none first.cache (scene_at first) c.requires.empty tables;
      loans = refl;
    }

pub play_line-requires-clause-line : goal.play_line-requires-clause-line
play_line-requires-clause-line g c =
    let s = c.args.script.now in
    let i = c.loop-line.line-index in
    let line : Said = slice_index_or c.lines-line-items.result.now i blank in
    let lt : i < length s.lines = subst (λ (xs : List Said). i < length xs) c.lines-line-items.ensures c.loop-line-test.true in
    let is : line ≡ slice_index_or s.lines i line = item_is c.lines-line-items.result.now s.lines i c.lines-line-items.ensures c.loop-line-test.true in
    number_is s i line c.law.ensures lt is

pub play_line-requires-clause-ask : goal.play_line-requires-clause-ask
play_line-requires-clause-ask g c =
    let s = c.args.script.now in
    let i = c.loop-line.line-index in
    let line : Said = slice_index_or c.lines-line-items.result.now i blank in
    let lt : i < length s.lines = subst (λ (xs : List Said). i < length xs) c.lines-line-items.ensures c.loop-line-test.true in
    let is : line ≡ slice_index_or s.lines i line = item_is c.lines-line-items.result.now s.lines i c.lines-line-items.ensures c.loop-line-test.true in
    may_play s i line c.law.ensures lt is (g.S.Scene.at c.args.scene.now).spot.driver.world (g.S.Scene.at c.loop-line.scene).spot.driver.world c.requires.units c.loop-line.invariant.units

pub loop-line-preserved : goal.loop-line-preserved
loop-line-preserved g c =
    let first : Place = g.S.Scene.at c.args.scene.now in
    let new : Place = g.S.Scene.at c.play_line.new.scene in
    let s = c.args.script.now in
    let i = c.loop-line.line-index in
    let line : Said = slice_index_or c.lines-line-items.result.now i blank in
    let lt : i < length s.lines = subst (λ (xs : List Said). i < length xs) c.lines-line-items.ensures c.loop-line-test.true in
    let is : line ≡ slice_index_or s.lines i line = item_is c.lines-line-items.result.now s.lines i c.lines-line-items.ensures c.loop-line-test.true in
    let so = c.loop-line.invariant in
    let step = c.in_ok-play_line.ensures.plays in
    record {
      passes = passes_more (Ok tt) so.passes step.passes;
      may = step.may;
      units = λ u up. step.units u (so.units u up);
      desk = c.in_ok-play_line.ensures.desk;
      far = λ t tables. subst (λ (z : List Numbered). IsFar (scene_at first) first.cache z new.cache (scene_at new)) (sym (inputs_next s i line c.law.ensures lt is))
          (step.goes t (scene_at first) first.cache (inputs_till s i) (so.far (step.passes.told.never_again t) tables));
      loans = c.in_ok-play_line.ensures.loans ∙ so.loans;
    }

pub returns-in_err-play_line-clause-plays : goal.returns-in_err-play_line-clause-plays
returns-in_err-play_line-clause-plays g c =
    let s = c.args.script.now in
    let i = c.loop-line.line-index in
    let line : Said = slice_index_or c.lines-line-items.result.now i blank in
    let lt : i < length s.lines = subst (λ (xs : List Said). i < length xs) c.lines-line-items.ensures c.loop-line-test.true in
    let is : line ≡ slice_index_or s.lines i line = item_is c.lines-line-items.result.now s.lines i c.lines-line-items.ensures c.loop-line-test.true in
    script_cut (inputs_before (record { line = s.count + 1; input = Drain } ∷ []) (map line_of (drop (suc i) s.lines))) (inputs_split s i line c.law.ensures lt is) c.loop-line.invariant.far c.loop-line.invariant.passes c.from_residual.result _ c.from_residual.ensures.1 c.in_err-play_line.ensures.plays

pub returns-in_err-play_line-clause-loans : goal.returns-in_err-play_line-clause-loans
returns-in_err-play_line-clause-loans g c = c.in_err-play_line.ensures.loans ∙ c.loop-line.invariant.loans

pub returns-clause-plays : goal.returns-clause-plays
returns-clause-plays g c =
    let s = c.args.script.now in
    let i = c.loop-line.line-index in
    let all : length s.lines ≤ i = subst (λ (xs : List Said). length xs ≤ i) c.lines-line-items.ensures c.loop-line-test.false in
    let number : ℕ = c.from-number.result + 1 in
    let same : number ≡ s.count + 1 = ap (λ n. n + 1) (c.from-number.ensures ∙ c.count.ensures) in
    let split : inputs_of (meaning_of s) ≡ inputs_till s i ++ (syncs_at number ++ []) = inputs_all s i all ∙ ap (λ n. inputs_till s i ++ syncs_at n) (sym same) in
    script_ends [] split c.loop-line.invariant.far c.loop-line.invariant.passes c.play_sync.result refl c.play_sync.ensures.plays

pub returns-clause-loans : goal.returns-clause-loans
returns-clause-loans g c = c.play_sync.ensures.loans ∙ c.loop-line.invariant.loans
