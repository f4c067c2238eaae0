use Rattle.std.proofs.Common.{List, ℕ, ◌≡◌, ◌++◌, ◌≤◌, length, take, drop, subst, ap, sym, ◌∙◌, inr, arith, rules}
use Rattle.std.proofs.Math.Nat.{le_trans}
use Rattle.outside_traits.proofs.TakenLaws.{taken_bound, taken_at_end, told_at_end, taken_with, told_more, came_inside, all_inside}
use Rattle.outside_traits.proofs.whole.read_all.Goals as goal

pub returns-in_err-count-clause-taken : goal.returns-in_err-count-clause-taken
returns-in_err-count-clause-taken g c = λ t.
    let told = c.loop-piece.invariant.told (c.in_err-count.ensures.never_again t) in
    let same = c.in_err-count.ensures.err t in
    taken_bound _ c.loop-piece.bytes.items _ c.args.limit (told ∙ ap (λ (xs : List ℕ). c.loop-piece.bytes.items ++ xs) (sym same)) c.loop-piece.invariant.bound

pub returns-in_err-count-clause-never_again : goal.returns-in_err-count-clause-never_again
returns-in_err-count-clause-never_again g c = λ t. c.loop-piece.invariant.never_again (c.in_err-count.ensures.never_again t)

pub returns-in_err-count-clause-later : goal.returns-in_err-count-clause-later
returns-in_err-count-clause-later g c = le_trans c.loop-piece.invariant.later c.in_err-count.ensures.cause.later

pub returns-then-count-eq0 : goal.returns-then-count-eq0
returns-then-count-eq0 g c =
    record {
      never_again = λ t. c.loop-piece.invariant.never_again (c.in_ok-count.ensures.never_again t);
      bytes = λ t. told_at_end _ _ _ c.read.new.into _ c.in_ok-count.count (c.loop-piece.invariant.told (c.in_ok-count.ensures.never_again t)) (c.in_ok-count.ensures.bytes t) c.if-count-eq0.true;
      end = search rules;
      bound = c.loop-piece.invariant.bound;
      taken = λ t. taken_at_end _ _ _ c.read.new.into _ c.in_ok-count.count c.args.limit (c.loop-piece.invariant.told (c.in_ok-count.ensures.never_again t)) (c.in_ok-count.ensures.bytes t) c.if-count-eq0.true c.loop-piece.invariant.bound;
      later = le_trans c.loop-piece.invariant.later c.in_ok-count.ensures.cause.later;
      failed = λ e. absurd (cc e);
    }

pub returns-in_err-extend_from_slice-clause-never_again : goal.returns-in_err-extend_from_slice-clause-never_again
returns-in_err-extend_from_slice-clause-never_again g c = λ t. c.loop-piece.invariant.never_again (c.in_ok-count.ensures.never_again t)

pub returns-in_err-extend_from_slice-clause-later : goal.returns-in_err-extend_from_slice-clause-later
returns-in_err-extend_from_slice-clause-later g c = le_trans c.loop-piece.invariant.later c.in_ok-count.ensures.cause.later

pub returns-in_err-extend_from_slice-clause-taken :
    goal.returns-in_err-extend_from_slice-clause-taken
returns-in_err-extend_from_slice-clause-taken g c = λ t.
    let told = c.loop-piece.invariant.told (c.in_ok-count.ensures.never_again t) in
    let len = c.len-in-loop-piece.ensures ∙ c.loop-piece.bytes.ok.0 in
    taken_with _ _ _ c.read.new.into _ c.in_ok-count.count c.args.limit told (c.in_ok-count.ensures.bytes t)
    (came_inside c.loop-piece.bytes.items c.loop-piece.piece _ c.min-room.result 4096 _ _ c.in_ok-count.ensures.bound c.min-room.ensures len c.loop-piece.invariant.bound)

pub returns : goal.returns
returns g c = record {
  never_again = c.loop-piece.invariant.never_again;
  bytes = c.loop-piece.invariant.told;
  end = λ t. inr (omega arith);
  bound = c.loop-piece.invariant.bound;
  taken = λ t. taken_bound _ c.loop-piece.bytes.items _ c.args.limit (c.loop-piece.invariant.told t) c.loop-piece.invariant.bound;
  later = c.loop-piece.invariant.later;
  failed = λ e. absurd (cc e);
}

pub loop-piece-preserved : goal.loop-piece-preserved
loop-piece-preserved g c =
    let came = c.loop-piece.bytes.items in
    let rest = drop c.min-room.result c.loop-piece.piece in
    let items : c.extend_from_slice.new.self.items ≡ came ++ take c.in_ok-count.count (c.read.new.into ++ rest) = c.in_ok-extend_from_slice.ensures.items in
    let len = c.len-in-loop-piece.ensures ∙ c.loop-piece.bytes.ok.0 in
    let inside : c.in_ok-count.count ≤ length c.read.new.into = subst (λ (n : ℕ). c.in_ok-count.count ≤ n) (sym c.read.auto.into) c.in_ok-count.ensures.bound in record {
      never_again = λ t. c.loop-piece.invariant.never_again (c.in_ok-count.ensures.never_again t);
      told = λ t. told_more _ came _ c.read.new.into rest _ c.extend_from_slice.new.self.items c.in_ok-count.count (c.loop-piece.invariant.told (c.in_ok-count.ensures.never_again t)) (c.in_ok-count.ensures.bytes t) items inside;
      bound = all_inside came c.read.new.into rest c.extend_from_slice.new.self.items c.in_ok-count.count c.args.limit items (came_inside came c.loop-piece.piece _ c.min-room.result 4096 _ _ c.in_ok-count.ensures.bound c.min-room.ensures len c.loop-piece.invariant.bound);
      later = le_trans c.loop-piece.invariant.later c.in_ok-count.ensures.cause.later;
    }
