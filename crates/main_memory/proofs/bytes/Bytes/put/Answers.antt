use Rattle.std.proofs.Common.{◌≤◌, List, ℕ, length, sym, ap, ◌∙◌, subst, arith}
use Rattle.main_memory.specs.Bytes.{with_part, filled}
use Rattle.main_memory.proofs.ByteLaws.{length-filled}
use Rattle.main_memory.proofs.HeldLaws.{length-written, written_is}
use Rattle.main_memory.proofs.bytes.Bytes.put.Goals as goal

pub invariant_of-self : goal.invariant_of-self
invariant_of-self c =
    let held = c.self.inside.held.items in
    record {
      inside = subst (λ (xs : List ℕ). length xs ≤ 8388608) (sym c.put_held.ensures.items) (length-written 8388608 c.args.at c.args.from.now held c.self.invariant.inside c.requires);
      enough = omega (arith, c.put_held.ensures.capacity, c.self.invariant.enough);
    }

pub returns-clause-bytes : goal.returns-clause-bytes
returns-clause-bytes c =
    ap (filled 8388608) c.put_held.ensures.items
    ∙ written_is 8388608 c.args.at c.args.from.now c.self.inside.held.items c.self.invariant.inside c.requires
    ∙ ap (with_part c.args.at c.args.from.now) c.self.view_is

pub returns-clause-size : goal.returns-clause-size
returns-clause-size c = length-filled 8388608 c.put_held.new.held.items (invariant_of-self c).inside
