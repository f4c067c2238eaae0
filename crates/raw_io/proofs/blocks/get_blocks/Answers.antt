use Rattle.std.proofs.Common.{◌≢◌, inl, inr, ℕ, ◌<◌, ◌≤◌, ◌+◌, [], sym, subst, arith, true, refl}
use Rattle.partitions.specs.Partitions.{size_of}
use Rattle.blocking_io.specs.FrontsPasses.{asked}
use Rattle.blocking_io.specs.Spots.{Spot, seen}
use Rattle.blocking_io.proofs.Sites.{kind_stays}
use Rattle.blocking_io.proofs.Spots.{keeps_join, may_again, still, stopped}
use Rattle.raw_io.proofs.Moving.{stopped_behind}
use Rattle.raw_io.proofs.ReadPieces.{gives_first, gives_again, untouched_again}
use Rattle.raw_io.proofs.blocks.get_blocks.Goals as goal
use Rattle.raw_io.proofs.blocks.get_blocks.Goals.{then-first-request-via-then-first-request, then-first-request-via-else-first-request+then-first-eq0}

some_of : (n : ℕ) → n ≢ 0 → 1 ≤ n
some_of n ne = grind (arith, ne)

fewer : (m n : ℕ) → m ≤ n → m ≢ n → m < n
fewer m n le ne = grind (arith, le, ne)

pub returns-in_err-first-clause-turns : goal.returns-in_err-first-clause-turns
returns-in_err-first-clause-turns g c =
    let m = c.in_err-first.ensures.turns in
    stopped c.from_residual.result c.in_err-first.field-0.0 c.from_residual.ensures.1 m.left m.stopped m.keeps

pub returns-then-first-request-clause-turns : goal.returns-then-first-request-clause-turns
returns-then-first-request-clause-turns g c =
    let old : Spot = g.S.Site.at c.args.site.now in
    let new : Spot = g.S.Site.at c.read_once.new.site in
    let m = c.in_ok-first.ensures.turns in
    record {
      done = gives_first (asked c.args.request []) c.in_ok-first.first c.args.into.now c.read_once.new.into (seen old) (seen new)
          (elim c.then-first-request.branch [
            | then-first-request-via-then-first-request w ↦ inl w.if-first-request.true
            | then-first-request-via-else-first-request+then-first-eq0 w ↦ inr w.if-first-eq0.true
          ]) c.requires.may.blocks.some c.requires.may.blocks.last m.done;
      left = tt;
      stopped = tt;
      keeps = m.keeps;
    }

pub read_once-requires-2-clause-may : goal.read_once-requires-2-clause-may
read_once-requires-2-clause-may g c =
    let old : Spot = g.S.Site.at c.args.site.now in
    let mid : Spot = g.S.Site.at c.read_once.new.site in
    let m = c.in_ok-first.ensures.turns in
    let may = may_again c.requires.may.may m.keeps in
    let few = m.done.few in
    let most = c.requires.may.blocks.few in
    let inside = c.requires.may.blocks.inside in
    record {
      may = may;
      blocks = record {
        id = c.requires.may.blocks.id;
        some = some_of c.in_ok-first.first c.if-first-eq0.false;
        few = omega (arith, few, most);
        last = c.requires.may.blocks.last;
        offset = c.requires.may.blocks.offset;
        inside = subst (λ kind. c.args.request.block + c.in_ok-first.first ≤ size_of kind c.args.request.part)
            (sym (kind_stays (seen old) (seen mid) c.args.request.unit m.done.transfers.goes.setup c.requires.may.may.unit_is may.unit_is)) (omega (arith, few, inside));
      };
    }

pub returns-in_err-read_once-clause-turns : goal.returns-in_err-read_once-clause-turns
returns-in_err-read_once-clause-turns g c =
    let old : Spot = g.S.Site.at c.args.site.now in
    let mid : Spot = g.S.Site.at c.read_once.new.site in
    let new : Spot = g.S.Site.at c.read_once-2.new.site in
    let m = c.in_ok-first.ensures.turns in
    let next = c.in_err-read_once.ensures.turns in
    stopped_behind c.sessions_law.ensures.stops c.from_residual-in_err-read_once.result c.in_err-read_once.field-0.0 c.from_residual-in_err-read_once.ensures.1 m.done.transfers m.keeps
    (untouched_again (asked c.args.request []) c.in_ok-first.first c.args.into.now c.read_once.new.into (seen old) (seen mid) (seen new) next.keeps.never_again m.done next.left) next.stopped next.keeps

pub returns-clause-turns : goal.returns-clause-turns
returns-clause-turns g c =
    let old : Spot = g.S.Site.at c.args.site.now in
    let mid : Spot = g.S.Site.at c.read_once.new.site in
    let new : Spot = g.S.Site.at c.read_once-2.new.site in
    let m = c.in_ok-first.ensures.turns in
    let next = c.in_ok-read_once.ensures.turns in
    record {
      done = gives_again c.sessions_law.ensures.join (asked c.args.request []) c.in_ok-first.first c.in_ok-read_once.field-0 c.args.into.now c.read_once.new.into c.read_once-2.new.into (seen old) (seen mid) (seen new)
          (fewer c.in_ok-first.first c.args.request.count m.done.few c.if-first-request.false) c.requires.may.blocks.last c.requires.may.may.unit_is
          (m.keeps.units refl c.args.request.unit c.requires.may.may.unit_is) (still next.keeps) m.done next.done;
      left = tt;
      stopped = tt;
      keeps = keeps_join m.keeps next.keeps;
    }
