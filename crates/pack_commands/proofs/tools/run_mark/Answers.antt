use Rattle.std.proofs.Common.{List, ℕ, subst, ◌≡◌, ◌++◌}
use Rattle.outside_traits.specs.Puts.{TakesFront}
use Rattle.pack_commands.specs.Tools.{RunsMark}
use Rattle.pack_commands.proofs.FormatLaws.{by_end, never_failed}
use Rattle.pack_commands.proofs.ToolLaws.{mark_cut, mark_done, mark_run}
use Rattle.pack_commands.proofs.tools.run_mark.Goals as goal

pub returns-in-Ok : goal.returns-in-Ok
returns-in-Ok g c =
    let told = c.tell.ensures in record {
      never_again = c.mark.ensures.never_again;
      runs = by_end (λ (code : ℕ). RunsMark c.args.kind c.args.unit code (g.P.Packs.tells c.mark.new.packs) (g.P.Packs.held c.args.packs.now) (g.P.Packs.held c.mark.new.packs)
          (g.O.Sink.tells c.tell.new.out) (g.O.Sink.taken c.args.out.now) (g.O.Sink.taken c.tell.new.out) (g.O.Sink.faults c.args.out.now) (g.O.Sink.faults c.tell.new.out)) _ told.ends
          (λ is. mark_done c.in-Ok.count c.in-Ok.ensures.few c.in-Ok.ensures.marked (λ t. subst (λ (text : List ℕ). g.O.Sink.taken c.tell.new.out ≡ g.O.Sink.taken c.args.out.now ++ text) c.marked_line.ensures (told.done is t)))
          (λ is. mark_cut c.in-Ok.count c.in-Ok.ensures.few c.in-Ok.ensures.marked (told.rose is) (λ t. subst (λ (text : List ℕ). TakesFront (g.O.Sink.taken c.args.out.now) (g.O.Sink.taken c.tell.new.out) text) c.marked_line.ensures (told.cut is t)));
      sink = told.rose;
      store = λ is. absurd (never_failed _ told.ends is);
    }

pub returns-in-Err-clause-runs : goal.returns-in-Err-clause-runs
returns-in-Err-clause-runs g c =
    mark_run c.in-Err.fault c.refuse.ensures.status c.in-Err.ensures.faults c.in-Err.ensures.why c.in-Err.ensures.left c.refuse.ensures.told
