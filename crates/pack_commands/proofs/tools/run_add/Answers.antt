use Rattle.std.proofs.Common.{List, ℕ, subst, ◌≡◌, ◌++◌}
use Rattle.outside_traits.specs.Puts.{TakesFront}
use Rattle.pack_commands.specs.Tools.{RunsAdd}
use Rattle.pack_commands.proofs.FormatLaws.{by_end, never_failed}
use Rattle.pack_commands.proofs.ToolLaws.{add_cut, add_done, add_run}
use Rattle.pack_commands.proofs.tools.run_add.Goals as goal

pub returns-in-Ok : goal.returns-in-Ok
returns-in-Ok g c =
    let told = c.tell.ensures in record {
      never_again = c.add.ensures.never_again;
      runs = by_end (λ (code : ℕ). RunsAdd c.args.kind c.args.unit c.args.block c.args.way code (g.P.Packs.tells c.add.new.packs) (g.P.Packs.held c.args.packs.now) (g.P.Packs.held c.add.new.packs)
          (g.O.Sink.tells c.tell.new.out) (g.O.Sink.taken c.args.out.now) (g.O.Sink.taken c.tell.new.out) (g.O.Sink.faults c.args.out.now) (g.O.Sink.faults c.tell.new.out)) _ told.ends
          (λ is. add_done c.in-Ok.i c.in-Ok.ensures.index c.in-Ok.ensures.added (λ t. subst (λ (text : List ℕ). g.O.Sink.taken c.tell.new.out ≡ g.O.Sink.taken c.args.out.now ++ text) c.entry_line.ensures (told.done is t)))
          (λ is. add_cut c.in-Ok.i c.in-Ok.ensures.index c.in-Ok.ensures.added (told.rose is) (λ t. subst (λ (text : List ℕ). TakesFront (g.O.Sink.taken c.args.out.now) (g.O.Sink.taken c.tell.new.out) text) c.entry_line.ensures (told.cut is t)));
      sink = told.rose;
      store = λ is. absurd (never_failed _ told.ends is);
    }

pub returns-in-Err-clause-runs : goal.returns-in-Err-clause-runs
returns-in-Err-clause-runs g c =
    add_run c.in-Err.fault c.refuse.ensures.status c.in-Err.ensures.faults c.in-Err.ensures.why c.in-Err.ensures.left c.refuse.ensures.told
