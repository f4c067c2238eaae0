use Rattle.std.proofs.Common.{ap, Err, List, ℕ, subst, ◌≡◌, ◌++◌}
use Rattle.outside_traits.specs.Puts.{TakesFront}
use Rattle.pack_commands.specs.Tools.{RunsFresh}
use Rattle.pack_commands.proofs.FormatLaws.{by_end, never_failed}
use Rattle.pack_commands.proofs.ToolLaws.{fresh_cut, fresh_done, fresh_run}
use Rattle.pack_commands.proofs.tools.run_fresh.Goals as goal

pub returns-in-Ok : goal.returns-in-Ok
returns-in-Ok g c =
    let told = c.tell.ensures in record {
      never_again = c.fresh.ensures.never_again;
      runs = by_end (λ (code : ℕ). RunsFresh c.args.kind c.args.unit c.args.serial code (g.P.Packs.tells c.fresh.new.packs) (g.P.Packs.held c.args.packs.now) (g.P.Packs.held c.fresh.new.packs)
          (g.O.Sink.tells c.tell.new.out) (g.O.Sink.taken c.args.out.now) (g.O.Sink.taken c.tell.new.out) (g.O.Sink.faults c.args.out.now) (g.O.Sink.faults c.tell.new.out)) _ told.ends
          (λ is. fresh_done c.in-Ok.ensures.fits c.in-Ok.ensures.done (λ t. subst (λ (text : List ℕ). g.O.Sink.taken c.tell.new.out ≡ g.O.Sink.taken c.args.out.now ++ text) c.serial_line.ensures (told.done is t)))
          (λ is. fresh_cut c.in-Ok.ensures.fits c.in-Ok.ensures.done (told.rose is) (λ t. subst (λ (text : List ℕ). TakesFront (g.O.Sink.taken c.args.out.now) (g.O.Sink.taken c.tell.new.out) text) c.serial_line.ensures (told.cut is t)));
      sink = told.rose;
      store = λ is. absurd (never_failed _ told.ends is);
    }

pub returns-in-Err-clause-runs : goal.returns-in-Err-clause-runs
returns-in-Err-clause-runs g c =
    fresh_run c.in-Err.fault c.refuse.ensures.status c.in-Err.ensures.faults c.in-Err.ensures.why
    (λ e. c.in-Err.ensures.stopped (ap (λ f. Err f) e)) (λ n e. c.in-Err.ensures.unchanged n (ap (λ f. Err f) e)) c.refuse.ensures.told
