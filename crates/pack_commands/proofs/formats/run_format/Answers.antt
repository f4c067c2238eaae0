use Rattle.std.proofs.Common.{List, ℕ, subst, ◌≡◌, ◌++◌}
use Rattle.outside_traits.specs.Puts.{TakesFront}
use Rattle.pack_commands.proofs.FormatLaws.{format_fault, format_told, never_failed, never_full}
use Rattle.pack_commands.proofs.formats.run_format.Goals as goal

pub returns-in-Ok : goal.returns-in-Ok
returns-in-Ok g c =
    let told = c.tell.ensures in record {
      never_again = c.format.ensures.never_again;
      runs = format_told c.format.ensures.elsewhere c.in-Ok.report.bad c.in-Ok.ensures.few c.in-Ok.ensures.formatted told.ends
          (λ is t. subst (λ (text : List ℕ). g.O.Sink.taken c.tell.new.out ≡ g.O.Sink.taken c.args.out.now ++ text) c.formatted_line.ensures (told.done is t))
          (λ is t. subst (λ (text : List ℕ). TakesFront (g.O.Sink.taken c.args.out.now) (g.O.Sink.taken c.tell.new.out) text) c.formatted_line.ensures (told.cut is t)) told.rose;
      sink = told.rose;
      store = λ is. absurd (never_failed _ told.ends is);
      silent = λ is. absurd (never_full _ told.ends is);
    }

pub returns-in-Err-clause-runs : goal.returns-in-Err-clause-runs
returns-in-Err-clause-runs g c =
    format_fault c.format.ensures.elsewhere c.in-Err.fault c.refuse.ensures.status c.in-Err.ensures.fault c.in-Err.ensures.why c.in-Err.ensures.left c.refuse.ensures.told
