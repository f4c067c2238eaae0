use Rattle.std.proofs.Common.{ap, inl, inr, refl, subst, List, ℕ, ◌++◌, ◌∙◌}
use Rattle.outside_traits.specs.Puts.{TakesFront}
use Rattle.pack_commands.proofs.FormatLaws.{cut_is_not_done, done_is_not_cut}
use Rattle.pack_commands.proofs.text.tell.Goals as goal

pub returns-in-Ok : goal.returns-in-Ok
returns-in-Ok g c =
    let written = c.in-Ok.ensures in record {
      never_again = written.never_again;
      ends = inl refl;
      done = λ _ t. written.bytes t ∙ ap (λ (text : List ℕ). g.O.Sink.taken c.args.out.now ++ text) c.as_bytes.ensures.text;
      cut = λ is. absurd (done_is_not_cut is);
      rose = λ is. absurd (done_is_not_cut is);
    }

pub returns-in-Err : goal.returns-in-Err
returns-in-Err g c =
    let written = c.in-Err.ensures in record {
      never_again = written.never_again;
      ends = inr refl;
      done = λ is. absurd (cut_is_not_done is);
      cut = λ _ t. subst (λ (text : List ℕ). TakesFront (g.O.Sink.taken c.args.out.now) (g.O.Sink.taken c.write_all.new.out) text) c.as_bytes.ensures.text (written.front t);
      rose = λ _. written.cause.failed;
    }
