use Rattle.std.proofs.Common.{◌≡◌, refl, subst, sym, arith, ◌∙◌, ℕ, Err, length}
use Rattle.command_parts.specs.Outside.{outside}
use Rattle.raw_command.specs.Endings.{ReadEnds, Stays}
use Rattle.raw_command.specs.Faults.{code_of}
use Rattle.raw_command.specs.declared.fault.TransferFault.{TransferFault}
use Rattle.raw_command.proofs.RunLaws.{false_is, read_memory, read_outside, stays_by, stays_same}
use Rattle.raw_command.proofs.run.run_read.Goals as goal

pub returns-in_err-bytes : goal.returns-in_err-bytes
returns-in_err-bytes g c = record {
  ends = λ tells left count.
      read_memory c.args.target c.args.size _ _ c.from_residual.ensures.1 (λ is. false_is c.is_outside.result c.if-is_outside.false (c.is_outside.ensures.1 is));
  stays = stays_same _;
}

pub returns-then-is_outside : goal.returns-then-is_outside
returns-then-is_outside g c = record {
  ends = λ tells left count.
      read_outside c.args.target c.args.size c.refuse.ensures.same (c.is_outside.ensures.0 c.if-is_outside.true)
      (record { packs = λ t. refl; trace = refl; told = c.refuse.ensures.told });
  stays =
      subst (λ (why : TransferFault). Stays (code_of (Err why)) c.args.packs.now c.args.packs.now c.args.out.now c.refuse.new.out c.args.trace.now c.args.trace.now) (sym c.refuse.ensures.same)
      (stays_by 10 (λ e. omega (arith, e)) (λ e. omega (arith, e)) (λ e. omega (arith, e)));
}

pub returns : goal.returns
returns g c =
    let long : length c.as_mut_slice.result.now ≡ c.args.size = c.as_mut_slice.ensures.len ∙ c.in_ok-bytes.ensures in
    record {
      ends = λ tells left count.
          subst (λ (size : ℕ). ReadEnds c.args.target size c.read_to.result
          (outside (λ (_ : Unit {0}). tells) (λ _. left) (λ _. count) g.P.Packs.tells g.P.Packs.held g.P.Packs.faults g.P.Packs.failed_at g.O.Sink.tells g.O.Sink.taken g.O.Sink.faults g.T.Sink.tells g.T.Sink.taken g.T.Sink.faults tt c.args.packs.now c.args.out.now c.args.trace.now)
          (outside (λ (_ : Unit {0}). tells) (λ _. left) (λ _. count) g.P.Packs.tells g.P.Packs.held g.P.Packs.faults g.P.Packs.failed_at g.O.Sink.tells g.O.Sink.taken g.O.Sink.faults g.T.Sink.tells g.T.Sink.taken g.T.Sink.faults tt c.read_to.new.packs c.read_to.new.out c.read_to.new.trace))
          long (c.read_to.ensures.ends tells left count);
      stays = c.read_to.ensures.stays;
    }
