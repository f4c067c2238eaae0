use Rattle.std.specs.Prelude.{IsTrue}
use Rattle.std.proofs.Common.{inr, refl, ap, length, Some, Err, subst, sym, ◌∙◌, ◌++◌, List, ℕ, arith}
use Rattle.outside_traits.specs.Puts.{TakesFront}
use Rattle.command_parts.specs.Outside.{outside}
use Rattle.raw_command.specs.Endings.{IsBeyond, target_for}
use Rattle.raw_command.specs.Faults.{code_of, done_by}
use Rattle.raw_command.specs.declared.fault.TransferFault.{TransferFault}
use Rattle.raw_command.specs.declared.fault.TransferFault.TheVariants as fault
use Rattle.command_parts.specs.Lines.{Told}
use Rattle.raw_command.specs.Endings.{Stays, WriteEnds, bytes_for, fault_text}
use Rattle.raw_command.proofs.RunLaws.{beyond_all, false_is, stays_by, stays_fault, took_so, write_fault}
use Rattle.raw_command.proofs.run.write_from.Goals as goal

pub returns-in-Ok-write_all-clause-ends : goal.returns-in-Ok-write_all-clause-ends
returns-in-Ok-write_all-clause-ends g c tells tells' left left' faults faults' all end =
    let inside : ¬ (IsBeyond c.args.writing (length c.args.from.now)) = λ is. false_is c.is_beyond.result c.if-is_beyond.false (c.is_beyond.ensures.1 is) in
    record {
      from = c.args.from.now;
      writes = record {
        took = took_so c.args.writing c.args.from.now _ _ all end inside;
        written = c.in-Ok.ensures.writes _ refl;
      };
      told = λ t. c.in-Ok-write_all.ensures.bytes t ∙ ap (λ (text : List ℕ). g.O.Sink.taken c.args.out.now ++ text) (c.as_bytes.ensures.text ∙ c.done_line.ensures);
    }

pub returns-in-Err-write_all-clause-ends : goal.returns-in-Err-write_all-clause-ends
returns-in-Err-write_all-clause-ends g c tells tells' left left' faults faults' all end =
    let inside : ¬ (IsBeyond c.args.writing (length c.args.from.now)) = λ is. false_is c.is_beyond.result c.if-is_beyond.false (c.is_beyond.ensures.1 is) in
    inr (
      c.in-Err-write_all.ensures.cause.failed,
      record {
        from = c.args.from.now;
        writes = record {
          took = took_so c.args.writing c.args.from.now _ _ all end inside;
          written = c.in-Ok.ensures.writes _ refl;
        };
        told = λ t. subst (λ (text : List ℕ). TakesFront (g.O.Sink.taken c.args.out.now) (g.O.Sink.taken c.write_all.new.out) text)
            (c.as_bytes.ensures.text ∙ c.done_line.ensures)
            (c.in-Err-write_all.ensures.front t);
      },
    )

pub returns-in-Err-clause-ends : goal.returns-in-Err-clause-ends
returns-in-Err-clause-ends g c tells tells' left left' faults faults' all end =
    let w = c.args.writing in
    let from = c.args.from.now in
    let f = c.in-Err.fault in
    let e = c.in-Err.ensures in
    let r = c.refuse-in-Err.ensures in
    let inside : ¬ (IsBeyond c.args.writing (length c.args.from.now)) = λ is. false_is c.is_beyond.result c.if-is_beyond.false (c.is_beyond.ensures.1 is) in
    let took = took_so w from _ _ all end inside in
    let told : IsTrue (g.O.Sink.tells c.refuse-in-Err.new.out) → Told (g.O.Sink.taken c.args.out.now) (g.O.Sink.taken c.refuse-in-Err.new.out) (fault_text (target_for w from).unit f) (g.O.Sink.faults c.args.out.now) (g.O.Sink.faults c.refuse-in-Err.new.out) =
    λ t. subst (λ (u : ℕ). Told (g.O.Sink.taken c.args.out.now) (g.O.Sink.taken c.refuse-in-Err.new.out) (fault_text u f) (g.O.Sink.faults c.args.out.now) (g.O.Sink.faults c.refuse-in-Err.new.out))
    (c.unit-in-Err.ensures from) (r.told t) in
    subst (λ (why : TransferFault). WriteEnds w (Err why)
    (outside (λ (_ : Unit {0}). tells) (λ _. left) (λ _. faults) g.P.Packs.tells g.P.Packs.held g.P.Packs.faults g.P.Packs.failed_at g.O.Sink.tells g.O.Sink.taken g.O.Sink.faults g.T.Sink.tells g.T.Sink.taken g.T.Sink.faults tt c.args.packs.now c.args.out.now c.args.trace.now)
    (outside (λ (_ : Unit {0}). tells') (λ _. left') (λ _. faults') g.P.Packs.tells g.P.Packs.held g.P.Packs.faults g.P.Packs.failed_at g.O.Sink.tells g.O.Sink.taken g.O.Sink.faults g.T.Sink.tells g.T.Sink.taken g.T.Sink.faults tt c.put.new.packs c.refuse-in-Err.new.out c.put.new.trace))
    (sym r.same)
    (write_fault f took
    (record {
      only = e.keeps.only;
      store = e.keeps.causes.store;
      sink = e.keeps.causes.sink;
      untraced = λ before. ap g.T.Sink.taken (e.keeps.untraced before);
      same = e.keeps.same;
      long = e.keeps.long;
      told = told;
      silent = λ silent. ap g.O.Sink.taken (r.silent silent);
    })
    (λ done is. record {
      from = from;
      some_left = e.unusable done (ap (λ (why : TransferFault). Some why) is);
      writes = record { took = took; written = e.writes done (ap (λ (why : TransferFault). done_by (length (bytes_for w from)) (Some why)) is) };
      told = λ t. subst (λ (why : TransferFault). Told (g.O.Sink.taken c.args.out.now) (g.O.Sink.taken c.refuse-in-Err.new.out) (fault_text (target_for w from).unit why) (g.O.Sink.faults c.args.out.now) (g.O.Sink.faults c.refuse-in-Err.new.out))
          is (told t);
    })
    e.stops)

pub returns-in-Ok-write_all-clause-stays : goal.returns-in-Ok-write_all-clause-stays
returns-in-Ok-write_all-clause-stays g c = stays_by 0 (λ e. omega (arith, e)) (λ e. omega (arith, e)) (λ e. omega (arith, e))

pub returns-in-Err-write_all-clause-stays : goal.returns-in-Err-write_all-clause-stays
returns-in-Err-write_all-clause-stays g c = stays_by 5 (λ e. omega (arith, e)) (λ e. omega (arith, e)) (λ e. omega (arith, e))

pub returns-in-Err-clause-stays : goal.returns-in-Err-clause-stays
returns-in-Err-clause-stays g c =
    let keeps = c.in-Err.ensures.keeps in
    let told = c.refuse-in-Err.ensures in
    subst (λ (why : TransferFault). Stays (code_of (Err why)) c.args.packs.now c.put.new.packs c.args.out.now c.refuse-in-Err.new.out c.args.trace.now c.put.new.trace) (sym told.same)
    (stays_fault c.in-Err.fault keeps.only keeps.untraced told.silent)

pub returns-then-is_beyond-clause-stays : goal.returns-then-is_beyond-clause-stays
returns-then-is_beyond-clause-stays g c =
    subst (λ (why : TransferFault). Stays (code_of (Err why)) c.args.packs.now c.args.packs.now c.args.out.now c.refuse.new.out c.args.trace.now c.args.trace.now) (sym c.refuse.ensures.same)
    (stays_by 10 (λ e. omega (arith, e)) (λ e. omega (arith, e)) (λ e. omega (arith, e)))

pub returns-then-is_beyond-clause-ends : goal.returns-then-is_beyond-clause-ends
returns-then-is_beyond-clause-ends g c tells tells' left left' faults faults' all end =
    let w = c.args.writing in
    subst (λ (why : TransferFault). WriteEnds w (Err why)
    (outside (λ (_ : Unit {0}). tells) (λ _. left) (λ _. faults) g.P.Packs.tells g.P.Packs.held g.P.Packs.faults g.P.Packs.failed_at g.O.Sink.tells g.O.Sink.taken g.O.Sink.faults g.T.Sink.tells g.T.Sink.taken g.T.Sink.faults tt c.args.packs.now c.args.out.now c.args.trace.now)
    (outside (λ (_ : Unit {0}). tells') (λ _. left') (λ _. faults') g.P.Packs.tells g.P.Packs.held g.P.Packs.faults g.P.Packs.failed_at g.O.Sink.tells g.O.Sink.taken g.O.Sink.faults g.T.Sink.tells g.T.Sink.taken g.T.Sink.faults tt c.args.packs.now c.refuse.new.out c.args.trace.now))
    (sym c.refuse.ensures.same) (
      (λ t. beyond_all w _ _ left left' (all t) refl (c.is_beyond.ensures.0 c.if-is_beyond.true)),
      record {
        packs = λ t. refl;
        trace = refl;
        told = λ t. subst (λ (u : ℕ). Told (g.O.Sink.taken c.args.out.now) (g.O.Sink.taken c.refuse.new.out) (fault_text u fault.Outside) (g.O.Sink.faults c.args.out.now) (g.O.Sink.faults c.refuse.new.out))
            (c.unit.ensures left) (c.refuse.ensures.told t);
      },
    )
