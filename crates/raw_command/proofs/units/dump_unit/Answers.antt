use Rattle.std.proofs.Common.{◌≡◌, ℕ, ◌*◌, false, Err, ap, subst, sym, length}
use Rattle.pack_geometry.specs.declared.DriveKind.{DriveKind}
use Rattle.partitions.specs.declared.Part.TheVariants.{B}
use Rattle.driver_laws.specs.rules.Bytes.{blocks_for, dumped, dump_place}
use Rattle.raw_io.specs.Passes.{Spot, kind_at, spot}
use Rattle.raw_io.specs.Moves.{Comes, StopsFrom}
use Rattle.raw_io.specs.Pieces.{PutsRange}
use Rattle.raw_command.specs.declared.fault.TransferFault.{TransferFault}
use Rattle.raw_command.proofs.Writings.{length_dumped, too_many}
use Rattle.raw_command.proofs.UnitLaws.{kind_made, may, writes_by, writes_none}
use Rattle.raw_command.proofs.units.dump_unit.Goals as goal

pub dump-answer-requires : goal.dump-answer-requires
dump-answer-requires g c = record { may = may c.requires.unit c.in_ok-subsystem.ensures.attached }

pub returns-in_err-subsystem : goal.returns-in_err-subsystem
returns-in_err-subsystem g c =
    let h = c.in_err-subsystem.ensures in
    writes_none _ _ _ _ _ _ _ _ _ _ _ _ _ h.later h.never_again h.same _ _ c.in_err-subsystem.field-0.0 c.from_residual.ensures.1 h.only
    (λ e. h.store (ap (λ (f : TransferFault). Err f) e)) (λ e. h.at (ap (λ (f : TransferFault). Err f) e)) h.long

pub returns : goal.returns
returns g c =
    let h = c.in_ok-subsystem.ensures in
    let k = c.dump-answer.ensures in
    let memory = c.args.memory.now in
    let old : Spot = spot g.P.Packs.tells g.P.Packs.held g.P.Packs.faults g.T.Sink.tells g.T.Sink.taken g.T.Sink.faults c.in_ok-subsystem.subsystem c.attached.new.packs c.args.trace.now in
    let new : Spot = spot g.P.Packs.tells g.P.Packs.held g.P.Packs.faults g.T.Sink.tells g.T.Sink.taken g.T.Sink.faults c.dump-answer.new.subsystem c.dump-answer.new.packs c.dump-answer.new.trace in
    let long : length (dumped memory) ≡ 512 * blocks_for (length memory) = length_dumped memory in
    writes_by _ _ _ _ _ _ _ _ _ _ _ _ _ h.later h.never_again h.same c.in_ok-subsystem.subsystem c.dump-answer.new.subsystem c.dump-answer.new.packs c.dump-answer.new.trace
    c.requires.unit h.attached c.dump-answer.result _ c.handed_on.ensures (λ e. too_many (length memory) c.requires.few (k.outside.0 e)) (dumped memory)
    (subst (λ (kind : DriveKind). Comes false c.args.unit B (length (dumped memory)) (λ done. PutsRange c.args.unit B (dump_place kind (length memory)) done (dumped memory)) (StopsFrom c.args.unit B (dump_place kind (length memory)) (dumped memory)) c.dump-answer.result old new)
    (kind_made c.requires.unit h.attached)
    (subst (λ (n : ℕ). Comes false c.args.unit B n (λ done. PutsRange c.args.unit B (dump_place (kind_at old.driver.world c.args.unit) (length memory)) done (dumped memory))
    (StopsFrom c.args.unit B (dump_place (kind_at old.driver.world c.args.unit) (length memory)) (dumped memory)) c.dump-answer.result old new) (sym long) k.comes))
