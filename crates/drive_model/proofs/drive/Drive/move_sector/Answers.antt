use Rattle.std.proofs.Common.{ℕ, inl, refl, sym, ap, ◌∙◌, arith}
use Rattle.std.proofs.lemmas.Result.{err_from_is_err_and}
use Rattle.pack_geometry.specs.Pack.{Pack, block_at}
use Rattle.main_memory.specs.Windows.{window_len}
use Rattle.hardware_table.specs.Drive.{DriveState}
use Rattle.drive_model.specs.Move.{scene_at, site_of}
use Rattle.drive_model.proofs.FailLaws.{goes_on, tried, failed, write_fails}
use Rattle.drive_model.proofs.MoveLaws.{stopped_moves, stopped_window, marked_moves, write_moves, write_window, read_moves, read_window}
use Rattle.drive_model.proofs.drive.Drive.move_sector.Goals as goal

pub returns-in-Some : goal.returns-in-Some
returns-in-Some g c =
    let stop = sym c.stop.ensures ∙ c.in-Some.is in
    record {
      tries = tried (stopped_moves c.args.unit c.args.block c.args.self.now (window_len c.args.window.now) (g.P.Packs.tells c.args.packs.now) _ c.in-Some.verdict stop) (λ s. refl) (λ t. t) (omega arith);
      drive = c.take.ensures;
      window = stopped_window c.args.self.now c.in-Some.verdict c.args.window.now stop;
      same_memory = refl;
    }

pub returns-in_err-marked : goal.returns-in_err-marked
returns-in_err-marked g c =
    let marked = c.in_err-marked.ensures in
    let p = err_from_is_err_and c.from_residual.result c.from_residual.ensures.1 in
    rw (p.1, p.2) (record {
      tries = failed (sym c.stop.ensures ∙ c.in_default.is) refl (λ t. inl (marked.same t)) marked.never_again marked.cause.later marked.cause.failed;
      drive = refl;
      window = refl;
      same_memory = refl;
    })

pub returns-then-branch : goal.returns-then-branch
returns-then-branch g c =
    let marked = c.in_ok-marked.ensures in
    let goes = sym c.stop.ensures ∙ c.in_default.is in
    record {
      tries = tried (marked_moves c.args.unit c.args.block c.args.self.now (window_len c.args.window.now) (g.P.Packs.tells c.marked.new.self) _ _ goes (λ t. sym c.if-branch.true ∙ marked.mark t) refl refl marked.same)
          (λ s. goes_on _ goes s) marked.never_again marked.cause.later;
      drive = c.take-then-branch.ensures;
      window = refl;
      same_memory = refl;
    }

pub returns-in_err-write : goal.returns-in_err-write
returns-in_err-write g c =
    let marked = c.in_ok-marked.ensures in
    let write = c.in_err-write.ensures in
    let p = err_from_is_err_and c.from_residual-in_err-write.result c.from_residual-in_err-write.ensures.1 in
    rw (p.1, p.2) (record {
      tries = failed (sym c.stop.ensures ∙ c.in_default.is) refl
          (write_fails c.args.unit c.args.block c.args.self.now _ (site_of (scene_at c.args.book.now c.args.window.now) (g.P.Packs.held c.args.packs.now)) _ _ _ (sym c.is_writing.ensures ∙ c.if-is_writing.true) (λ t. sym c.if-branch.false ∙ marked.mark (write.never_again t)) (λ t. marked.same (write.never_again t)) c.copy_out.ensures.bytes write.err)
          (λ t. marked.never_again (write.never_again t)) (omega (arith, marked.cause.later, write.cause.later)) (omega (arith, marked.cause.later, write.cause.failed));
      drive = refl;
      window = refl;
      same_memory = refl;
    })

pub returns-then-is_writing : goal.returns-then-is_writing
returns-then-is_writing g c =
    let marked = c.in_ok-marked.ensures in
    let write = c.in_ok-write.ensures in
    let goes = sym c.stop.ensures ∙ c.in_default.is in
    let writes = sym c.is_writing.ensures ∙ c.if-is_writing.true in
    record {
      tries = tried (write_moves c.args.unit c.args.block c.args.self.now (window_len c.args.window.now) (g.P.Packs.tells c.write.new.self) _ _ goes writes (λ t. sym c.if-branch.false ∙ marked.mark (write.never_again t))
          refl refl (λ t. cc (write.ok t, marked.same (write.never_again t), c.copy_out.ensures.bytes)))
          (λ s. goes_on _ goes s) (λ t. marked.never_again (write.never_again t)) (omega (arith, marked.cause.later, write.cause.later));
      drive = c.take-then-is_writing.ensures;
      window = write_window c.args.self.now c.args.window.now writes;
      same_memory = refl;
    }

pub returns-in_err-read : goal.returns-in_err-read
returns-in_err-read g c =
    let marked = c.in_ok-marked.ensures in
    let read = c.in_err-read.ensures in
    let p = err_from_is_err_and c.from_residual-in_err-read.result c.from_residual-in_err-read.ensures.1 in
    rw (p.1, p.2) (record {
      tries = failed (sym c.stop.ensures ∙ c.in_default.is) refl (λ t. inl (read.same t ∙ marked.same (read.never_again t)))
          (λ t. marked.never_again (read.never_again t)) (omega (arith, marked.cause.later, read.cause.later)) (omega (arith, marked.cause.later, read.cause.failed));
      drive = refl;
      window = refl;
      same_memory = refl;
    })

pub returns : goal.returns
returns g c =
    let marked = c.in_ok-marked.ensures in
    let read = c.in_ok-read.ensures in
    let goes = sym c.stop.ensures ∙ c.in_default.is in
    let reads = sym c.is_writing.ensures ∙ c.if-is_writing.false in
    record {
      tries = tried (read_moves c.args.unit c.args.block c.self.inside.offset c.args.self.now (window_len c.args.window.now) (g.P.Packs.tells c.read.new.self) _ _ c.read_through-moved.result c.read.new.into c.read_through-moved.new.bytes
          (ap (λ (d : DriveState). d.offset) c.self.view_is) goes reads
          (λ t. sym c.if-branch.false ∙ marked.mark (read.never_again t)) c.read_through-moved.ensures.verdict c.read_through-moved.ensures.book c.read_through-moved.ensures.bytes
          (λ t. read.block t ∙ ap (λ (h : ℕ → Pack). block_at (h c.args.unit).image c.args.block) (marked.same (read.never_again t)))
          c.copy_in.ensures.bytes (λ t. read.same t ∙ marked.same (read.never_again t)))
          (λ s. goes_on _ goes s) (λ t. marked.never_again (read.never_again t)) (omega (arith, marked.cause.later, read.cause.later));
      drive = c.take-2.ensures;
      window = read_window c.args.self.now _ c.read_through-moved.result c.args.window.now c.copy_in.new.self _ reads c.read_through-moved.ensures.verdict c.copy_in.ensures.bytes c.copy_in.ensures.writes;
      same_memory = c.copy_in.ensures.same_memory;
    }
