use Rattle.std.proofs.Common.{◌≡◌, ◌+◌, ◌<◌, rules, refl, sym, ap, ◌∙◌, subst}
use Rattle.std.proofs.lemmas.Result.{err_from_is_err_and}
use Rattle.main_memory.specs.declared.span.Span.{Span}
use Rattle.main_memory.specs.declared.window.Window.{Window}
use Rattle.main_memory.specs.Memory.{Memory}
use Rattle.pack_geometry.specs.Geometry.{block_count}
use Rattle.hardware_table.specs.Drive.{is_transferring}
use Rattle.hardware_table.specs.Moves.{after_move, was_read}
use Rattle.hardware_table.specs.Adapter.{AdapterState, next_block}
use Rattle.drive_model.proofs.FailLaws.{tries_as}
use Rattle.mba_adapter.specs.State.{state_of}
use Rattle.mba_adapter.proofs.RoomLaws.{next_left, inside_left}
use Rattle.mba_adapter.proofs.WindowLaws.{same_span, shown_scene, memory_after, ended, goes_on}
use Rattle.mba_adapter.proofs.WorkLaws.{still_transferring}
use Rattle.mba_adapter.proofs.adapter.Adapter.step_sector.Goals as goal
use Rattle.mba_adapter.proofs.adapter.Adapter.step_sector.Goals.{then-self, else-self}

pub returns-in_err-verdict : goal.returns-in_err-verdict
returns-in_err-verdict g c =
    let p = err_from_is_err_and c.from_residual.result c.from_residual.ensures.1 in
    let opened = c.window-window.ensures in
    let before = shown_scene c.args.book.now c.args.buffer.now (c.self.inside.skip + c.self.inside.moved) c.args.memory.now.bytes c.window-window.result (ap (λ (m : Memory). m.bytes) opened.unchanged) opened.block in
    let still : c.move_sector.new.window ≡ c.window-window.result = c.in_err-verdict.ensures.window in
    let after = shown_scene c.move_sector.new.book c.args.buffer.now (c.self.inside.skip + c.self.inside.moved) _ c.move_sector.new.window (search rules) (ap (λ (w : Window). w.span) still ∙ opened.block) in
    rw (p.1, p.2) (record {
      steps = rw (← c.self.view_is) (record {
        tries = tries_as (ap (λ (s : Span). s.len) opened.block) before after c.in_err-verdict.ensures.tries;
        adapter = refl;
        drive = c.in_err-verdict.ensures.drive;
        store = search rules;
      });
      inside = next_left (state_of c.self.inside) _ _ c.self.view_is c.self.invariant c.requires.may.is;
    })

pub returns : goal.returns
returns g c =
    let opened = c.window-window.ensures in
    let moved = c.in_ok-verdict.ensures in
    let before = shown_scene c.args.book.now c.args.buffer.now (c.self.inside.skip + c.self.inside.moved) c.args.memory.now.bytes c.window-window.result (ap (λ (m : Memory). m.bytes) opened.unchanged) opened.block in
    let on = same_span _ c.window-window.result c.move_sector.new.window _ moved.window ∙ opened.block in
    let after = shown_scene c.move_sector.new.book c.args.buffer.now (c.self.inside.skip + c.self.inside.moved) _ c.move_sector.new.window (search rules) on in
    let by : c.move_sector.new.self ≡ after_move c.in_ok-verdict.verdict (next_block c.args.self.now) c.args.drive.now =
    moved.drive ∙ ap (λ (a : AdapterState). after_move c.in_ok-verdict.verdict (next_block a) c.args.drive.now) c.self.view_is in
    record {
      steps = record {
        tries = rw (← c.self.view_is) (tries_as (ap (λ (s : Span). s.len) opened.block) before after moved.tries);
        adapter = c.take.ensures;
        drive = elim c.if-self.branch [
          | then-self w ↦ ended c.in_ok-verdict.verdict c.args.self.now _ c.args.drive.now c.move_sector.new.self _ (c.self-2.view_is ∙ c.take.ensures) w.if-self.true by (w.drive-is ∙ w.end_transfer.ensures)
          | else-self w ↦ goes_on c.in_ok-verdict.verdict c.args.self.now _ c.args.drive.now c.move_sector.new.self _ (c.self-2.view_is ∙ c.take.ensures) w.if-self.false by w.drive-is
        ];
        store = rw (← c.self.view_is) (memory_after (was_read c.args.drive.now c.in_ok-verdict.verdict) c.args.buffer.now (c.self.inside.skip + c.self.inside.moved) c.args.memory.now _ c.window-window.result c.move_sector.new.window opened.unchanged opened.block (search rules) moved.window);
      };
      inside = next_left (state_of c.self.inside) _ _ c.self.view_is c.self.invariant c.requires.may.is;
    }

pub window-window-requires-clause-lent : goal.window-window-requires-clause-lent
window-window-requires-clause-lent g c = c.requires.may.lent

pub window-window-requires-clause-inside : goal.window-window-requires-clause-inside
window-window-requires-clause-inside g c = inside_left (state_of c.self.inside) _ _ _ c.self.view_is c.self.invariant c.requires.may.is c.requires.may.loaded

pub take-requires : goal.take-requires
take-requires g c = record { busy = c.requires.may.is.busy; under_way = c.requires.may.is.going_on }

pub move_sector-requires : goal.move_sector-requires
move_sector-requires g c = record {
  unit = c.requires.unit;
  transfer = ap is_transferring c.requires.may.is.transfer;
  block = subst (λ (a : AdapterState). next_block a < block_count c.args.drive.now.kind) (sym c.self.view_is) c.requires.may.is.block;
}

pub end_transfer-requires : goal.end_transfer-requires
end_transfer-requires g c = still_transferring c.in_ok-verdict.verdict _ c.args.drive.now _ _ c.in_ok-verdict.ensures.drive c.requires.may.is.transfer
