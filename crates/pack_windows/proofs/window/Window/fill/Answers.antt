use Rattle.std.proofs.Common.{ℕ, ◌≤◌, length, subst, sym, ap, ◌∙◌, refl}
use Rattle.outside_traits.specs.Files.{file_of}
use Rattle.pack_windows.proofs.PartLaws.{empty_part, filled_part}
use Rattle.pack_windows.proofs.AheadLaws.{told_ok}
use Rattle.pack_windows.proofs.window.Window.fill.Goals as goal

pub returns-then-not-make_room-clause-part : goal.returns-then-not-make_room-clause-part
returns-then-not-make_room-clause-part g c = λ t. empty_part _ _ refl

pub returns-else-is_ok-clause-part : goal.returns-else-is_ok-clause-part
returns-else-is_ok-clause-part g c = λ t. empty_part _ _ refl

pub returns-then-is_ok-clause-part : goal.returns-then-is_ok-clause-part
returns-then-is_ok-clause-part g c = λ t.
    let inside : c.args.size ≤ length c.make_room.new.room.items = c.if-not-make_room.ensures refl in
    filled_part c.args.at c.args.size c.make_room.new.room.len c.args.at c.read_front.new.room _ (file_of (g.W.Packs.held c.args.packs.now c.args.unit) c.args.part)
    (subst (λ (n : ℕ). c.args.size ≤ n) (sym c.make_room.new.room.ok.0) inside)
    (subst (λ (n : ℕ). c.args.size ≤ n) (sym (c.read_front.auto.room ∙ ap length c.as_mut_slice.ensures.value)) inside) refl
    (told_ok c.read_front.result c.if-is_ok.ensures.value c.read_front.ensures.bytes t)
