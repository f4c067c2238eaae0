use Rattle.std.proofs.Common.{ℕ, List, take, drop, ◌+◌, ◌-◌, length, ap, ◌∙◌}
use Rattle.pack_windows.specs.Parts.{Part}
use Rattle.pack_windows.proofs.PartLaws.{piece_of_room}
use Rattle.pack_windows.proofs.window.Window.read.Goals as goal

pub returns : goal.returns
returns c = λ whole t is.
    let place = c.in-Some.ensures in
    let n : ℕ = length c.args.into.now in
    c.copy_from_slice.ensures.after
    ∙ ap (λ (xs : List ℕ). take (c.in-Some.first + n - c.in-Some.first) (drop c.in-Some.first xs)) c.deref.ensures.value
    ∙ piece_of_room c.args.self.now whole c.self.inside.room.items c.self.inside.size c.in-Some.first n c.args.at (ap (λ (p : Part). p.bytes) c.self.view_is)
    place.0 place.1 is
