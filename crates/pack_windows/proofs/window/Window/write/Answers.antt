use Rattle.std.proofs.Common.{refl, ap}
use Rattle.pack_windows.proofs.PartLaws.{put_in_room, apart_part}
use Rattle.pack_windows.specs.Parts.{Part}
use Rattle.pack_windows.proofs.window.Window.write.Goals as goal

pub returns-in-Some : goal.returns-in-Some
returns-in-Some c = λ whole is.
    let place = c.in-Some.ensures in
    put_in_room c.args.self.now whole c.self.inside.room.items c.args.from.now c.put.new.room.items c.self.inside.at c.self.inside.size c.in-Some.first c.args.at
    (ap (λ (p : Part). p.at) c.self.view_is) (ap (λ (p : Part). p.bytes) c.self.view_is) place.0 place.1 c.put.ensures is

pub returns-else-not-is_apart : goal.returns-else-not-is_apart
returns-else-not-is_apart c = λ whole is.
    let apart = c.if-not-is_apart.ensures in
    apart_part c.args.self.now whole c.args.from.now c.args.at (apart refl) is
