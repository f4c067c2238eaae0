use Rattle.std.proofs.Common.{ap}
use Rattle.pack_windows.specs.Parts.{Part}
use Rattle.pack_windows.proofs.PartLaws.{byte_in_room}
use Rattle.pack_windows.proofs.window.Window.byte.Goals as goal

pub returns : goal.returns
returns c = λ whole is.
    let place = c.in_ok-i.ensures in
    byte_in_room c.args.self.now whole c.self.inside.room.items c.self.inside.size c.in_ok-i.i c.args.at c.index.result.now
    (ap (λ (p : Part). p.bytes) c.self.view_is) place.0 place.1 c.index.ensures is
