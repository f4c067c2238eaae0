use Rattle.std.proofs.Common.{◌≡◌, [], ◌∷◌, ◌++◌, None, length}
use Rattle.run_picture.specs.Places.{place_of}
use Rattle.run_picture.proofs.PlaceLaws.{places_added}
use Rattle.run_picture.proofs.places.Places.add.Goals as goal

pub invariant_of-self-in-Ok : goal.invariant_of-self-in-Ok
invariant_of-self-in-Ok c =
    let none : place_of c.self.inside.ids.items c.args.id ≡ None = cc in
    let whole : c.push.new.self.items ≡ c.self.inside.ids.items ++ c.args.id ∷ [] = c.in_ok-push.ensures.items in
    let size : c.len-place.result ≡ length c.self.inside.ids.items = cc (c.self.inside.ids.ok.0) in
    places_added c.self.inside.ids.items c.push.new.self.items c.self.inside.places c.insert.new.self c.args.id c.len-place.result whole size
    c.self.invariant none c.in-Ok.ensures.updates
