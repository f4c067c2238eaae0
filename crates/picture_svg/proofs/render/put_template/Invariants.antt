use Rattle.std.proofs.Common.{◌≡◌, take, fold}
use Rattle.picture_svg.specs.Texts.{with_slot}
use Rattle.picture_svg.proofs.render.put_template.Given as goal

abbrev pub invariant-loop-byte : goal.invariant-loop-byte
invariant-loop-byte l = l.out.items ≡ fold (with_slot l.class l.from l.to) l.initial.out.items (take l.byte-index l.template)
