use Rattle.std.proofs.Common.{◌≡◌, take, fold}
use Rattle.picture_svg.specs.Texts.{with_byte}
use Rattle.picture_svg.proofs.render.put_words.Given as goal

abbrev pub invariant-loop-byte : goal.invariant-loop-byte
invariant-loop-byte l = l.out.items ≡ fold with_byte l.initial.out.items (take l.byte-index l.bytes)
