use Rattle.std.proofs.Common.{ap, ◌∙◌}
use Rattle.mba_autoconf.specs.Probe.{nine_bits}
use Rattle.mba_autoconf.proofs.TypeWords.{type_code-type_word}
use Rattle.mba_autoconf.proofs.probing.kind_of_drive.Goals as goal

pub unreachable-requires : goal.unreachable-requires
unreachable-requires c =
    let kind = c.args.drive.now.kind in
    let known = (c.probe.ensures.known kind).1 (ap nine_bits c.read_register.ensures ∙ type_code-type_word kind) in
    let unknown = c.in-Err.is in
    cc

pub returns : goal.returns
returns c =
    let kind = c.args.drive.now.kind in
    let known = (c.probe.ensures.known kind).1 (ap nine_bits c.read_register.ensures ∙ type_code-type_word kind) in
    let found = c.in-Ok.is in
    cc
