use Rattle.std.proofs.Common.{◌∙◌, sym, ap}
use Rattle.live_noise.specs.Book.{live_of}
use Rattle.live_noise.proofs.BookLaws.{nowhere_oldest, nowhere_after, first_oldest, first_after, slot_inside, slots_used}
use Rattle.live_noise.proofs.entries.strike.Goals as goal

pub returns-in_err-i-clause-oldest : goal.returns-in_err-i-clause-oldest
returns-in_err-i-clause-oldest c = λ noises.
    rw c.from_residual.ensures (nowhere_oldest noises c.args.unit c.args.block c.args.entries.now.items (rw c.as_slice.ensures.value at c.in_err-i.ensures))

pub returns-in_err-i-clause-after : goal.returns-in_err-i-clause-after
returns-in_err-i-clause-after c = λ noises.
    nowhere_after noises c.args.unit c.args.block c.args.word c.args.entries.now.items (rw c.as_slice.ensures.value at c.in_err-i.ensures)

pub returns-clause-oldest : goal.returns-clause-oldest
returns-clause-oldest c = λ noises.
    first_oldest noises c.args.unit c.args.block c.args.entries.now.items c.in_ok-i.i c.use_at.result
    (rw c.as_slice.ensures.value at c.in_ok-i.ensures) c.use_at.ensures.entry

pub returns-clause-after : goal.returns-clause-after
returns-clause-after c = λ noises.
    first_after noises c.args.unit c.args.block c.args.word c.args.entries.now.items c.in_ok-i.i c.use_at.result
    (rw c.as_slice.ensures.value at c.in_ok-i.ensures) c.use_at.ensures.entry
    ∙ ap (live_of noises) (sym c.use_at.ensures.items)

pub returns-clause-slot : goal.returns-clause-slot
returns-clause-slot c = λ n all.
    let first = rw c.as_slice.ensures.value at c.in_ok-i.ensures in
    slot_inside n c.args.entries.now.items c.in_ok-i.i c.use_at.result first.inside c.use_at.ensures.entry all

pub returns-clause-slots : goal.returns-clause-slots
returns-clause-slots c = λ n all.
    let first = rw c.as_slice.ensures.value at c.in_ok-i.ensures in
    let small = slot_inside n c.args.entries.now.items c.in_ok-i.i c.use_at.result first.inside c.use_at.ensures.entry all in
    rw c.use_at.ensures.items (slots_used n c.args.word c.in_ok-i.i c.use_at.result c.args.entries.now.items small all)
