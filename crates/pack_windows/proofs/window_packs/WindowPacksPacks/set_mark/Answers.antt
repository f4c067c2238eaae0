use Rattle.pack_windows.proofs.PartLaws.{current_marked, current_unmarked}
use Rattle.pack_windows.proofs.window_packs.WindowPacksPacks.set_mark.Goals as goal

pub invariant_of-self : goal.invariant_of-self
invariant_of-self g c =
    current_marked _ _ _ _ c.self.inside.images.items c.self.inside.marks.items c.args.unit c.args.block c.args.on c.index_mut.result.now c.write_mark.new.self c.self.invariant c.requires
    c.index_mut.ensures.value c.write_mark.ensures c.in-Ok.ensures.never_again c.in-Ok.ensures.ok

pub invariant_of-self-in-Err : goal.invariant_of-self-in-Err
invariant_of-self-in-Err g c =
    current_unmarked _ _ _ _ c.self.inside.images.items c.self.inside.marks.items c.args.unit c.args.block c.args.on c.index_mut-in-Err.result.now c.clear.new.self c.self.invariant c.requires
    c.index_mut-in-Err.ensures.value c.clear.ensures c.in-Err.ensures.never_again c.in-Err.ensures.err
