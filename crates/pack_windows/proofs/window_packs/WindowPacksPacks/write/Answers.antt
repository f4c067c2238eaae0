use Rattle.pack_windows.proofs.PartLaws.{current_written, current_unwritten}
use Rattle.pack_windows.proofs.window_packs.WindowPacksPacks.write.Goals as goal

pub invariant_of-self : goal.invariant_of-self
invariant_of-self g c =
    current_written _ _ _ _ c.self.inside.images.items c.self.inside.marks.items c.args.unit c.args.block c.args.from.now c.index_mut.result.now c.write_block.new.self c.self.invariant c.requires
    c.index_mut.ensures.value c.write_block.ensures c.in-Ok.ensures.never_again c.in-Ok.ensures.ok

pub invariant_of-self-in-Err : goal.invariant_of-self-in-Err
invariant_of-self-in-Err g c =
    current_unwritten _ _ _ _ c.self.inside.images.items c.self.inside.marks.items c.args.unit c.args.block c.args.from.now c.index_mut-in-Err.result.now c.clear.new.self c.self.invariant c.requires
    c.index_mut-in-Err.ensures.value c.clear.ensures c.in-Err.ensures.never_again c.in-Err.ensures.err
