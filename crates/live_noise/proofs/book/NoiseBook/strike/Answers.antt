use Rattle.std.proofs.Common.{length}
use Rattle.live_noise.proofs.book.NoiseBook.strike.Goals as goal

pub noise_in-requires : goal.noise_in-requires
noise_in-requires c = rw c.as_slice.ensures.value (c.in_ok-entry.ensures.slot (length c.self.inside.noises.items) c.self.invariant.slots)
