use Rattle.driver_machine.proofs.ecc_repair.Laws.{places_flipped, others_stay, restored_places, restored_word}
use Rattle.driver_machine.proofs.ecc_repair.Fronts.{repaired-front}
use Rattle.driver_machine.proofs.ecc_repair.repair_law.Goals as goal

pub returns : goal.returns
returns c = record { places = places_flipped; others = others_stay; cut = repaired-front; restored = restored_places; judged = restored_word }
