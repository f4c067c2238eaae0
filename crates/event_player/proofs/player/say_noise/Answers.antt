use Rattle.std.proofs.Common.{sym, subst, ◌∙◌}
use Rattle.fire_code.specs.Noise.{IsNoise, Classes}
use Rattle.event_player.proofs.SaysLaws.{text_same}
use Rattle.event_player.proofs.player.say_noise.Goals as goal

pub returns-clause-says : goal.returns-clause-says
returns-clause-says g c = λ live same.
    let is : IsNoise live.places = subst IsNoise (sym same) c.places.ensures.noise in
    let classes : Classes c.class_of.result live.places = subst (Classes c.class_of.result) (sym same) c.class_of.ensures.class in
    text_same _ c.say.ensures.says (c.as_bytes.ensures.text ∙ c.noise_line-line.ensures.said live is classes)
