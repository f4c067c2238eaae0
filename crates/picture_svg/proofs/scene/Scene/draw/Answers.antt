use Rattle.std.proofs.Common.{◌≡◌, ◌∙◌, ap, fold, take}
use Rattle.std.proofs.lemmas.Result.{on_ok_weaker}
use Rattle.picture_svg.specs.declared.pieces.Element.TheVariants.{Svg}
use Rattle.picture_svg.specs.Legend.{explained}
use Rattle.picture_svg.specs.Nesting.{captioned, started, placed, told, with_letter}
use Rattle.picture_svg.specs.Pictures.{caption_of, lines_of_lanes}
use Rattle.picture_svg.proofs.Whole.{drawn_whole}
use Rattle.picture_svg.proofs.scene.Scene.draw.Goals as goal

pub returns : goal.returns
returns c =
    let sheet = c.args.self.now.sheet.now in
    let lines = lines_of_lanes sheet c.args.self.now.lanes.now in
    let caption : c.front-caption.result.now ≡ caption_of sheet = c.front-caption.ensures ∙ ap (take 120) c.title.ensures in
    on_ok_weaker c.put-3.result
    (drawn_whole sheet lines c.args.self.now.shown.now.listed.items c.args.out.now
    c.put.new.self c.draw_title.new.out c.draw_legend.new.out c.draw_events.new.out c.draw_table.new.out c.put-3.new.self
    (c.in_ok-put.ensures ∙ ap (λ low. started Svg (placed low c.args.out.now)) c.at-size.ensures)
    (c.in_ok-draw_title.ensures ∙ ap (λ t. captioned t c.put.new.self) caption)
    (c.in_ok-draw_legend.ensures ∙ ap (λ d. fold with_letter d explained) c.in_ok-put-2.ensures)
    (c.in_ok-draw_events.ensures ∙ c.in_ok-draw_drives.ensures
    ∙ ap (told lines) (c.in_ok-draw_script.ensures ∙ c.in_ok-draw_head.ensures ∙ ap (λ t. captioned t c.draw_legend.new.out) caption))
    c.in_ok-draw_table.ensures)
    c.put-3.ensures
