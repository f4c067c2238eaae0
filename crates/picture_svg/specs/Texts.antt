-- THE TEXT OF A DRAWING: what stands behind a text with each piece more.
use Rattle.std.specs.Prelude.{◌≡◌, ℕ, ◌==◌, nat_le, Bool, ◌&&◌, if◌then◌else◌, List, [], ◌∷◌, ◌++◌, fold, codes, decimal}
use Rattle.drive_pictures.specs.declared.letters.Letter.{Letter}
use Rattle.drive_pictures.specs.declared.requests.Request.{Request}
use Rattle.drive_pictures.specs.Words.{letter_word, outcome_word}
use Rattle.picture_svg.specs.declared.pieces.Element.{Element}
use Rattle.picture_svg.specs.declared.pieces.Element.TheVariants as element
use Rattle.picture_svg.specs.declared.pieces.Opening.{Opening}
use Rattle.picture_svg.specs.declared.pieces.Opening.TheVariants as opening
use Rattle.picture_svg.specs.declared.pieces.Point.{Point}
use Rattle.picture_svg.specs.declared.pieces.Shape.{Shape}
use Rattle.picture_svg.specs.declared.pieces.Shape.TheVariants as shape
use Rattle.picture_svg.specs.declared.pieces.Piece.{Piece}
use Rattle.picture_svg.specs.declared.pieces.Piece.TheVariants as piece
use Rattle.picture_svg.specs.declared.style.TheConstants.{STYLE}
use Rattle.picture_svg.specs.Legend.{pattern_of}
use Rattle.picture_svg.specs.Nesting.{Drawn, drawn}

-- WORDS: the signs of elements are written out, and what is not printing is a question mark
abbrev pub is_printing : ℕ → Bool
is_printing b = nat_le 32 b && nat_le b 126

abbrev pub escaped : ℕ → List ℕ
escaped b =
    if b == 38
    then codes "&amp;"
    else if b == 60
    then codes "&lt;"
    else if b == 62 then codes "&gt;" else if is_printing b then b ∷ [] else codes "?"

abbrev pub with_byte : List ℕ → ℕ → List ℕ
with_byte text b = text ++ escaped b

unfoldable pub with_words : List ℕ → List ℕ → List ℕ
with_words bytes text = fold with_byte text bytes

-- A TEMPLATE: in it C stands for a class or for words, X and Y for the numbers of a point, and R and D for those of another, or of a size
abbrev pub slot_of : List ℕ → Point → Point → ℕ → List ℕ
slot_of class from to b =
    if b == 67
    then class
    else if b == 88
    then decimal from.x
    else if b == 89
    then decimal from.y
    else if b == 82 then decimal to.x else if b == 68 then decimal to.y else b ∷ []

abbrev pub with_slot : List ℕ → Point → Point → List ℕ → ℕ → List ℕ
with_slot class from to text b = text ++ slot_of class from to b

unfoldable pub with_template : List ℕ → List ℕ → Point → Point → List ℕ → List ℕ
with_template template class from to text = fold (with_slot class from to) text template

-- THE START OF AN ELEMENT, AND ITS END
unfoldable pub opening_text : Opening → List ℕ
opening_text opening.Svg =
    codes "<svg xmlns=\"http://www.w3.org/2000/svg\" width=\"X\" height=\"Y\" viewBox=\"0 0 X Y\" role=\"graphics-document document\" aria-labelledby=\"t d\">\n"
opening_text opening.Group = codes "<g>"
opening_text opening.Title = codes "<title>"
opening_text opening.Caption = codes "<title id=\"t\">"
opening_text opening.Desc = codes "<desc id=\"d\">"
opening_text opening.Text = codes "<text class=\"C\" x=\"X\" y=\"Y\">"
opening_text opening.Upwards = codes "<text class=\"C\" transform=\"translate(X Y)rotate(-90)\">"
opening_text opening.Line = codes "<polyline class=\"C\" points=\"X,Y"

unfoldable pub with_end : Element → List ℕ → List ℕ
with_end element.Svg text = text ++ codes "</svg>\n"
with_end element.Group text = text ++ codes "</g>\n"
with_end element.Title text = text ++ codes "</title>\n"
with_end element.Desc text = text ++ codes "</desc>\n"
with_end element.Text text = text ++ codes "</text>\n"
with_end element.Line text = text ++ codes "\"/>\n"

-- ELEMENTS WITH NOTHING IN THEM
unfoldable pub shape_text : Shape → List ℕ
shape_text shape.Rect = codes "<rect class=\"C\" x=\"X\" y=\"Y\" width=\"R\" height=\"D\"/>\n"
shape_text shape.Dot = codes "<circle class=\"C\" cx=\"X\" cy=\"Y\" r=\"2\"/>\n"
shape_text shape.Across = codes "<path class=\"C\" d=\"MX YHR\"/>\n"
shape_text shape.TwoAcross = codes "<path class=\"C\" d=\"MX YHRMX DHR\"/>\n"
shape_text shape.Down = codes "<path class=\"C\" d=\"MX YVD\"/>\n"
shape_text shape.Slope = codes "<path class=\"C\" d=\"MX YLR D\"/>\n"
shape_text shape.Bracket = codes "<path class=\"C\" d=\"MX Yv-4hR\"/>\n"
shape_text shape.Bar = codes "<path class=\"C\" d=\"MX Yv12\"/>\n"
shape_text shape.Tick = codes "<path class=\"C\" d=\"MX Yl2 3l4 -6\"/>\n"
shape_text shape.Diamond = codes "<path class=\"C\" d=\"MX Yl-3 4l3 4l3 -4z\"/>\n"
shape_text shape.Triangle = codes "<path class=\"C\" d=\"MX Yl-3 6h6z\"/>\n"

abbrev pub with_filled : Letter → Point → Point → List ℕ → List ℕ
with_filled l corner size text =
    with_template (codes "<rect class=\"r\" x=\"X\" y=\"Y\" width=\"R\" height=\"D\" fill=\"url(#C)\"/>\n") (pattern_of l) corner size text

-- WHAT IS TOLD OF A REQUEST
abbrev pub with_request : Request → List ℕ → List ℕ
with_request r text =
    with_template (codes "request X: asked at line Y, answered at line R: C") (outcome_word r.outcome)
    (record { x = r.id; y = r.line }) (record { x = r.ended_line; y = 0 }) text

-- A PIECE MORE
abbrev pub with_piece : List ℕ → Piece → List ℕ
with_piece text (piece.Start o class at) = with_template (opening_text o) class.now at at text
with_piece text (piece.End e) = with_end e text
with_piece text (piece.Shape s class from to) = with_template (shape_text s) class.now from to text
with_piece text (piece.Filled l corner size) = with_filled l corner size text
with_piece text (piece.Corner p) = with_template (codes " X,Y") [] p p text
with_piece text (piece.Word word) = with_words word.now text
with_piece text (piece.Number n) = text ++ decimal n
with_piece text (piece.Said bytes) = with_words bytes.now text
with_piece text (piece.Caption caption) = with_words caption.now text
with_piece text (piece.Told line) = with_words line.now text
with_piece text (piece.Row r) = with_request r text
with_piece text (piece.Meaning l) = text ++ letter_word l
with_piece text piece.Feed = text ++ codes "\n"
with_piece text piece.Style = text ++ STYLE.now

-- A DRAWING IS WRITTEN AS A TEXT. Each coordinate in its pieces is below 20,000, as their points are.
pub record IsWritten (d : Drawn) (text : List ℕ) : Type 0 where
  pub pieces : List Piece
  pub text_is : text ≡ fold with_piece [] pieces
  pub drawn_is : drawn pieces ≡ d
