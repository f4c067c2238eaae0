-- WHAT A DRAWING COMES TO, piece by piece: which elements are open, and what was told.
use Rattle.std.specs.Prelude.{ℕ, Bool, true, false, not, ◌||◌, ◌&&◌, List, [], ◌∷◌, ◌++◌, fold}
use Rattle.drive_pictures.specs.declared.letters.Letter.{Letter}
use Rattle.drive_pictures.specs.declared.requests.Request.{Request}
use Rattle.picture_svg.specs.declared.pieces.Element.{Element}
use Rattle.picture_svg.specs.declared.pieces.Element.TheVariants as element
use Rattle.picture_svg.specs.declared.pieces.Opening.{Opening}
use Rattle.picture_svg.specs.declared.pieces.Opening.TheVariants as opening
use Rattle.picture_svg.specs.declared.pieces.Piece.{Piece}
use Rattle.picture_svg.specs.declared.pieces.Piece.TheVariants as piece
use Rattle.picture_svg.specs.Places.{is_low}

-- the elements that are open, the innermost first; whether an element ended that was not the innermost, something was told
-- where it does not belong, or a coordinate was too high; the lines that were told in tooltips, the captions, the requests of the table's rows, and the letters
-- that the legend explains
pub record Drawn : Type 0 where
  pub within : List Element
  pub broken : Bool
  pub told : List (List ℕ)
  pub captions : List (List ℕ)
  pub rows : List Request
  pub legend : List Letter

abbrev pub blank : Drawn
blank = record { within = []; broken = false; told = []; captions = []; rows = []; legend = [] }

-- the element that a start opens
abbrev pub element_of : Opening → Element
element_of opening.Svg = element.Svg
element_of opening.Group = element.Group
element_of opening.Title = element.Title
element_of opening.Caption = element.Title
element_of opening.Desc = element.Desc
element_of opening.Text = element.Text
element_of opening.Upwards = element.Text
element_of opening.Line = element.Line

abbrev pub is_same : Element → Element → Bool
is_same element.Svg element.Svg = true
is_same element.Group element.Group = true
is_same element.Title element.Title = true
is_same element.Desc element.Desc = true
is_same element.Text element.Text = true
is_same element.Line element.Line = true
is_same e f = false

-- AN ELEMENT STARTS, AND ENDS: it has to be the innermost
abbrev pub started : Element → Drawn → Drawn
started e d = record d { within = e ∷ d.within }

abbrev pub is_innermost : Element → List Element → Bool
is_innermost e [] = false
is_innermost e (f ∷ rest) = is_same e f

abbrev pub ended_in : List Element → Element → Drawn → Drawn
ended_in [] e d = record d { broken = true }
ended_in (f ∷ rest) e d = record d { within = rest; broken = not (is_same e f) || d.broken }

abbrev pub ended : Element → Drawn → Drawn
ended e d = ended_in d.within e d

-- what belongs in an element stands in another
abbrev pub inside : Element → Drawn → Drawn
inside e d = record d { broken = not (is_innermost e d.within) || d.broken }

-- coordinates are low, or not
abbrev pub placed : Bool → Drawn → Drawn
placed true d = d
placed false d = record d { broken = true }

-- LINES OF THE RUN ARE TOLD
abbrev pub told : List (List ℕ) → Drawn → Drawn
told lines d = record d { told = d.told ++ lines }

abbrev pub captioned : List ℕ → Drawn → Drawn
captioned caption d = record d { captions = d.captions ++ caption ∷ [] }

abbrev pub with_row : Drawn → Request → Drawn
with_row d r = record d { rows = d.rows ++ r ∷ [] }

abbrev pub with_letter : Drawn → Letter → Drawn
with_letter d l = record d { legend = d.legend ++ l ∷ [] }

-- A PIECE MORE
abbrev pub drawn_with : Drawn → Piece → Drawn
drawn_with d (piece.Start o class at) = started (element_of o) (placed (is_low at) d)
drawn_with d (piece.End e) = ended e d
drawn_with d (piece.Caption caption) = captioned caption.now d
drawn_with d (piece.Told line) = told (line.now ∷ []) (inside element.Title d)
drawn_with d (piece.Row r) = with_row (inside element.Title d) r
drawn_with d (piece.Meaning l) = with_letter (inside element.Text d) l
drawn_with d (piece.Corner p) = inside element.Line (placed (is_low p) d)
drawn_with d (piece.Shape s class from to) = placed (is_low from && is_low to) d
drawn_with d (piece.Filled l corner size) = placed (is_low corner && is_low size) d
drawn_with d p = d

abbrev pub drawn : List Piece → Drawn
drawn pieces = fold drawn_with blank pieces
