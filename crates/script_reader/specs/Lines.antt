-- The lines of a text.
use Rattle.std.specs.Prelude.{ℕ, ◌-◌, ◌==◌, if◌then◌else◌, List, [], ◌∷◌, length, map, take, slice_index}

-- a byte in front of the first of some lists
abbrev pub onto_first : ℕ → List (List ℕ) → List (List ℕ)
onto_first b [] = (b ∷ []) ∷ []
onto_first b (l ∷ ls) = (b ∷ l) ∷ ls

-- The pieces of a text, each ended by LF. A last piece without LF counts where it is not empty.
abbrev pub pieces_of : List ℕ → List (List ℕ)
pieces_of [] = []
pieces_of (b ∷ bs) = if b == 10 then [] ∷ pieces_of bs else onto_first b (pieces_of bs)

-- a piece without the CR at its very end
abbrev pub without_cr : List ℕ → List ℕ
without_cr piece = if slice_index piece (length piece - 1) == 13 then take (length piece - 1) piece else piece

-- the lines of a text
abbrev pub lines_of : List ℕ → List (List ℕ)
lines_of text = map without_cr (pieces_of text)
