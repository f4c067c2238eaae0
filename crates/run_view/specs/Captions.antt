-- THE CAPTION OF A RUN: what stands behind `#` on the first line of its script, without the blanks around it.
use Rattle.std.specs.Prelude.{ℕ, ◌==◌, if◌then◌else◌, List, [], ◌∷◌, slice_index_or}
use Rattle.script_reader.specs.Lines.{lines_of}

-- without the blanks before it
abbrev pub without_front : List ℕ → List ℕ
without_front [] = []
without_front (b ∷ bs) = if b == 32 then without_front bs else b ∷ bs

-- without those behind it
abbrev pub unless_blank : ℕ → List ℕ → List ℕ
unless_blank b [] = if b == 32 then [] else b ∷ []
unless_blank b (c ∷ cs) = b ∷ c ∷ cs

abbrev pub without_back : List ℕ → List ℕ
without_back [] = []
without_back (b ∷ bs) = unless_blank b (without_back bs)

-- behind `#`
abbrev pub caption_in : List ℕ → List ℕ
caption_in [] = []
caption_in (b ∷ bs) = if b == 35 then without_back (without_front bs) else []

abbrev pub caption_of : List ℕ → List ℕ
caption_of script = caption_in (slice_index_or (lines_of script) 0 [])
