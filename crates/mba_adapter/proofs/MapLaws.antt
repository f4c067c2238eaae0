-- What each map register holds.
use Rattle.std.proofs.Common.{◌≡◌, ◌≤◌, ◌<◌, ◌+◌, ◌-◌, ℕ, length, List, ◌++◌, take, drop, replicate, slice_index, get_or, zero, suc, refl, ap, ◌∙◌, arith}
use Rattle.std.proofs.lemmas.List.{drop-replicate, get_or_append_left, get_or-take, get_or-drop, get_or-append_right, length-take-le, length-drop}
use Rattle.std.proofs.lemmas.Bool.Decides.{nat_tests}
use Rattle.main_memory.specs.Frames.{frames_needed}
use Rattle.hardware_table.specs.Adapter.{registers_of, bytes_between, registers_used}

pub put_first-registers : (size : ℕ) → (frames : List ℕ) → frames ++ drop (length frames) (replicate size 0) ≡ registers_of size frames
unfolding registers_of
put_first-registers size frames = ap (λ zeros. frames ++ zeros) (drop-replicate (length frames) size 0)

-- a buffer has the frames that a transfer of its blocks uses
pub frames_enough : (count blocks last offset skip : ℕ) → 1 ≤ count → 1 ≤ last → last ≤ 512 → skip + count ≤ blocks
    → skip + registers_used (bytes_between blocks last skip count) offset ≤ frames_needed blocks offset last
frames_enough count blocks last offset skip some one few inside = grind (arith, nat_tests)

pub registers-used : (size : ℕ) → (frames : List ℕ) → (skip used j : ℕ) → skip + used ≤ length frames → j < used
    → slice_index (registers_of size (take used (drop skip frames))) j ≡ slice_index frames (skip + j)
unfolding registers_of
registers-used size frames skip used j room lt =
    let whole : length (take used (drop skip frames)) ≡ used = length-take-le used (drop skip frames) (omega (arith, length-drop skip frames)) in
    get_or_append_left (take used (drop skip frames)) (replicate (size - length (take used (drop skip frames))) 0) 0 j (omega arith)
    ∙ get_or-take used (drop skip frames) j 0 lt
    ∙ get_or-drop skip frames j 0

pub registers-rest : (size : ℕ) → (frames : List ℕ) → (skip used j : ℕ) → skip + used ≤ length frames → used ≤ j
    → slice_index (registers_of size (take used (drop skip frames))) j ≡ 0
unfolding registers_of
registers-rest size frames skip used j room le =
    get_or-append_right (take used (drop skip frames)) _ used j 0
    (length-take-le used (drop skip frames) (omega (arith, length-drop skip frames))) le
    ∙ zero_at (size - length (take used (drop skip frames))) (j - used)
  where
    zero_at : (n i : ℕ) → get_or {A = ℕ} (replicate n 0) i 0 ≡ 0
    zero_at zero i = refl
    zero_at (suc n) zero = refl
    zero_at (suc n) (suc i) = zero_at n i
