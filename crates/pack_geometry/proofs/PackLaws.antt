-- Laws of blocks.
use Rattle.std.proofs.Common.{◌≡◌, ◌≢◌, ◌⊎◌, inl, inr, ℕ, ◌+◌, ◌*◌, ◌-◌, ◌<◌, ◌≤◌, List, ◌++◌, take, drop, length, get_or, refl, sym, ap, ◌∙◌, arith}
use Rattle.std.proofs.Math.ListN.{replicate}
use Rattle.std.proofs.lemmas.Grind.{common_steps, same_number_lists}
use Rattle.std.proofs.lemmas.List.{get_or-take, get_or-drop, get_or_append_left, get_or-append_right, get_or-replicate, length-replicate, get_or_past}
use Rattle.pack_geometry.specs.Pack.{window, grown, with_window, block_at, with_block}

zeros : (n i : ℕ) → get_or {A = ℕ} (replicate n 0) i 0 ≡ 0
zeros n i = grind (arith, length-replicate, get_or-replicate, get_or_past)

-- a window has its size
pub length-window : (size at : ℕ) (image : List ℕ) → length (window size at image) ≡ size
unfolding window
length-window size at image = grind (arith, common_steps)

get_or-append_right_here : (xs ys : List ℕ) (i : ℕ) → length xs ≤ i → get_or (xs ++ ys) i 0 ≡ get_or ys (i - length xs) 0
get_or-append_right_here xs ys i h = get_or-append_right xs ys (length xs) i 0 refl h

padded : (xs : List ℕ) (n i : ℕ) → get_or (xs ++ replicate n 0) i 0 ≡ get_or xs i 0
padded xs n i = grind (arith, zeros, get_or_append_left, get_or-append_right_here, get_or_past)

pub get_or-window : (size at : ℕ) (image : List ℕ) (i : ℕ) → i < size → get_or (window size at image) i 0 ≡ get_or image (at + i) 0
unfolding window
get_or-window size at image i h = get_or-take size (drop at image ++ replicate size 0) i 0 h ∙ padded (drop at image) size i ∙ get_or-drop at image i 0

pub length-grown : (image : List ℕ) (n : ℕ) → n ≤ length (grown image n)
unfolding grown
length-grown image n = grind (arith, common_steps)

pub get_or-grown : (image : List ℕ) (n i : ℕ) → get_or (grown image n) i 0 ≡ get_or image i 0
unfolding grown
get_or-grown image n i = padded image (n - length image) i

three_here : (xs ys zs : List ℕ) (at i : ℕ) → length xs ≡ at → i < length ys → get_or (xs ++ ys ++ zs) (at + i) 0 ≡ get_or ys i 0
three_here xs ys zs at i l h = grind (arith, common_steps)

pub get_or-with_window_here : (image bytes : List ℕ) (at i : ℕ) → i < length bytes → get_or (with_window at bytes image) (at + i) 0 ≡ get_or bytes i 0
unfolding with_window
get_or-with_window_here image bytes at i h = three_here _ bytes _ at i (grind (arith, common_steps, length-grown)) h

three_before : (xs ys zs : List ℕ) (i : ℕ) → i < length xs → get_or (xs ++ ys ++ zs) i 0 ≡ get_or xs i 0
three_before xs ys zs i h = grind (arith, common_steps)

pub get_or-with_window_before : (image bytes : List ℕ) (at i : ℕ) → i < at → get_or (with_window at bytes image) i 0 ≡ get_or image i 0
unfolding with_window
get_or-with_window_before image bytes at i h =
    let all : List ℕ = grown image (at + length bytes) in
    three_before (take at all) bytes (drop (at + length bytes) all) i (grind (arith, common_steps, length-grown))
    ∙ get_or-take at all i 0 h ∙ get_or-grown image (at + length bytes) i

three_after : (xs ys zs : List ℕ) (i n : ℕ) → length xs + length ys ≡ n → n ≤ i → get_or (xs ++ ys ++ zs) i 0 ≡ get_or zs (i - n) 0
three_after xs ys zs i n l h = grind (arith, common_steps)

pub get_or-with_window_after : (image bytes : List ℕ) (at i : ℕ) → at + length bytes ≤ i → get_or (with_window at bytes image) i 0 ≡ get_or image i 0
unfolding with_window
get_or-with_window_after image bytes at i h =
    let n : ℕ = at + length bytes in
    let all : List ℕ = grown image n in
    three_after (take at all) bytes (drop n all) i n (grind (arith, common_steps, length-grown)) h
    ∙ get_or-drop n all (i - n) 0 ∙ ap (λ k. get_or all k 0) (omega arith) ∙ get_or-grown image n i

-- what was written is read
pub window-with_window_same : (image bytes : List ℕ) (at size : ℕ) → length bytes ≡ size → window size at (with_window at bytes image) ≡ bytes
window-with_window_same image bytes at size l =
    let len : length (window size at (with_window at bytes image)) ≡ size = length-window size at (with_window at bytes image) in
    same_number_lists _ _ (len ∙ sym l) (λ k h.
    let small : k < size = omega arith in
    let inside : k < length bytes = omega arith in
    get_or-window size at (with_window at bytes image) k small ∙ get_or-with_window_here image bytes at k inside)

-- windows apart stay
pub window-with_window_other : (image bytes : List ℕ) (at size other : ℕ) → (other + size ≤ at) ⊎ (at + length bytes ≤ other) → window size other (with_window at bytes image) ≡ window size other image
window-with_window_other image bytes at size other apart =
    let len : length (window size other (with_window at bytes image)) ≡ size = length-window size other (with_window at bytes image) in
    same_number_lists _ _ (len ∙ sym (length-window size other image)) (λ k h.
    let small : k < size = omega arith in
    get_or-window size other (with_window at bytes image) k small
    ∙ elim apart [
      | inl before ↦ get_or-with_window_before image bytes at (other + k) (omega arith)
      | inr after ↦ get_or-with_window_after image bytes at (other + k) (omega arith)
    ]
    ∙ sym (get_or-window size other image k small))

pub length-block_at : (image : List ℕ) (b : ℕ) → length (block_at image b) ≡ 512
unfolding block_at
length-block_at image b = length-window 512 (512 * b) image

apart_by : (bytes : List ℕ) (b c : ℕ) → length bytes ≡ 512 → c ≢ b → (512 * c + 512 ≤ 512 * b) ⊎ (512 * b + length bytes ≤ 512 * c)
apart_by bytes b c l ne = grind arith

-- a block that was written is read
pub block_at-with_block_same : (image bytes : List ℕ) (b : ℕ) → length bytes ≡ 512 → block_at (with_block image b bytes) b ≡ bytes
unfolding block_at with_block
block_at-with_block_same image bytes b l = window-with_window_same image bytes (512 * b) 512 l

-- every other block stays
pub block_at-with_block_other : (image bytes : List ℕ) (b c : ℕ) → length bytes ≡ 512 → c ≢ b → block_at (with_block image b bytes) c ≡ block_at image c
unfolding block_at with_block
block_at-with_block_other image bytes b c l ne = window-with_window_other image bytes (512 * b) 512 (512 * c) (apart_by bytes b c l ne)
