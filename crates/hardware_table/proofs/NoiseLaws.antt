-- Live noise has the unit, the block and the places of noise that was armed.
use Rattle.std.proofs.Common.{◌≡◌, ℕ, Bool, true, false, not, List, [], ◌∷◌, ◌++◌, Option, None, Some, refl, arith, suc, get_or}
use Rattle.std.specs.List.{filter, All}
use Rattle.std.proofs.lemmas.List.Elements.{All-append, All-cons, All-filter, All-contains_itself}
use Rattle.hardware_table.specs.declared.NoiseSpan.{NoiseSpan}
use Rattle.hardware_table.specs.Noise.{LiveNoise, IsAmong, is_at, sector_number, is_behind, is_spent, with_noise, noise_left, span_left, after_strike}

-- a proof by the two values of a test
at : {P : Type 0} → (b : Bool) → (b ≡ true → P) → (b ≡ false → P) → P
at {P} b one other = (elim b as (λ v. (v ≡ true → P) → (v ≡ false → P) → P) [ true ↦ λ t f. t refl | false ↦ λ t f. f refl ]) one other

-- what noise has in its unit, block and places
all_next : {X : Type 0} → (P : X → Type 0) → (x : X) → (xs : List X) → All P (x ∷ xs) → All P xs
all_next P x xs all = λ k d lt. all (suc k) d (omega arith)

all_first : {X : Type 0} → (P : X → Type 0) → (x : X) → (xs : List X) → All P (x ∷ xs) → P x
all_first P x xs all = all 0 x (omega arith)

among_itself : (live : List LiveNoise) → All (IsAmong live) live
among_itself live k d lt = record { kin = get_or live k d; listed = All-contains_itself live k d lt; unit = refl; block = refl; places = refl }

pub among_armed : (live : List LiveNoise) → (noise : LiveNoise) → All (IsAmong (noise ∷ live)) (with_noise noise live)
among_armed live noise = at (is_spent noise.span) (λ e. rw e old) (λ e. rw e (All-append P (filter before live) (noise ∷ filter after live) (All-filter before P live old)
    (All-cons P noise (filter after live) (all_first P noise live whole) (All-filter after P live old))))
  where
    P : LiveNoise → Type 0
    P = IsAmong (noise ∷ live)

    whole : All (IsAmong (noise ∷ live)) (noise ∷ live)
    whole = among_itself (noise ∷ live)

    old : All (IsAmong (noise ∷ live)) live
    old = all_next (IsAmong (noise ∷ live)) noise live whole

    after : LiveNoise → Bool
    after other = is_behind (sector_number noise.unit noise.block) other

    before : LiveNoise → Bool
    before other = not (is_behind (sector_number noise.unit noise.block) other)

left_among : (P : LiveNoise → Type 0) → (noise : LiveNoise) → ((s : NoiseSpan) → P (record noise { span = s }))
    → (left : Option NoiseSpan) → (rest : List LiveNoise) → All P rest → All P (noise_left noise left ++ rest)
left_among P noise same None rest all = all
left_among P noise same (Some s) rest all = All-cons P (record noise { span = s }) rest (same s) all

struck_keeps : (P : LiveNoise → Type 0) → ((noise : LiveNoise) → (s : NoiseSpan) → P noise → P (record noise { span = s }))
    → (live : List LiveNoise) → (unit block word : ℕ) → All P live → All P (after_strike unit block word live)
struck_keeps P same [] unit block word all = all
struck_keeps P same (noise ∷ rest) unit block word all =
    at (is_at unit block noise)
    (λ e. rw e (left_among P noise (λ s. same noise s (all_first P noise rest all)) (span_left word noise.span) rest (all_next P noise rest all)))
    (λ e. rw e (All-cons P noise (after_strike unit block word rest) (all_first P noise rest all)
    (struck_keeps P same rest unit block word (all_next P noise rest all))))

pub among_struck : (live : List LiveNoise) → (unit block word : ℕ) → All (IsAmong live) (after_strike unit block word live)
among_struck live unit block word = struck_keeps (IsAmong live)
    (λ noise s h. record { kin = h.kin; listed = h.listed; unit = h.unit; block = h.block; places = h.places })
    live unit block word (among_itself live)
