-- How often the live noise of a unit that shows can still strike: a read uses one, and no line of the trace brings more.
use Rattle.std.proofs.Common.{◌≡◌, ◌⊎◌, inl, inr, ℕ, ◌+◌, ◌-◌, ◌≤◌, ◌==◌, ◌&&◌, Bool, true, false, not, List, [], ◌∷◌, ◌++◌, Option, None, Some, refl, sym, subst, arith, rules}
use Rattle.std.specs.Prelude.{if◌then◌else◌, nat_le, filter}
use Rattle.std.proofs.lemmas.Option.{same_Some, none-some}
use Rattle.std.proofs.lemmas.Bool.Decides.{nat_tests}
use Rattle.std.proofs.lemmas.Bool.{eqb-true}
use Rattle.hardware_table.specs.declared.NoiseSpan.{NoiseSpan}
use Rattle.hardware_table.specs.declared.NoiseSpan.TheVariants.{Times, Until}
use Rattle.hardware_table.specs.Noise.{LiveNoise, is_at, oldest, flips, is_ended_by, is_spent, is_behind, sector_number, with_noise, span_left, noise_left, after_strike}
use Rattle.driver_laws.proofs.rules.Queues.{same}
use Rattle.driver_laws.specs.rules.Strikes.{strikes_while}
use Rattle.driver_laws.proofs.rules.Stages.{first_of}

-- live noise strikes once more at least
abbrev pub left_while : NoiseSpan → ℕ
left_while (Times n) = 1 + (n - 1)
left_while (Until code) = 28

module _ (shows : List ℕ → Bool) (x : ℕ) where
  abbrev pub left_by : LiveNoise → ℕ
  left_by noise = if (x == noise.unit) && shows noise.places then left_while noise.span else 0

  abbrev pub left_in : List LiveNoise → ℕ
  left_in [] = 0
  left_in (noise ∷ live) = left_by noise + left_in live

  join : (ms ns : List LiveNoise) → left_in (ms ++ ns) ≡ left_in ms + left_in ns
  join [] ns = search rules
  join (m ∷ ms) ns = sums (left_by m) (left_in (ms ++ ns)) (left_in ms) (left_in ns) (join ms ns)
    where
      sums : (a b c d : ℕ) → b ≡ c + d → a + b ≡ a + c + d
      sums a b c d e = omega (arith, e)

  -- in two parts
  parts : (p : LiveNoise → Bool) (live : List LiveNoise) → left_in (filter (λ (n : LiveNoise). not (p n)) live) + left_in (filter p live) ≡ left_in live
  parts p [] = refl
  parts p (n ∷ live) = at (p n) (parts p live)
    where
      first : (a b c d : ℕ) → b + c ≡ d → b + (a + c) ≡ a + d
      first a b c d e = omega (arith, e)

      second : (a b c d : ℕ) → b + c ≡ d → a + b + c ≡ a + d
      second a b c d e = omega (arith, e)

      at : (b : Bool) → left_in (filter (λ (m : LiveNoise). not (p m)) live) + left_in (filter p live) ≡ left_in live
          → left_in (if not b then n ∷ filter (λ (m : LiveNoise). not (p m)) live else filter (λ (m : LiveNoise). not (p m)) live)
          + left_in (if b then n ∷ filter p live else filter p live) ≡ left_by n + left_in live
      at true behind = first (left_by n) (left_in (filter (λ (m : LiveNoise). not (p m)) live)) (left_in (filter p live)) (left_in live) behind
      at false behind = second (left_by n) (left_in (filter (λ (m : LiveNoise). not (p m)) live)) (left_in (filter p live)) (left_in live) behind

  -- NOISE THAT IS ARMED brings what it strikes.
  brings : (noise : LiveNoise) → is_spent noise.span ≡ false → left_by noise ≤ (if (x == noise.unit) && shows noise.places then strikes_while noise.span else 0)
  brings noise lives = search rules

  pub armed_more : (noise : LiveNoise) (live : List LiveNoise)
      → left_in (with_noise noise live) ≤ left_in live + (if (x == noise.unit) && shows noise.places then strikes_while noise.span else 0)
  armed_more noise live = at (is_spent noise.span) refl
    where
      p : LiveNoise → Bool
      p = is_behind (sector_number noise.unit noise.block)

      sums : (whole a b c n most : ℕ) → whole ≡ a + (n + b) → a + b ≡ c → n ≤ most → whole ≤ c + most
      sums whole a b c n most e f g = omega (arith, e, f, g)

      none : (a b : ℕ) → a ≤ a + b
      none a b = omega arith

      at : (b : Bool) → is_spent noise.span ≡ b
          → left_in (if b then live else filter (λ (other : LiveNoise). not (is_behind (sector_number noise.unit noise.block) other)) live ++ noise ∷ filter (is_behind (sector_number noise.unit noise.block)) live)
          ≤ left_in live + (if (x == noise.unit) && shows noise.places then strikes_while noise.span else 0)
      at true e = none (left_in live) _
      at false e = sums _ (left_in (filter (λ (other : LiveNoise). not (is_behind (sector_number noise.unit noise.block) other)) live)) (left_in (filter (is_behind (sector_number noise.unit noise.block)) live)) (left_in live) (left_by noise) _
          (join (filter (λ (other : LiveNoise). not (is_behind (sector_number noise.unit noise.block) other)) live) (noise ∷ filter (is_behind (sector_number noise.unit noise.block)) live))
          (parts (is_behind (sector_number noise.unit noise.block)) live) (brings noise e)

  -- A READ uses it, or none.
  abbrev rest_of : Bool → Option NoiseSpan → ℕ
  rest_of b None = 0
  rest_of b (Some span) = (if b then left_while span else 0) + 0

  rest_is : (noise : LiveNoise) (rest : Option NoiseSpan) → left_in (noise_left noise rest) ≡ rest_of ((x == noise.unit) && shows noise.places) rest
  rest_is noise None = refl
  rest_is noise (Some span) = refl

  hidden_rest : (rest : Option NoiseSpan) → rest_of false rest ≤ 0
  hidden_rest None = omega arith
  hidden_rest (Some span) = omega arith

  fewer : (n : ℕ) → nat_le n 1 ≡ false → 1 + (1 + (n - 1 - 1) + 0) ≤ 1 + (n - 1)
  fewer n e = grind (arith, nat_tests)

  used : (n : ℕ) (b : Bool) → nat_le n 1 ≡ b → 1 + rest_of true (if b then None else Some (Times (n - 1))) ≤ 1 + (n - 1)
  used n true e = omega arith
  used n false e = fewer n e

  kept : (code : _) (b : Bool) → rest_of true (if b then None else Some (Until code)) ≤ 28
  kept code true = omega arith
  kept code false = omega arith

  rest_less : (word : ℕ) (b : Bool) (span : NoiseSpan) → rest_of b (span_left word span) ≤ (if b then left_while span else 0)
  rest_less word b span = search rules

  pub struck_less : (unit block word : ℕ) (live : List LiveNoise) → left_in (after_strike unit block word live) ≤ left_in live
  struck_less unit block word [] = omega arith
  struck_less unit block word (noise ∷ rest) = at (is_at unit block noise) (struck_less unit block word rest)
    where
      first : (whole a b n : ℕ) → whole ≡ a + b → a ≤ n → whole ≤ n + b
      first whole a b n e f = omega (arith, e, f)

      second : (n a b : ℕ) → a ≤ b → n + a ≤ n + b
      second n a b e = omega (arith, e)

      at : (b : Bool) → left_in (after_strike unit block word rest) ≤ left_in rest
          → left_in (if b then noise_left noise (span_left word noise.span) ++ rest else noise ∷ after_strike unit block word rest) ≤ left_by noise + left_in rest
      at true behind = first (left_in (noise_left noise (span_left word noise.span) ++ rest)) (left_in (noise_left noise (span_left word noise.span))) (left_in rest) (left_by noise)
          (join (noise_left noise (span_left word noise.span)) rest)
          (subst (λ z. z ≤ left_by noise) (sym (rest_is noise (span_left word noise.span))) (rest_less word ((x == noise.unit) && shows noise.places) noise.span))
      at false behind = second (left_by noise) (left_in (after_strike unit block word rest)) (left_in rest) behind

  -- NOISE THAT STRIKES and shows can strike once less, or has no end.
  strict : (word : ℕ) (span : NoiseSpan) → (28 ≤ left_while span) ⊎ (1 + rest_of true (span_left word span) ≤ left_while span)
  strict word (Times n) = inr (used n (nat_le n 1) refl)
  strict word (Until code) = inl (omega arith)

  own : (noise : LiveNoise) (block : ℕ) → is_at x block noise ≡ true → shows noise.places ≡ true → (x == noise.unit) && shows noise.places ≡ true
  own noise block here shown = rw shown (rw (← eqb-true noise.unit x (first_of (noise.unit == x) (noise.block == block) here)) (rw (same noise.unit) refl))

  flips_is : (b : Bool) (places shown : List ℕ) → (if b then None else Some places) ≡ Some shown → places ≡ shown
  flips_is true places shown is = absurd (none-some shown is)
  flips_is false places shown is = same_Some places shown is

  pub strikes_one : (block word : ℕ) (live : List LiveNoise) (shown : List ℕ) → flips word (oldest x block live) ≡ Some shown → shows shown ≡ true
      → (28 ≤ left_in live) ⊎ (1 + left_in (after_strike x block word live) ≤ left_in live)
  strikes_one block word [] shown is showing = absurd (none-some shown is)
  strikes_one block word (noise ∷ rest) shown is showing = at (is_at x block noise) refl (λ found. strikes_one block word rest shown found showing) is
    where
      most : (n a : ℕ) → 28 ≤ n → 28 ≤ n + a
      most n a e = omega (arith, e)

      first : (whole a b n : ℕ) → whole ≡ a + b → 1 + a ≤ n → 1 + whole ≤ n + b
      first whole a b n e f = omega (arith, e, f)

      here : is_at x block noise ≡ true → flips word (Some noise) ≡ Some shown
          → (28 ≤ left_by noise + left_in rest) ⊎ (1 + left_in (noise_left noise (span_left word noise.span) ++ rest) ≤ left_by noise + left_in rest)
      here is_here found = elim (strict word noise.span) [
        | inl endless ↦ inl (most (left_by noise) (left_in rest) (subst (λ z. 28 ≤ (if z then left_while noise.span else 0)) (sym mine) endless))
        | inr less ↦ inr (first (left_in (noise_left noise (span_left word noise.span) ++ rest)) (left_in (noise_left noise (span_left word noise.span))) (left_in rest) (left_by noise)
            (join (noise_left noise (span_left word noise.span)) rest)
            (subst (λ z. 1 + z ≤ left_by noise) (sym (rest_is noise (span_left word noise.span)))
            (subst (λ z. 1 + rest_of z (span_left word noise.span) ≤ (if z then left_while noise.span else 0)) (sym mine) less)))
      ]
        where
          mine : (x == noise.unit) && shows noise.places ≡ true
          mine = own noise block is_here (subst (λ z. shows z ≡ true) (sym (flips_is (is_ended_by word noise.span) noise.places shown found)) showing)

      second : (n a b : ℕ) → (28 ≤ b) ⊎ (1 + a ≤ b) → (28 ≤ n + b) ⊎ (1 + (n + a) ≤ n + b)
      second n a b (inl e) = inl (omega (arith, e))
      second n a b (inr e) = inr (omega (arith, e))

      at : (b : Bool) → is_at x block noise ≡ b
          → (flips word (oldest x block rest) ≡ Some shown → (28 ≤ left_in rest) ⊎ (1 + left_in (after_strike x block word rest) ≤ left_in rest))
          → flips word (if b then Some noise else oldest x block rest) ≡ Some shown
          → (28 ≤ left_by noise + left_in rest) ⊎ (1 + left_in (if b then noise_left noise (span_left word noise.span) ++ rest else noise ∷ after_strike x block word rest) ≤ left_by noise + left_in rest)
      at true e behind found = here e found
      at false e behind found = second (left_by noise) (left_in (after_strike x block word rest)) (left_in rest) (behind found)
