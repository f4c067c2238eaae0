-- Frames that are free: where fewer than all are lent, some number below their count is none of them.
use Rattle.std.proofs.Common.{◌≡◌, ◌≢◌, ◌⊎◌, inl, inr, ℕ, zero, suc, ◌+◌, ◌<◌, ◌≤◌, ◌==◌, Bool, true, false, List, [], ◌∷◌, ◌++◌, length, Option, Some, None, refl, sym, ap, subst, arith, ◌∙◌, length-append}
use Rattle.std.specs.Prelude.{Contains, slice_index_or}
use Rattle.std.proofs.lemmas.Bool.Decides.{eqb_tells}
use Rattle.driver_machine.specs.World.{Held, frames_of}
use Rattle.driver_machine.specs.Acts.{kept_by, without}
use Rattle.driver_machine.specs.Sound.{Among, Once}
use Rattle.driver_laws.proofs.invariant.SlotsLists.{Contains-none, Contains-cases}
use Rattle.driver_laws.specs.Requests.{frames_lent}

-- A LIST WITHOUT A NUMBER is no longer, is shorter where the number was there, and has every other one.
no_longer : (u : ℕ) (xs : List ℕ) → length (without u xs) ≤ length xs
no_longer u [] = omega arith
no_longer u (x ∷ xs) = at (x == u) (no_longer u xs)
  where
    at : (b : Bool) → length (without u xs) ≤ length xs → length (kept_by b x (without u xs)) ≤ suc (length xs)
    at true le = omega (arith, le)
    at false le = omega (arith, le)

is_same : (u x : ℕ) → u ≡ x → (x == u) ≡ true
is_same u x e = elim (eqb_tells x u) [ inl same ↦ same.0 | inr other ↦ absurd (other.1 (sym e)) ]

shorter : (u : ℕ) (xs : List ℕ) → Among u xs → length (without u xs) < length xs
shorter u [] m = absurd m
shorter u (x ∷ xs) (inl here) = subst (λ (b : Bool). length (kept_by b x (without u xs)) < suc (length xs)) (sym (is_same u x here)) (below (no_longer u xs))
  where
    below : length (without u xs) ≤ length xs → length (without u xs) < suc (length xs)
    below le = omega (arith, le)
shorter u (x ∷ xs) (inr later) = at (x == u) (shorter u xs later)
  where
    at : (b : Bool) → length (without u xs) < length xs → length (kept_by b x (without u xs)) < suc (length xs)
    at true less = omega (arith, less)
    at false less = omega (arith, less)

stays : (y u : ℕ) (xs : List ℕ) → y ≢ u → Among y xs → Among y (without u xs)
stays y u [] other m = m
stays y u (x ∷ xs) other (inl here) = at (eqb_tells x u)
  where
    at : ((x == u ≡ true) × (x ≡ u)) ⊎ ((x == u ≡ false) × (x ≢ u)) → Among y (kept_by (x == u) x (without u xs))
    at (inl same) = absurd (other (here ∙ same.1))
    at (inr not) = subst (λ (b : Bool). Among y (kept_by b x (without u xs))) (sym not.0) (inl here)
stays y u (x ∷ xs) other (inr later) = at (x == u) (stays y u xs other later)
  where
    at : (b : Bool) → Among y (without u xs) → Among y (kept_by b x (without u xs))
    at true m = m
    at false m = inr m

has_or_not : (u : ℕ) (xs : List ℕ) → Among u xs ⊎ (Among u xs → ⊥)
has_or_not u [] = inr (λ m. m)
has_or_not u (x ∷ xs) = at (eqb_tells x u) (has_or_not u xs)
  where
    at : ((x == u ≡ true) × (x ≡ u)) ⊎ ((x == u ≡ false) × (x ≢ u)) → Among u xs ⊎ (Among u xs → ⊥) → Among u (x ∷ xs) ⊎ (Among u (x ∷ xs) → ⊥)
    at (inl same) rest = inl (inl (sym same.1))
    at (inr other) (inl later) = inl (inr later)
    at (inr other) (inr none) = inr (λ m. elim m [ inl here ↦ other.1 (sym here) | inr later ↦ none later ])

-- ONE that is free
record One (n : ℕ) (lent : List ℕ) : Type 0 where
  at : ℕ
  below : at < n
  apart : Among at lent → ⊥

one_free : (n : ℕ) (lent : List ℕ) → length lent < n → One n lent
one_free zero lent less = absurd (omega (arith, less))
one_free (suc n) lent less = by (has_or_not n lent) (λ fewer. one_free n (without n lent) fewer)
  where
    room : (a b n : ℕ) → a < b → b < suc n → a < n
    room a b n one other = omega (arith, one, other)

    not_top : (a n : ℕ) → a < n → a ≢ n
    not_top a n less is = absurd (omega (arith, less, is))

    by : Among n lent ⊎ (Among n lent → ⊥) → (length (without n lent) < n → One n (without n lent)) → One (suc n) lent
    by (inr none) rest = record { at = n; below = omega arith; apart = none }
    by (inl some) rest =
        let one : One n (without n lent) = rest (room (length (without n lent)) (length lent) n (shorter n lent some) less) in
        record {
          at = one.at;
          below = omega (arith, one.below);
          apart = λ m. one.apart (stays one.at n lent (not_top one.at n one.below) m);
        }

-- SO MANY, each once
pub record Free (many n : ℕ) (lent : List ℕ) : Type 0 where
  pub frames : List ℕ
  pub size : length frames ≡ many
  pub small : (x : ℕ) → Among x frames → x < n
  pub apart : (x : ℕ) → Among x frames → Among x lent → ⊥
  pub once : Once frames

pub frames_free : (many n : ℕ) (lent : List ℕ) → length lent + many ≤ n → Free many n lent
frames_free zero n lent room = record { frames = []; size = refl; small = λ x m. absurd m; apart = λ x m. absurd m; once = tt }
frames_free (suc many) n lent room =
    let one : One n lent = one_free n lent (omega (arith, room)) in
    let rest : Free many n (one.at ∷ lent) = frames_free many n (one.at ∷ lent) (omega (arith, room)) in
    record {
      frames = one.at ∷ rest.frames;
      size = ap suc rest.size;
      small = λ x m. elim m [ inl here ↦ subst (λ (k : ℕ). k < n) (sym here) one.below | inr later ↦ rest.small x later ];
      apart = λ x m in_lent. elim m [
        | inl here ↦ one.apart (subst (λ (k : ℕ). Among k lent) here in_lent)
        | inr later ↦ rest.apart x later (inr in_lent)
      ];
      once = (λ m. rest.apart one.at m (inl refl), rest.once);
    }

-- ALL FRAMES THAT ARE LENT, by slots
abbrev pub all_lent : List (Option Held) → List ℕ
all_lent [] = []
all_lent (None ∷ slots) = all_lent slots
all_lent (Some h ∷ slots) = h.loan.frames ++ all_lent slots

pub many_lent : (slots : List (Option Held)) → ((q : ℕ) (g : Held) → slice_index_or slots q None ≡ Some g → length g.loan.frames ≡ frames_of g)
    → length (all_lent slots) ≡ frames_lent slots
many_lent [] are = refl
many_lent (None ∷ slots) are = many_lent slots (λ q g is. are (suc q) g is)
many_lent (Some h ∷ slots) are =
    length-append h.loan.frames (all_lent slots) ∙ ap (λ (n : ℕ). n + length (all_lent slots)) (are 0 h refl)
    ∙ ap (λ (n : ℕ). frames_of h + n) (many_lent slots (λ q g is. are (suc q) g is))

among_left : (x : ℕ) (xs ys : List ℕ) → Among x xs → Among x (xs ++ ys)
among_left x [] ys m = absurd m
among_left x (y ∷ xs) ys (inl here) = inl here
among_left x (y ∷ xs) ys (inr later) = inr (among_left x xs ys later)

among_right : (x : ℕ) (xs ys : List ℕ) → Among x ys → Among x (xs ++ ys)
among_right x [] ys m = m
among_right x (y ∷ xs) ys m = inr (among_right x xs ys m)

pub contained : (x : ℕ) (xs : List ℕ) → Contains xs x → Among x xs
contained x [] c = absurd (Contains-none x c)
contained x (y ∷ xs) c = elim (Contains-cases x y xs c) [ inl same ↦ inl (sym same) | inr later ↦ inr (contained x xs later) ]

same_held : (g h : Held) → ◌≡◌ {A = Option Held} (Some g) (Some h) → g ≡ h
same_held g h e = cc

pub lent_among : (slots : List (Option Held)) (q : ℕ) (g : Held) (x : ℕ) → slice_index_or slots q None ≡ Some g → Among x g.loan.frames → Among x (all_lent slots)
lent_among [] q g x is m = absurd (Rattle.std.proofs.lemmas.Option.none-some g is)
lent_among (None ∷ slots) zero g x is m = absurd (Rattle.std.proofs.lemmas.Option.none-some g is)
lent_among (None ∷ slots) (suc q) g x is m = lent_among slots q g x is m
lent_among (Some h ∷ slots) zero g x is m =
    among_left x h.loan.frames (all_lent slots) (subst (λ (k : Held). Among x k.loan.frames) (sym (same_held h g is)) m)
lent_among (Some h ∷ slots) (suc q) g x is m = among_right x h.loan.frames (all_lent slots) (lent_among slots q g x is m)
