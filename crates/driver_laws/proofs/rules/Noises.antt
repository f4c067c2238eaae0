-- Noise that is no alias: what a read that is struck by it gives.
use Rattle.std.proofs.Common.{◌≡◌, ℕ, ◌≤◌, Bool, true, false, List, [], ◌∷◌, length, take, Option, None, Some, refl, sym, subst, arith, All, rules}
use Rattle.std.specs.List.{find}
use Rattle.std.specs.Prelude.{if◌then◌else◌}
use Rattle.std.proofs.lemmas.Option.{same_Some, none-some}
use Rattle.std.proofs.lemmas.Bool.Decides.{nat_tests}
use Rattle.std.proofs.lemmas.List.Elements.{All-head, All-tail, All-cons, All-weaker}
use Rattle.fire_code.specs.Remainder.{remainder}
use Rattle.fire_code.specs.Burst.{IsShortBurst, IsBurst}
use Rattle.fire_code.specs.Noise.{IsNoise, IsAlias}
use Rattle.fire_code.proofs.Bursts.{burst_not_zero}
use Rattle.hardware_table.specs.Noise.{LiveNoise, IsAmong, with_noise, after_strike, strikes, oldest, flips, is_ended_by, is_at}
use Rattle.hardware_table.proofs.NoiseLaws.{among_armed, among_struck}
use Rattle.trace_replay.specs.Packs.{read_as, repaired_from}
use Rattle.trace_replay.proofs.ReadBytes.{repairs_bursts}
use Rattle.driver_laws.specs.rules.Stands.{IsLive, is_sure_among}
use Rattle.hardware_table.specs.declared.Moved.TheVariants as verdict
use Rattle.hardware_table.specs.Moves.{IsReadVerdict}
use Rattle.driver_laws.proofs.rules.Armed.{flips_of}

-- ---- the noise that strikes is live
found_in : (test : LiveNoise → Bool) (P : LiveNoise → Type 0) (live : List LiveNoise) (n : LiveNoise) → All P live → find test live ≡ Some n → P n × (test n ≡ true)
found_in test P [] n all is = absurd (none-some n is)
found_in test P (x ∷ xs) n all is = at (test x) refl is (found_in test P xs n (All-tail P x xs all))
  where
    at : (b : Bool) → test x ≡ b → (if b then Some x else find test xs) ≡ Some n → (find test xs ≡ Some n → P n × (test n ≡ true)) → P n × (test n ≡ true)
    at true e is later = let same : x ≡ n = same_Some x n is in (subst P same (All-head P x xs all), subst (λ z. test z ≡ true) same e)
    at false e is later = later is

-- what a read flips is noise, and no alias where the sector is sure
pub record Harmless (claimed : Type 0) (places : List ℕ) : Type 0 where
  pub noise : IsNoise places
  pub no_alias : claimed → ¬ (IsAlias places)

placed : (unit block : ℕ) (n : LiveNoise) → is_at unit block n ≡ true → (n.unit ≡ unit) × (n.block ≡ block)
placed unit block n is = grind (arith, nat_tests)

flipped_by : (armed : List LiveNoise) (unit block word : ℕ) (o : Option LiveNoise) (places : List ℕ)
    → ((n : LiveNoise) → o ≡ Some n → IsLive armed n × (is_at unit block n ≡ true)) → flips word o ≡ Some places → Harmless (is_sure_among armed unit block) places
flipped_by armed unit block word None places live is = absurd (none-some places is)
flipped_by armed unit block word (Some n) places live is =
    subst (λ z. Harmless (is_sure_among armed unit block) z) (flips_of (is_ended_by word n.span) n.places places is)
    (at (live n refl))
  where
    at : IsLive armed n × (is_at unit block n ≡ true) → Harmless (is_sure_among armed unit block) n.places
    at l = let where_at : (n.unit ≡ unit) × (n.block ≡ block) = placed unit block n l.1 in
        record { noise = l.0.noise; no_alias = λ sure. l.0.no_alias (subst (λ z. is_sure_among armed z n.block) (sym where_at.0) (subst (λ z. is_sure_among armed unit z) (sym where_at.1) sure)) }

pub struck_harmless : (armed live : List LiveNoise) (unit block word : ℕ) (places : List ℕ) → All (IsLive armed) live → strikes unit block word live ≡ Some places
    → Harmless (is_sure_among armed unit block) places
struck_harmless armed live unit block word places all is =
    flipped_by armed unit block word (oldest unit block live) places (λ n o. found_in (is_at unit block) (IsLive armed) live n all o) is

-- ---- noise that is no alias shows, or is a short burst
is_short : (places : List ℕ) (at q : ℕ) → IsNoise places → ¬ (IsAlias places) → IsBurst at q (remainder places) → IsShortBurst places
is_short places at q noise sure burst = search rules

no_zero : (places : List ℕ) → ¬ (IsAlias places) → remainder places ≡ 0 → ⊥
no_zero places sure zero_is = sure (record { long = λ short. burst_not_zero places short zero_is; hidden = λ u. u.wrong zero_is })

-- ---- what a read gives whose sector is sure
pub read_clean : (places : Option (List ℕ)) (sector : List ℕ) → ((ps : List ℕ) → places ≡ Some ps → ¬ (IsAlias ps)) → IsReadVerdict places verdict.Clean → read_as places sector ≡ sector
read_clean None sector sure is = refl
read_clean (Some ps) sector sure is = absurd (no_zero ps (sure ps refl) is)

pub read_burst : (places : Option (List ℕ)) (sector : List ℕ) (at q size : ℕ) → length sector ≤ 512 → ((ps : List ℕ) → places ≡ Some ps → IsNoise ps × (¬ (IsAlias ps)))
    → IsReadVerdict places (verdict.Burst at q) → repaired_from 0 at q (take size (read_as places sector)) ≡ take size sector
read_burst None sector at q size small sure is = cc
read_burst (Some ps) sector at q size small sure is = repairs_bursts ps sector at q size (is_short ps at q (sure ps refl).0 (sure ps refl).1 is) is small

-- ---- noise that is armed, and noise that was used
newly_live : (armed : List LiveNoise) (new n : LiveNoise) → IsNoise new.places → IsLive armed n → IsLive (new ∷ armed) n
newly_live armed new n noise is = record { noise = is.noise; no_alias = λ sure. is.no_alias sure.0 }

itself_live : (armed : List LiveNoise) (new : LiveNoise) → IsNoise new.places → IsLive (new ∷ armed) new
itself_live armed new noise = record { noise = noise; no_alias = λ sure. sure.1 refl refl }

like_kin : (armed : List LiveNoise) (live : List LiveNoise) (n : LiveNoise) → All (IsLive armed) live → IsAmong live n → IsLive armed n
like_kin armed live n all among = search rules

pub armed_live : (armed live : List LiveNoise) (new : LiveNoise) → IsNoise new.places → All (IsLive armed) live → All (IsLive (new ∷ armed)) (with_noise new live)
armed_live armed live new noise all =
    All-weaker (IsAmong (new ∷ live)) (IsLive (new ∷ armed)) (λ n among. like_kin (new ∷ armed) (new ∷ live) n every among) (with_noise new live) (among_armed live new)
  where
    every : All (IsLive (new ∷ armed)) (new ∷ live)
    every = All-cons (IsLive (new ∷ armed)) new live (itself_live armed new noise) (All-weaker (IsLive armed) (IsLive (new ∷ armed)) (λ n is. newly_live armed new n noise is) live all)

pub struck_live : (armed live : List LiveNoise) (unit block word : ℕ) → All (IsLive armed) live → All (IsLive armed) (after_strike unit block word live)
struck_live armed live unit block word all =
    All-weaker (IsAmong live) (IsLive armed) (λ n among. like_kin armed live n all among) (after_strike unit block word live) (among_struck live unit block word)
