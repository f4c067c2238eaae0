-- What the burst law says of verdicts, classes and words.
use Rattle.std.proofs.Common.{◌≡◌, ℕ, ◌+◌, ◌-◌, ◌<◌, ◌≤◌, List, refl, sym, ap, ap₂, ◌∙◌, subst, arith, All, ◌/◌, ◌↔◌, bit_xor}
use lib.Bits.{xor_zero_r}
use Rattle.std.proofs.lemmas.List.Elements.{All-head}
use Rattle.fire_code.specs.Remainder.{remainder, times_x, repeat}
use Rattle.fire_code.specs.Burst.{IsPlaces, IsShortBurst, IsBurst, IsUncorrectable, places_of, reversed}
use Rattle.fire_code.specs.Word.{bit_of_word, word_remainder}
use Rattle.fire_code.specs.Noise.{IsAlias, IsFlipped, Classes}
use Rattle.fire_code.specs.Verdict.{Judges, Names}
use Rattle.fire_code.specs.declared.Verdict.{Verdict}
use Rattle.fire_code.specs.declared.Verdict.TheVariants.{Clean, Burst, Uncorrectable}
use Rattle.fire_code.specs.declared.NoiseClass.{NoiseClass}
use Rattle.fire_code.specs.declared.NoiseClass.TheVariants.{Short, Shown, Alias}
use Rattle.fire_code.proofs.Rising.{places_of-odd}
use Rattle.fire_code.proofs.Powers.{raised-is}
use Rattle.fire_code.proofs.Bursts.{reversed-lt, reversed_twice, reversed_11, raised-places_of, same_burst, burst_not_zero}
use Rattle.fire_code.proofs.Flips.{flip_all-flipped, flip_all-remainder}
use Rattle.fire_code.proofs.Noises.{rising_from_places}
use Rattle.fire_code.proofs.Shifted.{shifted_unique}

first_in_word : (at q r : ℕ) → IsBurst at q r → at - 1 < 4128
first_in_word at q r b = All-head (λ k. k < 4128) (at - 1) (places_of 10 (at - 1 + 1) (q / 2)) (subst (λ ks. All (λ k. k < 4128) ks) (places_of-odd 10 (at - 1) q b.odd) b.burst.set.in_word)

-- a burst begins in the word
pub burst_begins : (at q r : ℕ) → IsBurst at q r → at ≤ 4128
burst_begins at q r b = omega (arith, b.counted, first_in_word at q r b)

raised_one : (at q r : ℕ) → IsBurst at q r → repeat times_x 10 r ≡ repeat times_x (4138 - (11 + (at - 1))) (reversed 11 q)
raised_one at q r b =
    ap (repeat times_x 10) (sym b.is) ∙ raised-is (places_of 11 (at - 1) q) b.burst.set.in_word
    ∙ raised-places_of 11 (at - 1) q (omega arith) (omega (arith, first_in_word at q r b))

-- a burst is written in one way
same_writing : (at q at' q' r : ℕ) → IsBurst at q r → IsBurst at' q' r → (at ≡ at') × (q ≡ q')
same_writing at q at' q' r b c = (
  omega (arith, both.0, first_in_word at q r b, first_in_word at' q' r c, b.counted, c.counted),
  sym (reversed_twice q b.small) ∙ ap (reversed 11) both.1 ∙ reversed_twice q' c.small,
)
  where
    both : (4138 - (11 + (at - 1)) ≡ 4138 - (11 + (at' - 1))) × (reversed 11 q ≡ reversed 11 q')
    both = shifted_unique (4138 - (11 + (at - 1))) (4138 - (11 + (at' - 1))) (reversed 11 q) (reversed 11 q') (omega arith) (omega arith)
        (reversed-lt 11 q) (reversed-lt 11 q') (reversed_11 q b.small b.odd) (reversed_11 q' c.small c.odd)
        (sym (raised_one at q r b) ∙ raised_one at' q' r c)

pub verdict_unique : (v w : Verdict) (r : ℕ) → Judges v r → Judges w r → v ≡ w
verdict_unique Clean Clean r a b = refl
verdict_unique Clean (Burst at q) r a b = absurd (burst_not_zero (places_of 11 (at - 1) q) b.burst (b.is ∙ a))
verdict_unique Clean Uncorrectable r a b = absurd (b.wrong a)
verdict_unique (Burst at q) Clean r a b = absurd (burst_not_zero (places_of 11 (at - 1) q) a.burst (a.is ∙ b))
verdict_unique (Burst at q) (Burst at' q') r a b = let s : (at ≡ at') × (q ≡ q') = same_writing at q at' q' r a b in ap₂ Burst s.0 s.1
verdict_unique (Burst at q) Uncorrectable r a b = absurd (b.no_burst (places_of 11 (at - 1) q) a.burst a.is)
verdict_unique Uncorrectable Clean r a b = absurd (a.wrong b)
verdict_unique Uncorrectable (Burst at q) r a b = absurd (a.no_burst (places_of 11 (at - 1) q) b.burst b.is)
verdict_unique Uncorrectable Uncorrectable r a b = refl

pub burst_named : (v : Verdict) (ks : List ℕ) → IsShortBurst ks → Judges v (remainder ks) → Names v ks
burst_named Clean ks b j = burst_not_zero ks b j
burst_named (Burst at q) ks b j = same_burst (places_of 11 (at - 1) q) ks j.burst b j.is
burst_named Uncorrectable ks b j = j.no_burst ks b refl

-- ---- each verdict is given exactly where it holds
pub clean_exactly : (v : Verdict) (r : ℕ) → Judges v r → (v ≡ Clean) ↔ (r ≡ 0)
clean_exactly v r j = ((λ e. subst (λ z. Judges z r) e j), (λ z. verdict_unique v Clean r j z))

pub burst_exactly : (v : Verdict) (r at q : ℕ) → Judges v r → (v ≡ Burst at q) ↔ IsBurst at q r
burst_exactly v r at q j = ((λ e. subst (λ z. Judges z r) e j), (λ b. verdict_unique v (Burst at q) r j b))

pub uncorrectable_exactly : (v : Verdict) (r : ℕ) → Judges v r → (v ≡ Uncorrectable) ↔ IsUncorrectable r
uncorrectable_exactly v r j = ((λ e. subst (λ z. Judges z r) e j), (λ u. verdict_unique v Uncorrectable r j u))

-- ---- the classes
short_is_not_shown : (ks : List ℕ) → IsShortBurst ks → IsUncorrectable (remainder ks) → ⊥
short_is_not_shown ks b u = u.no_burst ks b refl

pub class_unique : (c d : NoiseClass) (ks : List ℕ) → Classes c ks → Classes d ks → c ≡ d
class_unique Short Short ks a b = refl
class_unique Short Shown ks a b = absurd (short_is_not_shown ks a b)
class_unique Short Alias ks a b = absurd (b.long a)
class_unique Shown Short ks a b = absurd (short_is_not_shown ks b a)
class_unique Shown Shown ks a b = refl
class_unique Shown Alias ks a b = absurd (b.hidden a)
class_unique Alias Short ks a b = absurd (a.long b)
class_unique Alias Shown ks a b = absurd (a.hidden b)
class_unique Alias Alias ks a b = refl

pub short_exactly : (c : NoiseClass) (ks : List ℕ) → Classes c ks → (c ≡ Short) ↔ IsShortBurst ks
short_exactly c ks h = ((λ e. subst (λ z. Classes z ks) e h), (λ b. class_unique c Short ks h b))

pub shown_exactly : (c : NoiseClass) (ks : List ℕ) → Classes c ks → (c ≡ Shown) ↔ IsUncorrectable (remainder ks)
shown_exactly c ks h = ((λ e. subst (λ z. Classes z ks) e h), (λ b. class_unique c Shown ks h b))

pub alias_exactly : (c : NoiseClass) (ks : List ℕ) → Classes c ks → (c ≡ Alias) ↔ IsAlias ks
alias_exactly c ks h = ((λ e. subst (λ z. Classes z ks) e h), (λ b. class_unique c Alias ks h b))

-- ---- words with places flipped
pub flipped_remainder : (ks old : List ℕ) (c : ℕ) (new : List ℕ) (d : ℕ) → IsPlaces ks → IsFlipped ks old c new d → word_remainder new d ≡ bit_xor (remainder ks) (word_remainder old c)
flipped_remainder ks old c new d set f =
    flip_all-remainder ks old c new d set.in_word (λ k h. f.bits k h ∙ sym (flip_all-flipped 0 4128 ks (bit_of_word old c) k (rising_from_places ks set)))

-- where the word was right
pub right_flipped : (ks old : List ℕ) (c : ℕ) (new : List ℕ) (d : ℕ) → IsPlaces ks → word_remainder old c ≡ 0 → IsFlipped ks old c new d → word_remainder new d ≡ remainder ks
right_flipped ks old c new d set right f = flipped_remainder ks old c new d set f ∙ ap (bit_xor (remainder ks)) right ∙ xor_zero_r (remainder ks)

pub repaired : (v : Verdict) (ks old : List ℕ) (c : ℕ) (new : List ℕ) (d : ℕ) → Judges v (word_remainder new d) → word_remainder old c ≡ 0 → IsShortBurst ks → IsFlipped ks old c new d → Names v ks
repaired v ks old c new d j right b f = burst_named v ks b (subst (Judges v) (right_flipped ks old c new d b.set right f) j)
