-- What a poll through the frame comes to, by the frame's bytes.
use Rattle.std.proofs.Common.{◌≡◌, ◌⊎◌, inl, inr, ℕ, ◌+◌, ◌<◌, Bool, true, false, IsTrue, List, refl, ap, ◌∙◌, subst, arith}
use Rattle.pack_geometry.specs.Pack.{Pack, block_at, is_marked, with_written}
use Rattle.pack_format.specs.testing.Polls.{IsOldOrNew, Polls, Sides}
use Rattle.pack_format.specs.declared.testing.station.Polled.{Polled}
use Rattle.pack_format.specs.declared.testing.station.Polled.TheVariants.{Clean, Marked}
use Rattle.pack_format.proofs.testing.PollLaws.{same_sides}
use Rattle.pack_format.proofs.testing.StageLaws.{false_true}

-- a reading, where the bytes are taken from the frame
pub read_polls : (unit block : ℕ) (told : Bool) (old new : ℕ → Pack) (frame frame' before after : List ℕ) (polled : Polled)
    → Polls unit block false told (record { held = old; bytes = frame }) (record { held = new; bytes = frame' }) polled
    → (polled ≡ Clean → after ≡ frame') → (polled ≡ Marked → after ≡ before)
    → Polls unit block false told (record { held = old; bytes = before }) (record { held = new; bytes = after }) polled
read_polls unit block told old new frame frame' before after Clean polls clean marked = record {
  answer = polls.answer;
  sides = λ t.
      same_sides new old after (block_at (old unit).image block) (ap (λ (s : Sides). s.held) (polls.sides t))
      (clean refl ∙ ap (λ (s : Sides). s.bytes) (polls.sides t));
  marked = λ is. absurd (clash is);
  written = λ is. absurd (false_true is);
}
  where
    clash : Clean ≡ Marked → ⊥
    clash is = cc
read_polls unit block told old new frame frame' before after Marked polls clean marked = record {
  answer = polls.answer;
  sides = λ t. same_sides new old after before (ap (λ (s : Sides). s.held) (polls.sides t)) (marked refl);
  marked = λ _. marked refl;
  written = λ is. absurd (false_true is);
}

pub read_failed : (unit block : ℕ) (told : Bool) (old new : ℕ → Pack) (frame : List ℕ) → IsOldOrNew unit block false told (record { held = old; bytes = frame }) new
    → IsTrue told → new ≡ old
read_failed unit block told old new frame which t = by (which t)
  where
    by : (new ≡ old) ⊎ ((false ≡ true) × (is_marked (old unit) block ≡ false) × (new ≡ with_written old unit block frame)) → new ≡ old
    by (inl same) = same
    by (inr written) = absurd (false_true written.0)

-- a writing, where the frame has the bytes
pub write_polls : (unit block : ℕ) (told : Bool) (old new : ℕ → Pack) (frame frame' from : List ℕ) (polled : Polled) → frame ≡ from
    → Polls unit block true told (record { held = old; bytes = frame }) (record { held = new; bytes = frame' }) polled
    → Polls unit block true told (record { held = old; bytes = from }) (record { held = new; bytes = from }) polled
write_polls unit block told old new frame frame' from polled is polls =
    subst (λ (bytes : List ℕ). Polls unit block true told (record { held = old; bytes = from }) (record { held = new; bytes = bytes }) polled) (polls.written refl ∙ is)
    (subst (λ (bytes : List ℕ). Polls unit block true told (record { held = old; bytes = bytes }) (record { held = new; bytes = frame' }) polled) is polls)

pub write_failed : (unit block : ℕ) (told : Bool) (old new : ℕ → Pack) (frame from : List ℕ) → frame ≡ from
    → IsOldOrNew unit block true told (record { held = old; bytes = frame }) new → IsOldOrNew unit block true told (record { held = old; bytes = from }) new
write_failed unit block told old new frame from is which =
    subst (λ (bytes : List ℕ). IsOldOrNew unit block true told (record { held = old; bytes = bytes }) new) is which

-- a frame that came back is free
pub free_again : (now free n m : ℕ) → now ≡ free + n → n ≡ m → m ≡ 1 → 0 < now
free_again now free n m count same one = omega arith
