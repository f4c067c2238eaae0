-- A call that told its lines where nothing was kept, and then what is kept is sent: what the trace took.
use Rattle.std.proofs.Common.{◌≡◌, ℕ, List, [], ◌++◌, take, sym, ap, ◌∙◌}
use Rattle.std.proofs.lemmas.List.{append_assoc, append-nil}
use Rattle.outside_traits.specs.Puts.{TakesFront}
use Rattle.driver_laws.specs.shown.QuietPasses.{IsFront}

-- the trace took `x` and nothing was kept; it took `y` and `mid` is kept behind the call, whose text is `t`; and then it took `z`.
told_is : (x y kept mid t : List ℕ) → kept ≡ [] → y ++ mid ≡ (x ++ kept) ++ t → y ++ mid ≡ x ++ t
told_is x y kept mid t none told = told ∙ ap (λ (k : List ℕ). (x ++ k) ++ t) none ∙ ap (λ (l : List ℕ). l ++ t) (append-nil x)

-- ALL OF IT,
pub whole_sent : (x y z kept mid t : List ℕ) → kept ≡ [] → y ++ mid ≡ (x ++ kept) ++ t → z ≡ y ++ mid → z ≡ x ++ t
whole_sent x y z kept mid t none told put = put ∙ told_is x y kept mid t none told

pub sent_behind : (x y z mid : List ℕ) → IsFront x y → TakesFront y z mid → IsFront x z
sent_behind x y z mid was front = record {
  rest = was.rest ++ take front.0 mid;
  whole = front.1 ∙ ap (λ (l : List ℕ). l ++ take front.0 mid) was.whole ∙ append_assoc x was.rest (take front.0 mid);
}

-- A CALL THAT STOPPED at the trace took a front,
pub front_told : (x y kept mid t : List ℕ) → kept ≡ [] → IsFront (y ++ mid) ((x ++ kept) ++ t) → IsFront y (x ++ t)
front_told x y kept mid t none front = record {
  rest = mid ++ front.rest;
  whole =
      ap (λ (l : List ℕ). l ++ t) (sym (append-nil x)) ∙ ap (λ (k : List ℕ). (x ++ k) ++ t) (sym none) ∙ front.whole
      ∙ append_assoc y mid front.rest;
}
