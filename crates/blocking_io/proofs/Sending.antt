-- Lines that are kept, and sent ahead of an event that may write or behind a failure of the packs: what the trace took is a front of what
-- was told.
use Rattle.std.proofs.Common.{◌≡◌, ℕ, Bool, true, false, List, [], ◌++◌, take, drop, sym, ap, ◌∙◌, append-nil, append_assoc, take-append-drop}
use Rattle.std.specs.Prelude.{if◌then◌else◌}
use Rattle.std.proofs.lemmas.List.{append_cancel_right}
use Rattle.outside_traits.specs.Puts.{TakesFront}
use Rattle.driver_laws.specs.answers.Outcome.{IsFront}
use Rattle.driver_laws.proofs.answers.Joined.{front_more, front_of_front}

-- ---- A FRONT OF A TEXT was taken: it begins with what was taken before, and is a front of all.
pub begins_taken : (before after text : List ℕ) → TakesFront before after text → IsFront before after
begins_taken before after text front = record { rest = take front.0 text; whole = front.1 }

pub taken_front : (before after text : List ℕ) → TakesFront before after text → IsFront after (before ++ text)
taken_front before after text front = record {
  rest = drop front.0 text;
  whole = ap (λ (xs : List ℕ). before ++ xs) (sym (take-append-drop front.0 text)) ∙ sym (append_assoc before (take front.0 text) (drop front.0 text))
      ∙ ap (λ (xs : List ℕ). xs ++ drop front.0 text) (sym front.1);
}

-- where all was taken, and where more was told
pub sent_begin : (first before after text : List ℕ) → IsFront first before → after ≡ before ++ text → IsFront first after
sent_begin first before after text is all = front_of_front first before after is (record { rest = text; whole = all })

pub taken_of_more : (before after text more : List ℕ) → TakesFront before after text → IsFront after ((before ++ text) ++ more)
taken_of_more before after text more front = front_of_front after (before ++ text) ((before ++ text) ++ more) (taken_front before after text front) (front_more (before ++ text) more)

-- ---- AHEAD of an event: what is kept is sent if it may write.
abbrev pub ahead : Bool → List ℕ → List ℕ
ahead writes kept = if writes then kept else []

abbrev pub left : Bool → List ℕ → List ℕ
left writes kept = if writes then [] else kept

pub told_same : (writes : Bool) (x y kept : List ℕ) → y ≡ x ++ ahead writes kept → y ++ left writes kept ≡ x ++ kept
told_same true x y kept is = append-nil y ∙ is
told_same false x y kept is = ap (λ (xs : List ℕ). xs ++ kept) (is ∙ append-nil x)

pub sent_begins : (writes : Bool) (x y kept : List ℕ) → y ≡ x ++ ahead writes kept → IsFront x y
sent_begins writes x y kept is = record { rest = ahead writes kept; whole = is }

pub ahead_front : (writes : Bool) (x z kept : List ℕ) → TakesFront x z (ahead writes kept) → IsFront z (x ++ kept)
ahead_front true x z kept front = taken_front x z kept front
ahead_front false x z kept front = more (taken_front x z [] front)
  where
    more : IsFront z (x ++ []) → IsFront z (x ++ kept)
    more is = record {
      rest = is.rest ++ kept;
      whole = ap (λ (xs : List ℕ). xs ++ kept) (sym (append-nil x) ∙ is.whole) ∙ append_assoc z is.rest kept;
    }

-- ---- BEHIND A FAILURE OF THE PACKS, in which nothing was told
pub still_taken : (y z mid kept : List ℕ) → kept ≡ mid → z ++ kept ≡ y ++ mid → z ≡ y
still_taken y z mid kept same told = append_cancel_right z y mid (ap (λ (xs : List ℕ). z ++ xs) (sym same) ∙ told)

pub rest_sent : (writes : Bool) (x y z last kept now : List ℕ) → y ≡ x ++ ahead writes kept → now ≡ left writes kept → z ++ now ≡ y ++ left writes kept
    → last ≡ z ++ (if writes then [] else now) → last ≡ x ++ kept
rest_sent true x y z last kept now ahead_is same told is = is ∙ append-nil z ∙ still_taken y z [] now same told ∙ ahead_is
rest_sent false x y z last kept now ahead_is same told is = is ∙ told ∙ ap (λ (xs : List ℕ). xs ++ kept) (ahead_is ∙ append-nil x)
