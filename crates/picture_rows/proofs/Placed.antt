-- The words of places, holders and letters refuse these outcomes.
use Rattle.std.proofs.Common.{◌≡◌, ℕ, ◌+◌, ◌-◌, ◌*◌, ◌/◌, ◌^◌, ◌<◌, ◌≤◌, ◌==◌, min, max, if◌then◌else◌, Bool, true, false, List, [], ◌∷◌, fold, drop, sym, ap, ◌∙◌, arith}
use Rattle.std.proofs.Math.Nat.{mul-le-mul_left, mul-le-mul_right, div-mul-le_self, mul-div_cancel, zero-div}
use Rattle.std.proofs.lemmas.Bool.{ne_eqb}
use Rattle.std.proofs.lemmas.Nat.{le-div}
use Rattle.drive_pictures.specs.Counts.{plus}
use Rattle.drive_pictures.specs.declared.cells.Tally.{Tally}
use Rattle.drive_pictures.specs.declared.letters.Letter.{Letter}
use Rattle.drive_pictures.specs.declared.letters.Letter.TheVariants as letter
use Rattle.drive_pictures.specs.Letters.{all_letters}
use Rattle.run_plan.specs.Letters.{at, busy}
use Rattle.picture_svg.specs.Holders.{held_by}
use Rattle.picture_svg.specs.Scales.{part_of}
use Rattle.picture_rows.specs.Placed.{ScaleTurnedRound, ColumnsTurnedRound, CylindersTurnedRound, BottomOffItsBound, TopOffItsBound, EventsLeftOut, HeldAtAnotherAdapter}

pub scale_turned_round : ScaleTurnedRound
scale_turned_round window column later le less = turned window.first window.last _ _ (mul-le-mul_left window.per le) less
  where
    turned : (first last m n : ℕ) → m ≤ n → min (first + n) last < min (first + m) last → ⊥
    turned first last m n le less = omega (arith, le, less)

pub columns_turned_round : ColumnsTurnedRound
columns_turned_round frame column later le less = turned _ _ (mul-le-mul_right frame.column (omega (arith, le))) less
  where
    turned : (m n : ℕ) → m ≤ n → 160 + min n 864 < 160 + min m 864 → ⊥
    turned m n le less = omega (arith, le, less)

div_rises : (a b k : ℕ) → 0 < k → a ≤ b → a / k ≤ b / k
div_rises a b k some le = let down : a / k * k ≤ a = div-mul-le_self a k in le-div (a / k) b k some (omega (arith, down, le))

bounded : (m n top : ℕ) → m ≤ n → min m top ≤ min n top
bounded m n top le = omega (arith, le)

part_rises : (height some more all : ℕ) → some ≤ more → part_of height some all ≤ part_of height more all
part_rises height some more all le =
    bounded _ _ height (div_rises _ _ (max all 1) (omega arith) (bounded _ _ (2 ^ 64 - 1) (mul-le-mul_left height le)))

pub cylinders_turned_round : CylindersTurnedRound
cylinders_turned_round chart scale y cylinder higher le less = fall (y + chart) _ _ (part_rises chart cylinder higher scale le) less
  where
    fall : (low m n : ℕ) → m ≤ n → low - m < low - n → ⊥
    fall low m n le less = omega (arith, le, less)

none_of : (height all : ℕ) → part_of height 0 all ≡ 0
none_of height all =
    let none : min (height * 0) (2 ^ 64 - 1) ≡ 0 = omega arith in
    ap (λ n. min n height) (ap (λ n. n / max all 1) none ∙ zero-div (max all 1)) ∙ nothing height
  where
    nothing : (height : ℕ) → min 0 height ≡ 0
    nothing height = omega arith

pub bottom_off_its_bound : BottomOffItsBound
bottom_off_its_bound chart scale y less = omega (arith, less, none_of chart scale)

whole_of : (height all : ℕ) → 0 < all → height * all < 2 ^ 64 → part_of height all all ≡ height
whole_of height all some fits =
    ap (λ n. min n height) (ap (λ n. n / max all 1) (room (height * all) fits) ∙ ap (λ n. height * all / n) (one all some) ∙ mul-div_cancel height some)
    ∙ both height
  where
    room : (n : ℕ) → n < 2 ^ 64 → min n (2 ^ 64 - 1) ≡ n
    room n fits = omega (arith, fits)

    one : (n : ℕ) → 0 < n → max n 1 ≡ n
    one n some = omega (arith, some)

    both : (n : ℕ) → min n n ≡ n
    both n = omega arith

pub top_off_its_bound : TopOffItsBound
top_off_its_bound chart scale y some fits less = omega (arith, less, whole_of chart scale some fits)

plus_le : (a b : ℕ) → plus a b ≤ a + b
plus_le a b = omega arith

-- a sum that stops is at most the sum
at_most : (t : Tally) (n m : ℕ) (ls : List Letter) → n ≤ m → fold (λ n l. plus n (at t l)) n ls ≤ fold (λ n l. n + at t l) m ls
at_most t n m [] le = le
at_most t n m (l ∷ ls) le = at_most t (plus n (at t l)) (m + at t l) ls (omega (arith, plus_le n (at t l), le))

none_left : (events b n1 n2 n3 n4 n5 n6 n7 n8 n9 n10 : ℕ) → b ≤ 0 + n1 + n2 + n3 + n4 + n5 + n6 + n7 + n8 + n9 + n10
    → ¬ (0 + (events - b) + n1 + n2 + n3 + n4 + n5 + n6 + n7 + n8 + n9 + n10 < events)
none_left events b n1 n2 n3 n4 n5 n6 n7 n8 n9 n10 most less = omega (arith, most, less)

pub events_left_out : EventsLeftOut
events_left_out t events less =
    none_left events (busy t) (at t letter.Seeks) (at t letter.Turns) (at t letter.Recalibrates) (at t letter.Offsets) (at t letter.Arrived) (at t letter.Ready)
    (at t letter.Moves) (at t letter.Retries) (at t letter.Replaces) (at t letter.Moved) (at_most t 0 0 (drop 1 all_letters) (omega arith)) less

pub held_at_another_adapter : HeldAtAnotherAdapter
held_at_another_adapter column lane adapter differs holds is = none (lane.unit / 8 == adapter) (held_by column lane) (ne_eqb (lane.unit / 8) adapter differs) holds is
  where
    none : (here : Bool) (n : ℕ) → here ≡ false → 0 < n → (if here then plus 0 n else 0) ≡ n → ⊥
    none true n elsewhere holds is = absurd (cc elsewhere)
    none false n elsewhere holds is = omega (arith, holds, is)
