-- The bounds hold for any words.
use Rattle.std.proofs.Common.{◌≡◌, ℕ, zero, suc, ◌+◌, ◌-◌, ◌*◌, ◌/◌, ◌%◌, ◌<◌, ◌≤◌, Bool, true, false, List, [], ◌∷◌, refl, subst, arith, max, All}
use Rattle.std.specs.Prelude.{if◌then◌else◌, ◌==◌}
use Rattle.std.specs.List.Sorted.{IsStrictlyIncreasing}
use Rattle.std.specs.List.{AllPairs}
use Rattle.std.proofs.lemmas.List.Elements.{All-nil, All-cons}
use Rattle.std.proofs.lemmas.Nat.{mod_below}
use Rattle.fire_code.specs.Burst.{IsPlaces, IsShortBurst}
use Rattle.hardware_table.specs.declared.FaultKind.TheVariants.{Opi}
use Rattle.hardware_table.specs.declared.NoiseSpan.TheVariants.{Times}
use Rattle.pack_geometry.specs.declared.DriveKind.TheVariants.{Rp06, Rm03}
use Rattle.rand_core.specs.Stream.{Stream, next_u64}
use Rattle.script_lines.specs.Known.{Said}
use Rattle.script_lines.specs.declared.statement.Statement.TheVariants as says
use Rattle.hp_exercise.specs.Exercise.{unit_of, block_of, place_of, count_of, offset_of, times_of, words_of}
use Rattle.hp_exercise.specs.Bounds.{frames_of, IsNarrow, HasShortNoise, most_asked, strikes_of, armed}
use Rattle.hp_exercise.specs.Statements.{request_of, chosen_statement, step_statement, steps_statements, script_statements}
use Rattle.hp_exercise.proofs.CaseLaws.{chosen_by, step_by, steps_all}

-- a function of two numbers that are computed before it is applied, so that a long count doesn't grow as a sum
unfoldable computed : (ℕ → ℕ → ℕ) → ℕ → ℕ → ℕ
computed f zero zero = f 0 0
computed f zero (suc b) = f 0 (suc b)
computed f (suc a) zero = f (suc a) 0
computed f (suc a) (suc b) = f (suc a) (suc b)

computed_is : (f : ℕ → ℕ → ℕ) (a b : ℕ) → computed f a b ≡ f a b
unfolding computed
computed_is f zero zero = refl
computed_is f zero (suc b) = refl
computed_is f (suc a) zero = refl
computed_is f (suc a) (suc b) = refl

-- REQUESTS by the numbers of steps alone: a step and what the rest gives by how many came since a drain
abbrev planned_step : (ℕ → ℕ) → ℕ → ℕ → ℕ → ℕ
planned_step rest s since more =
    if s % 256 == 254 then rest since
    else if s % 128 == 125 then max since (rest 0)
    else if s % 64 == 63 then rest since
    else rest more

unfoldable planned : ℕ → ℕ → ℕ → ℕ
planned zero s since = since
planned (suc n) s since = computed (λ next more. planned_step (planned n next) s since more) (s + 1) (since + 1)

planned_is : (n s since : ℕ) → planned (suc n) s since ≡ planned_step (planned n (s + 1)) s since (since + 1)
unfolding planned
planned_is n s since = computed_is (λ next more. planned_step (planned n next) s since more) (s + 1) (since + 1)

same_le : (a b c : ℕ) → b ≡ c → a ≤ c → a ≤ b
same_le a b c same le = omega (arith, same, le)

max_le : (a b c d : ℕ) → a ≤ b → c ≤ d → max a c ≤ max b d
max_le a b c d le le' = omega (arith, le, le')

more_le : (a b : ℕ) → a ≤ b → a + 1 ≤ b + 1
more_le a b le = omega (arith, le)

less_le : (a b : ℕ) → a ≤ b → a ≤ b + 1
less_le a b le = omega (arith, le)

-- one step, whatever its number is
step_asked : (s w n since high : ℕ) (rest : List Said) → since ≤ high → ((low top : ℕ) → low ≤ top → most_asked low rest ≤ planned n (s + 1) top)
    → (a b c : Bool) → most_asked since ((if a then says.Fault (unit_of w) Opi (times_of w) else if b then says.Drain else if c then says.Noise (unit_of w) (block_of w) (Times 1) (place_of w ∷ (place_of w + 7) ∷ []) else chosen_statement s w) ∷ rest)
    ≤ (if a then planned n (s + 1) high else if b then max high (planned n (s + 1) 0) else if c then planned n (s + 1) high else planned n (s + 1) (high + 1))
step_asked s w n since high rest le each true b c = each since high le
step_asked s w n since high rest le each false true c = max_le since high (most_asked 0 rest) (planned n (s + 1) 0) le (each 0 0 (omega arith))
step_asked s w n since high rest le each false false true = each since high le
step_asked s w n since high rest le each false false false =
    let more = each (since + 1) (high + 1) (more_le since high le) in
    let same = each since (high + 1) (less_le since high le) in
    chosen_by (λ statement. most_asked since (statement ∷ rest) ≤ planned n (s + 1) (high + 1)) s w (record { write = more; read = more; arrive = same; move = same; attend = same })

most_planned : (n s : ℕ) (words : Stream) (since high : ℕ) → since ≤ high → most_asked since (steps_statements n s words) ≤ planned n s high
unfolding steps_statements planned
most_planned zero s words since high le = le
most_planned (suc n) s words since high le =
    same_le (most_asked since (steps_statements (suc n) s words)) (planned (suc n) s high) (planned_step (planned n (s + 1)) s high (high + 1)) (planned_is n s high)
    (step_asked s (next_u64 words).0 n since high (steps_statements n (s + 1) (next_u64 words).1) le (λ low top under. most_planned n (s + 1) (next_u64 words).1 low top under) (s % 256 == 254) (s % 128 == 125) (s % 64 == 63))

planned_all : planned 2048 0 0 ≡ 125
unfolding planned computed
planned_all = refl

pub most_asked_bound : (number : ℕ) → most_asked 0 (script_statements number) ≤ 125
most_asked_bound number =
    let steps : List Said = steps_statements 2048 0 (words_of number) in
    subst (λ (k : ℕ). most_asked 0 steps ≤ k) planned_all (most_planned 2048 0 (words_of number) 0 0 (omega arith))

-- FAULTS by the numbers of steps alone
unfoldable plan : ℕ → ℕ → ℕ
plan zero s = 0
plan (suc n) s = (if s % 256 == 254 then 3 else 0) + plan n (s + 1)

sum_le : (a b c d : ℕ) → a ≤ b → c ≤ d → a + c ≤ b + d
sum_le a b c d le le' = omega (arith, le, le')

pub times_bound : (w : ℕ) → times_of w ≤ 3
times_bound w = omega (arith, mod_below (w / 32) 3 (omega arith))

none_le : (k : ℕ) → 0 ≤ k
none_le k = omega arith

step_strikes : (s w : ℕ) (a b c : Bool) → strikes_of (if a then says.Fault (unit_of w) Opi (times_of w) else if b then says.Drain else if c then says.Noise (unit_of w) (block_of w) (Times 1) (place_of w ∷ (place_of w + 7) ∷ []) else chosen_statement s w)
    ≤ (if a then 3 else 0)
step_strikes s w true b c = times_bound w
step_strikes s w false true c = none_le 0
step_strikes s w false false true = none_le 0
step_strikes s w false false false = chosen_by (λ statement. strikes_of statement ≤ 0) s w (record { write = none_le 0; read = none_le 0; arrive = none_le 0; move = none_le 0; attend = none_le 0 })

armed_plan : (n s : ℕ) (words : Stream) → armed (steps_statements n s words) ≤ plan n s
unfolding steps_statements plan
armed_plan zero s words = omega arith
armed_plan (suc n) s words =
    let w : ℕ = (next_u64 words).0 in
    let rest : Stream = (next_u64 words).1 in
    sum_le (strikes_of (step_statement s w)) (if s % 256 == 254 then 3 else 0) (armed (steps_statements n (s + 1) rest)) (plan n (s + 1))
    (step_strikes s w (s % 256 == 254) (s % 128 == 125) (s % 64 == 63)) (armed_plan n (s + 1) rest)

plan_all : plan 2048 0 ≡ 24
unfolding plan
plan_all = refl

pub armed_bound : (number : ℕ) → armed (script_statements number) ≤ 24
armed_bound number =
    let most : armed (steps_statements 2048 0 (words_of number)) ≤ 24 = subst (λ (k : ℕ). armed (steps_statements 2048 0 (words_of number)) ≤ k) plan_all (armed_plan 2048 0 (words_of number)) in
    omega (arith, most)

-- FRAMES
frames_small : (o c : ℕ) → o < 512 → c ≤ 16 → 1 ≤ c → (o + 512 * (c - 1) + 512 + 511) / 512 ≤ 17
frames_small o c small few some = omega (arith, small, few, some)

pub count_bound : (w : ℕ) → count_of w ≤ 16
count_bound w = omega (arith, mod_below (w / 4294967296) 16 (omega arith))

pub count_some : (w : ℕ) → 1 ≤ count_of w
count_some w = omega arith

pub offset_bound : (w : ℕ) → offset_of w < 512
offset_bound w = mod_below (w / 281474976710656) 512 (omega arith)

narrow : (s w : ℕ) → frames_of (request_of s w) ≤ 17
narrow s w = frames_small (offset_of w) (count_of w) (offset_bound w) (count_bound w) (count_some w)

step_narrow : (s w : ℕ) → IsNarrow (step_statement s w)
step_narrow s w =
    step_by IsNarrow s w (record { fault = tt; drain = tt; noise = tt }) (record { write = narrow s w; read = narrow s w; arrive = tt; move = tt; attend = tt })

-- the head's lines, and then all steps'
headed : (P : Said → Type 0) (steps : List Said) → P (says.Unit 0 Rp06) → P (says.Unit 1 Rm03) → P (says.Unit 8 Rm03) → All P steps → All P (says.Unit 0 Rp06 ∷ says.Unit 1 Rm03 ∷ says.Unit 8 Rm03 ∷ steps)
headed P steps a b c all =
    All-cons P (says.Unit 0 Rp06) (says.Unit 1 Rm03 ∷ says.Unit 8 Rm03 ∷ steps) a (All-cons P (says.Unit 1 Rm03) (says.Unit 8 Rm03 ∷ steps) b (All-cons P (says.Unit 8 Rm03) steps c all))

pub frames_bound : (number : ℕ) → All IsNarrow (script_statements number)
frames_bound number = headed IsNarrow (steps_statements 2048 0 (words_of number)) tt tt tt (steps_all IsNarrow step_narrow 2048 0 (words_of number))

-- NOISE is short
two_rise : (p : ℕ) → IsStrictlyIncreasing (p ∷ (p + 7) ∷ [])
two_rise p zero h = omega arith
two_rise p (suc k) h = absurd (omega (arith, h))

two_near : (p : ℕ) → AllPairs (λ j k. k ≤ j + 10) (p ∷ (p + 7) ∷ [])
two_near p zero zero d lt h = absurd (omega (arith, lt))
two_near p zero (suc zero) d lt h = omega arith
two_near p zero (suc (suc j)) d lt h = absurd (omega (arith, h))
two_near p (suc i) zero d lt h = absurd (omega (arith, lt))
two_near p (suc i) (suc zero) d lt h = absurd (omega (arith, lt))
two_near p (suc i) (suc (suc j)) d lt h = absurd (omega (arith, h))

pub two_places : (p : ℕ) → p < 4000 → IsPlaces (p ∷ (p + 7) ∷ [])
two_places p small = record {
  ascending = two_rise p;
  in_word = All-cons (λ k. k < 4128) p ((p + 7) ∷ []) (omega (arith, small)) (All-cons (λ k. k < 4128) (p + 7) [] (omega (arith, small)) (All-nil (λ k. k < 4128)));
}

two_short : (p : ℕ) → p < 4000 → IsShortBurst (p ∷ (p + 7) ∷ [])
two_short p small = record { set = two_places p small; not_empty = omega arith; near = two_near p }

pub place_bound : (w : ℕ) → place_of w < 4000
place_bound w = mod_below (w / 65536) 4000 (omega arith)

step_short : (s w : ℕ) → HasShortNoise (step_statement s w)
step_short s w =
    step_by HasShortNoise s w (record { fault = tt; drain = tt; noise = two_short (place_of w) (place_bound w) }) (record { write = tt; read = tt; arrive = tt; move = tt; attend = tt })

pub noise_short : (number : ℕ) → All HasShortNoise (script_statements number)
noise_short number = headed HasShortNoise (steps_statements 2048 0 (words_of number)) tt tt tt (steps_all HasShortNoise step_short 2048 0 (words_of number))
