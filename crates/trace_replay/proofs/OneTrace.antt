-- For one script and packs there is at most one legal trace.
use Rattle.std.proofs.Common.{◌≡◌, ℕ, List, [], ◌∷◌, Option, None, Some, drop, refl, sym, ap, ◌∙◌, subst, arith}
use Rattle.trace_replay.specs.Moments.{Moment, Played, Told, Idle, played, answers_in}
use Rattle.trace_replay.specs.Replay.{Replay, MayCome, after_moment, after_moments, Follows, IsOver, AreLeft}
use Rattle.pack_geometry.specs.declared.DriveKind.{DriveKind}
use Rattle.trace_replay.specs.Script.{Numbered, drives_of}
use Rattle.trace_replay.specs.Text.{trace_text}
use Rattle.trace_replay.specs.Runs.{start_of, OneRun, OneText, OnePacks, AreSameAt}
use Rattle.trace_replay.specs.Single.{AgreeOnInput, OneTrace}
use Rattle.trace_replay.proofs.OneStep.{one_step, is_told, told_now, idle_now}

first_of : List Numbered → Moment
first_of [] = Idle 0
first_of (n ∷ ns) = Played n.line n.input

is_empty : List Numbered → ℕ
is_empty [] = 0
is_empty (m ∷ ms) = 1

-- where all is over and the script has ended, nothing may come
nothing_more : (s : Replay) (n : Moment) (ns : List Moment) → IsOver s → MayCome s n → [] ≡ played (n ∷ ns) → ⊥
unfolding is_empty is_told
nothing_more s (Played line input) ns over may same = absurd (omega (arith, ap is_empty same))
nothing_more s (Told line unit id deed) ns over may same = absurd (omega (arith, told_now s line unit id deed may, ap is_told over.over))
nothing_more s (Idle line) ns over may same = absurd (omega (arith, idle_now s line may, ap is_told over.over))

agree : (m n : Moment) (ms ns : List Moment) → played (m ∷ ms) ≡ played (n ∷ ns) → AgreeOnInput m n
unfolding first_of
agree (Played line input) (Played line' input') ms ns same = ap first_of same
agree (Played line input) (Told line' unit id deed) ms ns same = tt
agree (Played line input) (Idle line') ms ns same = tt
agree (Told line unit id deed) n ms ns same = tt
agree (Idle line) n ms ns same = tt

tails : (m : Moment) (ms ns : List Moment) → played (m ∷ ms) ≡ played (m ∷ ns) → played ms ≡ played ns
tails (Played line input) ms ns same = ap (λ xs. drop 1 xs) same
tails other ms ns same = same

same_moments : (s : Replay) (ms ns : List Moment) → Follows s ms → Follows s ns → IsOver (after_moments s ms) → IsOver (after_moments s ns)
    → played ms ≡ played ns → ms ≡ ns
same_moments s [] [] a b over over' same = refl
same_moments s [] (n ∷ ns) a b over over' same = absurd (nothing_more s n ns over b.0 same)
same_moments s (m ∷ ms) [] a b over over' same = absurd (nothing_more s m ms over' a.0 (sym same))
same_moments s (m ∷ ms) (n ∷ ns) a b over over' same =
    ap (λ x. x ∷ ms) one ∙ ap (λ xs. n ∷ xs) (same_moments (after_moment s m) ms ns a.1
    (subst (λ x. Follows (after_moment s x) ns) (sym one) b.1) over
    (subst (λ x. IsOver (after_moments (after_moment s x) ns)) (sym one) over')
    (tails m ms ns (subst (λ x. played (m ∷ ms) ≡ played (x ∷ ns)) (sym one) same)))
  where
    one : m ≡ n
    one = one_step s m n a.0 b.0 (agree m n ms ns same)

pub one_trace : OneTrace
one_trace s ms ns a b same = same_moments s ms ns a.follows b.follows a.over b.over same

pub one_run : OneRun
one_run script tables old new new' ms ns a b = one_trace (start_of script tables old) ms ns a.trace b.trace (a.inputs ∙ sym b.inputs)

pub one_text : OneText
one_text script tables old new new' ms ns a b = (ap trace_text same, ap answers_in same)
  where
    same : ms ≡ ns
    same = one_run script tables old new new' ms ns a b

pub one_packs : OnePacks
one_packs script tables old new new' ms ns a b unit = at (drives_of script unit) refl
  where
    same : ms ≡ ns
    same = one_run script tables old new new' ms ns a b

    left : AreLeft (drives_of script) old new' (after_moments (start_of script tables old) ms).surface
    left = subst (λ x. AreLeft (drives_of script) old new' (after_moments (start_of script tables old) x).surface) (sym same) b.packs

    at : (drive : Option DriveKind) → drives_of script unit ≡ drive → AreSameAt drive (new unit) (new' unit)
    at None is = a.packs.others unit is ∙ sym (left.others unit is)
    at (Some kind) is = record {
      sectors = λ block below. a.packs.sectors unit kind block is below ∙ sym (left.sectors unit kind block is below);
      beyond = a.packs.beyond unit kind is ∙ sym (left.beyond unit kind is);
      marks = a.packs.marks unit ∙ sym (left.marks unit);
    }
