-- What calls leave, one behind the other.
use Rattle.std.proofs.Common.{◌≡◌, inl, inr, ℕ, ◌+◌, false, true, List, [], ◌∷◌, ◌++◌, length, take, Option, None, Some, refl, sym, ap, ◌∙◌, subst, arith, length-append}
use Rattle.std.specs.Prelude.{if◌then◌else◌, ◌==◌, ◌&&◌}
use Rattle.std.proofs.lemmas.Bool.{eq-eqb}
use Rattle.driver_laws.specs.rules.Waited.{map_of, with_packs}
use Rattle.buffer_cache.specs.Passes.{Stage, setup_at, map_at, left_map}
use Rattle.buffer_cache.proofs.Passes.{others_none, others_over, left_over}
use Rattle.driver_laws.specs.declared.rules.cached.Entry.{Entry}
use Rattle.driver_laws.specs.rules.Requests.{Map}
use Rattle.driver_laws.specs.rules.Entries.{State}
use Rattle.driver_laws.specs.rules.Contents.{cached, AllFit, IsOne}
use Rattle.buffer_cache.specs.Calls.{Holds}
use Rattle.cached_run.specs.Answers.{Replacement, after}
use Rattle.cached_run.specs.Leaving.{IsLeft, Leaves, Makes, KeepsSetup}
use Rattle.cached_run.proofs.Replacings.{after_more, same_map, take_first, take_second}
use Rattle.cached_run.proofs.Numbers.{both_longer, longer}

-- ---- nothing is done
pub leaves_none : (list : List Replacement) (s : State) (here : Stage) → Leaves list s here here
leaves_none list s here = record { each = λ u b. inl refl; others = others_none (setup_at here) }

pub makes_none : (s : State) (here : Stage) → AllFit (map_at here) s.entries → Makes [] s s here here
makes_none s here fit = record { contents = λ u b. refl; fit = fit }

-- ---- a longer list
pub left_more : (list more : List Replacement) (map : Map) (entries : List Entry) (u b : ℕ) (now : Option (List ℕ)) → IsLeft list map entries u b now → IsLeft (list ++ more) map entries u b now
left_more list more map entries u b now (inl same) = inl same
left_more list more map entries u b now (inr some) = inr (record {
  number = some.number;
  to = let to = some.to in let e = length-append list more in longer some.number (length list) (length more) (length (list ++ more)) to e;
  holds = some.holds ∙ ap (λ z. after z (cached entries map) u b) (sym (take_first some.number list more some.to));
})

pub leaves_more : (list more : List Replacement) (s : State) (old new : Stage) → Leaves list s old new → Leaves (list ++ more) s old new
leaves_more list more s old new l = record { each = λ u b. left_more list more (map_at old) s.entries u b (left_map old new u b) (l.each u b); others = l.others }

-- ---- two
left_then : (first next : List Replacement) (map mid : Map) (entries between : List Entry) (u b : ℕ) (now : Option (List ℕ)) → IsLeft first map entries u b (mid u b)
    → cached between mid ≡ after first (cached entries map) → IsLeft next mid between u b now → IsLeft (first ++ next) map entries u b now
left_then first next map mid entries between u b now before contents (inl same) =
    subst (IsLeft (first ++ next) map entries u b) (sym same) (left_more first next map entries u b (mid u b) before)
left_then first next map mid entries between u b now before contents (inr some) = inr (record {
  number = length first + some.number;
  to = let to = some.to in let e = length-append first next in both_longer (length first) some.number (length next) (length (first ++ next)) to e;
  holds = some.holds ∙ ap (λ z. after (take some.number next) z u b) contents
      ∙ ap (λ z. z u b) (sym (after_more first (take some.number next) (cached entries map)))
      ∙ ap (λ z. after z (cached entries map) u b) (sym (take_second first next some.number));
})

pub leaves_then : (first next : List Replacement) (s s' : State) (old mid new : Stage) → KeepsSetup old mid → Leaves first s old mid → Makes first s s' old mid → Leaves next s' mid new → Leaves (first ++ next) s old new
leaves_then first next s s' old mid new k l m n = record {
  each = λ u b. subst (λ (z : Map). IsLeft (first ++ next) (map_at old) s.entries u b (z u b)) (left_over old mid new k.setup)
      (left_then first next (map_at old) (map_at mid) s.entries s'.entries u b (left_map mid new u b)
      (subst (λ (z : Map). IsLeft first (map_at old) s.entries u b (z u b)) (left_now old mid k.setup) (l.each u b))
      (same_map (cached s'.entries (map_at mid)) (after first (cached s.entries (map_at old))) m.contents) (n.each u b));
  others = others_over old mid new k.setup l.others n.others;
}
  where
    left_now : (old new : Stage) → setup_at new ≡ with_packs (setup_at old) new.held → left_map old new ≡ map_at new
    left_now old new same = ap map_of (sym same)

pub makes_then : (first next : List Replacement) (s s' s'' : State) (old mid new : Stage) → Makes first s s' old mid → Makes next s' s'' mid new → Makes (first ++ next) s s'' old new
makes_then first next s s' s'' old mid new m n = record {
  contents = λ u b. n.contents u b
      ∙ ap (λ z. after next z u b) (same_map (cached s'.entries (map_at mid)) (after first (cached s.entries (map_at old))) m.contents)
      ∙ ap (λ z. z u b) (sym (after_more first next (cached s.entries (map_at old))));
  fit = n.fit;
}

-- ---- one call: a read leaves what was there or cached, and a write perhaps what it is to write
pub left_read : (unit block : ℕ) (map : Map) (entries : List Entry) (u b : ℕ) (now : Option (List ℕ)) → IsOne map entries unit block None u b now → IsLeft [] map entries u b now
left_read unit block map entries u b now (inl same) = inl same
left_read unit block map entries u b now (inr (inl here)) = inr (record { number = 0; to = omega arith; holds = here })
left_read unit block map entries u b now (inr (inr own)) = absurd (never own.1.1.0)
  where
    never : false ≡ true → ⊥
    never e = cc

pub left_write : (unit block : ℕ) (from : List ℕ) (map : Map) (entries : List Entry) (u b : ℕ) (now : Option (List ℕ)) → IsOne map entries unit block (Some from) u b now
    → IsLeft (record { unit = unit; block = block; bytes = from } ∷ []) map entries u b now
left_write unit block from map entries u b now (inl same) = inl same
left_write unit block from map entries u b now (inr (inl here)) = inr (record { number = 0; to = omega arith; holds = here })
left_write unit block from map entries u b now (inr (inr own)) = inr (record {
  number = 1;
  to = omega arith;
  holds = own.1.1.1 ∙ sym (there (cached entries map u b) own.0 own.1.0);
})
  where
    there : (held : Option (List ℕ)) → u ≡ unit → b ≡ block → (if (u == unit) && (b == block) then Some from else held) ≡ Some from
    there held e f = rw (eq-eqb u unit e, eq-eqb b block f) refl

pub leaves_read : (unit block : ℕ) (s : State) (old new : Stage) → Holds unit block None s old new → Leaves [] s old new
leaves_read unit block s old new h = record { each = λ u b. left_read unit block (map_at old) s.entries u b (left_map old new u b) (h.each u b); others = h.others }

pub leaves_write : (unit block : ℕ) (from : List ℕ) (s : State) (old new : Stage) → Holds unit block (Some from) s old new → Leaves (record { unit = unit; block = block; bytes = from } ∷ []) s old new
leaves_write unit block from s old new h = record { each = λ u b. left_write unit block from (map_at old) s.entries u b (left_map old new u b) (h.each u b); others = h.others }
