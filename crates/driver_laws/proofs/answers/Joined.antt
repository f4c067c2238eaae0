-- Lists of acts, and outcomes, one behind the other.
use Rattle.std.proofs.Common.{◌≡◌, ℕ, List, [], ◌∷◌, ◌++◌, Option, None, Some, refl, sym, ap, subst, ◌∙◌, arith, rules}
use Rattle.std.proofs.lemmas.List.{append_assoc, append-nil}
use Rattle.pack_geometry.specs.Pack.{Pack}
use Rattle.trace_replay.specs.Moments.{Moment}
use Rattle.trace_replay.specs.Text.{trace_text, moment_text}
use Rattle.driver_machine.specs.World.{World}
use Rattle.driver_machine.specs.Acts.{Act, after, after_all}
use Rattle.driver_machine.specs.Lines.{lines_of, lines_of_all}
use Rattle.driver_machine.specs.Runs.{Run}
use Rattle.driver_laws.specs.answers.Packs.{ReadAll, packs_after, packs_after_all}
use Rattle.driver_laws.specs.answers.Outcome.{Site, Told, Acts, Does, IsFront, Outcome, text_after}
use Rattle.driver_laws.specs.declared.answers.outcome.Stop.{Stop}
use Rattle.driver_laws.specs.declared.answers.outcome.Stop.TheVariants.{Store, Sink}
use Rattle.driver_laws.proofs.invariant.Leads.{after_append}

-- LISTS OF ACTS
pub run_append : (w : World) (xs ys : List Act) → Run w xs → Run (after_all w xs) ys → Run w (xs ++ ys)
run_append w [] ys first next = next
run_append w (x ∷ xs) ys first next = (first.0, run_append (after w x) xs ys first.1 next)

pub reads_append : (w : World) (packs : ℕ → Pack) (xs ys : List Act) → ReadAll w packs xs → ReadAll (after_all w xs) (packs_after_all w packs xs) ys
    → ReadAll w packs (xs ++ ys)
reads_append w packs [] ys first next = next
reads_append w packs (x ∷ xs) ys first next = (first.0, reads_append (after w x) (packs_after w packs x) xs ys first.1 next)

pub packs_append : (w : World) (packs : ℕ → Pack) (xs ys : List Act)
    → packs_after_all w packs (xs ++ ys) ≡ packs_after_all (after_all w xs) (packs_after_all w packs xs) ys
packs_append w packs [] ys = refl
packs_append w packs (x ∷ xs) ys = packs_append (after w x) (packs_after w packs x) xs ys

pub lines_append : (w : World) (xs ys : List Act) → lines_of_all w (xs ++ ys) ≡ lines_of_all w xs ++ lines_of_all (after_all w xs) ys
lines_append w [] ys = refl
lines_append w (x ∷ xs) ys =
    ap (λ (ms : List Moment). lines_of w x ++ ms) (lines_append (after w x) xs ys)
    ∙ sym (append_assoc (lines_of w x) (lines_of_all (after w x) xs) (lines_of_all (after_all (after w x) xs) ys))

pub text_append : (ms ns : List Moment) → trace_text (ms ++ ns) ≡ trace_text ms ++ trace_text ns
text_append [] ns = refl
text_append (m ∷ ms) ns =
    ap (λ (t : List ℕ). moment_text m ++ t) (text_append ms ns) ∙ sym (append_assoc (moment_text m) (trace_text ms) (trace_text ns))

-- FRONTS of texts
pub front_same : (text : List ℕ) → IsFront text text
front_same text = record { rest = []; whole = sym (append-nil text) }

pub front_more : (text more : List ℕ) → IsFront text (text ++ more)
front_more text more = record { rest = more; whole = refl }

pub front_of_front : (first mid text : List ℕ) → IsFront first mid → IsFront mid text → IsFront first text
front_of_front first mid text is also = record {
  rest = is.rest ++ also.rest;
  whole = also.whole ∙ ap (λ (t : List ℕ). t ++ also.rest) is.whole ∙ append_assoc first is.rest also.rest;
}

-- WHAT IS DONE, one behind the other
pub acts_join : (told : Told) (xs ys : List Act) (old mid new : Site) → Acts told xs old mid → Acts told ys mid new → Acts told (xs ++ ys) old new
acts_join told xs ys old mid new first next = record {
  run = run_append old.world xs ys first.run (subst (λ (w : World). Run w ys) first.world next.run);
  world = next.world ∙ ap (λ (w : World). after_all w ys) first.world ∙ sym (after_append old.world xs ys);
  reads = λ tells. reads_append old.world old.held xs ys (first.reads tells)
      (subst (λ (p : ℕ → Pack). ReadAll (after_all old.world xs) p ys) (first.packs tells)
      (subst (λ (w : World). ReadAll w mid.held ys) first.world (next.reads tells)));
  packs = λ tells. next.packs tells ∙ ap (λ (w : World). packs_after_all w mid.held ys) first.world
      ∙ ap (λ (p : ℕ → Pack). packs_after_all (after_all old.world xs) p ys) (first.packs tells)
      ∙ sym (packs_append old.world old.held xs ys);
}

-- the text of both
pub text_join : (xs ys : List Act) (old mid : Site) → mid.world ≡ after_all old.world xs → mid.text ≡ text_after old xs
    → text_after mid ys ≡ text_after old (xs ++ ys)
text_join xs ys old mid world text =
    ap (λ (w : World). mid.text ++ trace_text (lines_of_all w ys)) world
    ∙ ap (λ (t : List ℕ). t ++ trace_text (lines_of_all (after_all old.world xs) ys)) text
    ∙ append_assoc old.text (trace_text (lines_of_all old.world xs)) (trace_text (lines_of_all (after_all old.world xs) ys))
    ∙ ap (λ (t : List ℕ). old.text ++ t)
    (sym (ap trace_text (lines_append old.world xs ys) ∙ text_append (lines_of_all old.world xs) (lines_of_all (after_all old.world xs) ys)))

pub does_join : (told : Told) (xs ys : List Act) (old mid new : Site) → Does told xs old mid → Does told ys mid new → Does told (xs ++ ys) old new
does_join told xs ys old mid new first next = record {
  does = acts_join told xs ys old mid new first.does next.does;
  text = λ tells. next.text tells ∙ text_join xs ys old mid first.does.world (first.text tells);
  sent = λ tells. front_of_front old.sent mid.sent new.sent (first.sent tells) (next.sent tells);
}

-- OUTCOMES
pub does_then : (told : Told) (first next : List Act) (old mid new : Site) (stop : Option Stop)
    → Does told first old mid → Outcome told next mid new stop → Outcome told (first ++ next) old new stop
does_then told first next old mid new None does is = does_join told first next old mid new does is
does_then told first next old mid new (Some Sink) does is = record {
  done = first ++ is.done;
  left = is.left;
  all = ap (λ (acts : List Act). first ++ acts) is.all ∙ sym (append_assoc first is.done is.left);
  does = acts_join told first is.done old mid new does.does is.does;
  front = λ tells. subst (IsFront new.text) (text_join first is.done old mid does.does.world (does.text tells)) (is.front tells);
  sent = λ tells. front_of_front old.sent mid.sent new.sent (does.sent tells) (is.sent tells);
}
does_then told first next old mid new (Some Store) does is = record {
  done = first ++ is.done;
  between = is.between;
  does = does_join told first is.done old mid is.between does is.does;
  world = is.world;
  text = is.text;
  packs = is.packs;
}

pub stopped_before : (told : Told) (first next : List Act) (old new : Site) (stop : Stop)
    → Outcome told first old new (Some stop) → Outcome told (first ++ next) old new (Some stop)
stopped_before told first next old new Sink is = record {
  done = is.done;
  left = is.left ++ next;
  all = ap (λ (acts : List Act). acts ++ next) is.all ∙ append_assoc is.done is.left next;
  does = is.does;
  front = is.front;
  sent = is.sent;
}
stopped_before told first next old new Store is = is

pub nothing_done : (told : Told) (s : Site) → Does told [] s s
nothing_done told s = first_of (search rules, grind arith)
