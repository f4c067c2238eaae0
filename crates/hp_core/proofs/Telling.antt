-- From a change of the world and its line to what the act comes to.
use Rattle.std.proofs.Common.{◌≡◌, ℕ, Bool, List, [], ◌∷◌, ◌++◌, drop, take, take-append-drop, refl, sym, ap, ◌∙◌, subst, arith}
use Rattle.std.specs.Prelude.{Result, Ok, Err, IfErr}
use Rattle.std.proofs.lemmas.List.{append_assoc, append-nil}
use Rattle.pack_geometry.specs.Pack.{Pack}
use Rattle.outside_traits.specs.Puts.{TakesFront}
use Rattle.outside_traits.specs.Gathers.{Gathers}
use Rattle.trace_replay.specs.Moments.{Moment}
use Rattle.trace_replay.specs.Text.{trace_text, moment_text}
use Rattle.driver_machine.specs.World.{World}
use Rattle.driver_machine.specs.Acts.{Act, after}
use Rattle.driver_machine.specs.Lines.{lines_of, lines_of_all}
use Rattle.driver_machine.specs.Guards.{Allowed}
use Rattle.driver_laws.specs.answers.Packs.{Reads, packs_after}
use Rattle.driver_laws.specs.answers.Outcome.{Site, Acts, IsFront, Outcome, text_after, stop_in}
use Rattle.driver_laws.specs.answers.Outcome as outcome
use Rattle.driver_laws.proofs.answers.Joined.{front_same}
use Rattle.driver_laws.specs.declared.answers.outcome.Stop.{Stop}
use Rattle.driver_laws.specs.declared.answers.outcome.Stop.TheVariants.{Store, Sink}
use Rattle.hp_core.specs.State.{State, site}
use Rattle.hp_core.specs.Done.{Tells, DoesAct, DoesSilently}

-- an act that has nothing to do with the packs
pub record IsApart (act : Act) : Type 0 where
  pub reads : (w : World) (packs : ℕ → Pack) → Reads w packs act
  pub packs : (w : World) (packs : ℕ → Pack) → packs_after w packs act ≡ packs

-- the text of one line
pub one_text : (w : World) (act : Act) (m : Moment) → lines_of w act ≡ m ∷ [] → trace_text (lines_of_all w (act ∷ [])) ≡ moment_text m
one_text w act m is = ap (λ (ms : List Moment). trace_text (ms ++ [])) is ∙ append-nil (moment_text m)

no_text : (w : World) (act : Act) → lines_of w act ≡ [] → trace_text (lines_of_all w (act ∷ [])) ≡ []
no_text w act is = ap (λ (ms : List Moment). trace_text (ms ++ [])) is

-- the act is done, whatever was told
acts_one : (told : outcome.Told) (act : Act) (held : ℕ → Pack) (old new : Site) → IsApart act → Allowed old.world act → new.world ≡ after old.world act
    → old.held ≡ held → new.held ≡ held → Acts told (act ∷ []) old new
acts_one told act held old new apart may world before behind = record {
  run = (may, tt);
  world = world;
  reads = λ tells. (apart.reads old.world old.held, tt);
  packs = λ tells. behind ∙ sym before ∙ sym (apart.packs old.world old.held);
}

module _ {O : Type 0} (tells : O → Bool) (taken : O → List ℕ) (faults : O → ℕ) (trace trace' : O) (old mid new : State) (act : Act) (m : Moment) where
  text_is : lines_of old.world act ≡ m ∷ [] → taken trace' ++ new.kept ≡ taken trace ++ (old.kept ++ moment_text m)
      → (packs : ℕ → Pack) → (site new packs (taken trace')).text ≡ text_after (site old packs (taken trace)) (act ∷ [])
  text_is is put packs =
      put ∙ sym (append_assoc (taken trace) old.kept (moment_text m))
      ∙ ap (λ (t : List ℕ). (taken trace ++ old.kept) ++ t) (sym (one_text old.world act m is))

  front_is : lines_of old.world act ≡ m ∷ [] → new.kept ≡ [] → TakesFront (taken trace) (taken trace') (old.kept ++ moment_text m)
      → (packs : ℕ → Pack) → IsFront (site new packs (taken trace')).text (text_after (site old packs (taken trace)) (act ∷ []))
  front_is is none front packs = record {
    rest = drop front.0 (old.kept ++ moment_text m);
    whole =
        let whole : text_after (site old packs (taken trace)) (act ∷ []) ≡ taken trace ++ (old.kept ++ moment_text m) =
        ap (λ (t : List ℕ). (taken trace ++ old.kept) ++ t) (one_text old.world act m is) ∙ append_assoc (taken trace) old.kept (moment_text m) in
        let cut : taken trace ++ (old.kept ++ moment_text m) ≡ taken trace' ++ drop front.0 (old.kept ++ moment_text m) =
        ap (λ (t : List ℕ). taken trace ++ t) (sym (take-append-drop front.0 (old.kept ++ moment_text m)))
        ∙ sym (append_assoc (taken trace) (take front.0 (old.kept ++ moment_text m)) (drop front.0 (old.kept ++ moment_text m)))
        ∙ ap (λ (t : List ℕ). t ++ drop front.0 (old.kept ++ moment_text m)) (sym front.1) in
        whole ∙ cut ∙ ap (λ (t : List ℕ). t ++ drop front.0 (old.kept ++ moment_text m))
        (sym (append-nil (taken trace')) ∙ ap (λ (t : List ℕ). taken trace' ++ t) (sym none));
  }

  -- what was sent before stands
  sent_is : TakesFront (taken trace) (taken trace') (old.kept ++ moment_text m) → IsFront (taken trace) (taken trace')
  sent_is front = record { rest = take front.0 (old.kept ++ moment_text m); whole = front.1 }

  outcome_by : (result : Result (Unit {0}) Stop) → IsApart act → Allowed old.world act → lines_of old.world act ≡ m ∷ [] → new.world ≡ after old.world act
      → Gathers tells taken faults trace trace' old.kept new.kept result (moment_text m) → IfErr result (λ stop. stop ≡ Sink) → (told : Bool) (packs : ℕ → Pack)
      → Outcome (record { packs = told; trace = tells trace' }) (act ∷ []) (site old packs (taken trace)) (site new packs (taken trace')) (stop_in result)
  outcome_by (Ok value) apart may is world g stop told packs = record {
    does = acts_one _ act packs _ _ apart may world refl refl;
    text = λ t. text_is is (g.bytes t) packs;
    sent = λ t. sent_is (g.front t);
  }
  outcome_by (Err Sink) apart may is world g stop told packs = record {
    done = act ∷ [];
    left = [];
    all = refl;
    does = acts_one _ act packs _ _ apart may world refl refl;
    front = λ t. front_is is g.none_kept (g.front t) packs;
    sent = λ t. sent_is (g.front t);
  }
  outcome_by (Err Store) apart may is world g stop told packs = absurd (cc)

  -- the same, where the act has to do with the packs
  pub outcome_of : (told : Bool) (held held' : ℕ → Pack) (result : Result (Unit {0}) Stop) → lines_of old.world act ≡ m ∷ []
      → Acts (record { packs = told; trace = tells trace' }) (act ∷ []) (site old held (taken trace)) (site new held' (taken trace'))
      → Gathers tells taken faults trace trace' old.kept new.kept result (moment_text m) → IfErr result (λ stop. stop ≡ Sink)
      → Outcome (record { packs = told; trace = tells trace' }) (act ∷ []) (site old held (taken trace)) (site new held' (taken trace')) (stop_in result)
  outcome_of told held held' (Ok value) is acts g stop = record { does = acts; text = λ t. text_is is (g.bytes t) held; sent = λ t. sent_is (g.front t) }
  outcome_of told held held' (Err Sink) is acts g stop =
      record { done = act ∷ []; left = []; all = refl; does = acts; front = λ t. front_is is g.none_kept (g.front t) held; sent = λ t. sent_is (g.front t) }
  outcome_of told held held' (Err Store) is acts g stop = absurd (cc)

  -- AN ACT AND ITS LINE
  pub told_act : (result : Result (Unit {0}) Stop) → IsApart act → Allowed old.world act → lines_of old.world act ≡ m ∷ []
      → mid ≡ record old { world = after old.world act } → Tells tells taken faults trace trace' mid new result (moment_text m)
      → DoesAct tells taken faults trace trace' old new result act
  told_act result apart may is change line =
      let world : new.world ≡ after old.world act = line.world ∙ ap (λ (s : State). s.world) change in
      let g : Gathers tells taken faults trace trace' old.kept new.kept result (moment_text m) =
      subst (λ (s : State). Gathers tells taken faults trace trace' s.kept new.kept result (moment_text m)) change line.gathers in
      record {
        outcome = outcome_by result apart may is world g line.stop;
        world = world;
        stop = line.stop;
        never_again = g.never_again;
        cause = g.cause;
      }

-- AN ACT WITHOUT A LINE
pub silent_act : (old new : State) (act : Act) → IsApart act → Allowed old.world act → lines_of old.world act ≡ [] → new ≡ record old { world = after old.world act }
    → DoesSilently old new act
silent_act old new act apart may is change = record {
  does = λ packs told held taken. record {
    does = acts_one _ act held _ _ apart may (ap (λ (s : State). s.world) change) refl refl;
    text = λ t. ap (λ (s : State). taken ++ s.kept) change ∙ sym (append-nil (taken ++ old.kept))
        ∙ ap (λ (x : List ℕ). (taken ++ old.kept) ++ x) (sym (no_text old.world act is));
    sent = λ t. front_same taken;
  };
  world = ap (λ (s : State). s.world) change;
}

-- AN ACT WITHOUT A LINE tells none.
pub quiet_act : {O : Type 0} (tells : O → Bool) (taken : O → List ℕ) (faults : O → ℕ) (trace : O) (old new : State) (act : Act) → IsApart act → Allowed old.world act
    → lines_of old.world act ≡ [] → new ≡ record old { world = after old.world act } → DoesAct tells taken faults trace trace old new (Ok tt) act
quiet_act tells taken faults trace old new act apart may is change =
    let silent : DoesSilently old new act = silent_act old new act apart may is change in
    record {
      outcome = λ told packs. silent.does told (tells trace) packs (taken trace);
      world = silent.world;
      stop = tt;
      never_again = λ t. t;
      cause = record { later = omega arith; failed = tt };
    }
