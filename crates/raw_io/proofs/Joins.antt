-- One transfer behind the other.
use Rattle.std.proofs.Common.{◌≡◌, ℕ, Bool, List, [], ◌∷◌, ◌++◌, refl, sym, ap, ◌∙◌, subst, arith, append-nil, append_assoc, true, false}
use Rattle.std.specs.Prelude.{Contains}
use Rattle.std.proofs.lemmas.Bool.{false≢true}
use Rattle.std.proofs.lemmas.List.Elements.{Contains-append_left, Contains-append_right}
use Rattle.hardware_table.specs.declared.Moved.TheVariants.{Clean}
use Rattle.trace_replay.specs.Moments.{Told, Sector}
use Rattle.partitions.specs.declared.Part.{Part}
use Rattle.driver_laws.specs.rules.Stands.{Setup, home_in}
use Rattle.driver_laws.specs.rules.Sessions.{Part as SessionPart, told_in}
use Rattle.driver_laws.specs.rules.Cleans.{MovedClean}
use Rattle.driver_laws.specs.rules.Waited.{with_packs}
use Rattle.blocking_io.specs.FrontsPasses.{Stage, setup_at, StillTell, SessionsJoin}
use Rattle.blocking_io.specs.Fronts.{OthersStay}
use Rattle.blocking_io.proofs.Sites.{homes_same, others_none, others_over}
use Rattle.trace_replay.specs.requests.Requests.{Request}
use Rattle.raw_io.specs.Transfers.{AreWaited, IsAsk, Transfers}

-- ---- requests
pub waited_more : (reads : Bool) (unit : ℕ) (part : Part) (xs ys : List SessionPart) → AreWaited reads unit part xs → AreWaited reads unit part ys → AreWaited reads unit part (xs ++ ys)
waited_more reads unit part [] ys first next = next
waited_more reads unit part (one ∷ []) ys first next = absurd first
waited_more reads unit part (one ∷ two ∷ xs) ys first next = (first.0, waited_more reads unit part xs ys first.1 next)

pub transfers_none : (reads : Bool) (unit : ℕ) (part : Part) (s : Stage) → Transfers reads unit part s s
transfers_none reads unit part s = record {
  parts = [];
  waited = tt;
  goes = record {
    trace = λ t. sym (append-nil s.taken);
    setup = refl;
    stays = λ t. (others_none (setup_at s)).stay;
    tables = λ t tables. tables;
    long = λ t tables replay stands unit. refl;
    reaches = λ t tables replay stands. record { session = tt; stands = stands };
  };
  others = λ t tables. others_none (setup_at s);
  images = λ t only unit. refl;
}

unfoldable pub transfers_for : (reads : Bool) (u unit : ℕ) (q part : Part) (old new : Stage) → u ≡ unit → q ≡ part → Transfers reads u q old new → Transfers reads unit part old new
transfers_for reads u unit q part old new here same t = record {
  parts = t.parts;
  waited = subst (λ z. AreWaited reads unit z t.parts) same (subst (λ z. AreWaited reads z q t.parts) here t.waited);
  goes = t.goes;
  others = t.others;
  images = t.images;
}

unfoldable pub transfers_join : SessionsJoin → (reads : Bool) (unit : ℕ) (part : Part) (old mid new : Stage) → Transfers reads unit part old mid → Transfers reads unit part mid new → StillTell mid new
    → Transfers reads unit part old new
transfers_join law reads unit part old mid new first next still = record {
  parts = first.parts ++ next.parts;
  waited = waited_more reads unit part first.parts next.parts first.waited next.waited;
  goes = law first.parts next.parts old mid new first.goes next.goes still;
  others = λ t tables. others_over old mid new first.goes.setup (first.others (still.packs t) tables) (next.others t (first.goes.tables (still.packs t) tables));
  images = λ t only unit. next.images t only unit ∙ first.images (still.packs t) only unit;
}

-- reads are transfers too
pub ask_wider : (unit : ℕ) (part : Part) (r : Request) → IsAsk true unit part r → IsAsk false unit part r
ask_wider unit part r ask = record {
  id = ask.id;
  unit_is = ask.unit_is;
  part_is = ask.part_is;
  some = ask.some;
  few = ask.few;
  last = ask.last;
  offset = ask.offset;
  only = λ e. absurd (no e);
}
  where
    no : false ≡ true → ⊥
    no e = grind (arith, e)

asks_wider : (unit : ℕ) (part : Part) (xs : List SessionPart) → AreWaited true unit part xs → AreWaited false unit part xs
asks_wider unit part [] are = tt
asks_wider unit part (one ∷ []) are = are
asks_wider unit part (one ∷ two ∷ xs) are = (
  record { request = are.0.request; ask = ask_wider unit part are.0.request are.0.ask; submitted_is = are.0.submitted_is; drained_is = are.0.drained_is },
  asks_wider unit part xs are.1,
)

pub transfers_wider : (unit : ℕ) (part : Part) (old new : Stage) → Transfers true unit part old new → Transfers false unit part old new
transfers_wider unit part old new t = record {
  parts = t.parts;
  waited = asks_wider unit part t.parts t.waited;
  goes = t.goes;
  others = t.others;
  images = λ told only. absurd (false≢true only);
}

-- ---- clean lines
told_more : (xs ys : List SessionPart) → told_in (xs ++ ys) ≡ told_in xs ++ told_in ys
told_more [] ys = refl
told_more (one ∷ xs) ys = ap (λ z. one.told ++ z) (told_more xs ys) ∙ sym (append_assoc one.told (told_in xs) (told_in ys))

pub clean_before : (setup : Setup) (unit block : ℕ) (xs ys : List SessionPart) → MovedClean setup unit block (told_in xs) → MovedClean setup unit block (told_in (xs ++ ys))
clean_before setup unit block xs ys c = record {
  sector = c.sector;
  home = c.home;
  line = c.line;
  id = c.id;
  moved = subst (λ z. Contains z (Told c.line unit c.id (Sector c.sector Clean))) (sym (told_more xs ys)) (Contains-append_left (told_in xs) (told_in ys) (Told c.line unit c.id (Sector c.sector Clean)) c.moved);
}

pub clean_behind : (old mid : Stage) (unit block : ℕ) (xs ys : List SessionPart) → setup_at mid ≡ with_packs (setup_at old) mid.held → OthersStay (setup_at old) mid.held
    → MovedClean (setup_at mid) unit block (told_in ys) → MovedClean (setup_at old) unit block (told_in (xs ++ ys))
clean_behind old mid unit block xs ys same others c = record {
  sector = c.sector;
  home = sym (ap (λ z. home_in z unit block) same
      ∙ homes_same ((setup_at old).drives unit) ((setup_at old).tables unit) (mid.held unit) (old.held unit) block (others.stay.marks unit)) ∙ c.home;
  line = c.line;
  id = c.id;
  moved = subst (λ z. Contains z (Told c.line unit c.id (Sector c.sector Clean))) (sym (told_more xs ys)) (Contains-append_right (told_in xs) (told_in ys) (Told c.line unit c.id (Sector c.sector Clean)) c.moved);
}
