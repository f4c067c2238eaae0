-- Requests one behind the other.
use Rattle.std.proofs.Common.{◌≡◌, ℕ, List, [], ◌∷◌, ◌++◌, refl, sym, ap, ◌∙◌, subst, append-nil, append_assoc}
use Rattle.trace_replay.specs.requests.Requests.{Request}
use Rattle.driver_laws.specs.rules.Sessions.{waited}
use Rattle.blocking_io.specs.FrontsPasses.{Stage, setup_at, GoesOn, StillTell, SessionsJoin}
use Rattle.blocking_io.specs.Sites.{map_at}
use Rattle.blocking_io.proofs.Sites.{others_none, others_over}
use Rattle.driver_laws.specs.rules.Requests.{behind}
use Rattle.driver_laws.proofs.rules.Requested.{behind_more}
use Rattle.buffer_cache.specs.Asks.{Waited, requests_of, parts_of, Asks}

pub asks_none : (line : ℕ) (s : Stage) → Asks line [] s s
asks_none line s = record {
  waited_for = [];
  are = refl;
  goes = record {
    trace = λ t. sym (append-nil s.taken);
    setup = refl;
    stays = λ t. (others_none (setup_at s)).stay;
    tables = λ t tables. tables;
    long = λ t tables replay stands unit. refl;
    reaches = λ t tables replay stands. record { session = tt; stands = stands };
  };
  others = λ t tables. others_none (setup_at s);
  map = λ t tables. refl;
}

pub requests_more : (xs ys : List Waited) → requests_of (xs ++ ys) ≡ requests_of xs ++ requests_of ys
requests_more [] ys = refl
requests_more (x ∷ xs) ys = ap (λ zs. x.request ∷ zs) (requests_more xs ys)

pub parts_more : (line : ℕ) (xs ys : List Waited) → parts_of line (xs ++ ys) ≡ parts_of line xs ++ parts_of line ys
parts_more line [] ys = refl
parts_more line (x ∷ xs) ys = ap (λ zs. waited line x.request x.asked x.drained ++ zs) (parts_more line xs ys)
    ∙ sym (append_assoc (waited line x.request x.asked x.drained) (parts_of line xs) (parts_of line ys))

pub both : {rs qs xs ys : List Request} → xs ≡ rs → ys ≡ qs → xs ++ ys ≡ rs ++ qs
both {rs} {qs} {xs} {ys} e f = ap (λ zs. zs ++ ys) e ∙ ap (λ zs. rs ++ zs) f

unfoldable pub asks_join : SessionsJoin → (line : ℕ) (rs qs : List Request) (old mid new : Stage) → Asks line rs old mid → Asks line qs mid new → StillTell mid new → Asks line (rs ++ qs) old new
asks_join law line rs qs old mid new first next still = record {
  waited_for = first.waited_for ++ next.waited_for;
  are = requests_more first.waited_for next.waited_for ∙ both first.are next.are;
  goes = subst (λ ps. GoesOn ps old new) (sym (parts_more line first.waited_for next.waited_for))
      (law (parts_of line first.waited_for) (parts_of line next.waited_for) old mid new first.goes next.goes still);
  others = λ t tables. others_over old mid new first.goes.setup (first.others (still.packs t) tables) (next.others t (first.goes.tables (still.packs t) tables));
  map = λ t tables. next.map t (first.goes.tables (still.packs t) tables) ∙ ap (λ m. behind m qs) (first.map (still.packs t) tables) ∙ sym (behind_more (map_at old) rs qs);
}
