-- Each request of a picture is at the place of its id.
use Rattle.std.proofs.Common.{◌≡◌, ℕ, ◌+◌, ◌<◌, ◌==◌, Bool, true, false, List, [], ◌∷◌, ◌++◌, length, fold, set, Option, Some, None, Result, Ok, Err, refl, sym, ap, ◌∙◌, subst, arith}
use Rattle.std.proofs.lemmas.Bool.Decides.{nat_tests}
use Rattle.std.proofs.lemmas.List.{get_or-set_same, length-append}
use Rattle.drive_pictures.specs.declared.drives.Drive.{Drive}
use Rattle.drive_pictures.specs.declared.moments.Moment.{Moment as Seen}
use Rattle.drive_pictures.specs.declared.moments.Moment.TheVariants.{Played, Told, Idle}
use Rattle.drive_pictures.specs.declared.moments.Play.TheVariants.{Ask, Other}
use Rattle.drive_pictures.specs.declared.moments.Play.TheVariants as play
use Rattle.drive_pictures.specs.declared.requests.Outcome.{Outcome}
use Rattle.drive_pictures.specs.declared.requests.Request.{Request}
use Rattle.drive_pictures.specs.Requests.{new_request, is_refused}
use Rattle.run_picture.specs.Fold.{Known, heard, asked_at, admitted, drive_at, request_at, request_asked, frames_of, met_at, place_in, told_at, request_after, request_end, step}
use Rattle.run_picture.specs.Places.{place_of}
use Rattle.script_lines.specs.declared.statement.Request.{Request as Asked}
use Rattle.trace_lines.specs.declared.telling.Told.{Told as Line}
use Rattle.trace_lines.specs.declared.telling.Told.TheVariants as deed
use Rattle.run_view.proofs.answers.Asking.{append_grows, last_at, new_level, new_place}
use Rattle.run_view.proofs.answers.Drives.{is_same, is_other}
use Rattle.run_view.proofs.answers.Hears.{at_moment}
use Rattle.run_view.proofs.answers.Telling.{request_many, set_grows}
use Rattle.run_view.proofs.answers.Turning.{Rest, moment_rest}

pub record IsNamed (names : List ℕ) (l : List Request) : Type 0 where
  pub level : length names ≡ length l
  pub own : (p : ℕ) → p < length l → place_of names (request_at l p).id ≡ Some p

pub none_named : IsNamed [] []
none_named = record { level = refl; own = λ p inside. absurd (omega (arith, inside)) }

-- ONE MORE, of a new id
not_last : (n m p : ℕ) → p < m → m ≡ n + 1 → (p == n) ≡ false → p < n
not_last n m p inside is apart = grind (arith, nat_tests, inside, is, apart)

more_at : (names : List ℕ) (l : List Request) (id : ℕ) (x : Request) → IsNamed names l → place_of names id ≡ None → x.id ≡ id → (p : ℕ) → p < length (l ++ x ∷ []) → (b : Bool) → (p == length l) ≡ b
    → place_of (names ++ id ∷ []) (request_at (l ++ x ∷ []) p).id ≡ Some p
more_at names l id x named none own p inside true is =
    subst (λ (n : ℕ). place_of (names ++ id ∷ []) (request_at (l ++ x ∷ []) n).id ≡ Some n) (sym (is_same p (length l) is))
    (ap (λ (r : Request). place_of (names ++ id ∷ []) r.id) (last_at l x) ∙ ap (place_of (names ++ id ∷ [])) own ∙ new_place names l id named.level none)
more_at names l id x named none own p inside false is =
    let before : p < length l = not_last (length l) (length (l ++ x ∷ [])) p inside (length-append l (x ∷ [])) is in
    ap (λ (r : Request). place_of (names ++ id ∷ []) r.id) ((append_grows names l id x).others p before (is_other p (length l) is)).1
    ∙ (append_grows names l id x).found (request_at l p).id p (named.own p before)

more_named : (names : List ℕ) (l : List Request) (id : ℕ) (x : Request) → IsNamed names l → place_of names id ≡ None → x.id ≡ id → IsNamed (names ++ id ∷ []) (l ++ x ∷ [])
more_named names l id x named none own = record {
  level = new_level names l id x named.level;
  own = λ p inside. more_at names l id x named none own p inside (p == length l) refl;
}

-- ONE IN ITS PLACE, of the same id
set_at : (names : List ℕ) (l : List Request) (place : ℕ) (x : Request) → IsNamed names l → x.id ≡ (request_at l place).id → (p : ℕ) → p < length l → (b : Bool) → (p == place) ≡ b
    → place_of names (request_at (set l place x) p).id ≡ Some p
set_at names l place x named own p inside true is =
    let same : p ≡ place = is_same p place is in
    subst (λ (n : ℕ). place_of names (request_at (set l n x) p).id ≡ Some p) same
    (ap (λ (r : Request). place_of names r.id) (get_or-set_same l p x (new_request 0 0 0 0 false) inside)
    ∙ ap (place_of names) (own ∙ ap (λ (n : ℕ). (request_at l n).id) (sym same)) ∙ named.own p inside)
set_at names l place x named own p inside false is =
    ap (λ (r : Request). place_of names r.id) ((set_grows names l place x).others p inside (is_other p place is)).1 ∙ named.own p inside

set_named : (names : List ℕ) (l : List Request) (place : ℕ) (x : Request) → IsNamed names l → x.id ≡ (request_at l place).id → IsNamed names (set l place x)
set_named names l place x named own = record {
  level = named.level ∙ sym (request_many l place x);
  own = λ p inside. set_at names l place x named own p (subst (λ n. p < n) (request_many l place x) inside) (p == place) refl;
}

-- A MOMENT MORE
asked_id : (a : Result ℕ Outcome) (frames joined : ℕ) (r : Request) → (request_asked a frames joined r).id ≡ r.id
asked_id (Ok cylinder) frames joined r = refl
asked_id (Err why) frames joined r = refl

asked_named : (o : Option ℕ) (line : ℕ) (r : Asked) (write : Bool) (k : Known) → place_of k.ids r.id ≡ o → IsNamed k.ids k.requests → IsNamed (asked_at o line r write k).ids (asked_at o line r write k).requests
asked_named (Some place) line r write k is named = named
asked_named None line r write k is named =
    more_named k.ids k.requests r.id _ named is
    (asked_id (admitted (drive_at k.drives r.unit).kind r k.lent) (frames_of r) (drive_at k.drives r.unit).queue.joined (new_request k.event line r.unit r.id write))

met_named : (o : Option ℕ) (line u id : ℕ) (k : Known) → place_of k.ids id ≡ o → IsNamed k.ids k.requests → IsNamed (met_at o line u id k).ids (met_at o line u id k).requests
met_named (Some place) line u id k is named = named
met_named None line u id k is named = more_named k.ids k.requests id _ named is refl

end_id : (b : Bool) (event line : ℕ) (d : Drive) (r : Request) → (request_end b event line d r).id ≡ r.id
end_id true event line d r = refl
end_id false event line d r = refl

after_id : (event line place : ℕ) (t : Line) (d : Drive) (r : Request) → (request_after event line place t d r).id ≡ r.id
after_id event line place deed.End d r = end_id (is_refused place d r) event line d r
after_id event line place t d r = refl

told_named : (place line u : ℕ) (t : Line) (k : Known) → IsNamed k.ids k.requests → IsNamed (told_at place line u t k).ids (told_at place line u t k).requests
told_named place line u t k named = set_named k.ids k.requests place _ named (after_id k.event line place t (drive_at k.drives u) (request_at k.requests place))

heard_named : (m : Seen) (k : Known) → IsNamed k.ids k.requests → IsNamed (heard m k).ids (heard m k).requests
heard_named (Played line (Ask r write)) k named = asked_named (place_of k.ids r.id) line r write k refl named
heard_named (Played line (play.Change u change)) k named = named
heard_named (Played line Other) k named = named
heard_named (Told line u id t) k named =
    told_named (place_in (place_of k.ids id) k.ids) line u t (met_at (place_of k.ids id) line u id k) (met_named (place_of k.ids id) line u id k refl named)
heard_named (Idle line) k named = named

pub turned_named : (m : Seen) (k : Known) → IsNamed k.ids k.requests → IsNamed (at_moment k m).ids (at_moment k m).requests
turned_named m k named = subst (λ (r : Rest). IsNamed r.ids r.requests) (sym (moment_rest m k)) named

pub all_named : (k : Known) (moments : List Seen) → IsNamed k.ids k.requests → IsNamed (fold step k moments).ids (fold step k moments).requests
all_named k [] named = named
all_named k (m ∷ moments) named =
    all_named (step k m) moments (heard_named m (at_moment k m) (turned_named m k named))
