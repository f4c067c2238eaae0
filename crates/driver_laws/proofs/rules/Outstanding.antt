-- Requests that are outstanding: one joins, and one leaves.
use Rattle.std.proofs.Common.{◌≡◌, ◌≢◌, inl, inr, ℕ, ◌+◌, ◌==◌, Bool, true, false, List, [], ◌∷◌, length, Option, None, Some, refl, sym, ap, ◌∙◌, arith, rules}
use Rattle.std.specs.Prelude.{if◌then◌else◌}
use Rattle.std.specs.List.{AllByRecursion}
use Rattle.std.proofs.lemmas.Option.{same_Some, none-some}
use Rattle.std.proofs.lemmas.Bool.Decides.{eqb_tells}
use Rattle.std.proofs.lemmas.Bool.{ne_eqb}
use Rattle.pack_geometry.specs.declared.DriveKind.{DriveKind}
use Rattle.trace_replay.specs.requests.ServiceOrder.{Waiting as Waiter, put, is_before}
use Rattle.trace_replay.proofs.requests.ServiceOrderRuns.{each-put, each_weaker}
use Rattle.trace_replay.specs.requests.Requests.{Request}
use Rattle.trace_replay.specs.Service.{frames_needed}
use Rattle.driver_laws.specs.rules.Machine.{request_of, without, frames_of}
use Rattle.driver_laws.specs.rules.Stands.{IsOutstanding, AreDistinct, QueueStands}

-- the id of a request that is found
pub found_id : (id : ℕ) (rs : List Request) (r : Request) → request_of id rs ≡ Some r → r.id ≡ id
found_id id [] r is = absurd (none-some r is)
found_id id (x ∷ rs) r is = elim (eqb_tells x.id id) [
  | inl same ↦ ap (λ (z : Request). z.id) (sym (same_Some x r (rw same.0 at is))) ∙ same.1
  | inr other ↦ found_id id rs r (rw other.0 at is)
]

-- other requests stay as one leaves
pub still_found : (id other : ℕ) (rs : List Request) → other ≢ id → request_of other (without id rs) ≡ request_of other rs
still_found id other [] ne = refl
still_found id other (x ∷ rs) ne = elim (eqb_tells x.id id) [
  | inl same ↦ rw (same.0, ne_eqb x.id other (λ e. ne (sym e ∙ same.1))) refl
  | inr differ ↦ rw differ.0 (ap (λ z. if x.id == other then Some x else z) (still_found id other rs ne))
]

three : (a b c d : ℕ) → b + c ≡ d → a + b + c ≡ a + d
three a b c d e = omega (arith, e)

swap : (a b : ℕ) → a + b ≡ b + a
swap a b = omega arith

-- what one needs is given back
pub frames_left : (id : ℕ) (rs : List Request) (r : Request) → request_of id rs ≡ Some r → frames_of (without id rs) + frames_needed r ≡ frames_of rs
frames_left id [] r is = absurd (none-some r is)
frames_left id (x ∷ rs) r is = elim (eqb_tells x.id id) [
  | inl same ↦ rw same.0 (ap (λ z. frames_of rs + frames_needed z) (sym (same_Some x r (rw same.0 at is))) ∙ swap (frames_of rs) (frames_needed x))
  | inr other ↦ rw other.0 (three (frames_needed x) (frames_of (without id rs)) (frames_needed r) (frames_of rs) (frames_left id rs r (rw other.0 at is)))
]

pub fewer : (id : ℕ) (rs : List Request) (r : Request) → request_of id rs ≡ Some r → length (without id rs) + 1 ≡ length rs
fewer id [] r is = absurd (none-some r is)
fewer id (x ∷ rs) r is = elim (eqb_tells x.id id) [
  | inl same ↦ rw same.0 (omega arith)
  | inr other ↦ rw other.0 (let e : length (without id rs) + 1 ≡ length rs = fewer id rs r (rw other.0 at is) in omega (arith, e))
]

-- ---- those that wait
still_waits : (drives : ℕ → Option DriveKind) (unit id : ℕ) (rs : List Request) (w : Waiter Request) → IsOutstanding drives unit rs w.request → w.request.id ≢ id
    → IsOutstanding drives unit (without id rs) w.request
still_waits drives unit id rs w is ne = record { unit_is = is.unit_is; listed = still_found id w.request.id rs ne ∙ is.listed; good = is.good; inside = is.inside }

still_wait : (drives : ℕ → Option DriveKind) (unit id : ℕ) (rs : List Request) (ws : List (Waiter Request)) → AllByRecursion (λ (w : Waiter Request). IsOutstanding drives unit rs w.request) ws
    → AllByRecursion (λ (w : Waiter Request). w.request.id ≢ id) ws → AllByRecursion (λ (w : Waiter Request). IsOutstanding drives unit (without id rs) w.request) ws
still_wait drives unit id rs [] all ne = tt
still_wait drives unit id rs (w ∷ ws) all ne = (still_waits drives unit id rs w all.0 ne.0, still_wait drives unit id rs ws all.1 ne.1)

-- the head leaves its queue
pub head_leaves : (drives : ℕ → Option DriveKind) (unit : ℕ) (rs : List Request) (w : Waiter Request) (ws : List (Waiter Request)) → QueueStands drives unit rs (w ∷ ws)
    → QueueStands drives unit (without w.request.id rs) ws
head_leaves drives unit rs w ws q = record { each = still_wait drives unit w.request.id rs ws q.each.1 q.distinct.0; distinct = q.distinct.1 }

-- a queue of another unit stays
apart_all : (drives : ℕ → Option DriveKind) (unit : ℕ) (rs : List Request) (r : Request) (ws : List (Waiter Request)) → r.unit ≢ unit → request_of r.id rs ≡ Some r
    → AllByRecursion (λ (w : Waiter Request). IsOutstanding drives unit rs w.request) ws → AllByRecursion (λ (w : Waiter Request). w.request.id ≢ r.id) ws
apart_all drives unit rs r [] ne found all = tt
apart_all drives unit rs r (w ∷ ws) ne found all =
    ((λ e. ne (ap (λ (z : Request). z.unit) (same_Some r w.request (sym found ∙ ap (λ z. request_of z rs) (sym e) ∙ all.0.listed)) ∙ all.0.unit_is)), apart_all drives unit rs r ws ne found all.1)

pub other_stays : (drives : ℕ → Option DriveKind) (unit : ℕ) (rs : List Request) (r : Request) (ws : List (Waiter Request)) → r.unit ≢ unit → request_of r.id rs ≡ Some r
    → QueueStands drives unit rs ws → QueueStands drives unit (without r.id rs) ws
other_stays drives unit rs r ws ne found q = record { each = still_wait drives unit r.id rs ws q.each (apart_all drives unit rs r ws ne found q.each); distinct = q.distinct }

-- one joins the outstanding ones, whose id is new
new_id : (r : Request) (rs : List Request) (other : ℕ) (x : Request) → request_of r.id rs ≡ None → request_of other rs ≡ Some x → r.id ≢ other
new_id r rs other x new found e = none-some x (sym new ∙ ap (λ z. request_of z rs) e ∙ found)

pub others_wait : (drives : ℕ → Option DriveKind) (unit : ℕ) (rs : List Request) (r : Request) (ws : List (Waiter Request)) → request_of r.id rs ≡ None
    → AllByRecursion (λ (w : Waiter Request). IsOutstanding drives unit rs w.request) ws → AllByRecursion (λ (w : Waiter Request). IsOutstanding drives unit (r ∷ rs) w.request) ws
others_wait drives unit rs r ws new all = each_weaker (λ (w : Waiter Request). IsOutstanding drives unit rs w.request) (λ (w : Waiter Request). IsOutstanding drives unit (r ∷ rs) w.request)
    (λ w is. record { unit_is = is.unit_is; listed = rw (ne_eqb r.id w.request.id (new_id r rs w.request.id w.request new is.listed)) is.listed; good = is.good; inside = is.inside }) ws all

pub joins_found : (r : Request) (rs : List Request) → request_of r.id (r ∷ rs) ≡ Some r
joins_found r rs = search rules

ids_new : (drives : ℕ → Option DriveKind) (unit : ℕ) (rs : List Request) (r : Request) (ws : List (Waiter Request)) → request_of r.id rs ≡ None
    → AllByRecursion (λ (w : Waiter Request). IsOutstanding drives unit rs w.request) ws → AllByRecursion (λ (w : Waiter Request). w.request.id ≢ r.id) ws
ids_new drives unit rs r ws new all = each_weaker (λ (w : Waiter Request). IsOutstanding drives unit rs w.request) (λ (w : Waiter Request). w.request.id ≢ r.id)
    (λ w is e. new_id r rs w.request.id w.request new is.listed (sym e)) ws all

distinct_put : (x : Waiter Request) (ws : List (Waiter Request)) → AllByRecursion (λ (w : Waiter Request). w.request.id ≢ x.request.id) ws → AreDistinct ws → AreDistinct (put x ws)
distinct_put x [] new distinct = (tt, tt)
distinct_put x (w ∷ ws) new distinct = at (is_before w x) (distinct_put x ws new.1 distinct.1)
  where
    at : (b : Bool) → AreDistinct (put x ws) → AreDistinct (if b then w ∷ put x ws else x ∷ w ∷ ws)
    at true more = (each-put (λ (y : Waiter Request). y.request.id ≢ w.request.id) x ws (λ e. new.0 (sym e)) distinct.0, more)
    at false more = (new, distinct)

pub queue_joined : (drives : ℕ → Option DriveKind) (unit : ℕ) (rs : List Request) (x : Waiter Request) (ws : List (Waiter Request)) → request_of x.request.id rs ≡ None
    → IsOutstanding drives unit (x.request ∷ rs) x.request → QueueStands drives unit rs ws → QueueStands drives unit (x.request ∷ rs) (put x ws)
queue_joined drives unit rs x ws new is q = record {
  each = each-put (λ (w : Waiter Request). IsOutstanding drives unit (x.request ∷ rs) w.request) x ws is (others_wait drives unit rs x.request ws new q.each);
  distinct = distinct_put x ws (ids_new drives unit rs x.request ws new q.each) q.distinct;
}

pub queue_stays : (drives : ℕ → Option DriveKind) (unit : ℕ) (rs : List Request) (r : Request) (ws : List (Waiter Request)) → request_of r.id rs ≡ None
    → QueueStands drives unit rs ws → QueueStands drives unit (r ∷ rs) ws
queue_stays drives unit rs r ws new q = record { each = others_wait drives unit rs r ws new q.each; distinct = q.distinct }
