-- A request that joins, and an answer that is taken.
use Rattle.std.proofs.Common.{◌≡◌, ◌≢◌, inl, inr, ℕ, zero, suc, ◌+◌, ◌<◌, ◌≤◌, Bool, true, false, List, [], ◌∷◌, drop, length, Option, Some, None, refl, sym, ap, ◌∙◌, subst, arith}
use Rattle.std.specs.Prelude.{All, Contains, IsSome, slice_index_or, slice_set}
use Rattle.std.proofs.lemmas.Bool.{false≢true}
use Rattle.std.proofs.lemmas.Option.{none-some}
use Rattle.std.proofs.lemmas.List.{length-map}
use Rattle.std.proofs.lemmas.List.Elements.{Contains-get_or}
use Rattle.pack_geometry.specs.declared.DriveKind.{DriveKind}
use Rattle.pack_geometry.specs.declared.DriveKind.TheVariants.{Rp06}
use Rattle.pack_geometry.specs.Geometry.{block_count, limit_of}
use Rattle.main_memory.specs.Frames.{frames_needed}
use Rattle.disksort.specs.declared.Waiter.{Waiter}
use Rattle.driver_machine.specs.declared.Made.{Made}
use Rattle.driver_machine.specs.World.{World, Held, no_held, unit_at, slot_at, held_in, frames_of}
use Rattle.driver_machine.specs.Acts.{Submit, after, joined}
use Rattle.driver_machine.specs.Guards.{IsSetUp, IsFresh, IsNew, IsApart}
use Rattle.driver_machine.specs.Sound.{Sound, Among, slots_of, slots_made, frames_by, frames_used, IsMade}
use Rattle.driver_laws.proofs.invariant.SlotsLists.{put_set, contained_among, Contains-first}
use Rattle.driver_laws.proofs.invariant.Frame.{slot_there, held_is}
use Rattle.request_slots.specs.declared.asked.Asked.{Asked}
use Rattle.request_slots.specs.Requests.{frames_lent, IsHeldFor}
use Rattle.hp_core.specs.State.{State}
use Rattle.hp_core.specs.Joins.{MayJoin, IsPut, in_queue, Joins}
use Rattle.hp_core.proofs.Deeds.{pigeons}
use Rattle.hp_core.proofs.Telling.{silent_act}

-- WHERE NO ANSWER WAITS no request has ended, so that all frames that are lent are needed.
lent_used : (slots : List (Option Held)) → ((p : ℕ) (h : Held) → slice_index_or slots p None ≡ Some h → h.ended ≡ false) → frames_lent slots ≡ frames_used slots
lent_used [] going = refl
lent_used (None ∷ slots) going = lent_used slots (λ p h e. going (suc p) h e)
lent_used (Some h ∷ slots) going =
    ap (λ (n : ℕ). frames_of h + n) (lent_used slots (λ p g e. going (suc p) g e))
    ∙ ap (λ (b : Bool). frames_by b h + frames_used slots) (sym (going zero h refl))

pub going_on : (w : World) → Sound w → w.answers ≡ [] → (p : ℕ) (h : Held) → slot_at w p ≡ Some h → h.ended ≡ false
going_on w s none p h at = by h.ended refl
  where
    by : (b : Bool) → h.ended ≡ b → h.ended ≡ false
    by false e = e
    by true e = absurd (subst (λ (xs : List Made). Among p (slots_made xs)) none ((s.each_slot p h at).made e))

pub all_needed : (w : World) → Sound w → w.answers ≡ [] → w.frames ≡ frames_lent w.slots
all_needed w s none = s.frames ∙ sym (lent_used w.slots (going_on w s none))

-- A FREE SLOT stands in no queue, so that there is room in each.
module _ (w : World) (u p : ℕ) (s : Sound w) (unit : u < 32) (free : p < length w.slots) (none : slot_at w p ≡ None) where
  not_at : (q : ℕ) (g : Held) → slot_at w q ≡ Some g → q ≢ p
  not_at q g e same = none-some g (sym none ∙ subst (λ (r : ℕ). slot_at w r ≡ Some g) same e)

  pub absent : All (λ (x : Waiter). x.number ≢ p) (unit_at w u).queue
  absent k d lt =
      let is = (s.each_unit u unit).queue (slice_index_or (unit_at w u).queue k d) (Contains-get_or (unit_at w u).queue k d lt) in
      not_at (slice_index_or (unit_at w u).queue k d).number is.held is.slot

  not_queued : Among p (slots_of (unit_at w u).queue) → ⊥
  not_queued m =
      let found = contained_among (unit_at w u).queue p m in
      let is = (s.each_unit u unit).queue found.0 found.1 in
      not_at found.0.number is.held is.slot found.2

  small : (x : ℕ) → Among x (p ∷ slots_of (unit_at w u).queue) → x < length w.slots
  small x (inl e) = subst (λ (n : ℕ). n < length w.slots) (sym e) free
  small x (inr m) =
      let found = contained_among (unit_at w u).queue x m in
      let is = (s.each_unit u unit).queue found.0 found.1 in
      subst (λ (n : ℕ). n < length w.slots) found.2 (slot_there w.slots found.0.number is.held is.slot)

  pub queue_less : length (unit_at w u).queue < length w.slots
  queue_less =
      let most : length (p ∷ slots_of (unit_at w u).queue) ≤ length w.slots =
      pigeons (length w.slots) (p ∷ slots_of (unit_at w u).queue) (not_queued, (s.each_unit u unit).once) small in
      let same : length (slots_of (unit_at w u).queue) ≡ length (unit_at w u).queue = length-map (unit_at w u).queue (λ (x : Waiter). x.number) in
      omega (arith, most, same)

-- a request inside a drive's data begins at one of its blocks
limit_inside : (kind : DriveKind) → limit_of kind ≤ block_count kind
limit_inside Rp06 = omega arith
limit_inside other = omega arith

pub first_below : (kind : DriveKind) (first count : ℕ) → first + count ≤ limit_of kind → 1 ≤ count → first < block_count kind
first_below kind first count inside some = let most = limit_inside kind in omega (arith, inside, some, most)

-- A SLOT is taken: what it has then shares no frame with another.
pub is_put : (slot : ℕ) (asked : Asked) (bytes : List ℕ) (old new : State) (slots : List (Option Held)) (needed : ℕ) → slot < length old.world.slots
    → slot_at old.world slot ≡ None → (h : Held) × IsHeldFor asked bytes h × (slots ≡ slice_set old.world.slots slot (Some h))
    → ((p q : ℕ) (g h : Held) → p ≢ q → slice_index_or slots p None ≡ Some g → slice_index_or slots q None ≡ Some h → IsApart g.loan.frames h.loan.frames)
    → needed ≡ frames_needed asked.count asked.offset asked.last
    → new ≡ record old { world = record old.world { slots = slots; frames = old.world.frames + needed } }
    → IsPut slot asked bytes old new
is_put slot asked bytes old new slots needed free none (h, is, put) apart few state =
    let changed = put_set old.world.slots slot (Some h) None free in
    record {
      inside = free;
      free = none;
      held = h;
      is = is;
      apart = λ q g at. by_apart q g at changed.here (λ ne. changed.others q ne);
      state = state ∙ ap (λ (xs : List (Option Held)). record old { world = record old.world { slots = xs; frames = old.world.frames + needed } }) put
          ∙ ap (λ (n : ℕ). record old { world = record old.world { slots = slice_set old.world.slots slot (Some h); frames = old.world.frames + n } }) few;
    }
  where
    by_apart : (q : ℕ) (g : Held) → slot_at old.world q ≡ Some g → slice_index_or (slice_set old.world.slots slot (Some h)) slot None ≡ Some h
        → (q ≢ slot → slice_index_or (slice_set old.world.slots slot (Some h)) q None ≡ slice_index_or old.world.slots q None) → IsApart h.loan.frames g.loan.frames
    by_apart q g at here others =
        let ne : q ≢ slot = λ e. none-some g (sym none ∙ subst (λ (r : ℕ). slot_at old.world r ≡ Some g) e at) in
        apart slot q h g (λ e. ne (sym e)) (ap (λ (xs : List (Option Held)). slice_index_or xs slot None) put ∙ here)
        (ap (λ (xs : List (Option Held)). slice_index_or xs q None) put ∙ others ne ∙ at)

-- THE SUBMISSION
module _ (line slot : ℕ) (asked : Asked) (bytes : List ℕ) (old mid new : State) (put : IsPut slot asked bytes old mid) (queue : new ≡ in_queue asked.unit slot asked.first mid) where
  change : new ≡ record old { world = after old.world (Submit line slot put.held) }
  change =
      queue ∙ ap (in_queue asked.unit slot asked.first) put.state ∙ ap (λ (a : Asked). record old {
        world = record old.world {
          units = slice_set old.world.units a.unit (joined slot (record no_held { first = a.first }) (unit_at old.world a.unit));
          slots = slice_set old.world.slots slot (Some put.held);
          frames = old.world.frames + frames_needed a.count a.offset a.last;
        };
      }) (sym put.is.same)

  pub joins : MayJoin old.world asked bytes → Joins line slot asked bytes old new
  joins can =
      let may : IsNew old.world slot put.held = record {
        free = put.inside;
        slot = put.free;
        unit = subst (λ (a : Asked). IsSetUp old.world a.unit) (sym put.is.same) can.unit;
        lent = record { is = put.is.whole.loan; small = put.is.whole.small; apart = put.apart };
        inside = subst (λ (a : Asked). a.first + a.count ≤ limit_of (unit_at old.world a.unit).drive.kind) (sym put.is.same) can.below;
        room = subst (λ (a : Asked). old.world.frames + frames_needed a.count a.offset a.last ≤ 16384) (sym put.is.same) can.room;
        size = put.is.whole.size;
        whole = λ k lt. put.is.whole.bytes k lt;
        on_bus = put.is.on_bus;
        going_on = put.is.ended;
        fresh = subst (λ (a : Asked). IsFresh old.world a.id) (sym put.is.same) can.fresh;
      } in
      record {
        held = put.held;
        is = put.is;
        may = may;
        does = silent_act old new (Submit line slot put.held) (record { reads = λ w p. tt; packs = λ w p. refl }) may refl change;
      }

-- THE OLDEST ANSWER, where it has a slot, is that of a request there which has ended.
module _ (w : World) (s : Sound w) (made : Made) (p : ℕ) (first : w.answers ≡ made ∷ drop 1 w.answers) (at : made.slot ≡ Some p) where
  is_made : IsMade w made p
  is_made = s.answers made p (subst (λ (xs : List Made). Contains xs made) (sym first) (Contains-first made (drop 1 w.answers))) at

  pub answer_there : IsSome (slot_at w p)
  answer_there = subst (λ (o : Option Held). IsSome o) (sym is_made.slot) refl

  pub answer_cpu : (held_in w p).on_bus ≡ false
  answer_cpu = ap (λ (h : Held). h.on_bus) (held_is w p is_made.held is_made.slot) ∙ by is_made.held.on_bus refl
    where
      by : (b : Bool) → is_made.held.on_bus ≡ b → is_made.held.on_bus ≡ false
      by false e = e
      by true e = absurd (false≢true (sym ((s.each_slot p is_made.held is_made.slot).bus e).2 ∙ is_made.over))
