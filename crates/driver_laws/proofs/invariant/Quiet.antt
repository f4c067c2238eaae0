-- Acts that touch no slot, or free one: conditions, refusals, and the taking of an answer.
use Rattle.std.proofs.Common.{◌≡◌, ◌≢◌, ◌⊎◌, inl, inr, ℕ, zero, suc, ◌+◌, ◌<◌, Bool, false, List, [], ◌∷◌, ◌++◌, drop, length, Option, Some, None, refl, sym, ap, ◌∙◌, subst, arith, rules}
use Rattle.std.specs.Prelude.{Contains, IsTrue, slice_index_or, slice_set}
use Rattle.std.specs.Option.{option_map_or}
use Rattle.std.proofs.lemmas.Option.{none-some, same_Some}
use Rattle.std.proofs.lemmas.List.{get_or_past}
use Rattle.std.proofs.lemmas.List.Elements.{Contains-push_cases}
use Rattle.std.proofs.lemmas.Bool.{false≢true}
use Rattle.hardware_table.specs.Drive.{DriveState}
use Rattle.hardware_table.specs.Noise.{Book}
use Rattle.driver_machine.specs.declared.Made.{Made}
use Rattle.driver_machine.specs.World.{World, UnitView, Held, no_unit, unit_at, slot_at}
use Rattle.driver_machine.specs.Refusals.{refuses}
use Rattle.driver_machine.specs.Acts.{Taken, after, freed, with_drive, with_unit_drive}
use Rattle.driver_machine.specs.Sound.{Among, Once, slot_made, slots_made, frames_by, frames_used, IsOutstanding, UnitOk, IsMade, Sound}
use Rattle.driver_laws.proofs.invariant.SlotsLists.{put_set, put_none, Contains-first, Contains-later}
use Rattle.driver_laws.proofs.invariant.Frames.{frames_at, frames_put}
use Rattle.driver_laws.proofs.invariant.Changed.{AreParts, Changed, Leaves, outstanding_stays, slots_changed, parts_changed}
use Rattle.driver_laws.proofs.invariant.Frame.{slot_there}
use Rattle.driver_laws.proofs.invariant.Parts.{IsServed, AreFrames, AreAnswers}

not_small : 32 < 32 → ⊥
not_small lt = omega (arith, lt)

-- there is no slot behind the last one
past_none : (slots : List (Option Held)) (g : Held) → slice_index_or slots (length slots) None ≡ Some g → ⊥
past_none slots g e = none-some g (sym (get_or_past slots (length slots) None (omega arith)) ∙ e)

not_past : (slots : List (Option Held)) (p : ℕ) (g : Held) → slice_index_or slots p None ≡ Some g → p ≢ length slots
not_past slots p g e same = past_none slots g (subst (λ (q : ℕ). slice_index_or slots q None ≡ Some g) same e)

-- ANSWERS AND NOISE change, and nothing else.
module _ (w : World) (s : Sound w) (book : Book) (answers : List Made)
    (same : (q : ℕ) → Among q (slots_made w.answers) → Among q (slots_made answers))
    (are : (made : Made) (q : ℕ) → Contains answers made → made.slot ≡ Some q → IsMade w made q)
    (refused : (made : Made) → Contains answers made → made.slot ≡ None → IsTrue (refuses made.answer.kind)) (once : Once (slots_made answers)) where
  abbrev now : World
  now = record w { book = book; answers = answers }

  change : Changed w now 32 (length w.slots) (unit_at w 32) (slot_at w (length w.slots))
  change = record { units = put_none w.units 32 no_unit; adapters = refl; slots = put_none w.slots (length w.slots) None }

  leaves : Leaves w now 32 (length w.slots) (unit_at w 32)
  leaves = record {
    mine = λ g e on. absurd (past_none w.slots g e);
    kind = refl;
    queue = λ q ne m. m;
    bus = λ q ne first phase. (first, phase);
    made = λ q ne m. same q m;
  }

  pub quiet_parts : AreParts now
  quiet_parts =
      parts_changed w now 32 (length w.slots) (unit_at w 32) (slot_at w (length w.slots)) s change leaves (λ lt. absurd (not_small lt))
      (slots_changed w now 32 (length w.slots) (unit_at w 32) (slot_at w (length w.slots)) s change leaves
      (λ g e. absurd (past_none w.slots g e)) (λ g e. absurd (past_none w.slots g e)) (λ g e. absurd (past_none w.slots g e)))
      (record { used = s.frames; room = s.room })
      (record {
        each = λ made q c e. let was : IsMade w made q = are made q c e in record { held = was.held; slot = was.slot; id = was.id; over = was.over; given = was.given };
        refused = refused;
        once = once;
      })

-- THE DRIVE of a unit changes, and keeps its kind.
module _ (w : World) (s : Sound w) (u : ℕ) (f : DriveState → DriveState) (lt : u < 32) (kind : (f (unit_at w u).drive).kind ≡ (unit_at w u).drive.kind) where
  abbrev turned : World
  turned = with_unit_drive u f w

  abbrev view : UnitView
  view = with_drive f (unit_at w u)

  drive_change : Changed w turned u (length w.slots) view (slot_at w (length w.slots))
  drive_change = first_of (search rules, grind arith)

  drive_leaves : Leaves w turned u (length w.slots) view
  drive_leaves = record {
    mine = λ g e on. absurd (past_none w.slots g e);
    kind = kind;
    queue = λ q ne m. m;
    bus = λ q ne first phase. (first, phase);
    made = λ q ne m. m;
  }

  drive_unit : IsServed turned u view
  drive_unit =
      let ok : UnitOk w u (unit_at w u) = s.each_unit u lt in
      record {
        queue = λ x c.
            let was : IsOutstanding w u x = ok.queue x c in
            outstanding_stays w turned u (length w.slots) view (slot_at w (length w.slots)) s drive_change drive_leaves u x
            (not_past w.slots x.number was.held was.slot) was;
        once = ok.once;
        order = ok.order;
        head = ok.head;
        undeclared = ok.undeclared;
      }

  pub drive_parts : AreParts turned
  drive_parts =
      parts_changed w turned u (length w.slots) view (slot_at w (length w.slots)) s drive_change drive_leaves (λ small. drive_unit)
      (slots_changed w turned u (length w.slots) view (slot_at w (length w.slots)) s drive_change drive_leaves
      (λ g e. absurd (past_none w.slots g e)) (λ g e. absurd (past_none w.slots g e)) (λ g e. absurd (past_none w.slots g e)))
      (record { used = s.frames; room = s.room })
      (record {
        each = λ made q c e. let was : IsMade w made q = s.answers made q c e in record { held = was.held; slot = was.slot; id = was.id; over = was.over; given = was.given };
        refused = s.refused;
        once = s.once;
      })

-- A REFUSAL is an answer for no slot.
slots_made-none : (answers : List Made) (made : Made) → made.slot ≡ None → slots_made (answers ++ made ∷ []) ≡ slots_made answers
slots_made-none [] made is = ap (λ (o : Option ℕ). slot_made o []) is
slots_made-none (first ∷ answers) made is = ap (slot_made first.slot) (slots_made-none answers made is)

pub refused_parts : (w : World) (made : Made) → Sound w → made.slot ≡ None → IsTrue (refuses made.answer.kind) → AreParts (record w { answers = w.answers ++ made ∷ [] })
refused_parts w made s none is =
    quiet_parts w s w.book (w.answers ++ made ∷ []) (λ q m. subst (Among q) (sym (slots_made-none w.answers made none)) m)
    (λ m q c e. elim (Contains-push_cases w.answers made m c) [
      | inl before ↦ s.answers m q before e
      | inr same ↦ absurd (none-some q (sym none ∙ ap (λ (k : Made). k.slot) same ∙ e))
    ])
    (λ m c e. elim (Contains-push_cases w.answers made m c) [
      | inl before ↦ s.refused m before e
      | inr same ↦ subst (λ (k : Made). IsTrue (refuses k.answer.kind)) same is
    ])
    (subst Once (sym (slots_made-none w.answers made none)) s.once)

-- THE TAKING of the first answer, which frees its slot where it has one.
made_by : (o : Option ℕ) (q : ℕ) (xs : List ℕ) → (o ≡ Some q) ⊎ Among q xs → Among q (slot_made o xs)
made_by None q xs (inl e) = absurd (none-some q e)
made_by None q xs (inr m) = m
made_by (Some p) q xs (inl e) = inl (sym (same_Some p q e))
made_by (Some p) q xs (inr m) = inr m

among_at : (answers : List Made) (made : Made) (q k : ℕ) → k < length answers → slice_index_or answers k made ≡ made → made.slot ≡ Some q → Among q (slots_made answers)
among_at [] made q k lt e is = absurd (omega (arith, lt))
among_at (first ∷ answers) made q zero lt e is = made_by first.slot q (slots_made answers) (inl (ap (λ (m : Made). m.slot) e ∙ is))
among_at (first ∷ answers) made q (suc k) lt e is = made_by first.slot q (slots_made answers) (inr (among_at answers made q k (omega (arith, lt)) e is))

pub among_made : (answers : List Made) (made : Made) (q : ℕ) → Contains answers made → made.slot ≡ Some q → Among q (slots_made answers)
among_made answers made q c is = among_at answers made q c.0 c.1 c.2 is

used_same : (frames used now at : ℕ) → frames ≡ used → now + at ≡ used + 0 → at ≡ 0 → frames ≡ now
used_same frames used now at a b c = omega (arith, a, b, c)

module _ (w : World) (s : Sound w) (made : Made) (rest : List Made) (p : ℕ) (waits : w.answers ≡ made ∷ rest) (for_slot : made.slot ≡ Some p) where
  abbrev freed_world : World
  freed_world = record w { slots = slice_set w.slots p None; answers = rest }

  is : IsMade w made p
  is = s.answers made p (subst (λ (answers : List Made). Contains answers made) (sym waits) (Contains-first made rest)) for_slot

  abbrev u : ℕ
  u = is.held.unit

  made_were : slots_made w.answers ≡ p ∷ slots_made rest
  made_were = ap slots_made waits ∙ ap (λ (o : Option ℕ). slot_made o (slots_made rest)) for_slot

  once_were : Once (p ∷ slots_made rest)
  once_were = subst Once made_were s.once

  freed_change : Changed w freed_world u p (unit_at w u) None
  freed_change = record {
    units = put_none w.units u no_unit;
    adapters = refl;
    slots = put_set w.slots p None None (slot_there w.slots p is.held is.slot);
  }

  going_elsewhere : (q : ℕ) (g : Held) → slot_at w q ≡ Some g → g.ended ≡ false → q ≢ p
  going_elsewhere q g e on same =
      let here : g ≡ is.held = same_Some g is.held (sym (subst (λ (r : ℕ). slot_at w r ≡ Some g) same e) ∙ is.slot) in
      false≢true (sym on ∙ ap (λ (x : Held). x.ended) here ∙ is.over)

  freed_leaves : Leaves w freed_world u p (unit_at w u)
  freed_leaves = first_of (search rules, grind arith)

  freed_unit : u < 32 → IsServed freed_world u (unit_at w u)
  freed_unit lt =
      let ok : UnitOk w u (unit_at w u) = s.each_unit u lt in
      record {
        queue = λ x c.
            let was : IsOutstanding w u x = ok.queue x c in
            outstanding_stays w freed_world u p (unit_at w u) None s freed_change freed_leaves u x (going_elsewhere x.number was.held was.slot was.going_on) was;
        once = ok.once;
        order = ok.order;
        head = ok.head;
        undeclared = ok.undeclared;
      }

  freed_frames : AreFrames freed_world
  freed_frames =
      let put = frames_put w.slots p None (slot_there w.slots p is.held is.slot) in
      let at = ap frames_at is.slot ∙ ap (λ (b : Bool). frames_by b is.held) is.over in
      record { used = used_same w.frames (frames_used w.slots) (frames_used freed_world.slots) (frames_at (slot_at w p)) s.frames put at; room = s.room }

  freed_answers : AreAnswers freed_world
  freed_answers = record {
    each = λ m q c e.
        let was : IsMade w m q = s.answers m q (subst (λ (answers : List Made). Contains answers m) (sym waits) (Contains-later m made rest c)) e in
        let other : q ≢ p = λ same. once_were.0 (subst (λ (r : ℕ). Among r (slots_made rest)) same (among_made rest m q c e)) in
        record { held = was.held; slot = freed_change.slots.others q other ∙ was.slot; id = was.id; over = was.over; given = was.given };
    refused = λ m c e. s.refused m (subst (λ (answers : List Made). Contains answers m) (sym waits) (Contains-later m made rest c)) e;
    once = once_were.1;
  }

  freed_parts : AreParts freed_world
  freed_parts =
      parts_changed w freed_world u p (unit_at w u) None s freed_change freed_leaves freed_unit
      (slots_changed w freed_world u p (unit_at w u) None s freed_change freed_leaves
      (λ g e. absurd (none-some g e)) (λ g e. absurd (none-some g e)) (λ g e. absurd (none-some g e)))
      freed_frames freed_answers

taken_by : (w : World) (made : Made) (rest : List Made) (o : Option ℕ) → Sound w → w.answers ≡ made ∷ rest → made.slot ≡ o
    → AreParts (record w { slots = option_map_or (λ (p : ℕ). slice_set w.slots p None) o w.slots; answers = rest })
taken_by w made rest None s waits none =
    let made_were : slots_made w.answers ≡ slots_made rest = ap slots_made waits ∙ ap (λ (o : Option ℕ). slot_made o (slots_made rest)) none in
    quiet_parts w s w.book rest (λ q m. subst (Among q) made_were m)
    (λ m q c e. s.answers m q (subst (λ (answers : List Made). Contains answers m) (sym waits) (Contains-later m made rest c)) e)
    (λ m c e. s.refused m (subst (λ (answers : List Made). Contains answers m) (sym waits) (Contains-later m made rest c)) e)
    (subst Once made_were s.once)
taken_by w made rest (Some p) s waits some = freed_parts w s made rest p waits some

taken_from : (w : World) (answers : List Made) → Sound w → w.answers ≡ answers → 0 < length answers
    → AreParts (record w { slots = freed answers w.slots; answers = drop 1 answers })
taken_from w [] s waits some = absurd (omega (arith, some))
taken_from w (made ∷ rest) s waits some = taken_by w made rest made.slot s waits refl

pub taken_parts : (w : World) → Sound w → 0 < length w.answers → AreParts (after w Taken)
taken_parts w s some = taken_from w w.answers s refl some
