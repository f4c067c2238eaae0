-- A slot and frames for a request that is not refused.
use Rattle.std.proofs.Common.{◌≡◌, ◌≢◌, ◌⊎◌, inl, inr, ℕ, zero, suc, ◌+◌, ◌-◌, ◌*◌, ◌<◌, ◌≤◌, ◌==◌, Bool, true, false, List, [], length, take, drop, replicate, Option, Some, None, refl, sym, ap, arith, ◌∙◌, length-take, length-drop}
use Rattle.std.specs.Prelude.{slice_index_or, if◌then◌else◌, nat_le, is_some}
use Rattle.std.proofs.lemmas.Bool.Decides.{eqb_tells, leb_tells}
use Rattle.std.proofs.lemmas.List.{length-replicate}
use Rattle.std.proofs.lemmas.Option.{none-some}
use Rattle.pack_geometry.specs.declared.DriveKind.{DriveKind}
use Rattle.pack_geometry.specs.Geometry.{limit_of}
use Rattle.partitions.specs.declared.Admission.TheVariants.{Inside, Eof, Outside}
use Rattle.partitions.specs.Partitions.{size_of, first_of}
use Rattle.partitions.proofs.Ends.{part_ends}
use Rattle.trace_replay.specs.requests.Requests.{Request, IsRequest, first_block}
use Rattle.trace_replay.specs.declared.requests.answers.AnswerKind.{AnswerKind}
use Rattle.driver_machine.specs.World.{World, Held, no_held, unit_at, pieces, frames_of}
use Rattle.driver_machine.specs.Events.{refusal_of, refusal_by, is_room}
use Rattle.driver_machine.specs.Guards.{IsSetUp, IsFresh}
use Rattle.driver_machine.specs.Sound.{Sound}
use Rattle.driver_laws.proofs.shown.Writes.{piece_at}
use Rattle.driver_laws.specs.answers.Counts.{in_use}
use Rattle.driver_laws.proofs.answers.Slots.{free_where_room, all_lent_are_needed}
use Rattle.script_runs.specs.Steps.{HasPlace}
use Rattle.script_runs.proofs.Frames.{Free, frames_free, all_lent, many_lent, contained, lent_among}

-- WHERE A REQUEST IS NOT REFUSED it lies inside, and its frames are there.
none_refused : (eof le room : Bool) (first : ℕ) → refusal_by (if eof then Eof else if le then Inside first else Outside) room ≡ None → (le ≡ true) × (room ≡ true)
none_refused true le room first is = absurd (cc is)
none_refused false false room first is = absurd (cc is)
none_refused false true false first is = absurd (cc is)
none_refused false true true first is = (refl, refl)

less_of : (a b : ℕ) → nat_le a b ≡ true → a ≤ b
less_of a b is = elim (leb_tells a b) [ inl le ↦ le.1 | inr more ↦ absurd (cc (is, more.0)) ]

-- THE BLOCKS of its buffer
length-pieces : (n : ℕ) (bytes : List ℕ) → length (pieces n bytes) ≡ n
length-pieces zero bytes = refl
length-pieces (suc n) bytes = ap suc (length-pieces n (drop 512 bytes))

last_piece : (size at last : ℕ) (bytes : List ℕ) → length bytes ≡ at + last → last ≤ size → length (take size (drop at bytes)) ≡ last
last_piece size at last bytes is few = omega (arith, length-take size (drop at bytes), length-drop at bytes, is, few)

whole_piece : (size at : ℕ) (bytes : List ℕ) → at + size ≤ length bytes → length (take size (drop at bytes)) ≡ size
whole_piece size at bytes more = omega (arith, length-take size (drop at bytes), length-drop at bytes, more)

piece_size : (count last k : ℕ) (bytes : List ℕ) → length bytes ≡ 512 * (count - 1) + last → last ≤ 512 → k < count
    → length (take 512 (drop (512 * k) bytes)) ≡ (if k + 1 == count then last else 512)
piece_size count last k bytes size few less = by (eqb_tells (k + 1) count)
  where
    at_end : (k count last n : ℕ) → k + 1 ≡ count → n ≡ 512 * (count - 1) + last → n ≡ 512 * k + last
    at_end k count last n is e = omega (arith, is, e)

    before : (k count last n : ℕ) → k + 1 ≢ count → k < count → n ≡ 512 * (count - 1) + last → 512 * k + 512 ≤ n
    before k count last n not less e = omega (arith, not, less, e)

    by : (((k + 1) == count ≡ true) × (k + 1 ≡ count)) ⊎ (((k + 1) == count ≡ false) × (k + 1 ≢ count))
        → length (take 512 (drop (512 * k) bytes)) ≡ (if k + 1 == count then last else 512)
    by (inl end) =
        last_piece 512 (512 * k) last bytes (at_end k count last (length bytes) end.1 size) few
        ∙ sym (ap (λ (b : Bool). if b then last else 512) end.0)
    by (inr not) =
        whole_piece 512 (512 * k) bytes (before k count last (length bytes) not.1 less size)
        ∙ sym (ap (λ (b : Bool). if b then last else 512) not.0)

-- the bytes of a write, and for a read zeros
abbrev bytes_for : Request → Option (List ℕ) → List ℕ
bytes_for r None = replicate (512 * (r.count - 1) + r.last) 0
bytes_for r (Some bytes) = bytes

size_for : (r : Request) (written : Option (List ℕ)) → ((bytes : List ℕ) → written ≡ Some bytes → length bytes ≡ 512 * (r.count - 1) + r.last)
    → length (bytes_for r written) ≡ 512 * (r.count - 1) + r.last
size_for r None exact = length-replicate (512 * (r.count - 1) + r.last) 0
size_for r (Some bytes) exact = exact bytes refl

content_for : (r : Request) (written : Option (List ℕ)) (bytes : List ℕ) → written ≡ Some bytes → pieces r.count (bytes_for r written) ≡ pieces r.count bytes
content_for r written bytes is = ap (λ (o : Option (List ℕ)). pieces r.count (bytes_for r o)) is

-- A REQUEST IN ITS SLOT, with these frames
abbrev held_for : DriveKind → Request → List ℕ → Held
held_for kind r frames = record {
  id = r.id;
  unit = r.unit;
  first = first_block kind r;
  write = is_some r.written;
  loan = record { frames = frames; offset = r.offset; count = r.count; last = r.last };
  blocks = pieces r.count (bytes_for r r.written);
  on_bus = false;
  ended = false;
}

within : (first block count size limit : ℕ) → block + count ≤ size → first + size ≤ limit → (first + block) + count ≤ limit
within first block count size limit inside fits = omega (arith, inside, fits)

room_for : (lent used many : ℕ) → lent ≡ used → used + many ≤ 16384 → lent + many ≤ 16384
room_for lent used many is room = omega (arith, is, room)

placed : (w : World) (r : Request) → Sound w → IsSetUp w r.unit → IsRequest r → IsFresh w r.id → in_use w.slots < length w.slots → refusal_of r w ≡ None → HasPlace w r
placed w r sound unit is fresh free none =
    let kind : DriveKind = (unit_at w r.unit).drive.kind in
    let slot : (p : ℕ) × (p < length w.slots) × (slice_index_or w.slots p None ≡ None) = free_where_room w.slots free in
    let met : (nat_le (r.block + r.count) (size_of kind r.part) ≡ true) × (is_room r w ≡ true) =
    none_refused (r.block == size_of kind r.part) (nat_le (r.block + r.count) (size_of kind r.part)) (is_room r w) (first_of kind r.part + r.block) none in
    let need : ℕ = frames_of (held_for kind r []) in
    let room : w.frames + need ≤ 16384 = less_of (w.frames + need) 16384 met.1 in
    let lent : length (all_lent w.slots) ≡ w.frames =
    many_lent w.slots (λ q g slot. (sound.each_slot q g slot).loan.enough) ∙ sym (all_lent_are_needed w sound fresh.taken) in
    let frames : Free need 16384 (all_lent w.slots) = frames_free need 16384 (all_lent w.slots) (room_for (length (all_lent w.slots)) w.frames need lent room) in
    let h : Held = held_for kind r frames.frames in
    record {
      slot = slot.0;
      held = h;
      may = record {
        unit = unit;
        fresh = fresh;
        new = λ _. record {
          free = slot.1;
          slot = slot.2;
          unit = unit;
          lent = record {
            is = record {
              shape = record {
                some = is.some;
                few = is.few;
                inside = is.in_frame;
                last_some = is.ends;
                last_few = is.in_block;
              };
              enough = frames.size;
            };
            small = λ frame c. frames.small frame (contained frame frames.frames c);
            apart = λ q g slot. λ frame c. λ other. frames.apart frame (contained frame frames.frames c) (lent_among w.slots q g frame slot (contained frame g.loan.frames other));
          };
          inside = within (first_of kind r.part) r.block r.count (size_of kind r.part) (limit_of kind) (less_of (r.block + r.count) (size_of kind r.part) met.0) (part_ends kind r.part);
          room = room;
          size = length-pieces r.count (bytes_for r r.written);
          whole = λ k less. ap (λ (block : List ℕ). length block) (piece_at r.count k (bytes_for r r.written) less)
              ∙ piece_size r.count r.last k (bytes_for r r.written) (size_for r r.written is.exact) is.in_block less;
          on_bus = refl;
          going_on = refl;
          fresh = fresh;
        };
      };
      is = λ _. record {
        id = refl;
        unit = refl;
        first = refl;
        count = refl;
        last = refl;
        offset = refl;
        write = refl;
        content = λ bytes given. content_for r r.written bytes given;
      };
    }

pub places_exist : (w : World) (r : Request) → Sound w → IsSetUp w r.unit → IsRequest r → IsFresh w r.id → in_use w.slots < length w.slots → HasPlace w r
places_exist w r sound unit is fresh free = by (refusal_of r w) refl
  where
    by : (o : Option AnswerKind) → refusal_of r w ≡ o → HasPlace w r
    by None none = placed w r sound unit is fresh free none
    by (Some kind) refused = record {
      slot = 0;
      held = no_held;
      may = record { unit = unit; fresh = fresh; new = λ none. absurd (none-some kind (sym none ∙ refused)) };
      is = λ none. absurd (none-some kind (sym none ∙ refused));
    }
