-- What a read and a write leave, in the cache and on the packs.
use Rattle.std.proofs.Common.{◌≡◌, inl, inr, ℕ, ◌-◌, ◌==◌, ◌&&◌, Bool, true, false, List, [], ◌∷◌, ◌++◌, take, Option, None, Some, refl, sym, ap, ◌∙◌, subst}
use Rattle.std.specs.Prelude.{if◌then◌else◌, IsSome}
use Rattle.std.specs.List.{AllByRecursion}
use Rattle.std.proofs.lemmas.Bool.{true≢false}
use Rattle.std.proofs.lemmas.Option.{none-some}
use Rattle.driver_laws.specs.rules.Requests.{Map, writes, behind_one, behind}
use Rattle.driver_laws.proofs.rules.Requested.{read_same, behind_more}
use Rattle.driver_laws.specs.declared.rules.cached.Entry.{Entry}
use Rattle.driver_laws.specs.rules.Entries.{State, is_of, entry_of, IsCache, in_front, rewritten, to_write_back, with_room, write_backs}
use Rattle.driver_laws.specs.rules.Calls.{entry, read_found, read_by, read_done, write_found, write_by, write_done}
use Rattle.driver_laws.specs.rules.Contents.{bytes_or, cached, Fits, AllFit, Gives, replaced, Takes}
use Rattle.driver_laws.proofs.rules.Lookups.{IsKey, tells, is_key, at_own, at_other, found_key, found_all, none_misses, other_way}
use Rattle.driver_laws.proofs.rules.WaitedFronts.{front_contents, front_fit, change_contents, change_fit}
use Rattle.driver_laws.proofs.rules.Rooms.{write_own, write_other, at_key, keeps_fit, Room, room_of}

pub some_is : {bytes : List ℕ} (held : Option (List ℕ)) → held ≡ Some bytes → IsSome held
some_is held e = subst IsSome (sym e) refl

-- ---- READ
module _ (map : Map) (unit block : ℕ) (s : State) (is : IsCache s) (fit : AllFit map s.entries) where
  none_cached : entry_of unit block s.entries ≡ None → cached s.entries map unit block ≡ map unit block
  none_cached none = ap (λ z. bytes_or z (map unit block)) none

  at_block : (bytes : List ℕ) (changed : Bool) (u b : ℕ) → IsKey u b (entry unit block bytes changed) → cached s.entries map u b ≡ cached s.entries map unit block
  at_block bytes changed u b key = ap (λ z. cached s.entries map z b) key.unit_is ∙ ap (λ z. cached s.entries map unit z) key.block_is

  -- an entry that is put in front
  module _ (next : Map) (left : List Entry) (room : Room map next s.capacity s.entries left) (none : entry_of unit block s.entries ≡ None) (bytes : List ℕ) (changed : Bool) where
    abbrev New : List Entry
    New = entry unit block bytes changed ∷ take (s.capacity - 1) left

    new_other : (u b : ℕ) → is_of u b (entry unit block bytes changed) ≡ false → cached New next u b ≡ cached s.entries map u b
    new_other u b not = ap (λ z. bytes_or z (next u b)) (at_other u b (entry unit block bytes changed) (take (s.capacity - 1) left) not) ∙ room.dropped u b

    new_own : (u b : ℕ) → IsKey u b (entry unit block bytes changed) → cached New next u b ≡ Some bytes
    new_own u b key = ap (λ z. bytes_or z (next u b)) (at_own u b (entry unit block bytes changed) (take (s.capacity - 1) left) key.is)

    new_fit : IsSome (map unit block) → (changed ≡ false → map unit block ≡ Some bytes) → AllFit next New
    new_fit some same = (
      record {
        usable = subst IsSome (sym (room.same unit block none)) some;
        same = λ e. room.same unit block none ∙ same e;
      },
      room.dropped_fit,
    )

  read_in : (held : Option (List ℕ)) (refuses : Bool) → entry_of unit block s.entries ≡ None → held ≡ map unit block
      → Gives map (behind map (read_found held refuses s unit block).asked) unit block (read_found held refuses s unit block).given s.entries (read_found held refuses s unit block).state.entries
  read_in None refuses none held = subst (λ z. Gives map z unit block None s.entries s.entries) (sym (read_same map unit block))
      (record { content = held ∙ sym (none_cached none); contents = λ u b. refl; fit = fit })
  read_in (Some bytes) true none held = subst (λ z. Gives map (behind z (write_backs (to_write_back s))) unit block (Some bytes) s.entries (with_room s).entries) (sym (read_same map unit block))
      (let room = room_of map s is fit in record { content = held ∙ sym (none_cached none); contents = room.kept; fit = room.kept_fit })
  read_in (Some bytes) false none held = subst (λ z. Gives map (behind z (write_backs (to_write_back s))) unit block (Some bytes) s.entries (entry unit block bytes false ∷ take (s.capacity - 1) (with_room s).entries)) (sym (read_same map unit block))
      (let room = room_of map s is fit in record {
        content = held ∙ sym (none_cached none);
        contents = λ u b. elim (tells u b (entry unit block bytes false)) [
          | inl key ↦ new_own (behind map (write_backs (to_write_back s))) (with_room s).entries room none bytes false u b key ∙ held ∙ sym (none_cached none) ∙ sym (at_block bytes false u b key)
          | inr not ↦ new_other (behind map (write_backs (to_write_back s))) (with_room s).entries room none bytes false u b not
        ];
        fit = new_fit (behind map (write_backs (to_write_back s))) (with_room s).entries room none bytes false (some_is (map unit block) (sym held)) (λ e. sym held);
      })

  pub gives_of : (held : Option (List ℕ)) (refuses : Bool) → (entry_of unit block s.entries ≡ None → held ≡ map unit block)
      → Gives map (behind map (read_done held refuses s unit block).asked) unit block (read_done held refuses s unit block).given s.entries (read_done held refuses s unit block).state.entries
  gives_of held refuses is_held = by (entry_of unit block s.entries) refl
    where
      by : (o : Option Entry) → entry_of unit block s.entries ≡ o
          → Gives map (behind map (read_by o held refuses s unit block).asked) unit block (read_by o held refuses s unit block).given s.entries (read_by o held refuses s unit block).state.entries
      by None none = read_in held refuses none (is_held none)
      by (Some e) some = record {
        content = sym (ap (λ z. bytes_or z (map unit block)) some);
        contents = front_contents map unit block s.entries;
        fit = front_fit map unit block s.entries fit;
      }

-- ---- WRITE
module _ (map : Map) (unit block : ℕ) (from : List ℕ) (s : State) (is : IsCache s) (fit : AllFit map s.entries) where
  abbrev Made : Map
  Made = behind map (write_backs (to_write_back s))

  abbrev Own : Entry
  Own = entry unit block from true

  taken_own : (u b : ℕ) → IsKey u b Own → replaced true unit block from (cached s.entries map) u b ≡ Some from
  taken_own u b key = ap (λ t. if t then Some from else cached s.entries map u b) (own u b key)
    where
      own : (u b : ℕ) → IsKey u b Own → (u == unit) && (b == block) ≡ true
      own u b key = key.is

  taken_other : (u b : ℕ) → is_of u b Own ≡ false → replaced true unit block from (cached s.entries map) u b ≡ cached s.entries map u b
  taken_other u b not = ap (λ t. if t then Some from else cached s.entries map u b) not

  -- memory refused the insertion: the block goes to the pack
  module _ (none : entry_of unit block s.entries ≡ None) (some : IsSome (map unit block)) where
    room : Room map Made s.capacity s.entries (with_room s).entries
    room = room_of map s is fit

    through_some : IsSome (Made unit block)
    through_some = subst IsSome (sym (room.same unit block none)) some

    key_some : (u b : ℕ) → IsKey u b Own → IsSome (Made u b)
    key_some u b key = subst (λ z. IsSome (Made z b)) (sym key.unit_is) (subst (λ z. IsSome (Made unit z)) (sym key.block_is) through_some)

    key_none : (u b : ℕ) → IsKey u b Own → entry_of u b (with_room s).entries ≡ None
    key_none u b key = subst (λ z. entry_of z b (with_room s).entries ≡ None) (sym key.unit_is) (subst (λ z. entry_of unit z (with_room s).entries ≡ None) (sym key.block_is) (room.none unit block none))

    through_contents : (u b : ℕ) → cached (with_room s).entries (behind_one Made (writes unit block from)) u b ≡ replaced true unit block from (cached s.entries map) u b
    through_contents u b = elim (tells u b Own) [
      | inl key ↦ ap (λ z. bytes_or z (behind_one Made (writes unit block from) u b)) (key_none u b key) ∙ write_own Made Own u b key.is (key_some u b key) ∙ sym (taken_own u b key)
      | inr not ↦ ap (λ z. bytes_or (entry_of u b (with_room s).entries) z) (write_other Made Own u b not) ∙ room.kept u b ∙ sym (taken_other u b not)
    ]

    away : (xs : List Entry) → AllByRecursion (λ x. is_of unit block x ≡ false) xs → AllByRecursion (λ x. is_of x.unit x.block Own ≡ false) xs
    away [] all = tt
    away (x ∷ xs) all = (other_way Own x all.0, away xs all.1)

    through_fit : AllFit (behind_one Made (writes unit block from)) (with_room s).entries
    through_fit = keeps_fit Made Own (with_room s).entries (away (with_room s).entries (none_misses unit block (with_room s).entries (room.none unit block none))) room.kept_fit

  hit_usable : (e : Entry) → entry_of unit block s.entries ≡ Some e → IsSome (map unit block)
  hit_usable e some =
      let key : IsKey unit block e = is_key unit block e (found_key unit block s.entries e some) in
      subst IsSome (sym (at_key map unit block e key)) (found_all (Fits map) unit block s.entries e fit some).usable

  takes_in : (held : Option (List ℕ)) (refuses done : Bool) → entry_of unit block s.entries ≡ None → held ≡ map unit block → (if done then Some from else None) ≡ (write_found held refuses s unit block from).given
      → Takes map (behind map (write_found held refuses s unit block from).asked) unit block done from s.entries (write_found held refuses s unit block from).state.entries
  takes_in None refuses true none held given = absurd (none-some from (sym given))
  takes_in None refuses false none held given = subst (λ z. Takes map z unit block false from s.entries s.entries) (sym (read_same map unit block))
      (record { usable = λ e. absurd (true≢false (sym e)); unusable = λ e. sym held; contents = λ u b. refl; fit = fit })
  takes_in (Some bytes) refuses false none held given = absurd (none-some from given)
  takes_in (Some bytes) true true none held given =
      subst (λ z. Takes map z unit block true from s.entries (with_room s).entries)
      (sym (ap (λ z. behind z (write_backs (to_write_back s) ++ writes unit block from ∷ [])) (read_same map unit block) ∙ behind_more map (write_backs (to_write_back s)) (writes unit block from ∷ [])))
      (record {
        usable = λ e. some_is (map unit block) (sym held);
        unusable = λ e. absurd (true≢false e);
        contents = through_contents none (some_is (map unit block) (sym held));
        fit = through_fit none (some_is (map unit block) (sym held));
      })
  takes_in (Some bytes) false true none held given =
      subst (λ z. Takes map z unit block true from s.entries (Own ∷ take (s.capacity - 1) (with_room s).entries))
      (sym (ap (λ z. behind z (write_backs (to_write_back s) ++ [])) (read_same map unit block) ∙ behind_more map (write_backs (to_write_back s)) []))
      (record {
        usable = λ e. some_is (map unit block) (sym held);
        unusable = λ e. absurd (true≢false e);
        contents = λ u b. elim (tells u b Own) [
          | inl key ↦ new_own map unit block s is fit Made (with_room s).entries (room none (some_is (map unit block) (sym held))) none from true u b key ∙ sym (taken_own u b key)
          | inr not ↦ new_other map unit block s is fit Made (with_room s).entries (room none (some_is (map unit block) (sym held))) none from true u b not ∙ sym (taken_other u b not)
        ];
        fit = new_fit map unit block s is fit Made (with_room s).entries (room none (some_is (map unit block) (sym held))) none from true (some_is (map unit block) (sym held)) (λ e. absurd (true≢false e));
      })

  pub takes_of : (held : Option (List ℕ)) (refuses done : Bool) → (entry_of unit block s.entries ≡ None → held ≡ map unit block) → (if done then Some from else None) ≡ (write_done held refuses s unit block from).given
      → Takes map (behind map (write_done held refuses s unit block from).asked) unit block done from s.entries (write_done held refuses s unit block from).state.entries
  takes_of held refuses done is_held = by (entry_of unit block s.entries) refl
    where
      by : (o : Option Entry) → entry_of unit block s.entries ≡ o → (if done then Some from else None) ≡ (write_by o held refuses s unit block from).given
          → Takes map (behind map (write_by o held refuses s unit block from).asked) unit block done from s.entries (write_by o held refuses s unit block from).state.entries
      by None none given = takes_in held refuses done none (is_held none) given
      by (Some e) some given = hit e some done given
        where
          hit : (e : Entry) → entry_of unit block s.entries ≡ Some e → (done : Bool) → (if done then Some from else None) ≡ Some from
              → Takes map map unit block done from s.entries (in_front (rewritten from (entry_of unit block s.entries)) s.entries)
          hit e some false given = absurd (none-some from given)
          hit e some true given = subst (λ z. Takes map map unit block true from s.entries (in_front (rewritten from z) s.entries)) (sym some) (record {
            usable = λ x. hit_usable e some;
            unusable = λ x. absurd (true≢false x);
            contents = change_contents map unit block from s.entries e some;
            fit = change_fit map unit block from s.entries e some fit;
          })
