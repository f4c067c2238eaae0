-- What a call keeps of the driver, and of the blocks that may be asked for.
use Rattle.std.proofs.Common.{◌≡◌, inl, inr, ℕ, zero, suc, ◌-◌, ◌<◌, length, take, drop, Bool, true, false, IsTrue, List, [], ◌∷◌, ◌++◌, Option, None, Some, refl, sym, ap, ◌∙◌, subst}
use Rattle.std.specs.Prelude.{map, is_some, IsSome, if◌then◌else◌}
use Rattle.std.specs.List.{AllByRecursion}
use Rattle.pack_geometry.specs.Geometry.{limit_of}
use Rattle.driver_machine.specs.World.{World}
use Rattle.driver_machine.specs.Guards.{IsSetUp}
use Rattle.driver_laws.specs.rules.Rest.{HasTables}
use Rattle.driver_laws.specs.rules.Waited.{map_of, with_packs}
use Rattle.buffer_cache.specs.Passes.{Stage, setup_at, StillTell, SessionsJoin, map_at, left_map, IsUntouched}
use Rattle.buffer_cache.proofs.Passes.{others_over, left_over, kind_stays}
use Rattle.trace_replay.specs.requests.Requests.{Request}
use Rattle.driver_laws.specs.declared.rules.cached.Entry.{Entry}
use Rattle.driver_laws.specs.rules.Requests.{Map, reads, behind_one, behind}
use Rattle.driver_laws.specs.rules.Entries.{State, is_of, entry_of, IsCache, in_front, rewritten, unchanged, last_unchanged, written_last, to_write_back, with_room, put, write_backs}
use Rattle.driver_laws.specs.rules.Calls.{entry, read_done, write_done}
use Rattle.driver_laws.proofs.rules.Lookups.{none_misses, misses_none, found_all, others_all}
use Rattle.driver_laws.specs.rules.Contents.{AllFit, Gives, Takes, IsOne, AreOne}
use Rattle.driver_laws.specs.rules.CachedLaws.{IsFoundIn, ReadKeeps, WriteKeeps}
use Rattle.driver_laws.proofs.rules.Requested.{read_same}
use Rattle.buffer_cache.specs.Asks.{IsData, Asks, Fetches, LeftBy}
use Rattle.buffer_cache.proofs.Joins.{asks_join}
use Rattle.buffer_cache.specs.Calls.{IfTold, Fetched, Reads, Writes, Holds}

-- an entry that a block has
pub record Found (unit block : ℕ) (entries : List Entry) : Type 0 where
  pub entry : Entry
  pub is : entry_of unit block entries ≡ Some entry

-- ---- data blocks stay such
pub data_stays : (old new : Stage) (unit block : ℕ) → setup_at new ≡ with_packs (setup_at old) new.held → ((u : ℕ) → IsSetUp old.world u → IsSetUp new.world u) → IsData old.world unit block → IsData new.world unit block
data_stays old new unit block same units d = record {
  unit_is = units unit d.unit_is;
  inside = subst (λ kind. block < limit_of kind) (sym (kind_stays old new unit same d.unit_is (units unit d.unit_is))) d.inside;
}

pub all_data : (old new : Stage) (entries : List Entry) → setup_at new ≡ with_packs (setup_at old) new.held → ((u : ℕ) → IsSetUp old.world u → IsSetUp new.world u)
    → AllByRecursion (λ e. IsData old.world e.unit e.block) entries → AllByRecursion (λ e. IsData new.world e.unit e.block) entries
all_data old new [] same units all = tt
all_data old new (e ∷ entries) same units all = (data_stays old new e.unit e.block same units all.0, all_data old new entries same units all.1)

-- ---- what the packs hold behind requests
pub left_now : (old new : Stage) → setup_at new ≡ with_packs (setup_at old) new.held → left_map old new ≡ map_at new
left_now old new same = ap map_of (sym same)

pub holds_asked : (line : ℕ) (rs : List Request) (unit block : ℕ) (from : Option (List ℕ)) (s : State) (old new : Stage) → Asks line rs old new
    → AreOne (map_at old) s.entries unit block from (behind (map_at old) rs) → IsTrue new.packs_tell → HasTables (setup_at old) → Holds unit block from s old new
holds_asked line rs unit block from s old new a one t tables = record {
  each = λ u b. subst (λ (m : Map). IsOne (map_at old) s.entries unit block from u b (m u b)) (sym (left_now old new a.goes.setup ∙ a.map t tables)) (one u b);
  others = a.others t tables;
}

-- where the next one stopped
pub holds_left : (line : ℕ) (rs : List Request) (r : Request) (unit block : ℕ) (from : Option (List ℕ)) (s : State) (old mid new : Stage) → Asks line rs old mid
    → AreOne (map_at old) s.entries unit block from (behind (map_at old) rs) → AreOne (map_at old) s.entries unit block from (behind_one (behind (map_at old) rs) r)
    → (IsTrue new.packs_tell → IsTrue mid.packs_tell) → (IsTrue new.packs_tell → HasTables (setup_at mid) → LeftBy r mid new) → IsTrue new.packs_tell → HasTables (setup_at old) → Holds unit block from s old new
holds_left line rs r unit block from s old mid new a before behind_it still left t tables =
    let l : LeftBy r mid new = left t (a.goes.tables (still t) tables) in
    record {
      each = λ u b. subst (λ (m : Map). IsOne (map_at old) s.entries unit block from u b (m u b)) (left_over old mid new a.goes.setup) (elim l.map [
        | inl same ↦ subst (λ (m : Map). IsOne (map_at old) s.entries unit block from u b (m u b)) (sym (same ∙ a.map (still t) tables)) (before u b)
        | inr all ↦ subst (λ (m : Map). IsOne (map_at old) s.entries unit block from u b (m u b)) (sym (all ∙ ap (λ m. behind_one m r) (a.map (still t) tables))) (behind_it u b)
      ]);
      others = others_over old mid new a.goes.setup (a.others (still t) tables) l.others;
    }

pub holds_untouched : (unit block : ℕ) (from : Option (List ℕ)) (s : State) (old new : Stage) → IsUntouched old new → Holds unit block from s old new
holds_untouched unit block from s old new n = record { each = λ u b. inl (n.map u b); others = n.others }

-- what is said of no block that is to be written holds with one, too
pub holds_more : (unit block : ℕ) (from : Option (List ℕ)) (s : State) (old new : Stage) → Holds 0 0 None s old new → Holds unit block from s old new
holds_more unit block from s old new h = record { each = λ u b. more u b (h.each u b); others = h.others }
  where
    more : (u b : ℕ) → IsOne (map_at old) s.entries 0 0 None u b (left_map old new u b) → IsOne (map_at old) s.entries unit block from u b (left_map old new u b)
    more u b (inl same) = inl same
    more u b (inr (inl here)) = inr (inl here)
    more u b (inr (inr own)) = absurd (never own.1.1.0)
      where
        never : false ≡ true → ⊥
        never some = cc

-- it is said of the entries alone
pub holds_alike : (unit block : ℕ) (from : Option (List ℕ)) (s s' : State) (old new : Stage) → s.entries ≡ s'.entries → IfTold s old new (Holds unit block from s old new) → IfTold s' old new (Holds unit block from s' old new)
holds_alike unit block from s s' old new same h t tables fit =
    let holds : Holds unit block from s old new = h t tables (subst (AllFit (map_at old)) (sym same) fit) in
    record {
      each = λ u b. subst (λ entries. IsOne (map_at old) entries unit block from u b (left_map old new u b)) same (holds.each u b);
      others = holds.others;
    }

-- a read before changes nothing
pub holds_behind_read : (line unit block : ℕ) (s : State) (old mid new : Stage) → Asks line (reads unit block ∷ []) old mid → (IsTrue new.packs_tell → IsTrue mid.packs_tell) → IfTold s mid new (Holds 0 0 None s mid new)
    → IfTold s old new (Holds 0 0 None s old new)
holds_behind_read line unit block s old mid new a still next t tables fit =
    let same : map_at mid ≡ map_at old = a.map (still t) tables ∙ read_same (map_at old) unit block in
    let h : Holds 0 0 None s mid new = next t (a.goes.tables (still t) tables) (subst (λ m. AllFit m s.entries) (sym same) fit) in
    record {
      each = λ u b. subst (λ (m : Map). IsOne m s.entries 0 0 None u b (left_map old new u b)) same
          (subst (λ (m : Map). IsOne (map_at mid) s.entries 0 0 None u b (m u b)) (left_over old mid new a.goes.setup) (h.each u b));
      others = others_over old mid new a.goes.setup (a.others (still t) tables) h.others;
    }

-- ---- room for one more
misses_left : (u b : ℕ) (n : ℕ) (entries : List Entry) → AllByRecursion (λ x. is_of u b x ≡ false) entries → AllByRecursion (λ x. is_of u b x ≡ false) (take n entries ++ map unchanged (drop n entries))
misses_left u b zero [] all = tt
misses_left u b zero (e ∷ entries) all = (all.0, misses_left u b zero entries all.1)
misses_left u b (suc n) [] all = tt
misses_left u b (suc n) (e ∷ entries) all = (all.0, misses_left u b n entries all.1)

pub room_none : (u b : ℕ) (s : State) → entry_of u b s.entries ≡ None → entry_of u b (with_room s).entries ≡ None
room_none u b s none = by (to_write_back s)
  where
    by : (w : Option Entry) → entry_of u b (written_last w s.entries) ≡ None
    by None = none
    by (Some e) = misses_none u b (last_unchanged s.entries) (misses_left u b (length s.entries - 1) s.entries (none_misses u b s.entries none))

-- its entries are data blocks still
all_left : (P : Entry → Type 0) → ((e : Entry) → P e → P (unchanged e)) → (n : ℕ) (entries : List Entry) → AllByRecursion P entries → AllByRecursion P (take n entries ++ map unchanged (drop n entries))
all_left P keep zero [] all = tt
all_left P keep zero (e ∷ entries) all = (keep e all.0, all_left P keep zero entries all.1)
all_left P keep (suc n) [] all = tt
all_left P keep (suc n) (e ∷ entries) all = (all.0, all_left P keep n entries all.1)

pub unchanged_data : (w : World) (s s' : State) → s' ≡ record s { entries = last_unchanged s.entries } → AllByRecursion (λ e. IsData w e.unit e.block) s.entries → AllByRecursion (λ e. IsData w e.unit e.block) s'.entries
unchanged_data w s s' is all = subst (λ (z : State). AllByRecursion (λ e. IsData w e.unit e.block) z.entries) (sym is) (all_left (λ e. IsData w e.unit e.block) (λ e d. d) (length s.entries - 1) s.entries all)

all_taken : (P : Entry → Type 0) (n : ℕ) (entries : List Entry) → AllByRecursion P entries → AllByRecursion P (take n entries)
all_taken P zero entries all = tt
all_taken P (suc n) [] all = tt
all_taken P (suc n) (e ∷ entries) all = (all.0, all_taken P n entries all.1)

pub put_data : (w : World) (refuses : Bool) (unit block : ℕ) (bytes : List ℕ) (changed : Bool) (s : State) → IsData w unit block → AllByRecursion (λ e. IsData w e.unit e.block) s.entries
    → AllByRecursion (λ e. IsData w e.unit e.block) (put refuses (entry unit block bytes changed) s).entries
put_data w true unit block bytes changed s own all = all
put_data w false unit block bytes changed s own all = (own, all_taken (λ e. IsData w e.unit e.block) (s.capacity - 1) s.entries all)

pub front_data : (w : World) (unit block : ℕ) (entries : List Entry) → AllByRecursion (λ e. IsData w e.unit e.block) entries → AllByRecursion (λ e. IsData w e.unit e.block) (in_front (entry_of unit block entries) entries)
front_data w unit block entries all = by (entry_of unit block entries) refl
  where
    by : (o : Option Entry) → entry_of unit block entries ≡ o → AllByRecursion (λ e. IsData w e.unit e.block) (in_front o entries)
    by None is = all
    by (Some e) is = (found_all (λ e. IsData w e.unit e.block) unit block entries e all is, others_all (λ e. IsData w e.unit e.block) e.unit e.block entries all)

pub change_data : (w : World) (unit block : ℕ) (from : List ℕ) (entries : List Entry) → AllByRecursion (λ e. IsData w e.unit e.block) entries
    → AllByRecursion (λ e. IsData w e.unit e.block) (in_front (rewritten from (entry_of unit block entries)) entries)
change_data w unit block from entries all = by (entry_of unit block entries) refl
  where
    by : (o : Option Entry) → entry_of unit block entries ≡ o → AllByRecursion (λ e. IsData w e.unit e.block) (in_front (rewritten from o) entries)
    by None is = all
    by (Some e) is = (found_all (λ e. IsData w e.unit e.block) unit block entries e all is, others_all (λ e. IsData w e.unit e.block) e.unit e.block entries all)

-- ---- a block that is no entry was read, and room made
pub fetched_true : SessionsJoin → (line unit block : ℕ) (into : List ℕ) (s s' : State) (old mid new : Stage) → Fetches line unit block true into old mid → s' ≡ with_room s
    → Asks line (write_backs (to_write_back s)) mid new → StillTell mid new → Fetched line unit block true into s s' old new
fetched_true law line unit block into s s' old mid new f state asks still = record {
  state = state;
  asks = asks_join law line (reads unit block ∷ []) (write_backs (to_write_back s)) old mid new f.asks asks still;
  told = λ t tables. f.told (still.packs t) tables;
}

-- ---- WHAT A READ COMES TO
pub reads_of : ReadKeeps → (line unit block : ℕ) (held : Option (List ℕ)) (refuses : Bool) (given : Option (List ℕ)) (s s' : State) (old new : Stage) → IsCache s → s' ≡ (read_done held refuses s unit block).state
    → given ≡ (read_done held refuses s unit block).given → Asks line (read_done held refuses s unit block).asked old new
    → (IsTrue new.packs_tell → HasTables (setup_at old) → IsFoundIn (map_at old) s unit block held) → Reads line unit block given s s' old new
reads_of law line unit block held refuses given s s' old new is state gives asks found = record {
  held = held;
  refuses = refuses;
  state = state;
  gives = gives;
  asks = asks;
  told = λ t tables fit. subst (λ z. Gives (map_at old) (map_at new) unit block given s.entries z.entries) (sym state)
      (subst (λ z. Gives (map_at old) (map_at new) unit block z s.entries (read_done held refuses s unit block).state.entries) (sym gives)
      (subst (λ z. Gives (map_at old) z unit block (read_done held refuses s unit block).given s.entries (read_done held refuses s unit block).state.entries) (sym (asks.map t tables))
      (law (map_at old) s unit block held refuses is fit (found t tables))));
}

-- AND A WRITE
pub writes_of : WriteKeeps → (line unit block : ℕ) (from : List ℕ) (held : Option (List ℕ)) (refuses done : Bool) (s s' : State) (old new : Stage) → IsCache s → s' ≡ (write_done held refuses s unit block from).state
    → (if done then Some from else None) ≡ (write_done held refuses s unit block from).given → Asks line (write_done held refuses s unit block from).asked old new
    → (IsTrue new.packs_tell → HasTables (setup_at old) → IsFoundIn (map_at old) s unit block held) → Writes line unit block done from s s' old new
writes_of law line unit block from held refuses done s s' old new is state gives asks found = record {
  held = held;
  refuses = refuses;
  state = state;
  gives = gives;
  asks = asks;
  told = λ t tables fit. subst (λ z. Takes (map_at old) (map_at new) unit block done from s.entries z.entries) (sym state)
      (subst (λ z. Takes (map_at old) z unit block done from s.entries (write_done held refuses s unit block from).state.entries) (sym (asks.map t tables))
      (law (map_at old) s unit block from held refuses done is fit (found t tables) gives));
}

-- ---- the entry that a block has
pub no_entry : (unit block : ℕ) (entries : List Entry) → false ≡ is_some (entry_of unit block entries) → entry_of unit block entries ≡ None
no_entry unit block entries not = by (entry_of unit block entries) not
  where
    by : (o : Option Entry) → false ≡ is_some o → o ≡ None
    by None e = refl
    by (Some x) e = absurd (false_true e)
      where
        false_true : false ≡ true → ⊥
        false_true e = cc

pub never_some : (unit block : ℕ) (entries : List Entry) → entry_of unit block entries ≡ None → IsSome (entry_of unit block entries) → ⊥
never_some unit block entries none some = false_true (subst (λ (o : Option Entry). IsSome o) none some)
  where
    false_true : false ≡ true → ⊥
    false_true e = cc

pub some_entry : (unit block : ℕ) (entries : List Entry) → true ≡ is_some (entry_of unit block entries) → Found unit block entries
some_entry unit block entries is = by (entry_of unit block entries) refl is
  where
    by : (o : Option Entry) → entry_of unit block entries ≡ o → true ≡ is_some o → Found unit block entries
    by None e some = absurd (true_false some)
      where
        true_false : true ≡ false → ⊥
        true_false e = cc
    by (Some x) e some = record { entry = x; is = e }
