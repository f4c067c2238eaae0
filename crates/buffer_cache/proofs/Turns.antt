-- One more entry of a sync.
use Rattle.std.proofs.Common.{◌≡◌, ◌≢◌, ℕ, ◌<◌, false, IsTrue, List, [], ◌∷◌, ◌++◌, length, None, Some, refl, sym, ap, ◌∙◌, subst, append-nil, append_assoc, ◌≤◌, arith}
use Rattle.std.specs.Prelude.{map, slice_index_or, slice_set}
use Rattle.std.specs.List.{AllByRecursion}
use Rattle.std.proofs.lemmas.List.{length-set, map-append}
use Rattle.lru.specs.LruCache.{LruCache}
use Rattle.driver_machine.specs.World.{World}
use Rattle.driver_laws.specs.rules.Rest.{HasTables}
use Rattle.buffer_cache.specs.Passes.{Stage, setup_at, StillTell, SessionsJoin, map_at}
use Rattle.driver_laws.specs.declared.rules.cached.Entry.{Entry}
use Rattle.driver_laws.specs.rules.Requests.{writes}
use Rattle.driver_laws.specs.rules.Contents.{Flushes}
use Rattle.driver_laws.specs.rules.CachedLaws.{SyncWrites}
use Rattle.driver_laws.specs.rules.Entries.{State, AreApart, IsCache, if_changed, unchanged, write_backs, written_back}
use Rattle.driver_laws.proofs.rules.Lookups.{all_parts}
use Rattle.driver_laws.proofs.rules.Ones.{IsFound, each_found, back_one, backs_one, none_one}
use Rattle.buffer_cache.specs.Asks.{IsData, Asks, LeftBy}
use Rattle.buffer_cache.proofs.Joins.{asks_join}
use Rattle.buffer_cache.specs.declared.entry.Key.{Key}
use Rattle.buffer_cache.specs.declared.entry.Held.{Held}
use Rattle.buffer_cache.specs.Views.{nothing, entry_at, entries_of, state_of, Misses, AreSlots, IsKept}
use Rattle.buffer_cache.specs.Calls.{Holds, Syncs}
use Rattle.buffer_cache.proofs.Orders.{entries_set, entry_set}
use Rattle.buffer_cache.proofs.Stays.{holds_left}

-- SO FAR the entries in front were written back, and the rest is as it was.
pub record Flushing (line : ℕ) (order : List (Key × ℕ)) (slots now : List Held) (old new : Stage) (rest : List (Key × ℕ)) : Type 0 where
  pub done : List (Key × ℕ)
  pub all : order ≡ done ++ rest
  pub asks : Asks line (written_back (entries_of done slots)) old new
  pub cleaned : entries_of done now ≡ map unchanged (entries_of done slots)
  pub left : entries_of rest now ≡ entries_of rest slots
  pub room : length now ≡ length slots

pub written_more : (xs ys : List Entry) → written_back (xs ++ ys) ≡ written_back xs ++ written_back ys
written_more [] ys = refl
written_more (x ∷ xs) ys = ap (λ z. write_backs (if_changed (Some x)) ++ z) (written_more xs ys) ∙ sym (append_assoc (write_backs (if_changed (Some x))) (written_back xs) (written_back ys))

pub same_head : {x y : Entry} {xs ys : List Entry} → x ∷ xs ≡ y ∷ ys → x ≡ y
same_head {x} {y} {xs} {ys} e = ap (head_or x) e
  where
    head_or : Entry → List Entry → Entry
    head_or d [] = d
    head_or d (z ∷ zs) = z

same_tail : {x y : Entry} {xs ys : List Entry} → x ∷ xs ≡ y ∷ ys → xs ≡ ys
same_tail e = ap tail_of e
  where
    tail_of : List Entry → List Entry
    tail_of [] = []
    tail_of (z ∷ zs) = zs

-- a slot of its own
pub split_misses : (room : ℕ) (done : List (Key × ℕ)) (p : Key × ℕ) (rest : List (Key × ℕ)) → AreSlots room (done ++ p ∷ rest) → (p.1 < room) × (Misses p.1 done × Misses p.1 rest)
split_misses room [] p rest a = (a.0, (tt, a.1.0))
split_misses room (q ∷ done) p rest a =
    let more = split_misses room done p rest a.1.1 in
    (more.0, ((away q.1 done a.1.0, more.1.0), more.1.1))
  where
    away : (s : ℕ) (xs : List (Key × ℕ)) → Misses s (xs ++ p ∷ rest) → s ≢ p.1
    away s [] m = λ e. m.0 (sym e)
    away s (x ∷ xs) m = away s xs m.1

-- one more
pub flush_one : SessionsJoin → (line : ℕ) (order : List (Key × ℕ)) (slots now : List Held) (old mid new : Stage) (p : Key × ℕ) (rest : List (Key × ℕ)) → AreSlots (length order) order → p.1 < length now
    → Flushing line order slots now old mid (p ∷ rest) → Asks line (write_backs (if_changed (Some (entry_at now p)))) mid new → StillTell mid new
    → Flushing line order slots (slice_set now p.1 (record { bytes = (slice_index_or now p.1 nothing).bytes; changed = false })) old new rest
flush_one law line order slots now old mid new p rest are lt f asks still =
    let apart = split_misses (length order) f.done p rest (subst (AreSlots (length order)) f.all are) in
    let held : Held = record { bytes = (slice_index_or now p.1 nothing).bytes; changed = false } in
    let same : entry_at now p ≡ entry_at slots p = same_head f.left in
    record {
      done = f.done ++ p ∷ [];
      all = f.all ∙ sym (append_assoc f.done (p ∷ []) rest);
      asks = subst (λ rs. Asks line rs old new) (sym (ap written_back (map-append (entry_at slots) f.done (p ∷ [])) ∙ written_more (entries_of f.done slots) (entry_at slots p ∷ [])
          ∙ ap (λ z. written_back (entries_of f.done slots) ++ z) (append-nil (write_backs (if_changed (Some (entry_at slots p)))))))
          (asks_join law line (written_back (entries_of f.done slots)) (write_backs (if_changed (Some (entry_at slots p)))) old mid new f.asks
          (subst (λ e. Asks line (write_backs (if_changed (Some e))) mid new) same asks) still);
      cleaned = map-append (entry_at (slice_set now p.1 held)) f.done (p ∷ [])
          ∙ ap (λ z. z ++ entry_at (slice_set now p.1 held) p ∷ []) (entries_set f.done now p.1 held apart.1.0 ∙ f.cleaned)
          ∙ ap (λ z. map unchanged (entries_of f.done slots) ++ z ∷ []) (entry_set p now p.1 held refl lt ∙ ap unchanged same)
          ∙ sym (ap (map unchanged) (map-append (entry_at slots) f.done (p ∷ [])) ∙ map-append unchanged (entries_of f.done slots) (entry_at slots p ∷ []));
      left = entries_set rest now p.1 held apart.1.1 ∙ same_tail f.left;
      room = length-set now p.1 held ∙ f.room;
    }

-- or it stopped there
pub flush_stops : (line : ℕ) (order : List (Key × ℕ)) (slots now : List Held) (s : State) (old mid new : Stage) (p : Key × ℕ) (rest : List (Key × ℕ)) → s.entries ≡ entries_of order slots → AreApart s.entries
    → Flushing line order slots now old mid (p ∷ rest) → (IsTrue new.packs_tell → IsTrue mid.packs_tell)
    → (IsTrue new.packs_tell → HasTables (setup_at mid) → LeftBy (writes p.0.unit p.0.block (entry_at now p).bytes) mid new) → IsTrue new.packs_tell → HasTables (setup_at old) → Holds 0 0 None s old new
flush_stops line order slots now s old mid new p rest is apart f still stops t tables =
    let split : s.entries ≡ entries_of f.done slots ++ entries_of (p ∷ rest) slots = is ∙ ap (λ z. entries_of z slots) f.all ∙ map-append (entry_at slots) f.done (p ∷ rest) in
    let found = all_parts (IsFound s.entries) (entries_of f.done slots) (entries_of (p ∷ rest) slots) (subst (AllByRecursion (IsFound s.entries)) split (each_found s.entries apart)) in
    let before = backs_one (map_at old) s.entries 0 0 None (map_at old) (entries_of f.done slots) found.0 (none_one (map_at old) s.entries 0 0 None) in
    let same : entry_at now p ≡ entry_at slots p = same_head f.left in
    holds_left line (written_back (entries_of f.done slots)) (writes p.0.unit p.0.block (entry_at slots p).bytes) 0 0 None s old mid new f.asks before
    (back_one (map_at old) s.entries 0 0 None _ (entry_at slots p) found.1.0 before) still
    (subst (λ (e : Entry). IsTrue new.packs_tell → HasTables (setup_at mid) → LeftBy (writes p.0.unit p.0.block e.bytes) mid new) same stops) t tables

-- ---- the next one: its slot is there, and its block is a data block
pub slot_now : (line : ℕ) (order : LruCache Key ℕ) (slots now : List Held) (old mid : Stage) (p : Key × ℕ) (rest : List (Key × ℕ)) → IsKept order slots → length order.entries ≤ order.cap
    → Flushing line order.entries slots now old mid (p ∷ rest) → p.1 < length now
slot_now line order slots now old mid p rest k few f =
    let lt = (split_misses (length order.entries) f.done p rest (subst (AreSlots (length order.entries)) f.all k.slots_are)).0 in
    let room = k.room in
    let same = f.room in
    omega (arith, lt, few, room, same)

pub data_now : (line : ℕ) (order : List (Key × ℕ)) (slots now : List Held) (old mid : Stage) (p : Key × ℕ) (rest : List (Key × ℕ)) (w : World) → AllByRecursion (λ e. IsData w e.unit e.block) (entries_of order slots)
    → Flushing line order slots now old mid (p ∷ rest) → IsData w p.0.unit p.0.block
data_now line order slots now old mid p rest w all f =
    (all_parts (λ e. IsData w e.unit e.block) (entries_of f.done slots) (entries_of (p ∷ rest) slots)
    (subst (AllByRecursion (λ e. IsData w e.unit e.block)) (ap (λ z. entries_of z slots) f.all ∙ map-append (entry_at slots) f.done (p ∷ rest)) all)).1.0

-- ---- ALL OF THEM
pub record Flushed (line : ℕ) (order : List (Key × ℕ)) (slots now : List Held) (old new : Stage) : Type 0 where
  pub asks : Asks line (written_back (entries_of order slots)) old new
  pub cleaned : entries_of order now ≡ map unchanged (entries_of order slots)

pub flushed_all : (line : ℕ) (order : List (Key × ℕ)) (slots now : List Held) (old new : Stage) (rest : List (Key × ℕ)) → rest ≡ [] → Flushing line order slots now old new rest → Flushed line order slots now old new
flushed_all line order slots now old new rest none f =
    let all : order ≡ f.done = f.all ∙ ap (λ zs. f.done ++ zs) none ∙ append-nil f.done in
    record {
      asks = subst (λ zs. Asks line (written_back (entries_of zs slots)) old new) (sym all) f.asks;
      cleaned = subst (λ zs. entries_of zs now ≡ map unchanged (entries_of zs slots)) (sym all) f.cleaned;
    }

pub flushed_data : (w : World) (entries : List Entry) → AllByRecursion (λ e. IsData w e.unit e.block) entries → AllByRecursion (λ e. IsData w e.unit e.block) (map unchanged entries)
flushed_data w [] all = tt
flushed_data w (e ∷ entries) all = (all.0, flushed_data w entries all.1)

pub syncs_of : SyncWrites → (line : ℕ) (order : LruCache Key ℕ) (slots slots' : List Held) (refused : ℕ) (old new : Stage) → IsCache (state_of order slots refused)
    → Asks line (written_back (entries_of order.entries slots)) old new → entries_of order.entries slots' ≡ map unchanged (entries_of order.entries slots)
    → Syncs line (state_of order slots refused) (state_of order slots' refused) old new
syncs_of law line order slots slots' refused old new is asks same = record {
  state = ap (λ z. record { entries = z; capacity = order.cap; refused = refused }) same;
  asks = asks;
  told = λ t tables fit. subst (λ z. Flushes (map_at old) (map_at new) (entries_of order.entries slots) z) (sym same)
      (subst (λ m. Flushes (map_at old) m (entries_of order.entries slots) (map unchanged (entries_of order.entries slots))) (sym (asks.map t tables)) (law (map_at old) (state_of order slots refused) is fit));
}
