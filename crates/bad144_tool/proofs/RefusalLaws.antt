-- What `add` answers is determined by the pack: each reason says that those before it do not hold.
use Rattle.std.proofs.Common.{◌≡◌, inl, inr, ℕ, zero, suc, ◌+◌, ◌*◌, ◌<◌, ◌≤◌, true, false, length, get_or, Option, None, Some, Contains, refl, sym, ap, ◌∙◌, subst, arith}
use Rattle.std.specs.Prelude.{AllPairs, insert, slice_get}
use Rattle.std.proofs.lemmas.Bool.{cases_lt}
use Rattle.std.proofs.lemmas.List.Edits.{get_or-insert_above, get_or-insert_at, get_or-insert_below, length-insert}
use Rattle.std.proofs.lemmas.Option.{get_or_from_slice_get, slice_get_within}
use Rattle.pack_geometry.specs.declared.DriveKind.{DriveKind}
use Rattle.pack_geometry.specs.declared.Place.{Place}
use Rattle.pack_geometry.specs.Geometry.{block_count, block_number, limit_of, place_at, replacement_at}
use Rattle.pack_geometry.specs.Pack.{Pack, is_marked}
use Rattle.pack_geometry.specs.PackTable.{IsTableOf}
use Rattle.pack_geometry.specs.TableSpelling.{Table, IsTable}
use Rattle.pack_geometry.proofs.PackTableLaws.{table_once}
use Rattle.bad144_table.specs.Inserts.{Inserts}
use Rattle.bad144_tool.specs.Adding.{AreFree, GoesTo, HasTable, MayList}
use Rattle.bad144_tool.specs.Faults.{IsRefusal, IsWhy}
use Rattle.bad144_tool.specs.declared.fault.ToolFault.{ToolFault}
use Rattle.bad144_tool.specs.declared.fault.ToolFault.TheVariants.{NoTable, Reserved, Listed, Full, Spare, TooLong, Store, Sink}
use Rattle.bad144_tool.proofs.TableEdits.{number_of_place}

-- ---- a place goes to one index

module _ (t new : Table) (place : Place) (i : ℕ) (ins : Inserts t new place i) where
  ascending : AllPairs (λ p q. block_number t.kind p < block_number t.kind q) (insert t.places i place)
  ascending = subst (λ (u : Table). AllPairs (λ p q. block_number u.kind p < block_number u.kind q) u.places) ins.changed ins.valid.ascending

  long : length (insert t.places i place) ≡ length t.places + 1
  long = length-insert t.places i place ins.position

  placed_below : (k : ℕ) (d : Place) → k < i → block_number t.kind (get_or t.places k d) < block_number t.kind place
  placed_below k d lt =
      let less = ascending k i d lt (omega (arith, long, ins.position)) in
      let one = ap (block_number t.kind) (get_or-insert_below t.places i place d k lt ins.position) in
      let other = ap (block_number t.kind) (get_or-insert_at t.places i place d ins.position) in
      omega (arith, less, one, other)

  placed_above : (k : ℕ) (d : Place) → i ≤ k → k < length t.places → block_number t.kind place < block_number t.kind (get_or t.places k d)
  placed_above k d from small =
      let less = ascending i (k + 1) d (omega (arith, from)) (omega (arith, long, small)) in
      let one = ap (block_number t.kind) (get_or-insert_at t.places i place d ins.position) in
      let other = ap (block_number t.kind) (get_or-insert_above t.places i place d k from ins.position) in
      omega (arith, less, one, other)

  room : length t.places + 1 ≤ 126
  room = let all = ap (λ (u : Table). length u.places) ins.changed in omega (arith, all, long, ins.valid.room)

  pub grown : length new.places ≡ length t.places + 1
  grown = ap (λ (u : Table). length u.places) ins.changed ∙ long

not_before : (t new other : Table) (place : Place) (i j : ℕ) → Inserts t new place i → Inserts t other place j → i < j → ⊥
not_before t new other place i j one two lt =
    let small : i < length t.places = omega (arith, lt, two.position) in
    let above = placed_above t new place i one i place (omega arith) small in
    let below = placed_below t other place j two i place lt in
    omega (arith, above, below)

one_index : (t new other : Table) (place : Place) (i j : ℕ) → Inserts t new place i → Inserts t other place j → i ≡ j
one_index t new other place i j one two =
    elim (cases_lt i j) [
      | inl lt ↦ absurd (not_before t new other place i j one two lt)
      | inr ge ↦ elim (cases_lt j i) [
        | inl gt ↦ absurd (not_before t other new place j i two one gt)
        | inr le ↦ omega (arith, ge, le)
      ]
    ]

-- a listed place has one index
one_entry : (t : Table) (place : Place) (i j : ℕ) → IsTable t → slice_get t.places i ≡ Some place → slice_get t.places j ≡ Some place → i ≡ j
one_entry t place i j valid at there =
    let small_i = slice_get_within t.places i place at in
    let small_j = slice_get_within t.places j place there in
    let here_i = ap (block_number t.kind) (get_or_from_slice_get t.places i place place at) in
    let here_j = ap (block_number t.kind) (get_or_from_slice_get t.places j place place there) in
    elim (cases_lt i j) [
      | inl lt ↦ let less = valid.ascending i j place lt small_j in omega (arith, less, here_i, here_j)
      | inr ge ↦ elim (cases_lt j i) [
        | inl gt ↦ let less = valid.ascending j i place gt small_i in omega (arith, less, here_i, here_j)
        | inr le ↦ omega (arith, ge, le)
      ]
    ]

-- ---- how far a pack lets an addition come: 0 too long, 1 no table, 2 reserved, 3 listed, 4 full, 5 spare, 6 done

pub record Comes (kind : DriveKind) (pack : Pack) (block rank : ℕ) : Type 0 where
  pub long : rank ≡ 0 → 512 * block_count kind < length pack.image
  pub fits : 1 ≤ rank → length pack.image ≤ 512 * block_count kind
  pub none : rank ≡ 1 → IsTableOf kind pack None
  pub some : 2 ≤ rank → (t : Table) × IsTableOf kind pack (Some t)
  pub reserved : rank ≡ 2 → limit_of kind ≤ block
  pub low : 3 ≤ rank → block < limit_of kind
  pub listed : rank ≡ 3 → (t : Table) → IsTableOf kind pack (Some t) → Contains t.places (place_at kind block)
  pub absent : 4 ≤ rank → (t : Table) → IsTableOf kind pack (Some t) → Contains t.places (place_at kind block) → ⊥
  pub full : rank ≡ 4 → (t : Table) → IsTableOf kind pack (Some t) → length t.places ≡ 126
  pub free_room : 5 ≤ rank → (t : Table) → IsTableOf kind pack (Some t) → length t.places + 1 ≤ 126
  pub marked : rank ≡ 5 → (t new : Table) (i : ℕ) → IsTableOf kind pack (Some t) → Inserts t new (place_at kind block) i
      → (j : ℕ) × (i ≤ j) × (j < length new.places) × (is_marked pack (replacement_at kind j) ≡ true)
  pub free : 6 ≤ rank → (t new : Table) (i : ℕ) → IsTableOf kind pack (Some t) → Inserts t new (place_at kind block) i → AreFree kind pack i (length new.places)
  pub goes : 5 ≤ rank → (t : Table) × (new : Table) × (i : ℕ) × IsTableOf kind pack (Some t) × Inserts t new (place_at kind block) i

true_false : true ≡ false → ⊥
true_false e = cc

no_table_here : (kind : DriveKind) (pack : Pack) (t : Table) → IsTableOf kind pack None → IsTableOf kind pack (Some t) → ⊥
no_table_here kind pack t none some = none some.copy t some.is_copy some.told

not_less : (kind : DriveKind) (pack : Pack) (block r s : ℕ) → Comes kind pack block r → Comes kind pack block s → r < s → r ≤ 5 → ⊥
not_less kind pack block zero s a b lt few = let one = a.long refl in let other = b.fits (omega (arith, lt)) in omega (arith, one, other)
not_less kind pack block (suc zero) s a b lt few = let some = b.some (omega (arith, lt)) in no_table_here kind pack some.0 (a.none refl) some.1
not_less kind pack block (suc (suc zero)) s a b lt few = let one = a.reserved refl in let other = b.low (omega (arith, lt)) in omega (arith, one, other)
not_less kind pack block (suc (suc (suc zero))) s a b lt few =
    let some = b.some (omega (arith, lt)) in b.absent (omega (arith, lt)) some.0 some.1 (a.listed refl some.0 some.1)
not_less kind pack block (suc (suc (suc (suc zero)))) s a b lt few =
    let some = b.some (omega (arith, lt)) in
    let one = a.full refl some.0 some.1 in let other = b.free_room (omega (arith, lt)) some.0 some.1 in omega (arith, one, other)
not_less kind pack block (suc (suc (suc (suc (suc zero))))) s a b lt few =
    let (t, new, i, some, ins) = b.goes (omega (arith, lt)) in
    let (j, from, to, marked) = a.marked refl t new i some ins in
    true_false (sym marked ∙ b.free (omega (arith, lt)) t new i some ins j from to)
not_less kind pack block (suc (suc (suc (suc (suc (suc r)))))) s a b lt few = absurd (omega (arith, few))

pub same_rank : (kind : DriveKind) (pack : Pack) (block r s : ℕ) → Comes kind pack block r → Comes kind pack block s → r ≤ 5 → s ≤ 5 → r ≡ s
same_rank kind pack block r s a b few few' =
    elim (cases_lt r s) [
      | inl lt ↦ absurd (not_less kind pack block r s a b lt few)
      | inr ge ↦ elim (cases_lt s r) [
        | inl gt ↦ absurd (not_less kind pack block s r b a gt few')
        | inr le ↦ omega (arith, ge, le)
      ]
    ]

-- ---- what each reason says of how far it comes

rank_of : ToolFault → ℕ
rank_of NoTable = 1
rank_of Reserved = 2
rank_of (Listed i) = 3
rank_of Full = 4
rank_of (Spare j) = 5
rank_of other = 0

module _ (kind : DriveKind) (pack : Pack) (block : ℕ) (small : block < block_count kind) where
  -- a table of the pack is the one that it has
  the_table : (t u : Table) → HasTable kind pack t → IsTableOf kind pack (Some u) → t ≡ u
  the_table t u on some = same_some (table_once kind pack (Some t) (Some u) on.table_is some)
    where
      same_some : {a b : Table} → ◌≡◌ {A = Option Table} (Some a) (Some b) → a ≡ b
      same_some {a} {b} e = ap (λ (o : Option Table). or_this a o) e
        where
          or_this : Table → Option Table → Table
          or_this d None = d
          or_this d (Some x) = x

  -- the block lies below the data limit, where its place is said to
  low_by : (t : Table) → HasTable kind pack t → block_number t.kind (place_at kind block) < limit_of t.kind → block < limit_of kind
  low_by t on below = subst (λ (n : ℕ). n < limit_of kind) (number_of_place kind block small)
      (subst (λ (k : DriveKind). block_number k (place_at kind block) < limit_of k) on.table_is.told.for_drive below)

  in_list : (t : Table) (i : ℕ) → slice_get t.places i ≡ Some (place_at kind block) → Contains t.places (place_at kind block)
  in_list t i at = (i, slice_get_within t.places i (place_at kind block) at, get_or_from_slice_get t.places i (place_at kind block) (place_at kind block) at)

  goes_comes : (t new : Table) (i rank : ℕ) → GoesTo kind pack block i t new → 5 ≤ rank
      → (rank ≡ 5 → (j : ℕ) × (i ≤ j) × (j < length new.places) × (is_marked pack (replacement_at kind j) ≡ true))
      → (6 ≤ rank → AreFree kind pack i (length new.places)) → Comes kind pack block rank
  goes_comes t new i rank goes high marked free = record {
    long = λ e. absurd (omega (arith, e, high));
    fits = λ h. goes.on.fits;
    none = λ e. absurd (omega (arith, e, high));
    some = λ h. (t, goes.on.table_is);
    reserved = λ e. absurd (omega (arith, e, high));
    low = λ h. low_by t goes.on goes.inserted.fresh.below;
    listed = λ e. absurd (omega (arith, e, high));
    absent = λ h u is. subst (λ (v : Table). Contains v.places (place_at kind block) → ⊥) (the_table t u goes.on is) goes.inserted.fresh.absent;
    full = λ e. absurd (omega (arith, e, high));
    free_room = λ h u is. subst (λ (v : Table). length v.places + 1 ≤ 126) (the_table t u goes.on is) (room t new (place_at kind block) i goes.inserted);
    marked = λ e u other j is ins. let (k, from, to, on) = marked e in
        let same_index : i ≡ j = one_index u new other (place_at kind block) i j (subst (λ (v : Table). Inserts v new (place_at kind block) i) (the_table t u goes.on is) goes.inserted) ins in
        let same_length : length new.places ≡ length other.places =
        grown t new (place_at kind block) i goes.inserted ∙ ap (λ (v : Table). length v.places + 1) (the_table t u goes.on is) ∙ sym (grown u other (place_at kind block) j ins) in
        (k, omega (arith, from, same_index), omega (arith, to, same_length), on);
    free = λ h u other j is ins k from to.
        let same_index : i ≡ j = one_index u new other (place_at kind block) i j (subst (λ (v : Table). Inserts v new (place_at kind block) i) (the_table t u goes.on is) goes.inserted) ins in
        let same_length : length new.places ≡ length other.places =
        grown t new (place_at kind block) i goes.inserted ∙ ap (λ (v : Table). length v.places + 1) (the_table t u goes.on is) ∙ sym (grown u other (place_at kind block) j ins) in
        free h k (omega (arith, from, same_index)) (omega (arith, to, same_length));
    goes = λ h. (t, new, i, goes.on.table_is, goes.inserted);
  }

  comes : (f : ToolFault) → IsRefusal f → IsWhy kind pack block f → Comes kind pack block (rank_of f)
  unfolding rank_of
  comes (TooLong n) is why = record {
    long = λ e. omega (arith, why.above, why.is);
    fits = λ h. absurd (omega (arith, h));
    none = λ e. absurd (omega (arith, e));
    some = λ h. absurd (omega (arith, h));
    reserved = λ e. absurd (omega (arith, e));
    low = λ h. absurd (omega (arith, h));
    listed = λ e. absurd (omega (arith, e));
    absent = λ h. absurd (omega (arith, h));
    full = λ e. absurd (omega (arith, e));
    free_room = λ h. absurd (omega (arith, h));
    marked = λ e. absurd (omega (arith, e));
    free = λ h. absurd (omega (arith, h));
    goes = λ h. absurd (omega (arith, h));
  }
  comes NoTable is why = record {
    long = λ e. absurd (omega (arith, e));
    fits = λ h. why.fits;
    none = λ e. why.none;
    some = λ h. absurd (omega (arith, h));
    reserved = λ e. absurd (omega (arith, e));
    low = λ h. absurd (omega (arith, h));
    listed = λ e. absurd (omega (arith, e));
    absent = λ h. absurd (omega (arith, h));
    full = λ e. absurd (omega (arith, e));
    free_room = λ h. absurd (omega (arith, h));
    marked = λ e. absurd (omega (arith, e));
    free = λ h. absurd (omega (arith, h));
    goes = λ h. absurd (omega (arith, h));
  }
  comes Reserved is why = record {
    long = λ e. absurd (omega (arith, e));
    fits = λ h. why.on.fits;
    none = λ e. absurd (omega (arith, e));
    some = λ h. (why.table, why.on.table_is);
    reserved = λ e. why.reserved;
    low = λ h. absurd (omega (arith, h));
    listed = λ e. absurd (omega (arith, e));
    absent = λ h. absurd (omega (arith, h));
    full = λ e. absurd (omega (arith, e));
    free_room = λ h. absurd (omega (arith, h));
    marked = λ e. absurd (omega (arith, e));
    free = λ h. absurd (omega (arith, h));
    goes = λ h. absurd (omega (arith, h));
  }
  comes (Listed i) is why = record {
    long = λ e. absurd (omega (arith, e));
    fits = λ h. why.on.fits;
    none = λ e. absurd (omega (arith, e));
    some = λ h. (why.table, why.on.table_is);
    reserved = λ e. absurd (omega (arith, e));
    low = λ h. why.below;
    listed = λ e u on. subst (λ (v : Table). Contains v.places (place_at kind block)) (the_table why.table u why.on on) (in_list why.table i why.listed);
    absent = λ h. absurd (omega (arith, h));
    full = λ e. absurd (omega (arith, e));
    free_room = λ h. absurd (omega (arith, h));
    marked = λ e. absurd (omega (arith, e));
    free = λ h. absurd (omega (arith, h));
    goes = λ h. absurd (omega (arith, h));
  }
  comes Full is why = record {
    long = λ e. absurd (omega (arith, e));
    fits = λ h. why.on.fits;
    none = λ e. absurd (omega (arith, e));
    some = λ h. (why.table, why.on.table_is);
    reserved = λ e. absurd (omega (arith, e));
    low = λ h. low_by why.table why.on why.fresh.below;
    listed = λ e. absurd (omega (arith, e));
    absent = λ h u on. subst (λ (v : Table). Contains v.places (place_at kind block) → ⊥) (the_table why.table u why.on on) why.fresh.absent;
    full = λ e u on. subst (λ (v : Table). length v.places ≡ 126) (the_table why.table u why.on on) why.full;
    free_room = λ h. absurd (omega (arith, h));
    marked = λ e. absurd (omega (arith, e));
    free = λ h. absurd (omega (arith, h));
    goes = λ h. absurd (omega (arith, h));
  }
  comes (Spare j) is why = goes_comes why.table why.new_table why.i 5 why.goes (omega arith) (λ e. (j, why.first.from, why.first.to, why.first.marked)) (λ h. absurd (omega (arith, h)))
  comes other is why = absurd is

  may_comes : (i : ℕ) (old new : Table) → MayList kind pack block i old new → Comes kind pack block 6
  may_comes i old new may = goes_comes old new i 6 may.goes (omega arith) (λ e. absurd (omega (arith, e))) (λ h. may.free)

  few : (f : ToolFault) → rank_of f ≤ 5
  unfolding rank_of
  few (TooLong n) = omega arith
  few other = omega arith

  pub never_both : (i : ℕ) (f : ToolFault) (old new : Table) → IsRefusal f → IsWhy kind pack block f → MayList kind pack block i old new → ⊥
  never_both i f old new is why may = not_less kind pack block (rank_of f) 6 (comes f is why) (may_comes i old new may) (omega (arith, few f)) (few f)

-- two reasons of one rank are the same
module _ (kind : DriveKind) (pack : Pack) (block : ℕ) (small : block < block_count kind) where
  same_fault : (f g : ToolFault) → IsRefusal f → IsRefusal g → IsWhy kind pack block f → IsWhy kind pack block g → rank_of f ≡ rank_of g → f ≡ g
  unfolding rank_of
  same_fault (TooLong n) (TooLong m) is it why how e = ap (λ (k : ℕ). TooLong k) (why.is ∙ sym how.is)
  same_fault NoTable NoTable is it why how e = refl
  same_fault Reserved Reserved is it why how e = refl
  same_fault (Listed i) (Listed j) is it why how e =
      ap (λ (k : ℕ). Listed k) (one_entry how.table (place_at kind block) i j how.on.table_is.told.spelled.valid
      (subst (λ (t : Table). slice_get t.places i ≡ Some (place_at kind block)) (the_table kind pack block small why.table how.table why.on how.on.table_is) why.listed) how.listed)
  same_fault Full Full is it why how e = refl
  same_fault (TooLong n) NoTable is it why how e = absurd (omega (arith, e))
  same_fault (TooLong n) Reserved is it why how e = absurd (omega (arith, e))
  same_fault (TooLong n) (Listed j) is it why how e = absurd (omega (arith, e))
  same_fault (TooLong n) Full is it why how e = absurd (omega (arith, e))
  same_fault (TooLong n) (Spare j) is it why how e = absurd (omega (arith, e))
  same_fault NoTable (TooLong m) is it why how e = absurd (omega (arith, e))
  same_fault NoTable Reserved is it why how e = absurd (omega (arith, e))
  same_fault NoTable (Listed j) is it why how e = absurd (omega (arith, e))
  same_fault NoTable Full is it why how e = absurd (omega (arith, e))
  same_fault NoTable (Spare j) is it why how e = absurd (omega (arith, e))
  same_fault Reserved (TooLong m) is it why how e = absurd (omega (arith, e))
  same_fault Reserved NoTable is it why how e = absurd (omega (arith, e))
  same_fault Reserved (Listed j) is it why how e = absurd (omega (arith, e))
  same_fault Reserved Full is it why how e = absurd (omega (arith, e))
  same_fault Reserved (Spare j) is it why how e = absurd (omega (arith, e))
  same_fault (Listed i) (TooLong m) is it why how e = absurd (omega (arith, e))
  same_fault (Listed i) NoTable is it why how e = absurd (omega (arith, e))
  same_fault (Listed i) Reserved is it why how e = absurd (omega (arith, e))
  same_fault (Listed i) Full is it why how e = absurd (omega (arith, e))
  same_fault (Listed i) (Spare j) is it why how e = absurd (omega (arith, e))
  same_fault Full (TooLong m) is it why how e = absurd (omega (arith, e))
  same_fault Full NoTable is it why how e = absurd (omega (arith, e))
  same_fault Full Reserved is it why how e = absurd (omega (arith, e))
  same_fault Full (Listed j) is it why how e = absurd (omega (arith, e))
  same_fault Full (Spare j) is it why how e = absurd (omega (arith, e))
  same_fault (Spare i) (TooLong m) is it why how e = absurd (omega (arith, e))
  same_fault (Spare i) NoTable is it why how e = absurd (omega (arith, e))
  same_fault (Spare i) Reserved is it why how e = absurd (omega (arith, e))
  same_fault (Spare i) (Listed j) is it why how e = absurd (omega (arith, e))
  same_fault (Spare i) Full is it why how e = absurd (omega (arith, e))
  same_fault Store g is it why how e = absurd is
  same_fault Sink g is it why how e = absurd is
  same_fault (TooLong n) Store is it why how e = absurd it
  same_fault (TooLong n) Sink is it why how e = absurd it
  same_fault NoTable Store is it why how e = absurd it
  same_fault NoTable Sink is it why how e = absurd it
  same_fault Reserved Store is it why how e = absurd it
  same_fault Reserved Sink is it why how e = absurd it
  same_fault (Listed i) Store is it why how e = absurd it
  same_fault (Listed i) Sink is it why how e = absurd it
  same_fault Full Store is it why how e = absurd it
  same_fault Full Sink is it why how e = absurd it
  same_fault (Spare i) Store is it why how e = absurd it
  same_fault (Spare i) Sink is it why how e = absurd it
  same_fault (Spare i) (Spare j) is it why how e =
      let one = the_table kind pack block small why.table how.table why.goes.on how.goes.on.table_is in
      let index : why.i ≡ how.i = one_index how.table why.new_table how.new_table (place_at kind block) why.i how.i
      (subst (λ (t : Table). Inserts t why.new_table (place_at kind block) why.i) one why.goes.inserted) how.goes.inserted in
      ap (λ (k : ℕ). Spare k) (first_one why.i how.i i j why.first.before how.first.before why.first.from how.first.from why.first.marked how.first.marked index)
    where
      first_one : (from other i j : ℕ) → AreFree kind pack from i → AreFree kind pack other j → from ≤ i → other ≤ j
          → is_marked pack (replacement_at kind i) ≡ true → is_marked pack (replacement_at kind j) ≡ true → from ≡ other → i ≡ j
      first_one from other i j before behind at there on here same =
          elim (cases_lt i j) [
            | inl lt ↦ absurd (true_false (sym on ∙ behind i (omega (arith, at, same)) lt))
            | inr ge ↦ elim (cases_lt j i) [
              | inl gt ↦ absurd (true_false (sym here ∙ before j (omega (arith, there, same)) gt))
              | inr le ↦ omega (arith, ge, le)
            ]
          ]

  pub once : (f g : ToolFault) → IsRefusal f → IsRefusal g → IsWhy kind pack block f → IsWhy kind pack block g → f ≡ g
  once f g is it why how =
      same_fault f g is it why how
      (same_rank kind pack block (rank_of f) (rank_of g) (comes kind pack block small f is why) (comes kind pack block small g it how) (few kind pack block small f) (few kind pack block small g))

  pub one_listing : (i j : ℕ) (old new other other_new : Table) → MayList kind pack block i old new → MayList kind pack block j other other_new → i ≡ j
  one_listing i j old new other other_new may again =
      one_index other new other_new (place_at kind block) i j
      (subst (λ (t : Table). Inserts t new (place_at kind block) i) (the_table kind pack block small old other may.goes.on again.goes.on.table_is) may.goes.inserted)
      again.goes.inserted
