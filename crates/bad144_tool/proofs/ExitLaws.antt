-- What the exits of calls that may fail say.
use Rattle.std.proofs.Common.{◌≡◌, ◌≤◌, ◌<◌, ◌*◌, ◌+◌, ℕ, Bool, false, true, Option, None, Some, Result, Ok, Err, IsErr, refl, sym, subst, ◌∙◌, arith}
use Rattle.std.specs.Prelude.{IfErr, IfOk, IfSome, OnOk, IsErrAnd, IsErrOf, ok_or}
use borrow.Author.Count.{below_more}
use Rattle.pack_geometry.specs.declared.DriveKind.{DriveKind}
use Rattle.outside_traits.specs.Causes.{HasCause}
use Rattle.bad144_table.specs.declared.table.InsertFault.{InsertFault}
use Rattle.bad144_table.specs.declared.table.InsertFault.TheVariants as insert_fault
use Rattle.pack_geometry.specs.Geometry.{replacement_at}
use Rattle.pack_geometry.specs.Pack.{Pack, is_marked}
use Rattle.pack_geometry.specs.PackTable.{IsTableOf}
use Rattle.pack_geometry.specs.TableSpelling.{Table}
use Rattle.bad144_tool.specs.Adding.{AreFree, Before, Fits, HasNone, HasTable, IsFirstMarked}
use Rattle.bad144_tool.specs.Faults.{IsAddFault, IsCounted, IsFreshFault, IsListFault, IsMarkFault, IsSpareFault, IsWhy, Leaves, LeavesMarks, from_insert}
use Rattle.bad144_tool.specs.Marking as marking
use Rattle.bad144_tool.specs.declared.edit.AddWay.{AddWay}
use Rattle.bad144_tool.specs.declared.fault.ToolFault.{ToolFault}
use Rattle.bad144_tool.specs.declared.fault.ToolFault.TheVariants.{NoTable, Reserved, Spare, TooLong, Store, Sink}

no_error : false ≡ true → ⊥
no_error f = cc

-- what is said of a value says nothing of an error
pub no_value : {T E : Type 0} (result : Result T E) (P : T → Type 0) → IsErr result → IfOk result P
no_value (Ok v) P is = absurd (no_error is)
no_value (Err e) P is = tt

pub not_done : {T E : Type 0} (result : Result T E) (P : Type 0) → IsErr result → OnOk result P
not_done (Ok v) P is = absurd (no_error is)
not_done (Err e) P is = tt

-- a count that has not fallen, at an Ok
pub counted_ok : {T : Type 0} {fault : ToolFault} {before now : ℕ} (v : T) → before ≤ now → IsCounted fault before now (Ok v)
counted_ok {T} {fault} v later = record { later = later; rose = λ is. absurd (other v is) }
  where
    other : {T : Type 0} {fault : ToolFault} (v : T) → ◌≡◌ {A = Result T ToolFault} (Ok v) (Err fault) → ⊥
    other v is = cc

-- and where the call failed
pub counted_failed : {T U E : Type 0} {fault : ToolFault} {before now : ℕ} {e : E} {result : Result T ToolFault} → HasCause {T = U} {E = E} before now (Err e)
    → IsCounted fault before now result
counted_failed cause = record { later = cause.later; rose = λ _. cause.failed }

-- and where the error is another one
pub counted_other : {T : Type 0} {fault e : ToolFault} {before now : ℕ} (result : Result T ToolFault) → IsErrAnd result (λ x. x ≡ e) → (e ≡ fault → ⊥) → before ≤ now
    → IsCounted fault before now result
counted_other (Ok v) is other later = absurd is
counted_other {T} (Err x) is other later = record { later = later; rose = λ f. absurd (other (sym is ∙ one f)) }
  where
    one : {x y : ToolFault} → ◌≡◌ {A = Result T ToolFault} (Err x) (Err y) → x ≡ y
    one e = cc

-- and where an error was handed on
pub counted_on : {T U : Type 0} {fault e : ToolFault} {before now : ℕ} (result : Result T ToolFault) → IsErrAnd result (λ x. x ≡ e)
    → IsCounted {T = U} fault before now (Err e) → IsCounted fault before now result
counted_on (Ok v) is counted = absurd is
counted_on {T} {U} (Err x) is counted = record { later = counted.later; rose = λ f. counted.rose (one is f) }
  where
    one : {x y z : ToolFault} → x ≡ y → ◌≡◌ {A = Result T ToolFault} (Err x) (Err z) → ◌≡◌ {A = Result U ToolFault} (Err y) (Err z)
    one same e = cc

-- a count that had not fallen before
pub counted_then : {T : Type 0} {fault : ToolFault} {before mid now : ℕ} {result : Result T ToolFault} → before ≤ mid → IsCounted fault mid now result
    → IsCounted fault before now result
counted_then earlier counted = record { later = omega (arith, earlier, counted.later); rose = λ is. omega (arith, earlier, counted.rose is) }

-- the refusal of a place is a fault of `add`, and no failure
pub insert_is_add_fault : (kind : DriveKind) (f : InsertFault) → IsAddFault kind (from_insert f)
insert_is_add_fault kind insert_fault.Reserved = tt
insert_is_add_fault kind other = tt

pub insert_is_no_failure : (f : InsertFault) → from_insert f ≡ Store → ⊥
insert_is_no_failure insert_fault.Reserved is = cc
insert_is_no_failure other is = cc

pub spare_is_add_fault : (kind : DriveKind) (e : ToolFault) → IsSpareFault e → IsAddFault kind e
spare_is_add_fault kind (Spare j) is = tt
spare_is_add_fault kind Store is = tt
spare_is_add_fault kind other is = absurd is

-- the error is not this one
pub not_this : {T : Type 0} {e f : ToolFault} (result : Result T ToolFault) → IsErrAnd result (λ x. x ≡ e) → (e ≡ f → ⊥) → IsErrOf result f → ⊥
not_this (Ok v) is other f = is
not_this {T} {e} {f} (Err x) is other same = other (sym is ∙ one same)
  where
    one : ◌≡◌ {A = Result T ToolFault} (Err x) (Err f) → x ≡ f
    one e = cc

-- where the packs stay, a refusal and a failure leave what they may
pub leaves_same : (kind : DriveKind) (unit block : ℕ) (way : AddWay) (old new : ℕ → Pack) (f : ToolFault) → new ≡ old → Leaves kind unit block way old new f
leaves_same kind unit block way old new Store same = Before same
leaves_same kind unit block way old new other same = same

pub marks_same : (kind : DriveKind) (unit : ℕ) (old new : ℕ → Pack) (f : ToolFault) → new ≡ old → LeavesMarks kind unit old new f
marks_same kind unit old new Store same = marking.Before same
marks_same kind unit old new other same = same

-- the faults of one call are among those of another
pub fresh_is_mark_fault : (kind : DriveKind) (e : ToolFault) → IsFreshFault kind e → IsMarkFault kind e
fresh_is_mark_fault kind (TooLong n) is = is
fresh_is_mark_fault kind Store is = tt
fresh_is_mark_fault kind NoTable is = tt
fresh_is_mark_fault kind other is = absurd is

pub mark_is_add_fault : (kind : DriveKind) (e : ToolFault) → IsMarkFault kind e → IsAddFault kind e
mark_is_add_fault kind (TooLong n) is = is
mark_is_add_fault kind Store is = tt
mark_is_add_fault kind NoTable is = tt
mark_is_add_fault kind other is = absurd is

pub fresh_is_list_fault : (kind : DriveKind) (e : ToolFault) → IsFreshFault kind e → IsListFault kind e
fresh_is_list_fault kind (TooLong n) is = is
fresh_is_list_fault kind Store is = tt
fresh_is_list_fault kind Sink is = tt
fresh_is_list_fault kind other is = absurd is

-- why the length is refused is so of each block
pub why_length : (kind : DriveKind) (pack : Pack) (block : ℕ) (e : ToolFault) → IsFreshFault kind e → IsWhy kind pack 0 e → IsWhy kind pack block e
why_length kind pack block (TooLong n) is why = why
why_length kind pack block Store is why = tt
why_length kind pack block Sink is why = tt
why_length kind pack block other is why = absurd is

pub fresh_is_not_sink : (kind : DriveKind) (e : ToolFault) → IsFreshFault kind e → e ≡ Sink → ⊥
fresh_is_not_sink kind e is sink = subst (IsFreshFault kind) sink is

pub store_is_not_sink : Store ≡ Sink → ⊥
store_is_not_sink is = cc

pub none_is_not_store : NoTable ≡ Store → ⊥
none_is_not_store is = cc

-- what comes of an optional value of which None is an error
pub or_value : {T E : Type 0} (o : Option T) (f : E) (result : Result T E) (P : T → Type 0) → result ≡ ok_or o f → IfSome o P → IfOk result P
or_value {T} {E} None f result P is on = subst (λ (r : Result T E). IfOk r P) (sym is) tt
or_value {T} {E} (Some x) f result P is on = subst (λ (r : Result T E). IfOk r P) (sym is) on

pub or_error : {T E : Type 0} (o : Option T) (f : E) (result : Result T E) (P : E → Type 0) → result ≡ ok_or o f → (o ≡ None → P f) → IfErr result P
or_error {T} {E} None f result P is none = subst (λ (r : Result T E). IfErr r P) (sym is) (none refl)
or_error {T} {E} (Some x) f result P is none = subst (λ (r : Result T E). IfErr r P) (sym is) tt

pub has_table : (kind : DriveKind) (pack : Pack) (o : Option Table) {T : Type 0} → (T → Fits kind pack) → (T → IsTableOf kind pack o) → IfSome o (λ t. T → HasTable kind pack t)
has_table kind pack None fits is = tt
has_table kind pack (Some t) fits is = λ told. record { fits = fits told; table_is = is told }

pub has_none : (kind : DriveKind) (pack : Pack) (o : Option Table) → o ≡ None → Fits kind pack → IsTableOf kind pack o → HasNone kind pack
has_none kind pack o none fits is = record { fits = fits; none = subst (IsTableOf kind pack) none is }

pub counted_unless : {T : Type 0} {fault : ToolFault} {before now : ℕ} (result : Result T ToolFault) → IfErr result (λ x. x ≡ fault → ⊥) → before ≤ now
    → IsCounted fault before now result
counted_unless (Ok v) other later = counted_ok v later
counted_unless {T} {fault} (Err x) other later = record { later = later; rose = λ f. absurd (other (one f)) }
  where
    one : ◌≡◌ {A = Result T ToolFault} (Err x) (Err fault) → x ≡ fault
    one e = cc

pub counted_same : {T : Type 0} {fault e : ToolFault} {count : ℕ} (result : Result T ToolFault) → IsErrAnd result (λ x. x ≡ e) → (e ≡ fault → ⊥) → IsCounted fault count count result
counted_same result is other = counted_other result is other (omega arith)

pub sink_is_not_store : Sink ≡ Store → ⊥
sink_is_not_store is = cc

pub store_is_not_long : (n : ℕ) → Store ≡ TooLong n → ⊥
store_is_not_long n is = cc

pub ok_is_no_error : {T : Type 0} {v : T} {fault : ToolFault} → IsErrOf {T = T} (Ok v) fault → ⊥
ok_is_no_error is = cc

pub le_then : {a b c : ℕ} → a ≤ b → b ≤ c → a ≤ c
le_then first second = omega (arith, first, second)

-- an image whose length was read is no longer than its pack
pub fits_length : (n long blocks count all : ℕ) → n ≤ 512 * blocks → blocks ≡ count → count ≡ all → n ≡ long → long ≤ 512 * all
fits_length n long blocks count all within same is told = omega arith

pub longer : (n blocks count all : ℕ) → 512 * blocks < n → blocks ≡ count → count ≡ all → 512 * all < n
longer n blocks count all above same is = omega arith

pub long_is_not_store : (n : ℕ) → TooLong n ≡ Store → ⊥
long_is_not_store n is = cc

pub store_is_not_spare : (j : ℕ) → Store ≡ Spare j → ⊥
store_is_not_spare j is = cc

pub spare_is_not_store : (j : ℕ) → Spare j ≡ Store → ⊥
spare_is_not_store j is = cc

pub none_before : (kind : DriveKind) (pack : Pack) (i : ℕ) → AreFree kind pack i i
none_before kind pack i = λ k from to. absurd (omega arith)

-- one more replacement was looked at, and is unmarked
pub free_more : (kind : DriveKind) (unit i j n block : ℕ) (on : Bool) (old mid : ℕ → Pack) → mid ≡ old → n ≡ j → block ≡ replacement_at kind n
    → on ≡ is_marked (mid unit) block → on ≡ false → AreFree kind (old unit) i j → AreFree kind (old unit) i (j + 1)
free_more kind unit i j n block on old mid same number at told off free = λ k from to.
    below_more (λ k. i ≤ k → is_marked (old unit) (replacement_at kind k) ≡ false) j (λ k lt from. free k from lt) (λ _. here) k to from
  where
    here : is_marked (old unit) (replacement_at kind j) ≡ false
    here = cc

-- the first one that is marked
pub first_marked : (kind : DriveKind) (unit i end j n block named : ℕ) (on : Bool) (old mid : ℕ → Pack) → mid ≡ old → n ≡ j → block ≡ replacement_at kind n
    → on ≡ is_marked (mid unit) block → on ≡ true → i ≤ j → j < end → AreFree kind (old unit) i j → IsErrOf {T = Unit {0}} (Err (Spare j)) (Spare named)
    → IsFirstMarked kind (old unit) i end named
first_marked kind unit i end j n block named on old mid same number at told marked from to free is =
    subst (IsFirstMarked kind (old unit) i end) (one is) (record { from = from; to = to; before = free; marked = here })
  where
    here : is_marked (old unit) (replacement_at kind j) ≡ true
    here = cc

    one : IsErrOf {T = Unit {0}} (Err (Spare j)) (Spare named) → j ≡ named
    one e = cc
