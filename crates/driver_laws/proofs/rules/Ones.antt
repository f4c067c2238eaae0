-- After any answer each block holds what it held, or what was cached, or what was to be written.
use Rattle.std.proofs.Common.{◌≡◌, inl, ℕ, zero, suc, Bool, true, false, List, [], ◌∷◌, ◌++◌, Option, None, Some, refl, sym, ap, ◌∙◌, subst, rules}
use Rattle.std.specs.Prelude.{if◌then◌else◌, slice_get}
use Rattle.std.specs.List.{AllByRecursion}
use Rattle.std.proofs.lemmas.Option.{none-some, same_Some}
use Rattle.driver_laws.specs.rules.Requests.{Map, writes, behind_one, behind}
use Rattle.driver_laws.specs.declared.rules.cached.Entry.{Entry}
use Rattle.driver_laws.specs.rules.Entries.{State, IsCache, is_of, entry_of, AreApart, to_write_back, write_backs, written_back}
use Rattle.driver_laws.specs.rules.Calls.{read_by, read_done, write_by, write_done}
use Rattle.driver_laws.specs.rules.Contents.{AreOne}
use Rattle.driver_laws.proofs.rules.Requested.{read_same, behind_more}
use Rattle.driver_laws.proofs.rules.Lookups.{own_key, at_own, at_other, none_misses, other_way}

-- ---- each entry is that of its block
abbrev pub IsFound : List Entry → Entry → Type 0
IsFound entries x = entry_of x.unit x.block entries ≡ Some x

found_more : (e : Entry) (entries xs : List Entry) → AllByRecursion (λ x. is_of e.unit e.block x ≡ false) xs → AllByRecursion (IsFound entries) xs → AllByRecursion (IsFound (e ∷ entries)) xs
found_more e entries [] away all = tt
found_more e entries (x ∷ xs) away all = (at_other x.unit x.block e entries (other_way e x away.0) ∙ all.0, found_more e entries xs away.1 all.1)

pub each_found : (entries : List Entry) → AreApart entries → AllByRecursion (IsFound entries) entries
each_found [] apart = tt
each_found (e ∷ entries) apart = (
  at_own e.unit e.block e entries (own_key e),
  found_more e entries entries (none_misses e.unit e.block entries apart.0) (each_found entries apart.1),
)

-- the last one too
get_all : (P : Entry → Type 0) (entries : List Entry) (k : ℕ) (x : Entry) → AllByRecursion P entries → slice_get entries k ≡ Some x → P x
get_all P [] k x all is = absurd (none-some x is)
get_all P (e ∷ entries) zero x all is = subst P (same_Some e x is) all.0
get_all P (e ∷ entries) (suc k) x all is = get_all P entries k x all.1 is

pub back_all : (P : Entry → Type 0) (s : State) (x : Entry) → AllByRecursion P s.entries → to_write_back s ≡ Some x → P x
back_all P s x all is = search (rules, none-some, same_Some, get_all)

-- ---- ONE OF THESE: a block that is written has what it had, where it can't be used, or these bytes
module _ (map : Map) (entries : List Entry) (unit block : ℕ) (from : Option (List ℕ)) where
  -- an entry is written back
  pub back_one : (now : Map) (x : Entry) → IsFound entries x → AreOne map entries unit block from now → AreOne map entries unit block from (behind_one now (writes x.unit x.block x.bytes))
  back_one now x found one u b = search rules

  pub backs_one : (now : Map) (xs : List Entry) → AllByRecursion (IsFound entries) xs → AreOne map entries unit block from now → AreOne map entries unit block from (behind now (written_back xs))
  backs_one now [] found one = one
  backs_one now (x ∷ xs) found one = by (x.changed) (λ next. backs_one next xs found.1)
    where
      by : (changed : Bool) → ((next : Map) → AreOne map entries unit block from next → AreOne map entries unit block from (behind next (written_back xs)))
          → AreOne map entries unit block from (behind now (write_backs (if changed then Some x else None) ++ written_back xs))
      by false rest = rest now one
      by true rest = rest (behind_one now (writes x.unit x.block x.bytes)) (back_one now x found.0 one)

  pub last_one : (now : Map) (s : State) → AllByRecursion (IsFound entries) s.entries → AreOne map entries unit block from now → AreOne map entries unit block from (behind now (write_backs (to_write_back s)))
  last_one now s found one = by (to_write_back s) refl
    where
      by : (w : Option Entry) → to_write_back s ≡ w → AreOne map entries unit block from (behind now (write_backs w))
      by None is = one
      by (Some x) is = back_one now x (back_all (IsFound entries) s x found is) one

-- the block itself is written
pub own_one : (map : Map) (entries : List Entry) (unit block : ℕ) (from : List ℕ) (now : Map) → AreOne map entries unit block (Some from) now → AreOne map entries unit block (Some from) (behind_one now (writes unit block from))
own_one map entries unit block from now one u b = search rules

pub none_one : (map : Map) (entries : List Entry) (unit block : ℕ) (from : Option (List ℕ)) → AreOne map entries unit block from map
none_one map entries unit block from u b = inl refl

-- ---- the requests of a call
module _ (map : Map) (s : State) (unit block : ℕ) (is : IsCache s) where
  abbrev Back : Map
  Back = behind map (write_backs (to_write_back s))

  back_of : (from : Option (List ℕ)) → AreOne map s.entries unit block from Back
  back_of from = last_one map s.entries unit block from map s (each_found s.entries is.apart) (none_one map s.entries unit block from)

  pub reads_one : (held : Option (List ℕ)) (refuses : Bool) → AreOne map s.entries unit block None (behind map (read_done held refuses s unit block).asked)
  reads_one held refuses = by (entry_of unit block s.entries) held
    where
      by : (o : Option Entry) (held : Option (List ℕ)) → AreOne map s.entries unit block None (behind map (read_by o held refuses s unit block).asked)
      by (Some e) held = none_one map s.entries unit block None
      by None None = subst (AreOne map s.entries unit block None) (sym (read_same map unit block)) (none_one map s.entries unit block None)
      by None (Some bytes) = subst (λ z. AreOne map s.entries unit block None (behind z (write_backs (to_write_back s)))) (sym (read_same map unit block)) (back_of None)

  pub writes_one : (from : List ℕ) (held : Option (List ℕ)) (refuses : Bool) → AreOne map s.entries unit block (Some from) (behind map (write_done held refuses s unit block from).asked)
  writes_one from held refuses = by (entry_of unit block s.entries) held refuses
    where
      by : (o : Option Entry) (held : Option (List ℕ)) (refuses : Bool) → AreOne map s.entries unit block (Some from) (behind map (write_by o held refuses s unit block from).asked)
      by (Some e) held refuses = none_one map s.entries unit block (Some from)
      by None None refuses = subst (AreOne map s.entries unit block (Some from)) (sym (read_same map unit block)) (none_one map s.entries unit block (Some from))
      by None (Some bytes) false = subst (AreOne map s.entries unit block (Some from))
          (sym (ap (λ z. behind z (write_backs (to_write_back s) ++ [])) (read_same map unit block) ∙ behind_more map (write_backs (to_write_back s)) [])) (back_of (Some from))
      by None (Some bytes) true = subst (AreOne map s.entries unit block (Some from))
          (sym (ap (λ z. behind z (write_backs (to_write_back s) ++ writes unit block from ∷ [])) (read_same map unit block) ∙ behind_more map (write_backs (to_write_back s)) (writes unit block from ∷ [])))
          (own_one map s.entries unit block from Back (back_of (Some from)))

  pub syncs_one : AreOne map s.entries unit block None (behind map (written_back s.entries))
  syncs_one = backs_one map s.entries unit block None map s.entries (each_found s.entries is.apart) (none_one map s.entries unit block None)
