-- Every changed entry is written back.
use Rattle.std.proofs.Common.{◌≡◌, inl, inr, ℕ, Bool, true, false, List, [], ◌∷◌, None, Some, refl, sym, ap, ◌∙◌, subst, rules}
use Rattle.std.specs.Prelude.{map, if◌then◌else◌, IsSome}
use Rattle.std.specs.List.{AllByRecursion}
use Rattle.driver_laws.specs.rules.Requests.{Map, writes, behind_one, behind}
use Rattle.driver_laws.proofs.rules.Requested.{behind_more}
use Rattle.driver_laws.specs.declared.rules.cached.Entry.{Entry}
use Rattle.driver_laws.specs.rules.Entries.{is_of, entry_of, AreApart, unchanged, write_backs, written_back}
use Rattle.driver_laws.specs.rules.Contents.{bytes_or, cached, AllFit}
use Rattle.driver_laws.proofs.rules.Lookups.{IsKey, tells, at_own, at_other, none_misses, other_way}
use Rattle.driver_laws.proofs.rules.Rooms.{at_key, write_own, write_other, keeps_fit}
use Rattle.driver_laws.proofs.rules.Ones.{IsFound, each_found}

-- ---- the packs hold the cached contents then
write_back_one : (held : Map) (e : Entry) (entries : List Entry) → AreApart (e ∷ entries) → AllFit held (e ∷ entries) → (changed : Bool) → e.changed ≡ changed
    → (AllFit (behind held (write_backs (if changed then Some e else None))) entries)
    × ((u b : ℕ) → cached entries (behind held (write_backs (if changed then Some e else None))) u b ≡ cached (e ∷ entries) held u b)
write_back_one held e entries apart fit false not = search rules
write_back_one held e entries apart fit true is = (
  keeps_fit held e entries (away entries (none_misses e.unit e.block entries apart.0)) fit.1,
  λ u b. elim (tells u b e) [
    | inl key ↦ ap (λ z. bytes_or z (behind_one held (writes e.unit e.block e.bytes) u b)) (none u b key) ∙ write_own held e u b key.is (subst IsSome (sym (at_key held u b e key)) fit.0.usable)
        ∙ sym (ap (λ z. bytes_or z (held u b)) (at_own u b e entries key.is))
    | inr other ↦ ap (λ z. bytes_or (entry_of u b entries) z) (write_other held e u b other) ∙ sym (ap (λ z. bytes_or z (held u b)) (at_other u b e entries other))
  ],
)
  where
    none : (u b : ℕ) → IsKey u b e → entry_of u b entries ≡ None
    none u b key = subst (λ z. entry_of z b entries ≡ None) (sym key.unit_is) (subst (λ z. entry_of e.unit z entries ≡ None) (sym key.block_is) apart.0)

    away : (xs : List Entry) → AllByRecursion (λ x. is_of e.unit e.block x ≡ false) xs → AllByRecursion (λ x. is_of x.unit x.block e ≡ false) xs
    away [] all = tt
    away (x ∷ xs) all = (other_way e x all.0, away xs all.1)

pub flush_contents : (held : Map) (entries : List Entry) → AreApart entries → AllFit held entries → (u b : ℕ) → behind held (written_back entries) u b ≡ cached entries held u b
flush_contents held [] apart fit u b = refl
flush_contents held (e ∷ entries) apart fit u b =
    let one = write_back_one held e entries apart fit (e.changed) refl in
    ap (λ m. m u b) (behind_more held (write_backs (if e.changed then Some e else None)) (written_back entries))
    ∙ flush_contents (behind held (write_backs (if e.changed then Some e else None))) entries apart.1 one.0 u b ∙ one.1 u b

-- and the entries are as the packs have them
unchanged_fit : (next : Map) (entries : List Entry) → AllByRecursion (λ x. next x.unit x.block ≡ Some x.bytes) entries → AllFit next (map unchanged entries)
unchanged_fit next [] all = tt
unchanged_fit next (x ∷ xs) all = (record { usable = subst IsSome (sym all.0) refl; same = λ e. all.0 }, unchanged_fit next xs all.1)

pub flush_fit : (held next : Map) (entries : List Entry) → AreApart entries → ((u b : ℕ) → next u b ≡ cached entries held u b) → AllFit next (map unchanged entries)
flush_fit held next entries apart same = unchanged_fit next entries (each entries (each_found entries apart))
  where
    each : (xs : List Entry) → AllByRecursion (IsFound entries) xs → AllByRecursion (λ x. next x.unit x.block ≡ Some x.bytes) xs
    each [] all = tt
    each (x ∷ xs) all = (same x.unit x.block ∙ ap (λ z. bytes_or z (held x.unit x.block)) all.0, each xs all.1)
