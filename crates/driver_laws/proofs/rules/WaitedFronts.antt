-- A block that is an entry comes to the front.
use Rattle.std.proofs.Common.{◌≡◌, ℕ, ◌==◌, ◌&&◌, true, List, Option, None, Some, refl, sym, ap, ◌∙◌, subst, rules}
use Rattle.std.proofs.lemmas.Bool.{true≢false}
use Rattle.driver_laws.specs.rules.Requests.{Map}
use Rattle.driver_laws.specs.declared.rules.cached.Entry.{Entry}
use Rattle.driver_laws.specs.rules.Entries.{is_of, entry_of, in_front, rewritten}
use Rattle.driver_laws.specs.rules.Contents.{cached, Fits, AllFit, replaced}
use Rattle.driver_laws.proofs.rules.Lookups.{IsKey, tells, is_key, at_own, at_other, found_key, found_all, others_all, front_look}

-- ---- the entry that was found is found by the block itself
there : (unit block u b : ℕ) (entries : List Entry) (e : Entry) → entry_of unit block entries ≡ Some e → IsKey u b e → entry_of u b entries ≡ Some e
there unit block u b entries e is key =
    let mine : IsKey unit block e = is_key unit block e (found_key unit block entries e is) in
    subst (λ z. entry_of z b entries ≡ Some e) (mine.unit_is ∙ sym key.unit_is) (subst (λ z. entry_of unit z entries ≡ Some e) (mine.block_is ∙ sym key.block_is) is)

pub front_contents : (map : Map) (unit block : ℕ) (entries : List Entry) (u b : ℕ) → cached (in_front (entry_of unit block entries) entries) map u b ≡ cached entries map u b
front_contents map unit block entries u b = search (rules, tells, at_own, there, at_other, front_look)

pub front_fit : (map : Map) (unit block : ℕ) (entries : List Entry) → AllFit map entries → AllFit map (in_front (entry_of unit block entries) entries)
front_fit map unit block entries all = by (entry_of unit block entries) refl
  where
    by : (o : Option Entry) → entry_of unit block entries ≡ o → AllFit map (in_front o entries)
    by None is = all
    by (Some e) is = (found_all (Fits map) unit block entries e all is, others_all (Fits map) e.unit e.block entries all)

-- ---- and a write changes it
same_test : (unit block u b : ℕ) (e : Entry) → IsKey unit block e → (u == unit) && (b == block) ≡ is_of u b e
same_test unit block u b e key = ap (λ n. (u == n) && (b == block)) key.unit_is ∙ ap (λ n. (u == e.unit) && (b == n)) key.block_is

pub change_contents : (map : Map) (unit block : ℕ) (from : List ℕ) (entries : List Entry) (e : Entry) → entry_of unit block entries ≡ Some e → (u b : ℕ)
    → cached (in_front (rewritten from (Some e)) entries) map u b ≡ replaced true unit block from (cached entries map) u b
change_contents map unit block from entries e is u b = search (rules, tells, at_own, same_test, at_other, front_look, is_key, found_key)

pub change_fit : (map : Map) (unit block : ℕ) (from : List ℕ) (entries : List Entry) (e : Entry) → entry_of unit block entries ≡ Some e → AllFit map entries
    → AllFit map (in_front (rewritten from (Some e)) entries)
change_fit map unit block from entries e is all = (
  record { usable = (found_all (Fits map) unit block entries e all is).usable; same = λ never. absurd (true≢false never) },
  others_all (Fits map) e.unit e.block entries all,
)
