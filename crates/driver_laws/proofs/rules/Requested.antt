-- What requests leave in a map.
use Rattle.std.proofs.Common.{◌≡◌, ℕ, List, [], ◌∷◌, ◌++◌, refl, rules}
use Rattle.trace_replay.specs.requests.Requests.{Request}
use Rattle.driver_laws.specs.rules.Requests.{reads, Map, behind_one, behind}

-- ---- a read leaves it
pub read_leaves : (map : Map) (unit block u b : ℕ) → behind_one map (reads unit block) u b ≡ map u b
read_leaves map unit block u b = search rules

pub read_same : (map : Map) (unit block : ℕ) → behind_one map (reads unit block) ≡ map
read_same map unit block = λ i. λ u. λ b. read_leaves map unit block u b i

-- ---- some requests, and some more
pub behind_more : (map : Map) (rs qs : List Request) → behind map (rs ++ qs) ≡ behind (behind map rs) qs
behind_more map [] qs = refl
behind_more map (r ∷ rs) qs = behind_more (behind_one map r) rs qs
