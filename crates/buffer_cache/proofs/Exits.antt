-- What the functions over one block owe, from what `ask_read` and `ask_write` promise.
use Rattle.std.proofs.Common.{◌≡◌, inl, inr, ℕ, ◌+◌, Bool, IsTrue, List, [], ◌∷◌, length, refl, sym, ◌∙◌, subst, arith}
use Rattle.std.specs.Prelude.{if◌then◌else◌, None, Some}
use Rattle.std.proofs.lemmas.Bool.Decides.{eqb_tells}
use Rattle.partitions.specs.declared.Part.TheVariants.{C}
use Rattle.partitions.specs.Partitions.{first_of}
use Rattle.trace_replay.specs.requests.Requests.{Request}
use Rattle.driver_laws.specs.rules.Machine.{blocks_done}
use Rattle.driver_laws.specs.rules.Sessions.{waited}
use Rattle.driver_laws.specs.rules.Rest.{HasTables}
use Rattle.blocking_io.specs.FrontsPasses.{Stage, setup_at, Answers, GoesOn, AnswersReach}
use Rattle.blocking_io.specs.Sites.{kind_at, map_at, left_map}
use Rattle.blocking_io.specs.Blocks.{blocks_reached, ReadsOnce, PutsBlocks, PutsFront}
use Rattle.blocking_io.proofs.FrontsBlocks.{plain, few_reached, read_once_of, puts_of}
use Rattle.blocking_io.proofs.Sites.{map_long}
use Rattle.driver_laws.specs.rules.Requests.{reads, writes, behind_one}
use Rattle.driver_laws.proofs.rules.Requested.{read_leaves}
use Rattle.buffer_cache.specs.Asks.{IsData, Asks, Fetches, LeftBy}
use Rattle.buffer_cache.proofs.Maps.{first_c, are_blocks, other_unit, write_one, stop_one, read_one}

-- ---- one request
asks_of : AnswersReach → (line : ℕ) (r : Request) (old new : Stage) (a : Answers line r old new) → (IsTrue new.packs_tell → HasTables (setup_at old) → map_at new ≡ behind_one (map_at old) r)
    → Asks line (r ∷ []) (plain old) (plain new)
asks_of law line r old new a leaves = record {
  waited_for = record { request = r; asked = a.asked; drained = a.drained } ∷ [];
  are = refl;
  goes = plain_goes (law line r old new a);
  others = λ t tables. record { sectors = λ unit sector kind declared below homeless. (a.mapped t tables).others unit sector homeless; stay = a.stays t };
  map = leaves;
}
  where
    plain_goes : GoesOn (waited line r a.asked a.drained) old new → GoesOn (waited line r a.asked a.drained) (plain old) (plain new)
    plain_goes g = record {
      trace = g.trace;
      setup = g.setup;
      stays = g.stays;
      tables = g.tables;
      long = g.long;
      reaches = λ t tables s q. record { session = (g.reaches t tables s q).session; stands = (g.reaches t tables s q).stands };
    }

-- ---- its block counts from the first one of the unit
from_none : (z block : ℕ) → z ≡ 0 → z + block ≡ block
from_none z block e = omega (arith, e)

module _ (line unit block : ℕ) (old new : Stage) (d : IsData old.world unit block) where
  here : first_of (kind_at old.world unit) C + block ≡ block
  here = from_none (first_of (kind_at old.world unit) C) block (first_c (kind_at old.world unit))

  -- a read
  once : (a : Answers line (reads unit block) old new) → IsTrue new.packs_tell → HasTables (setup_at old)
      → ReadsOnce (reads unit block) (blocks_reached new.given.reached 1) old.given.bytes new.given.bytes (plain old) (plain new)
  once a t tables = read_once_of (reads unit block) old d.unit_is (are_blocks old.world unit block None d) new a.asked a.drained (a.mapped t tables) (blocks_reached new.given.reached 1) refl refl

  pub fetches_of : AnswersReach → (found : Bool) → length old.given.bytes ≡ 512 → blocks_reached new.given.reached 1 ≡ (if found then 1 else 0) → Answers line (reads unit block) old new
      → Fetches line unit block found new.given.bytes (plain old) (plain new)
  fetches_of law found room e a = record {
    asks = asks_of law line (reads unit block) old new a (λ t tables. (once a t tables).same.map ∙ (λ i. λ u. λ b. sym (read_leaves (map_at old) unit block u b) i));
    told = λ t tables. read_one (map_at old unit) unit block (first_of (kind_at old.world unit) C + block) (blocks_reached new.given.reached 1) found old.given.bytes new.given.bytes here e room
        (λ bytes is. map_long (setup_at old) unit block bytes is) (once a t tables).reaches (once a t tables).all;
  }

  module _ (bytes : List ℕ) (long : length bytes ≡ 512) where
    -- a write
    put : (a : Answers line (writes unit block bytes) old new) → IsTrue new.packs_tell → HasTables (setup_at old)
        → PutsBlocks (writes unit block bytes) (blocks_reached new.given.reached 1) (plain old) (plain new)
    put a t tables = puts_of (writes unit block bytes) old d.unit_is (are_blocks old.world unit block (Some bytes) d) new a.asked a.drained (a.mapped t tables) (blocks_reached new.given.reached 1) refl

    put_leaves : PutsBlocks (writes unit block bytes) (blocks_reached new.given.reached 1) (plain old) (plain new) → (u b : ℕ) → map_at new u b ≡ behind_one (map_at old) (writes unit block bytes) u b
    put_leaves p u b = elim (eqb_tells u unit) [
      | inl same ↦ subst (λ z. map_at new z b ≡ behind_one (map_at old) (writes unit block bytes) z b) (sym same.1)
          (p.written b ∙ write_one (map_at old) unit block bytes long (first_of (kind_at old.world unit) C + block) (blocks_reached new.given.reached 1) here (few_reached new.given.reached 1) p.reaches b)
      | inr other ↦ p.map u b other.1 ∙ sym (other_unit u b unit block _ (map_at old u b) other.1)
    ]

    pub stores_of : AnswersReach → Answers line (writes unit block bytes) old new → Asks line (writes unit block bytes ∷ []) (plain old) (plain new)
    stores_of law a = asks_of law line (writes unit block bytes) old new a (λ t tables. λ i. λ u. λ b. put_leaves (put a t tables) u b i)

    -- and where that stopped
    pub front_leaves : PutsFront (writes unit block bytes) (plain old) (plain new) → LeftBy (writes unit block bytes) (plain old) (plain new)
    front_leaves f = record {
      map = elim (stop_one (map_at old) unit block bytes long (first_of (kind_at old.world unit) C + block) f.done here f.few f.usable) [
        | inl none ↦ inl (λ i. λ u. λ b. nothing none u b i)
        | inr all ↦ inr (λ i. λ u. λ b. whole all u b i)
      ];
      others = f.others;
    }
      where
        nothing : ((b : ℕ) → blocks_done (map_at old unit) (first_of (kind_at old.world unit) C + block) (writes unit block bytes) f.done b ≡ map_at old unit b) → (u b : ℕ) → left_map old new u b ≡ map_at old u b
        nothing none u b = elim (eqb_tells u unit) [
          | inl same ↦ subst (λ z. left_map old new z b ≡ map_at old z b) (sym same.1) (f.written b ∙ none b)
          | inr other ↦ f.map u b other.1
        ]

        whole : ((b : ℕ) → blocks_done (map_at old unit) (first_of (kind_at old.world unit) C + block) (writes unit block bytes) f.done b ≡ behind_one (map_at old) (writes unit block bytes) unit b) → (u b : ℕ) → left_map old new u b ≡ behind_one (map_at old) (writes unit block bytes) u b
        whole all u b = elim (eqb_tells u unit) [
          | inl same ↦ subst (λ z. left_map old new z b ≡ behind_one (map_at old) (writes unit block bytes) z b) (sym same.1) (f.written b ∙ all b)
          | inr other ↦ f.map u b other.1 ∙ sym (other_unit u b unit block _ (map_at old u b) other.1)
        ]
