-- What the reader keeps of the lines before.
use Rattle.std.specs.Prelude.{◌≡◌, ◌+◌, ◌||◌, ◌&&◌, nat_le, nat_lt, ℕ, Bool, true, false, not, Option, None, Some, slice_index_or}
use Rattle.std.specs.Ordering.{nat_cmp}
use Rattle.std.specs.BTreeSet.{contains}
use Rattle.script_lines.specs.declared.known.Known.{Known as Kept}
use Rattle.script_lines.specs.declared.statement.Statement.{Statement}
use Rattle.script_lines.specs.Known.{Known, verb_of, kind_after, has_id, declares, requests, strikes}

-- one, where it is so
abbrev pub one : Bool → ℕ
one true = 1
one false = 0

-- what is known
abbrev pub known_in : Kept → Known
known_in kept = record {
  kinds = λ u. slice_index_or kept.kinds u None;
  used = λ id. (nat_le kept.low id && nat_lt id kept.next) || contains nat_cmp kept.ids id;
  later = kept.later;
  requests = kept.requests;
  noises = kept.noises;
}

-- what is known after a statement
pub record Learns {D N : Type 0} (old new : Known) (statement : Statement D N) : Type 0 where
  pub kinds : (u : ℕ) → new.kinds u ≡ kind_after u statement (old.kinds u)
  pub used : (id : ℕ) → new.used id ≡ old.used id || has_id id statement
  pub later : new.later ≡ old.later || not (declares (verb_of statement))
  pub requests : new.requests ≡ old.requests + one (requests (verb_of statement))
  pub noises : new.noises ≡ old.noises + one (strikes (verb_of statement))

-- what is known after a line, which may say nothing
abbrev pub LearnsFrom : {D N : Type 0} → Option (Statement D N) → Known → Known → Type 0
LearnsFrom None old new = new ≡ old
LearnsFrom (Some statement) old new = Learns old new statement
