-- WHAT THE CALLS OF THE CACHE COME TO: the cache after each call, and the requests that the call makes. `held` is what a block
-- without an entry was found to hold, or none if the block cannot be used. `refuses` says whether memory refused the insertion, and
-- no clause ties it to anything.
use Rattle.std.specs.Prelude.{ℕ, Bool, true, false, if◌then◌else◌, List, [], ◌∷◌, ◌++◌, Option, None, Some}
use Rattle.trace_replay.specs.requests.Requests.{Request}
use Rattle.driver_laws.specs.rules.Requests.{reads, writes}
use Rattle.driver_laws.specs.declared.rules.cached.Entry.{Entry}
use Rattle.driver_laws.specs.rules.Entries.{State, entry_of, fronted, changed_in_front, to_write_back, with_room, put, write_backs}

-- the cache behind a call, the requests that it made in their order, and the block's bytes, or none where it can't be used
pub record Done : Type 0 where
  pub state : State
  pub asked : List Request
  pub given : Option (List ℕ)

abbrev pub entry : (unit block : ℕ) → List ℕ → (changed : Bool) → Entry
entry unit block bytes changed = record { unit = unit; block = block; bytes = bytes; changed = changed }

-- READ
abbrev pub read_found : Option (List ℕ) → (refuses : Bool) → State → (unit block : ℕ) → Done
read_found None refuses s unit block = record { state = s; asked = reads unit block ∷ []; given = None }
read_found (Some bytes) refuses s unit block = record {
  state = put refuses (entry unit block bytes false) (with_room s);
  asked = reads unit block ∷ write_backs (to_write_back s);
  given = Some bytes;
}

abbrev pub read_by : Option Entry → Option (List ℕ) → (refuses : Bool) → State → (unit block : ℕ) → Done
read_by (Some e) held refuses s unit block = record { state = fronted unit block s; asked = []; given = Some e.bytes }
read_by None held refuses s unit block = read_found held refuses s unit block

abbrev pub read_done : (held : Option (List ℕ)) → (refuses : Bool) → State → (unit block : ℕ) → Done
read_done held refuses s unit block = read_by (entry_of unit block s.entries) held refuses s unit block

-- WRITE
abbrev pub write_found : Option (List ℕ) → (refuses : Bool) → State → (unit block : ℕ) → List ℕ → Done
write_found None refuses s unit block from = record { state = s; asked = reads unit block ∷ []; given = None }
write_found (Some bytes) refuses s unit block from = record {
  state = put refuses (entry unit block from true) (with_room s);
  asked = reads unit block ∷ (write_backs (to_write_back s) ++ (if refuses then writes unit block from ∷ [] else []));
  given = Some from;
}

abbrev pub write_by : Option Entry → Option (List ℕ) → (refuses : Bool) → State → (unit block : ℕ) → List ℕ → Done
write_by (Some e) held refuses s unit block from = record { state = changed_in_front unit block from s; asked = []; given = Some from }
write_by None held refuses s unit block from = write_found held refuses s unit block from

abbrev pub write_done : (held : Option (List ℕ)) → (refuses : Bool) → State → (unit block : ℕ) → List ℕ → Done
write_done held refuses s unit block from = write_by (entry_of unit block s.entries) held refuses s unit block from
