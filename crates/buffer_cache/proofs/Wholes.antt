-- What a read or a write of a block comes to that is no entry, and of one that is.
use Rattle.std.proofs.Common.{◌≡◌, ℕ, Bool, true, false, IsTrue, List, [], ◌∷◌, Option, None, Some, sym, ap, ◌∙◌, subst}
use Rattle.std.specs.Prelude.{if◌then◌else◌, Result, Ok, Err, IsErrAnd}
use Rattle.std.proofs.lemmas.Option.{none-some}
use Rattle.driver_laws.specs.declared.answers.outcome.Stop.{Stop}
use Rattle.driver_laws.specs.rules.Rest.{HasTables}
use Rattle.buffer_cache.specs.Passes.{Stage, setup_at, StillTell, SessionsJoin, map_at}
use Rattle.driver_laws.specs.declared.rules.cached.Entry.{Entry}
use Rattle.driver_laws.specs.rules.Requests.{Map, reads, writes, behind}
use Rattle.driver_laws.specs.rules.Entries.{State, IsCache, entry_of, in_front, rewritten, fronted, changed_in_front, to_write_back, put, write_backs}
use Rattle.driver_laws.specs.rules.Calls.{Done, entry, read_by, read_done, write_by, write_done}
use Rattle.driver_laws.specs.rules.Contents.{AreOne}
use Rattle.driver_laws.specs.rules.CachedLaws.{ReadKeeps, WriteKeeps, ReadLeavesOne, WriteLeavesOne}
use Rattle.driver_laws.proofs.rules.Ones.{each_found, none_one, last_one, own_one}
use Rattle.driver_laws.proofs.rules.Requested.{read_same}
use Rattle.buffer_cache.specs.Asks.{Asks, LeftBy}
use Rattle.buffer_cache.proofs.Joins.{asks_none, asks_join}
use Rattle.buffer_cache.specs.declared.fault.CacheFault.{CacheFault}
use Rattle.buffer_cache.specs.declared.fault.CacheFault.TheVariants as fault
use Rattle.buffer_cache.specs.Calls.{IfTold, Fetched, Placed, Reads, Writes, Holds, stop_of}
use Rattle.buffer_cache.specs.Views.{bytes_over}
use Rattle.buffer_cache.proofs.Stays.{reads_of, writes_of, holds_asked, holds_left}

-- ---- what a call comes to where the block is no entry, and where it is
read_of_new : (held : Option (List ℕ)) (refuses : Bool) (s : State) (unit block : ℕ) → entry_of unit block s.entries ≡ None → read_done held refuses s unit block ≡ read_by None held refuses s unit block
read_of_new held refuses s unit block none = ap (λ o. read_by o held refuses s unit block) none

write_of_new : (held : Option (List ℕ)) (refuses : Bool) (s : State) (unit block : ℕ) (from : List ℕ) → entry_of unit block s.entries ≡ None → write_done held refuses s unit block from ≡ write_by None held refuses s unit block from
write_of_new held refuses s unit block from none = ap (λ o. write_by o held refuses s unit block from) none

read_of_entry : (s : State) (unit block : ℕ) (e : Entry) → entry_of unit block s.entries ≡ Some e → read_done None false s unit block ≡ read_by (Some e) None false s unit block
read_of_entry s unit block e is = ap (λ o. read_by o None false s unit block) is

write_of_entry : (s : State) (unit block : ℕ) (from : List ℕ) (e : Entry) → entry_of unit block s.entries ≡ Some e → write_done None false s unit block from ≡ write_by (Some e) None false s unit block from
write_of_entry s unit block from e is = ap (λ o. write_by o None false s unit block from) is

never : {e : Entry} {A : Type 0} → None ≡ Some e → A
never e = absurd (cc)

-- ---- A READ. It can't be used,
pub read_unusable : ReadKeeps → (line unit block : ℕ) (into : List ℕ) (s s' : State) (old new : Stage) → IsCache s → entry_of unit block s.entries ≡ None → Fetched line unit block false into s s' old new
    → Reads line unit block None s s' old new
read_unusable law line unit block into s s' old new is none f =
    let same = read_of_new None false s unit block none in
    reads_of law line unit block None false None s s' old new is (f.state ∙ sym (ap (λ (d : Done). d.state) same)) (sym (ap (λ (d : Done). d.given) same))
    (subst (λ (d : Done). Asks line d.asked old new) (sym same) f.asks) (λ t tables. λ no. sym (f.told t tables))

-- or it can, and is put in front.
pub read_usable : ReadKeeps → (line unit block : ℕ) (into : List ℕ) (refuses : Bool) (s s' s'' : State) (old new : Stage) → IsCache s → entry_of unit block s.entries ≡ None → Fetched line unit block true into s s' old new
    → s'' ≡ put refuses (entry unit block into false) s' → Reads line unit block (Some into) s s'' old new
read_usable law line unit block into refuses s s' s'' old new is none f state =
    let same = read_of_new (Some into) refuses s unit block none in
    reads_of law line unit block (Some into) refuses (Some into) s s'' old new is
    (state ∙ ap (put refuses (entry unit block into false)) f.state ∙ sym (ap (λ (d : Done). d.state) same)) (sym (ap (λ (d : Done). d.given) same))
    (subst (λ (d : Done). Asks line d.asked old new) (sym same) f.asks) (λ t tables. λ no. sym (f.told t tables))

-- One that is an entry is given, and nothing is asked.
pub read_entry : ReadKeeps → (line unit block : ℕ) (into into' : List ℕ) (e : Entry) (s s' : State) (here : Stage) → IsCache s → entry_of unit block s.entries ≡ Some e
    → s' ≡ fronted unit block s → into' ≡ bytes_over (entry_of unit block s.entries) into → Reads line unit block (Some into') s s' here here
read_entry law line unit block into into' e s s' here is some state bytes =
    let same = read_of_entry s unit block e some in
    reads_of law line unit block None false (Some into') s s' here here is (state ∙ sym (ap (λ (d : Done). d.state) same))
    (ap (λ z. Some z) (bytes ∙ ap (λ o. bytes_over o into) some) ∙ sym (ap (λ (d : Done). d.given) same))
    (subst (λ (d : Done). Asks line d.asked here here) (sym same) (asks_none line here)) (λ t tables. λ none. never (sym none ∙ some))

-- ---- A WRITE
pub write_unusable : WriteKeeps → (line unit block : ℕ) (from into : List ℕ) (s s' : State) (old new : Stage) → IsCache s → entry_of unit block s.entries ≡ None → Fetched line unit block false into s s' old new
    → Writes line unit block false from s s' old new
write_unusable law line unit block from into s s' old new is none f =
    let same = write_of_new None false s unit block from none in
    writes_of law line unit block from None false false s s' old new is (f.state ∙ sym (ap (λ (d : Done). d.state) same)) (sym (ap (λ (d : Done). d.given) same))
    (subst (λ (d : Done). Asks line d.asked old new) (sym same) f.asks) (λ t tables. λ no. sym (f.told t tables))

pub write_usable : WriteKeeps → SessionsJoin → (line unit block : ℕ) (from into : List ℕ) (s s' s'' : State) (old mid new : Stage) → IsCache s → entry_of unit block s.entries ≡ None
    → Fetched line unit block true into s s' old mid → Placed line unit block from s' s'' mid new → StillTell mid new → Writes line unit block true from s s'' old new
write_usable law join line unit block from into s s' s'' old mid new is none f p still =
    let same = write_of_new (Some into) p.refuses s unit block from none in
    writes_of law line unit block from (Some into) p.refuses true s s'' old new is
    (p.state ∙ ap (put p.refuses (entry unit block from true)) f.state ∙ sym (ap (λ (d : Done). d.state) same)) (sym (ap (λ (d : Done). d.given) same))
    (subst (λ (d : Done). Asks line d.asked old new) (sym same)
    (asks_join join line (reads unit block ∷ write_backs (to_write_back s)) (if p.refuses then writes unit block from ∷ [] else []) old mid new f.asks p.asks still))
    (λ t tables. λ no. sym (f.told (still.packs t) tables))

pub write_entry : WriteKeeps → (line unit block : ℕ) (from : List ℕ) (e : Entry) (s s' : State) (here : Stage) → IsCache s → entry_of unit block s.entries ≡ Some e → s' ≡ changed_in_front unit block from s
    → Writes line unit block true from s s' here here
write_entry law line unit block from e s s' here is some state =
    let same = write_of_entry s unit block from e some in
    writes_of law line unit block from None false true s s' here here is (state ∙ sym (ap (λ (d : Done). d.state) same)) (sym (ap (λ (d : Done). d.given) same))
    (subst (λ (d : Done). Asks line d.asked here here) (sym same) (asks_none line here)) (λ t tables. λ none. never (sym none ∙ some))

-- ---- ONE OF THREE, where nothing stopped it
pub holds_read : ReadLeavesOne → (line unit block : ℕ) (given : Option (List ℕ)) (s s' : State) (old new : Stage) → IsCache s → Reads line unit block given s s' old new → IfTold s old new (Holds unit block None s old new)
holds_read law line unit block given s s' old new is r t tables fit =
    holds_asked line (read_done r.held r.refuses s unit block).asked unit block None s old new r.asks (law (map_at old) s unit block r.held r.refuses is) t tables

pub holds_write : WriteLeavesOne → (line unit block : ℕ) (done : Bool) (from : List ℕ) (s s' : State) (old new : Stage) → IsCache s → Writes line unit block done from s s' old new
    → IfTold s old new (Holds unit block (Some from) s old new)
holds_write law line unit block done from s s' old new is w t tables fit =
    holds_asked line (write_done w.held w.refuses s unit block from).asked unit block (Some from) s old new w.asks (law (map_at old) s unit block from w.held w.refuses is) t tables

-- and where the last request of a write did
fetched_one : (map : Map) (unit block : ℕ) (from : List ℕ) (s : State) → IsCache s → AreOne map s.entries unit block (Some from) (behind map (reads unit block ∷ write_backs (to_write_back s)))
fetched_one map unit block from s is =
    subst (λ z. AreOne map s.entries unit block (Some from) (behind z (write_backs (to_write_back s)))) (sym (read_same map unit block))
    (last_one map s.entries unit block (Some from) map s (each_found s.entries is.apart) (none_one map s.entries unit block (Some from)))

pub holds_stored : (line unit block : ℕ) (from into : List ℕ) (s s' : State) (old mid new : Stage) → IsCache s → Fetched line unit block true into s s' old mid → (IsTrue new.packs_tell → IsTrue mid.packs_tell)
    → (IsTrue new.packs_tell → HasTables (setup_at mid) → LeftBy (writes unit block from) mid new) → IfTold s old new (Holds unit block (Some from) s old new)
holds_stored line unit block from into s s' old mid new is f still left t tables fit =
    let before = fetched_one (map_at old) unit block from s is in
    holds_left line (reads unit block ∷ write_backs (to_write_back s)) (writes unit block from) unit block (Some from) s old mid new f.asks before (own_one (map_at old) s.entries unit block from _ before) still left t tables

-- ---- a block that is no entry leaves the cache as it is
pub not_fronted : (unit block : ℕ) (s : State) → entry_of unit block s.entries ≡ None → fronted unit block s ≡ s
not_fronted unit block s none = ap (λ o. record s { entries = in_front o s.entries }) none

pub not_changed : (unit block : ℕ) (from : List ℕ) (s : State) → entry_of unit block s.entries ≡ None → changed_in_front unit block from s ≡ s
not_changed unit block from s none = ap (λ o. record s { entries = in_front (rewritten from o) s.entries }) none

-- ---- what stopped a call
pub stop_is : {A : Type 0} (result : Result A CacheFault) (stop : Stop) → IsErrAnd result (λ x. x ≡ fault.Stop stop) → stop_of result ≡ Some stop
stop_is (Ok value) stop is = absurd is
stop_is (Err other) stop is = ap (λ (x : CacheFault). stop_of {A = Unit {0}} (Err x)) is

pub never_stopped : {A B : Type 0} (result : Result A CacheFault) (stop : Stop) → IsErrAnd result (λ x. x ≡ fault.Stop stop) → stop_of result ≡ None → B
never_stopped result stop is none = absurd (none-some stop (sym none ∙ stop_is result stop is))
