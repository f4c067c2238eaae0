-- Calls of the cache, one behind the other: the cache and the sessions behind them.
use Rattle.std.proofs.Common.{◌≡◌, ℕ, zero, suc, ◌+◌, ◌==◌, Bool, true, false, IsTrue, List, [], ◌∷◌, ◌++◌, Option, None, Some, refl, sym, ap, ◌∙◌, subst, arith, append-nil, append_assoc}
use Rattle.std.specs.Prelude.{map, IsSome, if◌then◌else◌, ◌&&◌}
use Rattle.std.proofs.lemmas.Bool.{eqb-true}
use Rattle.std.proofs.lemmas.List.{map-append}
use Rattle.pack_geometry.specs.declared.DriveKind.{DriveKind}
use Rattle.trace_replay.specs.requests.Requests.{Request}
use Rattle.trace_replay.specs.Script.{Submit, Drain, Numbered}
use Rattle.driver_laws.specs.rules.Sessions.{Part, waited}
use Rattle.driver_laws.specs.rules.Rest.{HasTables}
use Rattle.driver_laws.specs.declared.rules.cached.Entry.{Entry}
use Rattle.driver_laws.specs.rules.Requests.{Map, one_block, reads, writes, written_over, behind_one}
use Rattle.driver_laws.specs.rules.Entries.{State, entry_of}
use Rattle.driver_laws.specs.rules.Calls.{Done, read_found, read_by, read_done, write_found, write_by, write_done}
use Rattle.driver_laws.specs.rules.Contents.{bytes_or, cached, Fits, AllFit, replaced}
use Rattle.driver_laws.proofs.rules.Lookups.{IsKey, is_key, found_key, found_all}
use Rattle.driver_laws.proofs.rules.Requested.{read_leaves}
use Rattle.driver_laws.specs.declared.answers.outcome.Stop.{Stop}
use Rattle.buffer_cache.specs.Asks.{Waited, requests_of, parts_of, Asks, AsksTill}
use Rattle.buffer_cache.specs.Calls.{Reads, Writes, Syncs}
use Rattle.buffer_cache.specs.Passes.{Stage, StillTell, GoesOn, StopsIn, begun, setup_at, map_at}
use Rattle.buffer_cache.proofs.Passes.{others_none, sessions_join, stops_join}
use Rattle.cached_run.specs.Answers.{map_by, map_of_inputs}
use Rattle.cached_run.specs.Sessions.{calls_at, calls_for, block_done, call_done, map_behind, maps_behind, Call, called, lined, asked_by, cache_behind, Session, requests_in, parts_in}
use Rattle.cached_run.specs.Going.{syncs_at}
use Rattle.cached_run.specs.Leaving.{IsCalled, IsCutIn, touches}
use Rattle.cached_run.proofs.Replacings.{same_map}
use Rattle.cached_run.proofs.Numbers.{next_along, next_over, none_before, with_none}

-- ---- MORE of them
maps_more : (m : Map) (xs ys : List Numbered) → maps_behind m (xs ++ ys) ≡ maps_behind (maps_behind m xs) ys
maps_more m [] ys = refl
maps_more m (x ∷ xs) ys = maps_more (map_behind m x.input) xs ys

cache_more : (m : Map) (s : State) (xs ys : List Call) → cache_behind m s (xs ++ ys) ≡ cache_behind (maps_behind m (called xs)) (cache_behind m s xs) ys
cache_more m s [] ys = refl
cache_more m s (x ∷ xs) ys = cache_more (map_behind m x.at.input) (call_done m x.refuses s x.at.input).state xs ys

asked_more : (m : Map) (s : State) (xs ys : List Call) → asked_by m s (xs ++ ys) ≡ asked_by m s xs ++ asked_by (maps_behind m (called xs)) (cache_behind m s xs) ys
asked_more m s [] ys = refl
asked_more m s (x ∷ xs) ys =
    let own : List Numbered = lined x.at.line (call_done m x.refuses s x.at.input).asked in
    let next : Map = map_behind m x.at.input in
    let left : State = (call_done m x.refuses s x.at.input).state in
    ap (λ z. own ++ z) (asked_more next left xs ys)
    ∙ sym (append_assoc own (asked_by next left xs) (asked_by (maps_behind next (called xs)) (cache_behind next left xs) ys))

parts_more : (xs ys : List Session) → parts_in (xs ++ ys) ≡ parts_in xs ++ parts_in ys
parts_more [] ys = refl
parts_more (x ∷ xs) ys =
    ap (λ z. waited x.line x.request x.asked x.drained ++ z) (parts_more xs ys)
    ∙ sym (append_assoc (waited x.line x.request x.asked x.drained) (parts_in xs) (parts_in ys))

both : {A : Type 0} {a b c d : List A} → a ≡ b → c ≡ d → a ++ c ≡ b ++ d
both {A} {a} {b} {c} {d} e f = ap (λ z. z ++ c) e ∙ ap (λ z. b ++ z) f

pub calls_more : (drives : ℕ → Option DriveKind) (m : Map) (xs ys : List Numbered) → calls_for drives m (xs ++ ys) ≡ calls_for drives m xs ++ calls_for drives (map_of_inputs drives m xs) ys
calls_more drives m [] ys = refl
calls_more drives m (x ∷ xs) ys =
    let next : Map = map_by drives m x.input in
    ap (λ z. calls_at drives m x.line x.input ++ z) (calls_more drives next xs ys)
    ∙ sym (append_assoc (calls_at drives m x.line x.input) (calls_for drives next xs) (calls_for drives (map_of_inputs drives next xs) ys))

pub touches_more : (n m line unit first : ℕ) (written : Option (List ℕ)) → touches (n + m) line unit first written ≡ touches n line unit first written ++ touches m line unit (first + n) written
touches_more zero m line unit first written = ap (λ z. touches z line unit first written) (none_before m) ∙ ap (λ z. touches m line unit z written) (with_none first)
touches_more (suc n) m line unit first written =
    ap (λ z. touches z line unit first written) (next_over n m)
    ∙ ap (λ z. record { line = line; input = Submit (one_block unit first written) } ∷ z)
    (touches_more n m line unit (first + 1) written ∙ ap (λ z. touches n line unit (first + 1) written ++ touches m line unit z written) (next_along first n))

-- ---- NONE, and some behind others
pub called_none : (s : State) (here : Stage) → IsCalled [] s s here here
called_none s here = record {
  calls = [];
  are = refl;
  state = refl;
  contents = λ u b. refl;
  sessions = [];
  requests = refl;
  goes = record {
    trace = λ t. sym (append-nil here.taken);
    setup = refl;
    stays = λ t. (others_none (setup_at here)).stay;
    long = λ t tables replay stands unit. refl;
    tables = λ t tables. tables;
    reaches = λ t tables replay stands. record { session = tt; stands = stands };
  };
}

pub called_then : (xs ys : List Numbered) (s s' s'' : State) (old mid new : Stage) → StillTell mid new → IsCalled xs s s' old mid → IsCalled ys s' s'' mid new → IsCalled (xs ++ ys) s s'' old new
called_then xs ys s s' s'' old mid new still one other =
    let first : Map = cached s.entries (map_at old) in
    let mid_map : Map = cached s'.entries (map_at mid) in
    let map_is : mid_map ≡ maps_behind first xs = same_map mid_map (maps_behind first xs) one.contents in
    let map_called : mid_map ≡ maps_behind first (called one.calls) = map_is ∙ ap (maps_behind first) (sym one.are) in
    record {
      calls = one.calls ++ other.calls;
      are = map-append (λ (c : Call). c.at) one.calls other.calls ∙ both one.are other.are;
      state = other.state
          ∙ ap (λ (m : Map). cache_behind m s' other.calls) map_called
          ∙ ap (λ (z : State). cache_behind (maps_behind first (called one.calls)) z other.calls) one.state
          ∙ sym (cache_more first s one.calls other.calls);
      contents = λ u b. other.contents u b ∙ ap (λ (m : Map). maps_behind m ys u b) map_is ∙ ap (λ (m : Map). m u b) (sym (maps_more first xs ys));
      sessions = one.sessions ++ other.sessions;
      requests = map-append (λ (z : Session). record { line = z.line; input = Submit z.request }) one.sessions other.sessions
          ∙ both one.requests (other.requests
          ∙ ap (λ (m : Map). asked_by m s' other.calls) map_called
          ∙ ap (λ (z : State). asked_by (maps_behind first (called one.calls)) z other.calls) one.state)
          ∙ sym (asked_more first s one.calls other.calls);
      goes = subst (λ ps. GoesOn ps old new) (sym (parts_more one.sessions other.sessions))
          (sessions_join (parts_in one.sessions) (parts_in other.sessions) old mid new one.goes other.goes still);
    }

-- ---- ONE CALL: its requests are sessions at its line
abbrev sessions_at : ℕ → List Waited → List Session
sessions_at line ws = map (λ (w : Waited). record { line = line; request = w.request; asked = w.asked; drained = w.drained }) ws

sessions_ask : (line : ℕ) (ws : List Waited) → requests_in (sessions_at line ws) ≡ lined line (requests_of ws)
sessions_ask line [] = refl
sessions_ask line (w ∷ ws) = ap (λ z. record { line = line; input = Submit w.request } ∷ z) (sessions_ask line ws)

sessions_tell : (line : ℕ) (ws : List Waited) → parts_in (sessions_at line ws) ≡ parts_of line ws
sessions_tell line [] = refl
sessions_tell line (w ∷ ws) = ap (λ z. waited line w.request w.asked w.drained ++ z) (sessions_tell line ws)

called_one : (c : Call) (requests : List Request) (s s' : State) (old new : Stage) → Asks c.at.line requests old new
    → requests ≡ (call_done (cached s.entries (map_at old)) c.refuses s c.at.input).asked → s' ≡ (call_done (cached s.entries (map_at old)) c.refuses s c.at.input).state
    → ((u b : ℕ) → cached s'.entries (map_at new) u b ≡ map_behind (cached s.entries (map_at old)) c.at.input u b) → IsCalled (c.at ∷ []) s s' old new
called_one c requests s s' old new asks are state contents = record {
  calls = c ∷ [];
  are = refl;
  state = state;
  contents = contents;
  sessions = sessions_at c.at.line asks.waited_for;
  requests = sessions_ask c.at.line asks.waited_for ∙ ap (lined c.at.line) (asks.are ∙ are)
      ∙ sym (append-nil (lined c.at.line (call_done (cached s.entries (map_at old)) c.refuses s c.at.input).asked));
  goes = subst (λ ps. GoesOn ps old new) (sym (sessions_tell c.at.line asks.waited_for)) asks.goes;
}

-- ---- what is cached of a block that can be used, or can't
pub absent : {bytes : List ℕ} {A : Type 0} → Some bytes ≡ None → A
absent e = absurd (cc)

pub cached_some : (entries : List Entry) (m : Map) (u b : ℕ) → IsSome (m u b) → IsSome (cached entries m u b)
cached_some entries m u b some = by (entry_of u b entries)
  where
    by : (o : Option Entry) → IsSome (bytes_or o (m u b))
    by None = some
    by (Some e) = refl

unusable : (held : Option (List ℕ)) → held ≡ None → IsSome held → ⊥
unusable None none some = search arith
unusable (Some bytes) none some = cc

pub cached_none : (entries : List Entry) (m : Map) (u b : ℕ) → AllFit m entries → m u b ≡ None → cached entries m u b ≡ None
cached_none entries m u b fit none = by (entry_of u b entries) refl
  where
    by : (o : Option Entry) → entry_of u b entries ≡ o → bytes_or o (m u b) ≡ None
    by None is = none
    by (Some e) is =
        let key : IsKey u b e = is_key u b e (found_key u b entries e is) in
        absurd (unusable (m u b) none (subst (λ z. IsSome (m z b)) (sym key.unit_is) (subst (λ z. IsSome (m e.unit z)) (sym key.block_is) (found_all (Fits m) u b entries e fit is).usable)))

-- ---- A READ: what its block was found to hold is what is cached
found_given : (held : Option (List ℕ)) (refuses : Bool) (s : State) (unit block : ℕ) → (read_found held refuses s unit block).given ≡ held
found_given None refuses s unit block = refl
found_given (Some bytes) refuses s unit block = refl

read_as : (o : Option Entry) (held content given : Option (List ℕ)) (refuses : Bool) (s : State) (unit block : ℕ) → given ≡ (read_by o held refuses s unit block).given → given ≡ bytes_or o content
    → read_by o held refuses s unit block ≡ read_by o (bytes_or o content) refuses s unit block
read_as (Some e) held content given refuses s unit block gives is = refl
read_as None held content given refuses s unit block gives is = ap (λ h. read_found h refuses s unit block) (sym (found_given held refuses s unit block) ∙ sym gives ∙ is)

pub called_read : (line unit block : ℕ) (given : Option (List ℕ)) (s s' : State) (old new : Stage) → Reads line unit block given s s' old new → IsTrue new.packs_tell → HasTables (setup_at old)
    → AllFit (map_at old) s.entries → IsCalled (record { line = line; input = Submit (reads unit block) } ∷ []) s s' old new
called_read line unit block given s s' old new r t tables fit =
    let told = r.told t tables fit in
    let same : read_done r.held r.refuses s unit block ≡ read_done (cached s.entries (map_at old) unit block) r.refuses s unit block =
    read_as (entry_of unit block s.entries) r.held (map_at old unit block) given r.refuses s unit block r.gives told.content in
    called_one (record { at = record { line = line; input = Submit (reads unit block) }; refuses = r.refuses }) (read_done r.held r.refuses s unit block).asked s s' old new r.asks
    (ap (λ (d : Done). d.asked) same) (r.state ∙ ap (λ (d : Done). d.state) same)
    (λ u b. told.contents u b ∙ sym (read_leaves (cached s.entries (map_at old)) unit block u b))

-- ---- A WRITE
write_as : (o : Option Entry) (held content : Option (List ℕ)) (done refuses : Bool) (s : State) (unit block : ℕ) (from : List ℕ)
    → (if done then Some from else None) ≡ (write_by o held refuses s unit block from).given → (done ≡ true → IsSome content) → (done ≡ false → content ≡ None)
    → write_by o held refuses s unit block from ≡ write_by o (bytes_or o content) refuses s unit block from
write_as (Some e) held content done refuses s unit block from gives some none = refl
write_as None None content true refuses s unit block from gives some none = absent gives
write_as None None content false refuses s unit block from gives some none = ap (λ h. write_found h refuses s unit block from) (sym (none refl))
write_as None (Some bytes) content false refuses s unit block from gives some none = absent (sym gives)
write_as None (Some bytes) None true refuses s unit block from gives some none = absurd (unusable None refl (some refl))
write_as None (Some bytes) (Some other) true refuses s unit block from gives some none = refl

over_some : (from : List ℕ) (held : Option (List ℕ)) → IsSome held → written_over (Some from) held ≡ Some from
over_some from None some = absurd (unusable None refl some)
over_some from (Some bytes) some = refl

over_none : (from : List ℕ) (held : Option (List ℕ)) → held ≡ None → written_over (Some from) held ≡ held
over_none from None none = refl
over_none from (Some bytes) none = absent none

both_true : (a b : Bool) → a && b ≡ true → (a ≡ true) × (b ≡ true)
both_true true true e = (refl, refl)
both_true true false e = absurd (cc)
both_true false b e = absurd (cc)

write_behind : (m : Map) (unit block : ℕ) (from : List ℕ) (done : Bool) → (done ≡ true → IsSome (m unit block)) → (done ≡ false → m unit block ≡ None) → (u b : ℕ)
    → replaced done unit block from m u b ≡ behind_one m (writes unit block from) u b
write_behind m unit block from done some none u b = by done ((u == unit) && (b == block)) refl some none
  where
    here : (u == unit) && (b == block) ≡ true → m u b ≡ m unit block
    here e = ap (λ z. m z b) (eqb-true u unit (both_true (u == unit) (b == block) e).0) ∙ ap (λ z. m unit z) (eqb-true b block (both_true (u == unit) (b == block) e).1)

    by : (d own : Bool) → (u == unit) && (b == block) ≡ own → (d ≡ true → IsSome (m unit block)) → (d ≡ false → m unit block ≡ None)
        → (if d && own then Some from else m u b) ≡ (if own then written_over (Some from) (m u b) else m u b)
    by true true e some none = sym (over_some from (m u b) (subst IsSome (sym (here e)) (some refl)))
    by false true e some none = sym (over_none from (m u b) (here e ∙ none refl))
    by true false e some none = refl
    by false false e some none = refl

pub called_write : (line unit block : ℕ) (done : Bool) (from : List ℕ) (s s' : State) (old new : Stage) → Writes line unit block done from s s' old new → IsTrue new.packs_tell → HasTables (setup_at old)
    → AllFit (map_at old) s.entries → IsCalled (record { line = line; input = Submit (writes unit block from) } ∷ []) s s' old new
called_write line unit block done from s s' old new w t tables fit =
    let told = w.told t tables fit in
    let same : write_done w.held w.refuses s unit block from ≡ write_done (cached s.entries (map_at old) unit block) w.refuses s unit block from =
    write_as (entry_of unit block s.entries) w.held (map_at old unit block) done w.refuses s unit block from w.gives told.usable told.unusable in
    called_one (record { at = record { line = line; input = Submit (writes unit block from) }; refuses = w.refuses }) (write_done w.held w.refuses s unit block from).asked s s' old new w.asks
    (ap (λ (d : Done). d.asked) same) (w.state ∙ ap (λ (d : Done). d.state) same)
    (λ u b. told.contents u b ∙ write_behind (cached s.entries (map_at old)) unit block from done
    (λ e. cached_some s.entries (map_at old) unit block (told.usable e)) (λ e. cached_none s.entries (map_at old) unit block fit (told.unusable e)) u b)

-- one block more
pub touched_one : (k line unit first : ℕ) (written : Option (List ℕ)) (s s' s'' : State) (old mid new : Stage) → StillTell mid new → IsCalled (touches k line unit first written) s s' old mid
    → IsCalled (record { line = line; input = Submit (one_block unit (first + k) written) } ∷ []) s' s'' mid new → IsCalled (touches (k + 1) line unit first written) s s'' old new
touched_one k line unit first written s s' s'' old mid new still so_far one =
    subst (λ z. IsCalled z s s'' old new) (sym (touches_more k 1 line unit first written))
    (called_then (touches k line unit first written) (record { line = line; input = Submit (one_block unit (first + k) written) } ∷ []) s s' s'' old mid new still so_far one)

-- ---- A SYNC
pub called_sync : (line : ℕ) (s s' : State) (old new : Stage) → Syncs line s s' old new → ((u b : ℕ) → cached s'.entries (map_at new) u b ≡ cached s.entries (map_at old) u b)
    → IsCalled (syncs_at line) s s' old new
called_sync line s s' old new syncs contents =
    called_one (record { at = record { line = line; input = Drain }; refuses = false }) _ s s' old new syncs.asks refl syncs.state contents

-- ---- OR IT STOPPED in one
both_parts : (xs ys : List Session) (ps : List Part) → parts_in xs ++ (parts_in ys ++ ps) ≡ parts_in (xs ++ ys) ++ ps
both_parts xs ys ps = sym (append_assoc (parts_in xs) (parts_in ys) ps) ∙ ap (λ z. z ++ ps) (sym (parts_more xs ys))

-- in the first one of some
pub cut_one : (stop : Stop) (c : Call) (rest : List Numbered) (requests : List Request) (s : State) (old new : Stage) → AsksTill stop c.at.line requests old new
    → requests ≡ (call_done (cached s.entries (map_at old)) c.refuses s c.at.input).asked → IsCutIn stop [] (c.at ∷ rest) s old new
cut_one stop c rest requests s old new a are =
    let line : ℕ = c.at.line in
    let with_line : Request → Numbered = λ r. record { line = line; input = Submit r } in
    record {
      cut = record {
        done = [];
        under = c;
        of_own = [];
        rest = rest;
        are = refl;
        next = refl;
        sessions = [];
        last = sessions_at line a.waited_for;
        request = a.cut;
        asked = a.asked;
        drained = a.drained;
        later = lined line a.later;
        all = refl;
        some = ap (λ z. z ++ with_line a.cut ∷ lined line a.later) (sessions_ask line a.waited_for)
            ∙ sym (map-append with_line (requests_of a.waited_for) (a.cut ∷ a.later))
            ∙ ap (lined line) (a.are ∙ are)
            ∙ sym (append-nil (lined line (call_done (cached s.entries (map_at old)) c.refuses s c.at.input).asked));
      };
      stops = subst (λ ps. StopsIn stop (ps ++ begun line a.cut a.asked a.drained) old new) (sym (sessions_tell line a.waited_for)) a.stops;
    }

-- behind others,
pub cut_behind : (stop : Stop) (xs own : List Numbered) (s s' : State) (old mid new : Stage) → StillTell mid new → IsCalled xs s s' old mid → IsCutIn stop [] own s' mid new → IsCutIn stop xs own s old new
cut_behind stop xs own s s' old mid new still one c =
    let first : Map = cached s.entries (map_at old) in
    let mid_map : Map = cached s'.entries (map_at mid) in
    let map_called : mid_map ≡ maps_behind first (called one.calls) = same_map mid_map (maps_behind first xs) one.contents ∙ ap (maps_behind first) (sym one.are) in
    let cut = c.cut in
    let own_parts : List Part = parts_in cut.last ++ begun cut.under.at.line cut.request cut.asked cut.drained in
    record {
      cut = record {
        done = one.calls ++ cut.done;
        under = cut.under;
        of_own = cut.of_own;
        rest = cut.rest;
        are = map-append (λ (z : Call). z.at) one.calls cut.done ∙ both one.are cut.are;
        next = cut.next;
        sessions = one.sessions ++ cut.sessions;
        last = cut.last;
        request = cut.request;
        asked = cut.asked;
        drained = cut.drained;
        later = cut.later;
        all = map-append (λ (z : Session). record { line = z.line; input = Submit z.request }) one.sessions cut.sessions
            ∙ both one.requests (cut.all
            ∙ ap (λ (m : Map). asked_by m s' cut.done) map_called
            ∙ ap (λ (z : State). asked_by (maps_behind first (called one.calls)) z cut.done) one.state)
            ∙ sym (asked_more first s one.calls cut.done);
        some = cut.some
            ∙ ap (λ (m : Map). asked_by (maps_behind m (called cut.done)) (cache_behind m s' cut.done) (cut.under ∷ [])) map_called
            ∙ ap (λ (z : State). asked_by (maps_behind (maps_behind first (called one.calls)) (called cut.done)) (cache_behind (maps_behind first (called one.calls)) z cut.done) (cut.under ∷ [])) one.state
            ∙ ap (λ (m : Map). asked_by m (cache_behind (maps_behind first (called one.calls)) (cache_behind first s one.calls) cut.done) (cut.under ∷ [])) (sym (maps_more first (called one.calls) (called cut.done)))
            ∙ ap (λ (z : State). asked_by (maps_behind first (called one.calls ++ called cut.done)) z (cut.under ∷ [])) (sym (cache_more first s one.calls cut.done))
            ∙ ap (λ z. asked_by (maps_behind first z) (cache_behind first s (one.calls ++ cut.done)) (cut.under ∷ [])) (sym (map-append (λ (z : Call). z.at) one.calls cut.done));
      };
      stops = subst (λ ps. StopsIn stop ps old new) (both_parts one.sessions cut.sessions own_parts)
          (stops_join stop (parts_in one.sessions) (parts_in cut.sessions ++ own_parts) old mid new one.goes c.stops still);
    }

-- and with these among its own
pub cut_own : (stop : Stop) (xs own all : List Numbered) (s : State) (old new : Stage) → all ≡ xs ++ own → IsCutIn stop xs own s old new → IsCutIn stop [] all s old new
cut_own stop xs own all s old new is c =
    let cut = c.cut in
    record {
      cut = record {
        done = cut.done;
        under = cut.under;
        of_own = xs ++ cut.of_own;
        rest = cut.rest;
        are = cut.are;
        next = is ∙ ap (λ z. xs ++ z) cut.next ∙ sym (append_assoc xs cut.of_own (cut.under.at ∷ cut.rest));
        sessions = cut.sessions;
        last = cut.last;
        request = cut.request;
        asked = cut.asked;
        drained = cut.drained;
        later = cut.later;
        all = cut.all;
        some = cut.some;
      };
      stops = c.stops;
    }

-- at one of some blocks
pub touched_till : (stop : Stop) (k more line unit first n : ℕ) (written : Option (List ℕ)) (s s' : State) (old mid new : Stage) → n ≡ k + suc more → StillTell mid new
    → IsCalled (touches k line unit first written) s s' old mid
    → AsksTill stop line (block_done written (cached s'.entries (map_at mid) unit (first + k)) true s' unit (first + k)).asked mid new → IsCutIn stop [] (touches n line unit first written) s old new
touched_till stop k more line unit first n written s s' old mid new is still so_far till =
    let here : Numbered = record { line = line; input = Submit (one_block unit (first + k) written) } in
    let rest : List Numbered = touches more line unit ((first + k) + 1) written in
    cut_own stop (touches k line unit first written) (here ∷ rest) (touches n line unit first written) s old new
    (ap (λ z. touches z line unit first written) is ∙ touches_more k (suc more) line unit first written)
    (cut_behind stop (touches k line unit first written) (here ∷ rest) s s' old mid new still so_far
    (cut_one stop (record { at = here; refuses = true }) rest (block_done written (cached s'.entries (map_at mid) unit (first + k)) true s' unit (first + k)).asked s' mid new till refl))
