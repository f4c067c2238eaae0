-- Requests one behind the other, up to one in which it stopped.
use Rattle.std.proofs.Common.{◌≡◌, ℕ, true, List, [], ◌∷◌, ◌++◌, Option, None, Some, refl, sym, ap, ◌∙◌, subst, append_assoc}
use Rattle.std.specs.Prelude.{Result, IsErrAnd}
use Rattle.std.proofs.lemmas.List.{map-append}
use Rattle.std.proofs.lemmas.Option.{none-some, same_Some}
use Rattle.trace_replay.specs.requests.Requests.{Request}
use Rattle.driver_laws.specs.declared.answers.outcome.Stop.{Stop}
use Rattle.driver_laws.specs.declared.rules.cached.Entry.{Entry}
use Rattle.driver_laws.specs.rules.Sessions.{Part}
use Rattle.driver_laws.specs.rules.Requests.{reads, writes}
use Rattle.driver_laws.specs.rules.Entries.{State, entry_of, if_changed, to_write_back, write_backs, written_back}
use Rattle.driver_laws.specs.rules.Calls.{read_by, read_done, read_found, write_by, write_done, write_found}
use Rattle.driver_laws.specs.rules.Contents.{bytes_or}
use Rattle.blocking_io.specs.FrontsPasses.{Stage, StillTell, Stops}
use Rattle.blocking_io.specs.Stopping.{StopsIn, begun}
use Rattle.blocking_io.proofs.FrontsBlocks.{plain}
use Rattle.blocking_io.proofs.Joined.{stops_join}
use Rattle.buffer_cache.specs.Asks.{requests_of, parts_of, Asks, AsksTill}
use Rattle.buffer_cache.specs.Calls.{fetch_asked, stop_of}
use Rattle.buffer_cache.specs.Views.{entry_at, entries_of}
use Rattle.buffer_cache.specs.declared.entry.Key.{Key}
use Rattle.buffer_cache.specs.declared.entry.Held.{Held}
use Rattle.buffer_cache.specs.declared.fault.CacheFault.{CacheFault}
use Rattle.buffer_cache.specs.declared.fault.CacheFault.TheVariants as fault
use Rattle.buffer_cache.proofs.Joins.{requests_more, parts_more, both}
use Rattle.buffer_cache.proofs.Turns.{Flushing, same_head, written_more}
use Rattle.buffer_cache.proofs.Wholes.{stop_is}

-- ---- ONE, with more behind it, or some before it
pub till_one : (stop : Stop) (line : ℕ) (r : Request) (old new : Stage) → Stops stop line r old new → AsksTill stop line (r ∷ []) (plain old) (plain new)
till_one stop line r old new s = record {
  waited_for = [];
  cut = r;
  asked = s.asked;
  drained = s.drained;
  later = [];
  are = refl;
  stops = record {
    trace = s.stops.trace;
    cut = λ t tables z q. record { session = (s.stops.cut t tables z q).session; packs = (s.stops.cut t tables z q).packs; long = (s.stops.cut t tables z q).long };
  };
}

pub till_more : (stop : Stop) (line : ℕ) (rs more : List Request) (old new : Stage) → AsksTill stop line rs old new → AsksTill stop line (rs ++ more) old new
till_more stop line rs more old new a = record {
  waited_for = a.waited_for;
  cut = a.cut;
  asked = a.asked;
  drained = a.drained;
  later = a.later ++ more;
  are = sym (append_assoc (requests_of a.waited_for) (a.cut ∷ a.later) more) ∙ ap (λ z. z ++ more) a.are;
  stops = a.stops;
}

pub till_behind : (stop : Stop) (line : ℕ) (rs qs : List Request) (old mid new : Stage) → Asks line rs old mid → AsksTill stop line qs mid new → StillTell mid new → AsksTill stop line (rs ++ qs) old new
till_behind stop line rs qs old mid new first next still =
    let last : List Part = begun line next.cut next.asked next.drained in
    record {
      waited_for = first.waited_for ++ next.waited_for;
      cut = next.cut;
      asked = next.asked;
      drained = next.drained;
      later = next.later;
      are = ap (λ z. z ++ next.cut ∷ next.later) (requests_more first.waited_for next.waited_for)
          ∙ append_assoc (requests_of first.waited_for) (requests_of next.waited_for) (next.cut ∷ next.later)
          ∙ both first.are next.are;
      stops = subst (λ ps. StopsIn stop ps old new)
          (sym (append_assoc (parts_of line first.waited_for) (parts_of line next.waited_for) last) ∙ ap (λ z. z ++ last) (sym (parts_more line first.waited_for next.waited_for)))
          (stops_join stop (parts_of line first.waited_for) (parts_of line next.waited_for ++ last) old mid new first.goes next.stops still);
    }

-- ---- what calls ask for
pub fetch_read : (held : Option (List ℕ)) (s : State) (unit block : ℕ) → fetch_asked held s unit block ≡ (read_found held true s unit block).asked
fetch_read None s unit block = refl
fetch_read (Some bytes) s unit block = refl

pub till_write : (stop : Stop) (line : ℕ) (held : Option (List ℕ)) (s : State) (unit block : ℕ) (from : List ℕ) (old new : Stage) → AsksTill stop line (fetch_asked held s unit block) old new
    → AsksTill stop line (write_found held true s unit block from).asked old new
till_write stop line None s unit block from old new a = a
till_write stop line (Some bytes) s unit block from old new a = till_more stop line (reads unit block ∷ write_backs (to_write_back s)) (writes unit block from ∷ []) old new a

pub read_asks : (s : State) (unit block : ℕ) (held : Option (List ℕ)) → entry_of unit block s.entries ≡ None
    → (read_found held true s unit block).asked ≡ (read_done (bytes_or (entry_of unit block s.entries) held) true s unit block).asked
read_asks s unit block held none = sym (ap (λ o. (read_by o (bytes_or o held) true s unit block).asked) none)

pub write_asks : (s : State) (unit block : ℕ) (from : List ℕ) (held : Option (List ℕ)) → entry_of unit block s.entries ≡ None
    → (write_found held true s unit block from).asked ≡ (write_done (bytes_or (entry_of unit block s.entries) held) true s unit block from).asked
write_asks s unit block from held none = sym (ap (λ o. (write_by o (bytes_or o held) true s unit block from).asked) none)

-- ---- A SYNC, at one of its entries
pub flush_till : (stop : Stop) (line : ℕ) (order : List (Key × ℕ)) (slots now : List Held) (old mid new : Stage) (p : Key × ℕ) (rest : List (Key × ℕ)) → Flushing line order slots now old mid (p ∷ rest)
    → AsksTill stop line (write_backs (if_changed (Some (entry_at now p)))) mid new → StillTell mid new → AsksTill stop line (written_back (entries_of order slots)) old new
flush_till stop line order slots now old mid new p rest f till still =
    let own : List Request = write_backs (if_changed (Some (entry_at slots p))) in
    let same : entry_at now p ≡ entry_at slots p = same_head f.left in
    subst (λ rs. AsksTill stop line rs old new)
    (append_assoc (written_back (entries_of f.done slots)) own (written_back (entries_of rest slots))
    ∙ sym (ap written_back (ap (λ z. entries_of z slots) f.all ∙ map-append (entry_at slots) f.done (p ∷ rest)) ∙ written_more (entries_of f.done slots) (entries_of (p ∷ rest) slots)))
    (till_more stop line (written_back (entries_of f.done slots) ++ own) (written_back (entries_of rest slots)) old new
    (till_behind stop line (written_back (entries_of f.done slots)) own old mid new f.asks
    (subst (λ (e : Entry). AsksTill stop line (write_backs (if_changed (Some e))) mid new) same till) still))

-- ---- what stopped a call
pub on_stopped : {A : Type 0} (Q : Stop → Type 0) (result : Result A CacheFault) (stop : Stop) → IsErrAnd result (λ x. x ≡ fault.Stop stop) → Q stop → (other : Stop) → stop_of result ≡ Some other → Q other
on_stopped Q result stop is holds other e = subst Q (same_Some stop other (sym (stop_is result stop is) ∙ e)) holds

pub no_stop : {A : Type 0} (stop : Stop) → None ≡ Some stop → A
no_stop stop e = absurd (none-some stop e)
