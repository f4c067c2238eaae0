-- What a line of the text says, as it is played.
use Rattle.std.proofs.Common.{◌≡◌, ℕ, true, false, List, [], sym, ap, subst, ◌∙◌}
use Rattle.std.specs.Prelude.{Box}
use Rattle.std.specs.Box.{box_value}
use Rattle.std.specs.declared.alloc.Global.{Global}
use Rattle.script_lines.specs.declared.statement.Span.{Span}
use Rattle.hardware_table.specs.declared.NoiseSpan.{NoiseSpan}
use Rattle.script_lines.specs.declared.statement.Statement as Told
use Rattle.script_lines.specs.declared.statement.Statement.TheVariants as stated
use Rattle.script_lines.specs.declared.statement.Content.{Content}
use Rattle.script_lines.specs.declared.statement.Request.{Request as Asked}
use Rattle.script_reader.specs.Stored.{Kept, seen, digits_at}
use Rattle.script_lines.specs.Renamed.{renamed, content_by}
use Rattle.script_reader.specs.Meaning.{statement_of, written_of}
use Rattle.trace_replay.specs.requests.Requests.{Request}
use Rattle.trace_replay.specs.Script as says
use Rattle.trace_replay.specs.Script.{Statement, Plays}
use Rattle.hp_driver.specs.declared.drain.Event.{Event}
use Rattle.hp_driver.specs.declared.drain.Event.TheVariants as event
use Rattle.trace_replay.specs.declared.requests.request.Request as driver
use Rattle.hp_driver.specs.Inputs.{input_of}
use Rattle.hp_driver.specs.Subsystem.{State, IsThere, asked}
use Rattle.event_player.specs.Steps.{MayPlay}

pub asked_same : (request other : driver.Request) (bytes written : List ℕ) → request ≡ other → bytes ≡ written → asked request bytes ≡ asked other written
asked_same request other bytes written is same =
    ap (λ (q : driver.Request). asked q bytes) is ∙ ap (λ (xs : List ℕ). asked other xs) same

-- what is stored of a line, and what that says
pub stored_says : (text : List ℕ) (line : Kept) (st : Told.Statement Span (Box (List ℕ) Global)) → line.statement ≡ st
    → statement_of (seen text line).statement ≡ statement_of (renamed (digits_at text) box_value st)
stored_says text line st is = ap (λ (s : Told.Statement Span (Box (List ℕ) Global)). statement_of (renamed (digits_at text) box_value s)) is

-- A LINE that is an event
pub may_event : (e : Event) (state : State) (statement : Statement) → statement ≡ Plays (input_of e) → MayPlay state statement → IsThere state.world (input_of e)
may_event e state statement at may = by e (subst (MayPlay state) at may)
  where
    by : (e : Event) → MayPlay state (Plays (input_of e)) → IsThere state.world (input_of e)
    by (event.Arrive u) m = m
    by (event.Move a) m = m
    by (event.Attend a) m = m
    by (event.Turn u sector) m = m
    by (event.Noise u block noise span) m = m
    by (event.Fault u kind times) m = m
    by (event.Online u on) m = m
    by (event.Lock u on) m = m

-- WHAT EACH LINE that asks, arms noise or drains is played as
pub read_says : (text : List ℕ) (line : Kept) (r : Asked) (request : driver.Request) → line.statement ≡ stated.Read r
    → request ≡ record { id = r.id; unit = r.unit; part = r.part; block = r.block; count = r.count; write = false; offset = r.offset; last = r.last }
    → statement_of (seen text line).statement ≡ Plays (says.Submit (asked request []))
read_says text line r request at is =
    stored_says text line (stated.Read r) at ∙ ap (λ (q : Request). Plays (says.Submit q)) (sym (ap (λ (q : driver.Request). asked q []) is))

pub write_says : (text : List ℕ) (line : Kept) (r : Asked) (content : Content Span) (request : driver.Request) (bytes : List ℕ) → line.statement ≡ stated.Write r content
    → request ≡ record { id = r.id; unit = r.unit; part = r.part; block = r.block; count = r.count; write = true; offset = r.offset; last = r.last }
    → bytes ≡ written_of r (content_by (digits_at text) content)
    → statement_of (seen text line).statement ≡ Plays (says.Submit (asked request bytes))
write_says text line r content request bytes at is same =
    let other : driver.Request = record { id = r.id; unit = r.unit; part = r.part; block = r.block; count = r.count; write = true; offset = r.offset; last = r.last } in
    stored_says text line (stated.Write r content) at
    ∙ ap (λ (q : Request). Plays (says.Submit q)) (sym (asked_same request other bytes (written_of r (content_by (digits_at text) content)) is same))

pub noise_says : (text : List ℕ) (line : Kept) (u block : ℕ) (span : NoiseSpan) (places : Box (List ℕ) Global) (noise : List ℕ) → line.statement ≡ stated.Noise u block span places
    → noise ≡ box_value places → statement_of (seen text line).statement ≡ Plays (input_of (event.Noise u block noise span))
noise_says text line u block span places noise at is =
    stored_says text line (stated.Noise u block span places) at
    ∙ ap (λ (xs : List ℕ). Plays (says.Noise (record { unit = u; block = block; span = span; places = xs }))) (sym is)

pub drain_says : (text : List ℕ) (line : Kept) → line.statement ≡ stated.Drain → statement_of (seen text line).statement ≡ Plays says.Drain
drain_says text line at = stored_says text line stated.Drain at
