-- What a row that breaks one rule alone keeps: all others; docs/trace-rows/rows.py writes this.
use Rattle.std.specs.Prelude.{replicate}
use Rattle.hardware_table.specs.declared.Moved.TheVariants.{Clean, Marked}
use Rattle.trace_replay.specs.requests.Requests.{ReadOk}
use Rattle.trace_replay.specs.Moments.{Search, Sector, Attn, End, Told}
use Rattle.trace_replay.specs.Replay.{after_moments}
use Rattle.trace_replay.specs.Rules.{RuleName, Keeps, Number, Events, Service, Conversation, Drives, Adapters, Packs, Work}
use Rattle.trace_rows.specs.Accepted.{start_of, moments_of}
use Rattle.trace_rows.specs.Strange.{busy_start, stranded_start, skewed_start}
use Rattle.std.proofs.Common.{refl}
use Rattle.std.specs.Prelude.{◌≢◌, take}
use Rattle.trace_rows.specs.Rows1.{attentions_together, first_read}

pub wrong_search_alone : (other : RuleName) → other ≢ Conversation → Keeps other (after_moments (start_of first_read) (take 1 (moments_of first_read))) (Told 2 0 1 (Search 0 18))
wrong_search_alone Conversation apart = absurd (apart refl)
wrong_search_alone Adapters apart = tt
wrong_search_alone Packs apart = tt
wrong_search_alone Work apart = tt
wrong_search_alone it apart = refl

pub groundless_mark_alone : (other : RuleName) → other ≢ Packs → Keeps other (after_moments (start_of first_read) (take 6 (moments_of first_read))) (Told 3 0 1 (Sector 0 Marked))
groundless_mark_alone Adapters apart = (refl, refl)
groundless_mark_alone Packs apart = absurd (apart refl)
groundless_mark_alone it apart = refl

pub wrong_number_alone : (other : RuleName) → other ≢ Number → Keeps other (after_moments (start_of first_read) (take 8 (moments_of first_read))) (Told 4 0 1 (End (ReadOk (replicate 512 0))))
wrong_number_alone Number apart = absurd (apart refl)
wrong_number_alone Events apart = refl
wrong_number_alone Service apart = refl
wrong_number_alone Conversation apart = refl
wrong_number_alone it apart = tt

pub wrong_id_alone : (other : RuleName) → other ≢ Service → Keeps other (after_moments (start_of first_read) (take 8 (moments_of first_read))) (Told 3 0 2 (End (ReadOk (replicate 512 0))))
wrong_id_alone Number apart = refl
wrong_id_alone Events apart = refl
wrong_id_alone Service apart = absurd (apart refl)
wrong_id_alone Conversation apart = refl
wrong_id_alone it apart = tt

pub attentions_descending_alone : (other : RuleName) → other ≢ Events → Keeps other (after_moments (start_of attentions_together) (take 10 (moments_of attentions_together))) (Told 8 1 2 Attn)
attentions_descending_alone Events apart = absurd (apart refl)
attentions_descending_alone Packs apart = tt
attentions_descending_alone Work apart = tt
attentions_descending_alone it apart = refl

pub skewed_adapter_alone : (other : RuleName) → other ≢ Adapters → Keeps other (after_moments skewed_start (take 0 (moments_of first_read))) (Told 3 0 1 (Sector 0 Clean))
skewed_adapter_alone Adapters apart = absurd (apart refl)
skewed_adapter_alone it apart = refl

pub busy_drive_alone : (other : RuleName) → other ≢ Drives → Keeps other (after_moments busy_start (take 1 (moments_of first_read))) (Told 2 0 1 (Search 0 19))
busy_drive_alone Drives apart = absurd (apart refl)
busy_drive_alone Adapters apart = tt
busy_drive_alone Packs apart = tt
busy_drive_alone Work apart = tt
busy_drive_alone it apart = refl

pub stranded_unit_alone : (other : RuleName) → other ≢ Work → Keeps other (after_moments stranded_start (take 4 (moments_of first_read))) (Told 3 0 1 Attn)
stranded_unit_alone Packs apart = tt
stranded_unit_alone Work apart = absurd (apart refl)
stranded_unit_alone it apart = refl
