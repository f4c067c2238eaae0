-- What bytes spell has fewer than 2 ^ 32 lines, and is a script: so it has exactly one legal run.
use Rattle.std.proofs.Common.{◌≡◌, ℕ, suc, ◌<◌, ◌≤◌, ◌^◌, ◌==◌, Bool, true, false, List, [], ◌∷◌, length, arith, ◌∙◌}
use Rattle.std.specs.Prelude.{if◌then◌else◌}
use Rattle.std.proofs.lemmas.List.{length-map}
use Rattle.script_reader.specs.Lines.{onto_first, pieces_of, without_cr}
use Rattle.script_reader.specs.Meaning.{meaning}
use Rattle.script_reader.proofs.Scripts.{means_script}
use Rattle.script_runs.specs.OneRun.{BytesHaveOneRun}
use Rattle.script_runs.proofs.Whole.{one_run_exists}

onto_few : (b n : ℕ) (ls : List (List ℕ)) → length ls ≤ n → length (onto_first b ls) ≤ suc n
onto_few b n [] le = omega arith
onto_few b n (l ∷ ls) le = omega (arith, le)

few_pieces : (text : List ℕ) → length (pieces_of text) ≤ length text
few_pieces [] = omega arith
few_pieces (b ∷ text) = by (b == 10) (few_pieces text)
  where
    by : (t : Bool) → length (pieces_of text) ≤ length text → length (if t then [] ∷ pieces_of text else onto_first b (pieces_of text)) ≤ suc (length text)
    by true le = omega (arith, le)
    by false le = onto_few b (length text) (pieces_of text) le

short_of : (count n m : ℕ) → count ≡ n → n ≤ m → m ≤ 16777216 → count < 2 ^ 32
short_of count n m is le few = omega (arith, is, le, few)

pub bytes_have_one_run : BytesHaveOneRun
bytes_have_one_run bytes lines count old spells =
    one_run_exists (meaning lines count) old (means_script bytes lines count spells)
    (short_of count (length (pieces_of bytes)) (length bytes) (spells.counted ∙ length-map (pieces_of bytes) without_cr) (few_pieces bytes) spells.short)
