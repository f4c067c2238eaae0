use Rattle.std.proofs.Common.{◌+◌, sym, ap, ◌∙◌, arith}
use Rattle.std.proofs.lemmas.Bool.{false≢true}
use Rattle.std.proofs.lemmas.Option.{same_Some}
use Rattle.std.specs.Prelude.{is_some}
use Rattle.pack_geometry.specs.Content.{bytes_at}
use Rattle.pack_geometry.proofs.PackTableLaws.{table_once}
use Rattle.contract_rows.proofs.Bytes.{map_here, map_outside}
use Rattle.contract_rows.proofs.contracts.bytes_law.Goals as goal

pub returns : goal.returns
returns c = record {
  write_not_at_its_home = λ armed u kind table pack blocks h t done k sector last b writes lt home differs.
      differs (same_Some _ _ (sym (ap (bytes_at pack) home) ∙ b.homes (h.first + k) ∙ map_here blocks h done k writes lt));
  neighbour_written = λ armed u kind table pack blocks h t done block last b out differs.
      differs (b.homes block ∙ map_outside blocks h done block out);
  other_block_read = λ armed u kind table pack blocks h t done k last b reads sures lt differs. differs (b.read reads sures k lt);
  burst_elsewhere = λ armed u kind table pack blocks h t done at pattern b sures differs. differs (b.stopped.1 sures);
  unusable_block_done = λ armed u kind table pack blocks h t done k last b lt none. false≢true (sym (ap is_some none) ∙ b.usable k lt);
  unmarked_block_forwarded = λ armed u kind table pack blocks h t done i last b at unmarked. false≢true (sym unmarked ∙ (b.forwarded i at).marked);
  other_entry_forwarded = λ armed u kind table pack blocks h t done i last b at differs. differs (b.forwarded i at).listed;
  table_of_another_pack = λ armed u pack blocks v a h table b of_pack differs. differs (table_once v.drive.kind pack v.table table b.table of_pack);
  answered_with_other_bytes = λ armed u sector blocks h count last k is sures lt differs. differs (is.said sures k lt);
}
