use Rattle.std.proofs.Common.{ℕ, List, ◌++◌, drop, length, replicate, ◌*◌, ap, ◌∙◌, arith}
use Rattle.std.proofs.lemmas.List.{length-take}
use Rattle.request_slots.proofs.FillLaws.{put_front-filled}
use Rattle.request_slots.proofs.fill.block_at.Goals as goal

pub put_front-requires : goal.put_front-requires
put_front-requires c = omega (arith, ap length c.piece.ensures, length-take 512 (drop (512 * c.args.k) c.args.bytes.now))

pub returns : goal.returns
returns c = c.put_front.ensures ∙ ap (λ (bytes : List ℕ). bytes ++ drop (length bytes) (replicate 512 0)) c.piece.ensures ∙ put_front-filled 512 _
