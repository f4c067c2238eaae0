use Rattle.mba_adapter.proofs.AttentionLaws.{bit_at-lowered}
use Rattle.mba_adapter.proofs.adapter.Adapter.clear_attention.Goals as goal

pub returns-clause-bits : goal.returns-clause-bits
returns-clause-bits c = λ k small. rw (← c.self.view_is) (bit_at-lowered c.self.inside.attentions c.args.drive k c.requires small)
