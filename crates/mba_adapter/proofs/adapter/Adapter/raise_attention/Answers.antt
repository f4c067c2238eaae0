use Rattle.mba_adapter.proofs.AttentionLaws.{bit_at-raised}
use Rattle.mba_adapter.proofs.adapter.Adapter.raise_attention.Goals as goal

pub returns-clause-bits : goal.returns-clause-bits
returns-clause-bits c = λ k small. rw (← c.self.view_is) (bit_at-raised c.self.inside.attentions c.args.drive k c.requires)
