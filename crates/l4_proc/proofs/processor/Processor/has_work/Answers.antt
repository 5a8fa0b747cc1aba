use Rattle.std.proofs.Common.{◌∙◌, sym}
use Rattle.l4_proc.proofs.Idling.{idle_core, idle_then}
use Rattle.l4_proc.proofs.processor.Processor.has_work.Goals as goal
use Rattle.l4_proc.proofs.processor.Processor.has_work.Goals.{then-in_hand, else-in_hand}

pub returns-else-keeps_mail : goal.returns-else-keeps_mail
returns-else-keeps_mail c = elim c.if-in_hand.branch [
  | then-in_hand w ↦ absurd (let value = w.value-is in let none = c.if-keeps_mail.false in cc)
  | else-in_hand w ↦ (
    λ no. idle_then c.args.self.now (sym c.in_hand.ensures ∙ w.if-in_hand.false) (w.keeps_mail.ensures.0 (sym w.value-is ∙ c.if-keeps_mail.false)) (sym c.busy.ensures ∙ no),
    λ idle. c.busy.ensures ∙ idle_core c.args.self.now idle,
  )
]
