use Rattle.std.proofs.Common.{refl, ◌∙◌}
use Rattle.l4_proc.proofs.Readying.{whole_kept}
use Rattle.l4_proc.proofs.processor.Processor.send_all.Goals as goal

pub invariant_of-self : goal.invariant_of-self
invariant_of-self c =
    let p = c.post_all.new.self in
    let f = c.flush.ensures.same in
    record { whole = whole_kept p.port _ p.worker p.worker.log f.place f.taken refl (λ closed. closed) p.whole }

pub returns-then-has_letters : goal.returns-then-has_letters
returns-then-has_letters c =
    let p = c.post_all.ensures in
    let f = c.flush.ensures.same in
    record {
      port = record {
        place = f.place ∙ p.port.place;
        posted = λ to. (f.posted to) ∙ p.port.posted to;
        taken = λ from. f.taken from ∙ p.port.taken from;
        kept = λ from. f.kept from ∙ p.port.kept from;
      };
      core = p.core;
      hand = p.hand;
      log = p.log;
    }
