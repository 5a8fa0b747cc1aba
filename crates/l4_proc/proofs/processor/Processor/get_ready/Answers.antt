use Rattle.std.proofs.Common.{◌∙◌, refl, subst, sym}
use Rattle.l4_proc.proofs.Logging.{begun_closed}
use Rattle.l4_proc.proofs.Readying.{as_before_then, next_taken, no_letter, readied_empty, readied_full, readied_idle, whole_kept, whole_next}
use Rattle.l4_proc.proofs.Turning.{same_port}
use Rattle.l4_proc.specs.Working.{IsReady}
use Rattle.l4_proc.proofs.processor.Processor.get_ready.Goals as goal
use Rattle.l4_proc.proofs.processor.Processor.get_ready.Goals.{else-is_none-via-then-is_none+else-has_mail, else-is_none-via-else-is_none}

pub invariant_of-self-in-Break-branch-2 : goal.invariant_of-self-in-Break-branch-2
invariant_of-self-in-Break-branch-2 c =
    let begun = c.in_ok-begin.ensures.ok in
    let same = c.make_ready.ensures.same in
    record { whole = whole_kept c.args.self.now.port _ c.args.self.now.worker _ same.place same.taken begun.cpu (begun_closed _ _ begun) c.args.self.now.whole }

pub invariant_of-self-then-has_mail : goal.invariant_of-self-then-has_mail
invariant_of-self-then-has_mail c =
    let before = as_before_then _ _ _ c.make_ready.ensures.same c.has_mail.ensures.same in
    let next = next_taken _ _ _ c.take_mail.ensures.some c.take_mail.ensures.none c.take_mail.ensures.kept in
    record { whole = whole_next c.args.self.now.port _ _ c.args.self.now.worker _ _ before next c.in_ok-begin.ensures.ok c.args.self.now.whole }

pub invariant_of-self-else-is_none : goal.invariant_of-self-else-is_none
invariant_of-self-else-is_none c =
    let begun = c.in_ok-begin.ensures.ok in
    let before = c.make_ready.ensures.same in
    record { whole = whole_kept c.args.self.now.port _ c.args.self.now.worker _ before.place before.taken begun.cpu (begun_closed _ _ begun) c.args.self.now.whole }

pub returns-then-has_mail-clause-ok : goal.returns-then-has_mail-clause-ok
returns-then-has_mail-clause-ok c =
    let next = next_taken _ _ _ c.take_mail.ensures.some c.take_mail.ensures.none c.take_mail.ensures.kept in
    let is = readied_empty _ _ _ _ _ _ c.if-is_none.ensures c.make_ready.ensures.same c.in_ok-make_ready.ensures.room c.has_mail.ensures.same next in
    record {
      core = refl;
      place = is.place;
      posted = is.posted;
      handled = is.handled;
      log = c.in_ok-begin.ensures.ok;
      room = is.room;
      kept = is.kept;
      had = is.had;
      hand = no_letter _ _ c.if-is_none.ensures;
    }

pub returns-else-is_none-clause-ok : goal.returns-else-is_none-clause-ok
returns-else-is_none-clause-ok c = elim c.else-is_none.branch [
  | else-is_none-via-then-is_none+else-has_mail w ↦
      let is = readied_idle _ _ _ _ w.if-is_none.ensures c.make_ready.ensures.same c.in_ok-make_ready.ensures.room w.has_mail.ensures.same
      (λ from. w.has_mail.ensures.same.kept from ∙ w.has_mail.ensures.none w.if-has_mail.false from) in
      subst (IsReady c.args.self.now) (sym w.self-is)
      (record { core = refl; place = is.place; posted = is.posted; handled = is.handled; log = c.in_ok-begin.ensures.ok; room = is.room; kept = is.kept; had = is.had; hand = λ x e. e })
  | else-is_none-via-else-is_none w ↦
      let is = readied_full _ _ _ _ w.if-is_none.ensures c.make_ready.ensures.same c.in_ok-make_ready.ensures.room (same_port _) in
      subst (IsReady c.args.self.now) (sym w.self-is)
      (record { core = refl; place = is.place; posted = is.posted; handled = is.handled; log = c.in_ok-begin.ensures.ok; room = is.room; kept = is.kept; had = is.had; hand = λ x e. e })
]
