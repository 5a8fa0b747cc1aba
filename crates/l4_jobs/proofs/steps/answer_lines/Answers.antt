use Rattle.std.proofs.Common.{◌≡◌, ◌⊎◌, List, map, true, false, ap, sym, subst, ◌∙◌, inl, refl}
use Rattle.std.proofs.lemmas.Result.{err_from_is_err_and}
use Rattle.l4_jobs.specs.Inner.Holding.{IsBehind}
use Rattle.l4_core_model.specs.Schedules.{Entry}
use Rattle.l4_replay.specs.Entries.{entry_from}
use Rattle.l4_steps.specs.Replies.{Reply, reply_to}
use Rattle.l4_jobs.specs.declared.fault.Fault.TheVariants.{NoMemory as OutOfMemory, Write as NotTaken}
use Rattle.l4_jobs.proofs.Holding.{at_some, broke, broke_reply, ended, opened, quits, unread, went_on}
use Rattle.l4_jobs.proofs.steps.answer_lines.Goals as goal

pub loop-init : goal.loop-init
loop-init g c =
    opened c.args.machine.now c.args.listing.now c.args.form (g.R.Read.remaining c.args.input.now) (g.W.Sink.takes c.args.out.now c.args.out.now) (map entry_from c.new-entries.result.items)
    (c.law_session.ensures.opening c.args.machine.now) (ap (map entry_from) c.new-entries.ensures.items) (g.met.W.Sink.nothing c.args.out.now)

pub returns-in_err-line-clause-err : goal.returns-in_err-line-clause-err
returns-in_err-line-clause-err g c =
    let known = g.R.Read.remaining c.args.input.now in
    let left = g.R.Read.remaining c.loop.input in
    let f = c.in_err-line.field-0.0 in
    let told = err_from_is_err_and c.from_residual.result c.from_residual.ensures.1 in
    rw (told.1, told.2) (broke c.args.machine.now c.args.listing.now c.args.form known left (g.W.Sink.takes c.args.out.now c.loop.out)
    (map entry_from c.loop.entries.items) f c.loop.invariant (unread known left f c.in_err-line.ensures.err))

pub returns-in_default-clause-ok : goal.returns-in_default-clause-ok
returns-in_default-clause-ok g c =
    ended c.args.machine.now c.args.listing.now c.args.form (g.R.Read.remaining c.args.input.now) (g.R.Read.remaining c.loop.input) (g.W.Sink.takes c.args.out.now c.loop.out)
    (map entry_from c.loop.entries.items) c.loop.invariant (c.in_ok-line.ensures.end c.in_default.is)

pub returns-in_err-reply-clause-err : goal.returns-in_err-reply-clause-err
returns-in_err-reply-clause-err g c =
    let m = c.args.machine.now in
    let l = c.args.listing.now in
    let form = c.args.form in
    let es = map entry_from c.loop.entries.items in
    let line = c.in-Some.line.items in
    let alike = ap (λ xs. reply_to m l form (map entry_from xs) c.as_slice-in-loop.result.now) c.as_slice.ensures.value
    ∙ ap (reply_to m l form es) c.as_slice-in-loop.ensures.value in
    let gives = at_some c.in_ok-line.field-0 c.in-Some.line _ c.in-Some.is c.in_ok-line.ensures.line in
    let told = err_from_is_err_and c.from_residual-in_err-reply.result c.from_residual-in_err-reply.ensures.1 in
    rw (told.1, told.2) (broke_reply m l form (g.R.Read.remaining c.args.input.now) (g.R.Read.remaining c.loop.input) (g.R.Read.remaining c.next_line.new.input)
    (c.answer.new.out ≡ c.loop.out) (g.W.Sink.takes c.args.out.now c.loop.out) (g.W.Sink.takes c.loop.out c.answer.new.out)
    (g.W.Sink.takes c.args.out.now c.answer.new.out) es line c.in_err-reply.field-0.0 c.loop.invariant gives
    (λ said h is. subst (λ o. g.W.Sink.takes c.args.out.now o said true) (sym is) h)
    (λ said h wrote. g.met.W.Sink.joined c.args.out.now c.loop.out c.answer.new.out said (reply_to m l form es line).text false h wrote)
    (subst
    (λ (r : Reply). ((c.in_err-reply.field-0.0 ≡ OutOfMemory) × (c.answer.new.out ≡ c.loop.out))
    ⊎ ((c.in_err-reply.field-0.0 ≡ NotTaken) × g.W.Sink.takes c.loop.out c.answer.new.out r.text false))
    alike c.in_err-reply.ensures.err))

pub returns-then-reply-clause-ok : goal.returns-then-reply-clause-ok
returns-then-reply-clause-ok g c =
    let m = c.args.machine.now in
    let l = c.args.listing.now in
    let form = c.args.form in
    let es = map entry_from c.loop.entries.items in
    let line = c.in-Some.line.items in
    let alike = ap (λ xs. reply_to m l form (map entry_from xs) c.as_slice-in-loop.result.now) c.as_slice.ensures.value
    ∙ ap (reply_to m l form es) c.as_slice-in-loop.ensures.value in
    let gives = at_some c.in_ok-line.field-0 c.in-Some.line _ c.in-Some.is c.in_ok-line.ensures.line in
    let wrote = subst (λ (r : Reply). g.W.Sink.takes c.loop.out c.answer.new.out r.text true) alike c.in_ok-reply.ensures.told in
    let same = c.in_ok-reply.ensures.ok ∙ alike in
    quits m l form (g.R.Read.remaining c.args.input.now) (g.R.Read.remaining c.loop.input) (g.R.Read.remaining c.next_line.new.input)
    (g.W.Sink.takes c.args.out.now c.loop.out) (g.W.Sink.takes c.args.out.now c.answer.new.out) es line c.loop.invariant gives
    (sym (ap (λ (r : Reply). r.ends) same) ∙ c.if-reply.true)
    (λ said h. g.met.W.Sink.joined c.args.out.now c.loop.out c.answer.new.out said (reply_to m l form es line).text true h wrote)

pub loop-preserved : goal.loop-preserved
loop-preserved g c =
    let m = c.args.machine.now in
    let l = c.args.listing.now in
    let form = c.args.form in
    let es = map entry_from c.loop.entries.items in
    let line = c.in-Some.line.items in
    let alike = ap (λ xs. reply_to m l form (map entry_from xs) c.as_slice-in-loop.result.now) c.as_slice.ensures.value
    ∙ ap (reply_to m l form es) c.as_slice-in-loop.ensures.value in
    let gives = at_some c.in_ok-line.field-0 c.in-Some.line _ c.in-Some.is c.in_ok-line.ensures.line in
    let wrote = subst (λ (r : Reply). g.W.Sink.takes c.loop.out c.answer.new.out r.text true) alike c.in_ok-reply.ensures.told in
    let same = c.in_ok-reply.ensures.ok ∙ alike in
    let known = g.R.Read.remaining c.args.input.now in
    let new = g.R.Read.remaining c.next_line.new.input in
    let out = g.W.Sink.takes c.args.out.now c.answer.new.out in
    subst (λ (now : List Entry). IsBehind m l form known new out now) (sym (ap (λ (r : Reply). r.entries) same))
    (went_on m l form known (g.R.Read.remaining c.loop.input) new (g.W.Sink.takes c.args.out.now c.loop.out) out es line c.loop.invariant gives
    (c.law_session.ensures.kept m l form es line c.loop.invariant.session) (sym (ap (λ (r : Reply). r.ends) same) ∙ c.if-reply.false)
    (λ said h. g.met.W.Sink.joined c.args.out.now c.loop.out c.answer.new.out said (reply_to m l form es line).text true h wrote))

pub returns-clause-err : goal.returns-clause-err
returns-clause-err g c =
    broke c.args.machine.now c.args.listing.now c.args.form (g.R.Read.remaining c.args.input.now) (g.R.Read.remaining c.loop.input) (g.W.Sink.takes c.args.out.now c.loop.out)
    (map entry_from c.loop.entries.items) _ c.loop.invariant (inl refl)
