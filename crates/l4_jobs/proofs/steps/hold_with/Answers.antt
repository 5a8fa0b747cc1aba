use Rattle.std.proofs.Common.{◌≡◌, ℕ, List, [], true, false, subst, ◌∙◌, refl, rules}
use Rattle.std.proofs.lemmas.Result.{IfErr-weaker, IfOk-weaker}
use Rattle.std.specs.Prelude.{IfErr}
use Rattle.l4_steps.specs.Possible.{choices_text}
use Rattle.l4_steps.specs.Sessions.{session_text, told_of}
use Rattle.l4_jobs.specs.declared.fault.Fault.TheVariants as fault
use Rattle.l4_jobs.proofs.Holding.{broke_behind, front_cut, held_behind, nothing_told}
use Rattle.l4_jobs.proofs.steps.hold_with.Goals as goal

pub returns-in_err-opening_text-clause-err : goal.returns-in_err-opening_text-clause-err
returns-in_err-opening_text-clause-err g c =
    let none : IfErr c.from_residual.result (λ f. f ≡ fault.NoMemory) = search rules in
    IfErr-weaker c.from_residual.result (λ f. f ≡ fault.NoMemory) _
    (λ f is. nothing_told (session_text c.args.machine.now c.args.listing.now c.args.form) (g.R.Read.remaining c.args.input.now) (g.W.Sink.takes c.args.out.now c.args.out.now) f
    (g.met.W.Sink.nothing c.args.out.now) is) none

pub returns-in-Ok-clause-ok : goal.returns-in-Ok-clause-ok
returns-in-Ok-clause-ok g c =
    let m = c.args.machine.now in
    let wrote = subst (λ (text : List ℕ). g.W.Sink.takes c.args.out.now c.put.new.self text true) (c.as_slice.ensures.value ∙ c.in_ok-opening_text.ensures) c.in-Ok.ensures in
    IfOk-weaker c.answer_lines.result _ _
    (λ x h. held_behind (choices_text m []) (λ lines. told_of m c.args.listing.now c.args.form lines []) (g.R.Read.remaining c.args.input.now) (g.W.Sink.takes c.put.new.self c.answer_lines.new.out)
    (g.W.Sink.takes c.args.out.now c.answer_lines.new.out)
    (λ text all h. g.met.W.Sink.joined c.args.out.now c.put.new.self c.answer_lines.new.out (choices_text m []) text all wrote h) h)
    c.answer_lines.ensures.ok

pub returns-in-Ok-clause-err : goal.returns-in-Ok-clause-err
returns-in-Ok-clause-err g c =
    let m = c.args.machine.now in
    let wrote = subst (λ (text : List ℕ). g.W.Sink.takes c.args.out.now c.put.new.self text true) (c.as_slice.ensures.value ∙ c.in_ok-opening_text.ensures) c.in-Ok.ensures in
    IfErr-weaker c.answer_lines.result _ _
    (λ f h. broke_behind (choices_text m []) (λ lines. told_of m c.args.listing.now c.args.form lines []) (g.R.Read.remaining c.args.input.now) (g.W.Sink.takes c.put.new.self c.answer_lines.new.out)
    (g.W.Sink.takes c.args.out.now c.answer_lines.new.out) f
    (λ text all h. g.met.W.Sink.joined c.args.out.now c.put.new.self c.answer_lines.new.out (choices_text m []) text all wrote h) h)
    c.answer_lines.ensures.err

pub returns-clause-err : goal.returns-clause-err
returns-clause-err g c =
    let m = c.args.machine.now in
    let cut = subst (λ (text : List ℕ). g.W.Sink.takes c.args.out.now c.put.new.self text false) (c.as_slice.ensures.value ∙ c.in_ok-opening_text.ensures) c.in-Err.ensures in
    front_cut (choices_text m []) (λ lines. told_of m c.args.listing.now c.args.form lines []) (g.R.Read.remaining c.args.input.now) (g.W.Sink.takes c.args.out.now c.put.new.self) _ refl cut
