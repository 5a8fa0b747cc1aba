use Rattle.std.proofs.Common.{ap, arith, sym, ◌+◌, ◌++◌, ◌∙◌, ◌∷◌, [], append_assoc, append-nil}
use Rattle.std.specs.Option.{option_map}
use Rattle.l4_types.specs.StepView.{seen}
use Rattle.l4_outlooks.proofs.Choosing.{all_left, entries_of, left, left_none, left_some, none_left}
use Rattle.l4_outlooks.proofs.outlook.Outlook.possible.Goals as goal

pub loop-entry-init : goal.loop-entry-init
loop-entry-init c =
    let o = c.args.self.now in
    ap entries_of (sym (all_left o.machine o.world))
    ∙ ap (λ xs. xs ++ entries_of (left o.machine o.world 0)) (sym c.new-entries.ensures.items)

pub loop-entry-preserved-in_default : goal.loop-entry-preserved-in_default
loop-entry-preserved-in_default c =
    let o = c.args.self.now in
    let l = c.loop-entry in
    l.invariant
    ∙ ap (λ cs. l.entries.items ++ entries_of cs)
    (left_none o.machine o.world l.entry
    (omega (arith, c.loop-entry-test.true, c.entry_count-entry-end.ensures))
    (sym c.open_step.ensures ∙ ap (option_map seen) c.in_default.is))

pub loop-entry-preserved : goal.loop-entry-preserved
loop-entry-preserved c =
    let o = c.args.self.now in
    let l = c.loop-entry in
    let s = seen c.in-Some._step in
    l.invariant
    ∙ ap (λ cs. l.entries.items ++ entries_of cs)
    (left_some o.machine o.world l.entry s
    (omega (arith, c.loop-entry-test.true, c.entry_count-entry-end.ensures))
    (sym c.in-Some.ensures))
    ∙ sym (append_assoc l.entries.items (l.entry ∷ [])
    (entries_of (left o.machine o.world (l.entry + 1))))
    ∙ ap (λ xs. xs ++ entries_of (left o.machine o.world (l.entry + 1)))
    (sym c.in_ok-push.ensures.items)

pub returns : goal.returns
returns c =
    let o = c.args.self.now in
    let l = c.loop-entry in
    sym (l.invariant
    ∙ ap (λ cs. l.entries.items ++ entries_of cs)
    (none_left o.machine o.world l.entry
    (omega (arith, c.loop-entry-test.false, c.entry_count-entry-end.ensures)))
    ∙ append-nil l.entries.items)
