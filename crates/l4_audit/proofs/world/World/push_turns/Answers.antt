use Rattle.std.proofs.Common.{◌≡◌, ap, sym, ◌∙◌, ◌++◌, map, arith}
use Rattle.std.specs.Option.{option_to_list}
use Rattle.std.specs.Prelude.{filter_map}
use Rattle.std.proofs.lemmas.List.{append-nil}
use Rattle.l4_types.specs.declared.owed.Owed.{Owed}
use Rattle.l4_types.specs.Inner.OwedView.{owed_of}
use Rattle.l4_types.specs.StepView.{step_of}
use Rattle.l4_audit.specs.Inner.Audited.{Audited}
use Rattle.l4_audit.specs.Possible.{turn, where_possible}
use Rattle.l4_audit.proofs.Listing.{turns_more, turns_are}
use Rattle.l4_audit.proofs.Replaying.{take_whole}
use Rattle.l4_audit.proofs.world.World.push_turns.Goals as goal

pub loop-owed-init : goal.loop-owed-init
loop-owed-init c = sym (append-nil (map step_of c.args.steps.now.items))

pub loop-owed-preserved : goal.loop-owed-preserved
loop-owed-preserved c =
    let a = c.args.self.now in
    let l = c.loop-owed in
    let f = λ (o : Owed). where_possible a.machine a.world (turn c.args.id (owed_of o)) in
    turns_more f _ (map step_of c.args.steps.now.items) (map step_of l.steps.items) _ l.owed-index c.owed-item.result (omega (arith, c.loop-owed-test.true)) c.owed-item.is l.invariant
    (c.in_ok-push.ensures ∙ ap (λ o. map step_of l.steps.items ++ option_to_list (where_possible a.machine a.world o)) c.turn.ensures)

pub returns : goal.returns
returns c =
    let a = c.args.self.now in
    let l = c.loop-owed in
    let items = c.deref-owed-items.result.now in
    let f = where_possible a.machine a.world in
    let start = map step_of c.args.steps.now.items in
    let owed : map owed_of c.self.inside.owed.items ≡ a.world.owed = ap (λ (x : Audited). x.world.owed) c.self.view_is in
    let whole = take_whole items l.owed-index (omega arith) ∙ c.deref-owed-items.ensures.value in
    l.invariant ∙ ap (λ os. start ++ filter_map (λ (o : Owed). f (turn c.args.id (owed_of o))) os) whole
    ∙ ap (λ ss. start ++ ss) (turns_are f (turn c.args.id) owed_of c.self.inside.owed.items ∙ ap (λ os. filter_map f (map (turn c.args.id) os)) owed)
