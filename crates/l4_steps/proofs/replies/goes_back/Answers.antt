use Rattle.std.proofs.Common.{◌-◌, [], length, map, take, ap, sym, ◌∙◌, arith}
use Rattle.std.proofs.lemmas.List.{length-map, take-map}
use Rattle.std.proofs.lemmas.Result.{IfOk-weaker}
use Rattle.l4_replay.specs.Entries.{entry_from, first_stranger}
use Rattle.l4_steps.specs.Replies.{moves}
use Rattle.l4_steps.proofs.Done.{is_back, taken}
use Rattle.l4_steps.proofs.replies.goes_back.Goals as goal

pub moves-requires-clause-lawful : goal.moves-requires-clause-lawful
moves-requires-clause-lawful c =
    let n = length c.args.entries.now - c.args.count in
    let s = taken c.args.machine.now n (map entry_from c.args.entries.now) c.requires in
    ap (λ es. first_stranger c.args.machine.now 1 (map entry_from es)) c.in_ok-left.ensures
    ∙ ap (first_stranger c.args.machine.now 1) (sym (take-map entry_from n c.args.entries.now))
    ∙ s.lawful

pub returns : goal.returns
returns c =
    let m = c.args.machine.now in
    let es = map entry_from c.args.entries.now in
    let n = length c.args.entries.now - c.args.count in
    let count = length-map c.args.entries.now entry_from in
    IfOk-weaker c.moves.result _ _
    (λ r h. h ∙ ap (λ front. moves m front (map entry_from c.in_ok-left.left.items)) c.new.ensures.items
    ∙ ap (λ xs. moves m [] (map entry_from xs)) c.in_ok-left.ensures
    ∙ ap (moves m []) (sym (take-map entry_from n c.args.entries.now))
    ∙ ap (λ k. moves m [] (take (k - c.args.count) es)) (sym count)
    ∙ sym (is_back m es c.args.count (omega (arith, count, c.if-count-entries.false))))
    c.moves.ensures
