use Rattle.std.proofs.Common.{◌≡◌, ◌<◌, false, length, map, ap, ◌∙◌, arith}
use Rattle.std.proofs.lemmas.List.{length-map}
use Rattle.l4_core_model.specs.Plain.{Plain, Waiting, is_queued, queued}
use Rattle.tcb_arena.specs.Inner.Shown.{waiting_at}
use Rattle.tcb_arena.proofs.Showing.{free-shown, shown-queued}
use Rattle.tcb_arena.proofs.Arena.queue_send.Goals as goal

pub push_last-requires-clause-free : goal.push_last-requires-clause-free
push_last-requires-clause-free c =
    let f = c.self.inside in
    free-shown f.waiting f.senders.items f.ready f.wheel c.args.self.now c.waiting.inside.block c.self.view_is
    ∙ ap (λ (w : Waiting). is_queued c.args.self.now w.block) c.waiting.view_is ∙ c.requires.free

pub returns : goal.returns
returns c =
    let f = c.self.inside in
    let w = c.waiting.inside in
    let sent : Waiting = record { block = w.block; shown = w.shown; local = w.local } in
    let is : sent ≡ c.args.waiting = c.waiting.view_is in
    let lx : sent.block < length f.senders.items = omega (arith, ap (λ (v : Waiting). v.block) is, c.requires.block, c.self.invariant.heads, ap (λ (s : Plain). length s.waiting) c.self.view_is, length-map f.waiting.lists (map (waiting_at f.senders.items))) in
    let free : is_queued c.args.self.now sent.block ≡ false = ap (λ (v : Waiting). is_queued c.args.self.now v.block) is ∙ c.requires.free in
    shown-queued f.waiting c.push_last.new.self f.senders.items f.ready f.wheel c.args.self.now c.args.receiver sent c.self.view_is lx free c.push_last.ensures
    ∙ ap (λ (v : Waiting). queued c.args.receiver v c.args.self.now) is
